-- What is read of the nodes one after another.
use Rattle.std.proofs.Common.{◌≡◌, ℕ, zero, suc, ◌+◌, ◌-◌, ◌<◌, if◌then◌else◌, Bool, false, List, [], ◌∷◌, ◌++◌, length, map, drop, get_or, refl, ap, ap₂, sym, ◌∙◌, arith, Option, Some}
use Rattle.std.proofs.lemmas.List.{append_assoc, get_or_default}
use Rattle.crl_model.specs.declared.journal.Recorded.{Recorded}
use Rattle.crl_model.specs.declared.name.Name.{Name}
use Rattle.crl_protocol.specs.Node.{Node, new_node}
use Rattle.crl_protocol.specs.World.{World, messages_sent_from}
use Rattle.crl_protocol.specs.Ends.{least_node_from, exclusive_bytes, copy_of, first_some, bytes_from, final_bytes, region_line, regions_of, regions_from, FinalRegion}
use Rattle.crl_protocol.specs.Home.{Home}
use Rattle.crl_world.specs.Records.{records_from}
use Rattle.crl_world.specs.Seen.{node_in}

one_less : (i n : ℕ) → i < n → n - i ≡ suc (n - (i + 1))
one_less i n lt = omega arith

pub least_more : (test : ℕ → Node → Bool) (nodes : ℕ → Node) (i n : ℕ) → i < n → test i (nodes i) ≡ false → least_node_from test (i + 1) (n - (i + 1)) nodes ≡ least_node_from test i (n - i) nodes
least_more test nodes i n lt out =
    sym (ap (λ k. least_node_from test i k nodes) (one_less i n lt) ∙ ap (λ b. if b then Some i else least_node_from test (i + 1) (n - (i + 1)) nodes) out)

pub sent_more : (nodes : ℕ → Node) (i n sum here total : ℕ) → i < n → sum + messages_sent_from i (n - i) nodes ≡ total → here ≡ (nodes i).posted → (sum + here) + messages_sent_from (i + 1) (n - (i + 1)) nodes ≡ total
sent_more nodes i n sum here total lt is at =
    let whole : messages_sent_from i (n - i) nodes ≡ (nodes i).posted + messages_sent_from (i + 1) (n - (i + 1)) nodes = ap (λ k. messages_sent_from i k nodes) (one_less i n lt) in
    omega (arith, whole)

-- the records of nodes that stand in a list
records_listed : (nodes : ℕ → Node) (p : ℕ) (list : List Node) → ((j : ℕ) → j < length list → nodes (p + j) ≡ get_or list j (nodes (p + j))) → records_from p (length list) nodes ≡ map (λ (n : Node). n.records) list
records_listed nodes p [] h = refl
records_listed nodes p (n ∷ list) h =
    let same : p + 0 ≡ p = omega arith in
    let first : nodes p ≡ n = ap nodes (sym same) ∙ h zero (omega arith) in
    ap₂ (λ (m : Node) (l : List (List Recorded)). m.records ∷ l) first (records_listed nodes (p + 1) list (λ j l. let more : (p + 1) + j ≡ p + suc j = omega arith in rw more (h (suc j) (omega (arith, l)))))

pub records_in : (capacity : ℕ) (list : List Node) → map (λ (n : Node). n.records) list ≡ records_from 0 (length list) (node_in capacity list)
records_in capacity list = sym (records_listed (node_in capacity list) 0 list (λ j l. let same : 0 + j ≡ j = omega arith in rw same (get_or_default list j (new_node (length list) capacity j) (get_or list j (new_node (length list) capacity j)) l)))

-- the bytes of a region, from one node on
pub bytes_more : (name : Name) (nodes : ℕ → Node) (i n : ℕ) (o : Option (List ℕ)) → i < n → o ≡ exclusive_bytes (copy_of ((nodes i).remotes name)) → (bytes : List ℕ)
    → bytes_from name bytes i (n - i) nodes ≡ first_some o (bytes_from name bytes (i + 1) (n - (i + 1)) nodes)
bytes_more name nodes i n o lt is bytes =
    ap (λ k. bytes_from name bytes i k nodes) (one_less i n lt) ∙ ap (λ x. first_some x (bytes_from name bytes (i + 1) (n - (i + 1)) nodes)) (sym is)

-- the regions of a home, from one serial on
regions_drop : (w : World) (i s k : ℕ) (hs : List (Option Home)) → k < length hs
    → regions_of i s (drop k hs) w ≡ region_line (record { home = i; serial = s }) (final_bytes (record { home = i; serial = s }) w) ++ regions_of i (s + 1) (drop (suc k) hs) w
regions_drop w i s k [] lt = absurd (omega arith)
regions_drop w i s zero (h ∷ hs) lt = refl
regions_drop w i s (suc k) (h ∷ hs) lt = regions_drop w i s k hs (omega arith)

pub regions_more : (w : World) (i serial : ℕ) (hs : List (Option Home)) (xs ys whole : List FinalRegion) → serial < length hs → xs ++ regions_of i (serial + 1) (drop serial hs) w ≡ whole
    → ys ≡ xs ++ region_line (record { home = i; serial = serial + 1 }) (final_bytes (record { home = i; serial = serial + 1 }) w)
    → ys ++ regions_of i ((serial + 1) + 1) (drop (serial + 1) hs) w ≡ whole
regions_more w i serial hs xs ys whole lt is pushed =
    let next : serial + 1 ≡ suc serial = omega arith in
    ap₂ (λ (l : List FinalRegion) (k : ℕ). l ++ regions_of i ((serial + 1) + 1) (drop k hs) w) pushed next
    ∙ append_assoc xs (region_line _ _) (regions_of i ((serial + 1) + 1) (drop (suc serial) hs) w)
    ∙ sym (ap (λ l. xs ++ l) (regions_drop w i (serial + 1) serial hs lt)) ∙ is

pub homes_more : (w : World) (i n : ℕ) (xs ys whole : List FinalRegion) → i < n → xs ++ regions_from i (n - i) w ≡ whole → ys ≡ xs ++ regions_of i 1 (w.nodes i).homes w → ys ++ regions_from (i + 1) (n - (i + 1)) w ≡ whole
homes_more w i n xs ys whole lt is pushed =
    ap (λ l. l ++ regions_from (i + 1) (n - (i + 1)) w) pushed ∙ append_assoc xs (regions_of i 1 (w.nodes i).homes w) (regions_from (i + 1) (n - (i + 1)) w)
    ∙ sym (ap (λ k. xs ++ regions_from i k w) (one_less i n lt)) ∙ is
