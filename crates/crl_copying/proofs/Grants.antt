-- A grant, at the node that waits for it.
use Rattle.std.proofs.Common.{◌≡◌, refl, sym, ap, ℕ, Bool, true, false, List, append-nil, ◌&&◌, ◌∙◌}
use Rattle.std.specs.declared.option.Option.{Option}
use Rattle.std.specs.declared.option.Option.TheVariants.{Some, None}
use Rattle.crl_model.specs.declared.name.Name.{Name}
use Rattle.crl_model.specs.declared.message.Granted.{Granted}
use Rattle.crl_model.specs.declared.message.Granted.TheVariants.{Shared, Exclusive, Upgrade}
use Rattle.crl_model.specs.declared.message.Kind.TheVariants as kind
use Rattle.crl_model.specs.Names.{at_name}
use Rattle.crl_table.proofs.Laws.{at_name_here}
use Rattle.crl_protocol.specs.Remote.{Remote, remote_takes_grant, grant_fits, asks_to_write, asks_to_read}
use Rattle.crl_protocol.specs.Node.{Node, is_mine, section_opens}
use Rattle.crl_protocol.specs.Sectioning.{copy_bytes}
use Rattle.crl_protocol.specs.Handlers.{node_handles}
use Rattle.crl_remote.specs.RemotesState.{row_or}
use Rattle.crl_safety.specs.Safety.{IsSafe}
use Rattle.crl_desk.specs.declared.kit.SectionKit.{SectionKit}
use Rattle.crl_desk.specs.Desks.{acted, region_size}
use Rattle.crl_desk.specs.Kits.{HasPapers}
use Rattle.crl_copying.specs.Serving.{ready_with, gives_write, AreFor}

-- the row is the one that was put
pub row_after : (name : Name) (r : Remote) (old rows : Name → Option Remote) → rows ≡ at_name old name (Some r) → row_or (rows name) ≡ r
row_after name r old rows rows_are = ap (λ (f : Name → Option Remote). row_or (f name)) rows_are ∙ ap row_or (at_name_here old name (Some r))

-- of another home's region the node has the size on its side
of_own : (n : Node) (name : Name) (r : Remote) (b : Bool) → n.remotes name ≡ Some r → (b ≡ true → n.remotes name ≡ None) → b ≡ false
of_own n name r true there own = let gone = own refl in cc
of_own n name r false there own = refl

pub side_has_size : (n : Node) (name : Name) (r : Remote) → IsSafe n → n.remotes name ≡ Some r → r.size ≡ region_size name n
side_has_size n name r safe there = rw (of_own n name r (is_mine n name) there (safe.own name)) (rw there refl)

grant_size : (version : ℕ) (granted : Granted) (r : Remote) → (remote_takes_grant version granted r).size ≡ r.size
unfolding remote_takes_grant
grant_size version granted r = refl

pub papers_for_copy : (size : ℕ) (name : Name) (version : ℕ) (granted : Granted) (r : Remote) (old rows : Name → Option Remote) (kit : SectionKit)
    → HasPapers size kit → r.size ≡ size → rows ≡ at_name old name (Some (remote_takes_grant version granted r))
    → AreFor (row_or (rows name)).size (record { guard = kit.guard; began = kit.began; end = kit.end })
papers_for_copy size name version granted r old rows kit papers same_size rows_are =
    let size_is : (row_or (rows name)).size ≡ size = ap (λ (q : Remote). q.size) (row_after name (remote_takes_grant version granted r) old rows rows_are) ∙ (grant_size version granted r ∙ same_size) in
    rw size_is (record { guard = papers.guard; began = papers.began; end = papers.end })

-- a grant is one for an ask to write if the node asks to write
asks_one_way : (o : Option Bool) → asks_to_read o ≡ true → asks_to_write o ≡ false
asks_one_way None e = refl
asks_one_way (Some true) e = cc
asks_one_way (Some false) e = refl

first_true : (a b : Bool) → (a && b) ≡ true → a ≡ true
first_true true b e = refl
first_true false b e = cc

writes_as_asked : (granted : Granted) (r : Remote) → grant_fits granted r ≡ true → gives_write granted ≡ asks_to_write r.asking
writes_as_asked (Shared bytes) r e = sym (asks_one_way r.asking (first_true (asks_to_read r.asking) _ e))
writes_as_asked (Exclusive bytes) r e = sym (first_true (asks_to_write r.asking) _ e)
writes_as_asked Upgrade r e = sym (first_true (asks_to_write r.asking) _ e)

-- the section that opens is the one that the protocol's node opens
granted_open : (at : ℕ) (write : Bool) (name : Name) (bytes : List ℕ) (n : Node) (rows : Name → Option Remote) (row : Option Remote)
    → rows ≡ at_name n.remotes name row
    → ready_with at (section_opens write name bytes (record n { remotes = rows })) ≡ ready_with at (section_opens write name bytes (record n { remotes = at_name n.remotes name row }))
granted_open at write name bytes n rows row rows_are = ap (λ (f : Name → Option Remote). ready_with at (section_opens write name bytes (record n { remotes = f }))) rows_are

grant_opens : (at from : ℕ) (name : Name) (version : ℕ) (granted : Granted) (n : Node) (r : Remote)
    → n.remotes name ≡ Some r → grant_fits granted r ≡ true
    → ready_with at (section_opens (asks_to_write r.asking) name (copy_bytes (remote_takes_grant version granted r).copy) (record n { remotes = at_name n.remotes name (Some (remote_takes_grant version granted r)) }))
    ≡ acted at (node_handles from (kind.Grant name version granted) n)
unfolding node_handles section_opens
grant_opens at from name version granted n r there fits = rw there (rw fits (rw (append-nil n.outbox) refl))

pub grant_law : (at from : ℕ) (name : Name) (version : ℕ) (granted : Granted) (n : Node) (r : Remote) (rows : Name → Option Remote) (write : Bool) (last : Node)
    → n.remotes name ≡ Some r → grant_fits granted r ≡ true
    → rows ≡ at_name n.remotes name (Some (remote_takes_grant version granted r))
    → write ≡ gives_write granted
    → last ≡ ready_with at (section_opens write name (copy_bytes (row_or (rows name)).copy) (record n { remotes = rows }))
    → last ≡ acted at (node_handles from (kind.Grant name version granted) n)
grant_law at from name version granted n r rows write last there fits rows_are write_is last_is =
    let after : Remote = remote_takes_grant version granted r in
    last_is
    ∙ (ap (λ w. ready_with at (section_opens w name (copy_bytes (row_or (rows name)).copy) (record n { remotes = rows }))) (write_is ∙ writes_as_asked granted r fits)
    ∙ (ap (λ (q : Remote). ready_with at (section_opens (asks_to_write r.asking) name (copy_bytes q.copy) (record n { remotes = rows }))) (row_after name after n.remotes rows rows_are)
    ∙ (granted_open at (asks_to_write r.asking) name (copy_bytes after.copy) n rows (Some after) rows_are
    ∙ grant_opens at from name version granted n r there fits)))

-- the row before the grant is the node's
pub rows_of_row : (name : Name) (version : ℕ) (granted : Granted) (r : Remote) (old rows : Name → Option Remote) → old name ≡ Some r
    → rows ≡ at_name old name (Some (remote_takes_grant version granted (row_or (old name))))
    → rows ≡ at_name old name (Some (remote_takes_grant version granted r))
rows_of_row name version granted r old rows there rows_are = rows_are ∙ ap (λ o. at_name old name (Some (remote_takes_grant version granted (row_or o)))) there
