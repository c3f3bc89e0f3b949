-- A region's table keeps its size.
use Rattle.std.proofs.Common.{◌≡◌, ℕ, ◌==◌, Bool, not, ◌&&◌, Some, Option, List, [], ◌∷◌, ◌++◌, if◌then◌else◌, refl, sym, ◌∙◌, subst}
use Rattle.std.proofs.lemmas.Bool.{cond_both}
use Rattle.crl_model.specs.declared.name.Name.{Name}
use Rattle.crl_model.specs.declared.call.Call.{Call}
use Rattle.crl_model.specs.declared.entry.What.{What}
use Rattle.crl_model.specs.declared.directory.Asked.{Asked}
use Rattle.crl_model.specs.declared.message.Kind.{Kind}
use Rattle.crl_protocol.specs.Places.{at}
use Rattle.crl_protocol.specs.Home.{Home, HomeStep, new_home, is_servable, open_own, grant_next, serve, home_takes_ask, home_takes_return, is_to_lower, home_takes_release, own_ask, is_empty, is_reading, home_starts, home_ends_read, home_ends_write}
use Rattle.crl_protocol.specs.Remote.{Remote, RemoteStep}
use Rattle.crl_protocol.specs.Node.{Node, Outcome, home_of, with_home, next_name}
use Rattle.crl_deeds.specs.Deeds.{Cause, Copies, Lives, Rounds, Notes, Deed, copies, lives, rounds, notes, EndsCall, a_read, a_write, Serves, ask_comes, copy_returns, copy_lowers, home_opens, home_waits, home_ends, home_serves, home_serves_own, made, used_up, comes_away, flushes_own}
use Rattle.crl_deeds.proofs.Laws.{by_name, home_put, home_end, home_next, home_none}

pub serve_size : (me : ℕ) (h : Home) (queue : List Asked) → (serve me h queue).home.size ≡ h.size
serve_size me h [] = refl
serve_size me h (ask ∷ queue) =
    let a = serve_size me (open_own h ask) queue in
    let b = serve_size me (grant_next h ask) queue in
    cond_both (is_servable h ask) _ _ (λ (s : HomeStep). s.home.size ≡ h.size) (λ w. cond_both (ask.node == me) _ _ (λ (s : HomeStep). s.home.size ≡ h.size) (λ v. a) (λ v. b)) (λ w. refl)

pub starts_size : (me : ℕ) (write : Bool) (h : Home) → (home_starts me write h).home.size ≡ h.size
unfolding home_starts
starts_size me write h =
    cond_both (not write && is_reading h.mine) _ _ (λ (s : HomeStep). s.home.size ≡ h.size) (λ w. refl)
    (λ w. cond_both (is_empty h.queue && is_servable h (own_ask me write)) _ _ (λ (s : HomeStep). s.home.size ≡ h.size) (λ v. refl) (λ v. serve_size me h (h.queue ++ own_ask me write ∷ [])))

pub ends_size : (bytes : List ℕ) (n : Node) (c : Call) (name : Name) (w : What) (ends : Home → HomeStep) (lowers : Remote → RemoteStep) (h : Home) → EndsCall bytes n c name w ends lowers → (ends h).home.size ≡ h.size
unfolding home_ends_read home_ends_write
ends_size bytes n c name w ends lowers h (a_read q closed) = serve_size n.me _ h.queue
ends_size bytes n c name w ends lowers h (a_write q after closed) = serve_size n.me _ h.queue

pub serves_size : (n : Node) (h : Home) (from : ℕ) (k : Kind) (name : Name) (s : HomeStep) → Serves n h from k name s → s.home.size ≡ h.size
unfolding home_takes_ask home_takes_return home_takes_release
serves_size n h from k name s (ask_comes f q write have free) = serve_size n.me h _
serves_size n h from k name s (copy_returns f q version bytes fits) = serve_size n.me _ h.queue
serves_size n h from k name s (copy_lowers f q version bytes fits) = cond_both (is_to_lower version (at f h.listed)) _ _ (λ (x : HomeStep). x.home.size ≡ h.size) (λ w. serve_size n.me _ h.queue) (λ w. refl)

-- it is there afterwards too, with the same size
abbrev pub SameTable : Option Home → Option Home → Type 0
SameTable o p = (h : Home) → o ≡ Some h → (k : Home) × (p ≡ Some k) × (k.size ≡ h.size)

same : (o : Option Home) → SameTable o o
same o h e = (h, e, refl)

table_put : (r : Name) (n : Node) (name : Name) (h g : Home) → home_of n name ≡ Some h → g.size ≡ h.size → SameTable (home_of n r) (home_of (with_home name g n) r)
table_put r n name h g e size =
    subst (SameTable (home_of n r)) (sym (home_put n name h g e r))
    (by_name name (λ b q. SameTable (home_of n q) (if b then Some g else home_of n q)) (λ x w. (g, refl, (let s : h.size ≡ x.size = cc in size ∙ s))) (λ q other. same (home_of n q)) r)

table_copies : (r : Name) (n : Node) (cause : Cause) (o : Outcome) → Copies n cause o → SameTable (home_of n r) (home_of o.node r)
table_copies r n cause o (home_opens c write name h is e v x) = table_put r n name h _ e (starts_size n.me write h)
table_copies r n cause o (home_waits c write name h is e v x) = table_put r n name h _ e (starts_size n.me write h)
table_copies r n cause o (home_ends c name w ends lowers h is e) = table_put r n name h _ e (ends_size _ n c name w ends lowers h is)
table_copies r n cause o (home_serves from k name h s is e x) = table_put r n name h _ e (serves_size n h from k name s is)
table_copies r n cause o (home_serves_own from k name h s is e x) = table_put r n name h _ e (serves_size n h from k name s is)
table_copies r n cause o _ = same (home_of n r)

table_lives : (r : Name) (n : Node) (cause : Cause) (o : Outcome) → Lives n cause o → SameTable (home_of n r) (home_of o.node r)
table_lives r n cause o (made size e) =
    subst (SameTable (home_of n r)) (sym (home_end n o.node (new_home n.nodes size) refl refl r))
    (by_name (next_name n) (λ b q. SameTable (home_of n q) (if b then Some (new_home n.nodes size) else home_of n q)) (λ x w. let none = home_next n in cc) (λ q other. same (home_of n q)) r)
table_lives r n cause o (used_up size why e x) = subst (SameTable (home_of n r)) (sym (home_none n r)) (same (home_of n r))
table_lives r n cause o _ = same (home_of n r)

table_rounds : (r : Name) (n : Node) (cause : Cause) (o : Outcome) → Rounds n cause o → SameTable (home_of n r) (home_of o.node r)
table_rounds r n cause o (comes_away part other fits) = same (home_of n r)
table_rounds r n cause o _ = same (home_of n r)

table_notes : (r : Name) (n : Node) (c : Call) (w : What) (m : Node) → Notes n c w m → SameTable (home_of n r) (home_of m r)
table_notes r n c w m (flushes_own name mine closed) = same (home_of n r)
table_notes r n c w m _ = same (home_of n r)

pub table_deed : (r : Name) (n : Node) (cause : Cause) (o : Outcome) → Deed n cause o → SameTable (home_of n r) (home_of o.node r)
table_deed r n cause o (copies d) = table_copies r n cause o d
table_deed r n cause o (lives d) = table_lives r n cause o d
table_deed r n cause o (rounds d) = table_rounds r n cause o d
table_deed r n cause o (notes d) = table_notes r n _ _ _ d
table_deed r n cause o _ = same (home_of n r)
