-- A start over a copy.
use Rattle.std.proofs.Common.{◌≡◌, refl, sym, ◌∙◌, subst, ap, ℕ, Bool, true, false, if◌then◌else◌, List, ◌++◌}
use Rattle.std.specs.Prelude.{IsSome}
use Rattle.std.specs.declared.option.Option.{Option}
use Rattle.std.specs.declared.option.Option.TheVariants.{None, Some}
use Rattle.crl_model.specs.declared.name.Name.{Name}
use Rattle.crl_model.specs.declared.piece.Piece.{Piece}
use Rattle.crl_model.specs.Names.{at_name}
use Rattle.crl_model.specs.declared.directory.Section.TheVariants.{Writing}
use Rattle.crl_protocol.specs.Remote.{Copy, Remote, remote_starts, starts_over, opens_here, asks_home}
use Rattle.crl_protocol.specs.Node.{Node, Answer, is_mine, section_opens}
use Rattle.crl_protocol.specs.Sectioning.{starts, copy_bytes}
use Rattle.crl_table.specs.Tables.{table_of}
use Rattle.crl_table.proofs.Laws.{at_name_here}
use Rattle.crl_remote.specs.RemotesState.{RemotesState, HasRow, row_or, row_at, start_step}
use Rattle.crl_remote.specs.Posts.{mail_pieces}
use Rattle.crl_desk.specs.Desks.{acted, region_size}
use Rattle.crl_desk.specs.Kits.{once_opened}

pub away_size : (name : Name) (n : Node) (r : Remote) → is_mine n name ≡ false → n.remotes name ≡ Some r → region_size name n ≡ r.size
away_size name n r away there = rw away (rw there refl)

over_size : (write : Bool) (c : Option Copy) (r : Remote) → (starts_over write c r).remote.size ≡ r.size
over_size write None r = refl
over_size false (Some copy) r = refl
over_size true (Some copy) r = elim copy.exclusive as (λ b. (if b then opens_here Writing r else asks_home true copy.version r).remote.size ≡ r.size) [ true ↦ refl | false ↦ refl ]

over_copy : (write : Bool) (c : Option Copy) (r : Remote) → (starts_over write c r).remote.copy ≡ r.copy
over_copy write None r = refl
over_copy false (Some copy) r = refl
over_copy true (Some copy) r = elim copy.exclusive as (λ b. (if b then opens_here Writing r else asks_home true copy.version r).remote.copy ≡ r.copy) [ true ↦ refl | false ↦ refl ]

over_some : (write : Bool) (c : Option Copy) (r : Remote) → (starts_over write c r).opened ≡ true → IsSome c
over_some write None r opened = absurd (cc)
over_some write (Some copy) r opened = refl

step_size : (write : Bool) (r : Remote) → (remote_starts write r).remote.size ≡ r.size
unfolding remote_starts
step_size write r = over_size write r.copy r

step_some : (write : Bool) (r : Remote) → (remote_starts write r).opened ≡ true → IsSome (remote_starts write r).remote.copy
unfolding remote_starts
step_some write r opened = subst (λ c. IsSome c) (sym (over_copy write r.copy r)) (over_some write r.copy r opened)

pub row_after_start : (name : Name) (write : Bool) (old new : RemotesState) → HasRow name (Some (start_step name write old).remote) old new → row_at name new ≡ (start_step name write old).remote
row_after_start name write old new h = ap (λ o. row_or o) (ap (λ f. f name) h.rows ∙ at_name_here (table_of old.rows) name (Some (start_step name write old).remote))

pub start_keeps_size : (name : Name) (write : Bool) (old new : RemotesState) → HasRow name (Some (start_step name write old).remote) old new → (row_at name new).size ≡ (row_at name old).size
start_keeps_size name write old new h = ap (λ (r : Remote). r.size) (row_after_start name write old new h) ∙ step_size write (row_at name old)

pub start_has_copy : (name : Name) (write : Bool) (old new : RemotesState) → HasRow name (Some (start_step name write old).remote) old new → (start_step name write old).opened ≡ true → IsSome (row_at name new).copy
start_has_copy name write old new h opened = subst (λ (r : Remote). IsSome r.copy) (sym (row_after_start name write old new h)) (step_some write (row_at name old) opened)

pub remote_opens : (at : ℕ) (write : Bool) (name : Name) (n new : Node) (r : Remote) (sender : ℕ) (rows : Name → Option Remote) (out : List Piece) (shown : List ℕ)
    → sender ≡ n.me → is_mine n name ≡ false → n.remotes name ≡ Some r
    → rows ≡ at_name n.remotes name (Some (remote_starts write r).remote)
    → out ≡ n.outbox ++ mail_pieces sender name (remote_starts write r).posts
    → shown ≡ copy_bytes (remote_starts write r).remote.copy
    → (remote_starts write r).opened ≡ true
    → new ≡ once_opened at (section_opens write name shown (record n { remotes = rows; outbox = out }))
    → new ≡ acted at (starts write name n)
unfolding section_opens
remote_opens at write name n new r sender rows out shown is_me away there rows_are out_is shown_is opened new_is =
    rw new_is (rw away (rw there (rw opened (rw rows_are (rw out_is (rw shown_is (rw is_me refl)))))))

pub remote_answers : (write : Bool) (name : Name) (n : Node) (answer : Answer) (r : Remote) (rows : Name → Option Remote) (out : List Piece) (shown : List ℕ)
    → is_mine n name ≡ false → n.remotes name ≡ Some r
    → shown ≡ copy_bytes (remote_starts write r).remote.copy
    → (remote_starts write r).opened ≡ true
    → answer ≡ (section_opens write name shown (record n { remotes = rows; outbox = out })).answer
    → answer ≡ (starts write name n).answer
unfolding section_opens
remote_answers write name n answer r rows out shown away there shown_is opened answer_is =
    rw answer_is (rw away (rw there (rw opened (rw shown_is refl))))
