-- A start at the region's home.
use Rattle.std.proofs.Common.{◌≡◌, refl, sym, ◌∙◌, subst, ap, ℕ, ◌-◌, Bool, true, List, ◌++◌}
use Rattle.std.specs.Prelude.{IsSome}
use Rattle.std.specs.declared.option.Option.{Option}
use Rattle.std.specs.declared.option.Option.TheVariants.{Some}
use Rattle.crl_model.specs.declared.name.Name.{Name}
use Rattle.crl_model.specs.declared.piece.Piece.{Piece}
use Rattle.crl_protocol.specs.Places.{put}
use Rattle.crl_protocol.specs.Home.{Home, home_starts}
use Rattle.crl_protocol.specs.Node.{Node, Answer, at_serial, home_of, is_mine, section_opens}
use Rattle.crl_protocol.specs.Sectioning.{starts}
use Rattle.crl_home.specs.HomesState.{HomesState, table_or, table_at, with_table, start_step}
use Rattle.crl_home.specs.Posts.{letter_pieces}
use Rattle.crl_home.proofs.Laws.{table_is_put, start_size}
use Rattle.crl_desk.specs.Desks.{acted, region_size}
use Rattle.crl_desk.specs.Kits.{once_opened}

-- the table, and the size, of a region of the node's own
pub own_table : (name : Name) (n : Node) (h : Home) → is_mine n name ≡ true → home_of n name ≡ Some h → at_serial name.serial n.homes ≡ Some h
own_table name n h mine there = rw mine at there

pub own_is_there : (name : Name) (n : Node) (h : Home) → is_mine n name ≡ true → home_of n name ≡ Some h → IsSome (at_serial name.serial n.homes)
own_is_there name n h mine there = subst (λ o. IsSome o) (sym (own_table name n h mine there)) refl

pub own_size : (name : Name) (n : Node) (h : Home) → is_mine n name ≡ true → home_of n name ≡ Some h → region_size name n ≡ h.size
own_size name n h mine there = rw mine (rw (own_table name n h mine there) refl)

pub start_is_put : (name : Name) (write : Bool) (old new : HomesState) → IsSome (at_serial name.serial old.homes) → new ≡ with_table name (start_step name write old).home old
    → at_serial name.serial new.homes ≡ Some (start_step name write old).home
start_is_put name write old new there new_is = rw new_is (table_is_put name (start_step name write old).home old there)

pub start_keeps_size : (name : Name) (write : Bool) (old new : HomesState) → IsSome (at_serial name.serial old.homes) → new ≡ with_table name (start_step name write old).home old
    → (table_at name new.homes).size ≡ (table_at name old.homes).size
start_keeps_size name write old new there new_is = ap (λ o. (table_or o).size) (start_is_put name write old new there new_is) ∙ start_size old.me write (table_at name old.homes)

pub home_opens : (at : ℕ) (write : Bool) (name : Name) (n new : Node) (h : Home) (sender : ℕ) (homes : List (Option Home)) (out : List Piece) (shown : List ℕ)
    → sender ≡ n.me → home_of n name ≡ Some h
    → homes ≡ put (name.serial - 1) (Some (home_starts sender write h).home) n.homes
    → out ≡ n.outbox ++ letter_pieces sender name (home_starts sender write h).posts
    → shown ≡ (home_starts sender write h).home.bytes
    → (home_starts sender write h).opened ≡ true
    → new ≡ once_opened at (section_opens write name shown (record n { homes = homes; outbox = out }))
    → new ≡ acted at (starts write name n)
unfolding section_opens
home_opens at write name n new h sender homes out shown is_me there homes_are out_is shown_is opened new_is =
    rw new_is (rw there (rw (rw is_me at opened) (rw homes_are (rw out_is (rw shown_is (rw is_me refl))))))

pub home_answers : (write : Bool) (name : Name) (n : Node) (answer : Answer) (h : Home) (sender : ℕ) (homes : List (Option Home)) (out : List Piece) (shown : List ℕ)
    → sender ≡ n.me → home_of n name ≡ Some h
    → shown ≡ (home_starts sender write h).home.bytes
    → (home_starts sender write h).opened ≡ true
    → answer ≡ (section_opens write name shown (record n { homes = homes; outbox = out })).answer
    → answer ≡ (starts write name n).answer
unfolding section_opens
home_answers write name n answer h sender homes out shown is_me there shown_is opened answer_is =
    rw answer_is (rw there (rw (rw is_me at opened) (rw shown_is (rw is_me refl))))
