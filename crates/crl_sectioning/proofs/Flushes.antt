-- A flush, of a node that has a copy, and of one that has none.
use Rattle.std.proofs.Common.{◌≡◌, refl, ℕ, Bool, true, false, List, ◌++◌, if◌then◌else◌}
use Rattle.std.proofs.lemmas.List.{append-nil}
use Rattle.std.specs.declared.option.Option.{Option}
use Rattle.std.specs.declared.option.Option.TheVariants.{None, Some}
use Rattle.crl_model.specs.declared.name.Name.{Name}
use Rattle.crl_model.specs.declared.piece.Piece.{Piece}
use Rattle.crl_model.specs.declared.entry.What.TheVariants as what
use Rattle.crl_model.specs.Names.{at_name}
use Rattle.crl_protocol.specs.Remote.{Remote, remote_flushes}
use Rattle.crl_protocol.specs.Node.{Node, Done, only, is_mine}
use Rattle.crl_protocol.specs.Sectioning as sectioning
use Rattle.crl_remote.specs.Posts.{mail_pieces}
use Rattle.crl_desk.specs.Desks.{acted}
use Rattle.crl_sectioning.specs.Acts.{with_entry, SendsNothing}

pub remote_flushed : (at : ℕ) (name : Name) (n new : Node) (r : Remote) (rows : Name → Option Remote) (out : List Piece) (sender : ℕ)
    → sender ≡ n.me → is_mine n name ≡ false → n.remotes name ≡ Some r
    → rows ≡ at_name n.remotes name (Some (remote_flushes r).remote)
    → out ≡ n.outbox ++ mail_pieces sender name (remote_flushes r).posts
    → new ≡ with_entry at (what.Flush name) (record n { remotes = rows; outbox = out })
    → new ≡ acted at (sectioning.flushes name n)
unfolding sectioning.after_remote
remote_flushed at name n new r rows out sender is_me away there rows_are out_is new_is = rw new_is (rw rows_are (rw out_is (rw is_me (rw away (rw there refl)))))

pub remote_flush_done : (name : Name) (n : Node) (r : Remote) → is_mine n name ≡ false → n.remotes name ≡ Some r → Done ≡ (sectioning.flushes name n).answer
unfolding sectioning.after_remote
remote_flush_done name n r away there = rw away (rw there refl)

nothing : (name : Name) (n : Node) (mine : Bool) → (mine ≡ false → n.remotes name ≡ None) → (if mine then only n Done else sectioning.flushes_remote name (n.remotes name) n) ≡ only n Done
nothing name n true none = refl
nothing name n false none = rw (none refl) refl

pub nothing_flushed : (at : ℕ) (name : Name) (n new : Node) → SendsNothing name n → new ≡ with_entry at (what.Flush name) n → new ≡ acted at (sectioning.flushes name n)
nothing_flushed at name n new none new_is = rw new_is (rw (nothing name n (is_mine n name) none) (rw (append-nil n.outbox) refl))

pub nothing_flush_done : (name : Name) (n : Node) → SendsNothing name n → Done ≡ (sectioning.flushes name n).answer
nothing_flush_done name n none = rw (nothing name n (is_mine n name) none) refl
