-- The end of a section.
use Rattle.std.proofs.Common.{◌≡◌, refl, ℕ, ◌-◌, false, List, ◌++◌}
use Rattle.std.specs.declared.option.Option.{Option}
use Rattle.std.specs.declared.option.Option.TheVariants.{Some}
use Rattle.crl_model.specs.declared.name.Name.{Name}
use Rattle.crl_model.specs.declared.piece.Piece.{Piece}
use Rattle.crl_model.specs.declared.entry.What.{What}
use Rattle.crl_model.specs.Names.{at_name}
use Rattle.crl_protocol.specs.Places.{put}
use Rattle.crl_protocol.specs.Home.{Home, HomeStep}
use Rattle.crl_protocol.specs.Remote.{Remote, RemoteStep}
use Rattle.crl_protocol.specs.Sections.{Sections, section_ends}
use Rattle.crl_protocol.specs.Node.{Node, Outcome, Done, home_of, is_mine}
use Rattle.crl_protocol.specs.Sectioning as sectioning
use Rattle.crl_home.specs.Posts.{letter_pieces}
use Rattle.crl_remote.specs.Posts.{mail_pieces}
use Rattle.crl_desk.specs.Desks.{acted}
use Rattle.crl_sectioning.specs.Acts.{with_entry}

-- a section ends, with this entry and these steps at the home and elsewhere
abbrev ending : Name → What → (Home → HomeStep) → (Remote → RemoteStep) → Node → Outcome
ending name w at_home elsewhere n = sectioning.with_entry_first w (sectioning.ends_over_home name at_home elsewhere (home_of n name) (sectioning.closes name n))

pub home_ends : (at : ℕ) (name : Name) (w seen : What) (at_home : Home → HomeStep) (elsewhere : Remote → RemoteStep) (n new : Node) (h : Home) (s : HomeStep) (sender : ℕ) (sections : Sections) (homes : List (Option Home)) (out : List Piece)
    → sender ≡ n.me → home_of n name ≡ Some h → s ≡ at_home h → seen ≡ w
    → sections ≡ section_ends name n.sections
    → homes ≡ put (name.serial - 1) (Some s.home) n.homes
    → out ≡ n.outbox ++ letter_pieces sender name s.posts
    → new ≡ with_entry at seen (record n { sections = sections; homes = homes; outbox = out })
    → new ≡ acted at (ending name w at_home elsewhere n)
unfolding sectioning.after_home_end
home_ends at name w seen at_home elsewhere n new h s sender sections homes out is_me there step_is seen_is sections_are homes_are out_is new_is =
    rw new_is (rw homes_are (rw out_is (rw sections_are (rw seen_is (rw step_is (rw is_me (rw there refl)))))))

pub home_end_done : (name : Name) (w : What) (at_home : Home → HomeStep) (elsewhere : Remote → RemoteStep) (n : Node) (h : Home) → home_of n name ≡ Some h → Done ≡ (ending name w at_home elsewhere n).answer
unfolding sectioning.after_home_end
home_end_done name w at_home elsewhere n h there = rw there refl

pub remote_ends : (at : ℕ) (name : Name) (w seen : What) (at_home : Home → HomeStep) (elsewhere : Remote → RemoteStep) (n new : Node) (r : Remote) (s : RemoteStep) (sender : ℕ) (sections : Sections) (rows : Name → Option Remote) (out : List Piece)
    → sender ≡ n.me → is_mine n name ≡ false → n.remotes name ≡ Some r → s ≡ elsewhere r → seen ≡ w
    → sections ≡ section_ends name n.sections
    → rows ≡ at_name n.remotes name (Some s.remote)
    → out ≡ n.outbox ++ mail_pieces sender name s.posts
    → new ≡ with_entry at seen (record n { sections = sections; remotes = rows; outbox = out })
    → new ≡ acted at (ending name w at_home elsewhere n)
unfolding sectioning.after_remote
remote_ends at name w seen at_home elsewhere n new r s sender sections rows out is_me away there step_is seen_is sections_are rows_are out_is new_is =
    rw new_is (rw rows_are (rw out_is (rw sections_are (rw seen_is (rw step_is (rw is_me (rw away (rw there refl))))))))

pub remote_end_done : (name : Name) (w : What) (at_home : Home → HomeStep) (elsewhere : Remote → RemoteStep) (n : Node) (r : Remote) → is_mine n name ≡ false → n.remotes name ≡ Some r → Done ≡ (ending name w at_home elsewhere n).answer
unfolding sectioning.after_remote
remote_end_done name w at_home elsewhere n r away there = rw away (rw there refl)
