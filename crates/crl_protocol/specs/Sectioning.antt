-- How a node uses the copies of a region: the start and the end of its sections, a flush, and what is left
-- when the name is forgotten.
use Rattle.std.specs.Prelude.{ℕ, Bool, if◌then◌else◌, List, [], ◌∷◌}
use Rattle.std.specs.declared.option.Option.{Option}
use Rattle.std.specs.declared.option.Option.TheVariants.{None, Some}
use Rattle.crl_model.specs.declared.name.Name.{Name}
use Rattle.crl_model.specs.declared.entry.What.{What}
use Rattle.crl_model.specs.declared.entry.What.TheVariants as what
use Rattle.crl_model.specs.declared.message.Message.{Message}
use Rattle.crl_protocol.specs.Home.{Home, HomeStep, home_starts, home_ends_read, home_ends_write}
use Rattle.crl_protocol.specs.Remote.{Copy, Remote, RemoteStep, remote_starts, remote_ends_read, remote_ends_write, remote_flushes}
use Rattle.crl_protocol.specs.Sections.{bytes_at, is_writing, section_ends}
use Rattle.crl_protocol.specs.Node.{Node, Done, Wait, Awaited, ForSection, Waiting, Ready, Outcome, only, is_mine, home_of, with_home, with_remote, letter_messages, mail_messages, entry_of, SectionOpening, section_opens}

-- the node sends these, and waits
abbrev pub waits : Node → Awaited → List Message → Outcome
waits n awaited posts = record { node = record n { activity = Waiting awaited }; answer = Wait; entries = []; posts = posts }

-- the node records this before the rest
abbrev pub with_entry_first : What → Outcome → Outcome
with_entry_first what o = record o { entries = entry_of o.node.me what ∷ o.entries }

-- A name is forgotten: a copy goes back.
abbrev pub forgets_over : Name → Option Remote → Node → Outcome
forgets_over name None n = only n Done
forgets_over name (Some r) n =
    record { node = with_remote name None n; answer = Done; entries = []; posts = mail_messages n name (remote_flushes r).posts }

unfoldable pub forgets : Name → Node → Outcome
forgets name n = forgets_over name (n.remotes name) n

-- The start of a section, at the home and elsewhere: it opens at once, or the node waits.
abbrev pub opens_now : SectionOpening → List Message → Outcome
opens_now o posts = record { node = o.node; answer = o.answer; entries = o.entry ∷ []; posts = posts }

abbrev pub starts_or_waits : Bool → Bool → Name → List ℕ → List Message → Node → Outcome
starts_or_waits opened write name bytes posts n =
    if opened then opens_now (section_opens write name bytes n) posts
    else waits n (ForSection name) posts

abbrev pub starts_at_home : Bool → Name → HomeStep → Node → Outcome
starts_at_home write name s n = starts_or_waits s.opened write name s.home.bytes (letter_messages n name s.posts) (with_home name s.home n)

abbrev pub copy_bytes : Option Copy → List ℕ
copy_bytes None = []
copy_bytes (Some copy) = copy.bytes

abbrev pub starts_elsewhere : Bool → Name → RemoteStep → Node → Outcome
starts_elsewhere write name s n =
    starts_or_waits s.opened write name (copy_bytes s.remote.copy) (mail_messages n name s.posts) (with_remote name (Some s.remote) n)

abbrev pub starts_over_remote : Bool → Name → Option Remote → Node → Outcome
starts_over_remote write name None n = only n Done
starts_over_remote write name (Some r) n = starts_elsewhere write name (remote_starts write r) n

abbrev pub starts_over_home : Bool → Name → Option Home → Node → Outcome
starts_over_home write name None n = starts_over_remote write name (n.remotes name) n
starts_over_home write name (Some h) n = starts_at_home write name (home_starts n.me write h) n

abbrev pub starts : Bool → Name → Node → Outcome
starts write name n = starts_over_home write name (home_of n name) n

-- The home's table after Serve. Where the home's own ask was served, its section opens, and the node is
-- ready with it.
unfoldable pub after_serve : Name → HomeStep → Node → Outcome
after_serve name s n =
    let m = with_home name s.home n in
    if s.opened
    then (let o = section_opens (is_writing s.home.mine) name s.home.bytes m in
    record { node = record o.node { activity = Ready o.answer }; answer = Done; entries = o.entry ∷ []; posts = letter_messages n name s.posts })
    else record { node = m; answer = Done; entries = []; posts = letter_messages n name s.posts }

-- what a node's side of a region leaves
unfoldable pub after_remote : Name → RemoteStep → Node → Outcome
after_remote name s n = record { node = with_remote name (Some s.remote) n; answer = Done; entries = []; posts = mail_messages n name s.posts }

-- The end of a section, at the home and elsewhere.
abbrev pub closes : Name → Node → Node
closes name n = record n { sections = section_ends name n.sections }

abbrev pub ends_over_remote : Name → (Remote → RemoteStep) → Option Remote → Node → Outcome
ends_over_remote name ends None n = only n Done
ends_over_remote name ends (Some r) n = after_remote name (ends r) n

-- the home's table after one of its own sections has ended
unfoldable pub after_home_end : Name → HomeStep → Node → Outcome
after_home_end name s n = record { node = with_home name s.home n; answer = Done; entries = []; posts = letter_messages n name s.posts }

abbrev pub ends_over_home : Name → (Home → HomeStep) → (Remote → RemoteStep) → Option Home → Node → Outcome
ends_over_home name home_ends ends None n = ends_over_remote name ends (n.remotes name) n
ends_over_home name home_ends ends (Some h) n = after_home_end name (home_ends h) n

abbrev pub ends_read : Name → Node → Outcome
ends_read name n =
    with_entry_first (what.Read name (bytes_at name n.sections))
    (ends_over_home name (home_ends_read n.me) remote_ends_read (home_of n name) (closes name n))

abbrev pub ends_write : Name → List ℕ → Node → Outcome
ends_write name after n =
    with_entry_first (what.Write name (bytes_at name n.sections) after)
    (ends_over_home name (home_ends_write n.me after) (remote_ends_write after) (home_of n name) (closes name n))

-- a flush
abbrev pub flushes_remote : Name → Option Remote → Node → Outcome
flushes_remote name None n = only n Done
flushes_remote name (Some r) n = after_remote name (remote_flushes r) n

abbrev pub flushes : Name → Node → Outcome
flushes name n =
    with_entry_first (what.Flush name) (if is_mine n name then only n Done else flushes_remote name (n.remotes name) n)
