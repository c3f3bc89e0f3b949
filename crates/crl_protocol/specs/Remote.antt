-- A node's side of a region whose home is another node: its copy, its sections, and what each event changes.
use Rattle.std.specs.Prelude.{ℕ, ◌==◌, nat_lt, Bool, true, false, not, ◌&&◌, ◌||◌, if◌then◌else◌, List, [], ◌∷◌, length}
use Rattle.std.specs.declared.option.Option.{Option}
use Rattle.std.specs.declared.option.Option.TheVariants.{None, Some}
use Rattle.crl_model.specs.declared.directory.Section.{Section}
use Rattle.crl_model.specs.declared.directory.Section.TheVariants.{Closed, Reading, Writing}
use Rattle.crl_model.specs.declared.directory.Due.{Due}
use Rattle.crl_model.specs.declared.message.Granted.{Granted}
use Rattle.crl_model.specs.declared.message.Granted.TheVariants.{Shared, Exclusive, Upgrade}
use Rattle.crl_protocol.specs.Mail.{Mail, Ask, Return, Release}
use Rattle.crl_protocol.specs.Home.{one_section_more, one_section_less}

pub record Copy : Type 0 where
  pub exclusive : Bool
  pub version : ℕ
  pub bytes : List ℕ

pub record Remote : Type 0 where
  pub size : ℕ
  pub copy : Option Copy
  -- the copy is a shared one that was exclusive under the same version: its bytes may be news to the home
  pub given : Bool
  -- the sections that are open here
  pub here : Section
  -- at the end of the section the copy goes back, or becomes a shared one
  pub leaving : Bool
  pub lowering : Bool
  -- the node waits for a copy, to write or to read
  pub asking : Option Bool
  -- a recall or a yield of a later version than the copy's, kept until a grant comes
  pub due : Option Due

-- what a step leaves: the node's side, its mail for the home, and whether the section that starts opened
pub record RemoteStep : Type 0 where
  pub remote : Remote
  pub posts : List Mail
  pub opened : Bool

abbrev pub sends_nothing : Remote → RemoteStep
sends_nothing r = record { remote = r; posts = []; opened = false }

-- mapped anew
abbrev pub new_remote : ℕ → Remote
new_remote size = record { size = size; copy = None; given = false; here = Closed; leaving = false; lowering = false; asking = None; due = None }

-- The copy goes back, with its bytes where the home may lack them.
abbrev pub bytes_back : Bool → Copy → Option (List ℕ)
bytes_back given copy = if copy.exclusive || given then Some copy.bytes else None

abbrev pub without_copy : Remote → Remote
without_copy r = record r { copy = None; given = false; leaving = false; lowering = false }

abbrev pub gives_back : Copy → Remote → RemoteStep
gives_back copy r = record { remote = without_copy r; posts = Return copy.version (bytes_back r.given copy) ∷ []; opened = false }

-- The exclusive copy becomes a shared one, and its bytes go to the home.
abbrev pub lowers : Copy → Remote → RemoteStep
lowers copy r = record {
  remote = record r { copy = Some (record copy { exclusive = false }); given = true; lowering = false };
  posts = Release copy.version copy.bytes ∷ [];
  opened = false;
}

-- A start: it opens over a copy that suffices, else the node asks for one.
abbrev pub opens_here : Section → Remote → RemoteStep
opens_here section r = record { remote = record r { here = section }; posts = []; opened = true }

abbrev pub asks_home : Bool → ℕ → Remote → RemoteStep
asks_home write have r = record { remote = record r { asking = Some write; due = None }; posts = Ask write have ∷ []; opened = false }

abbrev pub starts_over : Bool → Option Copy → Remote → RemoteStep
starts_over write None r = asks_home write 0 r
starts_over write (Some copy) r =
    if not write then opens_here (one_section_more r.here) r
    else if copy.exclusive then opens_here Writing r
    else asks_home true copy.version r

unfoldable pub remote_starts : Bool → Remote → RemoteStep
remote_starts write r = starts_over write r.copy r

-- A grant comes, and the section opens for which the node waits.
abbrev pub copy_after_grant : ℕ → Granted → Option Copy → Option Copy
copy_after_grant version (Shared bytes) old = Some (record { exclusive = false; version = version; bytes = bytes })
copy_after_grant version (Exclusive bytes) old = Some (record { exclusive = true; version = version; bytes = bytes })
copy_after_grant version Upgrade None = None
copy_after_grant version Upgrade (Some copy) = Some (record { exclusive = true; version = version; bytes = copy.bytes })

abbrev pub section_asked : Option Bool → Section
section_asked None = Closed
section_asked (Some write) = if write then Writing else Reading 1

-- a recall of this version is due, and a yield
abbrev pub is_recall_due : ℕ → Option Due → Bool
is_recall_due version None = false
is_recall_due version (Some due) = (due.version == version) && not due.yields

abbrev pub is_yield_due : ℕ → Option Due → Bool
is_yield_due version None = false
is_yield_due version (Some due) = (due.version == version) && due.yields

unfoldable pub remote_takes_grant : ℕ → Granted → Remote → Remote
remote_takes_grant version granted r = record {
  size = r.size;
  copy = copy_after_grant version granted r.copy;
  given = false;
  here = section_asked r.asking;
  leaving = is_recall_due version r.due;
  lowering = is_yield_due version r.due;
  asking = None;
  due = None;
}

-- A grant fits where it is of the kind that was asked for, an upgrade only over a shared copy, and its bytes
-- have the region's size.
abbrev pub asks_to_write : Option Bool → Bool
asks_to_write None = false
asks_to_write (Some write) = write

abbrev pub asks_to_read : Option Bool → Bool
asks_to_read None = false
asks_to_read (Some write) = not write

abbrev pub is_shared : Option Copy → Bool
is_shared None = false
is_shared (Some copy) = not copy.exclusive

abbrev pub grant_fits : Granted → Remote → Bool
grant_fits (Shared bytes) r = asks_to_read r.asking && (length bytes == r.size)
grant_fits (Exclusive bytes) r = asks_to_write r.asking && (length bytes == r.size)
grant_fits Upgrade r = asks_to_write r.asking && is_shared r.copy

-- A recall or a yield that may have overtaken its grant is kept until a grant comes, the newest of them. It
-- counts where it is of that grant's version; else it was late, and is dropped.
abbrev pub is_newer : ℕ → Option Due → Bool
is_newer version None = true
is_newer version (Some due) = nat_lt due.version version

abbrev pub with_due : ℕ → Bool → Remote → Remote
with_due version yields r = if is_newer version r.due then record r { due = Some (record { version = version; yields = yields }) } else r

abbrev pub notes_due : ℕ → Bool → Option Bool → Remote → Remote
notes_due version yields None r = r
notes_due version yields (Some write) r = with_due version yields r

-- of another version than the copy's: of a later one it is due, of an earlier one it is stale
abbrev pub overtakes : ℕ → ℕ → Bool → Remote → RemoteStep
overtakes version old yields r = sends_nothing (if nat_lt old version then notes_due version yields r.asking r else r)

-- A recall comes. A copy that is in use goes back at the end of its last section.
abbrev pub recall_in : Section → Copy → Remote → RemoteStep
recall_in Closed copy r = gives_back copy r
recall_in (Reading count) copy r = sends_nothing (record r { leaving = true })
recall_in Writing copy r = sends_nothing (record r { leaving = true })

abbrev pub recall_over : ℕ → Option Copy → Remote → RemoteStep
recall_over version None r = sends_nothing (notes_due version false r.asking r)
recall_over version (Some copy) r = if version == copy.version then recall_in r.here copy r else overtakes version copy.version false r

unfoldable pub remote_takes_recall : ℕ → Remote → RemoteStep
remote_takes_recall version r = recall_over version r.copy r

-- A yield comes. A copy that is being written becomes a shared one at the end of the section.
abbrev pub yield_in : Section → Copy → Remote → RemoteStep
yield_in Closed copy r = lowers copy r
yield_in (Reading count) copy r = lowers copy r
yield_in Writing copy r = sends_nothing (record r { lowering = true })

abbrev pub yield_over : ℕ → Option Copy → Remote → RemoteStep
yield_over version None r = sends_nothing (notes_due version true r.asking r)
yield_over version (Some copy) r =
    if (version == copy.version) && copy.exclusive then yield_in r.here copy r else overtakes version copy.version true r

unfoldable pub remote_takes_yield : ℕ → Remote → RemoteStep
remote_takes_yield version r = yield_over version r.copy r

-- The end of a section. A copy that leaves is not made a shared one before.
abbrev pub leaves_over : Option Copy → Remote → RemoteStep
leaves_over None r = sends_nothing (without_copy r)
leaves_over (Some copy) r = gives_back copy r

abbrev pub lowers_over : Option Copy → Remote → RemoteStep
lowers_over None r = sends_nothing r
lowers_over (Some copy) r = lowers copy r

abbrev pub is_closed : Section → Bool
is_closed Closed = true
is_closed (Reading count) = false
is_closed Writing = false

unfoldable pub remote_ends_read : Remote → RemoteStep
remote_ends_read r =
    let after = record r { here = one_section_less r.here } in
    if is_closed after.here && after.leaving then leaves_over after.copy after else sends_nothing after

abbrev pub with_written : List ℕ → Option Copy → Option Copy
with_written bytes None = None
with_written bytes (Some copy) = Some (record copy { bytes = bytes })

unfoldable pub remote_ends_write : List ℕ → Remote → RemoteStep
remote_ends_write bytes r =
    let after = record r { here = Closed; copy = with_written bytes r.copy } in
    if after.leaving then leaves_over after.copy after
    else if after.lowering then lowers_over after.copy after
    else sends_nothing after

-- A flush sends the copy back. A name that is forgotten sends it back too, and then nothing is left here.
abbrev pub flushes_over : Option Copy → Remote → RemoteStep
flushes_over None r = sends_nothing r
flushes_over (Some copy) r = gives_back copy r

unfoldable pub remote_flushes : Remote → RemoteStep
remote_flushes r = flushes_over r.copy r
