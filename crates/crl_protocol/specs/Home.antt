-- The home of a region: which copies there are, who waits for one, and what each event changes.
use Rattle.std.specs.Prelude.{ℕ, ◌+◌, ◌-◌, ◌==◌, Bool, true, false, not, ◌&&◌, ◌||◌, if◌then◌else◌, List, [], ◌∷◌, ◌++◌, replicate, length}
use Rattle.std.specs.declared.option.Option.{Option}
use Rattle.std.specs.declared.option.Option.TheVariants.{None, Some}
use Rattle.crl_model.specs.declared.directory.Section.{Section}
use Rattle.crl_model.specs.declared.directory.Section.TheVariants.{Closed, Reading, Writing}
use Rattle.crl_model.specs.declared.directory.Mark.{Mark}
use Rattle.crl_model.specs.declared.directory.Mark.TheVariants.{Plain, Recalled, Yielding}
use Rattle.crl_model.specs.declared.directory.Listing.{Listing}
use Rattle.crl_model.specs.declared.directory.Asked.{Asked}
use Rattle.crl_model.specs.declared.message.Granted.{Granted}
use Rattle.crl_model.specs.declared.message.Granted.TheVariants.{Shared, Exclusive, Upgrade}
use Rattle.crl_protocol.specs.Places.{at, put}
use Rattle.crl_protocol.specs.Mail.{Grant, Recall, Yield, Letter}

pub record Home : Type 0 where
  -- the region's size, and its bytes: the newest where no other node has or gets an exclusive copy, and the home
  -- doesn't write
  pub size : ℕ
  pub bytes : List ℕ
  -- how many copies were granted; the number of its grant is a copy's version
  pub last : ℕ
  -- of each node the copy that it has, is about to have, or is giving back
  pub listed : List (Option Listing)
  -- the asks that wait, the oldest first
  pub queue : List Asked
  -- the sections that are open at the home itself
  pub mine : Section

-- what a step at the home leaves: the table, the mail in its order, and whether the home's own section opened
pub record HomeStep : Type 0 where
  pub home : Home
  pub posts : List Letter
  pub opened : Bool

-- a region of zeros, among so many nodes
abbrev pub new_home : ℕ → ℕ → Home
new_home nodes size = record { size = size; bytes = replicate size 0; last = 0; listed = replicate nodes None; queue = []; mine = Closed }

-- Whether the copy of node m stands in the way of an ask: to read, an exclusive copy, or the asker's own;
-- to write, every copy but the shared one that the asker says it has.
abbrev pub blocks : ℕ → Listing → Asked → Bool
blocks m copy ask =
    if ask.write then not ((m == ask.node) && (not copy.exclusive && (copy.version == ask.have)))
    else copy.exclusive || (m == ask.node)

-- no copy listed, from node m on, stands in the way
abbrev pub is_clear : ℕ → List (Option Listing) → Asked → Bool
is_clear m [] ask = true
is_clear m (None ∷ listed) ask = is_clear (m + 1) listed ask
is_clear m (Some copy ∷ listed) ask = not (blocks m copy ask) && is_clear (m + 1) listed ask

-- the home's own sections let another one open
abbrev pub lets_open : Section → Bool → Bool
lets_open Closed write = true
lets_open (Reading count) write = not write
lets_open Writing write = false

abbrev pub is_servable : Home → Asked → Bool
is_servable h ask = lets_open h.mine ask.write && is_clear 0 h.listed ask

-- An ask to write recalls the copies in its way; one to read only wants that they become shared ones.
abbrev pub mark_for : Asked → Mark
mark_for ask = if ask.write then Recalled else Yielding

abbrev pub recall_or_yield : Asked → ℕ → ℕ → Letter
recall_or_yield ask version m = record { to = m; mail = if ask.write then Recall version else Yield version }

abbrev pub is_plain : Mark → Bool
is_plain Plain = true
is_plain Recalled = false
is_plain Yielding = false

-- the copy is in the way, isn't the asker's own, and wasn't called yet
abbrev pub is_to_mark : ℕ → Listing → Asked → Bool
is_to_mark m copy ask = blocks m copy ask && (not (m == ask.node) && is_plain copy.mark)

-- the copies from node m on, with the marks of those that are now called; and the calls
abbrev pub with_marks : ℕ → List (Option Listing) → Asked → List (Option Listing)
with_marks m [] ask = []
with_marks m (None ∷ listed) ask = None ∷ with_marks (m + 1) listed ask
with_marks m (Some copy ∷ listed) ask =
    Some (if is_to_mark m copy ask then record copy { mark = mark_for ask } else copy) ∷ with_marks (m + 1) listed ask

abbrev pub recalls_and_yields : ℕ → List (Option Listing) → Asked → List Letter
recalls_and_yields m [] ask = []
recalls_and_yields m (None ∷ listed) ask = recalls_and_yields (m + 1) listed ask
recalls_and_yields m (Some copy ∷ listed) ask =
    if is_to_mark m copy ask then recall_or_yield ask copy.version m ∷ recalls_and_yields (m + 1) listed ask else recalls_and_yields (m + 1) listed ask

-- what is granted: to read, a shared copy; to write, leave to write the copy that is listed, else a copy
abbrev pub grant_to : Option Listing → Asked → List ℕ → Granted
grant_to own ask bytes = if ask.write then elim own [ None ↦ Exclusive bytes | Some copy ↦ Upgrade ] else Shared bytes

-- the home's own ask is served: its section opens
abbrev pub open_own : Home → Asked → Home
open_own h ask = record h { mine = if ask.write then Writing else Reading 1 }

-- another node's ask is served: it is granted a copy of the next version
abbrev pub grant_next : Home → Asked → Home
grant_next h ask = record h {
  last = h.last + 1;
  listed = put ask.node (Some (record { exclusive = ask.write; version = h.last + 1; mark = Plain })) h.listed;
}

abbrev pub grant_for : Home → Asked → Letter
grant_for h ask = record { to = ask.node; mail = Grant (h.last + 1) (grant_to (at ask.node h.listed) ask h.bytes) }

-- the step after which these letters were posted before its own, or the home's section had opened
abbrev pub posts_first : Letter → HomeStep → HomeStep
posts_first letter s = record s { posts = letter ∷ s.posts }

abbrev pub opens_own_section : HomeStep → HomeStep
opens_own_section s = record s { opened = true }

-- Serve, at home `me`, over the queue: asks are served, the oldest first, up to the first that has to wait;
-- the copies in its way are called.
abbrev pub serve : ℕ → Home → List Asked → HomeStep
serve me h [] = record { home = record h { queue = [] }; posts = []; opened = false }
serve me h (ask ∷ queue) =
    if is_servable h ask
    then (if ask.node == me
    then opens_own_section (serve me (open_own h ask) queue)
    else posts_first (grant_for h ask) (serve me (grant_next h ask) queue))
    else record { home = record h { listed = with_marks 0 h.listed ask; queue = ask ∷ queue }; posts = recalls_and_yields 0 h.listed ask; opened = false }

-- An ask comes.
unfoldable pub home_takes_ask : ℕ → Asked → Home → HomeStep
home_takes_ask me ask h = serve me h (h.queue ++ ask ∷ [])

abbrev pub bytes_after : Option (List ℕ) → List ℕ → List ℕ
bytes_after None old = old
bytes_after (Some new) old = new

-- The copy of node n comes back. It may come: the copy is listed in this version, an exclusive one with
-- its bytes, and bytes have the region's size.
abbrev pub is_listed : ℕ → Option Listing → Bool
is_listed version None = false
is_listed version (Some copy) = copy.version == version

abbrev pub is_listed_shared : Option Listing → Bool
is_listed_shared None = false
is_listed_shared (Some copy) = not copy.exclusive

abbrev pub bytes_fit : Option (List ℕ) → Option Listing → ℕ → Bool
bytes_fit None copy size = is_listed_shared copy
bytes_fit (Some bytes) copy size = length bytes == size

abbrev pub return_fits : ℕ → ℕ → Option (List ℕ) → Home → Bool
return_fits n version bytes h = is_listed version (at n h.listed) && bytes_fit bytes (at n h.listed) h.size

unfoldable pub home_takes_return : ℕ → ℕ → Option (List ℕ) → Home → HomeStep
home_takes_return me n bytes h = serve me (record h { bytes = bytes_after bytes h.bytes; listed = put n None h.listed }) h.queue

-- The copy of node n became a shared one. Where it came back before, or was granted anew, this is ignored.
abbrev pub is_to_lower : ℕ → Option Listing → Bool
is_to_lower version None = false
is_to_lower version (Some copy) = copy.exclusive && (copy.version == version)

abbrev pub shared_listing : ℕ → Listing
shared_listing version = record { exclusive = false; version = version; mark = Plain }

unfoldable pub home_takes_release : ℕ → ℕ → ℕ → List ℕ → Home → HomeStep
home_takes_release me n version bytes h =
    if is_to_lower version (at n h.listed)
    then serve me (record h { bytes = bytes; listed = put n (Some (shared_listing version)) h.listed }) h.queue
    else record { home = h; posts = []; opened = false }

abbrev pub release_fits : List ℕ → Home → Bool
release_fits bytes h = length bytes == h.size

-- The home's own sections. A start opens its section at once, or joins the queue.
abbrev pub own_ask : ℕ → Bool → Asked
own_ask me write = record { node = me; write = write; have = 0 }

abbrev pub is_empty : {A : Type 0} → List A → Bool
is_empty [] = true
is_empty (x ∷ xs) = false

abbrev pub is_reading : Section → Bool
is_reading Closed = false
is_reading (Reading count) = true
is_reading Writing = false

-- one read section more, and one less
abbrev pub one_section_more : Section → Section
one_section_more Closed = Reading 1
one_section_more (Reading count) = Reading (count + 1)
one_section_more Writing = Writing

abbrev pub one_section_less : Section → Section
one_section_less Closed = Closed
one_section_less (Reading count) = if count == 1 then Closed else Reading (count - 1)
one_section_less Writing = Writing

unfoldable pub home_starts : ℕ → Bool → Home → HomeStep
home_starts me write h =
    if not write && is_reading h.mine then record { home = record h { mine = one_section_more h.mine }; posts = []; opened = true }
    else if is_empty h.queue && is_servable h (own_ask me write) then record { home = open_own h (own_ask me write); posts = []; opened = true }
    else serve me h (h.queue ++ own_ask me write ∷ [])

unfoldable pub home_ends_read : ℕ → Home → HomeStep
home_ends_read me h = serve me (record h { mine = one_section_less h.mine }) h.queue

unfoldable pub home_ends_write : ℕ → List ℕ → Home → HomeStep
home_ends_write me bytes h = serve me (record h { bytes = bytes; mine = Closed }) h.queue
