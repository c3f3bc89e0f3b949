-- How many pieces a home may still have to post, whatever comes.
use Rattle.std.specs.Prelude.{ℕ, ◌+◌, List, [], ◌∷◌}
use Rattle.std.specs.declared.option.Option.{Option}
use Rattle.std.specs.declared.option.Option.TheVariants.{None, Some}
use Rattle.crl_model.specs.declared.directory.Mark.{Mark}
use Rattle.crl_model.specs.declared.directory.Mark.TheVariants.{Plain, Recalled, Yielding}
use Rattle.crl_model.specs.declared.directory.Listing.{Listing}
use Rattle.crl_model.specs.declared.directory.Asked.{Asked}
use Rattle.crl_pieces.specs.Pieces.{count}
use Rattle.crl_protocol.specs.Home.{Home}

-- how often a copy may still be called: to become a shared one, and then back
abbrev pub calls_left : Mark → ℕ
calls_left Plain = 2
calls_left Yielding = 1
calls_left Recalled = 0

abbrev pub owed_to_copy : Option Listing → ℕ
owed_to_copy None = 0
owed_to_copy (Some copy) = calls_left copy.mark

abbrev pub owed_to_copies : List (Option Listing) → ℕ
owed_to_copies [] = 0
owed_to_copies (copy ∷ listed) = owed_to_copy copy + owed_to_copies listed

-- An ask is granted once, with the bytes of the region, and the copy that it gets is called at most twice.
unfoldable pub ask_debt : ℕ → ℕ
ask_debt size = count size + 2

abbrev pub owed_to_asks : ℕ → List Asked → ℕ
owed_to_asks size [] = 0
owed_to_asks size (ask ∷ queue) = ask_debt size + owed_to_asks size queue

abbrev pub owed : Home → ℕ
owed h = owed_to_asks h.size h.queue + owed_to_copies h.listed
