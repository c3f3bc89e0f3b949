-- What is written is guessed again: a field, and what an entry says.
use Rattle.std.proofs.Common.{◌≡◌, ℕ, ◌^◌, ◌<◌, List, [], ◌∷◌, Option, Some, None, refl, arith}
use Rattle.hex.specs.Hex.{IsBytes, encode_lower}
use Rattle.hex.proofs.HexLemmas.{decode_of-encode_lower}
use Rattle.crl_model.specs.declared.name.Name.{Name}
use Rattle.crl_model.specs.declared.call.CallKind.{CallKind}
use Rattle.crl_model.specs.declared.call.CallKind.TheVariants as kinds
use Rattle.crl_model.specs.declared.call.Refusal.{Refusal}
use Rattle.crl_model.specs.declared.call.Refusal.TheVariants as refusals
use Rattle.crl_model.specs.declared.collective.Part.{Part}
use Rattle.crl_model.specs.declared.collective.Part.TheVariants as parts
use Rattle.crl_model.specs.declared.collective.Fold.{Fold}
use Rattle.crl_model.specs.declared.collective.Fold.TheVariants as folds
use Rattle.crl_model.specs.declared.entry.What.{What}
use Rattle.crl_model.specs.declared.entry.What.TheVariants as whats
use Rattle.crl_model.specs.declared.entry.Place.{Place}
use Rattle.crl_model.specs.declared.entry.Place.TheVariants as places
use Rattle.crl_account.specs.Text.{name_text, call_word, refusal_word, place_text, part_words, fold_words, what_words, is_of_round, is_round, IsPrintableWhat, IsPrintableFold}
use Rattle.crl_account.specs.Account.{FitsName, FitsPlace, FitsPart, FitsFold, FitsWhat}
use Rattle.crl_account.proofs.Laws.{name_parts}
use Rattle.crl_account_reader.specs.Words.{verb_of, kind_of, refusal_of}
use Rattle.crl_account_reader.specs.Reading.{◌>>=◌, name_of, bytes_of}
use Rattle.crl_account_reader.specs.Guess.{only_name, only_bytes, only_value, name_and_size, name_and_bytes, name_and_two, part_by, part_of, fold_by, came_by, place_of, refused_of, what_by}
use Rattle.crl_account_reader.proofs.Digits.{number_again, value_again64, value_again128}

-- ---- fields

pub name_again : (name : Name) → FitsName name → name_of (name_text name) ≡ Some name
unfolding name_of
name_again name fits =
    let numbers = name_parts name fits in
    let home = number_again (2 ^ 16) name.home fits.0 (omega (arith, fits.0)) in
    let serial = number_again (2 ^ 32) name.serial fits.1 (omega (arith, fits.1)) in
    rw (numbers, home, serial) refl

pub bytes_again : (bytes : List ℕ) → IsBytes bytes → bytes_of (encode_lower bytes) ≡ Some bytes
unfolding bytes_of
bytes_again bytes fits = rw (decode_of-encode_lower bytes fits) refl

pub kind_again : (kind : CallKind) → kind_of (call_word kind) ≡ Some kind
unfolding kind_of
kind_again kinds.Create = refl
kind_again kinds.Delete = refl
kind_again kinds.Map = refl
kind_again kinds.Unmap = refl
kind_again kinds.Read = refl
kind_again kinds.EndRead = refl
kind_again kinds.Write = refl
kind_again kinds.Put = refl
kind_again kinds.Add = refl
kind_again kinds.EndWrite = refl
kind_again kinds.Flush = refl
kind_again kinds.Barrier = refl
kind_again kinds.Send = refl
kind_again kinds.Receive = refl
kind_again kinds.Sum = refl
kind_again kinds.Min = refl
kind_again kinds.Max = refl

pub refusal_again : (why : Refusal) → refusal_of (refusal_word why) ≡ Some why
unfolding refusal_of
refusal_again refusals.BadSize = refl
refusal_again refusals.NamesSpent = refl
refusal_again refusals.Unknown = refl
refusal_again refusals.Deleted = refl
refusal_again refusals.NotMapped = refl
refusal_again refusals.SectionOpen = refl
refusal_again refusals.NotReading = refl
refusal_again refusals.NotWriting = refl
refusal_again refusals.InSection = refl
refusal_again refusals.OutOfRange = refl
refusal_again refusals.WrongSize = refl
refusal_again refusals.TooMany = refl
refusal_again refusals.Mixed = refl

pub place_again : (why : Refusal) (place : Place) → is_round place ≡ is_of_round why → FitsPlace place → place_of why (place_text place) ≡ Some place
unfolding place_of
place_again why (places.Region name) same fits = rw (← same, name_again name fits) refl
place_again why (places.Round round) same fits = rw (← same, number_again (2 ^ 64) round fits (omega arith)) refl

-- ---- what a node brings, and what a round gives

part_again : (part : Part) → FitsPart part → part_of (part_words part) ≡ Some part
unfolding part_of part_by only_bytes only_value verb_of
part_again parts.Barrier fits = refl
part_again (parts.Send bytes) fits = rw (bytes_again bytes fits) refl
part_again parts.Receive fits = refl
part_again (parts.Sum value) fits = rw (value_again64 value fits) refl
part_again (parts.Min value) fits = rw (value_again64 value fits) refl
part_again (parts.Max value) fits = rw (value_again64 value fits) refl

-- what an entry says, from its first word and the rest
unfoldable pub says : List (List ℕ) → Option What
says [] = None
says (word ∷ words) = verb_of word >>= λ verb. what_by verb words

fold_again : (round : ℕ) (fold : Fold) → IsPrintableFold fold → round < 2 ^ 64 → FitsFold fold → says (fold_words round fold) ≡ Some (whats.Came round fold)
unfolding says verb_of what_by came_by fold_by only_bytes only_value
fold_again round folds.Barrier prints lt fits = rw (number_again (2 ^ 64) round lt (omega arith)) refl
fold_again round (folds.Broadcast bytes) prints lt fits = rw (number_again (2 ^ 64) round lt (omega arith), bytes_again bytes fits) refl
fold_again round (folds.Sum value) prints lt fits = rw (number_again (2 ^ 64) round lt (omega arith), value_again128 value fits) refl
fold_again round (folds.Min value) prints lt fits = rw (number_again (2 ^ 64) round lt (omega arith), value_again64 value fits) refl
fold_again round (folds.Max value) prints lt fits = rw (number_again (2 ^ 64) round lt (omega arith), value_again64 value fits) refl
fold_again round folds.Mixed prints lt fits = absurd prints

-- ---- what an entry says

pub what_again : (what : What) → IsPrintableWhat what → FitsWhat what → says (what_words what) ≡ Some what
unfolding says verb_of what_by only_name name_and_size name_and_bytes name_and_two refused_of
what_again (whats.Create name size) prints fits = rw (name_again name fits.0, number_again (2 ^ 32) size fits.1 (omega (arith, fits.1))) refl
what_again (whats.Map name size) prints fits = rw (name_again name fits.0, number_again (2 ^ 32) size fits.1 (omega (arith, fits.1))) refl
what_again (whats.Unmap name) prints fits = rw (name_again name fits) refl
what_again (whats.StartRead name) prints fits = rw (name_again name fits) refl
what_again (whats.Read name seen) prints fits = rw (name_again name fits.0, bytes_again seen fits.1) refl
what_again (whats.StartWrite name) prints fits = rw (name_again name fits) refl
what_again (whats.Write name before after) prints fits = rw (name_again name fits.0, bytes_again before fits.1, bytes_again after fits.2) refl
what_again (whats.Flush name) prints fits = rw (name_again name fits) refl
what_again (whats.Deleting name) prints fits = rw (name_again name fits) refl
what_again (whats.Deleted name) prints fits = rw (name_again name fits) refl
what_again (whats.Come part) prints fits = rw (part_again part fits) refl
what_again (whats.Came round fold) prints fits = fold_again round fold prints fits.0 fits.1
what_again (whats.Refused kind place why) prints fits = rw (kind_again kind, refusal_again why, place_again why place prints fits) refl
