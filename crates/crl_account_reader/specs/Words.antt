-- Which word is meant.
use Rattle.std.specs.Prelude.{ℕ, List, [], ◌∷◌, codes, Option, find}
use Rattle.std.specs.Str.{bytes_eq}
use Rattle.crl_model.specs.declared.call.CallKind.{CallKind}
use Rattle.crl_model.specs.declared.call.CallKind.TheVariants as kinds
use Rattle.crl_model.specs.declared.call.Refusal.{Refusal}
use Rattle.crl_model.specs.declared.call.Refusal.TheVariants as refusals
use Rattle.crl_account.specs.Text.{call_word, refusal_word}
use Rattle.crl_account_reader.specs.declared.words.Verb.{Verb}
use Rattle.crl_account_reader.specs.declared.words.Verb.TheVariants as verbs

abbrev pub verb_word : Verb → List ℕ
verb_word verbs.StartRead = codes "startread"
verb_word verbs.Read = codes "read"
verb_word verbs.StartWrite = codes "startwrite"
verb_word verbs.Write = codes "write"
verb_word verbs.Create = codes "create"
verb_word verbs.Map = codes "map"
verb_word verbs.Unmap = codes "unmap"
verb_word verbs.Flush = codes "flush"
verb_word verbs.Deleting = codes "deleting"
verb_word verbs.Deleted = codes "deleted"
verb_word verbs.Come = codes "come"
verb_word verbs.Barrier = codes "barrier"
verb_word verbs.Broadcast = codes "broadcast"
verb_word verbs.Send = codes "send"
verb_word verbs.Receive = codes "receive"
verb_word verbs.Sum = codes "sum"
verb_word verbs.Min = codes "min"
verb_word verbs.Max = codes "max"
verb_word verbs.Refused = codes "refused"

abbrev pub all_verbs : List Verb
all_verbs = verbs.StartRead ∷ verbs.Read ∷ verbs.StartWrite ∷ verbs.Write ∷ verbs.Create ∷ verbs.Map ∷ verbs.Unmap ∷ verbs.Flush ∷ verbs.Deleting ∷ verbs.Deleted ∷ verbs.Come ∷ verbs.Barrier ∷ verbs.Broadcast ∷ verbs.Send ∷ verbs.Receive ∷ verbs.Sum ∷ verbs.Min ∷ verbs.Max ∷ verbs.Refused ∷ []

abbrev pub all_kinds : List CallKind
all_kinds = kinds.Create ∷ kinds.Delete ∷ kinds.Map ∷ kinds.Unmap ∷ kinds.Read ∷ kinds.EndRead ∷ kinds.Write ∷ kinds.Put ∷ kinds.Add ∷ kinds.EndWrite ∷ kinds.Flush ∷ kinds.Barrier ∷ kinds.Send ∷ kinds.Receive ∷ kinds.Sum ∷ kinds.Min ∷ kinds.Max ∷ []

abbrev pub all_refusals : List Refusal
all_refusals = refusals.BadSize ∷ refusals.NamesSpent ∷ refusals.Unknown ∷ refusals.Deleted ∷ refusals.NotMapped ∷ refusals.SectionOpen ∷ refusals.NotReading ∷ refusals.NotWriting ∷ refusals.InSection ∷ refusals.OutOfRange ∷ refusals.WrongSize ∷ refusals.TooMany ∷ refusals.Mixed ∷ []

-- the verb, the kind of call and the reason that a word stands for
unfoldable pub verb_of : List ℕ → Option Verb
verb_of word = find (λ verb. bytes_eq (verb_word verb) word) all_verbs

unfoldable pub kind_of : List ℕ → Option CallKind
kind_of word = find (λ kind. bytes_eq (call_word kind) word) all_kinds

unfoldable pub refusal_of : List ℕ → Option Refusal
refusal_of word = find (λ why. bytes_eq (refusal_word why) word) all_refusals
