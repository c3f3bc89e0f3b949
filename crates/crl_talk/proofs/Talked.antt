-- A node's calls and its lines, over the events of a run.
use Rattle.std.proofs.Common.{◌≡◌, ℕ, ◌==◌, Bool, true, false, None, Some, Option, List, [], ◌∷◌, ◌++◌, if◌then◌else◌, refl, ap, sym, ◌∙◌, subst, append_assoc}
use Rattle.crl_model.specs.declared.name.Name.{Name}
use Rattle.crl_model.specs.declared.call.Call.{Call}
use Rattle.crl_model.specs.declared.call.Call.TheVariants as call
use Rattle.crl_model.specs.declared.collective.Fold.TheVariants.{Mixed}
use Rattle.crl_model.specs.declared.entry.Entry.{Entry}
use Rattle.crl_model.specs.declared.entry.What.{What}
use Rattle.crl_model.specs.declared.entry.What.TheVariants as what
use Rattle.crl_model.specs.declared.event.Event.{Event}
use Rattle.crl_model.specs.declared.message.Told.TheVariants as told
use Rattle.crl_model.specs.declared.message.DeleteTold.TheVariants as delete_told
use Rattle.crl_model.specs.Calls.{kind_of}
use Rattle.crl_protocol.specs.Sections.{Guard}
use Rattle.crl_protocol.specs.Node.{Answer, Made, Mapped, Reading, Writing, Done, Came, Refused, Wait, Free, Ready, guard_answer}
use Rattle.crl_protocol.specs.Calls.{answer_of, result_of}
use Rattle.crl_protocol.specs.Handlers.{delete_answer}
use Rattle.crl_protocol.specs.Talk.{Heard, hears, ToldCall, next_collected, answer_to, calls_told, AreLines, ArePart, AreLinesOf, nothing as none_called, answered as one_answered, waiting as one_waits, lines_of_node}
use Rattle.crl_protocol.specs.World.{World, WorldStep, step, is_enabled, account_from}
use Rattle.crl_deeds.proofs.Laws.{append_nil}
use Rattle.crl_talk.proofs.Effects.{map_lines, map_answer, delete_lines, start_line}
use Rattle.crl_talk.proofs.Going.{section_are, round_are, map_are, delete_are}
use Rattle.crl_talk.proofs.Pending.{map_asked, map_answered, delete_asked, delete_answered, Pending, for_section, for_map, for_delete, going, for_round, Goes, waits, ready}
use Rattle.crl_talk.proofs.Events.{Facts, Runs, Now, FreeStep, stays, calls, begins, ReadyStep, keeps, takes, free_step, ready_step, waits_step}

-- The lines of two accounts, and answers to calls.
lines_append : (n : ℕ) (xs ys : List Entry) → lines_of_node n (xs ++ ys) ≡ lines_of_node n xs ++ lines_of_node n ys
lines_append n [] ys = refl
lines_append n (x ∷ xs) ys = go (x.node == n) (lines_append n xs ys)
  where
    go : (b : Bool) → lines_of_node n (xs ++ ys) ≡ lines_of_node n xs ++ lines_of_node n ys
        → (if b then x.what ∷ lines_of_node n (xs ++ ys) else lines_of_node n (xs ++ ys)) ≡ (if b then x.what ∷ lines_of_node n xs else lines_of_node n xs) ++ lines_of_node n ys
    go true h = ap (λ ls. x.what ∷ ls) h
    go false h = h

answer_given : (answer : Answer) (hs : List Heard) → (answer ≡ Wait → ⊥) → answer_to answer hs ≡ Some answer
answer_given (Made q) hs h = refl
answer_given (Mapped q size) hs h = refl
answer_given (Reading g) hs h = refl
answer_given (Writing g) hs h = refl
answer_given Done hs h = refl
answer_given (Came round fold) hs h = refl
answer_given (Refused why) hs h = refl
answer_given Wait hs h = absurd (h refl)

-- What follows of a run, where node n has an answer to take, and where it waits with a call of which lines stand.
pub data ReadyTalk (n : ℕ) (answer : Answer) (hs : List Heard) (ls : List What) : Type 0 where
  taken : next_collected hs ≡ Some answer → AreLinesOf n (calls_told hs) ls → ReadyTalk n answer hs ls
  never : next_collected hs ≡ None → calls_told hs ≡ [] → ls ≡ [] → ReadyTalk n answer hs ls

pub data WaitTalk (n : ℕ) (c : Call) (front : List What) (hs : List Heard) (ls : List What) : Type 0 where
  answered_by : (answer : Answer) (its more : List What) → next_collected hs ≡ Some answer → AreLines n c answer (front ++ its) → AreLinesOf n (calls_told hs) more → ls ≡ its ++ more → WaitTalk n c front hs ls
  untold : next_collected hs ≡ None → calls_told hs ≡ [] → ArePart n c (front ++ ls) → WaitTalk n c front hs ls

-- the lines that stand are a part of those of some answer
abbrev a_guard : ℕ → Name → Guard
a_guard n q = record { node = n; name = q; number = 0; bytes = [] }

part_of : (n : ℕ) (w : World) (c : Call) (front : List What) → Pending n w c front → ArePart n c front
part_of n w c front (for_section x write q is e asked) = (guard_answer write (a_guard n q), start_line write q ∷ [], section_are n x write q (a_guard n q) is refl)
part_of n w c front (for_map q purged k lines map_asked e some) = (map_answer q told.Unknown, map_lines q told.Unknown, map_are n q told.Unknown)
part_of n w c front (for_map q purged k lines (map_answered t) e some) = (map_answer q t, [], subst (AreLines n (call.Map q) (map_answer q t)) (sym (append_nil (map_lines q t))) (map_are n q t))
part_of n w c front (for_delete q k lines delete_asked e some) = (Done, delete_lines q delete_told.Done, delete_are n q delete_told.Done)
part_of n w c front (for_delete q k lines (delete_answered d) e some) = (delete_answer d, [], subst (AreLines n (call.Delete q) (delete_answer d)) (sym (append_nil (delete_lines q d))) (delete_are n q d))
part_of n w c front (going q e few g) = (Done, what.Deleted q ∷ [], refl)
part_of n w c front (for_round part round e) = (answer_of 0 Mixed, result_of 0 (kind_of part) Mixed ∷ [], round_are n part 0 Mixed)

-- What follows of a run from a world on, in what node n hears and in its lines.
pub record Rest (n : ℕ) (w : World) (hs : List Heard) (ls : List What) : Type 0 where
  pub free : Now n w Free → AreLinesOf n (calls_told hs) ls
  pub got : (answer : Answer) → Now n w (Ready answer) → ReadyTalk n answer hs ls
  pub pends : (c : Call) (front : List What) → Pending n w c front → WaitTalk n c front hs ls

abbrev told_call : Call → Option Answer → ToldCall
told_call c answer = record { call = c; answer = answer }

begun_talk : (n : ℕ) (c : Call) (its : List What) (hs : List Heard) (ls : List What) → WaitTalk n c its hs ls → AreLinesOf n (told_call c (next_collected hs) ∷ calls_told hs) (its ++ ls)
begun_talk n c its hs ls (answered_by answer more others e lines rest split) =
    subst (λ a. AreLinesOf n (told_call c a ∷ calls_told hs) (its ++ ls)) (sym e)
    (subst (AreLinesOf n (told_call c (Some answer) ∷ calls_told hs)) (append_assoc its more others ∙ ap (λ xs. its ++ xs) (sym split)) (one_answered c answer (its ++ more) lines rest))
begun_talk n c its hs ls (untold e none part) =
    subst (λ a. AreLinesOf n (told_call c a ∷ calls_told hs) (its ++ ls)) (sym e) (subst (λ xs. AreLinesOf n (told_call c None ∷ xs) (its ++ ls)) (sym none) (one_waits c (its ++ ls) part))

free_next : (n : ℕ) (v : World) (heard : List Heard) (new : List What) (hs : List Heard) (ls : List What) → FreeStep n v heard new → Rest n v hs ls → AreLinesOf n (calls_told (heard ++ hs)) (new ++ ls)
free_next n v heard new hs ls (stays now) r = r.free now
free_next n v heard new hs ls (calls c answer its given now lines) r =
    subst (λ a. AreLinesOf n (told_call c a ∷ calls_told hs) (its ++ ls)) (sym (answer_given answer hs given)) (one_answered c answer its lines (r.free now))
free_next n v heard new hs ls (begins c its p) r = begun_talk n c its hs ls (r.pends c its p)

ready_next : (n : ℕ) (v : World) (answer : Answer) (heard : List Heard) (new : List What) (hs : List Heard) (ls : List What) → ReadyStep n v answer heard new → Rest n v hs ls → ReadyTalk n answer (heard ++ hs) (new ++ ls)
ready_next n v answer heard new hs ls (keeps now) r = r.got answer now
ready_next n v answer heard new hs ls (takes now) r = taken refl (r.free now)

wait_next : (n : ℕ) (v : World) (c : Call) (front new : List What) (hs : List Heard) (ls : List What) → Goes n c front v new → Rest n v hs ls → WaitTalk n c front hs (new ++ ls)
wait_next n v c front new hs ls (waits p) r = go (r.pends c (front ++ new) p)
  where
    go : WaitTalk n c (front ++ new) hs ls → WaitTalk n c front hs (new ++ ls)
    go (answered_by answer its more e lines rest split) =
        answered_by answer (new ++ its) more e (subst (AreLines n c answer) (append_assoc front new its) lines) rest (ap (λ xs. new ++ xs) split ∙ sym (append_assoc new its more))
    go (untold e none part) = untold e none (subst (ArePart n c) (append_assoc front new ls) part)
wait_next n v c front new hs ls (ready answer now lines) r = go (r.got answer now)
  where
    go : ReadyTalk n answer hs ls → WaitTalk n c front hs (new ++ ls)
    go (taken e rest) = answered_by answer new ls e lines rest refl
    go (never e none nothing) = untold e none
        (answer, [], subst (AreLines n c answer) (ap (λ xs. front ++ xs) (sym (append_nil new) ∙ ap (λ xs. new ++ xs) (sym nothing)) ∙ sym (append_nil (front ++ (new ++ ls)))) lines)

rest_before : (n : ℕ) (w : World) (e : Event) (es : List Event) → is_enabled e w ≡ true → Facts n w → Rest n (step e w).world (hears n (step e w).world es) (lines_of_node n (account_from (step e w).world es))
    → Rest n w (hears n w (e ∷ es)) (lines_of_node n (account_from w (e ∷ es)))
rest_before n w e es may f rest = record {
  free = λ now. subst (AreLinesOf n (calls_told (hears n w (e ∷ es)))) same_lines (free_next n s.world _ _ hs ls (free_step n w e may f now) rest);
  got = λ answer now. subst (ReadyTalk n answer (hears n w (e ∷ es))) same_lines (ready_next n s.world answer _ _ hs ls (ready_step n w e answer may f now) rest);
  pends = λ c front p.
      (let x = waits_step n w e c front may f p in
      subst (λ h. WaitTalk n c front (h ++ hs) (lines_of_node n (account_from w (e ∷ es)))) (sym x.0) (subst (WaitTalk n c front hs) same_lines (wait_next n s.world c front _ hs ls x.1 rest)));
}
  where
    s : WorldStep
    s = step e w

    hs : List Heard
    hs = hears n (step e w).world es

    ls : List What
    ls = lines_of_node n (account_from (step e w).world es)

    same_lines : lines_of_node n (step e w).entries ++ lines_of_node n (account_from (step e w).world es) ≡ lines_of_node n (account_from w (e ∷ es))
    same_lines = sym (lines_append n (step e w).entries (account_from (step e w).world es))

pub rests_of : (n : ℕ) (es : List Event) (w : World) → Runs n w es → Rest n w (hears n w es) (lines_of_node n (account_from w es))
rests_of n [] w r = record { free = λ e. none_called; got = λ answer e. never refl refl refl; pends = λ c front p. untold refl refl (subst (ArePart n c) (sym (append_nil front)) (part_of n w c front p)) }
rests_of n (e ∷ es) w r = rest_before n w e es r.1 r.0 (rests_of n es (step e w).world r.2)
