-- What is read is a script.
use Rattle.std.proofs.Common.{◌≡◌, ℕ, ◌<◌, ◌≤◌, Bool, true, false, cond, zero, suc, List, [], ◌∷◌, length, Option, Some, None, Result, Ok, Err, refl, ap, subst, arith}
use Rattle.std.specs.Prelude.{nat_le, ◌==◌, ℤ, pos, negsuc}
use Rattle.hex.specs.Hex.{decode_of}
use Rattle.hex.specs.declared.error.FromHexError.{FromHexError}
use Rattle.hex.proofs.HexLemmas.{decode_of-ok}
use Rattle.crl_model.specs.declared.name.Name.{Name}
use Rattle.crl_model.specs.declared.call.Call as calls
use Rattle.crl_model.specs.declared.call.Call.TheVariants as call
use Rattle.crl_model.specs.declared.call.CallKind.{CallKind}
use Rattle.crl_model.specs.declared.call.CallKind.TheVariants as kind
use Rattle.crl_model.specs.declared.collective.Part.{Part}
use Rattle.crl_model.specs.declared.collective.Part.TheVariants as part
use Rattle.crl_script.specs.declared.fault.ScriptWhy.{ScriptWhy}
use Rattle.crl_script.specs.declared.fault.ScriptWhy.TheVariants.{BadNumber, BadHex}
use Rattle.crl_model.specs.declared.statement.Statement.{Statement}
use Rattle.crl_model.specs.declared.statement.Statement.TheVariants.{Call, Put, Add}
use Rattle.crl_script.specs.Again.{IsCall, IsStatement, IsPart, IsSomeBytes, IsValue}
use Rattle.crl_script.specs.Labels.{Names}
use Rattle.crl_script.specs.Reading.{◌>>=◌}
use Rattle.crl_script.specs.Statements.{statement_of, one_of, about_of, call_of, region_of, three_of, put_of, add_of, alone_of, called, come}
use Rattle.crl_script.proofs.WordLengths.{AllWithin}
use Rattle.crl_script.specs.Words.{at_most, natural_of, number_of, positive, negative, value_of, decoded, bytes_of}

-- the parts of what was read in two steps
pub bind_ok : {A B : Type 0} (r : Result A ScriptWhy) (f : A → Result B ScriptWhy) (y : B) → (r >>= f) ≡ Ok y → (x : A) × (r ≡ Ok x) × (f x ≡ Ok y)
bind_ok (Ok x) f y h = (x, refl, h)
bind_ok (Err why) f y h = cc h

-- the test by which no fault came
pub chosen : {A : Type 0} (b : Bool) (why : ScriptWhy) (r : Result A ScriptWhy) (y : A) → cond b (Err why) r ≡ Ok y → r ≡ Ok y
chosen true why r y h = cc h
chosen false why r y h = h

pub chosen_yes : {A : Type 0} (b : Bool) (why : ScriptWhy) (r : Result A ScriptWhy) (y : A) → cond b r (Err why) ≡ Ok y → r ≡ Ok y
chosen_yes true why r y h = h
chosen_yes false why r y h = cc h

below : (limit : ℕ) (why : ScriptWhy) (o : Option ℕ) (n : ℕ) → at_most limit why o ≡ Ok n → n ≤ limit
below limit why None n h = cc h
below limit why (Some m) n h = go (nat_le m limit) refl h where
  go : (b : Bool) → nat_le m limit ≡ b → cond b (Ok m) (Err why) ≡ Ok n → n ≤ limit
  go true e h = let same : m ≡ n = cc h in grind arith
  go false e h = cc h

pub number_below : (limit : ℕ) (why : ScriptWhy) (word : List ℕ) (n : ℕ) → number_of limit why word ≡ Ok n → n ≤ limit
unfolding number_of
number_below limit why word n h = below limit why (natural_of word) n h

negative_small : (n : ℕ) (z : ℤ) → n ≤ 9223372036854775808 → negative (Ok n) ≡ Ok z → IsValue z
negative_small zero z h e = let same : pos 0 ≡ z = cc e in subst IsValue same (omega arith)
negative_small (suc n) z h e = let same : negsuc n ≡ z = cc e in subst IsValue same (omega arith)

value_small : (word : List ℕ) (z : ℤ) → value_of word ≡ Ok z → IsValue z
unfolding value_of
value_small [] z h = cc h
value_small (b ∷ bs) z h = go (b == 45) h where
  plus : (r : Result ℕ ScriptWhy) → ((n : ℕ) → r ≡ Ok n → n ≤ 9223372036854775807) → positive r ≡ Ok z → IsValue z
  plus (Ok n) most e = let same : pos n ≡ z = cc e in let small = most n refl in subst IsValue same (omega arith)
  plus (Err why) most e = cc e

  minus : (r : Result ℕ ScriptWhy) → ((n : ℕ) → r ≡ Ok n → n ≤ 9223372036854775808) → negative r ≡ Ok z → IsValue z
  minus (Ok n) most e = negative_small n z (most n refl) e
  minus (Err why) most e = cc e

  go : (t : Bool) → cond t (negative (number_of 9223372036854775808 BadNumber bs)) (positive (number_of 9223372036854775807 BadNumber (b ∷ bs))) ≡ Ok z → IsValue z
  go true h = minus (number_of 9223372036854775808 BadNumber bs) (number_below 9223372036854775808 BadNumber bs) h
  go false h = plus (number_of 9223372036854775807 BadNumber (b ∷ bs)) (number_below 9223372036854775807 BadNumber (b ∷ bs)) h

decoded_ok : (r : Result (List ℕ) FromHexError) (bytes : List ℕ) → decoded r ≡ Ok bytes → r ≡ Ok bytes
decoded_ok (Ok bs) bytes h = let same : bs ≡ bytes = cc h in ap Ok same
decoded_ok (Err why) bytes h = cc h

bytes_are : (word bytes : List ℕ) → bytes_of word ≡ Ok bytes → IsSomeBytes bytes × (length bytes ≤ length word)
unfolding bytes_of
bytes_are word bytes h = go (length word == 0) refl h where
  go : (b : Bool) → (length word == 0) ≡ b → cond b (Err BadHex) (decoded (decode_of word)) ≡ Ok bytes → IsSomeBytes bytes × (length bytes ≤ length word)
  go true e h = cc h
  go false e h =
      let ok = decode_of-ok word bytes (decoded_ok (decode_of word) bytes h) in
      let some : 0 < length word = grind arith in
      let twice = ok.2 in
      ((omega arith, ok.3), omega arith)

-- calls about a region
about_call : (k : CallKind) (name : Name) (c : calls.Call) → call_of k name ≡ Ok c → IsCall c
unfolding call_of
about_call kind.Delete name c h = let same : call.Delete name ≡ c = cc h in subst IsCall same tt
about_call kind.Map name c h = let same : call.Map name ≡ c = cc h in subst IsCall same tt
about_call kind.Unmap name c h = let same : call.Unmap name ≡ c = cc h in subst IsCall same tt
about_call kind.Flush name c h = let same : call.Flush name ≡ c = cc h in subst IsCall same tt
about_call kind.Read name c h = let same : call.StartRead name ≡ c = cc h in subst IsCall same tt
about_call kind.EndRead name c h = let same : call.EndRead name ≡ c = cc h in subst IsCall same tt
about_call kind.Write name c h = let same : call.StartWrite name ≡ c = cc h in subst IsCall same tt
about_call kind.EndWrite name c h = let same : call.EndWrite name [] ≡ c = cc h in subst IsCall same refl
about_call k name c h = cc h

about_is : (known : Names) (k : CallKind) (label : List ℕ) (c : calls.Call) → about_of known k label ≡ Ok c → IsCall c
unfolding about_of
about_is known k label c h = let r = bind_ok (region_of known label) (call_of k) c h in about_call k r.0 c r.2

one_is : (known : Names) (k : CallKind) (word : List ℕ) (c : calls.Call) → one_of known k word ≡ Ok c → IsCall c
unfolding one_of
one_is known kind.Send word c h =
    let r = bind_ok (bytes_of word) (λ bytes. Ok (call.Come (part.Send bytes))) c h in
    let same : call.Come (part.Send r.0) ≡ c = cc r.2 in subst IsCall same (bytes_are word r.0 r.1).0
one_is known kind.Sum word c h =
    let r = bind_ok (value_of word) (λ value. Ok (call.Come (part.Sum value))) c h in
    let same : call.Come (part.Sum r.0) ≡ c = cc r.2 in subst IsCall same (value_small word r.0 r.1)
one_is known kind.Min word c h =
    let r = bind_ok (value_of word) (λ value. Ok (call.Come (part.Min value))) c h in
    let same : call.Come (part.Min r.0) ≡ c = cc r.2 in subst IsCall same (value_small word r.0 r.1)
one_is known kind.Max word c h =
    let r = bind_ok (value_of word) (λ value. Ok (call.Come (part.Max value))) c h in
    let same : call.Come (part.Max r.0) ≡ c = cc r.2 in subst IsCall same (value_small word r.0 r.1)
one_is known k word c h = about_is known k word c h

put_is : (known : Names) (label offset hex : List ℕ) (s : Statement) → length hex ≤ 140000 → put_of known label offset hex ≡ Ok s → IsStatement s
unfolding put_of
put_is known label offset hex s short h =
    let a = bind_ok (region_of known label) (λ name. number_of 4294967295 BadNumber offset >>= λ n. bytes_of hex >>= λ bytes. Ok (Put name n bytes)) s h in
    let b = bind_ok (number_of 4294967295 BadNumber offset) (λ n. bytes_of hex >>= λ bytes. Ok (Put a.0 n bytes)) s a.2 in
    let c = bind_ok (bytes_of hex) (λ bytes. Ok (Put a.0 b.0 bytes)) s b.2 in
    let same : Put a.0 b.0 c.0 ≡ s = cc c.2 in
    let most = number_below 4294967295 BadNumber offset b.0 b.1 in
    let bytes = bytes_are hex c.0 c.1 in
    subst IsStatement same (omega arith, bytes.0, omega arith)

add_is : (known : Names) (label offset number : List ℕ) (s : Statement) → add_of known label offset number ≡ Ok s → IsStatement s
unfolding add_of
add_is known label offset number s h =
    let a = bind_ok (region_of known label) (λ name. number_of 4294967295 BadNumber offset >>= λ n. number_of 18446744073709551615 BadNumber number >>= λ k. Ok (Add name n k)) s h in
    let b = bind_ok (number_of 4294967295 BadNumber offset) (λ n. number_of 18446744073709551615 BadNumber number >>= λ k. Ok (Add a.0 n k)) s a.2 in
    let c = bind_ok (number_of 18446744073709551615 BadNumber number) (λ k. Ok (Add a.0 b.0 k)) s b.2 in
    let same : Add a.0 b.0 c.0 ≡ s = cc c.2 in
    let most = number_below 4294967295 BadNumber offset b.0 b.1 in
    let greatest = number_below 18446744073709551615 BadNumber number c.0 c.1 in
    subst IsStatement same (omega arith, omega arith)

three_is : (known : Names) (k : CallKind) (a b c : List ℕ) (s : Statement) → length c ≤ 140000 → three_of known k a b c ≡ Ok s → IsStatement s
unfolding three_of
three_is known kind.Put a b c s short h = put_is known a b c s short h
three_is known kind.Add a b c s short h = add_is known a b c s h
three_is known k a b c s short h = cc h

alone_is : (k : CallKind) (p : Part) → alone_of k ≡ Ok p → IsPart p
unfolding alone_of
alone_is kind.Barrier p h = let same : part.Barrier ≡ p = cc h in subst IsPart same tt
alone_is kind.Receive p h = let same : part.Receive ≡ p = cc h in subst IsPart same tt
alone_is k p h = cc h

called_is : (r : Result calls.Call ScriptWhy) (s : Statement) → ((c : calls.Call) → r ≡ Ok c → IsCall c) → called r ≡ Ok s → IsStatement s
called_is (Ok c) s is h = let same : Call c ≡ s = cc h in subst IsStatement same (is c refl)
called_is (Err why) s is h = cc h

come_is : (r : Result Part ScriptWhy) (c : calls.Call) → ((p : Part) → r ≡ Ok p → IsPart p) → come r ≡ Ok c → IsCall c
come_is (Ok p) c is h = let same : call.Come p ≡ c = cc h in subst IsCall same (is p refl)
come_is (Err why) c is h = cc h

pub statement_is : (known : Names) (k : CallKind) (words : List (List ℕ)) (s : Statement) → AllWithin 140000 words → statement_of known k words ≡ Ok s → IsStatement s
unfolding statement_of
statement_is known k [] s short h = called_is (come (alone_of k)) s (λ c e. come_is (alone_of k) c (alone_is k) e) h
statement_is known k (a ∷ []) s short h = called_is (one_of known k a) s (one_is known k a) h
statement_is known k (a ∷ b ∷ []) s short h = cc h
statement_is known k (a ∷ b ∷ c ∷ []) s short h = three_is known k a b c s short.1.1.0 h
statement_is known k (a ∷ b ∷ c ∷ d ∷ words) s short h = cc h
