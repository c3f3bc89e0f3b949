-- Lines of words are read as these words.
use Rattle.std.proofs.Common.{◌≡◌, ℕ, ◌-◌, zero, suc, ◌<◌, ◌≤◌, Bool, true, false, cond, List, [], ◌∷◌, ◌++◌, length, refl, sym, ap, ◌∙◌, arith, append_assoc}
use Rattle.std.specs.Prelude.{nat_lt, nat_le, ◌&&◌, filter, slice_index}
use Rattle.std.specs.List.{slice_split, onto_first, list_all}
use Rattle.crl_script.specs.Canonical.{line_text}
use Rattle.crl_script.specs.Text.{Line, lines_of, lines_in, ended, is_feed, is_blank, is_word, words_of, without_return}
use Rattle.crl_script.proofs.TextLemmas.{first_part, ended_first}

-- a byte of a word
abbrev pub is_ink : ℕ → Bool
is_ink b = nat_lt 32 b

-- a word that has a byte, and no blank
abbrev pub IsInk : List ℕ → Type 0
IsInk w = (is_word w ≡ true) × (list_all is_ink w ≡ true)

abbrev pub AllInk : List (List ℕ) → Type 0
AllInk [] = Unit {0}
AllInk (w ∷ ws) = IsInk w × AllInk ws

-- words with single spaces
abbrev pub joined : List (List ℕ) → List ℕ
joined [] = []
joined (w ∷ []) = w
joined (w ∷ v ∷ ws) = w ++ 32 ∷ joined (v ∷ ws)

pub line_is_joined : (ws : List (List ℕ)) → line_text ws ≡ joined ws ++ 10 ∷ []
line_is_joined [] = refl
line_is_joined (w ∷ []) = refl
line_is_joined (w ∷ v ∷ ws) = ap (λ (t : List ℕ). w ++ 32 ∷ t) (line_is_joined (v ∷ ws)) ∙ sym (append_assoc w (32 ∷ joined (v ∷ ws)) (10 ∷ []))

pub and_left : (a b : Bool) → (a && b) ≡ true → a ≡ true
and_left true b h = refl
and_left false b h = cc h

pub and_right : (a b : Bool) → (a && b) ≡ true → b ≡ true
and_right true b h = h
and_right false b h = cc h

ink_no_blank : (x : ℕ) → is_ink x ≡ true → is_blank x ≡ false
ink_no_blank x h = grind arith

-- up to a space stands a word
split_word : (w rest : List ℕ) → list_all is_ink w ≡ true → slice_split is_blank (w ++ 32 ∷ rest) ≡ w ∷ slice_split is_blank rest
split_word [] rest h = refl
split_word (x ∷ xs) rest h =
    ap (λ (b : Bool). cond b ([] ∷ slice_split is_blank (xs ++ 32 ∷ rest)) (onto_first x (slice_split is_blank (xs ++ 32 ∷ rest)))) (ink_no_blank x (and_left (is_ink x) (list_all is_ink xs) h))
    ∙ ap (onto_first x) (split_word xs rest (and_right (is_ink x) (list_all is_ink xs) h))

split_last : (w : List ℕ) → list_all is_ink w ≡ true → slice_split is_blank w ≡ w ∷ []
split_last [] h = refl
split_last (x ∷ xs) h =
    ap (λ (b : Bool). cond b ([] ∷ slice_split is_blank xs) (onto_first x (slice_split is_blank xs))) (ink_no_blank x (and_left (is_ink x) (list_all is_ink xs) h))
    ∙ ap (onto_first x) (split_last xs (and_right (is_ink x) (list_all is_ink xs) h))

kept : (w : List ℕ) (parts : List (List ℕ)) → is_word w ≡ true → filter is_word (w ∷ parts) ≡ w ∷ filter is_word parts
kept [] parts h = cc h
kept (x ∷ xs) parts h = refl

-- the words of words with single spaces
pub words_joined : (ws : List (List ℕ)) → AllInk ws → words_of (joined ws) ≡ ws
unfolding words_of
words_joined [] h = refl
words_joined (w ∷ []) h = ap (filter is_word) (split_last w h.0.1) ∙ kept w [] h.0.0
words_joined (w ∷ v ∷ ws) h =
    ap (filter is_word) (split_word w (joined (v ∷ ws)) h.0.1)
    ∙ kept w (slice_split is_blank (joined (v ∷ ws))) h.0.0
    ∙ ap (λ (vs : List (List ℕ)). w ∷ vs) (words_joined (v ∷ ws) h.1)

-- a byte of a line
abbrev pub is_line_byte : ℕ → Bool
is_line_byte b = nat_le 32 b

ink_is_line : (w : List ℕ) → list_all is_ink w ≡ true → list_all is_line_byte w ≡ true
ink_is_line [] h = refl
ink_is_line (x ∷ xs) h =
    let here : is_line_byte x ≡ true = let ink = and_left (is_ink x) (list_all is_ink xs) h in grind arith in
    rw here (ink_is_line xs (and_right (is_ink x) (list_all is_ink xs) h))

pub all_append : (p : ℕ → Bool) (xs ys : List ℕ) → list_all p xs ≡ true → list_all p ys ≡ true → list_all p (xs ++ ys) ≡ true
all_append p [] ys h k = k
all_append p (x ∷ xs) ys h k =
    let here : p x ≡ true = and_left (p x) (list_all p xs) h in
    rw here (all_append p xs ys (and_right (p x) (list_all p xs) h) k)

joined_bytes : (ws : List (List ℕ)) → AllInk ws → list_all is_line_byte (joined ws) ≡ true
joined_bytes [] h = refl
joined_bytes (w ∷ []) h = ink_is_line w h.0.1
joined_bytes (w ∷ v ∷ ws) h = all_append is_line_byte w (32 ∷ joined (v ∷ ws)) (ink_is_line w h.0.1) (joined_bytes (v ∷ ws) h.1)

-- up to a line feed stands a part
split_feed : (t rest : List ℕ) → list_all is_line_byte t ≡ true → slice_split is_feed (t ++ 10 ∷ rest) ≡ t ∷ slice_split is_feed rest
split_feed [] rest h = refl
split_feed (x ∷ xs) rest h =
    let high = and_left (is_line_byte x) (list_all is_line_byte xs) h in
    let no_feed : is_feed x ≡ false = grind arith in
    ap (λ (b : Bool). cond b ([] ∷ slice_split is_feed (xs ++ 10 ∷ rest)) (onto_first x (slice_split is_feed (xs ++ 10 ∷ rest)))) no_feed
    ∙ ap (onto_first x) (split_feed xs rest (and_right (is_line_byte x) (list_all is_line_byte xs) h))

byte_at : (t : List ℕ) (k : ℕ) → list_all is_line_byte t ≡ true → k < length t → 32 ≤ slice_index t k
byte_at [] k h l = absurd (omega arith)
byte_at (x ∷ xs) zero h l = let high = and_left (is_line_byte x) (list_all is_line_byte xs) h in grind arith
byte_at (x ∷ xs) (suc k) h l = byte_at xs k (and_right (is_line_byte x) (list_all is_line_byte xs) h) (omega arith)

no_return : (t : List ℕ) → list_all is_line_byte t ≡ true → without_return t ≡ t
unfolding without_return
no_return [] h = refl
no_return (x ∷ xs) h =
    let high : 32 ≤ slice_index (x ∷ xs) (length (x ∷ xs) - 1) = byte_at (x ∷ xs) (length (x ∷ xs) - 1) h (omega arith) in
    grind arith

-- a line of words
abbrev pub line_of_words : List (List ℕ) → Line
line_of_words ws = record { size = length (joined ws); bytes = joined ws }

-- a line, and the lines behind it
pub lines_step : (ws : List (List ℕ)) (rest : List ℕ) → AllInk ws → lines_of (line_text ws ++ rest) ≡ line_of_words ws ∷ lines_of rest
unfolding lines_of
lines_step ws rest h =
    let t = joined ws in
    let clean = joined_bytes ws h in
    let some = first_part is_feed rest in
    ap (λ (text : List ℕ). lines_in (slice_split is_feed (text ++ rest))) (line_is_joined ws)
    ∙ ap (λ (text : List ℕ). lines_in (slice_split is_feed text)) (append_assoc t (10 ∷ []) rest)
    ∙ ap lines_in (split_feed t rest clean ∙ ap (λ (parts : List (List ℕ)). t ∷ parts) some.2)
    ∙ ended_first t some.0 some.1
    ∙ ap (λ (parts : List (List ℕ)). ended t ∷ lines_in parts) (sym some.2)
    ∙ ap (λ (bytes : List ℕ). record { size = length t; bytes = bytes } ∷ lines_of rest) (no_return t clean)
