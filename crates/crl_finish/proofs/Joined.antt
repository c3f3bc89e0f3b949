-- Statements one after another: whether they are unnested, and to how many rounds they come.
use Rattle.std.proofs.Common.{◌≡◌, ◌+◌, true, not, if◌then◌else◌, List, [], ◌∷◌, ◌++◌, arith}
use Rattle.std.proofs.lemmas.Bool.{and_parts, and_from}
use Rattle.crl_model.specs.declared.statement.Statement.{Statement}
use Rattle.crl_finish.specs.Unnested.{Within, Outside, Inside, within_start, is_end_of, is_outer, is_unnested_from, rounds_in}

pub unnested_join : (w : Within) (xs ys : List Statement) → is_unnested_from w xs ≡ true → is_unnested_from Outside ys ≡ true → is_unnested_from w (xs ++ ys) ≡ true
unnested_join Outside [] ys e f = f
unnested_join (Inside write name) [] ys e f = cc
unnested_join Outside (s ∷ xs) ys e f = unnested_join (within_start s) xs ys e f
unnested_join (Inside write name) (s ∷ xs) ys e f =
    let parts = and_parts (not (is_outer s)) _ e in
    and_from (not (is_outer s)) _ parts.0 (unnested_join (if is_end_of write name s then Outside else Inside write name) xs ys parts.1 f)

pub rounds_join : (xs ys : List Statement) → rounds_in (xs ++ ys) ≡ rounds_in xs + rounds_in ys
rounds_join [] ys = omega arith
rounds_join (s ∷ xs) ys = let rest = rounds_join xs ys in omega arith
