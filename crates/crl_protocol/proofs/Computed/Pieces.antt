-- A worked run is computed: a region of two pieces.
use Rattle.std.proofs.Common.{ℕ, ◌-◌, List, [], ◌∷◌, ◌++◌, replicate, refl}
use Rattle.crl_model.specs.declared.entry.What.TheVariants as what
use Rattle.crl_model.specs.declared.statement.Statement.{Statement}
use Rattle.crl_protocol.specs.Compute.{everything}
use Rattle.crl_protocol.specs.Chosen.{running, turns_from, always_first, pick_at}
use Rattle.crl_protocol.specs.Ends.{Reported}
use Rattle.crl_protocol.specs.Worked.Words.{Gives, r0_1, create, map, flush, write, endwrite, change, by, holds}

abbrev big_script : ℕ → List (List Statement)
big_script size =
    (create size ∷ [])
    ∷ (map r0_1 ∷ write r0_1 ∷ change r0_1 (size - 1) (7 ∷ []) ∷ endwrite r0_1 ∷ flush r0_1 ∷ [])
    ∷ []

abbrev after : ℕ → List ℕ
after size = replicate (size - 1) 0 ++ 7 ∷ []

abbrev big_report : ℕ → ℕ → ℕ → Reported
big_report size events messages = record {
  entries =
      by 0 (what.Create r0_1 size)
      ∷ by 1 (what.Map r0_1 size)
      ∷ by 1 (what.StartWrite r0_1)
      ∷ by 1 (what.Write r0_1 (replicate size 0) (after size))
      ∷ by 1 (what.Flush r0_1)
      ∷ [];
  regions = holds r0_1 (after size) ∷ [];
  blocked = [];
  events = events;
  messages = messages;
}

pub small : Gives 2 16 (big_script 2) always_first (big_report 2 17 5)
unfolding everything
small = record {
  end = turns_from always_first 1 30 (running 2 16 (big_script 2));
  chosen = record { turns = 30; reached = refl; finished = refl };
  reported = refl;
}

pub big : Gives 2 16 (big_script 32769) always_first (big_report 32769 21 7)
unfolding everything
big = record {
  end = turns_from always_first 1 30 (running 2 16 (big_script 32769));
  chosen = record { turns = 30; reached = refl; finished = refl };
  reported = refl;
}

pub second_first : Gives 2 16 (big_script 32769) (pick_at (replicate 10 0 ++ 1 ∷ [])) (big_report 32769 21 7)
unfolding everything
second_first = record {
  end = turns_from (pick_at (replicate 10 0 ++ 1 ∷ [])) 1 30 (running 2 16 (big_script 32769));
  chosen = record { turns = 30; reached = refl; finished = refl };
  reported = refl;
}
