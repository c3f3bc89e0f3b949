-- What the crates above may cite: a region keeps its size, and a table stands where it was put.
pub use Rattle.crl_home.proofs.Sizes.{ask_size, return_size, release_size, start_size, end_read_size, end_write_size}
use Rattle.std.proofs.Common.{◌≡◌, ℕ, zero, suc, ◌-◌, List, ◌==◌, arith, ◌∙◌}
use Rattle.std.proofs.lemmas.Bool.{cond-false, ne_eqb}
use Rattle.std.specs.Prelude.{IsSome}
use Rattle.std.specs.declared.option.Option.{Option}
use Rattle.std.specs.declared.option.Option.TheVariants.{None, Some}
use Rattle.crl_model.specs.declared.name.Name.{Name}
use Rattle.crl_protocol.specs.Places.{at, put}
use Rattle.crl_protocol.specs.Home.{Home}
use Rattle.crl_protocol.specs.Node.{at_serial}
use Rattle.crl_home.specs.HomesState.{HomesState, with_table}
use Rattle.crl_home.proofs.Putting.{at_put}

there : (s : ℕ) (v : Option Home) (xs : List (Option Home)) → IsSome (at_serial s xs) → at_serial s (put (s - 1) v xs) ≡ v
there zero v xs i = grind arith
there (suc s) v xs i = cond-false (suc s == 0) None (at (suc s - 1) (put (suc s - 1) v xs)) (ne_eqb (suc s) 0 (λ w. omega arith)) ∙ at_put (suc s - 1) v xs

-- the table of a region that is there is the one that was put
pub table_is_put : (name : Name) (h : Home) (s : HomesState) → IsSome (at_serial name.serial s.homes) → at_serial name.serial (with_table name h s).homes ≡ Some h
table_is_put name h s i = there name.serial (Some h) s.homes i
