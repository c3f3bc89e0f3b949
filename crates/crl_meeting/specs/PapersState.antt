-- Papers for copies of the same bytes.
use Rattle.std.specs.Prelude.{ℕ, ◌≤◌, List, All}

-- each has room for so many bytes, and there are so many
pub record PapersState : Type 0 where
  pub size : ℕ
  pub count : ℕ

abbrev pub AreOfSize : ℕ → List ℕ → Type 0
AreOfSize size papers = All (λ paper. size ≤ paper) papers

-- there are papers for so many copies of so many bytes
pub record HasFoldPapers (size count : ℕ) (papers : PapersState) : Type 0 where
  pub fit : size ≤ papers.size
  pub enough : count ≤ papers.count
