-- A pane as the list of its bytes.
use Rattle.std.specs.Prelude.{◌≡◌, ℕ, ◌<◌, List, length}
use Rattle.crl_pane.specs.declared.pane.Pane.TheInside.{Inside}

abbrev pub pane_bytes : Inside → List ℕ
pane_bytes p = p.row.items

-- the block is the pane's own, its length is the pane's, and each of its places holds a byte
pub record IsPane (p : Inside) : Type 0 where
  pub placed : p.row.at ≡ p.start.ptr
  pub full : p.row.left ≡ 0
  pub count : length p.row.items ≡ p.len
  pub some : 0 < p.len
  pub freed_at : p.right.at ≡ p.start.ptr
  pub freed_len : p.right.len ≡ p.len
  pub freed_by : p.right.alloc ≡ p.alloc
