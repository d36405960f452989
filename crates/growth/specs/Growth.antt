-- A tree that grows: what its functions promise one another.
--
--   LeafOf            the leaf of a row, empty where the tree has no such row
--   Moved, Grown      the leaves from a row on were moved; the tree has more rows, in which nothing waits
use Rattle.std.specs.Prelude.{ℕ, ◌+◌, ◌<◌, ◌≤◌, ◌≡◌, List, length}
use Rattle.poly.specs.Words.{word_at}
use Rattle.tree.specs.declared.Node.{Node}
use Rattle.tree.specs.Tree.{tag_at, Tree}

-- the leaf of a row in a tree of n rows; an empty record where there is no such row
pub record LeafOf (n : ℕ) (w : List ℕ) (i : ℕ) (r : Node) : Type 0 where
  pub there : i < n → (r.key ≡ word_at w (n + i)) × (r.tag ≡ tag_at w (n + i))
  pub none : n ≤ i → r.key ≡ 0

-- of a tree of n rows, the leaves from row i on are where a tree of m rows has them, and nothing waits in its other rows; the
-- records before them are as they were
pub record Moved (n m : ℕ) (w : List ℕ) (i : ℕ) (w' : List ℕ) : Type 0 where
  pub as_long : length w' ≡ length w
  pub moved : (y : ℕ) → i ≤ y → y < n → (word_at w' (m + y) ≡ word_at w (n + y)) × (tag_at w' (m + y) ≡ tag_at w (n + y))
  pub empty : (y : ℕ) → i ≤ y → n ≤ y → y < m → word_at w' (m + y) ≡ 0
  pub before : (y : ℕ) → y < m + i → (word_at w' y ≡ word_at w y) × (tag_at w' y ≡ tag_at w y)

-- a tree of m rows in which the first n wait as they did, and the others not at all
pub record Grown (n m : ℕ) (w w' : List ℕ) : Type 0 where
  pub as_long : length w' ≡ length w
  pub tree : Tree m w'
  pub moved : (y : ℕ) → y < n → (word_at w' (m + y) ≡ word_at w (n + y)) × (tag_at w' (m + y) ≡ tag_at w (n + y))
  pub empty : (y : ℕ) → n ≤ y → y < m → word_at w' (m + y) ≡ 0
