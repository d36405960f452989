-- The tree of rows, in the work array: what the engine's own functions promise one another. No caller of a public function meets it.
--
-- Each row is a term that is multiplied with the columns one after the other. Its next product waits in a leaf: the key is the
-- product's word + 1, or 0 where nothing waits; the tag is row · 2^32 + column. With n rows the leaves are the records n to
-- 2n − 1, and every record from 1 to n − 1 is a copy of the greater of its two children, the records 2j and 2j + 1.
--
--   tag_at w j            the tag of record j; its key is `word_at w j`
--   node_at w j           record j
--   written r j w         w with r in record j
--   Copy w i j            record i is a copy of record j
--   Holds w j             record j is a copy of a child, and neither child's key is greater
--   Tree n w              every record from 1 to n − 1 holds
--   Waits rows cols w i   the leaf of row i is empty, or has its own row, a column that is there, and the key of their product
--   pending, awaited      the products for which row i waits; those for which n rows from row i on wait
--   Sides p rows cols     words below 2^63 and numbers below p
--   Live                  all that the tree's functions ask for
--   Above, Settled        the way from a record to the root; a tree that holds but on such a way
--   Greater, Next, Climbed, Taken, Added, Planted, Built, Started   what the functions promise
use Rattle.std.specs.Prelude.{ℕ, zero, suc, ◌+◌, ◌-◌, ◌*◌, ◌/◌, ◌%◌, ◌^◌, ◌<◌, ◌≤◌, ◌≡◌, List, [], ◌∷◌, ◌++◌, ◌⊎◌, length, get_or, set}
use Rattle.algebra.specs.Monomials.{Numbers}
use Rattle.algebra.specs.Polynomials.{term, Poly, count, Equal, times, mul}
use Rattle.poly.specs.Words.{records, word_at, coef_at, span}
use Rattle.tree.specs.declared.Node.{Node}

-- the tag of record j, its second word
abbrev pub tag_at : List ℕ → ℕ → ℕ
tag_at w j = get_or w (2 * j + 1) 0

abbrev pub node_at : List ℕ → ℕ → Node
node_at w j = record { key = word_at w j; tag = tag_at w j }

abbrev pub written : Node → ℕ → List ℕ → List ℕ
written r j w = set (set w (2 * j) r.key) (2 * j + 1) r.tag

pub record Copy (w : List ℕ) (i j : ℕ) : Type 0 where
  pub key : word_at w i ≡ word_at w j
  pub tag : tag_at w i ≡ tag_at w j

pub record Holds (w : List ℕ) (j : ℕ) : Type 0 where
  pub first : word_at w (2 * j) ≤ word_at w j
  pub second : word_at w (2 * j + 1) ≤ word_at w j
  pub copies : Copy w j (2 * j) ⊎ Copy w j (2 * j + 1)

pub record Tree (n : ℕ) (w : List ℕ) : Type 0 where
  pub holds : (j : ℕ) → 1 ≤ j → j < n → Holds w j

-- the row and the column of a tag
abbrev pub row_of : ℕ → ℕ
row_of tag = tag / 2 ^ 32

abbrev pub column_of : ℕ → ℕ
column_of tag = tag % 2 ^ 32

-- f, or nothing where the key is 0
abbrev pub unless_empty : ℕ → Poly Numbers → Poly Numbers
unless_empty zero f = []
unless_empty (suc k) f = f

module _ (rows cols : List ℕ) where
  pub record Product (w : List ℕ) (i : ℕ) : Type 0 where
    pub row : row_of (tag_at w (records rows + i)) ≡ i
    pub column : column_of (tag_at w (records rows + i)) < records cols
    pub key : word_at w (records rows + i) ≡ word_at rows i + word_at cols (column_of (tag_at w (records rows + i))) + 1

  pub record Waits (w : List ℕ) (i : ℕ) : Type 0 where
    pub waits : (word_at w (records rows + i) ≡ 0) ⊎ Product w i

  abbrev pub pending : List ℕ → ℕ → Poly Numbers
  pending w i =
      let column = column_of (tag_at w (records rows + i)) in
      unless_empty (word_at w (records rows + i))
      (times (term (word_at rows i) (coef_at rows i)) (span cols column (records cols - column)))

  abbrev pub awaited : List ℕ → ℕ → ℕ → Poly Numbers
  awaited w i zero = []
  awaited w i (suc n) = pending w i ++ awaited w (suc i) n

  pub record Sides (p : ℕ) : Type 0 where
    pub rows_words : (i : ℕ) → i < records rows → word_at rows i < 2 ^ 63
    pub rows_coefs : (i : ℕ) → i < records rows → coef_at rows i < p
    pub cols_words : (i : ℕ) → i < records cols → word_at cols i < 2 ^ 63
    pub cols_coefs : (i : ℕ) → i < records cols → coef_at cols i < p
    pub few : (records rows < 2 ^ 32) × (records cols < 2 ^ 32)

  pub record Live (w : List ℕ) : Type 0 where
    pub long : 4 * records rows ≤ length w
    pub tree : Tree (records rows) w
    pub waiting : (i : ℕ) → i < records rows → Waits w i

-- What the tree's functions promise

-- record j is above record i: it is met on the way from i to the root
pub record Above (i j : ℕ) : Type 0 where
  pub steps : ℕ
  pub place : j ≡ i / 2 ^ suc steps

-- every record from 1 to n − 1 holds, but perhaps not those above record i
pub record Settled (n i : ℕ) (w : List ℕ) : Type 0 where
  pub settled : (j : ℕ) → 1 ≤ j → j < n → (Above i j → ⊥) → Holds w j

-- the greater of two records: their keys and tags are given, and r is the answer
pub record Greater (a b r : Node) : Type 0 where
  pub first : a.key ≤ r.key
  pub second : b.key ≤ r.key
  pub copies : (r ≡ a) ⊎ (r ≡ b)

-- the record after the one at a column: the product with the next column, or an empty one
pub record Next (cols : List ℕ) (word column tag : ℕ) (r : Node) : Type 0 where
  pub next : ((records cols ≡ column + 1) × (r.key ≡ 0)) ⊎ ((column + 1 < records cols) × (r.key ≡ word + word_at cols (column + 1) + 1) × (r.tag ≡ tag + 1))

-- leaf x is what was written, the other leaves are as they were, and every record but those above e holds, where e is the root
-- or has the key k
pub record Climbed (n x key tag k : ℕ) (w w' : List ℕ) (e : ℕ) : Type 0 where
  pub as_long : length w' ≡ length w
  pub from : 1 ≤ e
  pub within : e < 2 * n
  pub settled : Settled n e w'
  pub found : (e ≡ 1) ⊎ (word_at w' e ≡ k)
  pub keyed : word_at w' x ≡ key
  pub tagged : tag_at w' x ≡ tag
  pub others : (y : ℕ) → n ≤ y → y < 2 * n → (y ≡ x → ⊥) → (word_at w' y ≡ word_at w y) × (tag_at w' y ≡ tag_at w y)

-- what was taken is r times the monomial of key k, modulo p; no other monomial went; nothing is left there where the columns
-- fall and no key was greater; and a leaf that was empty still is
pub record Taken (p : ℕ) (rows cols : List ℕ) (k : ℕ) (w w' : List ℕ) (r : ℕ) : Type 0 where
  pub as_long : length w' ≡ length w
  pub live : Live rows cols w'
  pub small : r < p
  pub sums : Equal p (awaited rows cols w 0 (records rows)) (term (k - 1) r ∷ awaited rows cols w' 0 (records rows))
  pub counts : (m : ℕ) → (m ≡ k - 1 → ⊥) → count m (awaited rows cols w 0 (records rows)) ≡ count m (awaited rows cols w' 0 (records rows))
  pub lower : ((i : ℕ) → suc i < records cols → word_at cols (suc i) < word_at cols i) → word_at w 1 ≤ k → word_at w' 1 < k
  pub empty : (i : ℕ) → i < records rows → word_at w (records rows + i) ≡ 0 → word_at w' (records rows + i) ≡ 0

-- one more row waits for its products from a column on, and what waited before still does; no key is k or greater
pub record Added (rows cols : List ℕ) (row column k : ℕ) (w w' : List ℕ) : Type 0 where
  pub as_long : length w' ≡ length w
  pub live : Live rows cols w'
  pub before : Poly Numbers
  pub after : Poly Numbers
  pub was : awaited rows cols w 0 (records rows) ≡ before ++ after
  pub becomes : awaited rows cols w' 0 (records rows) ≡ before ++ (times (term (word_at rows row) (coef_at rows row)) (span cols column (records cols - column)) ++ after)
  pub others : (i : ℕ) → i < records rows → (i ≡ row → ⊥) → word_at w' (records rows + i) ≡ word_at w (records rows + i)
  pub lower : word_at w' 1 < k

-- the leaves of the first n rows wait for the product with a word
pub record Planted (rows : List ℕ) (word : ℕ) (w : List ℕ) (n : ℕ) (w' : List ℕ) : Type 0 where
  pub as_long : length w' ≡ length w
  pub within : n ≤ records rows
  pub keyed : (i : ℕ) → i < n → word_at w' (records rows + i) ≡ word_at rows i + word + 1
  pub tagged : (i : ℕ) → i < n → tag_at w' (records rows + i) ≡ i * 2 ^ 32

-- the records from j to n − 1 hold, and the leaves are as they were
pub record Built (n : ℕ) (w : List ℕ) (j : ℕ) (w' : List ℕ) : Type 0 where
  pub as_long : length w' ≡ length w
  pub holds : (i : ℕ) → j ≤ i → i < n → Holds w' i
  pub leaves : (y : ℕ) → n ≤ y → (word_at w' y ≡ word_at w y) × (tag_at w' y ≡ tag_at w y)

-- every row waits for its product with every column
pub record Started (rows cols w w' : List ℕ) : Type 0 where
  pub as_long : length w' ≡ length w
  pub live : Live rows cols w'
  pub whole : awaited rows cols w' 0 (records rows) ≡ mul (span rows 0 (records rows)) (span cols 0 (records cols))
