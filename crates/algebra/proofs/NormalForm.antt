-- The normal form: it is the polynomial, it is normal, and it is the only one.
--
--   Small p f                every number of f is below p
--   reduced_small            reduced numbers are below p
--   below_trans              of `Below O m f`: every monomial of f is below m
--   apart, below_coef        a term below m is not at m; the coefficient at a monomial that all are below is 0
--   only_here                of a monomial and itself
--   sorted_falling, sorted_small, sorted_all, sorted-total   of `sorted`
--   norm_normal, norm_all, norm-total, norm_equal   of `norm`
--   equal_refl, equal_sym, equal_trans   of `Equal`
--   same_tails               equal polynomials with the same first term have equal rests
--   normal_unique            normal polynomials that are equal are the same list
--   norm_unique, norm_self   equal polynomials have one normal form; a normal polynomial is its own
--   equal_total              equal polynomials have the same totals
--   extract                  the normal form of a term above all the rest, and the rest
use Prim.Native.Nat.{ℕ, zero, suc, ◌+◌, ◌*◌, ◌%◌, ◌<◌}
use mathlib.Core.Path.{◌≡◌, refl, sym, ◌∙◌, ap, subst}
use mathlib.Core.List.{[], ◌∷◌}
use native.Mathlib.Nat.{mod-lt}
use native.Mathlib.Omega.{arith}
use Rattle.algebra.specs.Residues.{Same}
use Rattle.algebra.specs.Monomials.{Monomials}
use Rattle.algebra.specs.Orders.{Order, Tri, below, level, above}
use Rattle.algebra.specs.Polynomials.{Term, term, Poly, only, coef, Equal, keep, nonzero, placed, insert, sorted, norm, All, Below, Falling, Reduced, Normal}
use Rattle.algebra.proofs.All.{all_map}
use Rattle.algebra.proofs.Residues.{same_eq, same_refl, same_sym, same_trans, same_mod, same_add, same_mul, same_cancel, same_below}
use Rattle.algebra.proofs.Totals.{total, equal_by}

abbrev pub Small : {K : Monomials} → ℕ → Poly K → Type 0
Small p [] = Unit {0}
Small p (u ∷ f) = (u.num < p) × Small p f

pub reduced_small : {K : Monomials} (p : ℕ) (f : Poly K) → Reduced p f → Small p f
reduced_small p [] r = tt
reduced_small p (u ∷ f) r = (r.1, reduced_small p f r.2)

module _ {K : Monomials} {p : ℕ} where
  pub equal_refl : {f : Poly K} → Equal p f f
  equal_refl = record { equal = λ m. same_refl }

  pub equal_sym : {f g : Poly K} → Equal p f g → Equal p g f
  equal_sym e = record { equal = λ m. same_sym (e.equal m) }

  pub equal_trans : {f g h : Poly K} → Equal p f g → Equal p g h → Equal p f h
  equal_trans e d = record { equal = λ m. same_trans (e.equal m) (d.equal m) }

-- Monomials below a given one

module _ {K : Monomials} (O : Order K) where
  pub below_trans : (m n : K.Mon) → O.less m n → (f : Poly K) → Below O m f → Below O n f
  below_trans m n h f b = all_map {P = λ x. O.less x m} {Q = λ x. O.less x n} (λ x k. O.transitive x m n k h) f b

  -- a term below m is not at m
  pub apart : (m n : K.Mon) (c : ℕ) (d : Dec (n ≡ m)) → O.less n m → only d c ≡ 0
  apart m n c (yes e) h = absurd (O.irreflexive m (subst (λ x. O.less x m) e h))
  apart m n c (no k) h = refl

  pub below_coef : (m : K.Mon) (f : Poly K) → Below O m f → coef f m ≡ 0
  below_coef m [] b = refl
  below_coef m (u ∷ f) b = omega (arith, apart m u.mon u.num (K.decide u.mon m) b.0, below_coef m f b.1)

pub only_here : {A : Type 0} (m : A) (d : Dec (m ≡ m)) (c : ℕ) → only d c ≡ c
only_here m (yes e) c = refl
only_here m (no n) c = absurd (n refl)

-- Sorting

module _ {K : Monomials} (O : Order K) (p : ℕ) (pos : 0 < p) where
  module _ (P : K.Mon → Type 0) where
    placed_all : (m : K.Mon) (c : ℕ) (u : Term K) (f rest : Poly K) (t : Tri (O.less m u.mon) (m ≡ u.mon) (O.less u.mon m)) → P m →
        All P (u ∷ f) → All P rest → All P (placed O p m c u f rest t)
    placed_all m c u f rest (below h) k b r = (b.0, r)
    placed_all m c u f rest (level h) k b r = (k, b.1)
    placed_all m c u f rest (above h) k b r = (k, (b.0, b.1))

    insert_all : (m : K.Mon) (c : ℕ) (f : Poly K) → P m → All P f → All P (insert O p m c f)
    insert_all m c [] k b = (k, tt)
    insert_all m c (u ∷ f) k b = placed_all m c u f _ (O.compare m u.mon) k b (insert_all m c f k b.1)

    pub sorted_all : (f : Poly K) → All P f → All P (sorted O p f)
    sorted_all [] b = tt
    sorted_all (u ∷ f) b = insert_all u.mon u.num (sorted O p f) b.0 (sorted_all f b.1)

  placed_falling : (m : K.Mon) (c : ℕ) (u : Term K) (f : Poly K) (t : Tri (O.less m u.mon) (m ≡ u.mon) (O.less u.mon m)) →
      Falling O (u ∷ f) → Falling O (insert O p m c f) → Falling O (placed O p m c u f (insert O p m c f) t)
  placed_falling m c u f (below h) b r = (insert_all (λ n. O.less n u.mon) m c f h b.0, r)
  placed_falling m c u f (level e) b r = (subst (λ x. Below O x f) (sym e) b.0, b.1)
  placed_falling m c u f (above h) b r = ((h, below_trans O u.mon m h f b.0), b)

  insert_falling : (m : K.Mon) (c : ℕ) (f : Poly K) → Falling O f → Falling O (insert O p m c f)
  insert_falling m c [] b = (tt, tt)
  insert_falling m c (u ∷ f) b = placed_falling m c u f (O.compare m u.mon) b (insert_falling m c f b.1)

  placed_small : (m : K.Mon) (c : ℕ) (u : Term K) (f rest : Poly K) (t : Tri (O.less m u.mon) (m ≡ u.mon) (O.less u.mon m)) →
      Small p (u ∷ f) → Small p rest → Small p (placed O p m c u f rest t)
  placed_small m c u f rest (below h) s r = (s.0, r)
  placed_small m c u f rest (level e) s r = (mod-lt (c + u.num) pos, s.1)
  placed_small m c u f rest (above h) s r = (mod-lt c pos, s)

  insert_small : (m : K.Mon) (c : ℕ) (f : Poly K) → Small p f → Small p (insert O p m c f)
  insert_small m c [] s = (mod-lt c pos, tt)
  insert_small m c (u ∷ f) s = placed_small m c u f _ (O.compare m u.mon) s (insert_small m c f s.1)

  module _ (φ : K.Mon → ℕ) where
    placed-total : (m : K.Mon) (c : ℕ) (u : Term K) (f rest : Poly K) (t : Tri (O.less m u.mon) (m ≡ u.mon) (O.less u.mon m)) →
        Same p (total φ rest) (c * φ m + total φ f) → Same p (total φ (placed O p m c u f rest t)) (c * φ m + total φ (u ∷ f))
    placed-total m c u f rest (below h) r = same_trans (same_add same_refl r) (same_eq (omega arith))
    placed-total m c u f rest (level e) r =
        same_trans
        (same_add (same_mul (same_mod (c + u.num)) same_refl) same_refl)
        (same_eq (omega (arith, ap (λ x. u.num * φ x) e)))
    placed-total m c u f rest (above h) r = same_add (same_mul (same_mod c) same_refl) same_refl

    insert-total : (m : K.Mon) (c : ℕ) (f : Poly K) → Same p (total φ (insert O p m c f)) (c * φ m + total φ f)
    insert-total m c [] = same_add (same_mul (same_mod c) same_refl) same_refl
    insert-total m c (u ∷ f) = placed-total m c u f _ (O.compare m u.mon) (insert-total m c f)

    pub sorted-total : (f : Poly K) → Same p (total φ (sorted O p f)) (total φ f)
    sorted-total [] = same_refl
    sorted-total (u ∷ f) = same_trans (insert-total u.mon u.num (sorted O p f)) (same_add same_refl (sorted-total f))

  pub sorted_falling : (f : Poly K) → Falling O (sorted O p f)
  sorted_falling [] = tt
  sorted_falling (u ∷ f) = insert_falling u.mon u.num (sorted O p f) (sorted_falling f)

  pub sorted_small : (f : Poly K) → Small p (sorted O p f)
  sorted_small [] = tt
  sorted_small (u ∷ f) = insert_small u.mon u.num (sorted O p f) (sorted_small f)

-- Leaving out what is 0

module _ {K : Monomials} (P : K.Mon → Type 0) where
  keep_all : (m : K.Mon) (c : ℕ) (f : Poly K) → P m → All P f → All P (keep m c f)
  keep_all m zero f h b = b
  keep_all m (suc c) f h b = (h, b)

  nonzero_all : (f : Poly K) → All P f → All P (nonzero f)
  nonzero_all [] b = tt
  nonzero_all (u ∷ f) b = keep_all u.mon u.num (nonzero f) b.0 (nonzero_all f b.1)

module _ {K : Monomials} (O : Order K) where
  keep_normal : (p : ℕ) (m : K.Mon) (c : ℕ) (f : Poly K) → c < p → Below O m f → Normal O p f → Normal O p (keep m c f)
  keep_normal p m zero f h b n = n
  keep_normal p m (suc c) f h b n = record { falling = (b, n.falling); reduced = (omega arith, h, n.reduced) }

  nonzero_normal : (p : ℕ) (f : Poly K) → Falling O f → Small p f → Normal O p (nonzero f)
  nonzero_normal p [] d s = record { falling = tt; reduced = tt }
  nonzero_normal p (u ∷ f) d s =
      keep_normal p u.mon u.num (nonzero f) s.0 (nonzero_all (λ n. O.less n u.mon) f d.0) (nonzero_normal p f d.1 s.1)

keep-total : {K : Monomials} (φ : K.Mon → ℕ) (m : K.Mon) (c : ℕ) (f : Poly K) → total φ (keep m c f) ≡ c * φ m + total φ f
keep-total φ m zero f = omega arith
keep-total φ m (suc c) f = refl

pub nonzero-total : {K : Monomials} (φ : K.Mon → ℕ) (f : Poly K) → total φ (nonzero f) ≡ total φ f
nonzero-total φ [] = refl
nonzero-total φ (u ∷ f) = omega (arith, keep-total φ u.mon u.num (nonzero f), nonzero-total φ f)

-- The normal form is normal, and is the polynomial

module _ {K : Monomials} (O : Order K) {p : ℕ} (pos : 0 < p) where
  pub norm_normal : (f : Poly K) → Normal O p (norm O p f)
  norm_normal f = nonzero_normal O p (sorted O p f) (sorted_falling O p pos f) (sorted_small O p pos f)

  pub norm_all : (P : K.Mon → Type 0) (f : Poly K) → All P f → All P (norm O p f)
  norm_all P f b = nonzero_all P (sorted O p f) (sorted_all O p pos P f b)

  pub norm-total : (φ : K.Mon → ℕ) (f : Poly K) → Same p (total φ (norm O p f)) (total φ f)
  norm-total φ f = same_trans (same_eq (nonzero-total φ (sorted O p f))) (sorted-total O p pos φ f)

  pub norm_equal : (f : Poly K) → Equal p (norm O p f) f
  norm_equal f = equal_by (λ φ. norm-total φ f)

-- It is the only one

pub lead-coef : {K : Monomials} (O : Order K) (u : Term K) (f : Poly K) → Below O u.mon f → coef (u ∷ f) u.mon ≡ u.num
lead-coef {K} O u f b = omega (arith, only_here u.mon (K.decide u.mon u.mon) u.num, below_coef O u.mon f b)

module _ {K : Monomials} (O : Order K) {p : ℕ} where
  -- where a polynomial falls below a monomial, its coefficient there is not a number from 1 to p − 1
  not_below : (u : Term K) (f g : Poly K) → Below O u.mon f → 0 < u.num → u.num < p → Below O u.mon g → Equal p (u ∷ f) g → ⊥
  not_below u f g b h k c e =
      let z : u.num ≡ 0 = same_below k (omega arith) (same_trans (same_eq (sym (lead-coef O u f b))) (same_trans (e.equal u.mon) (same_eq (below_coef O u.mon g c)))) in
      omega arith

  -- equal polynomials with the same first term have equal rests
  pub same_tails : (u v : Term K) (f g : Poly K) → u.mon ≡ v.mon → u.num ≡ v.num → Equal p (u ∷ f) (v ∷ g) → Equal p f g
  same_tails u v f g m c e =
      record {
        equal =
            λ n. same_cancel (only (K.decide u.mon n) u.num)
            (same_trans (same_eq (omega arith))
            (same_trans (e.equal n)
            (same_eq (omega (arith, ap {A = Term K} (λ w. only (K.decide w.mon n) w.num) (λ i. record { mon = m i; num = c i }))))));
      }

  pub normal_unique : (f g : Poly K) → Normal O p f → Normal O p g → Equal p f g → f ≡ g
  normal_unique [] [] nf ng e = refl
  normal_unique [] (v ∷ g) nf ng e = absurd (not_below v g [] ng.falling.0 ng.reduced.0 ng.reduced.1 tt (equal_sym e))
  normal_unique (u ∷ f) [] nf ng e = absurd (not_below u f [] nf.falling.0 nf.reduced.0 nf.reduced.1 tt e)
  normal_unique (u ∷ f) (v ∷ g) nf ng e = go (O.compare u.mon v.mon)
      (λ d. normal_unique f g (record { falling = nf.falling.1; reduced = nf.reduced.2 }) (record { falling = ng.falling.1; reduced = ng.reduced.2 }) d)
    where
      go : Tri (O.less u.mon v.mon) (u.mon ≡ v.mon) (O.less v.mon u.mon) → (Equal p f g → f ≡ g) → u ∷ f ≡ v ∷ g
      go (below h) rest =
          absurd
          (not_below v g (u ∷ f) ng.falling.0 ng.reduced.0 ng.reduced.1
          (h, below_trans O u.mon v.mon h f nf.falling.0)
          (equal_sym e))
      go (above h) rest =
          absurd
          (not_below u f (v ∷ g) nf.falling.0 nf.reduced.0 nf.reduced.1
          (h, below_trans O v.mon u.mon h g ng.falling.0)
          e)
      go (level d) rest =
          let c : u.num ≡ v.num = same_below nf.reduced.1 ng.reduced.1
          (same_trans (same_eq (sym (lead-coef O u f nf.falling.0))) (same_trans (e.equal u.mon) (same_eq (ap (coef (v ∷ g)) d ∙ lead-coef O v g ng.falling.0)))) in
          let r : f ≡ g = rest (same_tails u v f g d c e) in
          λ i. record { mon = d i; num = c i } ∷ r i

module _ {K : Monomials} (O : Order K) {p : ℕ} (pos : 0 < p) where
  pub norm_unique : {f g : Poly K} → Equal p f g → norm O p f ≡ norm O p g
  norm_unique {f} {g} e =
      normal_unique O (norm O p f) (norm O p g) (norm_normal O pos f) (norm_normal O pos g)
      (equal_trans (norm_equal O pos f) (equal_trans e (equal_sym (norm_equal O pos g))))

  pub norm_self : (f : Poly K) → Normal O p f → norm O p f ≡ f
  norm_self f n = normal_unique O (norm O p f) f (norm_normal O pos f) n (norm_equal O pos f)

  pub equal_total : (φ : K.Mon → ℕ) {f g : Poly K} → Equal p f g → Same p (total φ f) (total φ g)
  equal_total φ {f} {g} e =
      same_trans (same_sym (norm-total O pos φ f)) (same_trans (same_eq (ap (total φ) (norm_unique e))) (norm-total O pos φ g))

  pub extract : (m : K.Mon) (c : ℕ) {f : Poly K} (rest : Poly K) → Equal p f (term m c ∷ rest) → Below O m rest → norm O p f ≡ keep m (c % p) (norm O p rest)
  extract m c {f} rest e b =
      normal_unique O _ _ (norm_normal O pos f)
      (keep_normal O p m (c % p) (norm O p rest) (mod-lt c pos) (norm_all O pos (λ n. O.less n m) rest b) (norm_normal O pos rest))
      (equal_trans (norm_equal O pos f)
      (equal_trans e
      (equal_by
      (λ φ. same_trans
      (same_add (same_mul (same_sym (same_mod c)) same_refl) (same_sym (norm-total O pos φ rest)))
      (same_eq (sym (keep-total φ m (c % p) (norm O p rest))))))))
