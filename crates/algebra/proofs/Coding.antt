-- Polynomials under another name for their monomials: what is done on the names is what is done on the monomials.
--
--   Named O O'                 names of monomials that multiply as they do, and that keep the order of those that fit
--   named N f                  f with the name of each monomial
--   named-append, named-times, named-mul, named-negated   of sums, products and negatives
--   named_all                  a property of the names
--   named-sorted, named-norm   sorting and the normal form, where every monomial fits
use Prim.Native.Nat.{ℕ, zero, suc, ◌-◌, ◌*◌, ◌<◌}
use mathlib.Core.Path.{◌≡◌, refl, ◌∙◌, ap, subst}
use mathlib.Core.List.{[], ◌∷◌, ◌++◌}
use Rattle.algebra.specs.Monomials.{Monomials}
use Rattle.algebra.specs.Orders.{Order, Tri, below, level, above}
use Rattle.algebra.specs.Polynomials.{Term, term, Poly, times, mul, negated, keep, nonzero, placed, insert, sorted, norm, All}
use Rattle.algebra.proofs.NormalForm.{sorted_all}

pub record Named {K L : Monomials} (O : Order K) (O' : Order L) : Type 1 where
  pub name : K.Mon → L.Mon
  pub Fits : K.Mon → Type 0
  pub name_mul : (a b : K.Mon) → name (K.mul a b) ≡ L.mul (name a) (name b)
  pub name_less : (a b : K.Mon) → Fits a → Fits b → O.less a b → O'.less (name a) (name b)

module _ {K L : Monomials} {O : Order K} {O' : Order L} (N : Named O O') where
  abbrev pub named : Poly K → Poly L
  named [] = []
  named (u ∷ f) = term (N.name u.mon) u.num ∷ named f

  pub named-append : (f g : Poly K) → named (f ++ g) ≡ named f ++ named g
  named-append [] g = refl
  named-append (u ∷ f) g = ap (λ (h : Poly L). term (N.name u.mon) u.num ∷ h) (named-append f g)

  pub named-times : (t : Term K) (f : Poly K) → named (times t f) ≡ times (term (N.name t.mon) t.num) (named f)
  named-times t [] = refl
  named-times t (u ∷ f) = λ i. record { mon = N.name_mul t.mon u.mon i; num = t.num * u.num } ∷ named-times t f i

  pub named-mul : (f g : Poly K) → named (mul f g) ≡ mul (named f) (named g)
  named-mul [] g = refl
  named-mul (t ∷ f) g = named-append (times t g) (mul f g) ∙ (λ i. named-times t g i ++ named-mul f g i)

  pub named-negated : (p : ℕ) (f : Poly K) → named (negated p f) ≡ negated p (named f)
  named-negated p [] = refl
  named-negated p (u ∷ f) = ap (λ (h : Poly L). term (N.name u.mon) ((p - 1) * u.num) ∷ h) (named-negated p f)

  pub named_all : (P : L.Mon → Type 0) (f : Poly K) → All (λ m. P (N.name m)) f → All P (named f)
  named_all P [] a = tt
  named_all P (u ∷ f) a = (a.0, named_all P f a.1)

  named-keep : (m : K.Mon) (c : ℕ) (f : Poly K) → named (keep m c f) ≡ keep (N.name m) c (named f)
  named-keep m zero f = refl
  named-keep m (suc c) f = refl

  pub named-nonzero : (f : Poly K) → named (nonzero f) ≡ nonzero (named f)
  named-nonzero [] = refl
  named-nonzero (u ∷ f) =
      named-keep u.mon u.num (nonzero f) ∙ ap (keep (N.name u.mon) u.num) (named-nonzero f)

  -- two ways to compare that agree
  named-placed : (p : ℕ) (m : K.Mon) (c : ℕ) (u : Term K) (f rest : Poly K) (rest' : Poly L) → N.Fits m → N.Fits u.mon → named rest ≡ rest' →
      (t : Tri (O.less m u.mon) (m ≡ u.mon) (O.less u.mon m))
      (t' : Tri (O'.less (N.name m) (N.name u.mon)) (N.name m ≡ N.name u.mon) (O'.less (N.name u.mon) (N.name m))) →
      named (placed O p m c u f rest t) ≡ placed O' p (N.name m) c (term (N.name u.mon) u.num) (named f) rest' t'
  named-placed p m c u f rest rest' fm fu e (below h) (below k) = ap (λ (g : Poly L). term (N.name u.mon) u.num ∷ g) e
  named-placed p m c u f rest rest' fm fu e (level h) (level k) = refl
  named-placed p m c u f rest rest' fm fu e (above h) (above k) = refl
  named-placed p m c u f rest rest' fm fu e (below h) (level k) =
      absurd (O'.irreflexive (N.name u.mon) (subst (λ x. O'.less x (N.name u.mon)) k (N.name_less m u.mon fm fu h)))
  named-placed p m c u f rest rest' fm fu e (below h) (above k) =
      absurd (O'.irreflexive (N.name m) (O'.transitive (N.name m) (N.name u.mon) (N.name m) (N.name_less m u.mon fm fu h) k))
  named-placed p m c u f rest rest' fm fu e (level h) (below k) =
      absurd (O'.irreflexive (N.name u.mon) (subst (λ x. O'.less (N.name x) (N.name u.mon)) h k))
  named-placed p m c u f rest rest' fm fu e (level h) (above k) =
      absurd (O'.irreflexive (N.name u.mon) (subst (λ x. O'.less (N.name u.mon) (N.name x)) h k))
  named-placed p m c u f rest rest' fm fu e (above h) (below k) =
      absurd (O'.irreflexive (N.name m) (O'.transitive (N.name m) (N.name u.mon) (N.name m) k (N.name_less u.mon m fu fm h)))
  named-placed p m c u f rest rest' fm fu e (above h) (level k) =
      absurd (O'.irreflexive (N.name u.mon) (subst (λ x. O'.less (N.name u.mon) x) k (N.name_less u.mon m fu fm h)))

  named-insert : (p : ℕ) (m : K.Mon) (c : ℕ) (f : Poly K) → N.Fits m → All N.Fits f → named (insert O p m c f) ≡ insert O' p (N.name m) c (named f)
  named-insert p m c [] fm a = refl
  named-insert p m c (u ∷ f) fm a =
      named-placed p m c u f _ _ fm a.0 (named-insert p m c f fm a.1) (O.compare m u.mon) (O'.compare (N.name m) (N.name u.mon))

  pub named-sorted : (p : ℕ) → 0 < p → (f : Poly K) → All N.Fits f → named (sorted O p f) ≡ sorted O' p (named f)
  named-sorted p pos [] a = refl
  named-sorted p pos (u ∷ f) a =
      named-insert p u.mon u.num (sorted O p f) a.0 (sorted_all O p pos N.Fits f a.1)
      ∙ ap (insert O' p (N.name u.mon) u.num) (named-sorted p pos f a.1)

  pub named-norm : (p : ℕ) → 0 < p → (f : Poly K) → All N.Fits f → named (norm O p f) ≡ norm O' p (named f)
  named-norm p pos f a = named-nonzero (sorted O p f) ∙ ap nonzero (named-sorted p pos f a)
