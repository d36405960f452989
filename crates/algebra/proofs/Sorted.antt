-- Lists with a term for each monomial: what `sorted` does depends only on coefficients and on which monomials stand in the list.
--
--   count-append, count-negated, below_count, head_count   of `count`
--   all_count, count_all       a property of every monomial, monomial by monomial that stands in the list
--   alike_refl, alike_sym, alike_trans, alike_append, alike_all   of `Alike`
--   sorted_alike               f and its sorted list are alike
--   falling_unique             falling lists with numbers below p that are alike are the same list
--   sorted_same, sorted_self   alike polynomials have one sorted list; a falling list with numbers below p is its own
--   sorted_head                how the sorted list splits at its greatest monomial
use Prim.Native.Nat.{ℕ, zero, suc, ◌+◌, ◌<◌}
use mathlib.Core.Path.{◌≡◌, refl, sym, ◌∙◌, ap, subst}
use mathlib.Core.List.{[], ◌∷◌, ◌++◌}
use native.Mathlib.Omega.{arith}
use Rattle.algebra.specs.Monomials.{Monomials}
use Rattle.algebra.specs.Orders.{Order, Tri, below, level, above}
use Rattle.algebra.specs.Polynomials.{Term, term, Poly, only, coef, count, Alike, negated, placed, insert, sorted, All, Below, Falling}
use Rattle.algebra.proofs.Residues.{same_eq, same_trans, same_below}
use Rattle.algebra.proofs.Totals.{equal_by}
use Rattle.algebra.proofs.NormalForm.{Small, equal_refl, equal_sym, equal_trans, below_trans, apart, only_here, lead-coef, same_tails, sorted_falling, sorted_small, sorted_all, sorted-total}
use Rattle.algebra.proofs.Ring.{sum_equal}

-- the sums of positive numbers
either : (a b c d : ℕ) → (0 < a → 0 < c) → (0 < b → 0 < d) → 0 < a + b → 0 < c + d
either zero b c d h k s = let r : 0 < d = k (omega arith) in omega arith
either (suc a) b c d h k s = let r : 0 < c = h (omega arith) in omega arith

module _ {K : Monomials} where
  pub count-append : (m : K.Mon) (f g : Poly K) → count m (f ++ g) ≡ count m f + count m g
  count-append m [] g = omega arith
  count-append m (u ∷ f) g = omega (arith, count-append m f g)

  pub count-negated : (p : ℕ) (m : K.Mon) (f : Poly K) → count m (negated p f) ≡ count m f
  count-negated p m [] = refl
  count-negated p m (u ∷ f) = omega (arith, count-negated p m f)

  pub below_count : (O : Order K) (m : K.Mon) (f : Poly K) → Below O m f → count m f ≡ 0
  below_count O m [] b = refl
  below_count O m (u ∷ f) b = omega (arith, apart O m u.mon 1 (K.decide u.mon m) b.0, below_count O m f b.1)

  pub head_count : (u : Term K) (f : Poly K) → 0 < count u.mon (u ∷ f)
  head_count u f = omega (arith, only_here u.mon (K.decide u.mon u.mon) 1)

  -- what stands in a list of one term more
  stands_head : (m : K.Mon) (u : Term K) (f : Poly K) → 0 < count m f → 0 < count m (u ∷ f)
  stands_head m u f h = omega arith

  pub count_all : (P : K.Mon → Type 0) (f : Poly K) → ((m : K.Mon) → 0 < count m f → P m) → All P f
  count_all P [] h = tt
  count_all P (u ∷ f) h = (h u.mon (head_count u f), count_all P f (λ m k. h m (stands_head m u f k)))

  pub all_count : (P : K.Mon → Type 0) (f : Poly K) → All P f → (m : K.Mon) → 0 < count m f → P m
  all_count P [] a m h = absurd (omega arith)
  all_count P (u ∷ f) a m h = go (K.decide u.mon m) h (all_count P f a.1 m)
    where
      go : (d : Dec (u.mon ≡ m)) → 0 < only d 1 + count m f → (0 < count m f → P m) → P m
      go (yes e) k rest = subst P e a.0
      go (no n) k rest = rest (omega arith)

module _ {K : Monomials} {p : ℕ} where
  pub alike_refl : {f : Poly K} → Alike p f f
  alike_refl = record { equal = equal_refl; there = λ m h. h; back = λ m h. h }

  pub alike_sym : {f g : Poly K} → Alike p f g → Alike p g f
  alike_sym a = record { equal = equal_sym a.equal; there = a.back; back = a.there }

  pub alike_trans : {f g h : Poly K} → Alike p f g → Alike p g h → Alike p f h
  alike_trans a b =
      record {
        equal = equal_trans a.equal b.equal;
        there = λ m h. b.there m (a.there m h);
        back = λ m h. a.back m (b.back m h);
      }

  pub alike_all : (P : K.Mon → Type 0) {f g : Poly K} → Alike p f g → All P f → All P g
  alike_all P {f} {g} a h = count_all P g (λ m k. all_count P f h m (a.back m k))

  pub alike_append : Order K → 0 < p → {f f' g g' : Poly K} → Alike p f f' → Alike p g g' → Alike p (f ++ g) (f' ++ g')
  alike_append O pos {f} {f'} {g} {g'} a b =
      record {
        equal = sum_equal O pos a.equal b.equal;
        there = λ m h. subst (λ n. 0 < n) (sym (count-append m f' g')) (either _ _ _ _ (a.there m) (b.there m) (subst (λ n. 0 < n) (count-append m f g) h));
        back = λ m h. subst (λ n. 0 < n) (sym (count-append m f g)) (either _ _ _ _ (a.back m) (b.back m) (subst (λ n. 0 < n) (count-append m f' g') h));
      }

module _ {K : Monomials} (O : Order K) {p : ℕ} (pos : 0 < p) where
  -- a term more, where it is put
  abbrev Joins : K.Mon → K.Mon → Poly K → Poly K → Type 0
  Joins x m f g = (0 < count x g → 0 < only (K.decide m x) 1 + count x f) × (0 < only (K.decide m x) 1 + count x f → 0 < count x g)

  placed_joins : (x m : K.Mon) (c : ℕ) (u : Term K) (f rest : Poly K) (t : Tri (O.less m u.mon) (m ≡ u.mon) (O.less u.mon m)) →
      Joins x m f rest → Joins x m (u ∷ f) (placed O p m c u f rest t)
  placed_joins x m c u f rest (below h) r = (
    λ k. let s : 0 < only (K.decide u.mon x) 1 + (only (K.decide m x) 1 + count x f) = either (only (K.decide u.mon x) 1) (count x rest) _ _ (λ l. l) r.0 k in omega arith,
    λ k. either (only (K.decide u.mon x) 1) (only (K.decide m x) 1 + count x f) _ _ (λ l. l) r.1 (omega arith),
  )
  placed_joins x m c u f rest (level e) r =
      let same : only (K.decide u.mon x) 1 ≡ only (K.decide m x) 1 = ap (λ (n : K.Mon). only (K.decide n x) 1) (sym e) in
      (λ k. omega arith, λ k. omega arith)
  placed_joins x m c u f rest (above h) r = (λ k. k, λ k. k)

  insert_joins : (x m : K.Mon) (c : ℕ) (f : Poly K) → Joins x m f (insert O p m c f)
  insert_joins x m c [] = (λ k. k, λ k. k)
  insert_joins x m c (u ∷ f) = placed_joins x m c u f _ (O.compare m u.mon) (insert_joins x m c f)

  sorted_there : (x : K.Mon) (f : Poly K) → 0 < count x (sorted O p f) → 0 < count x f
  sorted_there x [] h = h
  sorted_there x (u ∷ f) h =
      either _ _ _ _ (λ l. l) (sorted_there x f) ((insert_joins x u.mon u.num (sorted O p f)).0 h)

  sorted_back : (x : K.Mon) (f : Poly K) → 0 < count x f → 0 < count x (sorted O p f)
  sorted_back x [] h = h
  sorted_back x (u ∷ f) h =
      (insert_joins x u.mon u.num (sorted O p f)).1 (either _ _ _ _ (λ l. l) (sorted_back x f) h)

  pub sorted_alike : (f : Poly K) → Alike p (sorted O p f) f
  sorted_alike f =
      record {
        equal = equal_by (λ φ. sorted-total O p pos φ f);
        there = λ m h. sorted_there m f h;
        back = λ m h. sorted_back m f h;
      }

  -- a monomial that all are below does not stand
  stands_not : (v : Term K) (f g : Poly K) → Below O v.mon f → Alike p f (v ∷ g) → ⊥
  stands_not v f g b a =
      let h : 0 < count v.mon f = a.back v.mon (head_count v g) in
      omega (arith, below_count O v.mon f b)

  -- the rests, where the greatest terms are the same
  rest_stands : (u v : Term K) (f g : Poly K) → u.mon ≡ v.mon → Below O u.mon f → ((m : K.Mon) → 0 < count m (u ∷ f) → 0 < count m (v ∷ g)) → (m : K.Mon) → 0 < count m f → 0 < count m g
  rest_stands u v f g e b there m h = go (K.decide v.mon m) (there m (omega arith))
    where
      go : (d : Dec (v.mon ≡ m)) → 0 < only d 1 + count m g → 0 < count m g
      go (yes d) k = absurd (omega (arith, below_count O m f (subst (λ x. Below O x f) (e ∙ d) b)))
      go (no n) k = omega arith

  pub falling_unique : (f g : Poly K) → Falling O f → Falling O g → Small p f → Small p g → Alike p f g → f ≡ g
  falling_unique [] [] ff fg sf sg a = refl
  falling_unique [] (v ∷ g) ff fg sf sg a = absurd (stands_not v [] g tt a)
  falling_unique (u ∷ f) [] ff fg sf sg a = absurd (stands_not u [] f tt (alike_sym a))
  falling_unique (u ∷ f) (v ∷ g) ff fg sf sg a = go (O.compare u.mon v.mon) (λ b. falling_unique f g ff.1 fg.1 sf.1 sg.1 b)
    where
      go : Tri (O.less u.mon v.mon) (u.mon ≡ v.mon) (O.less v.mon u.mon) → (Alike p f g → f ≡ g) → u ∷ f ≡ v ∷ g
      go (below h) rest = absurd (stands_not v (u ∷ f) g (h, below_trans O u.mon v.mon h f ff.0) a)
      go (above h) rest = absurd (stands_not u (v ∷ g) f (h, below_trans O v.mon u.mon h g fg.0) (alike_sym a))
      go (level d) rest =
          let c : u.num ≡ v.num = same_below sf.0 sg.0
          (same_trans (same_eq (sym (lead-coef O u f ff.0))) (same_trans (a.equal.equal u.mon) (same_eq (ap (coef (v ∷ g)) d ∙ lead-coef O v g fg.0)))) in
          let r : f ≡ g = rest (record {
            equal = same_tails O u v f g d c a.equal;
            there = rest_stands u v f g d ff.0 a.there;
            back = rest_stands v u g f (sym d) fg.0 a.back;
          }) in
          λ i. record { mon = d i; num = c i } ∷ r i

  pub sorted_same : {f g : Poly K} → Alike p f g → sorted O p f ≡ sorted O p g
  sorted_same {f} {g} a =
      falling_unique (sorted O p f) (sorted O p g) (sorted_falling O p pos f) (sorted_falling O p pos g) (sorted_small O p pos f) (sorted_small O p pos g)
      (alike_trans (sorted_alike f) (alike_trans a (alike_sym (sorted_alike g))))

  pub sorted_self : (f : Poly K) → Falling O f → Small p f → sorted O p f ≡ f
  sorted_self f fall small = falling_unique (sorted O p f) f (sorted_falling O p pos f) fall (sorted_small O p pos f) small (sorted_alike f)

  pub sorted_head : (m : K.Mon) (c : ℕ) {f : Poly K} (g : Poly K) → Alike p f (term m c ∷ g) → c < p → Below O m g → sorted O p f ≡ term m c ∷ sorted O p g
  sorted_head m c {f} g a h b =
      falling_unique (sorted O p f) (term m c ∷ sorted O p g) (sorted_falling O p pos f)
      (sorted_all O p pos (λ n. O.less n m) g b, sorted_falling O p pos g)
      (sorted_small O p pos f) (h, sorted_small O p pos g)
      (alike_trans (sorted_alike f) (alike_trans a (alike_append O pos {f = term m c ∷ []} alike_refl (alike_sym (sorted_alike g)))))
