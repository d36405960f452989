-- Laws of reports.
--
--   done_number, refused_number    a report that is done has the number 0, and one that is not has another
--   chain                          one link of an ordered fold of rules
--   passed_append, append_passed   of two lists of reports, one after the other
--   fold_passed                    a fold that refuses nothing: every report of it passed, and the last
--   passed_fold                    where every report passed, the fold answers the last
--   fold_tells                     the first report that refuses is the one told
--   fold_refused                   a fold that refuses answers the same, whatever stands last
--   fold_append                    a fold over two lists, one after the other
--   Own n r                        the report r has no number but 0 and n
--   Ascending i rs                 the reports of rs have the numbers i, i + 1, .. of their own
--   fold_told                      a fold of such reports tells the one with a given number just where it is due and all before it passed
use Prim.Native.Nat.{ℕ, suc, ◌+◌, ◌≤◌, ◌<◌}
use mathlib.Core.Path.{◌≡◌, refl, sym, ◌∙◌, ap, subst}
use mathlib.Core.Bool.{Bool, true, false}
use mathlib.Core.List.{List, [], ◌∷◌, ◌++◌}
use mathlib.Core.Logic.{◌↔◌}
use native.Mathlib.Omega.{arith}
use lib.Dec.{eqb}
use lib.ListN.{length}
use borrow.Author.Tests.{eqb-true, eqb-false, eq-eqb, ne_eqb}
use Rattle.algebra.specs.Residues.{pick}
use Rattle.refusals.specs.Reports.{or_else, first_or, Passed}
use Rattle.refusals.specs.declared.report.Report.{Report}

module _ (r : Report) {t : Bool} (e : t ≡ eqb r.number 0) where
  pub done_number : t ≡ true → r.number ≡ 0
  done_number h = eqb-true r.number 0 (sym e ∙ h)

  pub refused_number : t ≡ false → r.number ≡ 0 → ⊥
  refused_number h = eqb-false r.number 0 (sym e ∙ h)

pub chain : {t q q' s s' : Report} → t ≡ or_else q s → q ≡ q' → s ≡ s' → t ≡ or_else q' s'
chain e f g = e ∙ (λ d. or_else (f d) (g d))

-- One link

module _ (a b : Report) where
  pub or_else-next : a.number ≡ 0 → or_else a b ≡ b
  or_else-next e = ap (λ t. pick t b a) (eq-eqb a.number 0 e)

  pub or_else_here : (a.number ≡ 0 → ⊥) → or_else a b ≡ a
  or_else_here n = ap (λ t. pick t b a) (ne_eqb a.number 0 n)

  pub or_else_passed : (or_else a b).number ≡ 0 → (a.number ≡ 0) × (b.number ≡ 0)
  or_else_passed e = go (eqb a.number 0) refl e
    where
      go : (t : Bool) → eqb a.number 0 ≡ t → (pick t b a).number ≡ 0 → (a.number ≡ 0) × (b.number ≡ 0)
      go true h k = (eqb-true a.number 0 h, k)
      go false h k = absurd (eqb-false a.number 0 h k)

-- A fold

pub passed_append : (rs ss : List Report) → Passed (rs ++ ss) → Passed rs × Passed ss
passed_append [] ss h = (tt, h)
passed_append (r ∷ rs) ss h = let k = passed_append rs ss h.1 in ((h.0, k.0), k.1)

pub append_passed : (rs ss : List Report) → Passed rs → Passed ss → Passed (rs ++ ss)
append_passed [] ss h k = k
append_passed (r ∷ rs) ss h k = (h.0, append_passed rs ss h.1 k)

pub fold_passed : (rs : List Report) (otherwise : Report) → (first_or rs otherwise).number ≡ 0 → Passed rs × (otherwise.number ≡ 0)
fold_passed [] otherwise h = (tt, h)
fold_passed (r ∷ rs) otherwise h =
    let k = or_else_passed r (first_or rs otherwise) h in
    let rest = fold_passed rs otherwise k.1 in
    ((k.0, rest.0), rest.1)

pub passed_fold : (rs : List Report) (otherwise : Report) → Passed rs → first_or rs otherwise ≡ otherwise
passed_fold [] otherwise h = refl
passed_fold (r ∷ rs) otherwise h = or_else-next r (first_or rs otherwise) h.0 ∙ passed_fold rs otherwise h.1

pub fold_append : (rs ss : List Report) (otherwise : Report) → first_or (rs ++ ss) otherwise ≡ first_or rs (first_or ss otherwise)
fold_append [] ss otherwise = refl
fold_append (r ∷ rs) ss otherwise = ap (or_else r) (fold_append rs ss otherwise)

pub fold_tells : (before : List Report) (r : Report) (after : List Report) (otherwise : Report) → Passed before → (r.number ≡ 0 → ⊥) → first_or (before ++ r ∷ after) otherwise ≡ r
fold_tells before r after otherwise h n =
    fold_append before (r ∷ after) otherwise ∙ passed_fold before (first_or (r ∷ after) otherwise) h ∙ or_else_here r (first_or after otherwise) n

pub fold_refused : (rs : List Report) (a b : Report) → a.number ≡ 0 → ((first_or rs a).number ≡ 0 → ⊥) → first_or rs a ≡ first_or rs b
fold_refused [] a b e n = absurd (n e)
fold_refused (r ∷ rs) a b e n = go (eqb r.number 0) refl (fold_refused rs a b e)
  where
    go : (t : Bool) → eqb r.number 0 ≡ t → (((first_or rs a).number ≡ 0 → ⊥) → first_or rs a ≡ first_or rs b) → pick t (first_or rs a) r ≡ pick t (first_or rs b) r
    go true h rest = rest (λ z. n (ap (λ (x : Report). x.number) (or_else-next r (first_or rs a) (eqb-true r.number 0 h)) ∙ z))
    go false h rest = refl

-- The report that a number told stands for

pub record Own (n : ℕ) (r : Report) : Type 0 where
  pub other : (k : ℕ) → 0 < k → (n ≡ k → ⊥) → r.number ≡ k → ⊥

abbrev pub Ascending : ℕ → List Report → Type 0
Ascending i [] = Unit {0}
Ascending i (r ∷ rs) = Own i r × Ascending (suc i) rs

-- no report of rs has the number n
abbrev Other : ℕ → List Report → Type 0
Other n [] = Unit {0}
Other n (r ∷ rs) = (r.number ≡ n → ⊥) × Other n rs

below_other : (i n : ℕ) (rs : List Report) → Ascending i rs → 0 < n → i + length rs ≤ n → Other n rs
below_other i n [] a h k = tt
below_other i n (r ∷ rs) a h k = (a.0.other n h (λ e. omega arith), below_other (suc i) n rs a.1 h (omega arith))

above_other : (i n : ℕ) (rs : List Report) → Ascending i rs → 0 < n → n < i → Other n rs
above_other i n [] a h k = tt
above_other i n (r ∷ rs) a h k = (a.0.other n h (λ e. omega arith), above_other (suc i) n rs a.1 h (omega arith))

ascending_before : (i : ℕ) (rs ss : List Report) → Ascending i (rs ++ ss) → Ascending i rs
ascending_before i [] ss a = tt
ascending_before i (r ∷ rs) ss a = (a.0, ascending_before (suc i) rs ss a.1)

ascending_after : (i n : ℕ) (rs ss : List Report) → i + length rs ≡ n → Ascending i (rs ++ ss) → Ascending n ss
ascending_after i n [] ss e a = let d : i ≡ n = omega arith in subst (λ x. Ascending x ss) d a
ascending_after i n (r ∷ rs) ss e a = ascending_after (suc i) n rs ss (omega arith) a.1

other_passed : (n : ℕ) (rs : List Report) (otherwise : Report) → Other n rs → (first_or rs otherwise).number ≡ n → Passed rs
other_passed n [] otherwise h e = tt
other_passed n (r ∷ rs) otherwise h e = go (eqb r.number 0) refl e (other_passed n rs otherwise h.1)
  where
    go : (t : Bool) → eqb r.number 0 ≡ t → (pick t (first_or rs otherwise) r).number ≡ n → ((first_or rs otherwise).number ≡ n → Passed rs) → Passed (r ∷ rs)
    go true f k rest = (eqb-true r.number 0 f, rest k)
    go false f k rest = absurd (h.0 k)

other_told : (n : ℕ) (before : List Report) (r : Report) (after : List Report) (otherwise : Report) → Other n before → Other n after →
    (otherwise.number ≡ n → ⊥) → (first_or (before ++ r ∷ after) otherwise).number ≡ n → Passed before × (first_or (before ++ r ∷ after) otherwise ≡ r)
other_told n before r after otherwise hb ha ho e =
    let append = fold_append before (r ∷ after) otherwise in
    let k : (first_or before (first_or (r ∷ after) otherwise)).number ≡ n = ap (λ (x : Report). x.number) (sym append) ∙ e in
    let passed = other_passed n before (first_or (r ∷ after) otherwise) hb k in
    let skipped = passed_fold before (first_or (r ∷ after) otherwise) passed in
    (passed, append ∙ skipped ∙ go (eqb r.number 0) refl (ap (λ (x : Report). x.number) (sym skipped) ∙ k))
  where
    go : (t : Bool) → eqb r.number 0 ≡ t → (pick t (first_or after otherwise) r).number ≡ n → pick t (first_or after otherwise) r ≡ r
    go true f k = absurd (ho (ap (λ (x : Report). x.number) (sym (passed_fold after otherwise (other_passed n after otherwise ha k))) ∙ k))
    go false f k = refl

pub fold_told : (before : List Report) (r : Report) (after : List Report) (otherwise told : Report) → Ascending 1 (before ++ r ∷ after) →
    otherwise.number ≡ 0 → told.number ≡ suc (length before) → (first_or (before ++ r ∷ after) otherwise ≡ told) ↔ (Passed before × (r ≡ told))
fold_told before r after otherwise told a z e =
    let n = suc (length before) in
    let lower = below_other 1 n before (ascending_before 1 before (r ∷ after) a) (omega arith) (omega arith) in
    let higher = above_other (suc n) n after (ascending_after 1 n before (r ∷ after) (omega arith) a).1 (omega arith) (omega arith) in (
      λ f.
          let t = other_told n before r after otherwise lower higher (λ q. omega arith) (ap (λ (x : Report). x.number) f ∙ e) in
          (t.0, sym t.1 ∙ f),
      λ h. fold_tells before r after otherwise h.0 (λ q. omega (arith, ap (λ (x : Report). x.number) h.1)) ∙ h.1,
    )
