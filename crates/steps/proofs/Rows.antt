-- A quotient term becomes a row of the tree.
--
--   row_ready              what the tree asks for, once the record is written
--   row_more               the row waits for its products from the divisor's second term on
--   row_alone              a divisor of one term leaves nothing to wait for
--   rows_alike             what remains, less the new products, is what remains with the new row
use Prim.Native.Nat.{ℕ, suc, ◌+◌, ◌-◌, ◌*◌, ◌/◌, ◌^◌, ◌<◌}
use mathlib.Core.Path.{◌≡◌, refl, sym, ◌∙◌, ap, subst}
use mathlib.Core.List.{List, [], ◌++◌, append-nil}
use native.Mathlib.Omega.{arith}
use lib.ListN.{length}
use Rattle.algebra.specs.Monomials.{Numbers}
use Rattle.algebra.specs.Polynomials.{term, Poly, count, times, negated, Alike}
use Rattle.algebra.proofs.Residues.{same_eq}
use Rattle.algebra.proofs.Totals.{total-append, equal_by}
use Rattle.algebra.proofs.Ring.{total-negated}
use Rattle.algebra.proofs.Sorted.{count-append, count-negated}
use Rattle.poly.specs.Words.{records, word_at, coef_at, span}
use Rattle.tree.specs.Tree.{awaited, Live, Added}
use Rattle.poly.proofs.Records.{put, put-length, put-word, put-coef}
use Rattle.tree.proofs.Adding.{row_written}
use Rattle.steps.specs.Walking.{RowPut}

module _ {g q w : List ℕ} {n : ℕ} (word coef : ℕ) (h : n < records q) (empty : word_at w (records q + n) ≡ 0) (l : Live q g w) {next : List ℕ} (written : next ≡ put q n word coef) where
  same : records next ≡ records q
  same = ap records written ∙ ap (λ (x : ℕ). x / 2) (put-length q n word coef)

  inside : 2 * n + 1 < length q
  inside = omega arith

  new-word : word_at next n ≡ word
  new-word = ap (λ (s : List ℕ). word_at s n) written ∙ put-word q n word coef inside

  new-coef : coef_at next n ≡ coef
  new-coef = ap (λ (s : List ℕ). coef_at s n) written ∙ put-coef q n word coef inside

  live : Live next g w
  live = subst (λ (s : List ℕ). Live s g w) (sym written) (row_written q g w n word coef empty l).0

  waits : awaited q g w 0 (records q) ≡ awaited next g w 0 (records next)
  waits = (row_written q g w n word coef empty l).1 ∙ ap (λ (s : List ℕ). awaited s g w 0 (records s)) (sym written)

  pub row_ready : {k : ℕ} →
      records q < 2 ^ 32 → records g < 2 ^ 32 → 1 < records g →
      ((i : ℕ) → suc i < records g → word_at g (suc i) < word_at g i) →
      word + word_at g 0 + 1 ≡ k → word_at w 1 < k →
      ((n < records next) × (records next < 2 ^ 32) × (1 < records g) × (records g < 2 ^ 32)) ×
      (((word_at w (records next + n) ≡ 0) × (word_at next n + word_at g 1 + 1 < k) × (word_at w 1 < k)) × Live next g w)
  row_ready few fewer some falls key root = (
    (omega (arith, same), omega (arith, same), some, fewer),
    ((ap (λ x. word_at w (x + n)) same ∙ empty, omega (arith, new-word, falls 0 some), root), live),
  )

  pub row_more : {k : ℕ} {w' : List ℕ} → Added next g n 1 k w w' → RowPut g q w n word coef k next w'
  row_more {k} {w'} a =
      record {
        written = written;
        as_long = a.as_long;
        live = a.live;
        before = a.before;
        after = a.after;
        was = waits ∙ a.was;
        becomes = a.becomes ∙ (λ d. a.before ++ (times (term (new-word d) (new-coef d)) (span g 1 (records g - 1)) ++ a.after));
        others = λ x b k. ap (λ y. word_at w' (y + x)) (sym same) ∙ a.others x (omega (arith, same)) k ∙ ap (λ y. word_at w (y + x)) same;
        lower = a.lower;
      }

  pub row_alone : {k : ℕ} → records g ≡ 1 → word_at w 1 < k → RowPut g q w n word coef k next w
  row_alone one root =
      let none : records g - 1 ≡ 0 = omega arith in
      record {
        written = written;
        as_long = refl;
        live = live;
        before = awaited q g w 0 (records q);
        after = [];
        was = sym (append-nil (awaited q g w 0 (records q)));
        becomes =
            sym waits
            ∙ sym (append-nil (awaited q g w 0 (records q)))
            ∙ ap (λ x. awaited q g w 0 (records q) ++ (times (term {K = Numbers} word coef) (span g 1 x) ++ [])) (sym none);
        others = λ x b k. refl;
        lower = root;
      }

module _ (p : ℕ) (F B A N : Poly Numbers) where
  abbrev apart : Poly Numbers
  apart = (F ++ negated p (B ++ A)) ++ negated p N

  abbrev together : Poly Numbers
  together = F ++ negated p (B ++ (N ++ A))

  counts : (m : ℕ) → count {K = Numbers} m apart ≡ count {K = Numbers} m together
  counts m =
      omega (
        arith,
        count-append {K = Numbers} m (F ++ negated p (B ++ A)) (negated p N),
        count-append {K = Numbers} m F (negated p (B ++ A)),
        count-negated {K = Numbers} p m (B ++ A),
        count-append {K = Numbers} m B A,
        count-negated {K = Numbers} p m N,
        count-append {K = Numbers} m F (negated p (B ++ (N ++ A))),
        count-negated {K = Numbers} p m (B ++ (N ++ A)),
        count-append {K = Numbers} m B (N ++ A),
        count-append {K = Numbers} m N A,
      )

  pub rows_alike : Alike p apart together
  rows_alike =
      record {
        equal =
            equal_by
            (λ φ. same_eq
            (omega (
              arith,
              total-append φ (F ++ negated p (B ++ A)) (negated p N),
              total-append φ F (negated p (B ++ A)),
              total-negated p φ (B ++ A),
              ap (λ (x : ℕ). (p - 1) * x) (total-append φ B A),
              total-negated p φ N,
              total-append φ F (negated p (B ++ (N ++ A))),
              total-negated p φ (B ++ (N ++ A)),
              ap (λ (x : ℕ). (p - 1) * x) (total-append φ B (N ++ A)),
              ap (λ (x : ℕ). (p - 1) * x) (total-append φ N A),
            )));
        there = λ m h. omega (arith, counts m);
        back = λ m h. omega (arith, counts m);
      }
