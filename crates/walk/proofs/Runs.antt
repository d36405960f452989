-- The whole walk on words: how it starts.
--
--   divisor-terms          a divisor is its first term and the later ones
--   walk-starts            over a cleared tree the walk starts with the whole dividend
use Prim.Native.Nat.{ℕ, suc, ◌+◌, ◌-◌, ◌*◌, ◌^◌, ◌<◌, ◌≤◌}
use mathlib.Core.Path.{◌≡◌, sym, ◌∙◌, ap, subst}
use mathlib.Core.List.{List, ◌∷◌, ◌++◌, append-nil}
use mathlib.Core.Logic.{inl}
use native.Mathlib.Nat.{max-le, sub-zero}
use native.Mathlib.Decide.{dec_lt}
use native.Mathlib.Omega.{arith}
use lib.ListN.{length, get_or}
use Rattle.algebra.specs.Orders.{Rising}
use Rattle.algebra.specs.Polynomials.{negated, sorted}
use Rattle.algebra.proofs.NormalForm.{reduced_small}
use Rattle.algebra.proofs.Sorted.{sorted_self}
use Rattle.monomial.specs.Layout.{base}
use Rattle.poly.specs.Words.{records, word_at, coef_at, term_at, terms, span, poly_of, decoded_poly, Monomial}
use Rattle.poly.proofs.Readings.{poly_decoded, span_monomials, span_normal}
use Rattle.tree.specs.Tree.{Live}
use Rattle.tree.proofs.Planting.{awaited-none}
use Rattle.poly.proofs.Maxima.{words_small}
use Rattle.judges.specs.Judges.{steps, walk_by}
use Rattle.poly.specs.Keys.{key_at}
use Rattle.heads.specs.Remaining.{remaining}
use Rattle.steps.specs.Walking.{seen, Walking}
use Rattle.judges.specs.Plans.{judges_of, Ready}
use Rattle.judges.specs.declared.Plan.{Plan}
use Rattle.poly.proofs.Heads.{key_here, key_beyond}

steps_enough : 2 ^ 64 ≤ steps
unfolding steps
steps_enough = omega arith

-- a divisor is its first term and the later ones
pub divisor-terms : (g : List ℕ) → 0 < records g → poly_of base g ≡ term_at base g 0 ∷ terms base g 1 (records g - 1)
unfolding poly_of
divisor-terms g h = let more : records g ≡ suc (records g - 1) = omega arith in ap (terms base g 0) more

-- nothing waits in a tree whose words are zero: here the first m words of the work, which are at least those of the tree
module _
    (plan : Plan) (q r w : List ℕ) (other : plan.judge.remainders ≡ records r) (few : records q < 2 ^ 32)
    (small : (x : ℕ) → x < records q → (word_at q x < 2 ^ 63) × (coef_at q x < plan.p)) (long : 4 * records q ≤ length w)
    (m : ℕ) (blank : (i : ℕ) → i < m → get_or w i 0 ≡ 0) (front : 4 * records q ≤ m) (root : 2 < m)
  where
    abbrev p : ℕ
    p = plan.p

    abbrev f : List ℕ
    f = plan.f.now

    abbrev g : List ℕ
    g = plan.g.now

    abbrev R : Ready p f g plan.inverse plan.judge
    R = plan.ready

    live : Live q g w
    live =
        record {
          long = long;
          tree =
              record {
                holds =
                    λ j a b. record {
                      first = omega (arith, blank (2 * (2 * j)) (omega arith));
                      second = omega (arith, blank (2 * (2 * j + 1)) (omega arith));
                      copies =
                          inl
                          (record {
                            key = blank (2 * j) (omega arith) ∙ sym (blank (2 * (2 * j)) (omega arith));
                            tag = blank (2 * j + 1) (omega arith) ∙ sym (blank (2 * (2 * j) + 1) (omega arith));
                          });
                    };
              };
          waiting = λ x b. record { waits = inl (blank (2 * (records q + x)) (omega arith)) };
        }

    start : remaining p f g q w 0 ≡ span f 0 (records f)
    start =
        (λ d. span f 0 (sub-zero (records f) d) ++ negated p (awaited-none q g w live (blank 2 root) d)) ∙ append-nil (span f 0 (records f))

    -- the dividend's terms are what remains
    dividend : poly_of base f ≡ seen p (remaining p f g q w 0)
    dividend =
        let n = span_normal p f R.dividend in
        let terms = span f 0 (records f) in
        poly_decoded base f
        ∙ ap (decoded_poly base)
        (sym (sorted_self Rising R.positive terms n.falling (reduced_small p terms n.reduced)) ∙ ap (sorted Rising p) (sym start))

    first-key : key_at f 0 ≤ 2 ^ 64
    first-key =
        elim (dec_lt 0 (records f)) [
          | yes h ↦ omega (arith, key_here f 0 h, words_small p f R.dividend 0 h)
          | no h ↦ omega (arith, key_beyond f 0 (omega arith))
        ]

    pub walk-starts : Walking plan q r w 0 0 0
    walk-starts =
        record {
          live = live;
          sides =
              record {
                rows_words = λ x b. (small x b).0;
                rows_coefs = λ x b. (small x b).1;
                cols_words = words_small p g R.divisor;
                cols_coefs = λ x b. (R.divisor.coefs x b).1;
                few = (few, R.few);
              };
          remainders = other;
          within = omega arith;
          quotient_within = omega arith;
          remainder_within = omega arith;
          unwritten = λ x a b. blank (2 * (records q + x)) (omega arith);
          idle = λ z. blank 2 root;
          monomials = subst Monomial (sym start) (span_monomials p f R.dividend);
          quotient_monomials = tt;
          remainder_monomials = tt;
          fuel = steps;
          enough = max-le (omega (arith, first-key, steps_enough)) (omega (arith, blank 2 root));
          walked = λ d. walk_by p (judges_of f g plan.judge) (dividend d) (divisor-terms g R.some d);
        }
