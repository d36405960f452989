-- One step of the walk on words: a law for each way in which it can go.
--
--   AtHead, at_head                      a walk whose greatest monomial was taken out of what remains
--   step_skips                           the monomial was cancelled
--   quotient-word                        the quotient's word is a monomial, and the lead's times it is the one divided
--   says, says_remainder                 what the judges say of a quotient's word, and of a remainder term
--   factors_small, row_asked             what the product of its coefficient and the new row ask for
--   remainder_asked                      what a remainder term asks for
--   step_stops_quotient, step-divides    the quotient term is refused; it is written, and its products wait
--   step_stops_remainder, step_moves     the remainder term is refused; it is written
use Prim.Native.Nat.{ℕ, zero, suc, ◌+◌, ◌-◌, ◌*◌, ◌/◌, ◌%◌, ◌^◌, ◌<◌, ◌≤◌, max}
use mathlib.Core.Path.{◌≡◌, refl, sym, ◌∙◌, ap, subst}
use mathlib.Core.Bool.{true, false}
use mathlib.Core.List.{List, [], ◌∷◌, ◌++◌}
use native.Mathlib.Nat.{mod-lt, pos_of_ne-zero, le-max_left, le-max_right}
use native.Mathlib.Numerals.{add-one}
use native.Mathlib.Decide.{ℕ_discrete}
use native.Mathlib.Omega.{arith}
use lib.Dec.{eqb}
use lib.ListN.{length}
use Rattle.algebra.specs.Residues.{inverse}
use Rattle.algebra.specs.Monomials.{Letters, Numbers}
use Rattle.algebra.specs.Orders.{Lex, Rising}
use Rattle.algebra.specs.Polynomials.{Term, term, Poly, times, negated, All, Below, Alike}
use Rattle.algebra.specs.Walk.{Judges, Walked, to_quotient, to_remainder, remains, joined}
use Rattle.algebra.proofs.Tests.{never}
use Rattle.algebra.proofs.Scan.{first_within}
use Rattle.algebra.proofs.All.{all_append, negated_all}
use Rattle.algebra.proofs.Sorted.{alike_all, sorted_head, sorted_same}
use Rattle.algebra.proofs.Clauses.{joined-quotient, joined-remainder, quotient-stopped, remainder-stopped, walk_skips, walk-quotient, walk-remainder}
use Rattle.std.specs.Prelude.{Ok, Err}
use Rattle.reasons.specs.Reasons.{number_of}
use Rattle.reasons.specs.declared.Reason.{Reason}
use Rattle.reasons.proofs.Laws.{number_positive}
use Rattle.moduli.specs.Moduli.{limit}
use Rattle.monomial.specs.Layout.{base, word_divides}
use Rattle.monomial.proofs.Laws.{read, monomial_fits, monomial_word, divides_iff, word_divides_lem, sum-exponents}
use Rattle.poly.specs.Words.{records, word_at, coef_at, term_at, terms, span, poly_of, decoded_poly, Monomial}
use Rattle.poly.proofs.Readings.{decoded_append, terms_decoded, span_stored, span_all}
use Rattle.tree.specs.Tree.{Live, Sides}
use Rattle.poly.proofs.Records.{put, put-length, put-word, put-coef, put_other}
use Rattle.poly.proofs.Maxima.{word_small}
use Rattle.poly.specs.Keys.{key_at}
use Rattle.heads.specs.Remaining.{remaining, Headed}
use Rattle.steps.specs.Walking.{seen, whole, walk_on, Walking, RowPut, Stepped}
use Rattle.judges.specs.Plans.{is_test, judges_of, quotient_reply, remainder_reply, Ready}
use Rattle.judges.specs.declared.Plan.{Plan}
use Rattle.steps.specs.declared.State.{State}
use Rattle.judges.proofs.Judging.{reply-word, passes_room, passes_fits, remainder_reply_lem, remainder-room}
use Rattle.steps.proofs.Seen.{is_word, remains_seen}
use Rattle.poly.proofs.Heads.{max_lower}
use Rattle.heads.proofs.Greatest.{remaining_below}
use Rattle.steps.proofs.Rows.{rows_alike}

abbrev pub state : ℕ → ℕ → ℕ → State
state i n j = record { next = i; quotient = n; remainder = j }

inverse_within : (p a : ℕ) → inverse p a ≤ 1 + (p - 1)
unfolding inverse
inverse_within p a = first_within (λ x. eqb (a * x % p) 1) 1 (p - 1)

-- a walk at a head: the greatest monomial, of key k, was taken out of what remains
pub record AtHead (plan : Plan) (q r w : List ℕ) (i n j k : ℕ) (w' : List ℕ) (i' c : ℕ) : Type 0 where
  pub walking : Walking plan q r w i n j
  pub some : 0 < k
  pub top : k ≡ max (key_at plan.f.now i) (word_at w 1)
  pub free : n < plan.judge.quotients → n < records q
  pub headed : Headed plan.p plan.f.now plan.g.now q w i k w' i' c

-- from what a step asks, and the head that was taken
pub at_head : {plan : Plan} {q r w : List ℕ} {i n j k : ℕ} {w' : List ℕ} {i' c : ℕ} →
    (0 < k) × (k ≡ max (key_at plan.f.now i) (word_at w 1)) × (n < plan.judge.quotients → n < records q) → Walking plan q r w i n j →
    Headed plan.p plan.f.now plan.g.now q w i k w' i' c →
    AtHead plan q r w i n j k w' i' c
at_head a w h = record { walking = w; some = a.0; top = a.1; free = a.2; headed = h }

module _ {plan : Plan} {q r w : List ℕ} {i n j k : ℕ} {w' : List ℕ} {i' c : ℕ} (S : AtHead plan q r w i n j k w' i' c) where
  abbrev p : ℕ
  p = plan.p

  abbrev f : List ℕ
  f = plan.f.now

  abbrev g : List ℕ
  g = plan.g.now

  abbrev R : Ready p f g plan.inverse plan.judge
  R = plan.ready

  abbrev W : Walking plan q r w i n j
  W = S.walking

  abbrev H : Headed p f g q w i k w' i' c
  H = S.headed

  abbrev judges : Judges (Letters 4)
  judges = judges_of f g plan.judge

  abbrev before : Poly Numbers
  before = remaining p f g q w i

  abbrev after : Poly Numbers
  after = remaining p f g q w' i'

  abbrev less : ℕ
  less = W.fuel - 1

  fuel_more : W.fuel ≡ suc less
  fuel_more = omega (arith, W.enough, S.some, S.top)

  lower_fuel : max (key_at f i') (word_at w' 1) ≤ less
  lower_fuel = omega (arith, W.enough, H.lower, S.top)

  below : Below Rising (k - 1) after
  below = remaining_below p f g q w' i' H.live (k - 1) R.dividend R.divisor (omega (arith, H.lower))

  words : All {K = Numbers} is_word (term (k - 1) c ∷ after)
  words = alike_all {K = Numbers} is_word H.alike W.monomials

  abbrev taken : Term (Letters 4)
  taken = term (read base (k - 1)) c

  list : seen p before ≡ taken ∷ seen p after
  list = ap (decoded_poly base) (sorted_head Rising R.positive (k - 1) c after H.alike H.small below)

  abbrev quotients : Poly (Letters 4)
  quotients = decoded_poly base (span q 0 n)

  abbrev remainders : Poly (Letters 4)
  remainders = decoded_poly base (span r 0 j)

  onward : whole plan ≡ joined quotients remainders (walk_on plan (suc less) n j (taken ∷ seen p after))
  onward = W.walked ∙ (λ d. joined quotients remainders (walk_on plan (fuel_more d) n j (list d)))

  abbrev lead : Term (Letters 4)
  lead = term_at base g 0

  abbrev later : Poly (Letters 4)
  later = terms base g 1 (records g - 1)

  pub step_skips : c ≡ 0 → Stepped plan q r w k q r w' (Ok (state i' n j))
  step_skips z =
      record {
        quotient_long = refl;
        remainder_long = refl;
        work_long = H.as_long;
        stops = tt;
        goes_on =
            record {
              live = H.live;
              sides = W.sides;
              remainders = W.remainders;
              within = H.within;
              quotient_within = W.quotient_within;
              remainder_within = W.remainder_within;
              unwritten = λ y a b. H.empty y b (W.unwritten y a b);
              idle = H.idle;
              monomials = words.1;
              quotient_monomials = W.quotient_monomials;
              remainder_monomials = W.remainder_monomials;
              fuel = less;
              enough = lower_fuel;
              walked =
                  onward
                  ∙ ap (joined quotients remainders) (walk_skips (Lex 4) p lead later judges less n j taken (seen p after) z);
            };
        lower = H.lower;
      }

  pub factors_small : (c ≤ limit) × (plan.inverse ≤ limit)
  factors_small = (
    omega (arith, H.small, R.within),
    omega (arith, R.inverted, inverse_within p (coef_at g 0), R.within, R.positive),
  )

  module _ (c-some : c ≡ 0 → ⊥) where
    positive : 0 < c
    positive = pos_of_ne-zero c-some

    lead-word : is_word (word_at g 0)
    lead-word = R.divisor.monomials 0 R.some

    module _ (d : word_divides base (word_at g 0) (k - 1) ≡ true) where
      abbrev word : ℕ
      word = k - 1 - word_at g 0

      pub quotient-word : is_word word × (word_at g 0 + word ≡ k - 1)
      quotient-word =
          let x = (divides_iff base (word_at g 0) (k - 1) lead-word words.0).0 d in
          let e : x.0 ≡ word = omega (arith, x.1.1) in
          (subst is_word e x.1.0, omega (arith, x.1.1))

      exponents : (Letters 4).mul (read base (word_at g 0)) (read base word) ≡ read base (k - 1)
      exponents = sym (sum-exponents base (word_at g 0) word lead-word quotient-word.0) ∙ ap (read base) quotient-word.1

      abbrev coef : ℕ
      coef = c * inverse p (coef_at g 0) % p

      abbrev divided : Term (Letters 4)
      divided = term (read base word) coef

      -- what the judge says of the quotient's word
      abbrev pub says : ℕ
      says = quotient_reply plan.judge.maxima plan.judge.bounds plan.judge.quotients word n

      judged :
          whole plan ≡
          joined quotients remainders
          (to_quotient (judges.on_quotient n divided) divided (taken ∷ seen p after)
          (walk_on plan less (suc n) j (remains (Lex 4) p later divided (seen p after))))
      judged =
          onward
          ∙ ap (joined quotients remainders)
          (walk-quotient (Lex 4) p lead later judges less n j taken (seen p after) positive (read base word) exponents)

      reply_is : judges.on_quotient n divided ≡ says
      reply_is = reply-word R word quotient-word.0 n coef

      pub step_stops_quotient : (reason : Reason) → number_of reason ≡ says → Stepped plan q r w k q r w' (Err reason)
      step_stops_quotient reason e =
          record {
            quotient_long = refl;
            remainder_long = refl;
            work_long = H.as_long;
            stops =
                ap (λ (y : Walked (Letters 4)). y.reply) judged
                ∙ quotient-stopped divided (taken ∷ seen p after) _ (judges.on_quotient n divided) (λ y. omega (arith, number_positive reason, e ∙ sym reply_is ∙ y))
                ∙ reply_is
                ∙ sym e;
            goes_on = tt;
            lower = tt;
          }

      module _ (e : says ≡ 0) where
        room : n < records q
        room = S.free (passes_room R word quotient-word.0 n coef e)

        pub row_asked :
            ((n < records q) × (records q < 2 ^ 32) × (0 < records g) × (records g < 2 ^ 32) ×
            ((x : ℕ) → suc x < records g → word_at g (suc x) < word_at g x)) ×
            (((word_at w' (records q + n) ≡ 0) × (word + word_at g 0 + 1 ≡ k) × (word_at w' 1 < k)) × Live q g w')
        row_asked = (
          (room, W.sides.few.0, R.some, R.few, R.divisor.falls),
          (
            (
              H.empty n room (W.unwritten n (omega arith) room),
              omega (arith, quotient-word.1, S.some),
              omega (arith, H.lower, le-max_right (key_at f i') (word_at w' 1)),
            ),
            H.live,
          ),
        )

      module _ (e : says ≡ 0) {q' w'' : List ℕ} {m : ℕ} (product : m ≡ c * plan.inverse % p) (put-m : RowPut g q w' n word m k q' w'') where
        P : RowPut g q w' n word coef k q' w''
        P = subst (λ x. RowPut g q w' n word x k q' w'') (product ∙ ap (λ x. c * x % p) R.inverted) put-m

        inside : 2 * n + 1 < length q
        inside = omega (arith, room e)

        long : length q' ≡ length q
        long = ap length P.written ∙ put-length q n word coef

        same : records q' ≡ records q
        same = ap (λ (x : ℕ). x / 2) long

        abbrev columns : Poly Numbers
        columns = span g 1 (records g - 1)

        columns-words : Monomial columns
        columns-words = span_all is_word g 1 (records g - 1) (λ x a b. R.divisor.monomials x (omega arith))

        products : (y m : ℕ) → y + m ≤ records g → Monomial (times (term word coef) (span g y m))
        products y zero h = tt
        products y (suc m) h = (passes_fits R word quotient-word.0 n coef e y (omega arith), products (suc y) m (omega arith))

        abbrev next : Poly Numbers
        next = remaining p f g q' w'' i'

        next_alike : Alike p (after ++ negated p (times (term word coef) columns)) next
        next_alike =
            let front = span f i' (records f - i') in
            let new = times (term word coef) columns in
            subst (λ (x : Poly Numbers). Alike p ((front ++ negated p x) ++ negated p new) next) (sym P.was)
            (subst (λ (x : Poly Numbers). Alike p ((front ++ negated p (P.before ++ P.after)) ++ negated p new) (front ++ negated p x))
            (sym P.becomes)
            (rows_alike p front P.before P.after new))

        next-words : Monomial next
        next-words =
            let new = times (term word coef) columns in
            alike_all {K = Numbers} is_word next_alike
            (all_append {K = Numbers} is_word after (negated p new) words.1
            (negated_all {K = Numbers} is_word p new (products 1 (records g - 1) (omega (arith, R.some)))))

        next-seen : remains (Lex 4) p later divided (seen p after) ≡ seen p next
        next-seen =
            ap (λ (x : Poly (Letters 4)). remains (Lex 4) p x divided (seen p after)) (terms_decoded base g 1 (records g - 1))
            ∙ remains_seen p R.positive word coef after columns quotient-word.0 words.1 columns-words
            (products 1 (records g - 1) (omega (arith, R.some)))
            ∙ ap (decoded_poly base) (sorted_same Rising R.positive next_alike)

        row : (x : ℕ) → (x ≡ n → ⊥) → (word_at q' x ≡ word_at q x) × (coef_at q' x ≡ coef_at q x)
        row x y = (
          ap (λ (s : List ℕ). word_at s x) P.written ∙ (put_other q n word coef x y).0,
          ap (λ (s : List ℕ). coef_at s x) P.written ∙ (put_other q n word coef x y).1,
        )

        sides : Sides q' g p
        sides =
            record {
              rows_words =
                  λ x b. elim (ℕ_discrete x n) [
                    | yes y ↦ omega (arith, ap (word_at q') y, new-word, word_small word quotient-word.0)
                    | no y ↦ omega (arith, (row x y).0, W.sides.rows_words x (omega (arith, same)))
                  ];
              rows_coefs =
                  λ x b. elim (ℕ_discrete x n) [
                    | yes y ↦ omega (arith, ap (coef_at q') y, new-coef, mod-lt (c * inverse p (coef_at g 0)) R.positive)
                    | no y ↦ omega (arith, (row x y).1, W.sides.rows_coefs x (omega (arith, same)))
                  ];
              cols_words = W.sides.cols_words;
              cols_coefs = W.sides.cols_coefs;
              few = (omega (arith, same, W.sides.few.0), W.sides.few.1);
            }
          where
            new-word : word_at q' n ≡ word
            new-word = ap (λ (s : List ℕ). word_at s n) P.written ∙ put-word q n word coef inside

            new-coef : coef_at q' n ≡ coef
            new-coef = ap (λ (s : List ℕ). coef_at s n) P.written ∙ put-coef q n word coef inside

        next_lower : max (key_at f i') (word_at w'' 1) < k
        next_lower = max_lower (omega (arith, H.lower, le-max_left (key_at f i') (word_at w' 1))) P.lower

        stored : span q' 0 (n + 1) ≡ span q 0 n ++ (term word coef ∷ [])
        stored = ap (λ (s : List ℕ). span s 0 (n + 1)) P.written ∙ span_stored q n word coef inside

        now_written : quotients ++ (divided ∷ []) ≡ decoded_poly base (span q' 0 (n + 1))
        now_written = sym (decoded_append base (span q 0 n) (term word coef ∷ [])) ∙ ap (decoded_poly base) (sym stored)

        pub step-divides : Stepped plan q r w k q' r w'' (Ok (state i' (n + 1) j))
        step-divides =
            record {
              quotient_long = long;
              remainder_long = refl;
              work_long = P.as_long ∙ H.as_long;
              stops = tt;
              goes_on =
                  record {
                    live = P.live;
                    sides = sides;
                    remainders = W.remainders;
                    within = H.within;
                    quotient_within = omega (arith, same, room e);
                    remainder_within = W.remainder_within;
                    unwritten =
                        λ y a b. ap (λ z. word_at w'' (z + y)) same
                        ∙ P.others y (omega (arith, same)) (λ z. omega arith)
                        ∙ H.empty y (omega (arith, same)) (W.unwritten y (omega arith) (omega (arith, same)));
                    idle = λ z. absurd (omega (arith, same, room e));
                    monomials = next-words;
                    quotient_monomials =
                        subst Monomial (sym stored)
                        (all_append {K = Numbers} is_word (span q 0 n) (term word coef ∷ []) W.quotient_monomials (quotient-word.0, tt));
                    remainder_monomials = W.remainder_monomials;
                    fuel = less;
                    enough = omega (arith, W.enough, next_lower, S.top);
                    walked =
                        judged
                        ∙ joined-quotient quotients remainders divided (taken ∷ seen p after) _ (judges.on_quotient n divided) (reply_is ∙ e)
                        ∙ (λ d. joined (now_written d) remainders (walk_on plan less (sym (add-one n) d) j (next-seen d)));
                  };
              lower = next_lower;
            }

    module _ (d : word_divides base (word_at g 0) (k - 1) ≡ false) where
      none : ((x : (Letters 4).Mon) × ((Letters 4).mul (read base (word_at g 0)) x ≡ read base (k - 1))) → ⊥
      none x =
          never
          ((λ y. word_divides base (sym (monomial_word base (word_at g 0) lead-word) y) (sym (monomial_word base (k - 1) words.0) y))
          ∙ (word_divides_lem base (read base (word_at g 0)) (read base (k - 1))
          (monomial_fits base (word_at g 0) lead-word)
          (monomial_fits base (k - 1) words.0)
          ).1
          x)
          d

      -- what the judge says of the remainder term
      abbrev pub says_remainder : ℕ
      says_remainder = remainder_reply (is_test plan.judge) plan.judge.remainders j

      kept :
          whole plan ≡
          joined quotients remainders
          (to_remainder (judges.on_remainder j taken) taken (taken ∷ seen p after) (walk_on plan less n (suc j) (seen p after)))
      kept = onward ∙ ap (joined quotients remainders) (walk-remainder (Lex 4) p lead later judges less n j taken (seen p after) positive none)

      remainder_is : judges.on_remainder j taken ≡ says_remainder
      remainder_is = remainder_reply_lem (poly_of base f) (poly_of base g) plan.judge.quotients plan.judge.remainders (is_test plan.judge) j taken

      pub step_stops_remainder : (reason : Reason) → number_of reason ≡ says_remainder → Stepped plan q r w k q r w' (Err reason)
      step_stops_remainder reason e =
          record {
            quotient_long = refl;
            remainder_long = refl;
            work_long = H.as_long;
            stops =
                ap (λ (y : Walked (Letters 4)). y.reply) kept
                ∙ remainder-stopped taken (taken ∷ seen p after) _ (judges.on_remainder j taken) (λ y. omega (arith, number_positive reason, e ∙ sym remainder_is ∙ y))
                ∙ remainder_is
                ∙ sym e;
            goes_on = tt;
            lower = tt;
          }

      remainder_asked : says_remainder ≡ 0 → j < records r
      remainder_asked e = omega (arith, remainder-room (is_test plan.judge) plan.judge.remainders j e, W.remainders)

      module _ (e : says_remainder ≡ 0) {r' : List ℕ} (written : r' ≡ put r j (k - 1) c) where
        r-long : length r' ≡ length r
        r-long = ap length written ∙ put-length r j (k - 1) c

        r_stored : span r' 0 (j + 1) ≡ span r 0 j ++ (term (k - 1) c ∷ [])
        r_stored = ap (λ (s : List ℕ). span s 0 (j + 1)) written ∙ span_stored r j (k - 1) c (omega (arith, remainder_asked e))

        r_now : remainders ++ (taken ∷ []) ≡ decoded_poly base (span r' 0 (j + 1))
        r_now = sym (decoded_append base (span r 0 j) (term (k - 1) c ∷ [])) ∙ ap (decoded_poly base) (sym r_stored)

        pub step_moves : Stepped plan q r w k q r' w' (Ok (state i' n (j + 1)))
        step_moves =
            record {
              quotient_long = refl;
              remainder_long = r-long;
              work_long = H.as_long;
              stops = tt;
              goes_on =
                  record {
                    live = H.live;
                    sides = W.sides;
                    remainders = W.remainders ∙ ap (λ (y : ℕ). y / 2) (sym r-long);
                    within = H.within;
                    quotient_within = W.quotient_within;
                    remainder_within = omega (arith, remainder_asked e, ap (λ (y : ℕ). y / 2) r-long);
                    unwritten = λ y a b. H.empty y b (W.unwritten y a b);
                    idle = H.idle;
                    monomials = words.1;
                    quotient_monomials = W.quotient_monomials;
                    remainder_monomials =
                        subst Monomial (sym r_stored)
                        (all_append {K = Numbers} is_word (span r 0 j) (term (k - 1) c ∷ []) W.remainder_monomials (words.0, tt));
                    fuel = less;
                    enough = lower_fuel;
                    walked =
                        kept
                        ∙ joined-remainder quotients remainders taken (taken ∷ seen p after) _ (judges.on_remainder j taken) (remainder_is ∙ e)
                        ∙ (λ d. joined quotients (r_now d) (walk_on plan less n (sym (add-one j) d) (seen p after)));
                  };
              lower = H.lower;
            }
