-- The loop of the walk, over a tree that grows with the quotient: its rows are the front of the quotient room. How a tree grows is
-- `Growing` of the crate tree.
--
--   rows_words                          the records of the front of a room
--   Running                             the loop, before each step
--   runs_first                          the first tree
--   Grew, grows_on                      the tree after it grew, where a quotient term may be written as far as the room goes
--   runs_on, runs_ended                 after a step: the loop goes on, or ends; its work was as long as v
use Prim.Native.Nat.{ℕ, zero, suc, ◌+◌, ◌-◌, ◌*◌, ◌/◌, ◌^◌, ◌<◌, ◌≤◌, max}
use mathlib.Core.Path.{◌≡◌, refl, sym, ◌∙◌, ap, subst}
use mathlib.Core.List.{List, [], ◌∷◌, ◌++◌}
use mathlib.Core.Logic.{◌⊎◌, inl, inr}
use native.Mathlib.Decide.{dec_lt}
use native.Mathlib.Omega.{arith}
use lib.ListN.{length, get_or, take, drop, length-append, length-drop}
use lib.Seq.{length-take-le, get_or-take, get_or-drop, take-append_seam, get_or-append-add}
use Rattle.algebra.specs.Monomials.{Letters, Numbers}
use Rattle.algebra.specs.Orders.{Lex}
use Rattle.algebra.specs.Polynomials.{Poly, term, negated}
use Rattle.algebra.specs.Walk.{Walked, stopped, joined}
use Rattle.algebra.proofs.Clauses.{walk-ends}
use Rattle.std.specs.Prelude.{Result, Ok}
use Rattle.std.proofs.lemmas.Result.{IfOk-at_ok}
use Rattle.reasons.specs.declared.Reason.{Reason}
use Rattle.monomial.specs.Layout.{base}
use Rattle.poly.specs.Words.{records, word_at, coef_at, term_at, terms, span, decoded_poly, Monomial}
use Rattle.growth.specs.Growth.{Grown}
use Rattle.growth.proofs.Growing.{Front, grown_live, grown-awaited, grown-root}
use Rattle.poly.specs.Keys.{key_at}
use Rattle.heads.specs.Remaining.{remaining}
use Rattle.steps.specs.Walking.{seen, whole, walk_on, Walking, Stepped}
use Rattle.walk.specs.Running.{Fresh, Enough, Ran}
use Rattle.judges.specs.Plans.{judges_of}
use Rattle.judges.specs.declared.Plan.{Plan}
use Rattle.steps.specs.declared.State.{State}
use Rattle.steps.proofs.Onward.{state}
use Rattle.heads.proofs.Greatest.{remaining-none}
use Rattle.walk.proofs.Runs.{walk-starts}

-- The front of a room

module _ (q : List ℕ) (n : ℕ) (h : n ≤ records q) where
  rows-count : records (take (2 * n) q) ≡ n
  rows-count = let long : length (take (2 * n) q) ≡ 2 * n = length-take-le (2 * n) q (omega arith) in omega arith

  pub rows_words : (i : ℕ) → i < n → (word_at (take (2 * n) q) i ≡ word_at q i) × (coef_at (take (2 * n) q) i ≡ coef_at q i)
  rows_words i l = (get_or-take (2 * n) q (2 * i) 0 (omega arith), get_or-take (2 * n) q (2 * i + 1) 0 (omega arith))

  span-rows : (i m : ℕ) → i + m ≤ n → span (take (2 * n) q) i m ≡ span q i m
  span-rows i zero l = refl
  span-rows i (suc m) l =
      let e = rows_words i (omega arith) in
      λ d. term {K = Numbers} (e.0 d) (e.1 d) ∷ span-rows (suc i) m (omega arith) d

-- the loop, before each step
pub record Running (plan : Plan) (q₀ r₀ w₀ q r w : List ℕ) (rows : ℕ) (s : State) (k : ℕ) : Type 0 where
  pub quotient_long : length q ≡ length q₀
  pub remainder_long : length r ≡ length r₀
  pub work_long : length w ≡ length w₀
  pub top : k ≡ max (key_at plan.f.now s.next) (word_at w 1)
  pub room : plan.judge.quotients ≡ records q
  pub long : 4 * records q ≤ length w
  pub few : records q < 2 ^ 32
  pub within : rows ≤ records q
  pub some : 0 < records q → 0 < rows
  pub small : (x : ℕ) → x < records q → (word_at q x < 2 ^ 63) × (coef_at q x < plan.p)
  pub walking : Walking plan (take (2 * rows) q) r w s.next s.quotient s.remainder

-- the tree after it grew
pub record Grew (plan : Plan) (q r w w' : List ℕ) (m : ℕ) (s : State) (k : ℕ) : Type 0 where
  pub as_long : length w' ≡ length w
  pub within : m ≤ records q
  pub top : k ≡ max (key_at plan.f.now s.next) (word_at w' 1)
  pub free : s.quotient < plan.judge.quotients → s.quotient < records (take (2 * m) q)
  pub walking : Walking plan (take (2 * m) q) r w' s.next s.quotient s.remainder

module _
    {plan : Plan} (q : List ℕ) {r w w' : List ℕ} {n m i a b : ℕ} (hn : n ≤ records q) (hm : m ≤ records q) (more : n ≤ m) (some : 0 < n)
    (long : 4 * records q ≤ length w) (small : (x : ℕ) → x < records q → (word_at q x < 2 ^ 63) × (coef_at q x < plan.p)) (few : records q < 2 ^ 32)
    (W : Walking plan (take (2 * n) q) r w i a b) (G : Grown n m w w')
  where
    abbrev p : ℕ
    p = plan.p

    abbrev f : List ℕ
    f = plan.f.now

    abbrev g : List ℕ
    g = plan.g.now

    abbrev old : List ℕ
    old = take (2 * n) q

    abbrev new : List ℕ
    new = take (2 * m) q

    cn : records old ≡ n
    cn = rows-count q n hn

    cm : records new ≡ m
    cm = rows-count q m hm

    front : Front old new
    front =
        record {
          fewer = omega (arith, cn, cm);
          words = λ x h. (rows_words q m hm x (omega (arith, cn))).0 ∙ sym (rows_words q n hn x (omega (arith, cn))).0;
          coefs = λ x h. (rows_words q m hm x (omega (arith, cn))).1 ∙ sym (rows_words q n hn x (omega (arith, cn))).1;
        }

    grown : Grown (records old) (records new) w w'
    grown = subst (λ (x : ℕ). Grown x (records new) w w') (sym cn) (subst (λ (x : ℕ). Grown n x w w') (sym cm) G)

    enough_long : 4 * records new ≤ length w
    enough_long = omega (arith, cm)

    same_root : word_at w' 1 ≡ word_at w 1
    same_root = grown-root old new g w w' front W.live grown enough_long (omega (arith, cn))

    same_remaining : remaining p f g new w' i ≡ remaining p f g old w i
    same_remaining =
        ap (λ (x : Poly Numbers). span f i (records f - i) ++ negated p x) (grown-awaited old new g w w' front W.live grown enough_long)

    same_span : span new 0 a ≡ span old 0 a
    same_span =
        span-rows q m hm 0 a (omega (arith, W.quotient_within, cn)) ∙ sym (span-rows q n hn 0 a (omega (arith, W.quotient_within, cn)))

    grown_walking : Walking plan new r w' i a b
    grown_walking =
        record {
          live = grown_live old new g w w' front W.live grown enough_long;
          sides =
              record {
                rows_words = λ x h. omega (arith, (rows_words q m hm x (omega (arith, cm))).0, (small x (omega (arith, cm))).0);
                rows_coefs = λ x h. omega (arith, (rows_words q m hm x (omega (arith, cm))).1, (small x (omega (arith, cm))).1);
                cols_words = W.sides.cols_words;
                cols_coefs = W.sides.cols_coefs;
                few = (omega (arith, cm), W.sides.few.1);
              };
          remainders = W.remainders;
          within = W.within;
          quotient_within = omega (arith, W.quotient_within, cn, cm);
          remainder_within = W.remainder_within;
          unwritten = λ x l h. ap (λ (y : ℕ). word_at w' (y + x)) cm ∙ unwritten x l (omega (arith, cm)) (dec_lt x n);
          idle = λ z. absurd (omega (arith, cm));
          monomials = subst Monomial (sym same_remaining) W.monomials;
          quotient_monomials = subst Monomial (sym same_span) W.quotient_monomials;
          remainder_monomials = W.remainder_monomials;
          fuel = W.fuel;
          enough = subst (λ (x : ℕ). max (key_at f i) x ≤ W.fuel) (sym same_root) W.enough;
          walked =
              W.walked
              ∙ (λ d. joined (decoded_poly base (sym same_span d)) (decoded_poly base (span r 0 b))
              (walk_on plan W.fuel a b (seen p (sym same_remaining d))));
        }
      where
        unwritten : (x : ℕ) → a ≤ x → x < m → Dec (x < n) → word_at w' (m + x) ≡ 0
        unwritten x l h (yes k) = (G.moved x k).0 ∙ ap (λ (y : ℕ). word_at w (y + x)) (sym cn) ∙ W.unwritten x l (omega (arith, cn))
        unwritten x l h (no k) = G.empty x (omega arith) h

-- The loop

pub runs_first : {plan : Plan} {q r w₀ w : List ℕ} → Fresh plan q r w₀ →
    {k : ℕ} → k ≡ max (key_at plan.f.now 0) (word_at w 1) →
    (m rows : ℕ) → (length w ≡ length w₀) × ((i : ℕ) → i < m → get_or w i 0 ≡ 0) → 2 < m → 4 * rows ≤ m → rows ≤ records q → (0 < records q → 0 < rows) →
    Running plan q r w q r w rows (state 0 0 0) k
runs_first {plan} {q} {r} {w₀} {w} F top m rows blank root front h some =
    let count = rows-count q rows h in
    record {
      quotient_long = refl;
      remainder_long = refl;
      work_long = refl;
      top = top;
      room = F.quotients;
      long = omega (arith, F.long, blank.0);
      few = F.few;
      within = h;
      some = some;
      small = F.small;
      walking =
          walk-starts plan (take (2 * rows) q) r w F.remainders (omega (arith, count, F.few))
          (λ x l.
          let e = rows_words q rows h x (omega (arith, count)) in
          let s = F.small x (omega (arith, count)) in
          (omega (arith, e.0, s.0), omega (arith, e.1, s.1)))
          (omega (arith, count, F.long, blank.0))
          m
          blank.1
          (omega (arith, count))
          root;
    }

module _ {plan : Plan} {q₀ r₀ w₀ q r w : List ℕ} {rows : ℕ} {s : State} {k : ℕ} (L : Running plan q₀ r₀ w₀ q r w rows s k) where
  taken_within : s.quotient ≤ rows
  taken_within = omega (arith, L.walking.quotient_within, rows-count q rows L.within)

  pub runs_ended : {v : List ℕ} → length w₀ ≡ length v → k ≤ 0 → Ran plan q₀ r₀ v q r w (Ok s)
  runs_ended {v} e z =
      let p = plan.p in
      let f = plan.f.now in
      let g = plan.g.now in
      let W = L.walking in
      let i = s.next in
      let n = s.quotient in
      let j = s.remainder in
      let front = take (2 * rows) q in
      let here : span front 0 n ≡ span q 0 n = span-rows q rows L.within 0 n (omega (arith, taken_within)) in
      let none : remaining p f g front w i ≡ [] = remaining-none p f g front w i W.live (omega (arith, L.top)) in
      let empty : walk_on plan W.fuel n j (seen p (remaining p f g front w i)) ≡ stopped 0 [] =
      ap (λ (h : Poly Numbers). walk_on plan W.fuel n j (seen p h)) none
      ∙ walk-ends (Lex 4) p (term_at base g 0) (terms base g 1 (records g - 1)) (judges_of f g plan.judge) W.fuel n j
      in
      let done : whole plan ≡ joined (decoded_poly base (span q 0 n)) (decoded_poly base (span r 0 j)) (stopped 0 []) =
      W.walked ∙ (λ d. joined (decoded_poly base (here d)) (decoded_poly base (span r 0 j)) (empty d))
      in
      record {
        quotient_long = L.quotient_long;
        remainder_long = L.remainder_long;
        work_long = L.work_long ∙ e;
        replies = ap (λ (x : Walked (Letters 4)). x.reply) done;
        wrote =
            record {
              quotient_within = omega (arith, taken_within, L.within);
              remainder_within = W.remainder_within;
              quotient_monomials = subst Monomial here W.quotient_monomials;
              remainder_monomials = W.remainder_monomials;
              ends = done;
            };
      }

  module _ {w' : List ℕ} {m : ℕ} (E₀ : Enough rows s.quotient (records q₀) w w' m) where
    E : Enough rows s.quotient (records q) w w' m
    E = subst (λ (x : ℕ). Enough rows s.quotient x w w' m) (ap (λ (x : ℕ). x / 2) (sym L.quotient_long)) E₀

    abbrev Free : Type 0
    Free = s.quotient < plan.judge.quotients → s.quotient < records (take (2 * m) q)

    free : Free
    free h = omega (arith, rows-count q m E.within, E.free taken_within (omega (arith, L.room)))

    pub grows_on : Grew plan q r w w' m s k
    grows_on = go E.grown
      where
        go : ((m ≡ rows) × (w' ≡ w)) ⊎ ((0 < rows) × Grown rows m w w') → Grew plan q r w w' m s k
        go (inl e) =
            record {
              as_long = ap length e.1;
              within = E.within;
              top = L.top ∙ ap (λ (x : List ℕ). max (key_at plan.f.now s.next) (word_at x 1)) (sym e.1);
              free = free;
              walking =
                  subst (λ (x : ℕ). Walking plan (take (2 * x) q) r w' s.next s.quotient s.remainder) (sym e.0)
                  (subst (λ (x : List ℕ). Walking plan (take (2 * rows) q) r x s.next s.quotient s.remainder) (sym e.1) L.walking);
            }
        go (inr e) =
            let root = same_root q L.within E.within E.more e.0 L.long L.small L.few L.walking e.1 in
            record {
              as_long = e.1.as_long;
              within = E.within;
              top = L.top ∙ ap (max (key_at plan.f.now s.next)) (sym root);
              free = free;
              walking = grown_walking q L.within E.within E.more e.0 L.long L.small L.few L.walking e.1;
            }

    -- after a step on the front of the room
    module _ {front r' w'' : List ℕ} {end : Result State Reason} (T : Stepped plan (take (2 * m) q) r w' k front r' w'' end) where
      abbrev q' : List ℕ
      q' = front ++ drop (2 * m) q

      front-long : length front ≡ 2 * m
      front-long = T.quotient_long ∙ length-take-le (2 * m) q (omega (arith, E.within))

      pub room-long : length q' ≡ length q
      room-long = omega (arith, length-append front (drop (2 * m) q), front-long, length-drop (2 * m) q, E.within)

      same_front : take (2 * m) q' ≡ front
      same_front = ap (λ (x : ℕ). take x q') (sym front-long) ∙ take-append_seam front (drop (2 * m) q)

      at-front : (i : ℕ) → i < 2 * m → get_or q' i 0 ≡ get_or front i 0
      at-front i h = sym (get_or-take (2 * m) q' i 0 h) ∙ ap (λ (x : List ℕ). get_or x i 0) same_front

      at_back : (i : ℕ) → 2 * m ≤ i → get_or q' i 0 ≡ get_or q i 0
      at_back i h =
          let j = i - 2 * m in
          let place : length front + j ≡ i = omega (arith, front-long) in
          let same : 2 * m + j ≡ i = omega arith in
          ap (λ (x : ℕ). get_or q' x 0) (sym place)
          ∙ get_or-append-add front (drop (2 * m) q) j 0
          ∙ get_or-drop (2 * m) q j 0
          ∙ ap (λ (x : ℕ). get_or q x 0) same

      pub quotient_long : length q' ≡ length q₀
      quotient_long = room-long ∙ L.quotient_long

      pub remainder_long : length r' ≡ length r₀
      remainder_long = T.remainder_long ∙ L.remainder_long

      pub work_long : length w'' ≡ length w₀
      work_long = T.work_long ∙ grows_on.as_long ∙ L.work_long

      pub runs_on : (t : State) → end ≡ Ok t → {k' : ℕ} → k' ≡ max (key_at plan.f.now t.next) (word_at w'' 1) → Running plan q₀ r₀ w₀ q' r' w'' m t k'
      runs_on t z e =
          let W = IfOk-at_ok (λ x. Walking plan front r' w'' x.next x.quotient x.remainder) z T.goes_on in
          let same : records q' ≡ records q = ap (λ (x : ℕ). x / 2) room-long in
          record {
            quotient_long = quotient_long;
            remainder_long = remainder_long;
            work_long = work_long;
            top = e;
            room = L.room ∙ sym same;
            long = omega (arith, same, L.long, T.work_long, grows_on.as_long);
            few = omega (arith, same, L.few);
            within = omega (arith, same, E.within);
            some = λ h. omega (arith, L.some (omega (arith, same)), E.more);
            small = λ x h. here x (omega (arith, same)) (dec_lt x m) W;
            walking = subst (λ (x : List ℕ). Walking plan x r' w'' t.next t.quotient t.remainder) (sym same_front) W;
          }
        where
          here : (x : ℕ) → x < records q → Dec (x < m) → Walking plan front r' w'' t.next t.quotient t.remainder →
              (word_at q' x < 2 ^ 63) × (coef_at q' x < plan.p)
          here x h (yes l) W =
              let in-front : x < records front = omega (arith, front-long) in (
                omega (arith, at-front (2 * x) (omega arith), W.sides.rows_words x in-front),
                omega (arith, at-front (2 * x + 1) (omega arith), W.sides.rows_coefs x in-front),
              )
          here x h (no l) W = (
            omega (arith, at_back (2 * x) (omega arith), (L.small x h).0),
            omega (arith, at_back (2 * x + 1) (omega arith), (L.small x h).1),
          )
