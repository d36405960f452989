-- Rooms as a call leaves them.
--
--   Written f s n       the first n records of s are the terms of f
--   written_count       f has n terms
--   kept-holds          a room that was written and left with a reply holds what `holding` says
--   holding-none        a call without a room leaves nothing in it
--   ended_by            report, rooms and work that were left with a reply are what `ended` says
--   all_cleared         an array that was cleared is as long as it was
--   room_within         where a room is large enough, its reply is 0
--   filled-reply        a room that was filled gets the reply that the polynomial's terms give
--   filled_written      the first n records of a filled room are the terms of the polynomial whose words it was filled with
use Prim.Native.Nat.{ℕ, ◌+◌, ◌-◌, ◌*◌, ◌/◌, ◌≤◌}
use mathlib.Core.Path.{◌≡◌, refl, sym, ◌∙◌, ap}
use mathlib.Core.Bool.{Bool, true, false}
use mathlib.Core.List.{List, [], ◌++◌}
use native.Mathlib.Decide.{ℕ_discrete, dec_le}
use native.Mathlib.Omega.{arith}
use lib.Dec.{eqb, leb}
use lib.ListN.{length, take, replicate}
use borrow.Author.Tests.{eq-eqb, ne_eqb, lt-leb}
use Rattle.algebra.specs.Residues.{pick}
use Rattle.algebra.specs.Monomials.{Letters, Numbers}
use Rattle.algebra.specs.Orders.{Rising}
use Rattle.algebra.specs.Polynomials.{Poly, norm}
use Rattle.monomial.specs.Layout.{base}
use Rattle.poly.specs.Words.{records, span, words_of, filled, cleared}
use Rattle.poly.proofs.Readings.{flat, coded_poly, flat_coded, length-flat, flat-span, length-span, length_coded}
use Rattle.refusals.specs.Reports.{done, refusal}
use Rattle.refusals.specs.declared.report.Report.{Report}
use Rattle.calls.specs.Outcomes.{outcome, told, holding, ended, room_reply}
use Rattle.calls.specs.Endings.{kept, Filled}

pub record Written (f : Poly (Letters 4)) (s : List ℕ) (n : ℕ) : Type 0 where
  pub within : n ≤ records s
  pub words : coded_poly base f ≡ span s 0 n

module _ {f : Poly (Letters 4)} {s : List ℕ} {n : ℕ} (W : Written f s n) where
  pub written_count : length f ≡ n
  written_count = sym (length_coded base f) ∙ ap length W.words ∙ length-span s 0 n

  -- the words of f are the front of the slice
  written_words : words_of base f ≡ take (2 * n) s
  written_words =
      let inside : 2 * (0 + n) ≤ length s = omega (arith, W.within) in
      sym (flat_coded base f) ∙ ap flat W.words ∙ flat-span s 0 n inside

  written_long : length (words_of base f) ≡ 2 * n
  written_long =
      ap length (sym (flat_coded base f)) ∙ length-flat (coded_poly base f) ∙ ap (λ (x : ℕ). 2 * x) (length_coded base f ∙ written_count)

module _ (reply : ℕ) (f : Poly (Letters 4)) (s₀ s s' : List ℕ) (n : ℕ) (same : length s ≡ length s₀) (W : reply ≡ 0 → Written f s n) (left : s' ≡ kept reply n s) where
  pub kept-holds : s' ≡ holding reply f s₀
  kept-holds = go (ℕ_discrete reply 0)
    where
      go : Dec (reply ≡ 0) → s' ≡ holding reply f s₀
      go (yes z) =
          let rest : length s - 2 * n ≡ length s₀ - length (words_of base f) = omega (arith, same, written_long (W z)) in
          left
          ∙ ap (λ b. pick b (take (2 * n) s ++ replicate (length s - 2 * n) 0) (cleared s)) (eq-eqb reply 0 z)
          ∙ (λ d. sym (written_words (W z)) d ++ replicate (rest d) 0)
          ∙ sym (ap (λ b. pick b (filled (length s₀) (words_of base f)) (cleared s₀)) (eq-eqb reply 0 z))
      go (no k) =
          left
          ∙ ap (λ b. pick b (take (2 * n) s ++ replicate (length s - 2 * n) 0) (cleared s)) (ne_eqb reply 0 k)
          ∙ ap (λ (x : ℕ). replicate x 0) same
          ∙ sym (ap (λ b. pick b (filled (length s₀) (words_of base f)) (cleared s₀)) (ne_eqb reply 0 k))

pub holding-none : (reply : ℕ) → holding reply [] [] ≡ []
holding-none reply = go (eqb reply 0)
  where
    go : (t : Bool) → pick t (filled 0 []) (cleared []) ≡ []
    go true = refl
    go false = refl

pub told_counts : (reply n m n' m' : ℕ) → (reply ≡ 0 → n ≡ n') → (reply ≡ 0 → m ≡ m') → told reply n m ≡ told reply n' m'
told_counts reply n m n' m' e f = go (ℕ_discrete reply 0)
  where
    go : Dec (reply ≡ 0) → told reply n m ≡ told reply n' m'
    go (yes z) =
        ap (λ b. pick b (done n m) (refusal reply 0 0)) (eq-eqb reply 0 z)
        ∙ (λ d. done (e z d) (f z d))
        ∙ sym (ap (λ b. pick b (done n' m') (refusal reply 0 0)) (eq-eqb reply 0 z))
    go (no k) =
        ap (λ b. pick b (done n m) (refusal reply 0 0)) (ne_eqb reply 0 k)
        ∙ sym (ap (λ b. pick b (done n' m') (refusal reply 0 0)) (ne_eqb reply 0 k))

-- a call that left its rooms and its work with a reply, and told it
pub ended_by : (reply : ℕ) (f g : Poly (Letters 4)) (first second work : List ℕ) (r : Report) (first' second' work' : List ℕ) (n m : ℕ) →
    r ≡ told reply n m → (reply ≡ 0 → length f ≡ n) → (reply ≡ 0 → length g ≡ m) → first' ≡ holding reply f first → second'
    ≡ holding reply g second → work' ≡ cleared work → outcome r first' second' work' ≡ ended reply f g first second work
ended_by reply f g first second work r first' second' work' n m er en em ef es ew =
    let counts = told_counts reply n m (length f) (length g) (λ z. sym (en z)) (λ z. sym (em z)) in
    λ d. outcome ((er ∙ counts) d) (ef d) (es d) (ew d)

-- Rooms that were filled with a normal form

pub all_cleared : (s₀ s s' : List ℕ) → length s ≡ length s₀ → s' ≡ cleared s → s' ≡ cleared s₀
all_cleared s₀ s s' e f = f ∙ ap (λ (n : ℕ). replicate n 0) e

pub room_within : (n : ℕ) (room : List ℕ) → room_reply n room ≡ 0 → n ≤ records room
room_within n room e = go (dec_le n (records room))
  where
    go : Dec (n ≤ records room) → n ≤ records room
    go (yes h) = h
    go (no h) =
        let ten : room_reply n room ≡ 10 = ap (λ (b : Bool). pick b 0 10) (lt-leb n (records room) (omega arith)) in
        absurd (omega arith)

module _ (p : ℕ) (f : Poly (Letters 4)) (whole : Poly Numbers) (words : coded_poly base f ≡ norm Rising p whole) (room room' : List ℕ) (n : ℕ)
    (F : Filled p whole room room' n) (same : length room' ≡ length room) where
  many : length f ≡ length (norm Rising p whole)
  many = sym (length_coded base f) ∙ ap length words

  pub filled-reply : room_reply n room' ≡ room_reply (length f) room
  filled-reply = go (dec_le n (records room))
    where
      here : records room' ≡ records room
      here = ap (λ (x : ℕ). x / 2) same

      go : Dec (n ≤ records room) → room_reply n room' ≡ room_reply (length f) room
      go (yes h) =
          let count : length f ≡ n = many ∙ ap length (sym (F.fits h)) ∙ length-span room' 0 n in
          λ d. pick (leb (sym count d) (here d)) 0 10
      go (no h) =
          ap (λ b. pick b 0 10) (lt-leb n (records room') (omega (arith, here)))
          ∙ sym (ap (λ b. pick b 0 10) (lt-leb (length f) (records room) (omega (arith, F.full (omega arith), many))))

  pub filled_written : room_reply n room' ≡ 0 → Written f room' n
  filled_written e =
      let h = room_within n room' e in
      record { within = h; words = words ∙ sym (F.fits (omega (arith, ap (λ (x : ℕ). x / 2) same))) }
