-- How a call ends: refused by the first rule due, stopped by a later reply, or finished.
--
--   fold_first_due               a fold tells a refusal exactly when it is the first due
--   first_of                     the first of the rules that is due
--   Ends                         a call that ends in one of these ways: refused, stopped or finished
--   refused, stopped, finished   what it leaves in each
--   parts                        the four parts of an outcome
--   ends_unchanged, ends-cleared, ends_written   report and arrays after 1 to 8, after a later reply, and after 0
--   told-refused, told-stopped, told-finished   what a report's number says of the way
--   refuses                      each of 1 to 8 is told exactly when it is the first due of the ordered rules
--   replies                      the other numbers exactly when none of those is due and they are the later reply
use Prim.Native.Nat.{ℕ, ◌<◌, ◌≤◌}
use mathlib.Core.Path.{◌≡◌, sym, ◌∙◌, ap}
use mathlib.Core.Bool.{Bool}
use mathlib.Core.List.{List, [], ◌∷◌}
use mathlib.Core.Logic.{◌⊎◌, inl, inr, ◌↔◌}
use native.Mathlib.Decide.{ℕ_discrete}
use native.Mathlib.Omega.{arith}
use lib.Dec.{eqb}
use borrow.Author.Tests.{eq-eqb, ne_eqb}
use lib.ListN.{length}
use Rattle.algebra.specs.Residues.{pick}
use Rattle.algebra.specs.Monomials.{Letters}
use Rattle.algebra.specs.Polynomials.{Poly}
use Rattle.monomial.specs.Layout.{base}
use Rattle.poly.specs.Words.{words_of, filled, cleared}
use Rattle.refusals.specs.Reports.{none, done, refusal, first_or, FirstDue}
use Rattle.refusals.specs.declared.report.Report.{Report}
use Rattle.refusals.proofs.Reports.{or_else-next, or_else_here, fold_tells}
use Rattle.calls.specs.Outcomes.{Outcome, outcome, called}

-- The first rule that is due

fold_due : (rs : List Report) (q : Report) → (q.number ≡ 0 → ⊥) → first_or rs none ≡ q → FirstDue rs q
fold_due [] q n e = absurd (n (ap (λ (x : Report). x.number) (sym e)))
fold_due (r ∷ rs) q n e = go (ℕ_discrete r.number 0) (fold_due rs q n)
  where
    go : Dec (r.number ≡ 0) → (first_or rs none ≡ q → FirstDue rs q) → FirstDue (r ∷ rs) q
    go (yes z) later =
        let d = later (sym (or_else-next r (first_or rs none) z) ∙ e) in
        record {
          before = r ∷ d.before;
          after = d.after;
          stands = ap (λ (x : List Report). r ∷ x) d.stands;
          passed = (z, d.passed);
          refuses = n;
        }
    go (no z) later =
        record {
          before = [];
          after = rs;
          stands = ap (λ (x : Report). x ∷ rs) (sym (or_else_here r (first_or rs none) z) ∙ e);
          passed = tt;
          refuses = n;
        }

pub fold_first_due : (rs : List Report) (q : Report) → 0 < q.number → (first_or rs none ≡ q) ↔ FirstDue rs q
fold_first_due rs q h = (
  fold_due rs q (λ z. omega arith),
  λ d. ap (λ (x : List Report). first_or x none) d.stands ∙ fold_tells d.before q d.after none d.passed d.refuses,
)

-- the first of the rules that is due, `none` where none is
abbrev pub first_of : List Report → Report
first_of rules = first_or rules none

-- What a call leaves behind, o: by the first rule due, and by the reply where none is.
pub record Ends (rules : List Report) (reply : ℕ) (f g : Poly (Letters 4)) (first second work : List ℕ) (o : Outcome) : Type 0 where
  pub due_within : (first_of rules).number ≤ 8
  pub reply_over : (first_of rules).number ≡ 0 → (reply ≡ 0) ⊎ (8 < reply)
  pub ended : o ≡ called rules reply f g first second work

module _ {rules : List Report} {reply : ℕ} {f g : Poly (Letters 4)} {first second work : List ℕ} {o : Outcome} (E : Ends rules reply f g first second work o) where
  abbrev due : Report
  due = first_of rules

  abbrev pub refused : Outcome
  refused = outcome due first second work

  abbrev pub stopped : Outcome
  stopped = outcome (refusal reply 0 0) (cleared first) (cleared second) (cleared work)

  abbrev pub finished : Outcome
  finished =
      outcome (done (length f) (length g)) (filled (length first) (words_of base f)) (filled (length second) (words_of base g)) (cleared work)

  data Way : Type 0 where
    by_rule : (due.number ≡ 0 → ⊥) → o ≡ refused → Way
    by_reply : due.number ≡ 0 → (reply ≡ 0 → ⊥) → o ≡ stopped → Way
    to_end : due.number ≡ 0 → reply ≡ 0 → o ≡ finished → Way

  -- the end of a call whose reply passes a test, or not
  abbrev at_end : Bool → Outcome
  at_end b =
      outcome (pick b (done (length f) (length g)) (refusal reply 0 0)) (pick b (filled (length first) (words_of base f)) (cleared first))
      (pick b (filled (length second) (words_of base g)) (cleared second)) (cleared work)

  way : Way
  way = elim (ℕ_discrete due.number 0) [
    | no n ↦ by_rule n (E.ended ∙ ap (λ (b : Bool). pick b (at_end (eqb reply 0)) refused) (ne_eqb due.number 0 n))
    | yes z ↦
        let on : o ≡ at_end (eqb reply 0) = E.ended ∙ ap (λ (b : Bool). pick b (at_end (eqb reply 0)) refused) (eq-eqb due.number 0 z) in
        elim (ℕ_discrete reply 0) [
          | no n ↦ by_reply z n (on ∙ ap at_end (ne_eqb reply 0 n))
          | yes d ↦ to_end z d (on ∙ ap at_end (eq-eqb reply 0 d))
        ]
  ]

  abbrev number : ℕ
  number = o.report.number

  by_refused : o ≡ refused → o.report ≡ due
  by_refused d = ap (λ (x : Outcome). x.report) d

  by_stopped : o ≡ stopped → o.report ≡ refusal reply 0 0
  by_stopped d = ap (λ (x : Outcome). x.report) d

  by_finished : o ≡ finished → number ≡ 0
  by_finished d = ap (λ (x : Outcome). x.report.number) d

  numbers : {r s : Report} → r ≡ s → r.number ≡ s.number
  numbers d = ap (λ (x : Report). x.number) d

  stopped-over : due.number ≡ 0 → (reply ≡ 0 → ⊥) → 8 < reply
  stopped-over z n = go (E.reply_over z)
    where
      go : (reply ≡ 0) ⊎ (8 < reply) → 8 < reply
      go (inl d) = absurd (n d)
      go (inr h) = h

  pub told-refused : 0 < number → number ≤ 8 → o ≡ refused
  told-refused h k = go way
    where
      go : Way → o ≡ refused
      go (by_rule n d) = d
      go (by_reply z n d) = absurd (omega (arith, numbers (by_stopped d), stopped-over z n))
      go (to_end z n d) = absurd (omega (arith, by_finished d))

  pub told-stopped : 8 < number → (due.number ≡ 0) × (reply ≡ number) × (o ≡ stopped)
  told-stopped h = go way
    where
      go : Way → (due.number ≡ 0) × (reply ≡ number) × (o ≡ stopped)
      go (by_rule n d) = absurd (omega (arith, numbers (by_refused d), E.due_within))
      go (by_reply z n d) = (z, sym (numbers (by_stopped d)), d)
      go (to_end z n d) = absurd (omega (arith, by_finished d))

  pub told-finished : number ≡ 0 → (due.number ≡ 0) × (reply ≡ 0) × (o ≡ finished)
  told-finished h = go way
    where
      go : Way → (due.number ≡ 0) × (reply ≡ 0) × (o ≡ finished)
      go (by_rule n d) = absurd (n (sym (numbers (by_refused d)) ∙ h))
      go (by_reply z n d) = absurd (n (sym (numbers (by_stopped d)) ∙ h))
      go (to_end z n d) = (z, n, d)

  -- where none of 1 to 8 is due, the number is that reply
  reply-told : due.number ≡ 0 → number ≡ reply
  reply-told z = go way
    where
      go : Way → number ≡ reply
      go (by_rule n d) = absurd (n z)
      go (by_reply z n d) = numbers (by_stopped d)
      go (to_end z n d) = by_finished d ∙ sym n

  due-told : (due.number ≡ 0 → ⊥) → o.report ≡ due
  due-told n = go way
    where
      go : Way → o.report ≡ due
      go (by_rule n d) = by_refused d
      go (by_reply z m d) = absurd (n z)
      go (to_end z m d) = absurd (n z)

  -- Of 1 to 8 the lowest number wins, then the lowest operand, then the lowest term.
  pub refuses : (t : Report) → 0 < t.number → t.number ≤ 8 → (o.report ≡ t) ↔ FirstDue rules t
  refuses t h k =
      let d = fold_first_due rules t h in (
        λ r. let n = numbers r in d.0 (sym (by_refused (told-refused (omega arith) (omega arith))) ∙ r),
        λ c. let n = numbers (d.1 c) in due-told (λ z. omega arith) ∙ d.1 c,
      )

  -- 0 and the numbers from 9 on
  pub replies : (n : ℕ) → (n ≡ 0) ⊎ (8 < n) → (number ≡ n) ↔ ((due.number ≡ 0) × (reply ≡ n))
  replies n c = (λ d. (passed c d, sym (reply-told (passed c d)) ∙ d), λ d. reply-told d.0 ∙ d.1)
    where
      passed : (n ≡ 0) ⊎ (8 < n) → number ≡ n → due.number ≡ 0
      passed (inl z) d = (told-finished (d ∙ z)).0
      passed (inr h) d = (told-stopped (omega arith)).0

-- Report and arrays, one by one

pub parts : {r r' : Report} {a a' b b' w w' : List ℕ} → outcome r a b w ≡ outcome r' a' b' w' → (r ≡ r') × (a ≡ a') × (b ≡ b') × (w ≡ w')
parts e = (
  ap (λ (x : Outcome). x.report) e,
  ap (λ (x : Outcome). x.first) e,
  ap (λ (x : Outcome). x.second) e,
  ap (λ (x : Outcome). x.work) e,
)

module _ {rules : List Report} {reply : ℕ} {f g : Poly (Letters 4)} {first second work : List ℕ} {t : Report} {first' second' work' : List ℕ}
    (E : Ends rules reply f g first second work (outcome t first' second' work')) where
  pub ends_unchanged : 0 < t.number → t.number ≤ 8 → (first' ≡ first) × (second' ≡ second) × (work' ≡ work)
  ends_unchanged h k = let o = parts (told-refused E h k) in (o.1, o.2, o.3)

  pub ends-cleared : 8 < t.number →
      (t ≡ refusal t.number 0 0) × (first' ≡ cleared first) × (second' ≡ cleared second) × (work' ≡ cleared work)
  ends-cleared h =
      let w = told-stopped E h in
      let o = parts w.2 in
      (o.0 ∙ ap (λ (n : ℕ). refusal n 0 0) w.1, o.1, o.2, o.3)

  pub ends_written : t.number ≡ 0 →
      (t ≡ done (length f) (length g)) × (first' ≡ filled (length first) (words_of base f)) × (second' ≡ filled (length second) (words_of base g)) × (work' ≡ cleared work)
  ends_written h = parts (told-finished E h).2
