-- From what a call left to what the definition of the call says that it leaves.
--
--   trial_of o leaves   a call tried whose definition says that it leaves o, where a row says leaves
--   tried_of            what a call answered and left, compared with a row, is such a trial
--   tried_lent          the same, where the arrays were front parts of longer ones
--   tried_parts         both together: of what a call answered and left of front parts of arrays lent
use Rattle.std.proofs.Common.{ℕ, ◌≤◌, ◌≡◌, ◌∙◌, ap, Bool, List, length, take}
use Rattle.refusals.specs.declared.report.Report.{Report}
use Rattle.calls.specs.Outcomes.{Outcome, outcome}
use Rattle.compared.specs.Compared.{same_outcome, all_dirt, AsLent, said}
use Rattle.rows.specs.declared.Tried.{Tried}
use Rattle.compared.proofs.Arrays.{lent-long, part-lent}

abbrev pub trial_of : Outcome → Outcome → Tried
trial_of o leaves = record { number = o.report.number; right = same_outcome o leaves }

module _ (says : Report) (ws vs : List ℕ) where
  -- what the row says of arrays that were lent
  abbrev said_of : List ℕ → List ℕ → List ℕ → Outcome
  said_of first second work = said says ws vs (length first) (length second) (length work)

  pub tried_of :
      (o : Outcome) (first second work : List ℕ) (r : Report) (first' second' work' : List ℕ) (x : Bool) →
      outcome r first' second' work' ≡ o →
      length first' ≡ length first →
      length second' ≡ length second →
      length work' ≡ length work →
      x ≡ same_outcome (outcome r first' second' work') (said_of first' second' work') →
      ◌≡◌ {A = Tried} (record { number = r.number; right = x }) (trial_of o (said_of first second work))
  tried_of o first second work r first' second' work' x e lf ls lw h =
      let right =
      h
      ∙ (λ i. same_outcome (outcome r first' second' work') (said says ws vs (lf i) (ls i) (lw i)))
      ∙ ap (λ o'. same_outcome o' (said_of first second work)) e in
      λ i. record { number = (e i).report.number; right = right i }

  -- a, b and c are the arrays, of z words each
  pub tried_lent :
      (call : List ℕ → List ℕ → List ℕ → Outcome) (n m k z : ℕ) (a b c : List ℕ) (t : Tried) →
      n ≤ z →
      m ≤ z →
      k ≤ z →
      AsLent z a →
      AsLent z b →
      AsLent z c →
      t ≡ trial_of (call (take n a) (take m b) (take k c)) (said_of (take n a) (take m b) (take k c)) →
      t ≡ trial_of (call (all_dirt n) (all_dirt m) (all_dirt k)) (said says ws vs n m k)
  tried_lent call n m k z a b c t hn hm hk la lb lc h =
      let first = part-lent n z a hn la in
      let second = part-lent m z b hm lb in
      let work = part-lent k z c hk lc in
      h
      ∙ (λ i. trial_of (call (first i) (second i) (work i)) (said_of (first i) (second i) (work i)))
      ∙ (λ i. trial_of (call (all_dirt n) (all_dirt m) (all_dirt k)) (said says ws vs (lent-long n i) (lent-long m i) (lent-long k i)))

  pub tried_parts :
      (call : List ℕ → List ℕ → List ℕ → Outcome) (n m k z : ℕ) (a b c : List ℕ)
      (r : Report) (first second work : List ℕ) (x : Bool) →
      n ≤ z →
      m ≤ z →
      k ≤ z →
      AsLent z a →
      AsLent z b →
      AsLent z c →
      outcome r first second work ≡ call (take n a) (take m b) (take k c) →
      length first ≡ length (take n a) →
      length second ≡ length (take m b) →
      length work ≡ length (take k c) →
      x ≡ same_outcome (outcome r first second work) (said_of first second work) →
      ◌≡◌ {A = Tried} (record { number = r.number; right = x }) (trial_of (call (all_dirt n) (all_dirt m) (all_dirt k)) (said says ws vs n m k))
  tried_parts call n m k z a b c r first second work x hn hm hk la lb lc e lf ls lw h =
      tried_lent call n m k z a b c _ hn hm hk la lb lc (tried_of _ (take n a) (take m b) (take k c) r first second work x e lf ls lw h)
