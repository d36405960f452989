-- What a call leaves behind: its report, the words of its outputs, and those of its work array.
--
--   Outcome                        report, first and second output, and work; a list is empty where the call has no such array
--   unless_refused rs a b w then   the refusal that is due, with all arrays as they were; else what the call does then
--   told reply n m                 the report of a call that was not refused: with reply 0 the terms of its outputs
--   holding reply f room           what it leaves in a room: with reply 0 the terms of f, then zero words; else zero words alone
--   ended reply f g a b w          all that it leaves; the work array is zero
--   called rs reply f g a b w      a whole call: refused by the first of its rules that is due, else ended
--   room_reply n room              10 where a room has too few places for n terms, else 0
use Rattle.std.specs.Prelude.{ℕ, List, eqb, leb, length}
use Rattle.algebra.specs.Residues.{pick}
use Rattle.algebra.specs.Monomials.{Letters}
use Rattle.algebra.specs.Polynomials.{Poly}
use Rattle.monomial.specs.Layout.{base}
use Rattle.poly.specs.Words.{records, words_of, filled, cleared}
use Rattle.refusals.specs.Reports.{none, done, refusal, first_or}
use Rattle.refusals.specs.declared.report.Report.{Report}

pub record Outcome : Type 0 where
  pub report : Report
  pub first : List ℕ
  pub second : List ℕ
  pub work : List ℕ

abbrev pub outcome : Report → List ℕ → List ℕ → List ℕ → Outcome
outcome r first second work = record { report = r; first = first; second = second; work = work }

abbrev pub unless_refused : List Report → List ℕ → List ℕ → List ℕ → Outcome → Outcome
unless_refused rules first second work then =
    let r = first_or rules none in
    pick (eqb r.number 0) then (outcome r first second work)

-- A call that was not refused

abbrev pub told : ℕ → ℕ → ℕ → Report
told reply n m = pick (eqb reply 0) (done n m) (refusal reply 0 0)

abbrev pub holding : ℕ → Poly (Letters 4) → List ℕ → List ℕ
holding reply f room = pick (eqb reply 0) (filled (length room) (words_of base f)) (cleared room)

abbrev pub ended : ℕ → Poly (Letters 4) → Poly (Letters 4) → List ℕ → List ℕ → List ℕ → Outcome
ended reply f g first second work =
    outcome (told reply (length f) (length g)) (holding reply f first) (holding reply g second) (cleared work)

abbrev pub called : List Report → ℕ → Poly (Letters 4) → Poly (Letters 4) → List ℕ → List ℕ → List ℕ → Outcome
called rules reply f g first second work = unless_refused rules first second work (ended reply f g first second work)

abbrev pub room_reply : ℕ → List ℕ → ℕ
room_reply n room = pick (leb n (records room)) 0 10
