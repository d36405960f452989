-- What the functions promise one another with which calls end. No caller of a public function meets it.
--
--   kept reply n s     s as a call leaves it: with reply 0 its first n terms and then zero words, else zero words alone
--   left terms s       the same by the terms: `None` where the call was stopped
--   roomed n room      n terms, or `NoRoom` where a room has too few places for them
--   told_of end        the report of a call that ended with the terms of its outputs, or without them for a reason
--   Filled             a room whose first n records are the normal form of a polynomial; a greater n says that it has more terms than the room
use Rattle.std.specs.Prelude.{ℕ, ◌-◌, ◌*◌, ◌<◌, ◌≤◌, ◌≡◌, List, ◌++◌, eqb, leb, length, take, replicate, Option, Some, None, Result, Ok, Err}
use Rattle.algebra.specs.Residues.{pick}
use Rattle.algebra.specs.Monomials.{Numbers}
use Rattle.algebra.specs.Orders.{Rising}
use Rattle.algebra.specs.Polynomials.{Poly, norm}
use Rattle.poly.specs.Words.{records, span, cleared}
use Rattle.reasons.specs.Reasons.{number_of}
use Rattle.reasons.specs.declared.Reason.{Reason}
use Rattle.reasons.specs.declared.Reason.TheVariants.{NoRoom}
use Rattle.refusals.specs.Reports.{done, refusal}
use Rattle.refusals.specs.declared.report.Report.{Report}

abbrev pub kept : ℕ → ℕ → List ℕ → List ℕ
kept reply n s = pick (eqb reply 0) (take (2 * n) s ++ replicate (length s - 2 * n) 0) (cleared s)

abbrev pub left : Option ℕ → List ℕ → List ℕ
left None s = cleared s
left (Some n) s = take (2 * n) s ++ replicate (length s - 2 * n) 0

abbrev pub roomed : ℕ → List ℕ → Result ℕ Reason
roomed n room = pick (leb n (records room)) (Ok n) (Err NoRoom)

abbrev pub told_of : Result (ℕ × ℕ) Reason → Report
told_of (Ok counts) = done counts.0 counts.1
told_of (Err reason) = refusal (number_of reason) 0 0

pub record Filled (p : ℕ) (whole : Poly Numbers) (room room' : List ℕ) (n : ℕ) : Type 0 where
  pub fits : n ≤ records room → span room' 0 n ≡ norm Rising p whole
  pub full : records room < n → records room < length (norm Rising p whole)
