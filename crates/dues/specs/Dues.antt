-- The refusals of a call slice by slice, as the engine finds them: of each of 2 to 6 the first that is due so far. That asking in this way
-- gives the first refusal of the ordered list is a law, `dues_first`; no public promise cites this file.
--
--   no_due                    no slice was lent yet
--   with_room d s             one more slice: 2 and 3
--   with_input p d s          one more slice that has to be a polynomial modulo p: 2 to 6
--   with_rooms, with_inputs   the same of several slices, in their order
--   first_due p d otherwise   the first refusal due of 1 to 6, else the report given
use Rattle.std.specs.Prelude.{ℕ, List, [], ◌∷◌}
use Rattle.monomial.specs.Layout.{base}
use Rattle.refusals.specs.Reports.{none, or_else}
use Rattle.refusals.specs.Rules.{Lent, modulus_rule, odd_rule, long_rule, guard_rule, order_rule, coef_rule}
use Rattle.refusals.specs.declared.report.Report.{Report}
use Rattle.dues.specs.declared.Due.{Due}

abbrev pub no_due : Due
no_due = record { odd = none; long = none; guard = none; order = none; coef = none }

abbrev pub with_room : Due → Lent → Due
with_room d s =
    record {
      odd = or_else d.odd (odd_rule s.operand s.words);
      long = or_else d.long (long_rule s.most s.operand s.words);
      guard = d.guard;
      order = d.order;
      coef = d.coef;
    }

abbrev pub with_input : ℕ → Due → Lent → Due
with_input p d s =
    record {
      odd = or_else d.odd (odd_rule s.operand s.words);
      long = or_else d.long (long_rule s.most s.operand s.words);
      guard = or_else d.guard (guard_rule base s.operand s.words);
      order = or_else d.order (order_rule s.operand s.words);
      coef = or_else d.coef (coef_rule p s.operand s.words);
    }

abbrev pub with_rooms : Due → List Lent → Due
with_rooms d [] = d
with_rooms d (s ∷ slices) = with_rooms (with_room d s) slices

abbrev pub with_inputs : ℕ → Due → List Lent → Due
with_inputs p d [] = d
with_inputs p d (s ∷ slices) = with_inputs p (with_input p d s) slices

abbrev pub first_due : ℕ → Due → Report → Report
first_due p d otherwise =
    or_else (modulus_rule p)
    (or_else d.odd (or_else d.long (or_else d.guard (or_else d.order (or_else d.coef otherwise)))))
