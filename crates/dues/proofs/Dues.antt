-- Asking slice by slice tells the first refusal of the ordered list.
--
--   or_else_assoc    of three reports, whichever two are folded first
--   dues_first       the first refusal due of slices that were lent one after the other is that of the rules 1 to 6 in their order
use Prim.Native.Nat.{ℕ}
use mathlib.Core.Path.{◌≡◌, refl, sym, ◌∙◌, ap}
use mathlib.Core.Bool.{Bool, true, false}
use mathlib.Core.List.{List, [], ◌∷◌, ◌++◌, map}
use lib.Dec.{eqb}
use borrow.Author.Tests.{eqb-false}
use Rattle.algebra.specs.Residues.{pick}
use Rattle.monomial.specs.Layout.{base}
use Rattle.refusals.specs.Reports.{none, or_else, first_or}
use Rattle.refusals.specs.Rules.{Lent, modulus_rule, odd_rule, long_rule, guard_rule, order_rule, coef_rule, shape_rules, order_rules, coef_rules, refusals}
use Rattle.dues.specs.Dues.{no_due, with_room, with_input, with_rooms, with_inputs, first_due}
use Rattle.refusals.specs.declared.report.Report.{Report}
use Rattle.dues.specs.declared.Due.{Due}
use Rattle.refusals.proofs.Reports.{or_else_here, fold_append}

pub or_else_assoc : (a b c : Report) → or_else (or_else a b) c ≡ or_else a (or_else b c)
or_else_assoc a b c = go (eqb a.number 0) refl
  where
    go : (t : Bool) → eqb a.number 0 ≡ t → or_else (pick t b a) c ≡ pick t (or_else b c) a
    go true e = refl
    go false e = or_else_here a c (eqb-false a.number 0 e)

-- One rule over slices

-- the reports of a rule folded as the slices come
abbrev folded : (Lent → Report) → Report → List Lent → Report
folded rule r [] = r
folded rule r (s ∷ slices) = folded rule (or_else r (rule s)) slices

folded-first : (rule : Lent → Report) (r : Report) (slices : List Lent) (x : Report) → or_else (folded rule r slices) x ≡ or_else r (first_or (map rule slices) x)
folded-first rule r [] x = refl
folded-first rule r (s ∷ slices) x =
    folded-first rule (or_else r (rule s)) slices x ∙ or_else_assoc r (rule s) (first_or (map rule slices) x)

folded-append : (rule : Lent → Report) (r : Report) (ins outs : List Lent) → folded rule (folded rule r ins) outs ≡ folded rule r (ins ++ outs)
folded-append rule r [] outs = refl
folded-append rule r (s ∷ ins) outs = folded-append rule (or_else r (rule s)) ins outs

-- The rules, each of one slice

abbrev odd : Lent → Report
odd s = odd_rule s.operand s.words

abbrev long : Lent → Report
long s = long_rule s.most s.operand s.words

abbrev guard : Lent → Report
guard s = guard_rule base s.operand s.words

abbrev order : Lent → Report
order s = order_rule s.operand s.words

abbrev coef : ℕ → Lent → Report
coef p s = coef_rule p s.operand s.words

-- what was lent so far, rule by rule
abbrev each : ℕ → Due → List Lent → List Lent → Due
each p d ins outs =
    record {
      odd = folded odd (folded odd d.odd ins) outs;
      long = folded long (folded long d.long ins) outs;
      guard = folded guard d.guard ins;
      order = folded order d.order ins;
      coef = folded (coef p) d.coef ins;
    }

lent_rooms : (p : ℕ) (d : Due) (outs : List Lent) → with_rooms d outs ≡ each p d [] outs
lent_rooms p d [] = refl
lent_rooms p d (s ∷ outs) = lent_rooms p (with_room d s) outs

lent_slices : (p : ℕ) (d : Due) (ins outs : List Lent) → with_rooms (with_inputs p d ins) outs ≡ each p d ins outs
lent_slices p d [] outs = lent_rooms p d outs
lent_slices p d (s ∷ ins) outs = lent_slices p (with_input p d s) ins outs

module _ (p : ℕ) (ins outs : List Lent) (x : Report) where
  -- 4, 5 and 6
  abbrev terms : Report
  terms = first_or (order_rules base ins) (first_or (coef_rules p ins) x)

  terms-first : or_else (folded guard none ins) (or_else (folded order none ins) (or_else (folded (coef p) none ins) x)) ≡ terms
  terms-first =
      folded-first guard none ins _
      ∙ ap (first_or (map guard ins)) (folded-first order none ins _ ∙ ap (first_or (map order ins)) (folded-first (coef p) none ins x))
      ∙ sym (fold_append (map guard ins) (map order ins) (first_or (coef_rules p ins) x))

  shapes-first : or_else (folded odd (folded odd none ins) outs) (or_else (folded long (folded long none ins) outs) terms) ≡ first_or (shape_rules (ins ++ outs)) terms
  shapes-first =
      (λ i. or_else (folded-append odd none ins outs i) (or_else (folded-append long none ins outs i) terms))
      ∙ folded-first odd none (ins ++ outs) _
      ∙ ap (first_or (map odd (ins ++ outs))) (folded-first long none (ins ++ outs) terms)
      ∙ sym (fold_append (map odd (ins ++ outs)) (map long (ins ++ outs)) terms)

  pub dues_first : first_due p (with_rooms (with_inputs p no_due ins) outs) x ≡ first_or (refusals base p ins outs) x
  dues_first =
      ap (λ (d : Due). first_due p d x) (lent_slices p no_due ins outs)
      ∙ ap (or_else (modulus_rule p))
      (ap (λ (r : Report). or_else (folded odd (folded odd none ins) outs) (or_else (folded long (folded long none ins) outs) r)) terms-first
      ∙ shapes-first
      ∙ sym (fold_append (shape_rules (ins ++ outs)) (order_rules base ins) (first_or (coef_rules p ins) x))
      ∙ sym (fold_append (shape_rules (ins ++ outs) ++ order_rules base ins) (coef_rules p ins) x))
