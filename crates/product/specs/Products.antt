-- What the product does.
--
--   product_reply f g h room     9 where a letter bursts, else 10 where the product h has more terms than the room, else 0
--   product_rules                the refusals 1 to 8 of a product
--   multiplied                   what a product leaves where none of them is due
--   product_of p a b room work   the product of two polynomials, in its normal form
use Rattle.std.specs.Prelude.{ℕ, ◌*◌, min, List, [], ◌∷◌, ◌++◌, ltb, length}
use Rattle.algebra.specs.Residues.{pick}
use Rattle.algebra.specs.Monomials.{Letters}
use Rattle.algebra.specs.Orders.{Lex}
use Rattle.algebra.specs.Polynomials.{Poly, mul, norm}
use Rattle.monomial.specs.Layout.{base}
use Rattle.poly.specs.Words.{records, poly_of}
use Rattle.refusals.specs.Rules.{work_rule}
use Rattle.refusals.specs.declared.report.Report.{Report}
use Rattle.calls.specs.Inputs.{two_inputs}
use Rattle.calls.specs.Outcomes.{Outcome, unless_refused, ended, room_reply}
use Rattle.expansion.specs.Bursts.{burst_at}

abbrev pub product_reply : Poly (Letters 4) → Poly (Letters 4) → Poly (Letters 4) → List ℕ → ℕ
product_reply f g h room = pick (ltb (burst_at f g) 4) 9 (room_reply (length h) room)

abbrev pub product_rules : ℕ → List ℕ → List ℕ → List ℕ → List ℕ → List Report
product_rules p a b room work = two_inputs p a b room ++ (work_rule (4 * min (records a) (records b)) work ∷ [])

unfoldable pub multiplied : ℕ → List ℕ → List ℕ → List ℕ → List ℕ → Outcome
multiplied p a b room work =
    let f = poly_of base a in
    let g = poly_of base b in
    let h = norm (Lex 4) p (mul f g) in
    ended (product_reply f g h room) h [] room [] work

unfoldable pub product_of : ℕ → List ℕ → List ℕ → List ℕ → List ℕ → Outcome
product_of p a b room work = unless_refused (product_rules p a b room work) room [] work (multiplied p a b room work)
