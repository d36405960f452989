-- What sum and difference do.
--
--   normal_in p a b f room        a call on a and b that puts the normal form of f into its room
--   sum_of p a b room             the sum of two polynomials
--   difference_of p a b room      the difference
--   combined_of p minus a b room  the sum, or with `minus` the difference
use Rattle.std.specs.Prelude.{ℕ, Bool, List, [], ◌++◌, length}
use Rattle.algebra.specs.Monomials.{Letters}
use Rattle.algebra.specs.Orders.{Lex}
use Rattle.algebra.specs.Polynomials.{Poly, negated, signed, norm}
use Rattle.monomial.specs.Layout.{base}
use Rattle.poly.specs.Words.{poly_of}
use Rattle.calls.specs.Inputs.{two_inputs}
use Rattle.calls.specs.Outcomes.{Outcome, called, room_reply}

abbrev pub normal_in : ℕ → List ℕ → List ℕ → Poly (Letters 4) → List ℕ → Outcome
normal_in p a b f room =
    let h = norm (Lex 4) p f in
    called (two_inputs p a b room) (room_reply (length h) room) h [] room [] []

unfoldable pub sum_of : ℕ → List ℕ → List ℕ → List ℕ → Outcome
sum_of p a b room = normal_in p a b (poly_of base a ++ poly_of base b) room

unfoldable pub difference_of : ℕ → List ℕ → List ℕ → List ℕ → Outcome
difference_of p a b room = normal_in p a b (poly_of base a ++ negated p (poly_of base b)) room

-- either, as the engine computes both in one way
abbrev pub combined_of : ℕ → Bool → List ℕ → List ℕ → List ℕ → Outcome
combined_of p minus a b room = normal_in p a b (poly_of base a ++ signed p minus (poly_of base b)) room
