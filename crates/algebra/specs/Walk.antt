-- Division as a walk down the monomials, the greatest first. One step handles one monomial, a cancelled one too.
--
--   Judges          what stops a walk: a reply for the next quotient term, and one for the next remainder term, from the number
--                   of those written so far; 0 lets the term pass
--   Walked          how a walk ended: its reply, the terms written, and what was left
--   joined q r w    the walk w with the terms of q and r written before
--   walk .. n i j f the walk of at most n steps down f, falling, with i quotient and j remainder terms written before
--
-- Replies: 0 where nothing is left, a judge's where it stopped the walk, `unfinished` where n steps were not enough.
use Rattle.std.specs.Prelude.{ℕ, zero, suc, ◌*◌, ◌%◌, ◌≡◌, [], ◌∷◌, ◌++◌}
use Rattle.algebra.specs.Residues.{inverse}
use Rattle.algebra.specs.Monomials.{Monomials}
use Rattle.algebra.specs.Orders.{Order}
use Rattle.algebra.specs.Polynomials.{Term, term, Poly, times, negated, sorted}

abbrev pub unfinished : ℕ
unfinished = 18

pub record Judges (K : Monomials) : Type 0 where
  pub on_quotient : ℕ → Term K → ℕ
  pub on_remainder : ℕ → Term K → ℕ

pub record Walked (K : Monomials) : Type 0 where
  pub reply : ℕ
  pub quotient : Poly K
  pub remainder : Poly K
  pub left : Poly K

-- a walk that ends here, with nothing more written
abbrev pub stopped : {K : Monomials} → ℕ → Poly K → Walked K
stopped r f = record { reply = r; quotient = []; remainder = []; left = f }

-- the terms of q and r were written before
abbrev pub joined : {K : Monomials} → Poly K → Poly K → Walked K → Walked K
joined q r w = record { reply = w.reply; quotient = q ++ w.quotient; remainder = r ++ w.remainder; left = w.left }

-- by a judge's reply: a term goes to the quotient before all that the walk w writes, or the walk stops here
abbrev pub to_quotient : {K : Monomials} → ℕ → Term K → Poly K → Walked K → Walked K
to_quotient zero t f w = record { reply = w.reply; quotient = t ∷ w.quotient; remainder = w.remainder; left = w.left }
to_quotient (suc r) t f w = stopped (suc r) f

abbrev pub to_remainder : {K : Monomials} → ℕ → Term K → Poly K → Walked K → Walked K
to_remainder zero t f w = record { reply = w.reply; quotient = w.quotient; remainder = t ∷ w.remainder; left = w.left }
to_remainder (suc r) t f w = stopped (suc r) f

-- the term u divided by the divisor's lead term, where m is the quotient of their monomials
abbrev pub quotient_term : {K : Monomials} → ℕ → Term K → K.Mon → Term K → Term K
quotient_term p lead m u = term m (u.num * inverse p lead.num % p)

-- what remains of f, which stood below the term divided, when the quotient term t times the divisor is subtracted
abbrev pub remains : {K : Monomials} → Order K → ℕ → Poly K → Term K → Poly K → Poly K
remains O p later t f = sorted O p (f ++ negated p (times t later))

module _ {K : Monomials} (O : Order K) (p : ℕ) (lead : Term K) (later : Poly K) (J : Judges K) where
  -- The greatest monomial's term is u, its number c; `next` walks on from the terms written and what is left.
  abbrev pub handle : (ℕ → ℕ → Poly K → Walked K) → ℕ → ℕ → (u : Term K) → Poly K → ℕ → Dec ((q : K.Mon) × (K.mul lead.mon q ≡ u.mon)) → Walked K
  handle next i j u f zero d = next i j f
  handle next i j u f (suc c) (yes q) =
      let t = quotient_term p lead q.0 u in
      let w = next (suc i) j (remains O p later t f) in
      to_quotient (J.on_quotient i t) t (u ∷ f) w
  handle next i j u f (suc c) (no n) =
      let w = next i (suc j) f in
      to_remainder (J.on_remainder j u) u (u ∷ f) w

  abbrev pub walk : ℕ → ℕ → ℕ → Poly K → Walked K
  walk zero i j [] = stopped 0 []
  walk zero i j (u ∷ f) = stopped unfinished (u ∷ f)
  walk (suc n) i j [] = stopped 0 []
  walk (suc n) i j (u ∷ f) = handle (walk n) i j u f u.num (K.quotient lead.mon u.mon)
