-- Exact division: where f ≡ h · g for any list h, a walk down f writes h's normal form and nothing else.
--
--   Exact             what such a walk has written: no remainder, the front part of h's normal form, and what is left is the rest
--                     times g; where it stopped, the next term of the normal form is the one that a judge refused
--   walk_exact        every walk is exact there, whatever its judges and however many its steps
use Prim.Native.Nat.{ℕ, zero, suc, ◌+◌, ◌*◌, ◌%◌, ◌<◌}
use mathlib.Core.Path.{◌≡◌, refl, sym, ◌∙◌, ap, subst}
use mathlib.Core.List.{[], ◌∷◌, ◌++◌}
use mathlib.Core.Logic.{◌⊎◌, inl, inr}
use lib.ListN.{length, get_or}
use native.Mathlib.Nat.{mod-lt, mod-eq_of_lt, add-zero, add-suc, suc-add, mul_comm}
use native.Mathlib.Omega.{arith}
use Rattle.algebra.specs.Residues.{Same, Prime, inverse}
use Rattle.algebra.specs.Monomials.{Monomials}
use Rattle.algebra.specs.Orders.{Order}
use Rattle.algebra.specs.Polynomials.{Term, term, Poly, Equal, times, mul, negated, keep, norm, Falling, Normal}
use Rattle.algebra.specs.Walk.{Judges, Walked, unfinished, stopped, to_quotient, quotient_term, remains, handle, walk}
use Rattle.algebra.proofs.Residues.{same_eq, same_sym, same_trans, same_mod, same_below}
use Rattle.algebra.proofs.Primes.{mod-cancel}
use Rattle.algebra.proofs.Totals.{equal_by}
use Rattle.algebra.proofs.NormalForm.{Small, sorted_falling, sorted_small, lead-coef, norm_normal, norm_equal, norm_unique, norm_self, extract, equal_refl, equal_sym, equal_trans}
use Rattle.algebra.proofs.Ring.{mul_equal, sum-cancel-left}
use Rattle.algebra.proofs.Leads.{prime_positive, normal_tail, lead-nonzero, keep_positive, lead-mul, multiple_zero}
use Rattle.algebra.proofs.Walk.{quotient-coef, step_equation}

pub record Exact {K : Monomials} (O : Order K) (p : ℕ) (lead : Term K) (later : Poly K) (J : Judges K) (h : Poly K) (i : ℕ) (w : Walked K) : Type 0 where
  pub none : w.remainder ≡ []
  pub rest : Poly K
  pub written : norm O p h ≡ w.quotient ++ rest
  pub left : Equal p w.left (mul rest (lead ∷ later))
  pub ended : ((w.reply ≡ 0) × (rest ≡ [])) ⊎ ((w.reply ≡ unfinished) ⊎ ((t : Term K) × (k : Poly K) × (rest ≡ t ∷ k) × (w.reply ≡ J.on_quotient (i + length w.quotient) t)))

module _ {K : Monomials} (O : Order K) {p : ℕ} (P : Prime p) (lead : Term K) (later : Poly K) (ng : Normal O p (lead ∷ later)) where
  pos : 0 < p
  pos = prime_positive P

  -- what the heads of f and of h's normal form have to do with one another
  record Heads (u t : Term K) : Type 0 where
    mons : K.mul t.mon lead.mon ≡ u.mon
    nums : Same p (t.num * lead.num) u.num

  heads : (u t : Term K) (f k : Poly K) → Falling O (u ∷ f) → 0 < u.num → u.num < p → Normal O p (t ∷ k) → Equal p (u ∷ f) (mul (t ∷ k) (lead ∷ later)) → Heads u t
  heads u t f k fall h l n e =
      let one : norm O p (u ∷ f) ≡ term u.mon u.num ∷ norm O p f = extract O pos u.mon u.num f equal_refl fall.0
      ∙ ap (λ c. keep u.mon c (norm O p f)) (mod-eq_of_lt l) ∙ keep_positive u.mon u.num (norm O p f) h in
      let two : term (K.mul t.mon lead.mon) (t.num * lead.num % p) ∷ norm O p (times t later ++ mul k (lead ∷ later)) ≡ u ∷ norm O p f =
      sym (lead-mul O P t lead k later n ng) ∙ norm_unique O pos (equal_sym e) ∙ one in
      record {
        mons = ap (λ (f : Poly K). (get_or f 0 u).mon) two;
        nums = same_trans (same_sym (same_mod (t.num * lead.num))) (same_eq (ap (λ (f : Poly K). (get_or f 0 u).num) two));
      }

  -- the quotient term of the walk is the lead of h's normal form
  same_term : (u t : Term K) (k : Poly K) → Normal O p (t ∷ k) → Heads u t → (q : K.Mon) → K.mul lead.mon q ≡ u.mon → quotient_term p lead q u ≡ t
  same_term u t k n s q e =
      let m : q ≡ t.mon = K.mul_cancel lead.mon q t.mon (e ∙ sym s.mons ∙ K.mul_comm t.mon lead.mon) in
      let c : u.num * inverse p lead.num % p ≡ t.num = same_below (mod-lt (u.num * inverse p lead.num) pos) n.reduced.1
      (mod-cancel P lead.num (lead-nonzero lead later ng) _ _
      (same_trans (same_eq (mul_comm lead.num _)) (same_trans (quotient-coef O P lead later ng u.num) (same_trans (same_sym s.nums) (same_eq (mul_comm t.num lead.num)))))) in
      λ i. record { mon = m i; num = c i }

  module _ (J : Judges K) where
    skipped : (u : Term K) (f h : Poly K) → 0 ≡ u.num → Equal p (u ∷ f) (mul h (lead ∷ later)) → Equal p f (mul h (lead ∷ later))
    skipped u f h z e =
        equal_trans (equal_by (λ φ. same_eq (omega (arith, ap (λ (x : ℕ). x * φ u.mon) z)))) e

    quotient_exact : (h : Poly K) (i : ℕ) (u t : Term K) (f k : Poly K) (w : Walked K) (r : ℕ) → J.on_quotient i t ≡ r → norm O p h ≡ t ∷ k →
        Normal O p (t ∷ k) → Equal p (u ∷ f) (mul (t ∷ k) (lead ∷ later)) → Exact O p lead later J k (suc i) w → Exact O p lead later J h i (to_quotient r t (u ∷ f) w)
    quotient_exact h i u t f k w (suc r) j e n d x =
        record {
          none = refl;
          rest = t ∷ k;
          written = e;
          left = d;
          ended = inr (inr (t, k, refl, sym j ∙ ap (λ (x : ℕ). J.on_quotient x t) (sym (add-zero i))));
        }
    quotient_exact h i u t f k w zero j e n d x =
        record {
          none = x.none;
          rest = x.rest;
          written = e ∙ ap (λ (g : Poly K). t ∷ g) (sym (norm_self O pos k (normal_tail t k n)) ∙ x.written);
          left = x.left;
          ended = ended x.ended;
        }
      where
        ended : ((w.reply ≡ 0) × (x.rest ≡ [])) ⊎ ((w.reply ≡ unfinished) ⊎
            ((v : Term K) × (k : Poly K) × (x.rest ≡ v ∷ k) × (w.reply ≡ J.on_quotient (suc i + length w.quotient) v))) →
            ((w.reply ≡ 0) × (x.rest ≡ [])) ⊎ ((w.reply ≡ unfinished) ⊎ ((v : Term K) × (k : Poly K) × (x.rest ≡ v ∷ k) × (w.reply ≡ J.on_quotient (i + suc (length w.quotient)) v)))
        ended (inl a) = inl a
        ended (inr (inl a)) = inr (inl a)
        ended (inr (inr a)) =
            inr (inr (a.0, a.1, a.2, a.3 ∙ ap (λ (x : ℕ). J.on_quotient x a.0) (suc-add i (length w.quotient) ∙ sym (add-suc i (length w.quotient)))))

    abbrev Walks : (ℕ → ℕ → Poly K → Walked K) → Type 0
    Walks next = (i j : ℕ) (f h : Poly K) → Falling O f → Small p f → Equal p f (mul h (lead ∷ later)) → Exact O p lead later J h i (next i j f)

    -- one step with a number other than 0, where h's normal form is the list given
    handle_exact : (next : ℕ → ℕ → Poly K → Walked K) → Walks next → (i j : ℕ) (u : Term K) (f h : Poly K) → Falling O (u ∷ f) → 0 < u.num →
        u.num < p → Equal p (u ∷ f) (mul h (lead ∷ later)) → (n : Poly K) → norm O p h
        ≡ n → Normal O p n → (c : ℕ) (d : Dec ((q : K.Mon) × (K.mul lead.mon q ≡ u.mon))) → Exact O p lead later J h i (handle O p lead later J next i j u f (suc c) d)
    handle_exact next go i j u f h fall s l e [] en n c d =
        let zero : Equal p h [] = equal_trans (equal_sym (norm_equal O pos h)) (subst (λ x. Equal p x []) (sym en) equal_refl) in
        let none : Same p u.num 0 = same_trans (same_eq (sym (lead-coef O u f fall.0))) ((equal_trans e (mul_equal O pos zero equal_refl)).equal u.mon) in
        let contradiction : u.num ≡ 0 = same_below l pos none in
        absurd (omega arith)
    handle_exact next go i j u f h fall s l e (t ∷ k) en n c (no d) =
        let x : Heads u t = heads u t f k fall s l n (equal_trans e (mul_equal O pos (equal_trans (equal_sym (norm_equal O pos h)) (subst (λ x. Equal p x (t ∷ k)) (sym en) equal_refl)) equal_refl)) in
        absurd (d (t.mon, K.mul_comm lead.mon t.mon ∙ x.mons))
    handle_exact next go i j u f h fall s l e (t ∷ k) en n c (yes q) =
        let whole : Equal p (u ∷ f) (mul (t ∷ k) (lead ∷ later)) =
        equal_trans e (mul_equal O pos (equal_trans (equal_sym (norm_equal O pos h)) (subst (λ x. Equal p x (t ∷ k)) (sym en) equal_refl)) equal_refl) in
        let x : Heads u t = heads u t f k fall s l n whole in
        let f' = f ++ negated p (times t later) in
        let left : Equal p (remains O p later t f) (mul k (lead ∷ later)) =
        sum-cancel-left O pos (times t (lead ∷ later)) (equal_trans (equal_sym (step_equation O P lead later ng u t f x.nums x.mons)) whole) in
        subst
        (λ v. Exact O p lead later J h i (to_quotient (J.on_quotient i v) v (u ∷ f) (next (suc i) j (remains O p later v f))))
        (sym (same_term u t k n x q.0 q.1))
        (quotient_exact h i u t f k _ (J.on_quotient i t) refl en n whole (go (suc i) j (remains O p later t f) k (sorted_falling O p pos f') (sorted_small O p pos f') left))

    step_exact : (next : ℕ → ℕ → Poly K → Walked K) → Walks next → (i j : ℕ) (u : Term K) (f h : Poly K) → Falling O (u ∷ f) → Small p (u ∷ f) →
        Equal p (u ∷ f) (mul h (lead ∷ later)) → (c : ℕ) → c
        ≡ u.num → (d : Dec ((q : K.Mon) × (K.mul lead.mon q ≡ u.mon))) → Exact O p lead later J h i (handle O p lead later J next i j u f c d)
    step_exact next go i j u f h fall small e zero z d = go i j f h fall.1 small.1 (skipped u f h z e)
    step_exact next go i j u f h fall small e (suc c) z d =
        handle_exact next go i j u f h fall (omega arith) small.0 e (norm O p h) refl (norm_normal O pos h) c d

    -- a walk with nothing left to do
    nothing : (i : ℕ) (h : Poly K) → Equal p [] (mul h (lead ∷ later)) → Exact O p lead later J h i (stopped 0 [])
    nothing i h e =
        let zero : Equal p h [] = multiple_zero O P lead later ng h (record { none = λ q. same_sym (e.equal (K.mul lead.mon q)) }) in
        record { none = refl; rest = []; written = norm_unique O pos zero; left = equal_refl; ended = inl (refl, refl) }

    pub walk_exact : (n : ℕ) → Walks (walk O p lead later J n)
    walk_exact zero i j [] h fall small e = nothing i h e
    walk_exact zero i j (u ∷ f) h fall small e =
        record {
          none = refl;
          rest = norm O p h;
          written = refl;
          left = equal_trans e (mul_equal O pos (equal_sym (norm_equal O pos h)) equal_refl);
          ended = inr (inl refl);
        }
    walk_exact (suc n) i j [] h fall small e = nothing i h e
    walk_exact (suc n) i j (u ∷ f) h fall small e =
        step_exact (walk O p lead later J n) (walk_exact n) i j u f h fall small e u.num refl (K.quotient lead.mon u.mon)
