-- Laws of the profile and of the run: one for each way out of the functions that answer them.
--
--   profiled                 the profile beside a report
--   zero_profile             what `Profile::default` answers
--   done_or_else             of two reports the first that refuses is none just where neither refuses
--   all_done, ordered        the four tests of 2 to 5, and that they tell whether a slice is in order
--   found_first              what a search of a range found is the first number that passes
--   within_or, some_within, none_within  a number as one of n
--   empty_part, part         the empty part at the front, and the part from one term up to another
--   run-refused              the run of a slice that fails 2 to 5
--   run_missing              the run of a power that no term has
--   run_found                the run from the first term with the power to the first without
--   ends_within              the run ends at most at the number of terms
--   run_within               the run starts at most at its end, and ends within the slice
use Rattle.std.proofs.Common.{ext_get_or, replicate, ℕ, ◌-◌, ◌*◌, ◌≤◌, ◌<◌, ◌≡◌, refl, sym, ◌∙◌, ap, arith, inl, inr, Bool, true, false, ◌&&◌, eqb, ltb, List, length, Option, Some, None, unwrap_or, is_some, MatchOption, true≢false, not}
use borrow.Author.Tests.{lt-ltb, le-ltb, ltb-true, ltb-false}
use Rattle.algebra.specs.Residues.{pick, first}
use Rattle.algebra.proofs.Scan.{first_from, first_within, first_unique}
use Rattle.poly.specs.Words.{records, word_at}
use Rattle.services.specs.Searches.{within}
use Rattle.services.specs.Services.{as_input, check_of, no_profile, profile_of, has_power, starts, ends, in_order, run_of}
use Rattle.poly.specs.Profiles.{measure_of}
use Rattle.std.specs.Array.{AllOfLen}
use Rattle.std.proofs.lemmas.List.{get_or-replicate}
use Rattle.monomial.specs.Layout.{base}
use Rattle.refusals.specs.Rules.{input_terms, odd_rule, long_rule, guard_rule, order_rule}
use Rattle.refusals.specs.Reports.{none, or_else}
use Rattle.dues.specs.Dues.{no_due, with_input}
use Rattle.dues.specs.declared.Due.{Due}
use Rattle.refusals.specs.declared.report.Report.{Report}
use Rattle.poly.specs.declared.profile.Profile.{Profile}
use Rattle.services.specs.declared.profile.Profiled.{Profiled}
use Rattle.services.specs.declared.run.Part.{Part}

pub profiled : (p : ℕ) (s : List ℕ) (r : Report) (m : Profile) → r ≡ check_of p s → m ≡ pick (eqb r.number 0) (measure_of s) no_profile →
    ◌≡◌ {A = Profiled} (record { report = r; profile = m }) (profile_of p s)
unfolding profile_of
profiled p s r m e f = λ d. record { report = e d; profile = (f ∙ ap (λ (x : Report). pick (eqb x.number 0) (measure_of s) no_profile) e) d }

-- the profile that is made where none was asked for
pub zero_profile : (m : Profile) → m.terms ≡ 0 → AllOfLen (λ x. x ≡ 0) m.exponents 4 → m.total ≡ 0 → m ≡ no_profile
zero_profile m terms each total =
    let zeros : m.exponents ≡ replicate 4 0 =
    ext_get_or 0 m.exponents (replicate 4 0) each.long (λ i h. each.at i 0 (omega (arith, each.long)) ∙ sym (get_or-replicate 4 i 0 0 (omega (arith, each.long)))) in
    λ d. record { terms = terms d; exponents = zeros d; total = total d }

pub done_or_else : (a b : Report) → eqb (or_else a b).number 0 ≡ (eqb a.number 0 && eqb b.number 0)
done_or_else a b = go (eqb a.number 0) refl
  where
    go : (t : Bool) → eqb a.number 0 ≡ t → eqb (pick t b a).number 0 ≡ (t && eqb b.number 0)
    go true e = refl
    go false e = e

and_right : (a b c d : Bool) → (((a && b) && c) && d) ≡ (a && (b && (c && (d && true))))
and_right true true true true = refl
and_right true true true false = refl
and_right true true false d = refl
and_right true false c d = refl
and_right false b c d = refl

-- none of 2 to 5 is due
abbrev pub all_done : Due → Bool
all_done d = ((eqb d.odd.number 0 && eqb d.long.number 0) && eqb d.guard.number 0) && eqb d.order.number 0

pub ordered : (s : List ℕ) (d : Due) → d ≡ with_input 0 no_due (as_input s) → all_done d ≡ in_order s
unfolding in_order
ordered s d e =
    let odd = odd_rule 1 s in
    let long = long_rule input_terms 1 s in
    let guard = guard_rule base 1 s in
    let order = order_rule 1 s in
    ap all_done e
    ∙ and_right (eqb odd.number 0) (eqb long.number 0) (eqb guard.number 0) (eqb order.number 0)
    ∙ sym (done_or_else odd (or_else long (or_else guard (or_else order none)))
    ∙ ap (λ b. eqb odd.number 0 && b) (done_or_else long (or_else guard (or_else order none))
    ∙ ap (λ b. eqb long.number 0 && b) (done_or_else guard (or_else order none) ∙ ap (λ b. eqb guard.number 0 && b) (done_or_else order none))))

-- A search of the numbers from a up to n

module _ (t : ℕ → Bool) (a n : ℕ) (h : a ≤ n) where
  pub found_first : (r : Option ℕ) →
      MatchOption r ((k : ℕ) → a ≤ k → k < n → t k ≡ false) (λ i. (a ≤ i) × (i < n) × (t i ≡ true) × ((k : ℕ) → a ≤ k → k < i → t k ≡ false)) →
      r ≡ within (first t a (n - a)) n
  found_first None f =
      let e : first t a (n - a) ≡ n = first_unique t a (n - a) n h (omega arith) f (inr (omega arith)) in
      sym (ap (λ b. pick b (Some (first t a (n - a))) None) (le-ltb (first t a (n - a)) n (omega arith)))
  found_first (Some i) f =
      let e : first t a (n - a) ≡ i = first_unique t a (n - a) i f.0 (omega (arith, f.1)) f.3 (inl f.2) in
      sym (ap (λ x. within x n) e ∙ ap (λ b. pick b (Some i) None) (lt-ltb i n f.1))

-- A number that is one of n

module _ (i n : ℕ) where
  pub within_or : i ≤ n → unwrap_or (within i n) n ≡ i
  within_or h = go (ltb i n) refl
    where
      go : (b : Bool) → ltb i n ≡ b → unwrap_or (pick b (Some i) None) n ≡ i
      go true e = refl
      go false e = let k : n ≤ i = ltb-false i n e in omega arith

  pub some_within : (j : ℕ) → within i n ≡ Some j → (i < n) × (i ≡ j)
  some_within j = go (ltb i n) refl
    where
      go : (b : Bool) → ltb i n ≡ b → pick b (Some i) None ≡ Some j → (i < n) × (i ≡ j)
      go true e f = (ltb-true i n e, ap (λ o. unwrap_or o i) f)
      go false e f = absurd (true≢false (ap is_some (sym f)))

  pub none_within : within i n ≡ None → n ≤ i
  none_within = go (ltb i n) refl
    where
      go : (b : Bool) → ltb i n ≡ b → pick b (Some i) None ≡ None → n ≤ i
      go true e f = absurd (true≢false (ap is_some f))
      go false e f = ltb-false i n e

-- The run

abbrev pub empty_part : Part
empty_part = record { start = 0; end = 0 }

-- from term a up to term c
abbrev pub part : ℕ → ℕ → Part
part a c = record { start = 2 * a; end = 2 * c }

bounded : (b : Bool) (a c n : ℕ) → a ≤ c → c ≤ n → let run = pick b (part a c) empty_part in (run.start ≤ run.end) × (run.end ≤ 2 * n)
bounded true a c n h k = (omega arith, omega arith)
bounded false a c n h k = (omega arith, omega arith)

module _ (s : List ℕ) (power : ℕ) where
  abbrev run_of_tests : Bool → Bool → ℕ → Part
  run_of_tests ordered found i = pick (ordered && found) (part i (ends s power i)) empty_part

  pub run-refused : in_order s ≡ false → run_of s power ≡ empty_part
  unfolding run_of
  run-refused e = ap (λ b. run_of_tests b (ltb (starts s power) (records s)) (starts s power)) e

  pub run_missing : in_order s ≡ true → within (starts s power) (records s) ≡ None → run_of s power ≡ empty_part
  unfolding run_of
  run_missing o e =
      λ d. run_of_tests (o d) (le-ltb (starts s power) (records s) (none_within (starts s power) (records s) e) d) (starts s power)

  pub run_found : in_order s ≡ true → (i : ℕ) → within (starts s power) (records s) ≡ Some i →
      (i < records s) × (run_of s power ≡ part i (ends s power i))
  unfolding run_of
  run_found o i e =
      let f = some_within (starts s power) (records s) i e in
      (omega (arith, f), λ d. run_of_tests (o d) (lt-ltb (starts s power) (records s) f.0 d) (f.1 d))

  pub ends_within : (i : ℕ) → i ≤ records s → ends s power i ≤ records s
  ends_within i h = omega (arith, first_within (λ k. not (has_power power (word_at s k))) i (records s - i))

  pub run_within : ((run_of s power).start ≤ (run_of s power).end) × ((run_of s power).end ≤ length s)
  unfolding run_of
  run_within =
      let a = starts s power in
      let h : a ≤ records s = omega (arith, first_within (λ i. has_power power (word_at s i)) 0 (records s)) in
      let k : a ≤ ends s power a = first_from (λ i. not (has_power power (word_at s i))) a (records s - a) in
      let w = bounded (in_order s && ltb a (records s)) a (ends s power a) (records s) k (ends_within a h) in
      (w.0, omega (arith, w.1))
