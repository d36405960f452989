-- What the check, the profile and the run of a power of x answer.
--
--   check_of p s          the report of one polynomial: a refusal 1 to 6, or its term count
--   profile_of p s        the profile of a slice beside that report; zero where the report refuses
--   run_of s power        where the terms with this power of x lie, in words of the slice
--   words_from part s     the words of that part
--   starts s power        the first term with this power, or the number of terms
--   ends s power from     the first term from one on without it, or the number of terms
use Rattle.std.specs.Prelude.{ℕ, ◌*◌, ◌-◌, Bool, not, ◌&&◌, List, [], ◌∷◌, ◌++◌, eqb, ltb, take, drop}
use Rattle.algebra.specs.Residues.{pick, first}
use Rattle.monomial.specs.Layout.{base, exponent_of}
use Rattle.poly.specs.Words.{records, word_at}
use Rattle.poly.specs.Profiles.{measure_of}
use Rattle.refusals.specs.Reports.{none, done, first_or}
use Rattle.refusals.specs.Rules.{Lent, lent, input_terms, refusals, shape_rules, order_rules}
use Rattle.refusals.specs.declared.report.Report.{Report}
use Rattle.poly.specs.declared.profile.Profile.{Profile}
use Rattle.services.specs.declared.profile.Profiled.{Profiled}
use Rattle.services.specs.declared.run.Part.{Part}

-- a slice lent as the first input
abbrev pub as_input : List ℕ → Lent
as_input s = lent 1 s input_terms

unfoldable pub check_of : ℕ → List ℕ → Report
check_of p s = first_or (refusals base p (as_input s ∷ []) []) (done (records s) 0)

abbrev pub no_profile : Profile
no_profile = record { terms = 0; exponents = 0 ∷ 0 ∷ 0 ∷ 0 ∷ []; total = 0 }

unfoldable pub profile_of : ℕ → List ℕ → Profiled
profile_of p s =
    record {
      report = check_of p s;
      profile = pick (eqb (check_of p s).number 0) (measure_of s) no_profile;
    }

-- The run

-- whether a monomial word has this power of x
abbrev pub has_power : ℕ → ℕ → Bool
has_power power word = eqb (exponent_of base word 0) power

-- the first term with this power, or the number of terms
abbrev pub starts : List ℕ → ℕ → ℕ
starts s power = first (λ i. has_power power (word_at s i)) 0 (records s)

-- the first term from one on without it, or the number of terms
abbrev pub ends : List ℕ → ℕ → ℕ → ℕ
ends s power from = first (λ i. not (has_power power (word_at s i))) from (records s - from)

-- none of 2, 3, 4 and 5 is due
unfoldable pub in_order : List ℕ → Bool
in_order s = eqb (first_or (shape_rules (as_input s ∷ []) ++ order_rules base (as_input s ∷ [])) none).number 0

-- from the first term with this power to the first after it without; the empty part at the front where there is none
unfoldable pub run_of : List ℕ → ℕ → Part
run_of s power =
    let start = starts s power in
    let end = ends s power start in
    pick (in_order s && ltb start (records s))
    (record { start = 2 * start; end = 2 * end })
    (record { start = 0; end = 0 })

-- the words of a slice from one place up to another
abbrev pub words_from : Part → List ℕ → List ℕ
words_from part s = take (part.end - part.start) (drop part.start s)
