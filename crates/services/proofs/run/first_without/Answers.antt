-- `services::run::first_without` meets its contract.
use Rattle.std.proofs.Common.{rules, tests, ℕ, Bool, Option, not, ◌≡◌, ◌∙◌, ap, true, false, unwrap_or}
use Rattle.std.proofs.lemmas.Iterator.{first_from_Range}
use Rattle.poly.specs.Words.{records, word_at}
use Rattle.services.specs.Services.{has_power}
use Rattle.services.proofs.Parts.{found_first, within_or, ends_within}
use Rattle.services.proofs.run.first_without.Goals as goal

pub returns : goal.returns
returns c =
    let a = c.args in
    let s = a.s.now in
    let t : ℕ → Bool = λ i. not (has_power a.power (word_at s i)) in
    c.unwrap_or.ensures
    ∙ ap (λ (r : Option ℕ). unwrap_or r (records s))
    (found_first t a.from (records s) c.requires c.find.result
    (first_from_Range _ _ _ _ (λ i. t i ≡ true) (λ i. t i ≡ false) c.find.ensures.ran (λ x q k. search (rules, tests)) (λ x q k. search (rules, tests))))
    ∙ within_or _ (records s) (ends_within s a.power a.from c.requires)
