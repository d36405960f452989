-- `compared::words::holds` meets its contract.
use Rattle.std.proofs.Common.{◌∙◌, sym, ap, ◌&&◌, length, drop, eqb, rules, tests}
use Rattle.std.specs.List.{list_all}
use Rattle.std.proofs.lemmas.Iterator.{YieldsList-from_slice}
use Rattle.std.proofs.lemmas.Iterator.Search.{all_from_yields_List}
use Rattle.compared.proofs.Arrays.{parted}
use Rattle.compared.proofs.words.holds.Goals as goal

pub returns-in-None : goal.returns-in-None
returns-in-None c =
    let a = c.args in
    sym (parted a.s.now a.written.now a.rest ∙ ap (λ b. b && list_all (λ w. eqb w a.rest) (drop (length a.written.now) a.s.now)) c.in-None.ensures.cases)

pub returns-in-Some : goal.returns-in-Some
returns-in-Some c =
    let a = c.args in
    let front = c.in-Some.ensures.cases in
    let all = all_from_yields_List (λ w. eqb w a.rest) _ _ c.all.result c.all.ensures.ran (YieldsList-from_slice c.in-Some.behind.now cc) (λ x b q k. search (rules, tests)) in
    all ∙ ap (list_all (λ w. eqb w a.rest)) front.1
    ∙ sym (parted a.s.now a.written.now a.rest ∙ ap (λ b. b && list_all (λ w. eqb w a.rest) (drop (length a.written.now) a.s.now)) front.0)
