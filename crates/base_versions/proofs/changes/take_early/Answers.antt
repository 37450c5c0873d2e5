use Rattle.std.proofs.Common.{◌≡◌, ◌≤◌, ◌<◌, List, ◌∷◌, ◌++◌, length, drop, get_or, Option, None, Some, MatchOption, sym, ap, ◌∙◌, rules, subst, arith}
use Rattle.std.specs.Option.{option_to_list}
use Rattle.std.proofs.lemmas.Bool.Decides.{nat_tests}
use Rattle.base_versions.specs.declared.changes.Change.{Change}
use Rattle.base_versions.specs.Positions.{KeepsTo}
use Rattle.base_versions.proofs.TrimLemmas.{keeps-same, keeps-rest}
use Rattle.base_versions.proofs.changes.take_early.Goals as goal

-- what was taken stood first
taken_first : (o : Option Change) (old new : List Change) → old ≡ option_to_list o ++ new → MatchOption o (new ≡ old) (λ first. old ≡ first ∷ new)
taken_first None old new e = sym e
taken_first (Some first) old new e = e

pub returns-in-Some-clause-first : goal.returns-in-Some-clause-first
returns-in-Some-clause-first c = taken_first c.pop_front.result c.args.changes.now.items c.pop_front.new.self.items c.pop_front.ensures.items

pub returns-in-Some-clause-keeps : goal.returns-in-Some-clause-keeps
returns-in-Some-clause-keeps c =
    let cs = c.args.changes.now.items in
    let first = c.in-Some.first.now in
    let less : first.position ≤ c.args.to = grind (arith, nat_tests, c.if-first-to.true) in
    subst (λ (xs : List Change). KeepsTo (λ (x : Change). x.position) c.args.to cs xs) (sym c.pop_front.ensures.rest) (keeps-rest (λ (x : Change). x.position) c.args.to cs first (search rules) c.in-Some.ensures.lookup less)

pub returns-in_default-clause-keeps : goal.returns-in_default-clause-keeps
returns-in_default-clause-keeps c = keeps-same (λ (x : Change). x.position) c.args.to c.args.changes.now.items
