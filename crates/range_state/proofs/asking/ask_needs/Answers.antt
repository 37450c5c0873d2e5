use Rattle.std.proofs.Common.{◌↔◌, List, Contains, take, subst}
use Rattle.semantics.specs.Texts.{Text}
use Rattle.semantics.specs.States.{below}
use Rattle.join_eval.specs.Answers.{change_keys}
use Rattle.range_state.proofs.AskingLemmas.{inside_merged, complete_merged, listed_merged, values_merged}
use Rattle.range_state.proofs.asking.ask_needs.Goals as goal

pub returns-clause-inside : goal.returns-clause-inside
returns-clause-inside g c =
    let told = rw c.in-Some.is at c.in_ok-answers.ensures.inside in
    inside_merged c.args.needs.now (change_keys c.in-Some.answers.items) (change_keys c.in_ok-changes.changes.items) c.in_ok-changes.ensures.same told

pub returns-clause-complete : goal.returns-clause-complete
returns-clause-complete g c =
    let told = rw c.in-Some.is at c.in_ok-answers.ensures.complete in
    complete_merged (g.R.Reader.list c.args.reader.now) c.args.q c.args.p c.args.rank c.args.needs.now (change_keys c.in-Some.answers.items) (change_keys c.in_ok-changes.changes.items) c.in_ok-changes.ensures.same told

pub returns-clause-values : goal.returns-clause-values
returns-clause-values g c =
    let told = rw c.in-Some.is at c.in_ok-answers.ensures.values in
    values_merged (below (take c.args.p (g.R.Reader.list c.args.reader.now)) c.args.rank) c.in-Some.answers.items c.in_ok-changes.changes.items c.in_ok-changes.ensures.among told

pub returns-clause-bare : goal.returns-clause-bare
returns-clause-bare g c =
    λ all.
    let h = g.R.Reader.list c.args.reader.now in
    let needs = c.args.needs.now in
    let told = rw c.in-Some.is at (c.in_ok-answers.ensures.bare all) in
    let keys = change_keys c.in_ok-changes.changes.items in
    listed_merged h c.args.q c.args.p needs keys c.in_ok-changes.ensures.ascend
    (λ key. subst (λ (l : List Text). Contains keys key ↔ Contains l key) told (c.in_ok-changes.ensures.same key))
