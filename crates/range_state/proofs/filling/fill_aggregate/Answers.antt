use Rattle.std.proofs.Common.{◌≡◌, ℕ, length, take, Some, MatchOption, ap, ◌∙◌, subst}
use Rattle.std.proofs.lemmas.Result.{err_from_is_err_and}
use Rattle.semantics.specs.States.{below}
use Rattle.range_evaluation.specs.Trees.{tree}
use Rattle.join_eval.specs.Bounds.{Allows, Exceeds, most_of}
use Rattle.join_eval.proofs.CollectingLemmas.{on_too_wide_weaker}
use Rattle.range_state.proofs.HeldLemmas.{filled_by, tree_fills}
use Rattle.range_state.proofs.filling.fill_aggregate.Goals as goal

pub returns-in_err-more-clause-wide : goal.returns-in_err-more-clause-wide
returns-in_err-more-clause-wide g c =
    let s = c.args.subject.now in
    let needs = tree s.join c.args.slots.now s.range (below (take c.args.p (g.R.Reader.list c.args.reader.now)) s.rank) in
    let long : length c.needs.result.now ≡ length needs = ap length (c.needs.ensures ∙ c.in_ok-made.ensures.needs) in
    let p = err_from_is_err_and c.from_residual-in_err-more.result c.from_residual-in_err-more.ensures.1 in
    rw (p.1, p.2) (on_too_wide_weaker c.in_err-more.field-0.0
    (λ (many : Exceeds (most_of c.args.bound) (length c.needs.result.now)). subst (λ (n : ℕ). Exceeds (most_of c.args.bound) n) long many) c.in_err-more.ensures.wide)

pub returns-in-Some-clause-filled : goal.returns-in-Some-clause-filled
returns-in-Some-clause-filled g c =
    let s = c.args.subject.now in
    let most = most_of c.args.bound in
    let table = below (take c.args.p (g.R.Reader.list c.args.reader.now)) s.rank in
    let count = length c.needs.result.now in
    let long = ap length (c.needs.ensures ∙ c.in_ok-made.ensures.needs) ∙ tree_fills s c.args.slots.now table c.requires.of_range in
    let many : Exceeds most count = subst (λ o. MatchOption o (Allows most count) (λ _. Exceeds most count)) c.in-Some.is c.in_ok-more.ensures.few in
    (c.in_ok-made.ensures.rows, subst (λ (n : ℕ). Exceeds most n) long many)

pub returns-clause-filled : goal.returns-clause-filled
returns-clause-filled g c =
    let s = c.args.subject.now in
    let most = most_of c.args.bound in
    let table = below (take c.args.p (g.R.Reader.list c.args.reader.now)) s.rank in
    let made = c.in_ok-made.ensures in
    let count = length c.needs.result.now in
    let long = ap length (c.needs.ensures ∙ made.needs) ∙ tree_fills s c.args.slots.now table c.requires.of_range in
    let few : Allows most count = subst (λ o. MatchOption o (Allows most count) (λ _. Exceeds most count)) c.in_default.is c.in_ok-more.ensures.few in (
      filled_by s c.args.slots.now table c.args.p c.in_ok-made.made (Some c.in_ok-made.groups) c.in_ok-held.held c.requires.of_range c.in_ok-held.ensures made.rows made.needs (λ _. made.listed),
      subst (λ (n : ℕ). Allows most n) long few,
    )
