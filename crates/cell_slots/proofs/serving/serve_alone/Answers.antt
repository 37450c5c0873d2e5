use Rattle.std.proofs.Common.{◌+◌, length, take, ◌∙◌, subst}
use Rattle.std.proofs.lemmas.Result.{IfOk-weaker}
use Rattle.semantics.specs.Outputs.{out}
use Rattle.semantics.specs.States.{below}
use Rattle.kept_ranges.specs.Sound.{KeptRange}
use Rattle.cell_slots.specs.Serving.{CountsFill, output_within}
use Rattle.cell_slots.proofs.ServingLemmas.{within_again}
use Rattle.cell_slots.proofs.serving.serve_alone.Goals as goal

pub returns-clause-output : goal.returns-clause-output
returns-clause-output g c =
    let h = g.R.Reader.list c.args.reader.now in
    IfOk-weaker c.fill_and_read.result _ _ (λ pairs given.
    given.output
    ∙ (λ i. output_within (c.new-state.ensures i) h c.args.p (c.in_ok-piece.ensures i))
    ∙ within_again c.args.range (out c.args.join (below (take c.args.p h) c.args.rank))) c.fill_and_read.ensures.given

pub returns-clause-least : goal.returns-clause-least
returns-clause-least g c =
    let h = g.R.Reader.list c.args.reader.now in
    IfOk-weaker c.fill_and_read.result _ _ (λ pairs counts.
    subst (λ (s : KeptRange). CountsFill h c.args.p s (c.args.steps.now + 1 + length pairs.items) c.fill_and_read.new.steps) c.new-state.ensures counts) c.fill_and_read.ensures.least
