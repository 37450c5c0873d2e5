use Rattle.std.proofs.Common.{take, ◌∙◌}
use Rattle.std.proofs.lemmas.Result.{IfOk-weaker}
use Rattle.semantics.specs.States.{below}
use Rattle.range_state.proofs.FillLemmas.{asked_is_within, slots_of_output, standing_join}
use Rattle.range_state.proofs.filling.fill_rows.Goals as goal

pub evaluate-requires-clause-own_slots : goal.evaluate-requires-clause-own_slots
evaluate-requires-clause-own_slots g c =
    let s = c.args.subject.now in
    slots_of_output s.join s.range c.args.slots.now (standing_join (g.R.Reader.list c.args.reader.now) c.args.p s.rank s.join c.requires.entered c.requires.stands) c.requires.of_range

pub returns-clause-rows : goal.returns-clause-rows
returns-clause-rows g c =
    let s = c.args.subject.now in
    let h = g.R.Reader.list c.args.reader.now in
    IfOk-weaker c.evaluate.result _ _ (λ found is. is ∙ asked_is_within s.join s.range c.args.slots.now (below (take c.args.p h) s.rank) (standing_join h c.args.p s.rank s.join c.requires.entered c.requires.stands) c.requires.is_range c.requires.of_range)
    c.evaluate.ensures.rows
