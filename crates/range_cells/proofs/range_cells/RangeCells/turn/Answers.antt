use Rattle.std.proofs.Common.{◌∙◌, take, sym, subst, arith}
use Rattle.join_set.specs.Sets.{AreJoins}
use Rattle.write_history.specs.Marks.{reach}
use Rattle.write_history.specs.declared.known.Mark.{Mark}
use Rattle.growing_history.proofs.PrefixLemmas.{prefix_length, take_prefix}
use Rattle.base_shards.proofs.ReadingLemmas.{reads_on-trans}
use Rattle.range_cells.proofs.range_cells.RangeCells.turn.Goals as goal

pub advance_parts-requires-clause-within : goal.advance_parts-requires-clause-within
advance_parts-requires-clause-within g c = omega (arith, c.requires.whole)

pub advance_marked-requires-clause-same_history : goal.advance_marked-requires-clause-same_history
advance_marked-requires-clause-same_history g c = c.advance_parts.ensures.same_history ∙ c.requires.same_history

pub advance_marked-requires-clause-recorded : goal.advance_marked-requires-clause-recorded
advance_marked-requires-clause-recorded g c = c.advance_parts.ensures.recorded c.requires.recorded

pub advance_marked-requires-clause-within : goal.advance_marked-requires-clause-within
advance_marked-requires-clause-within g c = omega (arith, c.requires.whole, prefix_length c.args.pass.now.view c.advance_parts.new.pass.view c.advance_parts.ensures.begins)

pub advance_marked-requires-clause-joins : goal.advance_marked-requires-clause-joins
advance_marked-requires-clause-joins g c =
    subst (λ (m : Mark). AreJoins (reach m) c.args.joins.now (take c.args.p c.advance_parts.new.pass.view)) (sym c.advance_parts.ensures.same_mark)
    (subst (AreJoins (reach c.args.pass.now.mark) c.args.joins.now) (sym (take_prefix c.args.p c.args.pass.now.view c.advance_parts.new.pass.view (omega (arith, c.requires.whole)) c.advance_parts.ensures.begins)) c.requires.joins)

pub returns-in-Some-clause-reads_on : goal.returns-in-Some-clause-reads_on
returns-in-Some-clause-reads_on g c = reads_on-trans c.args.pass.now c.advance_parts.new.pass c.advance_marked.new.pass c.advance_parts.ensures c.advance_marked.ensures.reads_on

pub advance_marked-requires-clause-pinned : goal.advance_marked-requires-clause-pinned
advance_marked-requires-clause-pinned g c = record { pin = c.args.p; pinned = c.advance_parts.ensures.same_mark ∙ c.requires.pinned; near = omega arith }
