use Rattle.std.proofs.Common.{◌≤◌, ◌∙◌, ◌++◌, length, ap, arith}
use Rattle.semantics.specs.Histories.{DeclaredJoin}
use Rattle.semantics.specs.Verdicts.{joined}
use Rattle.join_set.specs.Readings.{edges_from}
use Rattle.join_set.proofs.ReadingLemmas.{readers_step, readers_last}
use Rattle.join_set.proofs.reading.edges.Goals as goal

pub loop-number-preserved : goal.loop-number-preserved
loop-number-preserved c = λ at.
    let all = joined c.args.joins.now at c.args.join.now in
    c.in_ok-add_edges.ensures at
    ∙ ap (λ (s : DeclaredJoin). c.loop-number.edges.items ++ edges_from c.loop-number.number s.join all) c.stands.view_is
    ∙ readers_step c.args.joins.now all c.loop-number.number c.index-joins-number.result c.loop-number.edges.items c.loop-number-test.true c.index-joins-number.is (c.loop-number.invariant at)

pub returns : goal.returns
returns c = λ at.
    let all : length c.args.joins.now ≤ c.loop-number.number = omega arith in
    c.in_ok-add_edges-2.ensures at ∙ readers_last c.args.joins.now c.loop-number.number at c.args.join.now c.loop-number.edges.items all (c.loop-number.invariant at)
