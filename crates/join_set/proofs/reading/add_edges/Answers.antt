use Rattle.std.proofs.Common.{◌≤◌, ◌∙◌, length, true, false, sym, ap, append-nil, arith}
use Rattle.semantics.specs.Joins.{reads_output}
use Rattle.semantics.specs.Histories.{DeclaredJoin}
use Rattle.join_set.proofs.ReadingLemmas.{edges_step, edges_last}
use Rattle.join_set.proofs.reading.add_edges.Goals as goal
use Rattle.join_set.proofs.reading.add_edges.Goals.{then-reads_output+in_ok-push, else-reads_output, then-reads_output-2+in_ok-push-2, else-reads_output-2}

pub loop-other-preserved : goal.loop-other-preserved
loop-other-preserved c =
    let at = ap (λ (s : DeclaredJoin). reads_output c.args.reader.now s.join) (sym c.stands.view_is) ∙ sym c.reads_output.ensures in
    elim c.if-reads_output.branch [
      | then-reads_output+in_ok-push w ↦
          (let step = edges_step c.args.number c.args.reader.now c.args.joins.now c.loop-other.other c.index-joins-other.result true c.args.edges.now.items c.loop-other.edges.items c.loop-other-test.true c.index-joins-other.is (at ∙ w.if-reads_output.true) c.loop-other.invariant in
          cc (w.in_ok-push.ensures.items, step))
      | else-reads_output w ↦
          (let step = edges_step c.args.number c.args.reader.now c.args.joins.now c.loop-other.other c.index-joins-other.result false c.args.edges.now.items c.loop-other.edges.items c.loop-other-test.true c.index-joins-other.is (at ∙ w.if-reads_output.false) c.loop-other.invariant in
          let none = append-nil c.loop-other.edges.items in
          cc (none, step))
    ]

pub returns : goal.returns
returns c = λ at.
    let all : length c.args.joins.now ≤ c.loop-other.other = omega arith in
    elim c.if-reads_output-2.branch [
      | then-reads_output-2+in_ok-push-2 w ↦
          (let last = edges_last c.args.number c.args.reader.now c.args.joins.now c.loop-other.other at c.args.join.now true c.args.edges.now.items c.loop-other.edges.items all (sym c.reads_output-2.ensures ∙ w.if-reads_output-2.true) c.loop-other.invariant in
          cc (w.in_ok-push-2.ensures.items, last))
      | else-reads_output-2 w ↦
          (let last = edges_last c.args.number c.args.reader.now c.args.joins.now c.loop-other.other at c.args.join.now false c.args.edges.now.items c.loop-other.edges.items all (sym c.reads_output-2.ensures ∙ w.if-reads_output-2.false) c.loop-other.invariant in
          let none = append-nil c.loop-other.edges.items in
          cc (none, last))
    ]
