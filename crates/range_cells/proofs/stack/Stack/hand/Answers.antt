use Rattle.std.proofs.Common.{take, IfOk, subst}
use Rattle.std.specs.Bool.{OnTrue}
use Rattle.semantics.specs.Texts.{pairs_within}
use Rattle.semantics.specs.States.{state}
use Rattle.shared_reader.specs.Lent.{LentPass}
use Rattle.range_cells.proofs.stack.Stack.hand.Goals as goal

pub returns-clause-handed : goal.returns-clause-handed
returns-clause-handed g c =
    subst (λ (v : LentPass). IfOk c.hand_range.result (λ gave. OnTrue gave (g.K.RowSink.got c.args.sink.now c.hand_range.new.sink (pairs_within c.args.range.now (state (take c.args.p v.pass.view)))))) c.self.view_is
    c.hand_range.ensures.handed
