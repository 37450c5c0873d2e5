use Rattle.std.proofs.Common.{not, is_some, sym, ap, ◌∙◌, arith}
use Rattle.semantics.specs.Texts.{pairs_where}
use Rattle.semantics.specs.Patterns.{Slots, bind}
use Rattle.semantics.specs.Joins.{Join}
use Rattle.join_model.proofs.HidingLemmas.{hidden_more, hidden_all}
use Rattle.join_model.proofs.hiding.hide_computed.Goals as goal

pub loop-i-preserved : goal.loop-i-preserved
loop-i-preserved c =
    hidden_more c.args.joins.now.standing c.loop-i.i c.join-join.result.now c.join.inside.output c.loop-i.table c.drop_fitting.new.self
    c.join-join.ensures (ap (λ (j : Join). j.output) c.join.view_is) (c.drop_fitting.ensures ∙ ap (λ (given : Slots). pairs_where (λ key. not (is_some (bind c.join.inside.output key given))) c.loop-i.table) c.none.ensures)
    ∙ c.loop-i.invariant

pub returns : goal.returns
returns c = sym (hidden_all c.args.joins.now.standing c.loop-i.i c.loop-i.table (omega arith)) ∙ c.loop-i.invariant
