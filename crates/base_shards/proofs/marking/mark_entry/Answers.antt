use Rattle.std.proofs.Common.{sym, ap, ◌∙◌}
use Rattle.std.proofs.lemmas.Result.{on_ok_weaker}
use Rattle.semantics.specs.Histories.{Entry}
use Rattle.growing_history.specs.Changes.{written}
use Rattle.join_types.specs.Writes.{plain_write}
use Rattle.base_shards.proofs.MarkLemmas.{marked_by_none, marked_by_one}
use Rattle.base_shards.proofs.marking.mark_entry.Goals as goal

pub returns-in-Put-clause-ok : goal.returns-in-Put-clause-ok
returns-in-Put-clause-ok c =
    let entry = c.args.entry.now in
    let is = ap (λ (e : Entry). e.write) (sym c.entry.view_is) ∙ ap plain_write c.in-Put.is in
    on_ok_weaker c.mark_stabbed.result (λ marked. marked ∙ sym (marked_by_one entry c.in-Put.key c.args.index.now (ap written is))) c.mark_stabbed.ensures.ok

pub returns-in-Remove-clause-ok : goal.returns-in-Remove-clause-ok
returns-in-Remove-clause-ok c =
    let entry = c.args.entry.now in
    let is = ap (λ (e : Entry). e.write) (sym c.entry.view_is) ∙ ap plain_write c.in-Remove.is in
    on_ok_weaker c.mark_stabbed-in-Remove.result (λ marked. marked ∙ sym (marked_by_one entry c.in-Remove.key c.args.index.now (ap written is))) c.mark_stabbed-in-Remove.ensures.ok

pub returns-in-Declare-clause-ok : goal.returns-in-Declare-clause-ok
returns-in-Declare-clause-ok c =
    let entry = c.args.entry.now in
    let is = ap (λ (e : Entry). e.write) (sym c.entry.view_is) ∙ ap plain_write c.in-Declare.is in
    sym (marked_by_none entry c.args.index.now (ap written is))
