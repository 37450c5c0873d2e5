use Rattle.std.proofs.Common.{sym, ap, ◌∙◌}
use Rattle.kept_ranges.specs.Rules.{touch_of}
use Rattle.growing_history.specs.StateChanges.{Change}
use Rattle.range_state.proofs.ListLemmas.{keyed_some, keyed_none}
use Rattle.range_state.proofs.touching.touch_keys.Goals.{in-Some+in_ok-push, in_default}
use Rattle.range_state.proofs.touching.touch_keys.Goals as goal

pub loop-change-preserved : goal.loop-change-preserved
loop-change-preserved c =
    let gives = touch_of c.args.join.now c.args.need.now c.args.source.now in
    let base = c.args.list.now.items in
    let changes = c.args.changes.now in
    let index = c.loop-change.change-index in
    let change = c.change-item.result in
    let asked = ap (λ (d : Change). gives d.key) (sym c.change.view_is) ∙ sym c.in_ok-touch.ensures in
    elim c.match-branch-2.branch [
      | in-Some+in_ok-push w ↦
          rw w.list-is (w.in_ok-push.ensures.items
          ∙ keyed_some gives base c.loop-change.list.items changes index change w.in-Some.touch c.loop-change-test.true c.change-item.is (asked ∙ w.in-Some.is) c.loop-change.invariant)
      | in_default w ↦ rw w.list-is (keyed_none gives base c.loop-change.list.items changes index change c.loop-change-test.true c.change-item.is (asked ∙ w.in_default.is) c.loop-change.invariant)
    ]
