use Rattle.std.proofs.Common.{◌≡◌, take}
use Rattle.updater_index.specs.Registered.{stabbed, with_marks}
use Rattle.updater_index.proofs.index.UpdaterIndex.mark_stabbed.Given as goal

abbrev pub invariant-loop-id : goal.invariant-loop-id
invariant-loop-id l = record {
  held : l.self.held ≡ l.fn.self.held;
  marked : l.self.marked ≡ with_marks l.fn.self.marked (take l.id-index (stabbed l.key l.fn.self.held));
}
