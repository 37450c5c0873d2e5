use Rattle.std.proofs.Common.{◌≡◌, ℕ, ◌<◌, length, get_or}
use Rattle.write_history.specs.Passes.{HasSeen}
use Rattle.history_trials.proofs.appends.meet_each.Given as goal

abbrev pub invariant-loop-pass : goal.invariant-loop-pass
invariant-loop-pass g l =
    (goal.iterator-loop-pass g).can_next l.pass-iterator ×
    (goal.iterator-loop-pass g).is_finite l.pass-iterator ×
    HasSeen l.history l.reader l.last ×
    (l.reader.mark ≡ l.fn.reader.mark) ×
    ((i : ℕ) (d : _) → i < length l.pass-iterator.rest.items → HasSeen l.history (get_or l.pass-iterator.rest.items i d).0 (get_or l.pass-iterator.rest.items i d).1)
