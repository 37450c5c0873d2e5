-- Passes of tests that read on.
use Rattle.std.proofs.Common.{◌≡◌, ℕ, ◌+◌, ◌-◌, ◌≤◌, ◌∙◌, arith}
use Rattle.growing_history.proofs.PrefixLemmas.{prefix_length}
use Rattle.write_history.specs.Passes.{HistoryId, PassView, HasSeen, MayAppend}
use Rattle.base_shards.specs.Reading.{ReachesBack, ReadsOn}
use Rattle.history_trials.specs.Seated.{IsPinned}

-- a pass that reads on has seen what it had seen
pub seen_on : (history : HistoryId) (old new : PassView) (count : ℕ) → ReadsOn old new → HasSeen history old count → HasSeen history new count
seen_on history old new count reads seen =
    let longer = prefix_length old.view new.view reads.begins in
    record { same_history = reads.same_history ∙ seen.same_history; within = omega (arith, longer, seen.within) }

-- and may append where it might
pub may_on : (history : HistoryId) (old new : PassView) → ReadsOn old new → MayAppend history old → MayAppend history new
may_on history old new reads may =
    record { same_history = reads.same_history ∙ may.same_history; writer = omega (arith, reads.same_number, reads.same_writers, may.writer) }

-- and is pinned where it was
pub pinned_on : (history : HistoryId) (old new : PassView) (count : ℕ) → ReadsOn old new → IsPinned history old count → IsPinned history new count
pinned_on history old new count reads pinned =
    let longer = prefix_length old.view new.view reads.begins in
    record { same_history = reads.same_history ∙ pinned.same_history; pinned = reads.same_mark ∙ pinned.pinned; within = omega (arith, longer, pinned.within) }

-- it may ask for what is at most 65,536 entries before the pin
pub reaches : (history : HistoryId) (pass : PassView) (count p : ℕ) → IsPinned history pass count → count ≤ p + 65536 → ReachesBack pass p
reaches history pass count p pinned near = record { pin = count; pinned = pinned.pinned; near = near }
