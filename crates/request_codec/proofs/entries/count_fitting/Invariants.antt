use Rattle.std.proofs.Common.{◌≡◌, ◌+◌, take}
use Rattle.request_codec.proofs.FittingLemmas.{spent, room_for}
use Rattle.request_codec.proofs.entries.count_fitting.Given as goal

-- the entries so far and the room that is left have the room of all
abbrev pub invariant-loop-entry : goal.invariant-loop-entry
invariant-loop-entry l = (l.count ≡ l.entry-index) × (spent (take l.entry-index l.entries) + l.room ≡ room_for l.from l.position)
