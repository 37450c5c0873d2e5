-- What contracts see of a source, a sink and a link in memory.
use Rattle.std.specs.Prelude.{ℕ, List, Option, Some, length, min, max, slice_index_or, ⊤}
use Rattle.pq_io.specs.CallLog.{CallLog}
use Rattle.pq_io.specs.Links.{LinkTold}

-- the bytes that are left, the most bytes that each call gives, and the calls
pub record SourceState : Type 0 where
  pub left : List ℕ
  pub cuts : List ℕ
  pub log : CallLog

-- how many bytes a read gives into so much room: those that are left, that have room,
-- and that the cut of this call lets through, where a cut of 0 counts as 1
abbrev pub given_count : SourceState → ℕ → ℕ
given_count s room = min (length s.left) (min room (max 1 (slice_index_or s.cuts s.log.made room)))

-- the bytes that were taken, and the calls
pub record SinkState : Type 0 where
  pub taken : List ℕ
  pub log : CallLog

-- a link is a source and a sink
pub record LinkState : Type 0 where
  pub source : SourceState
  pub sink : SinkState

-- what it tells where its use has ended so
abbrev pub told_of_state : LinkState → Option ⊤ → LinkTold
told_of_state l refused = record {
  left = Some l.source.left;
  taken = Some l.sink.taken;
  read_faults = l.source.log.faults;
  write_faults = l.sink.log.faults;
  refused = refused;
}
