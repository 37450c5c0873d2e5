use Rattle.std.proofs.Common.{◌≡◌, ◌++◌, true, nat_le, length}
use Rattle.range_set.specs.Pieces.{parts_within}
use Rattle.range_set.specs.Stored.{held_of}
use Rattle.key_ranges.proofs.OrderLemmas.{is_up_to}
use Rattle.range_set.proofs.PieceLemmas.{pieces_of}
use Rattle.range_set.proofs.range_set.RangeSet.cover.Given as goal

abbrev pub invariant-loop-held : goal.invariant-loop-held
invariant-loop-held g l = record {
  pieces : l.pieces.items ++ pieces_of l.place l.range.high (parts_within l.range (held_of l.held-iterator)) ≡ pieces_of l.range.low l.range.high (parts_within l.range l.self);
  from : is_up_to l.range.low l.place ≡ true;
  short : nat_le (length l.place) 513 ≡ true;
}
