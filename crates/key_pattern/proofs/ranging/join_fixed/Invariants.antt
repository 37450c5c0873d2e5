use Rattle.std.specs.String.{string_bytes}
use denote.Shadow.{shadow}
use denote.Text.{Utf8}
use Rattle.key_pattern.specs.Plain.{plain_segments}
use Rattle.key_pattern.proofs.FixedLemmas.{AreJoined}
use Rattle.key_pattern.proofs.ranging.join_fixed.Given as goal

abbrev pub invariant-loop-segment : goal.invariant-loop-segment
invariant-loop-segment l = shadow (Utf8 l.separator) × AreJoined (plain_segments l.segments) l.slots l.segment-index (string_bytes l.text) l.separator
