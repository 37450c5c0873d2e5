use Rattle.std.proofs.Common.{◌≡◌, drop}
use Rattle.semantics.specs.Patterns.{take_all, bind}
use Rattle.key_pattern.specs.Plain.{plain_segments}
use Rattle.key_pattern.specs.Pieces.{segments_left}
use Rattle.key_pattern.proofs.matching.bind_text.Given as goal

abbrev pub invariant-loop-segment : goal.invariant-loop-segment
invariant-loop-segment l =
    take_all (drop l.segment-index (plain_segments l.segments)) (segments_left l.left) l.found
    ≡ bind (plain_segments l.segments) l.fn.text l.fn.given
