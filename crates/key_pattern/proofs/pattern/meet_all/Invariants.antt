use Rattle.std.proofs.Common.{◌≡◌, drop}
use Rattle.semantics.specs.Patterns.{overlaps}
use Rattle.key_pattern.specs.Plain.{plain_segments}
use Rattle.key_pattern.proofs.pattern.meet_all.Given as goal

abbrev pub invariant-loop-place : goal.invariant-loop-place
invariant-loop-place l =
    overlaps (drop l.place (plain_segments l.segments)) (drop l.place (plain_segments l.others))
    ≡ overlaps (plain_segments l.segments) (plain_segments l.others)
