use Rattle.std.proofs.Common.{◌≡◌, ◌++◌, map, drop, string_bytes}
use Rattle.key_pattern.specs.Plain.{plain_segments}
use Rattle.join_lang.specs.Printed.{segments_print}
use Rattle.join_lang.proofs.printer.push_segments.Given as goal

abbrev pub invariant-loop-segment : goal.invariant-loop-segment
invariant-loop-segment l =
    string_bytes l.text ++ segments_print (map string_bytes l.names) (plain_segments (drop l.segment-index l.segments))
    ≡ string_bytes l.fn.text ++ segments_print (map string_bytes l.names) (plain_segments l.segments)
