use Rattle.std.proofs.Common.{◌≡◌, ◌++◌, drop, option_map}
use Rattle.std.specs.List.{join_with_byte}
use Rattle.std.specs.String.{string_bytes}
use Rattle.semantics.specs.Texts.{bar}
use Rattle.semantics.specs.Patterns.{segment_texts}
use denote.Shadow.{shadow}
use denote.Text.{Utf8}
use Rattle.key_pattern.specs.Plain.{plain_segments}
use Rattle.key_pattern.proofs.JoinedTexts.{joined_after}
use Rattle.key_pattern.proofs.matching.join_texts.Given as goal

abbrev pub invariant-loop-segment : goal.invariant-loop-segment
invariant-loop-segment l =
    shadow (Utf8 l.separator)
    × (option_map (λ ts. string_bytes l.text ++ joined_after l.separator ts) (segment_texts (drop l.segment-index (plain_segments l.segments)) l.slots)
    ≡ option_map (join_with_byte bar) (segment_texts (plain_segments l.segments) l.slots))
