-- Laws on what noted slots cover and meet.
use Rattle.std.specs.Prelude.{◌≡◌, ◌≤◌, length, true, is_some}
use Rattle.semantics.specs.Texts.{Text, Range, within}
use Rattle.semantics.specs.Patterns.{Pattern, Slots, is_pattern, bind}
use Rattle.lazy_log.specs.Pending.{meets_output}

-- where a key that lies in a range and has at most 512 bytes fits the output under slots for 16 places, the slots meet the range
abbrev pub CoveredIsMet : Type 0
CoveredIsMet = (output : Pattern) (slots : Slots) (range : Range) (key : Text) → is_pattern output ≡ true → length slots ≡ 16 → length key ≤ 512 →
    within range key ≡ true → is_some (bind output key slots) ≡ true → meets_output output range slots ≡ true
