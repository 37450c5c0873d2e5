-- What slots hold.
use Rattle.std.specs.Prelude.{◌≡◌, List, ◌++◌, map, drop, length, Option, option_map, IsSome, true, false, nat_le, String}
use Rattle.std.specs.Option.{option_copied}
use Rattle.std.specs.Borrow.{Bor}
use Rattle.std.specs.String.{string_bytes}
use Rattle.std.specs.declared.alloc.Global.{Global}
use Rattle.semantics.specs.Texts.{Text, has_bar}
use Rattle.semantics.specs.Patterns.{Pattern, Slots, no_slots, segment_texts}
use Rattle.semantics.specs.PatternLaws.{AreSegmentTexts}

-- a text that a slot may stand for: not empty and without `|`
pub record IsSegmentText (text : Text) : Type 0 where
  pub long : nat_le 1 (length text) ≡ true
  pub lacks : has_bar text ≡ false

-- 16 places, each text in them one that a slot may stand for
pub record AreSlots (given : Slots) : Type 0 where
  pub places : length given ≡ 16
  pub texts : AreSegmentTexts given

-- the texts that are lent
abbrev pub lent_texts : List (Option (Bor Text)) → Slots
lent_texts = map option_copied

-- every slot of the pattern is set and has its width
abbrev pub CanFill : Pattern → Slots → Type 0
CanFill pattern given = IsSome (segment_texts pattern given)

-- texts at the first of the 16 places, and none at the others
abbrev pub padded : Slots → Slots
padded given = given ++ drop (length given) no_slots

-- the texts that are owned, at the first places
abbrev pub owned_texts : List (Option (String Global)) → Slots
owned_texts own = padded (map (option_map string_bytes) own)
