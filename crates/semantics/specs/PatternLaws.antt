-- Laws on patterns.
use Rattle.std.specs.Prelude.{◌≡◌, ℕ, ◌≤◌, length, true, false, nat_le, Some, MatchOption}
use Rattle.std.specs.List.{list_all}
use Rattle.semantics.specs.Texts.{Text, has_bar}
use Rattle.semantics.specs.Patterns.{Pattern, Slots, text_at, is_segment, is_pattern, Fits, IsPartOf, bind, fits, fill, overlaps}

-- the least slots under which the key fits and of which the given ones are a part
pub record IsLeastFit (p : Pattern) (key : Text) (given found : Slots) : Type 0 where
  pub fits : Fits p key found
  pub keeps : IsPartOf given found
  pub least : (other : Slots) → Fits p key other → IsPartOf given other → IsPartOf found other

-- the key fits under no slots of which the given ones are a part
abbrev pub HasNoFit : Pattern → Text → Slots → Type 0
HasNoFit p key given = (other : Slots) → Fits p key other → IsPartOf given other → ⊥

-- `bind` gives the least slots under which the key fits, and none exactly where there are none
abbrev pub BindIsLeast : Type 0
BindIsLeast = (p : Pattern) (key : Text) (given : Slots) → list_all is_segment p ≡ true → length given ≡ 16 →
    MatchOption (bind p key given) (HasNoFit p key given) (IsLeastFit p key given)

-- a key that fits two patterns shows that they overlap
abbrev pub FitsOverlap : Type 0
FitsOverlap = (p q : Pattern) (key : Text) → fits p key ≡ true → fits q key ≡ true → overlaps p q ≡ true

-- each text is what a segment may be: not empty and without `|`
abbrev pub AreSegmentTexts : Slots → Type 0
AreSegmentTexts given = (place : ℕ) (t : Text) → text_at place given ≡ Some t → (nat_le 1 (length t) ≡ true) × (has_bar t ≡ false)

-- a filled key fits under the slots that it was filled from, and has at most 512 bytes
abbrev pub FillFits : Type 0
FillFits = (p : Pattern) (given : Slots) (key : Text) → is_pattern p ≡ true → AreSegmentTexts given →
    fill p given ≡ Some key → Fits p key given × (length key ≤ 512)

-- a key of at most 512 bytes that fits under slots is what they fill
abbrev pub FitIsFill : Type 0
FitIsFill = (p : Pattern) (given : Slots) (key : Text) → Fits p key given → length key ≤ 512 → fill p given ≡ Some key
