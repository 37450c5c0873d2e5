-- Laws on kept ranges over histories that grow, and on their notes.
use Rattle.std.specs.Prelude.{◌≡◌, ◌↔◌, ℕ, ◌≤◌, List, ◌++◌, [], map, length, take, true, Contains, Some}
use Rattle.std.specs.List.{AllByRecursion}
use Rattle.semantics.specs.Texts.{Text, is_range, within}
use Rattle.semantics.specs.Patterns.{Pattern, Slots}
use Rattle.semantics.specs.Joins.{copy, is_aggregate, value_operator}
use Rattle.semantics.specs.Histories.{History, IsPrefix, joins_of}
use Rattle.semantics.specs.States.{below}
use Rattle.growing_history.specs.Entered.{HasEntered, HasRank}
use Rattle.growing_history.specs.Changes.{Same}
use Rattle.range_evaluation.specs.Trees.{Need}
use Rattle.agg_rows.specs.Kept.{Groups, pairs_of}
use Rattle.kept_ranges.specs.Kept.{Kept}
use Rattle.kept_ranges.specs.Rules.{Touch, Application, touches, applications, IsFilled, IsAdvanced, IsMended}
use Rattle.kept_ranges.specs.Notes.{Mark, key, slots, Note, Notes, is_noted, AreInOrder, noted}
use Rattle.kept_ranges.specs.Listing.{AreListed}
use Rattle.kept_ranges.specs.ListingLaws.{IsRelisted}
use Rattle.kept_ranges.specs.Sound.{KeptRange, IsSoundAt, IsSound}

-- ---- notes

-- adding notes that are made at one position, from which none was made later, keeps them in order, and their start does not fall
abbrev pub NotedInOrder : Type 0
NotedInOrder = (q p : ℕ) (notes : Notes) (added : List Note) → q ≤ p → AreInOrder notes.start q notes.list → AllByRecursion (λ note. note.position ≡ p) added →
    (notes.start ≤ (noted notes added).start) × AreInOrder (noted notes added).start p (noted notes added).list

-- a note that was made after the position at which the notes start afterwards is kept
abbrev pub NotedKeepsLater : Type 0
NotedKeepsLater = (q p u : ℕ) (notes : Notes) (added : List Note) (output : Pattern) (k : Text) → q ≤ p → AreInOrder notes.start q notes.list → AllByRecursion (λ note. note.position ≡ p) added →
    (noted notes added).start ≤ u → is_noted output u (noted notes added).list k ≡ is_noted output u (notes.list ++ added) k

-- ---- histories

-- what is right for a history is right for each longer one
abbrev pub SoundOverLonger : Type 0
SoundOverLonger = (s : KeptRange) (h more : History) → IsPrefix h more → IsSound s h → IsSound s more

-- notes that are made at a position, of these marks and of no others
pub record MakesNotes (p : ℕ) (is_mark : Mark → Type 0) (added : List Note) : Type 0 where
  pub made : AllByRecursion (λ note. note.position ≡ p) added
  pub marks : (mark : Mark) → Contains (map (λ note. note.mark) added) mark ↔ is_mark mark

-- the marks of an advance: the slots that are touched and the output keys that are applied
abbrev pub IsAdvanceMark : List Touch → List Application → Mark → Type 0
IsAdvanceMark touched applying (key k) = Contains (map (λ a. a.output) applying) k
IsAdvanceMark touched applying (slots s) = Contains (map (λ touch. touch.slots) touched) s

-- the mark of a mend: the slots that are pending no more
abbrev pub IsMendMark : Slots → Mark → Type 0
IsMendMark mended (key k) = ⊥
IsMendMark mended (slots s) = s ≡ mended

-- at each key of a need's range that is not reported the same stands below the rank at all positions from q to p
abbrev pub AreReportedBetween : History → ℕ → ℕ → ℕ → List Need → List Text → Type 0
AreReportedBetween h q p rank needs reported = AllByRecursion (λ need. (k : Text) → within need.range k ≡ true → (Contains reported k → ⊥) → Same h q p rank k) needs

-- the range is a range, and its join stands with its rank at the position of a history whose entries entered
pub record CanStand (s : KeptRange) (h : History) (p : ℕ) : Type 0 where
  pub is_range : is_range s.range.low s.range.high ≡ true
  pub entered : HasEntered h
  pub place : p ≤ length h
  pub stands : HasRank (joins_of (take p h)) s.join s.rank

-- a range that is filled at a position is right there; for an aggregate, where what is listed is listed
abbrev pub FilledIsSound : Type 0
FilledIsSound = (s : KeptRange) (kept : Kept) (groups : Groups) (h : History) (p : ℕ) → CanStand s h p → IsFilled s.join s.range (below (take p h) s.rank) kept →
    (is_aggregate (value_operator s.join) ≡ true → AreListed s.join s.range (below (take p h) s.rank) (λ k. pairs_of k groups)) →
    IsSoundAt (record s { position = Some p; kept = kept; groups = groups; notes = record { start = p; list = [] } }) h p

-- a range of a copy join that is advanced is right at the later position
abbrev pub AdvancedIsSound : Type 0
AdvancedIsSound = (s : KeptRange) (kept : Kept) (reported : List Text) (added : List Note) (h : History) (q p : ℕ) → CanStand s h p → q ≤ p → value_operator s.join ≡ copy →
    IsSoundAt s h q → AreReportedBetween h q p s.rank s.kept.needs reported → IsAdvanced s.join s.range reported (below (take p h) s.rank) s.kept kept →
    MakesNotes p (IsAdvanceMark (touches s.join reported s.kept.needs) (applications s.join s.range kept.pending reported kept.needs)) added →
    IsSoundAt (record s { position = Some p; kept = kept; notes = noted s.notes added }) h p

-- and so is one of an aggregate
abbrev pub RelistedIsSound : Type 0
RelistedIsSound = (s : KeptRange) (kept : Kept) (groups : Groups) (reported : List Text) (added : List Note) (h : History) (q p : ℕ) → CanStand s h p → q ≤ p → is_aggregate (value_operator s.join) ≡ true →
    IsSoundAt s h q → AreReportedBetween h q p s.rank s.kept.needs reported →
    IsRelisted s.join s.range reported (below (take p h) s.rank) s.kept kept (λ k. pairs_of k s.groups) (λ k. pairs_of k groups) →
    MakesNotes p (IsAdvanceMark [] (applications s.join s.range s.kept.pending reported s.kept.needs)) added →
    IsSoundAt (record s { position = Some p; kept = kept; groups = groups; notes = noted s.notes added }) h p

-- a range of a copy join of which pending slots are mended is right where it stands
abbrev pub MendedIsSound : Type 0
MendedIsSound = (s : KeptRange) (kept : Kept) (mended : Slots) (added : List Note) (h : History) (q : ℕ) → CanStand s h q → value_operator s.join ≡ copy →
    IsSoundAt s h q → Contains s.kept.pending mended → IsMended s.join s.range (below (take q h) s.rank) mended s.kept kept → MakesNotes q (IsMendMark mended) added →
    IsSoundAt (record s { kept = kept; notes = noted s.notes added }) h q
