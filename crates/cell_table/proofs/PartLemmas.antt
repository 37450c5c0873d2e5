-- The parts of a range, from its pieces.
use Rattle.std.proofs.Common.{◌≡◌, ℕ, true, List, [], ◌∷◌, map, Contains, Option, Some, None, inl, inr, sym, ap, ◌∙◌, subst}
use Rattle.std.proofs.lemmas.Option.{none-some, same_Some}
use Rattle.semantics.specs.Texts.{Range, Text}
use Rattle.semantics.proofs.MemberLemmas.{Has, contains_from_has, has_from_contains, passes_from_all}
use Rattle.key_ranges.specs.Ranges.{is_open}
use Rattle.layering.specs.Parts.{JoinUpTo}
use Rattle.range_set.specs.declared.piece.Piece.{Piece}
use Rattle.range_set.specs.declared.piece.Piece.TheVariants.{Kept, Gap}
use Rattle.range_set.specs.Joined.{JoinFrom}
use Rattle.range_set.specs.Held.{are_apart, is_free}
use Rattle.range_set.specs.Pieces.{gaps_of, kept_of, ranges_of}
use Rattle.cell_slots.specs.declared.slot.Slot.{Slot}
use Rattle.cell_slots.specs.declared.slot.Part.{Part}
use Rattle.cell_slots.specs.Places.{ArePieces, LiesInPlace, ServeKept}
use Rattle.cell_slots.specs.Slots.{MeetsNone, place_at}
use Rattle.cell_slots.specs.Spending.{one_gap, one_part}
use Rattle.cell_slots.proofs.PieceLemmas.{apart_from_free, gap_piece, inside_is_kept, lies_in_place, whole_piece}
use Rattle.cell_table.specs.Places.{Places, held_at}
use Rattle.cell_table.specs.Stores.{AreDirected, IsGap, part_of}
use Rattle.cell_table.proofs.DirectedLemmas.{listed_has, listed_keeps}

-- a part by its range and its cell
abbrev pub part : Range → Option ℕ → Part
part range cell = record { range = range; cell = cell }

-- parts of pieces that join are as far as these
pub join_parts : (low high : Text) (ps : List (Piece ℕ)) → JoinFrom low high (ranges_of ps) → JoinUpTo low high (map (λ (p : Part). p.range) (map part_of ps))
join_parts low high [] j = j
join_parts low high (Kept r id ∷ ps) j = (j.0, j.1, join_parts r.high high ps j.2)
join_parts low high (Gap r ∷ ps) j = (j.0, j.1, join_parts r.high high ps j.2)

-- ---- a part that a cell holds

-- a part with a cell comes from a kept piece
has_kept_piece : (ps : List (Piece ℕ)) (r : Range) (id : ℕ) → Has (map part_of ps) (part r (Some id)) → Has (kept_of ps) (r, id)
has_kept_piece [] r id h = absurd h
has_kept_piece (Kept s i ∷ ps) r id (inl e) = inl (ap (λ (t : Range). (t, i)) (ap (λ (p : Part). p.range) e) ∙ ap (λ (k : ℕ). (r, k)) (same_Some i id (ap (λ (p : Part). p.cell) e)))
has_kept_piece (Kept s i ∷ ps) r id (inr h) = inr (has_kept_piece ps r id h)
has_kept_piece (Gap s ∷ ps) r id (inl e) = absurd (none-some id (ap (λ (p : Part). p.cell) e))
has_kept_piece (Gap s ∷ ps) r id (inr h) = has_kept_piece ps r id h

-- a part with a cell lies within the place of the cell
pub lies_from_kept : (slots : List Slot) (places : Places) (at : ℕ) (range : Range) (ps : List (Piece ℕ)) (r : Range) (id : ℕ) → AreDirected slots places → ArePieces range (held_at places at) ps →
    Contains (map part_of ps) (part r (Some id)) → LiesInPlace (place_at slots) id at r
lies_from_kept slots places at range ps r id d pieces h =
    lies_in_place (place_at slots) (held_at places) at range ps r id d.kept pieces (has_kept_piece ps r id (has_from_contains (map part_of ps) (part r (Some id)) h))

-- a kept piece gives a part with its cell
kept_part : (ps : List (Piece ℕ)) (r : Range) (id : ℕ) → Has (kept_of ps) (r, id) → Has (map part_of ps) (part r (Some id))
kept_part [] r id h = absurd h
kept_part (Kept s i ∷ ps) r id (inl e) = inl (ap (λ (k : Range × ℕ). part k.0 (Some k.1)) e)
kept_part (Kept s i ∷ ps) r id (inr h) = inr (kept_part ps r id h)
kept_part (Gap s ∷ ps) r id h = inr (kept_part ps r id h)

-- so each place within the range is a part, whole
pub serve_kept : (slots : List Slot) (places : Places) (at : ℕ) (range : Range) (ps : List (Piece ℕ)) → AreDirected slots places → ArePieces range (held_at places at) ps → are_apart (held_at places at) ≡ true →
    ServeKept (place_at slots) at range (map part_of ps)
serve_kept slots places at range ps d pieces apart = λ id place keeps inside.
    contains_from_has (map part_of ps) (part place (Some id)) (kept_part ps place id (inside_is_kept (held_at places at) id place range ps pieces apart (listed_has slots places id at place d keeps) inside))

-- ---- a gap

-- a part with no cell comes from a gap
has_gap_piece : (ps : List (Piece ℕ)) (r : Range) → Has (map part_of ps) (part r None) → Has (gaps_of ps) r
has_gap_piece [] r h = absurd h
has_gap_piece (Kept s i ∷ ps) r (inl e) = absurd (none-some i (sym (ap (λ (p : Part). p.cell) e)))
has_gap_piece (Kept s i ∷ ps) r (inr h) = has_gap_piece ps r h
has_gap_piece (Gap s ∷ ps) r (inl e) = inl (ap (λ (p : Part). p.range) e)
has_gap_piece (Gap s ∷ ps) r (inr h) = inr (has_gap_piece ps r h)

-- a gap is not empty
open_gap : (low high : Text) (ps : List (Piece ℕ)) (r : Range) → JoinFrom low high (ranges_of ps) → Has (gaps_of ps) r → is_open r ≡ true
open_gap low high [] r j h = absurd h
open_gap low high (Kept s i ∷ ps) r j h = open_gap s.high high ps r j.2 h
open_gap low high (Gap s ∷ ps) r j (inl e) = subst (λ (t : Range). is_open t ≡ true) e j.1
open_gap low high (Gap s ∷ ps) r j (inr h) = open_gap s.high high ps r j.2 h

gap_by : (slots : List Slot) (places : Places) (at : ℕ) (range : Range) (ps : List (Piece ℕ)) (r : Range) → AreDirected slots places → ArePieces range (held_at places at) ps → Has (gaps_of ps) r → IsGap slots at r
gap_by slots places at range ps r d pieces h = record {
  not_empty = open_gap range.low range.high ps r pieces.joins h;
  apart = λ id place keeps. apart_from_free r (held_at places at) (passes_from_all (is_free (held_at places at)) (gaps_of ps) r pieces.free_gaps h) (place, id) (listed_has slots places id at place d keeps);
}

-- a part with no cell is a gap
pub gap_from_free : (slots : List Slot) (places : Places) (at : ℕ) (range : Range) (ps : List (Piece ℕ)) (r : Range) → AreDirected slots places → ArePieces range (held_at places at) ps → Contains (map part_of ps) (part r None) → IsGap slots at r
gap_from_free slots places at range ps r d pieces h = gap_by slots places at range ps r d pieces (has_gap_piece ps r (has_from_contains (map part_of ps) (part r None) h))

-- ---- a range in one part

-- a range that is not empty and lies within a place is one part, with the cell of the place
pub whole_part : (slots : List Slot) (places : Places) (id at : ℕ) (range : Range) (ps : List (Piece ℕ)) → AreDirected slots places → ArePieces range (held_at places at) ps → are_apart (held_at places at) ≡ true → is_open range ≡ true →
    LiesInPlace (place_at slots) id at range → map part_of ps ≡ one_part range id
whole_part slots places id at range ps d pieces apart not_empty lies =
    ap (map part_of) (whole_piece (held_at places at) id lies.place range ps pieces apart (listed_has slots places id at lies.place d lies.kept) lies.inside not_empty)

-- a range that is not empty and meets no place is one gap
pub lone_gap : (slots : List Slot) (places : Places) (at : ℕ) (range : Range) (ps : List (Piece ℕ)) → AreDirected slots places → ArePieces range (held_at places at) ps → is_open range ≡ true → MeetsNone slots at range → map part_of ps ≡ one_gap range
lone_gap slots places at range ps d pieces not_empty none = ap (map part_of) (gap_piece (held_at places at) range ps pieces (λ e h. none e.1 e.0 (listed_keeps slots places at e d h)) not_empty)
