-- The pieces of a range: what it has in common with ranges that are listed, and the gaps between.
use Rattle.std.proofs.Common.{◌≡◌, ℕ, Bool, true, false, cond, filter, not, List, [], ◌∷◌, Option, Result, Ok, Err, IfOk, inl, inr, refl, sym, ap, ◌∙◌, subst}
use Rattle.std.specs.List.{list_all}
use Rattle.std.proofs.lemmas.Bool.{false≢true, and_from, not-true}
use Rattle.semantics.specs.Texts.{Range, Text}
use Rattle.semantics.proofs.MemberLemmas.{Has, has_filtered, has_from_contains, has_mapped, passes_from_all}
use Rattle.key_ranges.specs.Ranges.{common, is_below, is_open, meets}
use Rattle.key_ranges.proofs.OrderLemmas.{is_up_to, up_to_itself, up_to_below, below_up_to, up_to_trans}
use Rattle.key_ranges.proofs.RangeLemmas.{meets_parts}
use Rattle.layering.specs.Parts.{IsWithin}
use Rattle.range_set.specs.declared.piece.Piece.{Piece}
use Rattle.range_set.specs.declared.piece.Piece.TheVariants.{Kept, Gap}
use Rattle.range_set.specs.Joined.{JoinFrom, JoinTo}
use Rattle.range_set.specs.Held.{Held as Ranges, are_apart, is_free}
use Rattle.range_set.specs.Pieces.{are_gaps_apart, gaps_of, IsPartOf, kept_of, parts_within, ranges_of}
use Rattle.range_set.proofs.BoundLemmas.{equal_bounds, not_below_itself}
use Rattle.range_set.proofs.HeldLemmas.{first_apart}
use Rattle.range_set.proofs.JoinedLemmas.{joined_up_to}
use Rattle.range_set.proofs.PieceLemmas.{parts_lie_in_kept}
use Rattle.cell_slots.specs.Places.{AreKept, ArePieces, LiesInPlace}
use Rattle.cell_slots.proofs.PlaceLemmas.{meets_sym}

-- what a call gives are pieces, if it gives any
pub are_pieces : {X E : Type 0} (result : Result X E) (items : X → List (Piece ℕ)) (range : Range) (ranges : Ranges ℕ) → IfOk result (λ v. JoinTo range (ranges_of (items v))) →
    IfOk result (λ v. kept_of (items v) ≡ parts_within range ranges) → IfOk result (λ v. are_gaps_apart (items v) ≡ true) → IfOk result (λ v. list_all (is_free ranges) (gaps_of (items v)) ≡ true) →
    IfOk result (λ v. ArePieces range ranges (items v))
are_pieces (Ok v) items range ranges joins kept whole free = record { joins = joins; kept = kept; whole_gaps = whole; free_gaps = free }
are_pieces (Err e) items range ranges joins kept whole free = tt

-- ---- ranges within ranges

-- a range lies within itself
pub within_itself : (r : Range) → IsWithin r r
within_itself r = record { begins = up_to_itself r.low; ends = up_to_itself r.high }

-- what lies within a part of a range lies within the range
pub within_trans : (r part range : Range) → IsWithin r part → IsWithin part range → IsWithin r range
within_trans r part range inner outer = record { begins = up_to_trans range.low part.low r.low outer.begins inner.begins; ends = up_to_trans r.high part.high range.high inner.ends outer.ends }

-- ---- ranges that are listed

-- ranges that are apart and meet are one
same_entry : (ranges : Ranges ℕ) (e f : Range × ℕ) → are_apart ranges ≡ true → Has ranges e → Has ranges f → meets e.0 f.0 ≡ true → e ≡ f
same_entry [] e f apart he hf m = absurd he
same_entry (g ∷ gs) e f apart (inl p) (inl q) m = sym p ∙ q
same_entry (g ∷ gs) e f apart (inl p) (inr hf) m =
    let behind : is_up_to e.0.high f.0.low ≡ true = subst (λ (x : Range × ℕ). is_up_to x.0.high f.0.low ≡ true) p (passes_from_all (λ (h : Range × ℕ). is_up_to g.0.high h.0.low) gs f (first_apart g gs apart).behind hf) in
    absurd (not_below_itself f.0.low (below_up_to f.0.low e.0.high f.0.low (meets_parts e.0 f.0 m).second_below behind))
same_entry (g ∷ gs) e f apart (inr he) (inl q) m =
    let behind : is_up_to f.0.high e.0.low ≡ true = subst (λ (x : Range × ℕ). is_up_to x.0.high e.0.low ≡ true) q (passes_from_all (λ (h : Range × ℕ). is_up_to g.0.high h.0.low) gs e (first_apart g gs apart).behind he) in
    absurd (not_below_itself e.0.low (below_up_to e.0.low f.0.high e.0.low (meets_parts e.0 f.0 m).first_below behind))
same_entry (g ∷ gs) e f apart (inr he) (inr hf) m = same_entry gs e f (first_apart g gs apart).others he hf m

-- none of them is empty
open_entry : (ranges : Ranges ℕ) (e : Range × ℕ) → are_apart ranges ≡ true → Has ranges e → is_open e.0 ≡ true
open_entry [] e apart h = absurd h
open_entry (g ∷ gs) e apart (inl p) = subst (λ (x : Range × ℕ). is_open x.0 ≡ true) p (first_apart g gs apart).not_empty
open_entry (g ∷ gs) e apart (inr h) = open_entry gs e (first_apart g gs apart).others h

-- ---- a piece that is kept

-- it is what the range has in common with one that is listed
piece_is_part : (range : Range) (ranges : Ranges ℕ) (ps : List (Piece ℕ)) (r : Range) (id : ℕ) → ArePieces range ranges ps → Has (kept_of ps) (r, id) → IsPartOf range ranges (r, id)
piece_is_part range ranges ps r id pieces h = parts_lie_in_kept range ranges (r, id) (subst (λ (l : Ranges ℕ). Has l (r, id)) pieces.kept h)

-- it lies within the place of its cell, where what is listed is kept
pub lies_in_place : {K : Type 0} (keeps : ℕ → Option (K × Range)) (held : K → Ranges ℕ) (at : K) (range : Range) (ps : List (Piece ℕ)) (r : Range) (id : ℕ) → AreKept keeps held → ArePieces range (held at) ps →
    Has (kept_of ps) (r, id) → LiesInPlace keeps id at r
lies_in_place keeps held at range ps r id kept pieces h =
    let p = piece_is_part range (held at) ps r id pieces h in
    record { place = p.whole; kept = kept id at p.whole p.kept; inside = record { begins = p.lies.low; ends = p.lies.high } }

-- what is listed within the range meets it
meets_inside : (place range : Range) → is_open place ≡ true → IsWithin place range → meets place range ≡ true
meets_inside place range not_empty inside =
    let upto : is_below place.low range.high ≡ true = below_up_to place.low place.high range.high not_empty inside.ends in
    let from : is_below range.low place.high ≡ true = up_to_below range.low place.low place.high inside.begins not_empty in
    and_from _ _ (and_from _ _ (and_from _ _ not_empty (up_to_below range.low place.low range.high inside.begins upto)) upto) from

-- the greater of two texts, where the second is up to the first
later_by : (a b : Text) (x : Bool) → is_below a b ≡ x → is_up_to b a ≡ true → cond x b a ≡ a
later_by a b true e h = absurd (not_below_itself a (below_up_to a b a e h))
later_by a b false e h = refl

-- the lesser of two texts, where the first is up to the second
first_by : (a b : Text) (x : Bool) → is_below b a ≡ x → is_up_to a b ≡ true → cond x b a ≡ a
first_by a b true e h = absurd (not_below_itself a (up_to_below a b a h e))
first_by a b false e h = refl

-- the whole of it is what it has in common with the range
common_inside : (place range : Range) → IsWithin place range → common place range ≡ place
common_inside place range inside =
    ap (λ (t : Text). record { low = t; high = (common place range).high }) (later_by place.low range.low (is_below place.low range.low) refl inside.begins)
    ∙ ap (λ (t : Text). record { low = place.low; high = t }) (first_by place.high range.high (is_below range.high place.high) refl inside.ends)

-- so the whole of it is a kept piece
pub inside_is_kept : (ranges : Ranges ℕ) (id : ℕ) (place range : Range) (ps : List (Piece ℕ)) → ArePieces range ranges ps → are_apart ranges ≡ true → Has ranges (place, id) → IsWithin place range → Has (kept_of ps) (place, id)
inside_is_kept ranges id place range ps pieces apart here inside =
    let meet : meets place range ≡ true = meets_inside place range (open_entry ranges (place, id) apart here) inside in
    let part : Has (parts_within range ranges) (common place range, id) =
    has_mapped (λ (e : Range × ℕ). (common e.0 range, e.1)) (filter (λ (e : Range × ℕ). meets e.0 range) ranges) (place, id) (has_filtered (λ (e : Range × ℕ). meets e.0 range) ranges (place, id) meet here) in
    subst (λ (l : Ranges ℕ). Has l (place, id)) (sym pieces.kept) (subst (λ (r : Range). Has (parts_within range ranges) (r, id)) (common_inside place range inside) part)

-- ---- a range within one that is listed

-- pieces join from one bound to the same one only where there are none
no_more : (low high : Text) (ps : List (Piece ℕ)) → low ≡ high → JoinFrom low high (ranges_of ps) → ps ≡ []
no_more low high [] e j = refl
no_more low high (Kept r id ∷ ps) e j = absurd (not_below_itself r.low (below_up_to r.low r.high r.low j.1 (subst (λ (t : Text). is_up_to r.high t ≡ true) (sym (j.0 ∙ e)) (joined_up_to r.high high (ranges_of ps) j.2))))
no_more low high (Gap r ∷ ps) e j = absurd (not_below_itself r.low (below_up_to r.low r.high r.low j.1 (subst (λ (t : Text). is_up_to r.high t ≡ true) (sym (j.0 ∙ e)) (joined_up_to r.high high (ranges_of ps) j.2))))

-- the first piece of a range within a place: not empty, and within the place
pub record StartsWithin (place range r : Range) : Type 0 where
  pub not_empty : is_open r ≡ true
  pub starts : r.low ≡ range.low
  pub ends : is_up_to r.high range.high ≡ true
  pub inside : IsWithin range place

-- it is not apart from what it lies in
meets_first : (place range r whole : Range) → StartsWithin place range r → is_open place ≡ true → is_open whole ≡ true → IsWithin r whole → meets whole place ≡ true
meets_first place range r whole s place_open whole_open inside =
    let from : is_up_to place.low r.low ≡ true = subst (λ (t : Text). is_up_to place.low t ≡ true) (sym s.starts) s.inside.begins in
    let upto : is_up_to r.high place.high ≡ true = up_to_trans r.high range.high place.high s.ends s.inside.ends in
    and_from _ _ (and_from _ _ (and_from _ _ whole_open place_open)
    (up_to_below whole.low r.low place.high inside.begins (below_up_to r.low r.high place.high s.not_empty upto)))
    (up_to_below place.low r.low whole.high from (below_up_to r.low r.high whole.high s.not_empty inside.ends))

-- the lesser of two texts, where the second is up to the first
earlier_by : (a b : Text) (x : Bool) → is_below b a ≡ x → is_up_to b a ≡ true → cond x b a ≡ b
earlier_by a b true e h = refl
earlier_by a b false e h = sym (equal_bounds b a h e)

-- the kept piece at the beginning of a range within a place is the range
first_is_range : (place range r : Range) → StartsWithin place range r → r ≡ common place range → r ≡ range
first_is_range place range r s is =
    let high : r.high ≡ range.high = ap (λ (t : Range). t.high) is ∙ earlier_by place.high range.high (is_below range.high place.high) refl s.inside.ends in
    ap (λ (t : Text). record { low = t; high = r.high }) s.starts ∙ ap (λ (t : Text). record { low = range.low; high = t }) high

whole_by : (ranges : Ranges ℕ) (id : ℕ) (place range : Range) (ps : List (Piece ℕ)) → are_apart ranges ≡ true → Has ranges (place, id) → IsWithin range place → is_open range ≡ true → JoinTo range (ranges_of ps) →
    ((r : Range) (i : ℕ) → Has (kept_of ps) (r, i) → IsPartOf range ranges (r, i)) → ((r : Range) → Has (gaps_of ps) r → is_free ranges r ≡ true) → ps ≡ Kept range id ∷ []
whole_by ranges id place range [] apart here inside not_empty j kept gaps = absurd (not_below_itself range.high (subst (λ (t : Text). is_below t range.high ≡ true) j not_empty))
whole_by ranges id place range (Gap r ∷ ps) apart here inside not_empty j kept gaps =
    let s : StartsWithin place range r = record { not_empty = j.1; starts = j.0; ends = joined_up_to r.high range.high (ranges_of ps) j.2; inside = inside } in
    let free : not (meets place r) ≡ true = passes_from_all (λ (e : Range × ℕ). not (meets e.0 r)) ranges (place, id) (gaps r (inl refl)) here in
    absurd (false≢true (sym (not-true (meets place r) free) ∙ meets_sym r place (meets_first place range r r s (open_entry ranges (place, id) apart here) s.not_empty (within_itself r))))
whole_by ranges id place range (Kept r i ∷ ps) apart here inside not_empty j kept gaps =
    let s : StartsWithin place range r = record { not_empty = j.1; starts = j.0; ends = joined_up_to r.high range.high (ranges_of ps) j.2; inside = inside } in
    let p : IsPartOf range ranges (r, i) = kept r i (inl refl) in
    let there : Has ranges (p.whole, i) = has_from_contains ranges (p.whole, i) p.kept in
    let lies : IsWithin r p.whole = record { begins = p.lies.low; ends = p.lies.high } in
    let one = same_entry ranges (p.whole, i) (place, id) apart there here
    (meets_first place range r p.whole s (open_entry ranges (place, id) apart here) (open_entry ranges (p.whole, i) apart there) lies) in
    let is : r ≡ range = first_is_range place range r s (p.common_part ∙ ap (λ (e : Range × ℕ). common e.0 range) one) in
    let rest : ps ≡ [] = no_more r.high range.high ps (ap (λ (t : Range). t.high) is) j.2 in
    ap (λ (xs : List (Piece ℕ)). Kept r i ∷ xs) rest ∙ ap (λ (t : Range). Kept t i ∷ []) is ∙ ap (λ (e : Range × ℕ). Kept range e.1 ∷ []) one

-- a range that is not empty and lies within one that is listed is one piece, which is kept with the number of that one
pub whole_piece : (ranges : Ranges ℕ) (id : ℕ) (place range : Range) (ps : List (Piece ℕ)) → ArePieces range ranges ps → are_apart ranges ≡ true → Has ranges (place, id) → IsWithin range place → is_open range ≡ true → ps ≡ Kept range id ∷ []
whole_piece ranges id place range ps pieces apart here inside not_empty =
    whole_by ranges id place range ps apart here inside not_empty pieces.joins (λ r i h. piece_is_part range ranges ps r i pieces h) (λ r h. passes_from_all (is_free ranges) (gaps_of ps) r pieces.free_gaps h)

-- ---- a range that meets none that is listed

-- ranges that are listed are apart from a range
abbrev pub AreApartFrom : Range → Ranges ℕ → Type 0
AreApartFrom range ranges = (e : Range × ℕ) → Has ranges e → meets e.0 range ≡ false

-- they are where it is free among them
pub apart_from_free : (range : Range) (ranges : Ranges ℕ) → is_free ranges range ≡ true → AreApartFrom range ranges
apart_from_free range ranges free e h = not-true (meets e.0 range) (passes_from_all (λ (f : Range × ℕ). not (meets f.0 range)) ranges e free h)

no_part : (range : Range) (ranges : Ranges ℕ) (part : Range × ℕ) → AreApartFrom range ranges → IsPartOf range ranges part → ⊥
no_part range ranges part apart p = false≢true (sym (apart (p.whole, part.1) (has_from_contains ranges (p.whole, part.1) p.kept)) ∙ p.meets_range)

gap_by : (ranges : Ranges ℕ) (range : Range) (ps : List (Piece ℕ)) → AreApartFrom range ranges → is_open range ≡ true → JoinTo range (ranges_of ps) → ((r : Range) (i : ℕ) → Has (kept_of ps) (r, i) → IsPartOf range ranges (r, i)) →
    are_gaps_apart ps ≡ true → ps ≡ Gap range ∷ []
gap_by ranges range [] apart not_empty j kept gaps = absurd (not_below_itself range.high (subst (λ (t : Text). is_below t range.high ≡ true) j not_empty))
gap_by ranges range (Kept r i ∷ ps) apart not_empty j kept gaps = absurd (no_part range ranges (r, i) apart (kept r i (inl refl)))
gap_by ranges range (Gap r ∷ []) apart not_empty j kept gaps = ap (λ (t : Range). Gap t ∷ []) (ap (λ (t : Text). record { low = t; high = r.high }) j.0 ∙ ap (λ (t : Text). record { low = range.low; high = t }) j.2)
gap_by ranges range (Gap r ∷ Gap s ∷ ps) apart not_empty j kept gaps = absurd (false≢true gaps)
gap_by ranges range (Gap r ∷ Kept s i ∷ ps) apart not_empty j kept gaps = absurd (no_part range ranges (s, i) apart (kept s i (inl refl)))

-- a range that is not empty and is apart from those that are listed is one piece, which is a gap
pub gap_piece : (ranges : Ranges ℕ) (range : Range) (ps : List (Piece ℕ)) → ArePieces range ranges ps → AreApartFrom range ranges → is_open range ≡ true → ps ≡ Gap range ∷ []
gap_piece ranges range ps pieces apart not_empty = gap_by ranges range ps apart not_empty pieces.joins (λ r i h. piece_is_part range ranges ps r i pieces h) pieces.whole_gaps
