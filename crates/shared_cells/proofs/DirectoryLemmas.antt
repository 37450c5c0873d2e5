-- What a directory of cells keeps, as cells are given and taken out, and the parts that it makes of pieces.
use Rattle.std.proofs.Common.{◌≡◌, ℕ, Bool, true, false, cond, List, [], ◌∷◌, ◌++◌, length, map, slice_get, slice_set, Contains, Option, Some, None, IfSome, MatchOption, option_map, Result, Ok, Err, IfOk, OnErr, ◌⊎◌, inl, inr, refl, sym, ap, ◌∙◌, subst}
use Rattle.std.specs.List.{AllZip, list_all}
use Rattle.std.specs.Option.{option_and_then}
use Rattle.std.proofs.lemmas.Bool.{cases_eq}
use Rattle.std.proofs.lemmas.List.{length-set}
use Rattle.std.proofs.lemmas.Option.{IfSome_then, none-some, same_Some, slice_get_within}
use Rattle.semantics.specs.Texts.{Range}
use Rattle.semantics.proofs.MemberLemmas.{Has, contains_from_has, has_append_right, has_from_contains, has_mapped, passes_from_all}
use Rattle.layering.specs.Parts.{IsWithin, JoinTo as JoinParts}
use Rattle.range_set.specs.declared.piece.Piece.{Piece}
use Rattle.range_set.specs.declared.piece.Piece.TheVariants.{Kept, Gap}
use Rattle.range_set.specs.Joined.{JoinTo, LiesIn}
use Rattle.range_set.specs.Held.{Held as Ranges, is_free}
use Rattle.range_set.specs.Pieces.{gaps_of, kept_of, range_of, ranges_of}
use Rattle.range_set.proofs.JoinedLemmas.{joined_lie_in}
use Rattle.cell_slots.specs.declared.slot.Part.{Part}
use Rattle.cell_slots.specs.Places.{KeepsPlace, LiesInPlace}
use Rattle.cell_slots.specs.Spending.{one_part}
use Rattle.cell_slots.proofs.FrameLemmas.{get-set_other, get-set_same}
use Rattle.cell_slots.proofs.PieceLemmas.{within_itself, within_trans}
use Rattle.cell_slots.proofs.PlaceLemmas.{kept_left, kept_same, kept_taken, occupied_by_set, place_from_slot, vacated_by_set}
use Rattle.shared_cells.specs.declared.followed.Followed.{Followed}
use Rattle.shared_cells.specs.declared.ranked_join.RankedJoin.{RankedJoin}
use Rattle.shared_cells.specs.Spots.{SpotView, taken, leaving, number_at, place_at, place_of, free}
use Rattle.shared_cells.specs.Listings.{has_join, Listed, ListsFollowed, listed_at}
use Rattle.shared_cells.specs.Directories.{DirectoryView, GivesCell, GivesParts, IsDirectory, IsForPart, IsGiven, IsLetGo, IsMadeOf, IsSame, NoneIsLetGo, directory_of}
use Rattle.shared_cells.proofs.ListingLemmas.{alike, listed_instead}
use Rattle.shared_cells.proofs.PartLemmas.{join_up_to}

-- ---- what is listed is kept

-- where nothing is listed
pub none_kept : (spots : List SpotView) → IsDirectory spots []
none_kept spots id at range h = absurd (has_from_contains [] (range, id) h)

kept_if : (t : Bool) (ranges : Ranges ℕ) (e : Range × ℕ) → Contains (cond t ranges []) e → Contains ranges e
kept_if true ranges e h = h
kept_if false ranges e h = absurd (has_from_contains [] e h)

-- where joins that are not followed have no ranges any more
pub followed_kept : (followed : Followed) (spots : List SpotView) (listed new_listed : Listed) → ListsFollowed followed listed new_listed → IsDirectory spots listed → IsDirectory spots new_listed
followed_kept followed spots listed new_listed lists kept id at range h =
    kept id at range (kept_if (has_join followed at) (listed_at listed at) (range, id) (subst (λ (ranges : Ranges ℕ). Contains ranges (range, id)) (lists at) h))

-- where nothing changes
same_kept : (spots new_spots : List SpotView) (listed new_listed : Listed) → IsSame (directory_of spots listed) (directory_of new_spots new_listed) → IsDirectory spots listed → IsDirectory new_spots new_listed
same_kept spots new_spots listed new_listed same kept =
    subst (λ (after : List SpotView). IsDirectory after new_listed) (sym same.spots) (kept_same (place_at spots) (listed_at listed) (listed_at new_listed) same.listed kept)

one_kept : (join : RankedJoin) (range : Range) (id : ℕ) (spots new_spots : List SpotView) (listed new_listed : Listed) → IsGiven join range id (directory_of spots listed) (directory_of new_spots new_listed) →
    IsDirectory spots listed → IsDirectory new_spots new_listed
one_kept join range id spots new_spots listed new_listed given kept =
    subst (λ (after : List SpotView). IsDirectory after new_listed) (sym given.stands)
    (kept_taken alike (place_at spots) (place_at (slice_set spots id (taken join range))) (listed_at listed) (listed_at new_listed) id join range kept
    (occupied_by_set place_of spots id join range free (taken join range) given.was refl refl) (listed_instead join range id listed new_listed given.listed))

-- where a range is given a cell, or is not
pub given_kept : {E : Type 0} (result : Result (Option ℕ) E) (join : RankedJoin) (range : Range) (spots new_spots : List SpotView) (listed new_listed : Listed) →
    IfOk result (GivesCell join range (directory_of spots listed) (directory_of new_spots new_listed)) → OnErr result (IsSame (directory_of spots listed) (directory_of new_spots new_listed)) →
    IsDirectory spots listed → IsDirectory new_spots new_listed
given_kept (Ok None) join range spots new_spots listed new_listed given err kept = same_kept spots new_spots listed new_listed given kept
given_kept (Ok (Some id)) join range spots new_spots listed new_listed given err kept = one_kept join range id spots new_spots listed new_listed given kept
given_kept (Err e) join range spots new_spots listed new_listed given err kept = same_kept spots new_spots listed new_listed err kept

-- where a cell is taken out, or none is
pub out_kept : {C : Type 0} (result : Option C) (id : ℕ) (spots new_spots : List SpotView) (listed new_listed : Listed) →
    MatchOption result (NoneIsLetGo id (directory_of spots listed) (directory_of new_spots new_listed)) (λ _. IsLetGo id (directory_of spots listed) (directory_of new_spots new_listed)) →
    IsDirectory spots listed → IsDirectory new_spots new_listed
out_kept None id spots new_spots listed new_listed out kept = subst (λ (d : DirectoryView). IsDirectory d.spots d.listed) (sym out.same) kept
out_kept (Some cell) id spots new_spots listed new_listed out kept =
    subst (λ (after : List SpotView). IsDirectory after new_listed) (sym out.stands)
    (kept_left alike (place_at spots) (place_at (slice_set spots id leaving)) (listed_at listed) (listed_at new_listed) id out.join out.range kept
    (place_from_slot place_of spots id (taken out.join out.range) out.was) (vacated_by_set place_of spots id (taken out.join out.range) leaving out.was refl) out.listed)

-- ---- the number of a cell that keeps a place

-- it is found at the number
pub kept_number : (spots : List SpotView) (id : ℕ) (at : RankedJoin) (place : Range) → KeepsPlace (place_at spots) id at place → number_at spots id ≡ Some id
kept_number spots id at place kept = ap (option_map (λ _. id)) kept

-- a cell that was given to a range keeps it
given_keeps : (join : RankedJoin) (range : Range) (id : ℕ) (before after : DirectoryView) → IsGiven join range id before after → KeepsPlace (place_at after.spots) id join range
given_keeps join range id before after given = place_from_slot place_of after.spots id (taken join range)
    (ap (λ (l : List SpotView). slice_get l id) given.stands ∙ get-set_same before.spots id (taken join range) (slice_get_within before.spots id free given.was))

-- so what is found at the number, once nothing else has changed, keeps it
pub given_number : (join : RankedJoin) (range : Range) (id : ℕ) (before between after : DirectoryView) (found : Option ℕ) → IsGiven join range id before between → after ≡ between → found ≡ number_at after.spots id →
    IfSome found (λ q. KeepsPlace (place_at after.spots) q join range)
given_number join range id before between after found given still is =
    let keeps : KeepsPlace (place_at after.spots) id join range = subst (λ (d : DirectoryView). KeepsPlace (place_at d.spots) id join range) (sym still) (given_keeps join range id before between given) in
    subst (λ (o : Option ℕ). IfSome o (λ q. KeepsPlace (place_at after.spots) q join range)) (sym (is ∙ kept_number after.spots id join range keeps)) keeps

-- ---- giving cells to parts of a range

-- a directory that is the same
pub same_directory : (before after : DirectoryView) → after ≡ before → IsSame before after
same_directory before after same = record { spots = ap (λ (d : DirectoryView). d.spots) same; listed = λ at. ap (λ (d : DirectoryView). listed_at d.listed at) same }

-- none is given one
pub parts_same : (join : RankedJoin) (range : Range) (before after : DirectoryView) → IsSame before after → GivesParts join range before after
parts_same join range before after same = record {
  same_count = ap length same.spots;
  each = λ id. inl (ap (λ (l : List SpotView). slice_get l id) same.spots);
  others = λ other apart. same.listed other;
}

whole_by : (join : RankedJoin) (range : Range) (id : ℕ) (before after : DirectoryView) → IsGiven join range id before after → (q : ℕ) → (q ≡ id) ⊎ (q ≡ id → ⊥) →
    (slice_get after.spots q ≡ slice_get before.spots q) ⊎ IsForPart join range q before.spots after.spots
whole_by join range id before after given q (inl e) = inr (subst (λ (n : ℕ). IsForPart join range n before.spots after.spots) (sym e) (record {
  part = range;
  inside = within_itself range;
  was = given.was;
  stands = ap (λ (l : List SpotView). slice_get l id) given.stands ∙ get-set_same before.spots id (taken join range) (slice_get_within before.spots id free given.was);
}))
whole_by join range id before after given q (inr apart) = inl (ap (λ (l : List SpotView). slice_get l q) given.stands ∙ get-set_other before.spots id q (taken join range) apart)

-- the whole range is given one, or it is not
pub parts_given : (join : RankedJoin) (range : Range) (before after : DirectoryView) (found : Option ℕ) → GivesCell join range before after found → GivesParts join range before after
parts_given join range before after None same = parts_same join range before after same
parts_given join range before after (Some id) given = record {
  same_count = ap length given.stands ∙ length-set before.spots id (taken join range);
  each = λ q. whole_by join range id before after given q (cases_eq q id);
  others = given.listed.others;
}

wider_by : (join : RankedJoin) (part range : Range) (id : ℕ) (before after : List SpotView) → IsWithin part range → (slice_get after id ≡ slice_get before id) ⊎ IsForPart join part id before after →
    (slice_get after id ≡ slice_get before id) ⊎ IsForPart join range id before after
wider_by join part range id before after inside (inl same) = inl same
wider_by join part range id before after inside (inr p) = inr (record { part = p.part; inside = within_trans p.part part range p.inside inside; was = p.was; stands = p.stands })

-- parts of a part of a range are parts of the range
pub parts_wider : (join : RankedJoin) (part range : Range) (before after : DirectoryView) → IsWithin part range → GivesParts join part before after → GivesParts join range before after
parts_wider join part range before after inside given = record {
  same_count = given.same_count;
  each = λ id. wider_by join part range id before.spots after.spots inside (given.each id);
  others = given.others;
}

later_by : (join : RankedJoin) (range : Range) (id : ℕ) (a b c : List SpotView) → (slice_get b id ≡ slice_get a id) ⊎ IsForPart join range id a b → (slice_get c id ≡ slice_get b id) ⊎ IsForPart join range id b c →
    (slice_get c id ≡ slice_get a id) ⊎ IsForPart join range id a c
later_by join range id a b c (inl same) (inl still) = inl (still ∙ same)
later_by join range id a b c (inl same) (inr q) = inr (record { part = q.part; inside = q.inside; was = sym same ∙ q.was; stands = q.stands })
later_by join range id a b c (inr p) (inl still) = inr (record { part = p.part; inside = p.inside; was = p.was; stands = still ∙ p.stands })
later_by join range id a b c (inr p) (inr q) = absurd (none-some (join, p.part) (ap (option_and_then place_of) (sym q.was ∙ p.stands)))

-- one part after another
pub parts_later : (join : RankedJoin) (range : Range) (a b c : DirectoryView) → GivesParts join range a b → GivesParts join range b c → GivesParts join range a c
parts_later join range a b c first next = record {
  same_count = next.same_count ∙ first.same_count;
  each = λ id. later_by join range id a.spots b.spots c.spots (first.each id) (next.each id);
  others = λ other apart. next.others other apart ∙ first.others other apart;
}

stays_by : (join : RankedJoin) (range : Range) (before after : List SpotView) (id : ℕ) (at : RankedJoin) (place : Range) → (slice_get after id ≡ slice_get before id) ⊎ IsForPart join range id before after →
    KeepsPlace (place_at before) id at place → KeepsPlace (place_at after) id at place
stays_by join range before after id at place (inl same) kept = ap (option_and_then place_of) same ∙ kept
stays_by join range before after id at place (inr p) kept = absurd (none-some (at, place) (sym (ap (option_and_then place_of) p.was) ∙ kept))

-- a place that is kept is kept on
place_stays : (join : RankedJoin) (range : Range) (before after : DirectoryView) (id : ℕ) (at : RankedJoin) (place : Range) → GivesParts join range before after →
    KeepsPlace (place_at before.spots) id at place → KeepsPlace (place_at after.spots) id at place
place_stays join range before after id at place given kept = stays_by join range before.spots after.spots id at place (given.each id) kept

-- and what lies in one lies in it on
lies_on : (join : RankedJoin) (range : Range) (before after : DirectoryView) (id : ℕ) (at : RankedJoin) (part : Range) → GivesParts join range before after →
    LiesInPlace (place_at before.spots) id at part → LiesInPlace (place_at after.spots) id at part
lies_on join range before after id at part given lies = record { place = lies.place; kept = place_stays join range before after id at lies.place given lies.kept; inside = lies.inside }

-- ---- one piece

-- the range of a part of a piece is the piece's
part_range : (join : RankedJoin) (spots : List SpotView) (piece : Piece ℕ) (part : Part) → IsMadeOf join spots piece part → part.range ≡ range_of piece
part_range join spots (Kept range id) part made = made.0
part_range join spots (Gap range) part made = made.0

-- a part of a piece stays one
made_on : (join : RankedJoin) (range : Range) (before after : DirectoryView) (piece : Piece ℕ) (part : Part) → GivesParts join range before after → IsMadeOf join before.spots piece part → IsMadeOf join after.spots piece part
made_on join range before after (Kept r id) part given made = made
made_on join range before after (Gap r) part given made = (made.0, IfSome_then part.cell made.1 (λ id kept. place_stays join range before after id join r given kept))

-- ---- one piece after another

-- items, each of which is seen as a part, are parts of pieces, each of one
abbrev pub AreMade : {X : Type 0} → (X → Part) → RankedJoin → List SpotView → List (Piece ℕ) → List X → Type 0
AreMade seen join spots pieces items = AllZip (λ piece x. IsMadeOf join spots piece (seen x)) pieces items

made_more : {X : Type 0} (seen : X → Part) (join : RankedJoin) (range : Range) (before after : DirectoryView) (pieces : List (Piece ℕ)) (items : List X) (piece : Piece ℕ) (x : X) → GivesParts join range before after →
    AreMade seen join before.spots pieces items → IsMadeOf join after.spots piece (seen x) → AreMade seen join after.spots (pieces ++ piece ∷ []) (items ++ x ∷ [])
made_more seen join range before after [] [] piece x given made one = (one, tt)
made_more seen join range before after [] (y ∷ ys) piece x given made one = absurd made
made_more seen join range before after (p ∷ ps) [] piece x given made one = absurd made
made_more seen join range before after (p ∷ ps) (y ∷ ys) piece x given made one = (made_on join range before after p (seen y) given made.0, made_more seen join range before after ps ys piece x given made.1 one)

-- the ranges of the parts are those of the pieces
made_ranges : {X : Type 0} (seen : X → Part) (join : RankedJoin) (spots : List SpotView) (pieces : List (Piece ℕ)) (items : List X) → AreMade seen join spots pieces items → map (λ x. (seen x).range) items ≡ ranges_of pieces
made_ranges seen join spots [] [] made = refl
made_ranges seen join spots [] (y ∷ ys) made = absurd made
made_ranges seen join spots (p ∷ ps) [] made = absurd made
made_ranges seen join spots (p ∷ ps) (y ∷ ys) made =
    let first = part_range join spots p (seen y) made.0 in
    let others = made_ranges seen join spots ps ys made.1 in
    (λ i. first i ∷ others i)

-- a part with a cell lies within the place that this keeps, where kept pieces do
made_kept : {X : Type 0} (seen : X → Part) (join : RankedJoin) (spots : List SpotView) (pieces : List (Piece ℕ)) (items : List X) → AreMade seen join spots pieces items →
    ((id : ℕ) (part : Range) → Has (kept_of pieces) (part, id) → LiesInPlace (place_at spots) id join part) →
    (id : ℕ) (part : Range) → Has (map seen items) (record { range = part; cell = Some id }) → LiesInPlace (place_at spots) id join part
made_kept seen join spots [] [] made lies id part h = absurd h
made_kept seen join spots [] (y ∷ ys) made lies id part h = absurd made
made_kept seen join spots (p ∷ ps) [] made lies id part h = absurd made
made_kept seen join spots (Kept r i ∷ ps) (y ∷ ys) made lies id part (inl e) =
    let same : i ≡ id = same_Some i id (sym made.0.1 ∙ ap (λ (q : Part). q.cell) e) in
    subst (λ (n : ℕ). LiesInPlace (place_at spots) n join part) same (subst (λ (t : Range). LiesInPlace (place_at spots) i join t) (sym made.0.0 ∙ ap (λ (q : Part). q.range) e) (lies i r (inl refl)))
made_kept seen join spots (Kept r i ∷ ps) (y ∷ ys) made lies id part (inr h) = made_kept seen join spots ps ys made.1 (λ n t k. lies n t (inr k)) id part h
made_kept seen join spots (Gap r ∷ ps) (y ∷ ys) made lies id part (inl e) = record {
  place = r;
  kept = subst (λ (o : Option ℕ). IfSome o (λ n. KeepsPlace (place_at spots) n join r)) (ap (λ (q : Part). q.cell) e) made.0.1;
  inside = subst (λ (t : Range). IsWithin t r) (sym made.0.0 ∙ ap (λ (q : Part). q.range) e) (within_itself r);
}
made_kept seen join spots (Gap r ∷ ps) (y ∷ ys) made lies id part (inr h) = made_kept seen join spots ps ys made.1 lies id part h

-- a part without a cell is a gap
made_gap : {X : Type 0} (seen : X → Part) (join : RankedJoin) (spots : List SpotView) (pieces : List (Piece ℕ)) (items : List X) → AreMade seen join spots pieces items →
    (part : Range) → Has (map seen items) (record { range = part; cell = None }) → Has (gaps_of pieces) part
made_gap seen join spots [] [] made part h = absurd h
made_gap seen join spots [] (y ∷ ys) made part h = absurd made
made_gap seen join spots (p ∷ ps) [] made part h = absurd made
made_gap seen join spots (Kept r i ∷ ps) (y ∷ ys) made part (inl e) = absurd (none-some i (sym (ap (λ (q : Part). q.cell) e) ∙ made.0.1))
made_gap seen join spots (Kept r i ∷ ps) (y ∷ ys) made part (inr h) = made_gap seen join spots ps ys made.1 part h
made_gap seen join spots (Gap r ∷ ps) (y ∷ ys) made part (inl e) = inl (sym made.0.0 ∙ ap (λ (q : Part). q.range) e)
made_gap seen join spots (Gap r ∷ ps) (y ∷ ys) made part (inr h) = inr (made_gap seen join spots ps ys made.1 part h)

-- each kept piece makes a part with its cell
made_served : {X : Type 0} (seen : X → Part) (join : RankedJoin) (spots : List SpotView) (pieces : List (Piece ℕ)) (items : List X) → AreMade seen join spots pieces items →
    (r : Range) (id : ℕ) → Has (kept_of pieces) (r, id) → Has (map seen items) (record { range = r; cell = Some id })
made_served seen join spots [] items made r id h = absurd h
made_served seen join spots (p ∷ ps) [] made r id h = absurd made
made_served seen join spots (Kept s i ∷ ps) (y ∷ ys) made r id (inl e) =
    inl ((λ k. record { range = made.0.0 k; cell = made.0.1 k }) ∙ ap (λ (q : Range × ℕ). record { range = q.0; cell = Some q.1 }) e)
made_served seen join spots (Kept s i ∷ ps) (y ∷ ys) made r id (inr h) = inr (made_served seen join spots ps ys made.1 r id h)
made_served seen join spots (Gap s ∷ ps) (y ∷ ys) made r id h = inr (made_served seen join spots ps ys made.1 r id h)

-- one kept piece makes one part, with its cell
made_whole : {X : Type 0} (seen : X → Part) (join : RankedJoin) (spots : List SpotView) (range : Range) (id : ℕ) (items : List X) → AreMade seen join spots (Kept range id ∷ []) items → map seen items ≡ one_part range id
made_whole seen join spots range id [] made = absurd made
made_whole seen join spots range id (x ∷ []) made = (λ i. record { range = made.0.0 i; cell = made.0.1 i } ∷ [])
made_whole seen join spots range id (x ∷ y ∷ ys) made = absurd made.1

-- ---- covering a range

-- what a range is covered by so far: the pieces so far are parts, of which some were given cells, if they are to be kept
pub record CoversSoFar {X : Type 0} (seen : X → Part) (join : RankedJoin) (range : Range) (keep : Bool) (before now : DirectoryView) (pieces : List (Piece ℕ)) (items : List X) : Type 0 where
  pub made : AreMade seen join now.spots pieces items
  pub given : GivesParts join range before now
  pub pulled : keep ≡ false → now ≡ before

-- cells that are given to a piece more
pub given_more : {X : Type 0} (seen : X → Part) (join : RankedJoin) (range : Range) (keep : Bool) (before now after : DirectoryView) (pieces : List (Piece ℕ)) (items : List X) (piece : Piece ℕ) → CoversSoFar seen join range keep before now pieces items →
    IsWithin (range_of piece) range → GivesParts join (range_of piece) now after → GivesParts join range before after
given_more seen join range keep before now after pieces items piece so_far inside given = parts_later join range before now after so_far.given (parts_wider join (range_of piece) range now after inside given)

-- at the beginning
pub covers_begin : {X : Type 0} (seen : X → Part) (join : RankedJoin) (range : Range) (keep : Bool) (before : DirectoryView) (items : List X) → items ≡ [] → CoversSoFar seen join range keep before before [] items
covers_begin {X} seen join range keep before items none = subst (λ (xs : List X). CoversSoFar seen join range keep before before [] xs) (sym none) (record {
  made = tt;
  given = parts_same join range before before (record { spots = refl; listed = λ at. refl });
  pulled = λ no. refl;
})

-- with one piece more, which lies within the range
pub covers_more : {X : Type 0} (seen : X → Part) (join : RankedJoin) (range : Range) (keep : Bool) (before now after : DirectoryView) (pieces : List (Piece ℕ)) (items more : List X) (piece : Piece ℕ) (x : X) → more ≡ items ++ x ∷ [] →
    CoversSoFar seen join range keep before now pieces items → IsWithin (range_of piece) range → IsMadeOf join after.spots piece (seen x) → GivesParts join (range_of piece) now after → (keep ≡ false → after ≡ now) →
    CoversSoFar seen join range keep before after (pieces ++ piece ∷ []) more
covers_more {X} seen join range keep before now after pieces items more piece x is so_far inside one given pulled = subst (λ (xs : List X). CoversSoFar seen join range keep before after (pieces ++ piece ∷ []) xs) (sym is) (record {
  made = made_more seen join (range_of piece) now after pieces items piece x given so_far.made one;
  given = given_more seen join range keep before now after pieces items piece so_far inside given;
  pulled = λ no. pulled no ∙ so_far.pulled no;
})

-- with all pieces
pub covers_all : {X : Type 0} (seen : X → Part) (join : RankedJoin) (range : Range) (keep : Bool) (before now : DirectoryView) (pieces all : List (Piece ℕ)) (items : List X) → CoversSoFar seen join range keep before now pieces items → pieces ≡ all →
    CoversSoFar seen join range keep before now all items
covers_all seen join range keep before now pieces all items so_far is = subst (λ (ps : List (Piece ℕ)). CoversSoFar seen join range keep before now ps items) is so_far

-- a piece of a range lies within it
pub piece_within : (range : Range) (all before rest : List (Piece ℕ)) (piece : Piece ℕ) → JoinTo range (ranges_of all) → all ≡ before ++ piece ∷ rest → IsWithin (range_of piece) range
piece_within range all before rest piece joins is =
    let here : Has all piece = subst (λ (ps : List (Piece ℕ)). Has ps piece) (sym is) (has_append_right before (piece ∷ rest) piece (inl refl)) in
    let lies : LiesIn range (range_of piece) = joined_lie_in range (ranges_of all) (range_of piece) joins (contains_from_has (ranges_of all) (range_of piece) (has_mapped range_of all piece here)) in
    record { begins = lies.low; ends = lies.high }

kept_here : (before rest : List (Piece ℕ)) (r : Range) (id : ℕ) → Has (kept_of (before ++ Kept r id ∷ rest)) (r, id)
kept_here [] rest r id = inl refl
kept_here (Kept s i ∷ ps) rest r id = inr (kept_here ps rest r id)
kept_here (Gap s ∷ ps) rest r id = kept_here ps rest r id

-- a kept piece lies within the place of its cell still, once pieces before it are parts
pub still_lies : {X : Type 0} (seen : X → Part) (join : RankedJoin) (range : Range) (keep : Bool) (start now : DirectoryView) (all before rest : List (Piece ℕ)) (items : List X) (piece : Piece ℕ) →
    ((id : ℕ) (part : Range) → Contains (kept_of all) (part, id) → LiesInPlace (place_at start.spots) id join part) → CoversSoFar seen join range keep start now before items → all ≡ before ++ piece ∷ rest →
    (id : ℕ) (r : Range) → piece ≡ Kept r id → LiesInPlace (place_at now.spots) id join r
still_lies seen join range keep start now all before rest items piece places so_far is id r e =
    let there : all ≡ before ++ Kept r id ∷ rest = is ∙ ap (λ (p : Piece ℕ). before ++ p ∷ rest) e in
    lies_on join range start now id join r so_far.given
    (places id r (contains_from_has (kept_of all) (r, id) (subst (λ (ps : List (Piece ℕ)). Has (kept_of ps) (r, id)) (sym there) (kept_here before rest r id))))

-- ---- a range that is covered

-- the parts join to it
pub covers_join : {X : Type 0} (seen : X → Part) (join : RankedJoin) (range : Range) (keep : Bool) (before now : DirectoryView) (pieces : List (Piece ℕ)) (items : List X) → CoversSoFar seen join range keep before now pieces items →
    JoinTo range (ranges_of pieces) → JoinParts range (map (λ x. (seen x).range) items)
covers_join seen join range keep before now pieces items covers joins =
    subst (λ (rs : List Range). JoinParts range rs) (sym (made_ranges seen join now.spots pieces items covers.made)) (join_up_to range.low range.high (ranges_of pieces) joins)

-- a part with a cell lies within the place of the cell
pub covers_kept : {X : Type 0} (seen : X → Part) (join : RankedJoin) (range : Range) (keep : Bool) (before now : DirectoryView) (pieces : List (Piece ℕ)) (items : List X) → CoversSoFar seen join range keep before now pieces items →
    ((id : ℕ) (part : Range) → Contains (kept_of pieces) (part, id) → LiesInPlace (place_at before.spots) id join part) →
    (id : ℕ) (part : Range) → Contains (map seen items) (record { range = part; cell = Some id }) → LiesInPlace (place_at now.spots) id join part
covers_kept seen join range keep before now pieces items covers places id part h =
    made_kept seen join now.spots pieces items covers.made (λ n t k. lies_on join range before now n join t covers.given (places n t (contains_from_has (kept_of pieces) (t, n) k))) id part
    (has_from_contains (map seen items) (record { range = part; cell = Some id }) h)

-- a part without a cell meets none of the ranges that were listed
pub covers_gap : {X : Type 0} (seen : X → Part) (join : RankedJoin) (range : Range) (keep : Bool) (before now : DirectoryView) (pieces : List (Piece ℕ)) (items : List X) → CoversSoFar seen join range keep before now pieces items →
    (ranges : Ranges ℕ) → list_all (is_free ranges) (gaps_of pieces) ≡ true → (part : Range) → Contains (map seen items) (record { range = part; cell = None }) → is_free ranges part ≡ true
covers_gap seen join range keep before now pieces items covers ranges clear part h =
    passes_from_all (is_free ranges) (gaps_of pieces) part clear (made_gap seen join now.spots pieces items covers.made part (has_from_contains (map seen items) (record { range = part; cell = None }) h))

-- a kept piece is a part, with its cell
pub covers_served : {X : Type 0} (seen : X → Part) (join : RankedJoin) (range : Range) (keep : Bool) (before now : DirectoryView) (pieces : List (Piece ℕ)) (items : List X) → CoversSoFar seen join range keep before now pieces items →
    (id : ℕ) (part : Range) → Has (kept_of pieces) (part, id) → Contains (map seen items) (record { range = part; cell = Some id })
covers_served seen join range keep before now pieces items covers id part h =
    contains_from_has (map seen items) (record { range = part; cell = Some id }) (made_served seen join now.spots pieces items covers.made part id h)

-- a range that is one kept piece is one part, with its cell
pub covers_whole : {X : Type 0} (seen : X → Part) (join : RankedJoin) (range : Range) (keep : Bool) (before now : DirectoryView) (pieces : List (Piece ℕ)) (items : List X) → CoversSoFar seen join range keep before now pieces items →
    (id : ℕ) → pieces ≡ Kept range id ∷ [] → map seen items ≡ one_part range id
covers_whole seen join range keep before now pieces items covers id is =
    made_whole seen join now.spots range id items (subst (λ (ps : List (Piece ℕ)). AreMade seen join now.spots ps items) is covers.made)

-- a range that is one gap is one part
pub covers_alone : {X : Type 0} (seen : X → Part) (join : RankedJoin) (range : Range) (keep : Bool) (before now : DirectoryView) (pieces : List (Piece ℕ)) (items : List X) → CoversSoFar seen join range keep before now pieces items →
    pieces ≡ Gap range ∷ [] → map (λ x. (seen x).range) items ≡ range ∷ []
covers_alone seen join range keep before now pieces items covers is = made_ranges seen join now.spots pieces items covers.made ∙ ap ranges_of is
