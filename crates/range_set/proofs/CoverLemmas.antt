-- How a range is covered, one kept range after another.
use Rattle.std.proofs.Common.{◌≡◌, Bool, true, false, cond, not, ◌&&◌, nat_le, Contains, List, [], ◌∷◌, ◌++◌, length, map, filter, None, Some, refl, sym, ap, ◌∙◌, subst, append_assoc}
use Rattle.std.specs.List.{list_all}
use Rattle.std.specs.Ordering.{is_le}
use Rattle.std.proofs.lemmas.Bool.{and_from, or_left}
use Rattle.std.proofs.lemmas.Option.{none-some, same_Some}
use Rattle.semantics.specs.Texts.{Text, text_cmp, is_range, Range}
use Rattle.semantics.proofs.MemberLemmas.{Has, contains_from_has}
use Rattle.key_ranges.specs.Ranges.{is_below, meets, common, cut}
use Rattle.key_ranges.proofs.OrderLemmas.{is_up_to, up_to_itself, up_to_from_below, up_to_trans, below_up_to}
use Rattle.key_ranges.proofs.RangeLemmas.{bounds_of, within_begins, common_is_open}
use Rattle.range_set.specs.Joined.{JoinTo}
use Rattle.range_set.specs.Held.{Held, are_apart, is_free}
use Rattle.range_set.specs.Pieces.{ranges_of, kept_of, gaps_of, are_gaps_apart, parts_within}
use Rattle.range_set.specs.Gaps.{gap_between}
use Rattle.range_set.specs.Stored.{Stored, held_of}
use Rattle.range_set.specs.declared.piece.Piece.{Piece}
use Rattle.range_set.specs.declared.piece.Piece.TheVariants.{Kept}
use Rattle.range_set.proofs.BoundLemmas.{second_up_to_later, earlier_up_to_second, between_is_range}
use Rattle.range_set.proofs.PieceLemmas.{pieces_of, pieces_join, pieces_kept, pieces_apart, gaps_free, parts_of_range}
use Rattle.range_set.proofs.StoredLemmas.{Own, window_parts}

-- a range meets another, and a part is what both have in common
pub record IsCommon (r s part : Range) : Type 0 where
  pub meet : meets r s ≡ true
  pub is : part ≡ common r s

cut_by : (r s part : Range) (x : Bool) → meets r s ≡ x → Some part ≡ cond x (Some (common r s)) None → IsCommon r s part
cut_by r s part true m e = record { meet = m; is = same_Some part (common r s) e }
cut_by r s part false m e = absurd (none-some part (sym e))

-- what is cut is the common part
pub cut_is_common : (r s part : Range) → Some part ≡ cut r s → IsCommon r s part
cut_is_common r s part e = cut_by r s part (meets r s) refl e

-- ---- the bounds of pieces

-- the bounds of a part, beside those of the range
pub record LiesBetween (range part : Range) : Type 0 where
  pub low : is_up_to range.low part.low ≡ true
  pub below : is_below part.low range.high ≡ true
  pub above : is_up_to range.low part.high ≡ true

part_lies : (r range : Range) → meets r range ≡ true → LiesBetween range (common r range)
part_lies r range m =
    let low = second_up_to_later r.low range.low in
    let inside = common_is_open r range m in
    record {
      low = low;
      below = below_up_to (common r range).low (common r range).high range.high inside (earlier_up_to_second r.high range.high);
      above = up_to_trans range.low (common r range).low (common r range).high low (up_to_from_below (common r range).low (common r range).high inside);
    }

-- a part lies in the range
pub common_lies : (r range part : Range) → IsCommon r range part → LiesBetween range part
common_lies r range part h = subst (LiesBetween range) (sym h.is) (part_lies r range h.meet)

-- the gap in front of a part is a range
pub gap_before : (r range part : Range) (place low high : Text) → IsCommon r range part → low ≡ place → high ≡ part.low → is_range range.low range.high ≡ true → is_range part.low part.high ≡ true →
    is_up_to range.low place ≡ true → nat_le (length place) 513 ≡ true → is_below low high ≡ true → is_range low high ≡ true
gap_before r range part place low high h e f range_is part_is from short below =
    let lies = common_lies r range part h in
    let begins = within_begins range part.low range_is (and_from _ _ lies.low lies.below) in
    subst (λ t. is_range t high ≡ true) (sym e) (subst (λ t. is_range place t ≡ true) (sym f)
    (between_is_range range place part.low range_is short (bounds_of part.low part.high part_is).short_low (or_left _ _ begins) from (up_to_from_below part.low range.high lies.below)
    (subst (λ t. is_below place t ≡ true) f (subst (λ t. is_below t high ≡ true) e below))))

-- the gap in front of the end is a range
pub gap_at_end : (range : Range) (place low high : Text) → low ≡ place → high ≡ range.high → is_range range.low range.high ≡ true → is_up_to range.low place ≡ true → nat_le (length place) 513 ≡ true → is_below low high ≡ true → is_range low high ≡ true
gap_at_end range place low high e f range_is from short below =
    let bounds = bounds_of range.low range.high range_is in
    subst (λ t. is_range t high ≡ true) (sym e) (subst (λ t. is_range place t ≡ true) (sym f)
    (between_is_range range place range.high range_is short bounds.short_high bounds.ends from (up_to_itself range.high)
    (subst (λ t. is_below place t ≡ true) f (subst (λ t. is_below t high ≡ true) e below))))

-- ---- one kept range more

-- what a range has in common with a kept one, and the item of that
abbrev part_of : {T : Type 0} → Range → Range × T → Range × T
part_of range f = (common f.0 range, f.1)

-- the pieces of the first kept range, which meets, stand in front of those of the others
pub with_part : {T : Type 0} (range : Range) (place : Text) (e : Range × T) (part : Range) (rest : Held T) (items target : List (Piece T)) → IsCommon e.0 range part →
    items ++ pieces_of place range.high (parts_within range (e ∷ rest)) ≡ target →
    ((items ++ gap_between place part.low) ++ Kept part e.1 ∷ []) ++ pieces_of part.high range.high (parts_within range rest) ≡ target
with_part {T} range place e part rest items target h made =
    let others : Held T = filter (λ f. meets f.0 range) rest in
    let met : parts_within range (e ∷ rest) ≡ part_of range e ∷ parts_within range rest = ap (λ x. map (part_of range) (cond x (e ∷ others) others)) h.meet in
    let whole : items ++ (gap_between place (common e.0 range).low ++ Kept (common e.0 range) e.1 ∷ pieces_of (common e.0 range).high range.high (parts_within range rest)) ≡ target =
    ap (λ (ps : Held T). items ++ pieces_of place range.high ps) (sym met) ∙ made in
    let here : items ++ (gap_between place part.low ++ Kept part e.1 ∷ pieces_of part.high range.high (parts_within range rest)) ≡ target =
    subst (λ (p : Range). items ++ (gap_between place p.low ++ Kept p e.1 ∷ pieces_of p.high range.high (parts_within range rest)) ≡ target) (sym h.is) whole in
    append_assoc (items ++ gap_between place part.low) (Kept part e.1 ∷ []) (pieces_of part.high range.high (parts_within range rest))
    ∙ append_assoc items (gap_between place part.low) (Kept part e.1 ∷ pieces_of part.high range.high (parts_within range rest)) ∙ here

-- ---- the whole

-- what is said of the pieces of a range
pub record AreCover {T : Type 0} (range : Range) (held : Held T) (pieces : List (Piece T)) : Type 0 where
  pub joins : JoinTo range (ranges_of pieces)
  pub kept : kept_of pieces ≡ parts_within range held
  pub whole_gaps : are_gaps_apart pieces ≡ true
  pub free_gaps : list_all (is_free held) (gaps_of pieces) ≡ true

-- the pieces that are made of the parts cover the range
pub pieces_cover : {T : Type 0} (range : Range) (held : Held T) (pieces : List (Piece T)) → are_apart held ≡ true → is_range range.low range.high ≡ true →
    pieces ≡ pieces_of range.low range.high (parts_within range held) → AreCover range held pieces
pieces_cover {T} range held pieces apart range_is made =
    let parts = parts_of_range range held apart (bounds_of range.low range.high range_is).ascend in
    let joins = pieces_join range.low range.high (parts_within range held) parts in
    let kept = pieces_kept range.low range.high (parts_within range held) in
    subst (AreCover range held) (sym made) (record {
      joins = joins;
      kept = kept;
      whole_gaps = pieces_apart range.low range.high (parts_within range held);
      free_gaps = gaps_free range held (pieces_of range.low range.high (parts_within range held)) joins kept;
    })

-- ---- from step to step

-- at the start the window has all parts of the range
pub cover_start : {K T : Type 0} (text_of : K → Text) (range : Range) (held : Held T) (es window : Stored K T) (start low high place : Text) (items : List (Piece T)) → low ≡ range.low → high ≡ range.high → place ≡ range.low → items ≡ [] → Own text_of es → held_of es ≡ held →
    window ≡ filter (λ e. is_le (text_cmp start (text_of e.0)) && not (is_le (text_cmp high (text_of e.0)))) es →
    ((f : Range × T) → Contains held f → is_below f.0.low start ≡ true → is_up_to f.0.high low ≡ true) →
    items ++ pieces_of place range.high (parts_within range (held_of window)) ≡ pieces_of range.low range.high (parts_within range held)
cover_start {K} {T} text_of range held es window start low high place items at_low at_high at none own view is passed =
    let before : (f : Range × T) → Has (held_of es) f → is_below f.0.low start ≡ true → is_up_to f.0.high range.low ≡ true =
    λ f h b. subst (λ t. is_up_to f.0.high t ≡ true) at_low (passed f (contains_from_has held f (subst (λ (hs : Held T). Has hs f) view h)) b) in
    let inside : window ≡ filter (λ (e : K × (Range × T)). is_le (text_cmp start (text_of e.0)) && not (is_le (text_cmp range.high (text_of e.0)))) es =
    is ∙ ap (λ (t : Text). filter (λ (e : K × (Range × T)). is_le (text_cmp start (text_of e.0)) && not (is_le (text_cmp t (text_of e.0)))) es) at_high in
    let parts : parts_within range (held_of window) ≡ parts_within range held =
    ap (λ (w : Stored K T). parts_within range (held_of w)) inside ∙ window_parts text_of range start es own before ∙ ap (parts_within range) view in
    ap (λ (l : List (Piece T)). l ++ pieces_of place range.high (parts_within range (held_of window))) none
    ∙ ap (λ (t : Text). pieces_of t range.high (parts_within range (held_of window))) at ∙ ap (pieces_of range.low range.high) parts

-- a kept range that meets adds its gap and its part
pub cover_step : {K T : Type 0} (range : Range) (place text low next : Text) (key : K) (e : Range × T) (part : Range) (window rest : Stored K T) (items longer whole target : List (Piece T)) → IsCommon e.0 range part → text ≡ place → low ≡ part.low → next ≡ part.high →
    window ≡ (key, e) ∷ rest → longer ≡ items ++ gap_between text low → whole ≡ longer ++ Kept part e.1 ∷ [] →
    items ++ pieces_of place range.high (parts_within range (held_of window)) ≡ target → whole ++ pieces_of next range.high (parts_within range (held_of rest)) ≡ target
cover_step {K} {T} range place text low next key e part window rest items longer whole target common at at_low at_next is is_longer is_whole made =
    let first : items ++ pieces_of place range.high (parts_within range (e ∷ held_of rest)) ≡ target = ap (λ (w : Stored K T). items ++ pieces_of place range.high (parts_within range (held_of w))) (sym is) ∙ made in
    let gap : longer ≡ items ++ gap_between place part.low = is_longer ∙ ap (λ (t : Text). items ++ gap_between t low) at ∙ ap (λ (t : Text). items ++ gap_between place t) at_low in
    let all : whole ≡ (items ++ gap_between place part.low) ++ Kept part e.1 ∷ [] = is_whole ∙ ap (λ (l : List (Piece T)). l ++ Kept part e.1 ∷ []) gap in
    ap (λ (l : List (Piece T)). l ++ pieces_of next range.high (parts_within range (held_of rest))) all
    ∙ ap (λ (t : Text). ((items ++ gap_between place part.low) ++ Kept part e.1 ∷ []) ++ pieces_of t range.high (parts_within range (held_of rest))) at_next
    ∙ with_part range place e part (held_of rest) items target common first

-- at the end the last gap is added
pub cover_end : {K T : Type 0} (range : Range) (place text high : Text) (window : Stored K T) (items whole target : List (Piece T)) → text ≡ place → high ≡ range.high → window ≡ [] → whole ≡ items ++ gap_between text high →
    items ++ pieces_of place range.high (parts_within range (held_of window)) ≡ target → whole ≡ target
cover_end {K} {T} range place text high window items whole target at at_high none is made =
    is ∙ ap (λ (t : Text). items ++ gap_between t high) at ∙ ap (λ (t : Text). items ++ gap_between place t) at_high
    ∙ ap (λ (w : Stored K T). items ++ pieces_of place range.high (parts_within range (held_of w))) (sym none) ∙ made
