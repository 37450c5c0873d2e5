-- The pieces that are made of the parts which a range has in common with kept ones, and of the gaps between.
use Rattle.std.proofs.Common.{◌≡◌, ℕ, ◌+◌, ◌≤◌, Bool, true, false, cond, not, ◌&&◌, List, [], ◌∷◌, ◌++◌, map, filter, count_by, refl, sym, ap, ◌∙◌, subst, inl, inr, arith, append-nil}
use Rattle.std.specs.List.{list_all}
use Rattle.std.proofs.lemmas.Bool.{false_from_ne_true, and_parts, not_from_false}
use Rattle.std.proofs.lemmas.List.Sums.{sum_by-cons}
use Rattle.semantics.specs.Texts.{Text, Range, within}
use Rattle.semantics.proofs.MemberLemmas.{Has, contains_from_has, has_map, has_mapped, has_filter, has_filtered, all_from_each, passes_from_all}
use Rattle.key_ranges.specs.Ranges.{is_below, is_open, meets, later, earlier, common}
use Rattle.key_ranges.proofs.OrderLemmas.{is_up_to, up_to_trans}
use Rattle.key_ranges.proofs.RangeLemmas.{within-common, common_holds_low, holders_meet, common_is_open}
use Rattle.range_set.specs.Joined.{JoinFrom, JoinTo, LiesIn}
use Rattle.range_set.specs.Held.{Held, is_free, are_apart}
use Rattle.range_set.specs.Pieces.{ranges_of, kept_of, gaps_of, are_gaps_apart, parts_within, IsPartOf}
use Rattle.range_set.specs.Gaps.{gap_between}
use Rattle.range_set.specs.declared.piece.Piece.{Piece}
use Rattle.range_set.specs.declared.piece.Piece.TheVariants.{Kept, Gap}
use Rattle.range_set.proofs.BoundLemmas.{equal_bounds, up_to_later, second_up_to_later, earlier_up_to, earlier_up_to_second}
use Rattle.range_set.proofs.JoinedLemmas.{joined_has_in, joined_hold_once, lies_from_bounds}

-- the pieces from one bound to another, with these parts kept
abbrev pub pieces_of : {T : Type 0} → Text → Text → Held T → List (Piece T)
pieces_of place high [] = gap_between place high
pieces_of place high (p ∷ ps) = gap_between place p.0.low ++ Kept p.0 p.1 ∷ pieces_of p.0.high high ps

-- parts between two bounds: none is empty, and each begins where the one before ends, or behind it
abbrev pub PartsFrom : {T : Type 0} → Text → Text → Held T → Type 0
PartsFrom place high [] = is_up_to place high ≡ true
PartsFrom place high (p ∷ ps) = (is_up_to place p.0.low ≡ true) × (is_open p.0 ≡ true) × PartsFrom p.0.high high ps

-- ---- the pieces join

-- a gap, where there is one, joins to what follows
gap_joins : {T : Type 0} (low middle high : Text) (x : Bool) (rest : List (Piece T)) → is_below low middle ≡ x → is_up_to low middle ≡ true → JoinFrom middle high (ranges_of rest) →
    JoinFrom low high (ranges_of (cond x (Gap (record { low = low; high = middle }) ∷ []) [] ++ rest))
gap_joins low middle high true rest b u j = (refl, b, j)
gap_joins low middle high false rest b u j = subst (λ t. JoinFrom t high (ranges_of rest)) (sym (equal_bounds low middle u b)) j

pub pieces_join : {T : Type 0} (place high : Text) (ps : Held T) → PartsFrom place high ps → JoinFrom place high (ranges_of (pieces_of place high ps))
pieces_join {T} place high [] h =
    subst (λ (l : List (Piece T)). JoinFrom place high (ranges_of l)) (append-nil (gap_between place high)) (gap_joins place high high (is_below place high) [] refl h refl)
pieces_join place high (p ∷ ps) h = gap_joins place p.0.low high (is_below place p.0.low) (Kept p.0 p.1 ∷ pieces_of p.0.high high ps) refl h.0 (refl, h.1, pieces_join p.0.high high ps h.2)

-- ---- what is kept of them

kept_behind : {T : Type 0} (low middle : Text) (x : Bool) (rest : List (Piece T)) → kept_of (cond x (Gap (record { low = low; high = middle }) ∷ []) [] ++ rest) ≡ kept_of rest
kept_behind low middle true rest = refl
kept_behind low middle false rest = refl

none_kept : (T : Type 0) (low middle : Text) (x : Bool) → kept_of {T = T} (cond x (Gap (record { low = low; high = middle }) ∷ []) []) ≡ []
none_kept T low middle true = refl
none_kept T low middle false = refl

-- the kept pieces are the parts
pub pieces_kept : {T : Type 0} (place high : Text) (ps : Held T) → kept_of (pieces_of place high ps) ≡ ps
pieces_kept {T} place high [] = none_kept T place high (is_below place high)
pieces_kept place high (p ∷ ps) = kept_behind place p.0.low (is_below place p.0.low) (Kept p.0 p.1 ∷ pieces_of p.0.high high ps) ∙ ap (λ l. p ∷ l) (pieces_kept p.0.high high ps)

-- ---- no gap follows a gap

apart_behind : {T : Type 0} (low middle : Text) (x : Bool) (r : Range) (item : T) (rest : List (Piece T)) → are_gaps_apart (cond x (Gap (record { low = low; high = middle }) ∷ []) [] ++ Kept r item ∷ rest) ≡ are_gaps_apart rest
apart_behind low middle true r item rest = refl
apart_behind low middle false r item rest = refl

one_gap : (T : Type 0) (low middle : Text) (x : Bool) → are_gaps_apart {T = T} (cond x (Gap (record { low = low; high = middle }) ∷ []) []) ≡ true
one_gap T low middle true = refl
one_gap T low middle false = refl

pub pieces_apart : {T : Type 0} (place high : Text) (ps : Held T) → are_gaps_apart (pieces_of place high ps) ≡ true
pieces_apart {T} place high [] = one_gap T place high (is_below place high)
pieces_apart place high (p ∷ ps) = apart_behind place p.0.low (is_below place p.0.low) p.0 p.1 (pieces_of p.0.high high ps) ∙ pieces_apart p.0.high high ps

-- ---- gaps meet no kept range

-- how many ranges hold a key
abbrev holders : Text → List Range → ℕ
holders key rs = count_by (λ r. within r key) rs

-- the ranges of the kept pieces
abbrev kept_ranges : {T : Type 0} → List (Piece T) → List Range
kept_ranges ps = map (λ e. e.0) (kept_of ps)

-- each piece is kept or a gap
holders_of_pieces : {T : Type 0} (key : Text) (ps : List (Piece T)) → holders key (ranges_of ps) ≡ holders key (kept_ranges ps) + holders key (gaps_of ps)
holders_of_pieces key [] = refl
holders_of_pieces key (Kept r item ∷ ps) =
    let whole = sum_by-cons (λ s. cond (within s key) 1 0) r (ranges_of ps) in
    let part = sum_by-cons (λ s. cond (within s key) 1 0) r (kept_ranges ps) in
    let ih = holders_of_pieces key ps in
    omega arith
holders_of_pieces key (Gap r ∷ ps) =
    let whole = sum_by-cons (λ s. cond (within s key) 1 0) r (ranges_of ps) in
    let part = sum_by-cons (λ s. cond (within s key) 1 0) r (gaps_of ps) in
    let ih = holders_of_pieces key ps in
    omega arith

-- a range that holds the key is counted
holder_counts : (key : Text) (rs : List Range) (r : Range) → Has rs r → within r key ≡ true → 1 ≤ holders key rs
holder_counts key [] r h w = absurd h
holder_counts key (s ∷ rs) r (inl e) w =
    let whole = sum_by-cons (λ q. cond (within q key) 1 0) s rs in
    let one : cond {A = ℕ} (within s key) 1 0 ≡ 1 = ap (λ (q : Range). cond {A = ℕ} (within q key) 1 0) e ∙ ap (λ x. cond {A = ℕ} x 1 0) w in
    omega arith
holder_counts key (s ∷ rs) r (inr h) w =
    let whole = sum_by-cons (λ q. cond (within q key) 1 0) s rs in
    let more = holder_counts key rs r h w in
    omega arith

-- a gap is a piece
gap_is_piece : {T : Type 0} (ps : List (Piece T)) (g : Range) → Has (gaps_of ps) g → Has (ranges_of ps) g
gap_is_piece [] g h = absurd h
gap_is_piece (Kept r item ∷ ps) g h = inr (gap_is_piece ps g h)
gap_is_piece (Gap r ∷ ps) g (inl e) = inl e
gap_is_piece (Gap r ∷ ps) g (inr h) = inr (gap_is_piece ps g h)

-- a kept range that a range meets gives a part
has_part : {T : Type 0} (range : Range) (held : Held T) (e : Range × T) → Has held e → meets e.0 range ≡ true → Has (parts_within range held) (common e.0 range, e.1)
has_part range held e h m = has_mapped (λ f. (common f.0 range, f.1)) (filter (λ f. meets f.0 range) held) e (has_filtered (λ f. meets f.0 range) held e m h)

-- where the pieces join to a range, and keep its parts, a gap meets no kept range
gap_meets_none : {T : Type 0} (range : Range) (held : Held T) (ps : List (Piece T)) (g : Range) (e : Range × T) → JoinTo range (ranges_of ps) → kept_of ps ≡ parts_within range held →
    Has (gaps_of ps) g → Has held e → meets e.0 g ≡ true → ⊥
gap_meets_none {T} range held ps g e j kept hg he m =
    let key = later e.0.low g.low in
    let both = common_holds_low e.0 g m in
    let inside : within range key ≡ true = (joined_has_in range (ranges_of ps) g j (gap_is_piece ps g hg)).keys key both.1 in
    let meet : meets e.0 range ≡ true = holders_meet e.0 range key both.0 inside in
    let part : Has (kept_of ps) (common e.0 range, e.1) = subst (λ (l : Held T). Has l (common e.0 range, e.1)) (sym kept) (has_part range held e he meet) in
    let in_part : within (common e.0 range) key ≡ true = within-common e.0 range key ∙ ap (λ x. x && within range key) both.0 ∙ inside in
    let one : 1 ≤ holders key (kept_ranges ps) = holder_counts key (kept_ranges ps) (common e.0 range) (has_mapped (λ (f : Range × T). f.0) (kept_of ps) (common e.0 range, e.1) part) in_part in
    let other : 1 ≤ holders key (gaps_of ps) = holder_counts key (gaps_of ps) g hg both.1 in
    let sum = holders_of_pieces key ps in
    let once : holders key (ranges_of ps) ≡ 1 = joined_hold_once range (ranges_of ps) key j ∙ ap (λ x. cond x 1 0) inside in
    omega arith

-- so each gap is free
pub gaps_free : {T : Type 0} (range : Range) (held : Held T) (ps : List (Piece T)) → JoinTo range (ranges_of ps) → kept_of ps ≡ parts_within range held → list_all (is_free held) (gaps_of ps) ≡ true
gaps_free range held ps j kept = all_from_each (is_free held) (gaps_of ps) (λ g hg.
    all_from_each (λ e. not (meets e.0 g)) held (λ e he.
    not_from_false (meets e.0 g) (false_from_ne_true (meets e.0 g) (gap_meets_none range held ps g e j kept hg he))))

-- ---- the parts of a range

-- the first kept range, and those behind it
parts_by : {T : Type 0} (range : Range) (place : Text) (e : Range × T) (es : Held T) (x : Bool) → meets e.0 range ≡ x → list_all (λ f. is_up_to e.0.high f.0.low) es ≡ true →
    is_up_to place range.high ≡ true → ((f : Range × T) → Has (e ∷ es) f → is_up_to place (later f.0.low range.low) ≡ true) →
    ((next : Text) → is_up_to next range.high ≡ true → ((f : Range × T) → Has es f → is_up_to next (later f.0.low range.low) ≡ true) → PartsFrom next range.high (parts_within range es)) →
    PartsFrom place range.high (map (λ f. (common f.0 range, f.1)) (cond x (e ∷ filter (λ f. meets f.0 range) es) (filter (λ f. meets f.0 range) es)))
parts_by range place e es true m behind upto from ih = (
  from e (inl refl),
  common_is_open e.0 range m,
  ih (earlier e.0.high range.high) (earlier_up_to_second e.0.high range.high) (λ f h.
      up_to_trans (earlier e.0.high range.high) f.0.low (later f.0.low range.low)
      (up_to_trans (earlier e.0.high range.high) e.0.high f.0.low (earlier_up_to e.0.high range.high) (passes_from_all (λ g. is_up_to e.0.high g.0.low) es f behind h))
      (up_to_later f.0.low range.low)),
)
parts_by range place e es false m behind upto from ih = ih place upto (λ f h. from f (inr h))

parts_from : {T : Type 0} (range : Range) (place : Text) (held : Held T) → are_apart held ≡ true → is_up_to place range.high ≡ true → ((f : Range × T) → Has held f → is_up_to place (later f.0.low range.low) ≡ true) →
    PartsFrom place range.high (parts_within range held)
parts_from range place [] apart upto from = upto
parts_from range place (e ∷ es) apart upto from =
    let parts = and_parts _ (are_apart es) apart in
    let first = and_parts (is_open e.0) (list_all (λ f. is_up_to e.0.high f.0.low) es) parts.0 in
    parts_by range place e es (meets e.0 range) refl first.1 upto from (λ next h g. parts_from range next es parts.1 h g)

-- the parts of a range lie between its bounds, in order
pub parts_of_range : {T : Type 0} (range : Range) (held : Held T) → are_apart held ≡ true → is_up_to range.low range.high ≡ true → PartsFrom range.low range.high (parts_within range held)
parts_of_range range held apart upto = parts_from range range.low held apart upto (λ f h. second_up_to_later f.0.low range.low)

-- ---- the kept range of a part

-- each part lies in the kept range of its item
pub parts_lie_in_kept : {T : Type 0} (range : Range) (held : Held T) (part : Range × T) → Has (parts_within range held) part → IsPartOf range held part
parts_lie_in_kept range held part h =
    let made = has_map (λ f. (common f.0 range, f.1)) (filter (λ f. meets f.0 range) held) part h in
    let kept = has_filter (λ f. meets f.0 range) held made.0 made.1 in
    let item : made.0.1 ≡ part.1 = ap (λ p. p.1) made.2 in
    record {
      whole = made.0.0;
      kept = contains_from_has held (made.0.0, part.1) (subst (λ i. Has held (made.0.0, i)) item kept.1);
      meets_range = kept.0;
      common_part = ap (λ p. p.0) (sym made.2);
      lies = subst (LiesIn made.0.0) (ap (λ p. p.0) made.2) (lies_from_bounds made.0.0 (common made.0.0 range) (up_to_later made.0.0.low range.low) (earlier_up_to made.0.0.high range.high));
    }
