-- Kept ranges: what holds of two of them, of one more, and of some of them.
use Rattle.std.proofs.Common.{◌≡◌, Bool, true, false, cond, not, ◌&&◌, [], ◌∷◌, filter, None, Some, refl, sym, ap, ◌∙◌, subst, inl, inr}
use Rattle.std.specs.List.{list_all}
use Rattle.std.proofs.lemmas.Bool.{false≢true, false_from_ne_true, and_parts, and_from, not-true}
use Rattle.semantics.specs.Texts.{Text, same, table_of, Range}
use Rattle.semantics.proofs.PieceLemmas.{equal_by_same, same_itself}
use Rattle.semantics.proofs.MemberLemmas.{Has, has_filter, all_from_each, passes_from_all}
use Rattle.key_ranges.specs.Ranges.{is_below, is_open, meets}
use Rattle.key_ranges.proofs.OrderLemmas.{is_up_to, up_to_from_below, up_to_from_not_below, up_to_below, below_up_to, up_to_trans}
use Rattle.range_set.specs.Held.{Held, same_range, is_free, are_apart, are_of_table, are_of_one_table, with_range, without_range, item_of}
use Rattle.range_set.proofs.BoundLemmas.{not_below_itself}

-- the parts of what it is for ranges to be apart
pub record FirstApart {T : Type 0} (e : Range × T) (es : Held T) : Type 0 where
  pub not_empty : is_open e.0 ≡ true
  pub behind : list_all (λ f. is_up_to e.0.high f.0.low) es ≡ true
  pub others : are_apart es ≡ true

pub first_apart : {T : Type 0} (e : Range × T) (es : Held T) → are_apart (e ∷ es) ≡ true → FirstApart e es
first_apart e es h =
    let both = and_parts _ (are_apart es) h in
    let first = and_parts (is_open e.0) (list_all (λ f. is_up_to e.0.high f.0.low) es) both.0 in
    record { not_empty = first.0; behind = first.1; others = both.1 }

pub apart_from_first : {T : Type 0} (e : Range × T) (es : Held T) → FirstApart e es → are_apart (e ∷ es) ≡ true
apart_from_first e es f = and_from _ _ (and_from _ _ f.not_empty f.behind) f.others

-- ---- two kept ranges

-- a range behind the first begins above the first bound of it
begins_above : {T : Type 0} (e : Range × T) (es : Held T) (f : Range × T) → FirstApart e es → Has es f → is_below e.0.low f.0.low ≡ true
begins_above e es f first h = below_up_to e.0.low e.0.high f.0.low first.not_empty (passes_from_all (λ g. is_up_to e.0.high g.0.low) es f first.behind h)

-- of two ranges that are kept, the one that begins first ends before the other begins
pub ends_before : {T : Type 0} (held : Held T) (e f : Range × T) → are_apart held ≡ true → Has held e → Has held f → is_below e.0.low f.0.low ≡ true → is_up_to e.0.high f.0.low ≡ true
ends_before [] e f apart he hf b = absurd he
ends_before {T} (g ∷ gs) e f apart (inl p) (inl q) b = absurd (not_below_itself e.0.low (subst (λ (x : Range × T). is_below e.0.low x.0.low ≡ true) (sym q ∙ p) b))
ends_before {T} (g ∷ gs) e f apart (inl p) (inr hf) b =
    subst (λ (x : Range × T). is_up_to x.0.high f.0.low ≡ true) p (passes_from_all (λ h. is_up_to g.0.high h.0.low) gs f (first_apart g gs apart).behind hf)
ends_before {T} (g ∷ gs) e f apart (inr he) (inl q) b =
    let above : is_below f.0.low e.0.low ≡ true = subst (λ (x : Range × T). is_below x.0.low e.0.low ≡ true) q (begins_above g gs e (first_apart g gs apart) he) in
    absurd (not_below_itself e.0.low (up_to_below e.0.low f.0.low e.0.low (up_to_from_below e.0.low f.0.low b) above))
ends_before {T} (g ∷ gs) e f apart (inr he) (inr hf) b = ends_before gs e f (first_apart g gs apart).others he hf b

-- ---- one range more

-- two ranges that are not empty and do not meet lie one behind the other
pub apart_by_not_meeting : (r s : Range) → is_open r ≡ true → is_open s ≡ true → meets r s ≡ false → is_below s.low r.high ≡ true → is_up_to s.high r.low ≡ true
apart_by_not_meeting r s r_open s_open m b = by (is_below r.low s.high) refl
  where
    by : (x : Bool) → is_below r.low s.high ≡ x → is_up_to s.high r.low ≡ true
    by true h = absurd (false≢true (sym m ∙ and_from _ _ (and_from _ _ (and_from _ _ r_open s_open) h) b))
    by false h = up_to_from_not_below r.low s.high h

all_by : {T : Type 0} (test : Range × T → Bool) (r : Range) (item : T) (e : Range × T) (es rest : Held T) (x : Bool) → test (r, item) ≡ true → list_all test (e ∷ es) ≡ true → list_all test rest ≡ true →
    list_all test (cond x ((r, item) ∷ e ∷ es) (e ∷ rest)) ≡ true
all_by test r item e es rest true here all h = and_from _ _ here all
all_by test r item e es rest false here all h = and_from _ _ (and_parts (test e) (list_all test es) all).0 h

-- what holds of a range and of the others holds of all of them
pub all_with_range : {T : Type 0} (test : Range × T → Bool) (r : Range) (item : T) (held : Held T) → test (r, item) ≡ true → list_all test held ≡ true → list_all test (with_range r item held) ≡ true
all_with_range test r item [] here all = and_from _ _ here refl
all_with_range test r item (e ∷ es) here all =
    all_by test r item e es (with_range r item es) (is_below r.low e.0.low) here all (all_with_range test r item es here (and_parts (test e) (list_all test es) all).1)

-- a range that does not meet the first, and begins before it, ends before it and before those behind it
ends_before_first : {T : Type 0} (r : Range) (e : Range × T) (es : Held T) → is_open r ≡ true → meets e.0 r ≡ false → FirstApart e es → is_below r.low e.0.low ≡ true →
    list_all (λ f. is_up_to r.high f.0.low) (e ∷ es) ≡ true
ends_before_first r e es not_empty m first b =
    let above : is_below r.low e.0.high ≡ true = below_up_to r.low e.0.low e.0.high b (up_to_from_below e.0.low e.0.high first.not_empty) in
    let here : is_up_to r.high e.0.low ≡ true = apart_by_not_meeting e.0 r first.not_empty not_empty m above in
    and_from _ _ here (all_from_each (λ f. is_up_to r.high f.0.low) es (λ f h.
    up_to_trans r.high e.0.low f.0.low here (up_to_from_below e.0.low f.0.low (begins_above e es f first h))))

-- a range that does not meet another, and does not begin before it, begins where it ends or behind that
begins_behind : (r s : Range) → is_open r ≡ true → is_open s ≡ true → meets s r ≡ false → is_below r.low s.low ≡ false → is_up_to s.high r.low ≡ true
begins_behind r s r_open s_open m b = by (is_below r.low s.high) refl
  where
    by : (x : Bool) → is_below r.low s.high ≡ x → is_up_to s.high r.low ≡ true
    by false h = up_to_from_not_below r.low s.high h
    by true h =
        let ends : is_up_to r.high s.low ≡ true = apart_by_not_meeting s r s_open r_open m h in
        absurd (not_below_itself r.low (below_up_to r.low r.high r.low r_open (up_to_trans r.high s.low r.low ends (up_to_from_not_below r.low s.low b))))

-- the first range is free of the new one
free_parts : {T : Type 0} (r : Range) (e : Range × T) (es : Held T) → is_free (e ∷ es) r ≡ true → (meets e.0 r ≡ false) × (is_free es r ≡ true)
free_parts r e es free = let parts = and_parts (not (meets e.0 r)) (is_free es r) free in (not-true (meets e.0 r) parts.0, parts.1)

apart_by : {T : Type 0} (r : Range) (item : T) (e : Range × T) (es : Held T) (x : Bool) → is_below r.low e.0.low ≡ x → is_open r ≡ true → meets e.0 r ≡ false → FirstApart e es → are_apart (with_range r item es) ≡ true →
    are_apart (cond x ((r, item) ∷ e ∷ es) (e ∷ with_range r item es)) ≡ true
apart_by r item e es true b not_empty m first h = apart_from_first (r, item) (e ∷ es) (record { not_empty = not_empty; behind = ends_before_first r e es not_empty m first b; others = apart_from_first e es first })
apart_by r item e es false b not_empty m first h = apart_from_first e (with_range r item es) (record {
  not_empty = first.not_empty;
  behind = all_with_range (λ f. is_up_to e.0.high f.0.low) r item es (begins_behind r e.0 not_empty first.not_empty m b) first.behind;
  others = h;
})

-- with a free range more the ranges are apart
pub apart-with_range : {T : Type 0} (r : Range) (item : T) (held : Held T) → is_open r ≡ true → is_free held r ≡ true → are_apart held ≡ true → are_apart (with_range r item held) ≡ true
apart-with_range r item [] not_empty free apart = and_from _ _ (and_from _ _ not_empty refl) refl
apart-with_range r item (e ∷ es) not_empty free apart =
    let first = first_apart e es apart in
    let parts = free_parts r e es free in
    apart_by r item e es (is_below r.low e.0.low) refl not_empty parts.0 first (apart-with_range r item es not_empty parts.1 first.others)

-- ranges of a table are of one table
pub one_table_from : {T : Type 0} (held : Held T) (name : Text) → are_of_table held name ≡ true → are_of_one_table held ≡ true
one_table_from [] name h = refl
one_table_from (e ∷ es) name h =
    let parts = and_parts (same (table_of e.0.low) name) (are_of_table es name) h in
    subst (λ t. are_of_table es t ≡ true) (sym (equal_by_same (table_of e.0.low) name parts.0)) parts.1

-- with a range more of their table the ranges are of one table
pub one_table-with_range : {T : Type 0} (r : Range) (item : T) (held : Held T) → are_of_table held (table_of r.low) ≡ true → are_of_one_table (with_range r item held) ≡ true
one_table-with_range r item held h = one_table_from (with_range r item held) (table_of r.low)
    (all_with_range (λ f. same (table_of f.0.low) (table_of r.low)) r item held (same_itself (table_of r.low)) h)

-- ---- some of the ranges

-- what holds of all ranges holds of some of them
all_kept : {T : Type 0} (test keep : Range × T → Bool) (held : Held T) → list_all test held ≡ true → list_all test (filter keep held) ≡ true
all_kept test keep held all = all_from_each test (filter keep held) (λ f h. passes_from_all test held f all (has_filter keep held f h).1)

apart_kept_by : {T : Type 0} (keep : Range × T → Bool) (e : Range × T) (es : Held T) (x : Bool) → FirstApart e es → are_apart (filter keep es) ≡ true → are_apart (cond x (e ∷ filter keep es) (filter keep es)) ≡ true
apart_kept_by keep e es true first h = apart_from_first e (filter keep es) (record { not_empty = first.not_empty; behind = all_kept (λ f. is_up_to e.0.high f.0.low) keep es first.behind; others = h })
apart_kept_by keep e es false first h = h

-- some of the ranges are apart
pub apart-filter : {T : Type 0} (keep : Range × T → Bool) (held : Held T) → are_apart held ≡ true → are_apart (filter keep held) ≡ true
apart-filter keep [] apart = refl
apart-filter keep (e ∷ es) apart = let first = first_apart e es apart in apart_kept_by keep e es (keep e) first (apart-filter keep es first.others)

one_table_kept_by : {T : Type 0} (e : Range × T) (es : Held T) (x : Bool) → are_of_table es (table_of e.0.low) ≡ true → are_of_one_table (cond x (e ∷ es) es) ≡ true
one_table_kept_by e es true h = h
one_table_kept_by e es false h = one_table_from es (table_of e.0.low) h

-- some of the ranges are of one table
pub one_table-filter : {T : Type 0} (keep : Range × T → Bool) (held : Held T) → are_of_one_table held ≡ true → are_of_one_table (filter keep held) ≡ true
one_table-filter keep [] h = refl
one_table-filter keep (e ∷ es) h = one_table_kept_by e (filter keep es) (keep e) (all_kept (λ f. same (table_of f.0.low) (table_of e.0.low)) keep es h)

-- ---- a range by its bounds

-- where no range begins at the first bound, none has these bounds
pub none_same : {T : Type 0} (r : Range) (held : Held T) → ((f : Range × T) → Has held f → same r.low f.0.low ≡ false) → (item_of r held ≡ None) × (without_range r held ≡ held)
none_same r [] h = (refl, refl)
none_same {T} r (e ∷ es) h =
    let rest = none_same r es (λ f g. h f (inr g)) in
    let other : same_range r e.0 ≡ false = ap (λ x. x && same r.high e.0.high) (h e (inl refl)) in (
      ap (λ x. cond x (Some e.1) (item_of r es)) other ∙ rest.0,
      ap (λ x. cond (not x) (e ∷ without_range r es) (without_range r es)) other ∙ ap (λ l. e ∷ l) rest.1,
    )

-- behind a range none begins at its first bound
pub none_same_behind : {T : Type 0} (r : Range) (e : Range × T) (es : Held T) → are_apart (e ∷ es) ≡ true → same r.low e.0.low ≡ true → (f : Range × T) → Has es f → same r.low f.0.low ≡ false
none_same_behind {T} r e es apart s f h = false_from_ne_true (same r.low f.0.low) (λ t.
    let one : e.0.low ≡ f.0.low = sym (equal_by_same r.low e.0.low s) ∙ equal_by_same r.low f.0.low t in
    not_below_itself f.0.low (subst (λ u. is_below u f.0.low ≡ true) one (begins_above e es f (first_apart e es apart) h)))
