-- Kept ranges by the texts of their first bounds.
use Rattle.std.proofs.Common.{◌≡◌, Bool, true, false, cond, not, ◌&&◌, [], ◌∷◌, ◌++◌, map, filter, Option, None, Some, refl, sym, ap, ◌∙◌, subst, inl, inr, Ordering, Less, Equal, Greater, is_lt, is_eq}
use Rattle.std.specs.List.{AllByRecursion}
use Rattle.std.specs.Map.{lookup, remove_entry}
use Rattle.std.specs.BTreeMap.{insert_entry}
use Rattle.std.specs.Ordering.{is_le, match_ordering}
use Rattle.std.proofs.lemmas.Bool.{false≢true, false_from_ne_true, and_parts, and_from, and_left, and_right, not-true, not-false}
use Rattle.std.proofs.lemmas.Option.{none-some, same_Some}
use Rattle.semantics.specs.Texts.{Text, same, text_cmp, table_of, Range}
use Rattle.semantics.proofs.TableLemmas.{same_is_tie, equal_by_tie}
use Rattle.semantics.proofs.MemberLemmas.{Has, has_append_right, has_filter, has_filtered, has_map, has_mapped}
use Rattle.key_ranges.specs.Ranges.{is_below, is_open, meets, common}
use Rattle.key_ranges.proofs.OrderLemmas.{is_up_to, up_to_trans, up_to_from_not_below, up_to_from_below, below_from_not_up_to, not_up_to_from_below}
use Rattle.range_set.specs.Held.{Held, same_range, is_free, are_apart, are_of_table, are_of_one_table, with_range, without_range, item_of}
use Rattle.range_set.specs.Pieces.{parts_within}
use Rattle.range_set.specs.Stored.{Stored, held_of, AreStored}
use Rattle.range_set.proofs.HeldLemmas.{first_apart, ends_before, apart-with_range, one_table-with_range, apart-filter, one_table-filter, none_same, none_same_behind}

-- each range stands at the text of its first bound
abbrev pub Own : {K T : Type 0} → (K → Text) → Stored K T → Type 0
Own text_of es = AllByRecursion (λ e. text_of e.0 ≡ e.1.0.low) es

-- a stored range stands at the text of its first bound
pub own_from_has : {K T : Type 0} (text_of : K → Text) (es : Stored K T) (e : K × (Range × T)) → Own text_of es → Has es e → text_of e.0 ≡ e.1.0.low
own_from_has text_of [] e own h = absurd h
own_from_has {K} {T} text_of (f ∷ fs) e own (inl p) = subst (λ (x : K × (Range × T)). text_of x.0 ≡ x.1.0.low) p own.0
own_from_has text_of (f ∷ fs) e own (inr h) = own_from_has text_of fs e own.1 h

-- ---- where to start

-- a text below another has it not below itself
not_below_from_below : (a b : Text) → is_below a b ≡ true → is_below b a ≡ false
not_below_from_below a b h = false_from_ne_true (is_below b a) (λ g. false≢true (sym (not_up_to_from_below a b h) ∙ up_to_from_below b a g))

-- where each stored range begins above a bound, none begins before it
pub none_before : {K T : Type 0} (text_of : K → Text) (low : Text) (es : Stored K T) → Own text_of es → filter (λ e. true && not (is_lt (text_cmp low (text_of e.0)))) es ≡ [] →
    (f : Range × T) → Has (held_of es) f → is_below f.0.low low ≡ true → ⊥
none_before {K} {T} text_of low es own none f h b =
    let from = has_map (λ (e : K × (Range × T)). e.1) es f h in
    let at : text_of from.0.0 ≡ f.0.low = own_from_has text_of es from.0 own from.1 ∙ ap (λ (g : Range × T). g.0.low) from.2 in
    let passes : not (is_below low (text_of from.0.0)) ≡ true = ap (λ t. not (is_below low t)) at ∙ ap not (not_below_from_below f.0.low low b) in
    subst (λ (l : Stored K T). Has l from.0) none (has_filtered (λ e. true && not (is_lt (text_cmp low (text_of e.0)))) es from.0 passes from.1)

-- where a stored range does not begin above a bound, each that begins before it ends there at the latest
pub ends_at_start : {K T : Type 0} (text_of : K → Text) (low : Text) (es t : Stored K T) (k : K) (v : Range × T) → Own text_of es → are_apart (held_of es) ≡ true →
    filter (λ e. true && not (is_lt (text_cmp low (text_of e.0)))) es ≡ t ++ (k, v) ∷ [] →
    (f : Range × T) → Has (held_of es) f → is_below f.0.low (text_of k) ≡ true → is_up_to f.0.high low ≡ true
ends_at_start {K} {T} text_of low es t k v own apart found f h b =
    let last : Has (t ++ (k, v) ∷ []) (k, v) = has_append_right t ((k, v) ∷ []) (k, v) (inl refl) in
    let kept = has_filter (λ e. true && not (is_lt (text_cmp low (text_of e.0)))) es (k, v) (subst (λ (l : Stored K T). Has l (k, v)) (sym found) last) in
    let at : text_of k ≡ v.0.low = own_from_has text_of es (k, v) own kept.1 in
    let upto : is_up_to (text_of k) low ≡ true = up_to_from_not_below low (text_of k) (not-true (is_below low (text_of k)) kept.0) in
    let ends : is_up_to f.0.high v.0.low ≡ true =
    ends_before (held_of es) f v apart h (has_mapped (λ (e : K × (Range × T)). e.1) es (k, v) kept.1) (subst (λ u. is_below f.0.low u ≡ true) at b) in
    up_to_trans f.0.high (text_of k) low (subst (λ u. is_up_to f.0.high u ≡ true) (sym at) ends) upto

-- ---- the window of a range

-- a range that ends where another begins, or before that, does not meet it
ended : (r range : Range) → is_up_to r.high range.low ≡ true → meets r range ≡ false
ended r range h = and_right _ (is_below range.low r.high) (false_from_ne_true (is_below range.low r.high) (λ b. false≢true (sym (not_up_to_from_below range.low r.high b) ∙ h)))

-- a range that begins where another ends, or behind that, does not meet it
begun : (r range : Range) → is_up_to range.high r.low ≡ true → meets r range ≡ false
begun r range h = and_left _ (is_below range.low r.high) (and_right _ (is_below r.low range.high) (false_from_ne_true (is_below r.low range.high) (λ b. false≢true (sym (not_up_to_from_below r.low range.high b) ∙ h))))

-- what a range has in common with a kept one, and the item of that
abbrev part_of : {T : Type 0} → Range → Range × T → Range × T
part_of range f = (common f.0 range, f.1)

-- those that meet a range
abbrev meeting : {T : Type 0} → Range → Held T → Held T
meeting range hs = filter (λ f. meets f.0 range) hs

-- one range more, which meets or not
onto_parts : {T : Type 0} (range : Range) (e : Range × T) (hs gs : Held T) (x : Bool) → parts_within range hs ≡ parts_within range gs →
    map (part_of range) (cond x (e ∷ meeting range hs) (meeting range hs)) ≡ map (part_of range) (cond x (e ∷ meeting range gs) (meeting range gs))
onto_parts range e hs gs true h = ap (λ l. part_of range e ∷ l) h
onto_parts range e hs gs false h = h

-- one range more, which does not meet
outside_parts : {T : Type 0} (range : Range) (e : Range × T) (hs gs : Held T) → parts_within range hs ≡ parts_within range gs → meets e.0 range ≡ false → parts_within range hs ≡ parts_within range (e ∷ gs)
outside_parts range e hs gs h m = h ∙ ap (λ x. map (part_of range) (cond x (e ∷ meeting range gs) (meeting range gs))) (sym m)

window_by : {K T : Type 0} (range : Range) (start text : Text) (e : K × (Range × T)) (rest : Stored K T) (es : Held T) (x y : Bool) → is_up_to start text ≡ x → is_up_to range.high text ≡ y → text ≡ e.1.0.low →
    (is_below e.1.0.low start ≡ true → is_up_to e.1.0.high range.low ≡ true) → parts_within range (held_of rest) ≡ parts_within range es →
    parts_within range (held_of (cond (x && not y) (e ∷ rest) rest)) ≡ parts_within range (e.1 ∷ es)
window_by range start text e rest es true false a b at passed ih = onto_parts range e.1 (held_of rest) es (meets e.1.0 range) ih
window_by range start text e rest es true true a b at passed ih = outside_parts range e.1 (held_of rest) es ih (begun e.1.0 range (subst (λ t. is_up_to range.high t ≡ true) at b))
window_by range start text e rest es false y a b at passed ih =
    outside_parts range e.1 (held_of rest) es ih (ended e.1.0 range (passed (subst (λ t. is_below t start ≡ true) at (below_from_not_up_to start text a))))

-- the stored ranges from a start on and below the end of a range have all of its parts
pub window_parts : {K T : Type 0} (text_of : K → Text) (range : Range) (start : Text) (es : Stored K T) → Own text_of es →
    ((f : Range × T) → Has (held_of es) f → is_below f.0.low start ≡ true → is_up_to f.0.high range.low ≡ true) →
    parts_within range (held_of (filter (λ e. is_le (text_cmp start (text_of e.0)) && not (is_le (text_cmp range.high (text_of e.0)))) es)) ≡ parts_within range (held_of es)
window_parts text_of range start [] own passed = refl
window_parts text_of range start (e ∷ es) own passed =
    window_by range start (text_of e.0) e (filter (λ g. is_le (text_cmp start (text_of g.0)) && not (is_le (text_cmp range.high (text_of g.0)))) es) (held_of es)
    (is_up_to start (text_of e.0)) (is_up_to range.high (text_of e.0)) refl refl own.0 (passed e.1 (inl refl)) (window_parts text_of range start es own.1 (λ f h. passed f (inr h)))

-- ---- a range more

-- a free range begins where no other does
no_tie : {T : Type 0} (r : Range) (e : Range × T) → is_open r ≡ true → is_open e.0 ≡ true → meets e.0 r ≡ false → text_cmp r.low e.0.low ≡ Equal → ⊥
no_tie {T} r e r_open e_open m tie =
    let one = equal_by_tie r.low e.0.low tie in
    false≢true (sym m ∙ and_from _ _ (and_from _ _ (and_from _ _ e_open r_open) (subst (λ t. is_below t r.high ≡ true) one r_open)) (subst (λ t. is_below t e.0.high ≡ true) (sym one) e_open))

put_by : {K T : Type 0} (o : Ordering) (k : K) (r : Range) (item : T) (e : K × (Range × T)) (es rest : Stored K T) → text_cmp r.low e.1.0.low ≡ o → (text_cmp r.low e.1.0.low ≡ Equal → ⊥) → held_of rest ≡ with_range r item (held_of es) →
    held_of (match_ordering o ((k, (r, item)) ∷ e ∷ es) ((e.0, (r, item)) ∷ es) (e ∷ rest)) ≡ with_range r item (held_of (e ∷ es))
put_by Less k r item e es rest c apart ih = ap (λ x. cond x ((r, item) ∷ held_of (e ∷ es)) (e.1 ∷ with_range r item (held_of es))) (sym (ap is_lt c))
put_by Equal k r item e es rest c apart ih = absurd (apart c)
put_by Greater k r item e es rest c apart ih = ap (λ l. e.1 ∷ l) ih ∙ ap (λ x. cond x ((r, item) ∷ held_of (e ∷ es)) (e.1 ∷ with_range r item (held_of es))) (sym (ap is_lt c))

-- with a free range put at the text of its first bound, the ranges are those with it
pub put_held : {K T : Type 0} (text_of : K → Text) (k : K) (r : Range) (item : T) (es : Stored K T) → text_of k ≡ r.low → Own text_of es → is_open r ≡ true → is_free (held_of es) r ≡ true → are_apart (held_of es) ≡ true →
    held_of (insert_entry (λ a b. text_cmp (text_of a) (text_of b)) es k (r, item)) ≡ with_range r item (held_of es)
put_held text_of k r item [] at own not_empty free apart = refl
put_held text_of k r item (e ∷ es) at own not_empty free apart =
    let parts = and_parts (not (meets e.1.0 r)) (is_free (held_of es) r) free in
    let first = first_apart e.1 (held_of es) apart in
    put_by (text_cmp (text_of k) (text_of e.0)) k r item e es (insert_entry (λ a b. text_cmp (text_of a) (text_of b)) es k (r, item))
    (ap (λ t. text_cmp t e.1.0.low) (sym at) ∙ ap (text_cmp (text_of k)) (sym own.0))
    (no_tie r e.1 not_empty first.not_empty (not-true (meets e.1.0 r) parts.0))
    (put_held text_of k r item es at own.1 not_empty parts.1 first.others)

own_by : {K T : Type 0} (text_of : K → Text) (o : Ordering) (k : K) (r : Range) (item : T) (e : K × (Range × T)) (es rest : Stored K T) → text_cmp (text_of k) (text_of e.0) ≡ o → text_of k ≡ r.low → Own text_of (e ∷ es) → Own text_of rest →
    Own text_of (match_ordering o ((k, (r, item)) ∷ e ∷ es) ((e.0, (r, item)) ∷ es) (e ∷ rest))
own_by text_of Less k r item e es rest c at own h = (at, own)
own_by text_of Equal k r item e es rest c at own h = (sym (equal_by_tie (text_of k) (text_of e.0) c) ∙ at, own.1)
own_by text_of Greater k r item e es rest c at own h = (own.0, h)

own-put : {K T : Type 0} (text_of : K → Text) (k : K) (r : Range) (item : T) (es : Stored K T) → text_of k ≡ r.low → Own text_of es → Own text_of (insert_entry (λ a b. text_cmp (text_of a) (text_of b)) es k (r, item))
own-put text_of k r item [] at own = (at, tt)
own-put text_of k r item (e ∷ es) at own =
    own_by text_of (text_cmp (text_of k) (text_of e.0)) k r item e es (insert_entry (λ a b. text_cmp (text_of a) (text_of b)) es k (r, item)) refl at own (own-put text_of k r item es at own.1)

-- and what is said of the stored ranges holds on
pub put_stored : {K T : Type 0} (text_of : K → Text) (k : K) (r : Range) (item : T) (es : Stored K T) → text_of k ≡ r.low → is_open r ≡ true → is_free (held_of es) r ≡ true → are_of_table (held_of es) (table_of r.low) ≡ true → AreStored text_of es →
    AreStored text_of (insert_entry (λ a b. text_cmp (text_of a) (text_of b)) es k (r, item))
put_stored text_of k r item es at not_empty free table h =
    let held = put_held text_of k r item es at h.own not_empty free h.apart in
    record {
      own = own-put text_of k r item es at h.own;
      apart = ap are_apart held ∙ apart-with_range r item (held_of es) not_empty free h.apart;
      table = ap are_of_one_table held ∙ one_table-with_range r item (held_of es) table;
    }

-- ---- a range less

-- a text ties with the one that is the same
tie_is : (a b : Text) (c : Text) → b ≡ c → is_eq (text_cmp a b) ≡ same a c
tie_is a b c e = sym (same_is_tie a b) ∙ ap (same a) e

none_begins_by : {T : Type 0} (r : Range) (e : Range × T) (found : Option (Range × T)) (es : Held T) (f : Range × T) (x : Bool) → same r.low e.0.low ≡ x → cond x (Some e) found ≡ None →
    (found ≡ None → (g : Range × T) → Has es g → same r.low g.0.low ≡ false) → Has (e ∷ es) f → same r.low f.0.low ≡ false
none_begins_by r e found es f true s none ih h = absurd (none-some e (sym none))
none_begins_by {T} r e found es f false s none ih (inl p) = ap (λ (q : Range × T). same r.low q.0.low) (sym p) ∙ s
none_begins_by r e found es f false s none ih (inr h) = ih none f h

-- where nothing is found at the first bound, no range begins there
none_begins : {K T : Type 0} (text_of : K → Text) (r : Range) (es : Stored K T) → Own text_of es → lookup (λ k. is_eq (text_cmp r.low (text_of k))) es ≡ None → (f : Range × T) → Has (held_of es) f → same r.low f.0.low ≡ false
none_begins text_of r [] own none f h = absurd h
none_begins text_of r (e ∷ es) own none f h = none_begins_by r e.1 (lookup (λ k. is_eq (text_cmp r.low (text_of k))) es) (held_of es) f (same r.low e.1.0.low) refl
    (ap (λ x. cond x (Some e.1) (lookup (λ k. is_eq (text_cmp r.low (text_of k))) es)) (sym (tie_is r.low (text_of e.0) e.1.0.low own.0)) ∙ none) (none_begins text_of r es own.1) h

-- where nothing is found at the first bound, no range has these bounds
pub none_found : {K T : Type 0} (text_of : K → Text) (r : Range) (es : Stored K T) → Own text_of es → lookup (λ k. is_eq (text_cmp r.low (text_of k))) es ≡ None →
    (item_of r (held_of es) ≡ None) × (without_range r (held_of es) ≡ held_of es)
none_found text_of r es own none = none_same r (held_of es) (none_begins text_of r es own none)

found_by : {K T : Type 0} (r : Range) (e : K × (Range × T)) (v : Range × T) (found : Option (Range × T)) (es rest : Stored K T) (x y : Bool) → same r.low e.1.0.low ≡ x → same r.high v.0.high ≡ y → are_apart (held_of (e ∷ es)) ≡ true →
    cond x (Some e.1) found ≡ Some v →
    (found ≡ Some v → (item_of r (held_of es) ≡ cond y (Some v.1) None) × (without_range r (held_of es) ≡ cond y (held_of rest) (held_of es))) →
    (item_of r (held_of (e ∷ es)) ≡ cond y (Some v.1) None) × (without_range r (held_of (e ∷ es)) ≡ cond y (held_of (cond x es (e ∷ rest))) (held_of (e ∷ es)))
found_by {K} {T} r e v found es rest true y s t apart is ih =
    let here : e.1 ≡ v = same_Some e.1 v is in
    let none = none_same r (held_of es) (none_same_behind r e.1 (held_of es) apart s) in
    let test : same_range r e.1.0 ≡ y = ap (λ x. x && same r.high e.1.0.high) s ∙ ap (λ (f : Range × T). same r.high f.0.high) here ∙ t in (
      ap (λ x. cond x (Some e.1.1) (item_of r (held_of es))) test ∙ ap (λ i. cond y (Some i) (item_of r (held_of es))) (ap (λ (f : Range × T). f.1) here) ∙ ap (cond y (Some v.1)) none.0,
      ap (λ x. cond (not x) (e.1 ∷ without_range r (held_of es)) (without_range r (held_of es))) test ∙ turned y ∙ ap (λ l. cond y l (e.1 ∷ l)) none.1,
    )
  where
    turned : (y : Bool) → cond (not y) (e.1 ∷ without_range r (held_of es)) (without_range r (held_of es)) ≡ cond y (without_range r (held_of es)) (e.1 ∷ without_range r (held_of es))
    turned true = refl
    turned false = refl
found_by {K} {T} r e v found es rest false y s t apart is ih =
    let rest_is = ih is in
    let test : same_range r e.1.0 ≡ false = ap (λ x. x && same r.high e.1.0.high) s in (
      ap (λ x. cond x (Some e.1.1) (item_of r (held_of es))) test ∙ rest_is.0,
      ap (λ x. cond (not x) (e.1 ∷ without_range r (held_of es)) (without_range r (held_of es))) test ∙ ap (λ l. e.1 ∷ l) rest_is.1 ∙ onto y,
    )
  where
    onto : (y : Bool) → e.1 ∷ cond y (held_of rest) (held_of es) ≡ cond y (e.1 ∷ held_of rest) (e.1 ∷ held_of es)
    onto true = refl
    onto false = refl

-- where a range is found at the first bound, it has these bounds or none has
pub found : {K T : Type 0} (text_of : K → Text) (r : Range) (es : Stored K T) (v : Range × T) → Own text_of es → are_apart (held_of es) ≡ true → lookup (λ k. is_eq (text_cmp r.low (text_of k))) es ≡ Some v →
    (item_of r (held_of es) ≡ cond (same r.high v.0.high) (Some v.1) None)
    × (without_range r (held_of es) ≡ cond (same r.high v.0.high) (held_of (remove_entry (λ k. is_eq (text_cmp r.low (text_of k))) es)) (held_of es))
found text_of r [] v own apart is = absurd (none-some v is)
found text_of r (e ∷ es) v own apart is =
    let tie = tie_is r.low (text_of e.0) e.1.0.low own.0 in
    let made = found_by r e v (lookup (λ k. is_eq (text_cmp r.low (text_of k))) es) es (remove_entry (λ k. is_eq (text_cmp r.low (text_of k))) es)
    (is_eq (text_cmp r.low (text_of e.0))) (same r.high v.0.high) (sym tie) refl apart is (found text_of r es v own.1 (first_apart e.1 (held_of es) apart).others) in
    made

own_less : {K T : Type 0} (text_of : K → Text) (b : Bool) (e : K × (Range × T)) (es rest : Stored K T) → Own text_of (e ∷ es) → Own text_of rest → Own text_of (cond b es (e ∷ rest))
own_less text_of true e es rest own h = own.1
own_less text_of false e es rest own h = (own.0, h)

own-remove : {K T : Type 0} (text_of : K → Text) (test : K → Bool) (es : Stored K T) → Own text_of es → Own text_of (remove_entry test es)
own-remove text_of test [] own = tt
own-remove text_of test (e ∷ es) own = own_less text_of (test e.0) e es (remove_entry test es) own (own-remove text_of test es own.1)

-- without the range at a text, where that leaves the ranges without one, what is said of the stored ranges holds on
pub remove_stored : {K T : Type 0} (text_of : K → Text) (test : K → Bool) (r : Range) (es : Stored K T) → without_range r (held_of es) ≡ held_of (remove_entry test es) → AreStored text_of es → AreStored text_of (remove_entry test es)
remove_stored text_of test r es left h = record {
  own = own-remove text_of test es h.own;
  apart = ap are_apart (sym left) ∙ apart-filter (λ e. not (same_range r e.0)) (held_of es) h.apart;
  table = ap are_of_one_table (sym left) ∙ one_table-filter (λ e. not (same_range r e.0)) (held_of es) h.table;
}

-- ---- a removal

-- where nothing is found at the first bound
pub removes_none : {K T : Type 0} (text_of : K → Text) (r : Range) (held : Held T) (es : Stored K T) (low : Text) → low ≡ r.low → AreStored text_of es → held_of es ≡ held → None ≡ lookup (λ k. is_eq (text_cmp low (text_of k))) es →
    (None ≡ item_of r held) × (held ≡ without_range r held)
removes_none {K} {T} text_of r held es low at h view none =
    let made = none_found text_of r es h.own (ap (λ (t : Text). lookup (λ k. is_eq (text_cmp t (text_of k))) es) (sym at) ∙ sym none) in
    subst (λ (hs : Held T). (None ≡ item_of r hs) × (hs ≡ without_range r hs)) view (sym made.0, sym made.1)

-- where a range with another last bound is found
pub removes_no_other : {K T : Type 0} (text_of : K → Text) (r : Range) (held : Held T) (es : Stored K T) (v : Range × T) (low high end : Text) → low ≡ r.low → high ≡ r.high → end ≡ v.0.high → AreStored text_of es → held_of es ≡ held →
    Some v ≡ lookup (λ k. is_eq (text_cmp low (text_of k))) es → not (same high end) ≡ true → (None ≡ item_of r held) × (held ≡ without_range r held)
removes_no_other {K} {T} text_of r held es v low high end at at_high at_end h view is differ =
    let made = found text_of r es v h.own h.apart (ap (λ (t : Text). lookup (λ k. is_eq (text_cmp t (text_of k))) es) (sym at) ∙ sym is) in
    let other : same r.high v.0.high ≡ false = ap (λ t. same t v.0.high) (sym at_high) ∙ ap (same high) (sym at_end) ∙ not-true (same high end) differ in
    subst (λ (hs : Held T). (None ≡ item_of r hs) × (hs ≡ without_range r hs)) view
    (sym (made.0 ∙ ap (λ x. cond x (Some v.1) None) other), sym (made.1 ∙ ap (λ x. cond x (held_of (remove_entry (λ k. is_eq (text_cmp r.low (text_of k))) es)) (held_of es)) other))

-- what is left where a range is taken out, and its item
pub record Removed {K T : Type 0} (text_of : K → Text) (r : Range) (held : Held T) (item : T) (left : Stored K T) : Type 0 where
  pub item_is : Some item ≡ item_of r held
  pub left_is : held_of left ≡ without_range r held
  pub stored : AreStored text_of left

-- where the range is found
pub removes : {K T : Type 0} (text_of : K → Text) (r : Range) (held : Held T) (es left : Stored K T) (v : Range × T) (low low' high end : Text) → low ≡ r.low → low' ≡ r.low → high ≡ r.high → end ≡ v.0.high → AreStored text_of es → held_of es ≡ held →
    Some v ≡ lookup (λ k. is_eq (text_cmp low (text_of k))) es → not (same high end) ≡ false → left ≡ remove_entry (λ k. is_eq (text_cmp low' (text_of k))) es → Removed text_of r held v.1 left
removes {K} {T} text_of r held es left v low low' high end at at' at_high at_end h view is agree taken =
    let made = found text_of r es v h.own h.apart (ap (λ (t : Text). lookup (λ k. is_eq (text_cmp t (text_of k))) es) (sym at) ∙ sym is) in
    let here : same r.high v.0.high ≡ true = ap (λ t. same t v.0.high) (sym at_high) ∙ ap (same high) (sym at_end) ∙ not-false (same high end) agree in
    let less : Stored K T = remove_entry (λ k. is_eq (text_cmp r.low (text_of k))) es in
    let left_held : without_range r (held_of es) ≡ held_of less = made.1 ∙ ap (λ x. cond x (held_of less) (held_of es)) here in
    let is_less : left ≡ less = taken ∙ ap (λ (t : Text). remove_entry (λ k. is_eq (text_cmp t (text_of k))) es) at' in
    record {
      item_is = sym (ap (item_of r) (sym view) ∙ made.0 ∙ ap (λ x. cond x (Some v.1) None) here);
      left_is = ap held_of is_less ∙ sym left_held ∙ ap (without_range r) view;
      stored = subst (AreStored text_of) (sym is_less) (remove_stored text_of (λ k. is_eq (text_cmp r.low (text_of k))) r es left_held h);
    }
