-- Bounds and ranges that are alike for the keys that fit an output.
use Rattle.std.proofs.Common.{◌≡◌, ℕ, ◌+◌, ◌-◌, ◌<◌, ◌≤◌, zero, suc, Bool, true, false, cond, not, ◌&&◌, ◌==◌, [], ◌∷◌, ◌++◌, length, take, drop, slice_get, Option, None, Some, is_some, ◌⊎◌, inl, inr, refl, sym, ap, ◌∙◌, subst, ⊎_elim, arith, length-append, append_assoc, append-nil}
use Rattle.std.proofs.lemmas.Bool.{and_parts, cases_order, eqb-true, false≢true, ltb-true, not-true}
use Rattle.std.proofs.lemmas.List.{drop_all, take_at}
use Rattle.std.proofs.lemmas.Option.{none-some, same_Some}
use Rattle.semantics.specs.Texts.{Text, bar, Range, Table, value_at, within, pairs_within}
use Rattle.semantics.specs.Patterns.{Pattern}
use Rattle.semantics.specs.Joins.{Join, is_join}
use Rattle.semantics.specs.Outputs.{out}
use Rattle.semantics.proofs.TableLemmas.{same_tables}
use Rattle.semantics.proofs.MergedLemmas.{ascending-pairs_within, value_at-pairs_within}
use Rattle.semantics.proofs.GatherLemmas.{ascending-out}
use Rattle.semantics.proofs.OutputLemmas.{out_keys_fit}
use Rattle.key_ranges.specs.Ranges.{is_below}
use Rattle.key_ranges.proofs.OrderLemmas.{is_up_to, up_to-not_below}
use Rattle.key_ranges.proofs.PrefixLemmas.{less_is, equal_is, greater_is}
use Rattle.cell_slots.specs.declared.slots.OpenSlot.{OpenSlot}
use Rattle.cell_slots.specs.Gaps.{FollowsSlot, GiveSame, HoldSameFitting, is_above, is_whole, LeavesOpen, SplitAlike}

-- ---- a key and two texts that begin alike

-- it is below both or below none, where what is left of it is, if it begins as they do
alike : (x s t key : Text) → ((rest : Text) → key ≡ x ++ rest → is_below rest s ≡ is_below rest t) → is_below key (x ++ s) ≡ is_below key (x ++ t)
alike [] s t key h = h key refl
alike (c ∷ cs) s t [] h = refl
alike (c ∷ cs) s t (k ∷ ks) h =
    ⊎_elim (λ (e : k ≡ c). rw (equal_is k c e) (alike cs s t ks (λ rest g. h rest (λ i. e i ∷ g i))))
    (λ other. ⊎_elim (λ (l : k < c). rw (less_is k c l)) (λ g. rw (greater_is k c g)) other)
    (cases_order k c)

-- ---- a bound that ends with `|`

-- no text is below the empty one
not_below_nothing : (t : Text) → is_below t [] ≡ false
not_below_nothing [] = refl
not_below_nothing (b ∷ bs) = refl

not_below_byte : (b : ℕ) (rest : Text) → is_below (b ∷ rest) (b ∷ []) ≡ false
not_below_byte b rest = rw (equal_is b b refl) (not_below_nothing rest)

-- what follows a whole text of a slot that is not the last is not below `|`
below_bar : (rest : Text) → FollowsSlot false rest → is_below rest (bar ∷ []) ≡ is_below rest []
below_bar rest h = subst (λ t. is_below t (bar ∷ []) ≡ is_below t []) (sym h.1) (not_below_byte bar h.0)

-- it may be left off behind a whole text of a slot that is not the last
pub bar_left_off : (output : Pattern) (bound text : Text) (end : OpenSlot) → bound ≡ text ++ bar ∷ [] → LeavesOpen output text end → is_whole end.is_last end.rest.now end.width ≡ true → SplitAlike output bound text
bar_left_off output bound text end e leaves whole = λ key fit.
    let parts = and_parts (not end.is_last) (length end.rest.now == end.width) whole in
    let last : end.is_last ≡ false = not-true end.is_last parts.0 in
    let long : length end.rest.now ≡ end.width = eqb-true (length end.rest.now) end.width parts.1 in
    ap (is_below key) e
    ∙ alike text (bar ∷ []) [] key (λ rest is.
    below_bar rest (subst (λ b. FollowsSlot b rest) last
    (leaves.follows key end.rest.now rest fit (is ∙ ap (λ t. t ++ rest) leaves.is ∙ append_assoc leaves.before end.rest.now rest) long)))
    ∙ ap (is_below key) (append-nil text)

-- ---- a bound above all keys that go on with a text

-- a text that begins with a byte above another is not below the next byte
not_below_next : (last k : ℕ) (ks : Text) → last < k → is_below (k ∷ ks) ((last + 1) ∷ []) ≡ false
not_below_next last k ks g =
    ⊎_elim (λ (e : k ≡ last + 1). rw (equal_is k (last + 1) e) (not_below_nothing ks))
    (λ other. ⊎_elim (λ (l : k < last + 1). absurd (omega (arith, g, l))) (λ h. rw (greater_is k (last + 1) h)) other)
    (cases_order k (last + 1))

-- a text is below a byte with more behind it as it is below the next byte, where what follows the byte in it is below what is behind
next_byte : (last : ℕ) (behind rest : Text) → ((more : Text) → rest ≡ last ∷ more → is_below more behind ≡ true) → is_below rest (last ∷ behind) ≡ is_below rest ((last + 1) ∷ [])
next_byte last behind [] h = refl
next_byte last behind (k ∷ ks) h =
    ⊎_elim (λ (e : k ≡ last). rw (equal_is k last e, less_is k (last + 1) (omega (arith, e))) (h ks (λ i. e i ∷ ks)))
    (λ other. ⊎_elim (λ (l : k < last). rw (less_is k last l, less_is k (last + 1) (omega (arith, l)))) (λ g. rw (greater_is k last g) (sym (not_below_next last k ks g))) other)
    (cases_order k last)

-- what follows a whole text of a slot is below a byte above `|`, and where the slot is the last below any
below_after : (is_last : Bool) (after : ℕ) (tail more : Text) → (is_last ≡ false → bar < after) → FollowsSlot is_last more → is_below more (after ∷ tail) ≡ true
below_after true after tail more h f = subst (λ t. is_below t (after ∷ tail) ≡ true) (sym f) refl
below_after false after tail more h f = subst (λ t. is_below t (after ∷ tail) ≡ true) (sym f.1) (rw (less_is bar after (h refl)))

-- what is above all that may follow
above_after : (is_last : Bool) (after : ℕ) → is_above is_last after ≡ true → is_last ≡ false → bar < after
above_after true after h last = absurd (false≢true (sym last))
above_after false after h last = ltb-true bar after h

-- the first byte of a text
head_is : (t : Text) (b : ℕ) → Some b ≡ slice_get t 0 → (tail : Text) × (t ≡ b ∷ tail)
head_is [] b h = absurd (none-some b (sym h))
head_is (c ∷ cs) b h = (cs, ap (λ x. x ∷ cs) (sym (same_Some b c h)))

-- the byte at a place of a text
byte_is : (t : Text) (n b : ℕ) → Some b ≡ slice_get t n → t ≡ take n t ++ b ∷ drop (suc n) t
byte_is [] n b h = absurd (none-some b (sym h))
byte_is (c ∷ cs) zero b h = ap (λ x. x ∷ cs) (sym (same_Some b c h))
byte_is (c ∷ cs) (suc n) b h = ap (λ t. c ∷ t) (byte_is cs n b h)

-- the last byte of a text
last_is : (t : Text) (b : ℕ) → 1 ≤ length t → Some b ≡ slice_get t (length t - 1) → t ≡ take (length t - 1) t ++ b ∷ []
last_is t b some h = byte_is t (length t - 1) b h ∙ ap (λ r. take (length t - 1) t ++ b ∷ r) (drop_all (suc (length t - 1)) t (omega (arith, some)))

-- such a bound: what is before its rest, then a whole text of a slot, and behind that what is above all that may follow
pub next_splits : (output : Pattern) (bound text behind front : Text) (end : OpenSlot) (last after cut : ℕ) → LeavesOpen output bound end → end.rest.now ≡ text ++ behind → length text ≡ end.width →
    Some last ≡ slice_get text (length text - 1) → Some after ≡ slice_get behind 0 → is_above end.is_last after ≡ true → cut ≡ length bound - (length behind + 1) → front ≡ take cut bound → SplitAlike output bound (front ++ (last + 1) ∷ [])
next_splits output bound text behind front end last after cut leaves rest_is wide ends after_is above cut_is front_is = λ key fit.
    let before = leaves.before in
    let stem = take (length text - 1) text in
    let tail = head_is behind after after_is in
    let whole : text ≡ stem ++ last ∷ [] = last_is text last (omega (arith, wide, leaves.some)) ends in
    let is : bound ≡ (before ++ stem) ++ (last ∷ behind) =
    leaves.is ∙ ap (λ t. before ++ t) (rest_is ∙ ap (λ t. t ++ behind) whole ∙ append_assoc stem (last ∷ []) behind) ∙ sym (append_assoc before stem (last ∷ behind)) in
    let long : length (before ++ stem) ≡ cut = omega (arith, cut_is, ap length is, length-append (before ++ stem) (last ∷ behind)) in
    let front_same : front ≡ before ++ stem = front_is ∙ ap (take cut) is ∙ take_at (before ++ stem) (last ∷ behind) cut long in
    ap (is_below key) is
    ∙ alike (before ++ stem) (last ∷ behind) ((last + 1) ∷ []) key (λ rest begins.
    next_byte last behind rest (λ more goes.
    subst (λ t. is_below more t ≡ true) (sym tail.1)
    (below_after end.is_last after tail.0 more (above_after end.is_last after above)
    (leaves.follows key text more fit
    (begins ∙ ap (λ t. (before ++ stem) ++ t) goes ∙ append_assoc before stem (last ∷ more) ∙ ap (λ t. before ++ t) (sym (append_assoc stem (last ∷ []) more) ∙ ap (λ t. t ++ more) (sym whole))) wide))))
    ∙ ap (λ t. is_below key (t ++ (last + 1) ∷ [])) (sym front_same)

-- ---- ranges

-- ranges whose bounds split alike hold the same keys that fit
bounds_hold : (output : Pattern) (r s : Range) (low high : Text) → SplitAlike output r.low low → SplitAlike output r.high high → s ≡ record { low = low; high = high } → HoldSameFitting output r s
bounds_hold output r s low high a b is = λ key fit.
    let lows : is_below key s.low ≡ is_below key r.low = ap (λ (t : Range). is_below key t.low) is ∙ sym (a key fit) in
    let highs : is_below key s.high ≡ is_below key r.high = ap (λ (t : Range). is_below key t.high) is ∙ sym (b key fit) in
    let ups : is_up_to s.low key ≡ is_up_to r.low key = up_to-not_below s.low key ∙ ap not lows ∙ sym (up_to-not_below r.low key) in
    (λ i. ups i && highs i)

-- and so does the range itself
pub hold_same : (output : Pattern) (r s : Range) (low high : Text) → SplitAlike output r.low low → SplitAlike output r.high high → (s ≡ record { low = low; high = high }) ⊎ (s ≡ r) → HoldSameFitting output r s
hold_same output r s low high a b (inl is) = bounds_hold output r s low high a b is
hold_same output r s low high a b (inr is) = λ key fit. ap (λ t. within t key) is

none_both : (x y : Bool) → ◌≡◌ {A = Option Text} (cond x None None) (cond y None None)
none_both true true = refl
none_both true false = refl
none_both false true = refl
none_both false false = refl

-- at a key
same_value : (j : Join) (r s : Range) (table : Table) (q : Text) (o : Option Text) → is_join j ≡ true → HoldSameFitting j.output r s → value_at q (out j table) ≡ o →
    cond (within s q) (value_at q (out j table)) None ≡ cond (within r q) (value_at q (out j table)) None
same_value j r s table q None ok h e = ap (λ v. cond (within s q) v None) e ∙ none_both (within s q) (within r q) ∙ ap (λ v. cond (within r q) v None) (sym e)
same_value j r s table q (Some v) ok h e = ap (λ x. cond x (value_at q (out j table)) None) (h q (out_keys_fit j table q ok (ap is_some e)))

-- a join gives the same in ranges that hold the same keys that fit its output
pub give_same : (j : Join) (r s : Range) → is_join j ≡ true → HoldSameFitting j.output r s → GiveSame j r s
give_same j r s ok h = λ table.
    same_tables (pairs_within s (out j table)) (pairs_within r (out j table)) (ascending-pairs_within s (out j table) (ascending-out j table)) (ascending-pairs_within r (out j table) (ascending-out j table))
    (λ q. value_at-pairs_within s q (out j table) ∙ same_value j r s table q (value_at q (out j table)) ok h refl ∙ sym (value_at-pairs_within r q (out j table)))
