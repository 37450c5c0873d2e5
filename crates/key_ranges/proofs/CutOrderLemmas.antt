-- The order of texts that are cut, and the longest beginning of a text that ends at a character.
use Rattle.std.proofs.Common.{◌≡◌, ◌⊎◌, ℕ, zero, suc, ◌<◌, ◌≤◌, Bool, true, false, cond, nat_le, [], ◌∷◌, ◌++◌, length, take, drop, Some, None, refl, sym, ap, ◌∙◌, subst, inl, inr, ⊎_elim, arith, is_lt, append-nil, leb-true}
use Rattle.std.specs.Ordering.{is_le}
use Rattle.std.proofs.lemmas.Bool.{false≢true, cases_order, true_from_ne_false, or_cases, leb-false}
use Rattle.std.proofs.lemmas.List.{take-append-drop, length-take, length-take-le}
use Rattle.std.proofs.lemmas.Option.{same_Some, cond_some}
use Rattle.semantics.specs.Texts.{Text, brace, same}
use Rattle.semantics.proofs.PieceLemmas.{equal_by_same}
use Rattle.key_ranges.specs.Ranges.{is_below}
use Rattle.key_ranges.specs.Containing.{begins_character, whole_beginning, narrowed_end}
use Rattle.key_ranges.proofs.OrderLemmas.{is_up_to, up_to_from_below, up_to_from_not_below, not_up_to_from_below, up_to_trans, below_up_to, up_to_is}
use Rattle.key_ranges.proofs.PrefixLemmas.{less_is, equal_is, greater_is, text_cmp-append, nothing_up_to}
use Rattle.key_ranges.proofs.OpenLemmas.{EndsSegment}

-- ---- texts with more behind them

-- a text is up to itself with more behind it
pub beginning_up_to : (t more : Text) → is_up_to t (t ++ more) ≡ true
beginning_up_to t more = subst (λ u. is_up_to u (t ++ more) ≡ true) (append-nil t) (ap is_le (text_cmp-append t [] more) ∙ nothing_up_to more)

-- a text up to another with more behind it is up to that one alone, where it is no longer
pub up_to_cut : (a t more : Text) → length a ≤ length t → is_up_to a (t ++ more) ≡ true → is_up_to a t ≡ true
up_to_cut [] t more long h = nothing_up_to t
up_to_cut (b ∷ bs) [] more long h = absurd (omega arith)
up_to_cut (b ∷ bs) (c ∷ cs) more long h =
    ⊎_elim (λ (e : b ≡ c). rw (equal_is b c e) (up_to_cut bs cs more (omega arith) (rw (equal_is b c e) at h)))
    (λ other. ⊎_elim (λ (l : b < c). rw (less_is b c l)) (λ g. absurd (false≢true (rw (greater_is b c g) at h))) other)
    (cases_order b c)

-- a text with more behind it that is below another is so with anything behind it, where the other is no longer
pub below_cut : (t more other b : Text) → length b ≤ length t → is_below (t ++ more) b ≡ true → is_below (t ++ other) b ≡ true
below_cut t more other b long h =
    true_from_ne_false (is_below (t ++ other) b) (λ e.
    let up = up_to_cut b t other long (up_to_from_not_below (t ++ other) b e) in
    false≢true (sym (not_up_to_from_below (t ++ more) b h) ∙ up_to_trans b t (t ++ more) up (beginning_up_to t more)))

-- what follows a segment is below `}`
ends_below : (rest : Text) → EndsSegment rest → is_below rest (brace ∷ []) ≡ true
ends_below [] h = refl
ends_below (b ∷ bs) h = rw (less_is b brace (omega (arith, h)))

-- a text with more behind it that is below another of its length with more behind it is, as a segment, below the other with `}` behind it
pub below_closed : (t more rest u over : Text) → length t ≡ length u → EndsSegment rest → is_below (t ++ more) (u ++ over) ≡ true → is_below (t ++ rest) (u ++ brace ∷ []) ≡ true
below_closed t more rest u over long ends h =
    let up : is_up_to t u ≡ true = up_to_cut t u over (omega (arith, long)) (up_to_trans t (t ++ more) (u ++ over) (beginning_up_to t more) (up_to_from_below (t ++ more) (u ++ over) h)) in
    ⊎_elim
    (λ (b : is_below t u ≡ true). below_up_to (t ++ rest) u (u ++ brace ∷ [])
    (below_cut t [] rest u (omega (arith, long)) (subst (λ v. is_below v u ≡ true) (sym (append-nil t)) b)) (beginning_up_to u (brace ∷ [])))
    (λ s. subst (λ v. is_below (t ++ rest) (v ++ brace ∷ []) ≡ true) (equal_by_same t u s) (ap is_lt (text_cmp-append t rest (brace ∷ [])) ∙ ends_below rest ends))
    (or_cases (is_below t u) (same t u) (sym (up_to_is t u) ∙ up))

-- ---- beginnings that end at a character

-- a beginning of a text of at most n bytes
abbrev IsShortBeginning : ℕ → Text → Text → Type 0
IsShortBeginning n t front = (rest : Text) × (t ≡ front ++ rest) × (length front ≤ n)

-- at the next byte, or before
whole_by : (n : ℕ) (t : Text) (x : Bool) → IsShortBeginning n t (whole_beginning n t) → IsShortBeginning (suc n) t (cond x (take (suc n) t) (whole_beginning n t))
whole_by n t true ih = (drop (suc n) t, sym (take-append-drop (suc n) t), omega (arith, length-take (suc n) t))
whole_by n t false ih = (ih.0, ih.1, omega (arith, ih.2))

-- the longest beginning of at most n bytes that ends at a character is one
pub whole_begins : (n : ℕ) (t : Text) → (rest : Text) × (t ≡ whole_beginning n t ++ rest) × (length (whole_beginning n t) ≤ n)
whole_begins zero t = (t, refl, omega arith)
whole_begins (suc n) t = whole_by n t (begins_character (drop (suc n) t)) (whole_begins n t)

-- that beginning is up to a text of n bytes, where the whole is up to it with more behind it
pub whole_up_to : (n : ℕ) (t u more : Text) → length u ≡ n → is_up_to t (u ++ more) ≡ true → is_up_to (whole_beginning n t) u ≡ true
whole_up_to n t u more long h =
    let w = whole_begins n t in
    let front = whole_beginning n t in
    let up : is_up_to front t ≡ true = subst (λ v. is_up_to front v ≡ true) (sym w.1) (beginning_up_to front w.0) in
    up_to_cut front u more (omega (arith, w.2, long)) (up_to_trans front t (u ++ more) up h)

-- ---- what a narrowed last bound ends with

-- the parts of what is cut
record IsCut (n : ℕ) (t end : Text) : Type 0 where
  is : end ≡ take n t ++ brace ∷ []
  long : length (take n t) ≡ n
  whole : t ≡ take n t ++ drop n t

-- it is the whole rest, or the rest is cut behind n bytes
end_by : (n : ℕ) (t end : Text) (x : Bool) → nat_le (length t) n ≡ x → cond x (Some t) (cond (begins_character (drop n t)) (Some (take n t ++ brace ∷ [])) None) ≡ Some end
    → ((length t ≤ n) × (end ≡ t)) ⊎ IsCut n t end
end_by n t end true e h = inl (leb-true (length t) n e, sym (same_Some t end h))
end_by n t end false e h =
    let over = leb-false (length t) n e in
    inr (record {
      is = sym (cond_some (begins_character (drop n t)) (take n t ++ brace ∷ []) end h).1;
      long = length-take-le n t (omega (arith, over));
      whole = sym (take-append-drop n t);
    })

-- a segment of n bytes that is below the rest of a last bound with anything behind it is below what the narrowed bound ends with
pub below_end : (n : ℕ) (t end u more rest : Text) → length u ≡ n → EndsSegment rest → is_below (u ++ more) t ≡ true → narrowed_end n t ≡ Some end → is_below (u ++ rest) end ≡ true
below_end n t end u more rest long ends h is =
    ⊎_elim
    (λ (w : (length t ≤ n) × (end ≡ t)). subst (λ e. is_below (u ++ rest) e ≡ true) (sym w.1) (below_cut u more rest t (omega (arith, w.0, long)) h))
    (λ w. subst (λ e. is_below (u ++ rest) e ≡ true) (sym w.is)
    (below_closed u more rest (take n t) (drop n t) (long ∙ sym w.long) ends (subst (λ v. is_below (u ++ more) v ≡ true) w.whole h)))
    (end_by n t end (nat_le (length t) n) refl is)

-- of two rests in order, the first one's beginning that ends at a character is up to what the narrowed last bound ends with
pub whole_up_to_end : (n : ℕ) (low high end : Text) → is_up_to low high ≡ true → narrowed_end n high ≡ Some end → is_up_to (whole_beginning n low) end ≡ true
whole_up_to_end n low high end ascend is =
    let w = whole_begins n low in
    let front = whole_beginning n low in
    let up : is_up_to front low ≡ true = subst (λ v. is_up_to front v ≡ true) (sym w.1) (beginning_up_to front w.0) in
    ⊎_elim
    (λ (c : (length high ≤ n) × (end ≡ high)). subst (λ e. is_up_to front e ≡ true) (sym c.1) (up_to_trans front low high up ascend))
    (λ c. subst (λ e. is_up_to front e ≡ true) (sym c.is)
    (up_to_trans front (take n high) (take n high ++ brace ∷ []) (whole_up_to n low (take n high) (drop n high) c.long (subst (λ v. is_up_to low v ≡ true) c.whole ascend)) (beginning_up_to (take n high) (brace ∷ []))))
    (end_by n high end (nat_le (length high) n) refl is)
