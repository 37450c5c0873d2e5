-- The bounds of ranges that are made of others, of a beginning and of a key.
use Rattle.std.proofs.Common.{◌≡◌, ◌≢◌, ℕ, Bool, true, false, nat_eq, [], ◌∷◌, ◌++◌, refl, sym, ap, ◌∙◌, subst}
use Rattle.std.specs.List.{ends_with}
use Rattle.std.proofs.lemmas.Bool.{false≢true, false_from_ne_true}
use Rattle.semantics.specs.Texts.{Text, bar, brace, same, is_key, is_range, Range}
use Rattle.semantics.proofs.PieceLemmas.{equal_by_same, same_itself}
use Rattle.key_ranges.specs.Ranges.{without_last, meets, later, earlier}
use Rattle.key_ranges.proofs.PrefixLemmas.{last_byte, without_last_push, closed_push}
use Rattle.key_ranges.proofs.RangeLemmas.{common_is_range, prefix_range_is_range, just_is_range}

-- equal bounds are a range too
same_bounds : (low high low' high' : Text) → low ≡ low' → high ≡ high' → is_range low' high' ≡ true → is_range low high ≡ true
same_bounds low high low' high' e f h = rw (e, f) h

-- the bounds of the common part of two ranges that meet
pub cut_bounds : (r s r' s' : Range) (low high : Text) → r ≡ r' → s ≡ s' → is_range r.low r.high ≡ true → is_range s.low s.high ≡ true → meets r' s' ≡ true → low ≡ later r.low s.low → high ≡ earlier r.high s.high → is_range low high ≡ true
cut_bounds r s r' s' low high e f hr hs h is_low is_high =
    same_bounds low high (later r.low s.low) (earlier r.high s.high) is_low is_high (common_is_range r s hr hs (rw (e, f) h))

-- the bounds of the range of all texts that begin with a key that ends with `|`
pub prefix_bounds : (prefix front low high : Text) → is_key prefix ≡ true → prefix ≡ front ++ bar ∷ [] → low ≡ prefix → high ≡ front ++ brace ∷ [] → is_range low high ≡ true
prefix_bounds prefix front low high key e is_low is_high =
    same_bounds low high (front ++ bar ∷ []) (front ++ brace ∷ []) (is_low ∙ e) is_high
    (subst (λ t. is_range (front ++ bar ∷ []) t ≡ true) (closed_push front bar) (prefix_range_is_range front (subst (λ t. is_key t ≡ true) e key)))

-- a text that ends with `|` is another with `|` behind it
pub has_front : (prefix : Text) → ends_with nat_eq prefix (bar ∷ []) ≡ true → ((front : Text) → prefix ≢ front ++ bar ∷ []) → ⊥
has_front prefix h none = none (without_last prefix) (last_byte prefix bar h)

-- the bounds of the range of one key
pub just_bounds : (key low high : Text) → is_key key ≡ true → low ≡ key → high ≡ key ++ 0 ∷ [] → is_range low high ≡ true
just_bounds key low high h is_low is_high = same_bounds low high key (key ++ 0 ∷ []) is_low is_high (just_is_range key h)

-- texts with a byte more are the same where they are the same without it
same_push_by : (t u : Text) (b : ℕ) (x : Bool) → same t u ≡ x → same (t ++ b ∷ []) (u ++ b ∷ []) ≡ x
same_push_by t u b true e = ap (λ v. same (t ++ b ∷ []) (v ++ b ∷ [])) (sym (equal_by_same t u e)) ∙ same_itself (t ++ b ∷ [])
same_push_by t u b false e = false_from_ne_true _ (λ h.
    let is : t ≡ u = sym (without_last_push t b) ∙ ap without_last (equal_by_same (t ++ b ∷ []) (u ++ b ∷ []) h) ∙ without_last_push u b in
    false≢true (sym e ∙ ap (same t) (sym is) ∙ same_itself t))

-- a last bound that ends with byte 0 is the first bound and that byte where the text in front of it is the first bound
pub single_by_front : (low high front shown : Text) → shown ≡ low → high ≡ front ++ 0 ∷ [] → same high (low ++ 0 ∷ []) ≡ same front shown
single_by_front low high front shown is ends = ap (λ t. same t (low ++ 0 ∷ [])) ends ∙ same_push_by front low 0 (same front low) refl ∙ ap (same front) (sym is)

-- a last bound that does not end with byte 0 is not the first bound and that byte
pub single_without_front : (low high : Text) → ((front : Text) → high ≢ front ++ 0 ∷ []) → same high (low ++ 0 ∷ []) ≡ false
single_without_front low high none = false_from_ne_true _ (λ h. none low (equal_by_same high (low ++ 0 ∷ []) h))
