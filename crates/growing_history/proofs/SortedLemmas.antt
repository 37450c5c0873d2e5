-- Ascending lists of keys.
use Rattle.std.proofs.Common.{◌≡◌, not, List, [], ◌∷◌, Less, Equal, is_lt, refl, sym, ap, ◌∙◌, subst, inl, inr, ⊎_elim}
use Rattle.std.specs.List.Sorted.{IsStrictlySortedBy}
use Rattle.std.proofs.lemmas.Bool.{false≢true}
use Rattle.semantics.specs.Texts.{Text, text_cmp}
use Rattle.semantics.proofs.MemberLemmas.{Has}
use Rattle.semantics.proofs.TableLemmas.{tie_itself}
use Rattle.growing_history.proofs.ElementLemmas.{has_of_all}
use Rattle.key_ranges.proofs.OrderLemmas.{up_to-not_below, up_to_from_below}

-- no key is below itself
pub never_less : (key : Text) → text_cmp key key ≡ Less → ⊥
never_less key e = let tie : text_cmp key key ≡ Equal = tie_itself key in let bad : Less ≡ Equal = sym e ∙ tie in cc

-- nor are two keys below each other
not_both : (a b : Text) → text_cmp a b ≡ Less → text_cmp b a ≡ Less → ⊥
not_both a b less more = false≢true (sym (up_to-not_below a b ∙ ap (λ o. not (is_lt o)) more) ∙ up_to_from_below a b (ap is_lt less))

-- ascending lists with the same keys are the same
pub same_sorted : (xs ys : List Text) → IsStrictlySortedBy text_cmp xs → IsStrictlySortedBy text_cmp ys → ((key : Text) → Has xs key → Has ys key) → ((key : Text) → Has ys key → Has xs key) → xs ≡ ys
unfolding IsStrictlySortedBy
same_sorted [] [] up other to back = refl
same_sorted [] (y ∷ ys) up other to back = absurd (back y (inl refl))
same_sorted (x ∷ xs) [] up other to back = absurd (to x (inl refl))
same_sorted (x ∷ xs) (y ∷ ys) up other to back =
    let above_x : (key : Text) → Has xs key → text_cmp x key ≡ Less = λ key h. has_of_all (λ k. text_cmp x k ≡ Less) xs key up.0 h in
    let above_y : (key : Text) → Has ys key → text_cmp y key ≡ Less = λ key h. has_of_all (λ k. text_cmp y k ≡ Less) ys key other.0 h in
    let heads : x ≡ y = ⊎_elim
    (λ (e : y ≡ x). sym e)
    (λ (later : Has ys x). ⊎_elim
    (λ (e : x ≡ y). e)
    (λ (behind : Has xs y). absurd (not_both x y (above_x y behind) (above_y x later)))
    (back y (inl refl)))
    (to x (inl refl)) in
    let tails : xs ≡ ys = same_sorted xs ys up.1 other.1
    (λ key h. ⊎_elim
    (λ (e : y ≡ key). absurd (never_less x (subst (λ k. text_cmp x k ≡ Less) (sym (heads ∙ e)) (above_x key h))))
    (λ (later : Has ys key). later)
    (to key (inr h)))
    (λ key h. ⊎_elim
    (λ (e : x ≡ key). absurd (never_less y (subst (λ k. text_cmp y k ≡ Less) (sym (sym heads ∙ e)) (above_y key h))))
    (λ (later : Has xs key). later)
    (back key (inr h))) in
    ap (λ k. k ∷ xs) heads ∙ ap (λ ks. y ∷ ks) tails
