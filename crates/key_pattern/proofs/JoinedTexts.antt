-- A key's text that is joined, segment by segment.
use Rattle.std.proofs.Common.{◌≡◌, ℕ, zero, suc, ◌+◌, ◌<◌, ◌≤◌, Bool, true, false, cond, List, [], ◌∷◌, ◌++◌, length, drop, get_or, Option, Some, None, is_some, option_map, option_and_then, refl, sym, ap, ◌∙◌, subst, append_assoc, arith}
use Rattle.std.specs.List.{join_with_byte}
use Rattle.std.proofs.lemmas.Bool.{false≢true}
use Rattle.std.proofs.lemmas.List.{append-nil, drop_more, drop_all}
use Rattle.std.proofs.lemmas.Option.{none-some, same_Some}
use Rattle.semantics.specs.Texts.{Text, bar}
use Rattle.semantics.specs.Patterns.{Segment, Pattern, Slots, segment_text, segment_texts}
use Rattle.key_pattern.specs.Pieces.{AddsSegment}

-- the texts, each after the separator, which is `|` from the second on
abbrev pub joined_after : Text → List Text → Text
joined_after separator [] = []
joined_after separator (t ∷ ts) = separator ++ t ++ joined_after (bar ∷ []) ts

joined_bar : (t : Text) (ts : List Text) → joined_after (bar ∷ []) (t ∷ ts) ≡ bar ∷ join_with_byte bar (t ∷ ts)
joined_bar t [] = ap (λ s. bar ∷ s) (append-nil t)
joined_bar t (u ∷ us) = ap (λ s. bar ∷ (t ++ s)) (joined_bar u us)

-- the texts, joined with `|` between each two
pub joined_nothing : (ts : List Text) → joined_after [] ts ≡ join_with_byte bar ts
joined_nothing [] = refl
joined_nothing (t ∷ []) = append-nil t
joined_nothing (t ∷ u ∷ us) = ap (λ s. t ++ s) (joined_bar u us)

-- nothing is joined at first
pub join_none : (o : Option (List Text)) → option_map (λ ts. [] ++ joined_after [] ts) o ≡ option_map (join_with_byte bar) o
join_none None = refl
join_none (Some ts) = ap Some (joined_nothing ts)

join_by : (out separator next : Text) (o : Option Text) (r : Option (List Text)) → option_map (λ t. out ++ separator ++ t) o ≡ Some next
    → option_map (λ ts. next ++ joined_after (bar ∷ []) ts) r ≡ option_map (λ ts. out ++ joined_after separator ts) (option_and_then (λ t. option_map (λ ts. t ∷ ts) r) o)
join_by out separator next None r h = absurd (none-some next h)
join_by out separator next (Some t) None h = refl
join_by out separator next (Some t) (Some us) h =
    ap (λ n. Some (n ++ joined_after (bar ∷ []) us)) (sym (same_Some _ _ h))
    ∙ ap Some (ap (λ n. n ++ joined_after (bar ∷ []) us) (append_assoc out separator t) ∙ append_assoc out (separator ++ t) (joined_after (bar ∷ []) us))

-- one more segment is joined
pub join_more : (p : Pattern) (given : Slots) (i : ℕ) (s : Segment) (out separator next : Text) → i < length p → s ≡ get_or p i s
    → AddsSegment s given (out ++ separator) next
    → option_map (λ ts. next ++ joined_after (bar ∷ []) ts) (segment_texts (drop (i + 1) p) given)
    ≡ option_map (λ ts. out ++ joined_after separator ts) (segment_texts (drop i p) given)
join_more p given i s out separator next within at h =
    let split : drop i p ≡ s ∷ drop (i + 1) p = drop_more p i s within ∙ ap (λ r. r ∷ drop (i + 1) p) (sym at) in
    join_by out separator next (segment_text s given) (segment_texts (drop (i + 1) p) given) h
    ∙ ap (λ q. option_map (λ ts. out ++ joined_after separator ts) (segment_texts q given)) (sym split)

-- all segments are joined
pub join_all : (p : Pattern) (given : Slots) (i : ℕ) (out separator : Text) → length p ≤ i
    → option_map (λ ts. out ++ joined_after separator ts) (segment_texts (drop i p) given) ≡ Some out
join_all p given i out separator end =
    ap (λ q. option_map (λ ts. out ++ joined_after separator ts) (segment_texts q given)) (drop_all i p end) ∙ ap Some (append-nil out)

-- ---- what is set

-- what goes on with some began with some
pub began : {A B : Type 0} (f : A → Option B) (o : Option A) → is_some (option_and_then f o) ≡ true → is_some o ≡ true
began f None h = absurd (false≢true h)
began f (Some x) h = refl

went : {A : Type 0} (o : Option A) (r : Option (List A)) → is_some (option_and_then (λ t. option_map (λ ts. t ∷ ts) r) o) ≡ true → is_some r ≡ true
went None r h = absurd (false≢true h)
went (Some x) None h = absurd (false≢true h)
went (Some x) (Some r) h = refl

-- each segment has a text, where all have
pub set_at : (p : Pattern) (given : Slots) (i : ℕ) (s : Segment) → is_some (segment_texts p given) ≡ true → i < length p → s ≡ get_or p i s → is_some (segment_text s given) ≡ true
set_at [] given i s h within at = absurd (omega arith)
set_at (x ∷ xs) given zero s h within at = subst (λ r. is_some (segment_text r given) ≡ true) (sym at) (began _ (segment_text x given) h)
set_at (x ∷ xs) given (suc i) s h within at = set_at xs given i s (went (segment_text x given) (segment_texts xs given) h) (omega arith) at

-- a text that passes is the one
pub passes : {A : Type 0} (b : Bool) (x : A) → is_some (cond b (Some x) None) ≡ true → cond b (Some x) None ≡ Some x
passes true x h = refl
passes false x h = absurd (false≢true h)
