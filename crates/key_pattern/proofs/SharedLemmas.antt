-- The segments that two bounds share, one by one.
use Rattle.std.proofs.Common.{◌≡◌, ℕ, Bool, true, false, cond, ◌==◌, nat_eq, List, [], ◌∷◌, ◌++◌, filter, map, length, take, ◌+◌, ◌-◌, arith, length-append, refl, sym, ap, ◌∙◌, subst, append_assoc, append-nil, eqb-true}
use Rattle.std.specs.Ordering.{is_le, is_lt}
use Rattle.std.specs.List.{starts_with}
use Rattle.std.proofs.Math.Seq.{take-append-add}
use Rattle.std.proofs.lemmas.Bool.{and_from, and_right, or_from, or_parts, false≢true, false_from_ne_true}
use Rattle.semantics.specs.Texts.{Text, bar, brace, same, is_range, Range}
use Rattle.semantics.specs.Patterns.{Pattern, Slots, no_slots, segments}
use Rattle.semantics.proofs.PieceLemmas.{Lacks, pieces-append, pieces_lacking}
use Rattle.key_ranges.specs.Ranges.{is_below, without_last, closed}
use Rattle.key_ranges.specs.Containing.{barred_from, barred, holds_bounds, last_or_empty, shared_beginning, take_first, bind_range}
use Rattle.key_ranges.proofs.OrderLemmas.{is_up_to, up_to_itself, up_to_trans, up_to_below}
use Rattle.key_ranges.proofs.PrefixLemmas.{rest_of, without_last_push, closed_push, text_cmp-append, nothing_up_to, within-prefix_range}
use Rattle.key_ranges.proofs.BeginningLemmas.{barred_from-append, shared_is_beginning, holds_bounds_is}
use Rattle.key_space.specs.Parts.{ends_table}
use Rattle.key_space.proofs.NameLemmas.{ends_after, ends_without}
use Rattle.key_pattern.specs.Shared.{bounds, closed_segments, shared_segments}

-- ---- the beginnings of a text behind its first segment

-- a text without `|` has none
barred-lacking : (before t : Text) → Lacks bar t → barred_from before t ≡ []
barred-lacking before [] h = refl
barred-lacking before (b ∷ bs) h =
    let parts = or_parts (b == bar) _ h in
    rw parts.0 (barred-lacking (before ++ b ∷ []) bs parts.1)

-- the first of them is the first segment with its `|`
barred-first : (first rest : Text) → Lacks bar first → barred (first ++ bar ∷ rest) ≡ (first ++ bar ∷ []) ∷ barred_from (first ++ bar ∷ []) rest
barred-first first rest h = barred_from-append [] first (bar ∷ rest) ∙ ap (λ l. l ++ barred_from first (bar ∷ rest)) (barred-lacking [] first h)

-- ---- what passes among them

-- what fails at each text that goes on from f to `|`
abbrev FailsFrom : (Text → Bool) → Text → Type 0
FailsFrom test f = (u : Text) → test (f ++ u ++ bar ∷ []) ≡ false

-- one byte more, which is `|` or not
none_by : (test : Text → Bool) (f before : Text) (b : ℕ) (bs : Text) (x : Bool) → (b == bar) ≡ x → FailsFrom test f
    → filter test (barred_from ((f ++ before) ++ b ∷ []) bs) ≡ [] → filter test (barred_from (f ++ before) (b ∷ bs)) ≡ []
none_by test f before b bs true e fails ih =
    let none : test ((f ++ before) ++ b ∷ []) ≡ false = subst (λ c. test ((f ++ before) ++ c ∷ []) ≡ false) (sym (eqb-true b bar e)) (fails before) in
    rw (e, none) ih
none_by test f before b bs false e fails ih = rw e ih

-- then none of those beginnings passes
none_pass : (test : Text → Bool) (f before t : Text) → FailsFrom test f → filter test (barred_from (f ++ before) t) ≡ []
none_pass test f before [] fails = refl
none_pass test f before (b ∷ bs) fails =
    none_by test f before b bs (b == bar) refl fails
    (subst (λ u. filter test (barred_from u bs) ≡ []) (sym (append_assoc f before (b ∷ []))) (none_pass test f (before ++ b ∷ []) bs fails))

-- the same of those that go on from f alone
none_from : (test : Text → Bool) (f t : Text) → FailsFrom test f → filter test (barred_from f t) ≡ []
none_from test f t fails = subst (λ u. filter test (barred_from u t) ≡ []) (append-nil f) (none_pass test f [] t fails)

-- bounds with one text before both hold what bounds without it hold
holds-append : (f low high u : Text) → holds_bounds (bounds (f ++ low) (f ++ high)) (f ++ u ++ bar ∷ []) ≡ holds_bounds (bounds low high) (u ++ bar ∷ [])
holds-append f low high u =
    let q = u ++ bar ∷ [] in
    let whole : f ++ u ++ bar ∷ [] ≡ f ++ q = append_assoc f u (bar ∷ []) in
    let end : closed (f ++ u ++ bar ∷ []) ≡ f ++ closed q = closed_push (f ++ u) bar ∙ append_assoc f u (brace ∷ []) ∙ ap (λ t. f ++ t) (sym (closed_push u bar)) in
    rw (end, whole, text_cmp-append f q low, text_cmp-append f high (closed q)) refl

-- the beginnings that bounds hold, with one text before each
abbrev Held : Text → Text → Text → Text → Text → Type 0
Held f low high before t =
    filter (holds_bounds (bounds (f ++ low) (f ++ high))) (barred_from (f ++ before) t) ≡ map (λ q. f ++ q) (filter (holds_bounds (bounds low high)) (barred_from before t))

-- one more, which is held or not
kept_by : (r s : Range) (f q : Text) (us vs : List Text) (x : Bool) → holds_bounds s q ≡ x → holds_bounds r (f ++ q) ≡ x → filter (holds_bounds r) us ≡ map (λ q. f ++ q) (filter (holds_bounds s) vs)
    → filter (holds_bounds r) ((f ++ q) ∷ us) ≡ map (λ q. f ++ q) (filter (holds_bounds s) (q ∷ vs))
kept_by r s f q us vs true e h ih = rw (e, h) (ap (λ l. (f ++ q) ∷ l) ih)
kept_by r s f q us vs false e h ih = rw (e, h) ih

-- one byte more, which is `|` or not
held_by : (f low high before : Text) (b : ℕ) (bs : Text) (x : Bool) → (b == bar) ≡ x → Held f low high (before ++ b ∷ []) bs → Held f low high before (b ∷ bs)
held_by f low high before b bs true e ih =
    let r = bounds (f ++ low) (f ++ high) in
    let s = bounds low high in
    let q = before ++ b ∷ [] in
    let whole : (f ++ before) ++ b ∷ [] ≡ f ++ q = append_assoc f before (b ∷ []) in
    let same : holds_bounds r (f ++ q) ≡ holds_bounds s q =
    subst (λ c. holds_bounds r (f ++ (before ++ c ∷ [])) ≡ holds_bounds s (before ++ c ∷ [])) (sym (eqb-true b bar e))
    (ap (holds_bounds r) (sym (append_assoc f before (bar ∷ []))) ∙ holds-append f low high before) in
    rw (e, whole) (kept_by r s f q (barred_from (f ++ q) bs) (barred_from q bs) (holds_bounds s q) refl same ih)
held_by f low high before b bs false e ih =
    let whole : (f ++ before) ++ b ∷ [] ≡ f ++ (before ++ b ∷ []) = append_assoc f before (b ∷ []) in
    rw (e, whole) ih

held : (f low high before t : Text) → Held f low high before t
held f low high before [] = refl
held f low high before (b ∷ bs) = held_by f low high before b bs (b == bar) refl (held f low high (before ++ b ∷ []) bs)

-- the same of those that go on from f alone
held_from : (f low high : Text) → filter (holds_bounds (bounds (f ++ low) (f ++ high))) (barred_from f low) ≡ map (λ q. f ++ q) (filter (holds_bounds (bounds low high)) (barred low))
held_from f low high =
    subst (λ u. filter (holds_bounds (bounds (f ++ low) (f ++ high))) (barred_from u low) ≡ map (λ q. f ++ q) (filter (holds_bounds (bounds low high)) (barred low))) (append-nil f)
    (held f low high [] low)

-- the last of texts with one before each, behind that one alone
last_front : (f : Text) (ts : List Text) → last_or_empty (f ∷ map (λ q. f ++ q) ts) ≡ f ++ last_or_empty ts
last_front f [] = sym (append-nil f)
last_front f (t ∷ []) = refl
last_front f (t ∷ u ∷ us) = last_front f (u ∷ us)

-- ---- the shared beginning, by the first segment

-- the first beginning, which is held or not, and the others
first_kept : (r : Range) (q : Text) (ts : List Text) (x : Bool) → holds_bounds r q ≡ x → filter (holds_bounds r) (q ∷ ts) ≡ cond x (q ∷ filter (holds_bounds r) ts) (filter (holds_bounds r) ts)
first_kept r q ts true e = rw e refl
first_kept r q ts false e = rw e refl

-- what bounds hold, where the first begins with a segment
filter-first : (first rest high : Text) (x : Bool) → Lacks bar first → holds_bounds (bounds (first ++ bar ∷ rest) high) (first ++ bar ∷ []) ≡ x
    → filter (holds_bounds (bounds (first ++ bar ∷ rest) high)) (barred (first ++ bar ∷ rest))
    ≡ cond x
    ((first ++ bar ∷ []) ∷ filter (holds_bounds (bounds (first ++ bar ∷ rest) high)) (barred_from (first ++ bar ∷ []) rest))
    (filter (holds_bounds (bounds (first ++ bar ∷ rest) high)) (barred_from (first ++ bar ∷ []) rest))
filter-first first rest high x lacks e =
    let r = bounds (first ++ bar ∷ rest) high in
    ap (filter (holds_bounds r)) (barred-first first rest lacks) ∙ first_kept r (first ++ bar ∷ []) (barred_from (first ++ bar ∷ []) rest) x e

-- the first bound begins with the first segment
first_up_to : (first rest : Text) → is_up_to (first ++ bar ∷ []) (first ++ bar ∷ rest) ≡ true
first_up_to first rest = ap is_le (text_cmp-append first (bar ∷ []) (bar ∷ rest)) ∙ nothing_up_to rest

-- where both begin with the first segment and `|`, they share it and what the rests share
pub shared_both : (first low high : Text) → Lacks bar first
    → shared_beginning (bounds (first ++ bar ∷ low) (first ++ bar ∷ high)) ≡ (first ++ bar ∷ []) ++ shared_beginning (bounds low high)
shared_both first low high lacks =
    let f = first ++ bar ∷ [] in
    let r = bounds (first ++ bar ∷ low) (first ++ bar ∷ high) in
    let holds : holds_bounds r f ≡ true = and_from _ _ (first_up_to first low) (rw closed_push (ap is_le (text_cmp-append first (bar ∷ high) (brace ∷ [])))) in
    let low_apart = subst (λ t. filter (holds_bounds (bounds t (f ++ high))) (barred_from f low) ≡ map (λ q. f ++ q) (filter (holds_bounds (bounds low high)) (barred low))) (append_assoc first (bar ∷ []) low) (held_from f low high) in
    let rests = subst (λ t. filter (holds_bounds (bounds (first ++ bar ∷ low) t)) (barred_from f low) ≡ map (λ q. f ++ q) (filter (holds_bounds (bounds low high)) (barred low))) (append_assoc first (bar ∷ []) high) low_apart in
    ap last_or_empty (filter-first first low (first ++ bar ∷ high) true lacks holds ∙ ap (λ l. f ∷ l) rests) ∙ last_front f (filter (holds_bounds (bounds low high)) (barred low))

-- what goes on from the first segment and `|` is below that segment with `}`
closed_from : (first u : Text) → closed ((first ++ bar ∷ []) ++ u ++ bar ∷ []) ≡ first ++ bar ∷ (u ++ brace ∷ [])
closed_from first u =
    let f = first ++ bar ∷ [] in
    closed_push (f ++ u) bar ∙ append_assoc f u (brace ∷ []) ∙ append_assoc first (bar ∷ []) (u ++ brace ∷ [])

-- a last bound that is not below what goes on from the first segment is not held by it
not_held : (r : Range) (first u : Text) → is_up_to r.high (first ++ bar ∷ (u ++ brace ∷ [])) ≡ false → holds_bounds r ((first ++ bar ∷ []) ++ u ++ bar ∷ []) ≡ false
not_held r first u h = and_right _ _ (ap (is_up_to r.high) (closed_from first u) ∙ h)

-- where the last bound is the first segment and `}`, they share that segment alone
pub shared_end : (first low : Text) → Lacks bar first → shared_beginning (bounds (first ++ bar ∷ low) (first ++ brace ∷ [])) ≡ first ++ bar ∷ []
shared_end first low lacks =
    let f = first ++ bar ∷ [] in
    let r = bounds (first ++ bar ∷ low) (first ++ brace ∷ []) in
    let holds : holds_bounds r f ≡ true = and_from _ _ (first_up_to first low) (rw closed_push (up_to_itself (first ++ brace ∷ []))) in
    let none = none_from (holds_bounds r) f low (λ u. not_held r first u (ap is_le (text_cmp-append first (brace ∷ []) (bar ∷ (u ++ brace ∷ []))))) in
    ap last_or_empty (filter-first first low (first ++ brace ∷ []) true lacks holds ∙ ap (λ l. f ∷ l) none)

-- a last bound from the first one on that is up to what goes on from the first segment begins with it
begins_by : (first low high u : Text) → is_up_to (first ++ bar ∷ low) high ≡ true → is_up_to high (first ++ bar ∷ (u ++ brace ∷ [])) ≡ true → starts_with nat_eq high (first ++ bar ∷ []) ≡ true
begins_by first low high u ascend h =
    let f = first ++ bar ∷ [] in
    let below : is_below (first ++ bar ∷ (u ++ brace ∷ [])) (closed f) ≡ true = rw closed_push (ap is_lt (text_cmp-append first (bar ∷ (u ++ brace ∷ [])) (brace ∷ []))) in
    sym (within-prefix_range first high)
    ∙ and_from _ _ (up_to_trans f (first ++ bar ∷ low) high (first_up_to first low) ascend) (up_to_below high (first ++ bar ∷ (u ++ brace ∷ [])) (closed f) h below)

-- where the last bound neither begins with the first segment and `|` nor is it with `}`, they share nothing
pub shared_other : (first low high : Text) → Lacks bar first → is_up_to (first ++ bar ∷ low) high ≡ true → ends_table first high ≡ false → shared_beginning (bounds (first ++ bar ∷ low) high) ≡ []
shared_other first low high lacks ascend other =
    let f = first ++ bar ∷ [] in
    let r = bounds (first ++ bar ∷ low) high in
    let out : holds_bounds r f ≡ false = holds_bounds_is r first low refl ascend ∙ other in
    let begins : starts_with nat_eq high f ≡ false = (or_parts (starts_with nat_eq high f) (same high (first ++ brace ∷ [])) other).0 in
    let none = none_from (holds_bounds r) f low (λ u. not_held r first u (false_from_ne_true _ (λ h. false≢true (sym begins ∙ begins_by first low high u ascend h)))) in
    ap last_or_empty (filter-first first low high false lacks out ∙ none)

-- a first bound without `|` shares nothing
pub shared_lacking : (low high : Text) → Lacks bar low → shared_beginning (bounds low high) ≡ []
shared_lacking low high lacks = ap (λ l. last_or_empty (filter (holds_bounds (bounds low high)) l)) (barred-lacking [] low lacks)

-- ---- the segments of the shared beginning

-- a text that is not empty has the segments of what stands before its last byte
closed_of : (t : Text) (b : ℕ) (bs : Text) → closed_segments (t ++ b ∷ bs) ≡ segments (without_last (t ++ b ∷ bs))
closed_of [] b bs = refl
closed_of (c ∷ cs) b bs = refl

-- a text that ends with `|`
pub closed_push_segments : (front : Text) → closed_segments (front ++ bar ∷ []) ≡ segments front
closed_push_segments front = closed_of front bar [] ∙ ap segments (without_last_push front bar)

-- the last byte of two texts is that of the second, where it is not empty
without_last-append : (t : Text) (b : ℕ) (bs : Text) → without_last (t ++ b ∷ bs) ≡ t ++ without_last (b ∷ bs)
without_last-append t b bs =
    let long : length (t ++ b ∷ bs) - 1 ≡ length t + (length (b ∷ bs) - 1) = omega (arith, length-append t (b ∷ bs)) in
    ap (λ n. take n (t ++ b ∷ bs)) long ∙ take-append-add t (b ∷ bs) (length (b ∷ bs) - 1)

-- a segment with its `|` comes before the segments of what follows
closed_first : (first s : Text) → Lacks bar first → closed_segments ((first ++ bar ∷ []) ++ s) ≡ first ∷ closed_segments s
closed_first first [] lacks = ap closed_segments (append-nil (first ++ bar ∷ [])) ∙ closed_push_segments first ∙ pieces_lacking bar first lacks
closed_first first (b ∷ bs) lacks =
    let f = first ++ bar ∷ [] in
    closed_of f b bs ∙ ap segments (without_last-append f b bs ∙ append_assoc first (bar ∷ []) (without_last (b ∷ bs))) ∙ pieces-append bar first (without_last (b ∷ bs)) lacks

-- both begin with the first segment and `|`
pub segments_both : (first low high : Text) → Lacks bar first → shared_segments (first ++ bar ∷ low) (first ++ bar ∷ high) ≡ first ∷ shared_segments low high
unfolding shared_segments
segments_both first low high lacks = ap closed_segments (shared_both first low high lacks) ∙ closed_first first (shared_beginning (bounds low high)) lacks

-- the last bound is the first segment and `}`
pub segments_end : (first low : Text) → Lacks bar first → shared_segments (first ++ bar ∷ low) (first ++ brace ∷ []) ≡ first ∷ shared_segments [] []
unfolding shared_segments
segments_end first low lacks = ap closed_segments (shared_end first low lacks) ∙ closed_push_segments first ∙ pieces_lacking bar first lacks

-- the last bound is another
pub segments_other : (first low high : Text) → Lacks bar first → is_up_to (first ++ bar ∷ low) high ≡ true → ends_table first high ≡ false → shared_segments (first ++ bar ∷ low) high ≡ []
unfolding shared_segments
segments_other first low high lacks ascend other = ap closed_segments (shared_other first low high lacks ascend other)

-- the first bound has no `|`
pub segments_lacking : (low high : Text) → Lacks bar low → shared_segments low high ≡ []
unfolding shared_segments
segments_lacking low high lacks = ap closed_segments (shared_lacking low high lacks)

-- the bounds of a range share the segments that stand before the last `|` of their shared beginning
pub segments_of_range : (r : Range) → is_range r.low r.high ≡ true → shared_segments r.low r.high ≡ segments (without_last (shared_beginning r))
unfolding shared_segments
segments_of_range r h =
    let w = shared_is_beginning r h in
    ap closed_segments w.0.2 ∙ closed_push_segments w.0.0 ∙ ap segments (sym (ap without_last w.0.2 ∙ without_last_push w.0.0 bar))

-- so what the first segments take of them is what the range binds
pub first-shared : (p : Pattern) (r : Range) (low high : Text) (found : Slots) → is_range r.low r.high ≡ true → low ≡ r.low → high ≡ r.high → found ≡ no_slots
    → take_first p (shared_segments low high) found ≡ bind_range p r
unfolding bind_range
first-shared p r low high found h e g n = rw (e, g, n) (ap (λ ts. take_first p ts no_slots) (segments_of_range r h))

-- texts that begin alike are in order where what follows is
rests_ascend : (first low high : Text) → is_up_to (first ++ bar ∷ low) (first ++ bar ∷ high) ≡ true → is_up_to low high ≡ true
rests_ascend first low high h = ap is_le (sym (text_cmp-append first (bar ∷ low) (bar ∷ high))) ∙ h

-- ---- two bounds that are cut

-- both have `|` behind one segment
pub shares_both : (low high first rest last : Text) → low ≡ first ++ bar ∷ rest → Lacks bar first → high ≡ first ++ bar ∷ last → is_up_to low high ≡ true
    → (shared_segments low high ≡ first ∷ shared_segments rest last) × (is_up_to rest last ≡ true)
shares_both low high first rest last e lacks h ascend =
    (rw (e, h) (segments_both first rest last lacks), rests_ascend first rest last (rw (e, h) at ascend))

-- the last bound has `}` behind it and ends
pub shares_end : (low high first rest : Text) → low ≡ first ++ bar ∷ rest → Lacks bar first → high ≡ first ++ brace ∷ [] → shared_segments low high ≡ first ∷ shared_segments [] []
shares_end low high first rest e lacks h = rw (e, h) (segments_end first rest lacks)

-- the last bound does not begin with it
pub shares_without : (low high first rest : Text) → low ≡ first ++ bar ∷ rest → Lacks bar first → is_up_to low high ≡ true → ((last : Text) → high ≡ first ++ last → ⊥) → shared_segments low high ≡ []
shares_without low high first rest e lacks ascend none =
    let other = ends_without first high (false_from_ne_true _ (λ h. let w = rest_of high first h in none w.0 w.1)) in
    rw e (segments_other first rest high lacks (rw e at ascend) other)

-- the last bound has something else behind it
pub shares_other : (low high first rest last : Text) → low ≡ first ++ bar ∷ rest → Lacks bar first → is_up_to low high ≡ true → high ≡ first ++ last → ((more : Text) → last ≡ bar ∷ more → ⊥) → same last (brace ∷ []) ≡ false
    → shared_segments low high ≡ []
shares_other low high first rest last e lacks ascend h none ends =
    let begins : starts_with nat_eq last (bar ∷ []) ≡ false = false_from_ne_true _ (λ g. let w = rest_of last (bar ∷ []) g in none w.0 w.1) in
    let other : ends_table first high ≡ false = ap (ends_table first) h ∙ ends_after first last ∙ or_from _ _ begins ends in
    rw e (segments_other first rest high lacks (rw e at ascend) other)
