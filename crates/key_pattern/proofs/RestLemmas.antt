-- What follows the segments that two bounds share.
use Rattle.std.proofs.Common.{◌≡◌, ◌+◌, true, cond, nat_eq, [], ◌∷◌, ◌++◌, length, drop, Option, Some, None, refl, sym, ap, ◌∙◌, subst, arith, append_assoc, length-append}
use Rattle.std.specs.Borrow.{Bor}
use Rattle.std.specs.List.{starts_with}
use Rattle.std.proofs.Math.Seq.{drop-append_seam, drop-append-add}
use Rattle.semantics.specs.Texts.{Text, bar, brace, is_range, Range}
use Rattle.semantics.proofs.PieceLemmas.{Lacks, parts_of}
use Rattle.key_ranges.specs.Ranges.{without_last}
use Rattle.key_ranges.specs.Containing.{shared_beginning, shared_texts, low_rest, high_rest}
use Rattle.key_ranges.proofs.OrderLemmas.{is_up_to}
use Rattle.key_ranges.proofs.PrefixLemmas.{begins_with}
use Rattle.key_space.proofs.NameLemmas.{starts-append}
use Rattle.key_pattern.specs.declared.ranging.SharedSegment.{SharedSegment}
use Rattle.key_pattern.specs.Shared.{bounds, closed_segments, shared_segments, shared_behind, low_behind, high_behind, AscendBehind, SharesNothing, SharesFirst}
use Rattle.key_pattern.proofs.SharedLemmas.{shared_both, shared_end, segments_lacking, segments_of_range, shares_both, shares_end}

-- what follows a beginning in a text, where the text begins with it
abbrev rest_in : Text → Text → Option Text
rest_in t q = cond (starts_with nat_eq t q) (Some (drop (length q) t)) None

-- behind one text that both begin with
rest_apart : (f t q : Text) → rest_in (f ++ t) (f ++ q) ≡ rest_in t q
rest_apart f t q =
    ap (λ x. cond x (Some (drop (length (f ++ q)) (f ++ t))) None) (starts-append f t q)
    ∙ ap (λ u. cond (starts_with nat_eq t q) (Some u) None) (ap (λ n. drop n (f ++ t)) (length-append f q) ∙ drop-append-add f t (length q))

-- ---- both have `|` behind one segment

pub low_both : (first low high : Text) → Lacks bar first → low_rest (bounds (first ++ bar ∷ low) (first ++ bar ∷ high)) ≡ low_rest (bounds low high)
low_both first low high lacks =
    let f = first ++ bar ∷ [] in
    let q = shared_beginning (bounds low high) in
    ap (λ p. drop (length p) (first ++ bar ∷ low)) (shared_both first low high lacks)
    ∙ ap (λ n. drop n (first ++ bar ∷ low)) (length-append f q)
    ∙ ap (drop (length f + length q)) (sym (append_assoc first (bar ∷ []) low))
    ∙ drop-append-add f low (length q)

pub high_both : (first low high : Text) → Lacks bar first → high_rest (bounds (first ++ bar ∷ low) (first ++ bar ∷ high)) ≡ high_rest (bounds low high)
high_both first low high lacks =
    let f = first ++ bar ∷ [] in
    let q = shared_beginning (bounds low high) in
    ap (rest_in (first ++ bar ∷ high)) (shared_both first low high lacks)
    ∙ ap (λ t. rest_in t (f ++ q)) (sym (append_assoc first (bar ∷ []) high))
    ∙ rest_apart f high q

-- ---- the last bound is the segment and `}`

pub low_end : (first low : Text) → Lacks bar first → low_rest (bounds (first ++ bar ∷ low) (first ++ brace ∷ [])) ≡ low
low_end first low lacks =
    let f = first ++ bar ∷ [] in
    ap (λ p. drop (length p) (first ++ bar ∷ low)) (shared_end first low lacks)
    ∙ ap (drop (length f)) (sym (append_assoc first (bar ∷ []) low))
    ∙ drop-append_seam f low

pub high_end : (first low : Text) → Lacks bar first → high_rest (bounds (first ++ bar ∷ low) (first ++ brace ∷ [])) ≡ None
high_end first low lacks =
    ap (rest_in (first ++ brace ∷ [])) (shared_end first low lacks)
    ∙ ap (λ x. cond x (Some (drop (length (first ++ bar ∷ [])) (first ++ brace ∷ []))) None) (starts-append first (brace ∷ []) (bar ∷ []))

-- ---- they share no segment

-- a text without segments is empty
closed_none : (t : Text) → closed_segments t ≡ [] → t ≡ []
closed_none [] h = refl
closed_none (b ∷ bs) h =
    let parts = parts_of bar (without_last (b ∷ bs)) in
    let e : [] ≡ parts.0 ∷ parts.1 = sym h ∙ parts.2 in
    absurd (omega (arith, ap length e))

-- bounds that share no segment share no beginning
nothing_shared : (low high : Text) → shared_segments low high ≡ [] → shared_beginning (bounds low high) ≡ []
unfolding shared_segments
nothing_shared low high h = closed_none (shared_beginning (bounds low high)) h

-- all of both follows
pub shares_nothing : (low : Text) (high : Bor Text) → shared_segments low high.now ≡ [] → SharesNothing low (Some high)
unfolding low_behind high_behind
shares_nothing low high h =
    let none = nothing_shared low high.now h in
    record {
      segments = h;
      low_rest = ap (λ q. drop (length q) low) none;
      high_rest = ap (rest_in high.now) none ∙ ap (λ x. cond x (Some high.now) None) (begins_with [] high.now);
    }

-- nothing is left of the last bound
nothing_left : (low : Text) → SharesNothing low None
unfolding low_behind high_behind
nothing_left low = record { segments = refl; low_rest = refl; high_rest = refl }

-- the same, where that is known
pub shares_none : (low : Text) (high : Option (Bor Text)) → high ≡ None → SharesNothing low high
shares_none low high e = subst (SharesNothing low) (sym e) (nothing_left low)

-- nothing is shared with a last bound that is left
pub nothing_with : (low : Text) (high : Option (Bor Text)) (last : Bor Text) → high ≡ Some last → shared_segments low last.now ≡ [] → SharesNothing low high
nothing_with low high last e h = subst (SharesNothing low) (sym e) (shares_nothing low last h)

-- bounds are in order where both are left
pub ascend_with : (low : Text) (high : Option (Bor Text)) (last : Bor Text) → high ≡ Some last → AscendBehind low high → is_up_to low last.now ≡ true
ascend_with low high last e h = subst (AscendBehind low) e h

-- ---- two bounds that are cut

-- both have `|` behind one segment
bar_left : (low : Text) (last more : Bor Text) (found : SharedSegment) → low ≡ found.text.now ++ bar ∷ found.low.now → Lacks bar found.text.now → last.now ≡ found.text.now ++ bar ∷ more.now → is_up_to low last.now ≡ true
    → found.high ≡ Some more → SharesFirst low (Some last) found
unfolding low_behind high_behind
bar_left low last more found e lacks h ascend is =
    let first = found.text.now in
    let rest = found.low.now in
    let both = shares_both low last.now first rest more.now e lacks h ascend in
    record {
      segments = both.0 ∙ ap (λ high. first ∷ shared_behind rest high) (sym is);
      lacks = lacks;
      ascend = subst (AscendBehind rest) (sym is) both.1;
      low_rest = ap (λ t. low_rest (bounds t last.now)) e ∙ ap (λ t. low_rest (bounds (first ++ bar ∷ rest) t)) h ∙ low_both first rest more.now lacks ∙ ap (low_behind rest) (sym is);
      high_rest = ap (λ t. high_rest (bounds t last.now)) e ∙ ap (λ t. high_rest (bounds (first ++ bar ∷ rest) t)) h ∙ high_both first rest more.now lacks ∙ ap (high_behind rest) (sym is);
    }

pub shares_bar : (low : Text) (high : Option (Bor Text)) (last more : Bor Text) (found : SharedSegment) → high ≡ Some last → low ≡ found.text.now ++ bar ∷ found.low.now → Lacks bar found.text.now
    → last.now ≡ found.text.now ++ bar ∷ more.now → AscendBehind low high → found.high ≡ Some more → SharesFirst low high found
shares_bar low high last more found at e lacks h ascend is =
    subst (λ o. SharesFirst low o found) (sym at) (bar_left low last more found e lacks h (ascend_with low high last at ascend) is)

-- empty bounds share nothing
nothing_behind : shared_segments [] [] ≡ []
nothing_behind = segments_lacking [] [] refl

-- the last bound has `}` behind it and ends
brace_left : (low : Text) (last : Bor Text) (found : SharedSegment) → low ≡ found.text.now ++ bar ∷ found.low.now → Lacks bar found.text.now → last.now ≡ found.text.now ++ brace ∷ [] → found.high ≡ None → SharesFirst low (Some last) found
unfolding low_behind high_behind
brace_left low last found e lacks h is =
    let first = found.text.now in
    let rest = found.low.now in
    record {
      segments = shares_end low last.now first rest e lacks h ∙ ap (λ ts. first ∷ ts) (nothing_behind ∙ ap (shared_behind rest) (sym is));
      lacks = lacks;
      ascend = subst (AscendBehind rest) (sym is) tt;
      low_rest = ap (λ t. low_rest (bounds t last.now)) e ∙ ap (λ t. low_rest (bounds (first ++ bar ∷ rest) t)) h ∙ low_end first rest lacks ∙ ap (low_behind rest) (sym is);
      high_rest = ap (λ t. high_rest (bounds t last.now)) e ∙ ap (λ t. high_rest (bounds (first ++ bar ∷ rest) t)) h ∙ high_end first rest lacks ∙ ap (high_behind rest) (sym is);
    }

pub shares_brace : (low : Text) (high : Option (Bor Text)) (last : Bor Text) (found : SharedSegment) → high ≡ Some last → low ≡ found.text.now ++ bar ∷ found.low.now → Lacks bar found.text.now → last.now ≡ found.text.now ++ brace ∷ []
    → found.high ≡ None → SharesFirst low high found
shares_brace low high last found at e lacks h is = subst (λ o. SharesFirst low o found) (sym at) (brace_left low last found e lacks h is)

-- ---- the bounds of a range

-- what follows the shared beginning of a range, by its bounds
pub low_of_range : (r : Range) (low : Text) (high : Bor Text) → low ≡ r.low → high.now ≡ r.high → low_behind low (Some high) ≡ low_rest r
unfolding low_behind
low_of_range r low high e h = ap (λ t. low_rest (bounds t high.now)) e ∙ ap (λ t. low_rest (bounds r.low t)) h

pub high_of_range : (r : Range) (low : Text) (high : Bor Text) → low ≡ r.low → high.now ≡ r.high → high_behind low (Some high) ≡ high_rest r
unfolding high_behind
high_of_range r low high e h = ap (λ t. high_rest (bounds t high.now)) e ∙ ap (λ t. high_rest (bounds r.low t)) h

-- and the segments of that beginning
pub texts_of_range : (r : Range) (low high : Text) → is_range r.low r.high ≡ true → low ≡ r.low → high ≡ r.high → shared_segments low high ≡ shared_texts r
texts_of_range r low high ok e h = ap (λ t. shared_segments t high) e ∙ ap (shared_segments r.low) h ∙ segments_of_range r ok
