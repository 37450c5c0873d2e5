-- What is said of changes over a list that has grown is so over the list before.
use Rattle.std.proofs.Common.{◌≡◌, ℕ, ◌-◌, ◌<◌, ◌≤◌, ◌⊎◌, length, take, drop, true, sym, ap, ◌∙◌, subst, arith, length-drop}
use Rattle.std.proofs.lemmas.List.{take-append-le, drop-append-le}
use Rattle.semantics.specs.Texts.{Text, Range, value_at}
use Rattle.semantics.specs.Histories.{History, IsPrefix, changed_at, joins_of}
use Rattle.semantics.specs.States.{below}
use Rattle.growing_history.specs.Changes.{entries_between, changed_keys, Same, is_bare, IsBareAt, IsBareThroughout}
use Rattle.growing_history.proofs.PrefixLemmas.{take_prefix}
use Rattle.join_eval.specs.Answers.{MayNotBeKnown, MeetsOutput}
use Rattle.range_state.specs.Asking.{IsQuiet}

-- what is the same at all positions of a longer history is so of the shorter one
pub same_before : (h more : History) (q p rank : ℕ) (key : Text) → IsPrefix h more → p ≤ length h → q ≤ p → Same more q p rank key → Same h q p rank key
same_before h more q p rank key prefix within order same x above up =
    let at_x : take x more ≡ take x h = take_prefix x h more (omega arith) prefix in
    let at_q : take q more ≡ take q h = take_prefix q h more (omega arith) prefix in
    ap (λ (es : History). value_at key (below es rank)) (sym at_x) ∙ same x above up ∙ ap (λ (es : History). value_at key (below es rank)) at_q

-- and what is the same at all positions of the shorter one is so of the longer
same_longer : (h more : History) (q p rank : ℕ) (key : Text) → IsPrefix h more → p ≤ length h → q ≤ p → Same h q p rank key → Same more q p rank key
same_longer h more q p rank key prefix within order same x above up =
    let at_x : take x more ≡ take x h = take_prefix x h more (omega arith) prefix in
    let at_q : take q more ≡ take q h = take_prefix q h more (omega arith) prefix in
    ap (λ (es : History). value_at key (below es rank)) at_x ∙ same x above up ∙ ap (λ (es : History). value_at key (below es rank)) (sym at_q)

-- the entries between two positions of a history stay
entries_longer : (h more : History) (q p : ℕ) → IsPrefix h more → p ≤ length h → q ≤ p → entries_between q p more ≡ entries_between q p h
entries_longer h more q p prefix within order =
    ap (λ (es : History). take (p - q) (drop q es)) prefix.1
    ∙ ap (take (p - q)) (drop-append-le q h prefix.0 (omega arith))
    ∙ take-append-le (p - q) (drop q h) prefix.0 (omega (arith, length-drop q h))

-- so do the changed keys
pub changed_longer : (h more : History) (q p : ℕ) (range : Range) → IsPrefix h more → p ≤ length h → q ≤ p → changed_keys q p range more ≡ changed_keys q p range h
unfolding changed_keys
changed_longer h more q p range prefix within order = rw (entries_longer h more q p prefix within order)

-- a range that is bare from q to p is so over a longer history
pub bare_longer : (h more : History) (q p : ℕ) (range : Range) → IsPrefix h more → p ≤ length h → IsBareThroughout h q p range → IsBareThroughout more q p range
bare_longer h more q p range prefix within bare x above up =
    let at_x : take x more ≡ take x h = take_prefix x h more (omega arith) prefix in
    subst (λ (es : History). is_bare range (joins_of es) ≡ true) (sym at_x) (bare x above up)

-- so is one that is bare so over a longer history
bare_before : (h more : History) (q p : ℕ) (range : Range) → IsPrefix h more → p ≤ length h → IsBareThroughout more q p range → IsBareThroughout h q p range
bare_before h more q p range prefix within bare x above up =
    let at_x : take x more ≡ take x h = take_prefix x h more (omega arith) prefix in
    subst (λ (es : History). is_bare range (joins_of es) ≡ true) at_x (bare x above up)

-- a range in which nothing changes is quiet over a longer history
pub quiet_longer : (h more : History) (q p rank : ℕ) (range : Range) → IsPrefix h more → p ≤ length h → q ≤ p → IsQuiet h q p rank range → IsQuiet more q p rank range
quiet_longer h more q p rank range prefix within order quiet = record {
  same = λ key inside. same_longer h more q p rank key prefix within order (quiet.same key inside);
  unwritten = λ bare. changed_longer h more q p range prefix within order ∙ quiet.unwritten (bare_before h more q p range prefix within bare);
}

-- and over the history before
pub quiet_before : (h more : History) (q p rank : ℕ) (range : Range) → IsPrefix h more → p ≤ length h → q ≤ p → IsQuiet more q p rank range → IsQuiet h q p rank range
quiet_before h more q p rank range prefix within order quiet = record {
  same = λ key inside. same_before h more q p rank key prefix within order (quiet.same key inside);
  unwritten = λ bare. sym (changed_longer h more q p range prefix within order) ∙ quiet.unwritten (bare_longer h more q p range prefix within bare);
}

-- what may not be known of changes over a longer history may not be known over the history
pub unknown_before : (h more : History) (q p rank : ℕ) (range : Range) → IsPrefix h more → p ≤ length h → MayNotBeKnown more q p rank range → MayNotBeKnown h q p rank range
unknown_before h more q p rank range prefix within unknown = record {
  computed = λ bare. unknown.computed (bare_longer h more q p range prefix within bare);
  why = subst (λ (es : History). (q < changed_at es) ⊎ MeetsOutput (joins_of es) rank range) (take_prefix p h more within prefix) unknown.why;
}

-- one that is bare at a position is so over a longer history
pub bare_at_longer : (h more : History) (p : ℕ) (range : Range) → IsPrefix h more → p ≤ length h → IsBareAt h p range → IsBareAt more p range
bare_at_longer h more p range prefix within bare = subst (λ (es : History). is_bare range (joins_of es) ≡ true) (sym (take_prefix p h more within prefix)) bare

-- what stands below a rank after so many entries stays
pub below_longer : (h more : History) (p rank : ℕ) → IsPrefix h more → p ≤ length h → below (take p more) rank ≡ below (take p h) rank
below_longer h more p rank prefix within = ap (λ (es : History). below es rank) (take_prefix p h more within prefix)
