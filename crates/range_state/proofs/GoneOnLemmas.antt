-- What is held, over the list of a reader that has gone on, and what an advance leaves.
use Rattle.std.proofs.Common.{◌≡◌, ℕ, ◌≤◌, List, [], ◌∷◌, length, take, Contains, true, Option, Some, sym, ap, ◌∙◌, subst, ⊎_elim, arith}
use Rattle.std.specs.Option.{IsSomeAnd}
use Rattle.semantics.specs.Texts.{Text, is_range, value_at}
use Rattle.semantics.specs.Patterns.{Slots}
use Rattle.semantics.specs.Joins.{checks_of, Join}
use Rattle.semantics.specs.Histories.{History, IsPrefix, joins_of}
use Rattle.semantics.specs.States.{below}
use Rattle.semantics.proofs.MemberLemmas.{has_from_contains, contains_from_has}
use Rattle.growing_history.specs.Changes.{Same}
use Rattle.growing_history.specs.Entered.{HasEntered, HasRank}
use Rattle.growing_history.proofs.PrefixLemmas.{prefix_length, take_prefix}
use Rattle.growing_history.specs.StateChanges.{Change}
use Rattle.join_eval.specs.Answers.{HaveValues, change_keys}
use Rattle.range_evaluation.specs.Trees.{Need}
use Rattle.range_evaluation.proofs.ListedLemmas.{nothing_in}
use Rattle.kept_ranges.specs.Rules.{Touch, AddsTouched}
use Rattle.kept_ranges.specs.Sound.{KeptRange, IsSoundAt, IsSound}
use Rattle.kept_ranges.specs.SoundLaws.{AreReportedBetween}
use Rattle.kept_ranges.proofs.SoundLemmas.{sound_over_longer}
use Rattle.range_state.specs.Advanced.{touched_by, CanAdvance, IsAdvancedTo}
use Rattle.range_state.specs.Filled.{IsFilledAt}
use Rattle.range_state.specs.Held.{range_kept}
use Rattle.range_state.specs.declared.holding.Holding.{Holding}
use Rattle.range_state.specs.declared.subject.Subject.{Subject}
use Rattle.range_state.proofs.AdvanceLemmas.{untouched}
use Rattle.range_state.proofs.SoundLemmas.{filled_sound}

-- ---- a reader that has gone on

-- what is right for a history is so for a longer one, said of what is held
pub held_sound : (s : Subject) (held same : Holding) (v : KeptRange) (h more : History) → range_kept s held ≡ v → same ≡ held → IsPrefix h more → IsSound v h → IsSoundAt (range_kept s same) more same.position
held_sound s held same v h more view is prefix sound =
    let own : IsSound (range_kept s held) h = subst (λ (w : KeptRange). IsSound w h) (sym view) sound in
    let later : IsSound (range_kept s held) more = sound_over_longer (range_kept s held) h more prefix own in
    subst (λ (w : Holding). IsSound (range_kept s w) more) (sym is) later

-- the same stands at a key over a longer history
same_longer : (h more : History) (q p rank : ℕ) (key : Text) → IsPrefix h more → p ≤ length h → q ≤ p → Same h q p rank key → Same more q p rank key
same_longer h more q p rank key prefix within order same x above up =
    let at_x : take x more ≡ take x h = take_prefix x h more (omega arith) prefix in
    let at_q : take q more ≡ take q h = take_prefix q h more (omega arith) prefix in
    ap (λ (es : History). value_at key (below es rank)) at_x ∙ same x above up ∙ ap (λ (es : History). value_at key (below es rank)) (sym at_q)

-- and so is what is reported
pub reported_longer : (h more : History) (q p rank : ℕ) (needs : List Need) (reported : List Text) → IsPrefix h more → p ≤ length h → q ≤ p → AreReportedBetween h q p rank needs reported → AreReportedBetween more q p rank needs reported
reported_longer h more q p rank [] reported prefix within order all = tt
reported_longer h more q p rank (need ∷ needs) reported prefix within order all =
    (λ k inside out. same_longer h more q p rank k prefix within order (all.0 k inside out), reported_longer h more q p rank needs reported prefix within order all.1)

-- so said of what is held
pub reported_held : (s : Subject) (held same : Holding) (v : KeptRange) (h more : History) (p floor : ℕ) (needs : List Need) (reported told : List Text) → range_kept s held ≡ v → same ≡ held → IsSomeAnd v.position (λ q. (floor ≤ q) × (q ≤ p)) → needs ≡ held.rows.needs → told ≡ reported
    → IsPrefix h more → p ≤ length h → AreReportedBetween h held.position p s.rank needs reported → AreReportedBetween more same.position p s.rank same.rows.needs told
reported_held s held same v h more p floor needs reported told view is order are is_told prefix within all =
    let up : (floor ≤ held.position) × (held.position ≤ p) = subst (λ (w : KeptRange). IsSomeAnd w.position (λ q. (floor ≤ q) × (q ≤ p))) (sym view) order in
    let own : AreReportedBetween h held.position p s.rank held.rows.needs told = subst (λ (w : List Need × List Text). AreReportedBetween h held.position p s.rank w.0 w.1) (λ i. (are i, sym is_told i)) all in
    let later = reported_longer h more held.position p s.rank held.rows.needs told prefix within up.1 own in
    subst (λ (w : Holding). AreReportedBetween more w.position p s.rank w.rows.needs told) (sym is) later

-- so what is held can be advanced by what is reported
pub can_advance : (s : Subject) (held same : Holding) (v : KeptRange) (h more : History) (p floor : ℕ) (needs : List Need) (reported told : List Change) → range_kept s held ≡ v → same ≡ held → IsSomeAnd v.position (λ q. (floor ≤ q) × (q ≤ p)) → needs ≡ held.rows.needs → told ≡ reported
    → IsPrefix h more → p ≤ length h → HasEntered more → HasRank (joins_of (take p h)) s.join s.rank → IsSound v h → AreReportedBetween h held.position p s.rank needs (change_keys reported) → HaveValues (below (take p h) s.rank) reported → CanAdvance s same p told more
can_advance s held same v h more p floor needs reported told view is order are is_told prefix within entered stands sound all values =
    let longer : take p h ≡ take p more = sym (take_prefix p h more within prefix) in
    record {
      within = omega (arith, within, prefix_length h more prefix);
      entered = entered;
      stands = subst (λ (es : History). HasRank (joins_of es) s.join s.rank) longer stands;
      sound = held_sound s held same v h more view is prefix sound;
      told = reported_held s held same v h more p floor needs (change_keys reported) (change_keys told) view is order are (ap change_keys is_told) prefix within all;
      values = subst (λ (w : History × List Change). HaveValues (below w.0 s.rank) w.1) (λ i. (longer i, sym is_told i)) values;
    }

-- what was made is right, said of what is held
pub made_sound : (s : Subject) (after made : Holding) (more : History) → after ≡ made → IsSound (range_kept s made) more → IsSoundAt (range_kept s after) more after.position
made_sound s after made more is sound = subst (λ (w : Holding). IsSound (range_kept s w) more) (sym is) sound

-- and at the position to which it was advanced
pub reached_sound : (s : Subject) (after made : Holding) (more : History) (p : ℕ) → after ≡ made → made.position ≡ p → IsSoundAt (range_kept s made) more p → IsSoundAt (range_kept s after) more after.position
reached_sound s after made more p is position sound = made_sound s after made more is (subst (IsSoundAt (range_kept s made) more) (sym position) sound)

-- what was filled over a longer history is right
pub refilled_sound : (s : Subject) (h here more : History) (p : ℕ) (held : Holding) → IsPrefix h here → IsPrefix h more → is_range s.range.low s.range.high ≡ true → HasEntered h → p ≤ length h → HasRank (joins_of (take p h)) s.join s.rank
    → IsFilledAt s (below (take p here) s.rank) p held → IsSound (range_kept s held) more
refilled_sound s h here more p held first last bounds entered place stands filled =
    filled_sound s h more p held last bounds entered place stands (subst (λ (es : History). IsFilledAt s (below es s.rank) p held) (take_prefix p h here place first) filled)

-- ---- what is pending

adds_nothing : (touched : List Touch) (old new : List Slots) → touched ≡ [] → old ≡ [] → AddsTouched touched old new → new ≡ []
adds_nothing touched old new untouched_is none adds =
    let bare : AddsTouched [] [] new = subst (λ (w : List Touch × List Slots). AddsTouched w.0 w.1 new) (λ i. (untouched_is i, none i)) adds in
    nothing_in new (λ x h. ⊎_elim (λ (was : Contains [] x). has_from_contains [] x was) (λ (of_touch : Contains [] x). has_from_contains [] x of_touch) ((bare x).0 (contains_from_has new x h)))

-- where the join has no check source and nothing was pending, nothing is
pub unchecked_pending : (s : Subject) (held same after : Holding) (v : KeptRange) (p : ℕ) (reported : List Text) → range_kept s held ≡ v → same ≡ held → IsAdvancedTo s p reported same after → checks_of v.join.sources ≡ [] → v.kept.pending ≡ []
    → after.pending.noted ≡ []
unchecked_pending s held same after v p reported view is advanced none clear =
    let own : checks_of s.join.sources ≡ [] = subst (λ (w : KeptRange). checks_of w.join.sources ≡ []) (sym view) none in
    let was : held.pending.noted ≡ [] = subst (λ (w : KeptRange). w.kept.pending ≡ []) (sym view) clear in
    adds_nothing (touched_by s reported same) same.pending.noted after.pending.noted (untouched s.join reported same.rows.needs own) (ap (λ (w : Holding). w.pending.noted) is ∙ was) advanced.pending
