-- Kept ranges that are right over the lists of readers that go on.
use Rattle.std.proofs.Common.{◌≡◌, ℕ, ◌≤◌, List, [], length, take, true, Option, Some, None, sym, subst}
use Rattle.semantics.specs.Texts.{Range, is_range}
use Rattle.semantics.specs.Joins.{Join}
use Rattle.semantics.specs.Histories.{History, DeclaredJoin, IsPrefix, joins_of}
use Rattle.semantics.specs.States.{below}
use Rattle.growing_history.specs.Entered.{HasEntered, HasRank}
use Rattle.kept_ranges.specs.Notes.{Notes}
use Rattle.kept_ranges.specs.Rules.{IsFilled}
use Rattle.kept_ranges.specs.Sound.{KeptRange, IsSoundAt, IsSound}
use Rattle.kept_ranges.specs.SoundLaws.{CanStand}
use Rattle.kept_ranges.proofs.SoundLemmas.{sound_over_longer, filled_is_sound}
use Rattle.range_state.specs.Held.{groups_of, kept_of, range_kept, view_of}
use Rattle.range_state.specs.Filled.{IsFilledAt}
use Rattle.range_state.specs.Work.{IsFilledAfresh}
use Rattle.range_state.specs.declared.holding.Holding.{Holding}
use Rattle.range_state.specs.declared.subject.Subject.{Subject}

-- the join of a kept range that stands among joins is that of its subject
pub subject_stands : (joins : List DeclaredJoin) (s : Subject) (o : Option Holding) (v : KeptRange) → view_of s o ≡ v → HasRank joins v.join v.rank → HasRank joins s.join s.rank
subject_stands joins s None v e stands = subst (λ (w : KeptRange). HasRank joins w.join w.rank) (sym e) stands
subject_stands joins s (Some held) v e stands = subst (λ (w : KeptRange). HasRank joins w.join w.rank) (sym e) stands

-- what is so of a subject's join, rank and range is so of those of its kept range
pub of_subject : (P : Join → ℕ → Range → Type 0) (s : Subject) (o : Option Holding) (v : KeptRange) → view_of s o ≡ v → P s.join s.rank s.range → P v.join v.rank v.range
of_subject P s None v e holds = subst (λ (w : KeptRange). P w.join w.rank w.range) e holds
of_subject P s (Some held) v e holds = subst (λ (w : KeptRange). P w.join w.rank w.range) e holds

-- what was filled for a subject was filled afresh for its kept range
pub filled_afresh : (s : Subject) (o : Option Holding) (made : Holding) (v : KeptRange) (h : History) (p : ℕ) → view_of s o ≡ v → IsFilledAt s (below h s.rank) p made → IsFilledAfresh p (below h v.rank) v (range_kept s made)
filled_afresh s o made v h p view filled = record {
  filled = of_subject (λ j rank range. IsFilled j range (below h rank) (kept_of made)) s o v view filled.filled;
  notes = filled.notes;
}

-- what was filled at a position is right there, and over each longer history
pub filled_sound : (s : Subject) (h more : History) (p : ℕ) (held : Holding) → IsPrefix h more → is_range s.range.low s.range.high ≡ true → HasEntered h → p ≤ length h → HasRank (joins_of (take p h)) s.join s.rank
    → IsFilledAt s (below (take p h) s.rank) p held → IsSound (range_kept s held) more
filled_sound s h more p held prefix bounds entered place stands filled =
    let kept = range_kept s held in
    let can : CanStand kept h p = record { is_range = bounds; entered = entered; place = place; stands = stands } in
    let at : IsSoundAt (record kept { position = Some p; notes = record { start = p; list = [] } }) h p = filled_is_sound kept (kept_of held) (groups_of held.groups) h p can filled.filled filled.listed in
    let back : IsSoundAt kept h held.position = transported (sym filled.position) (sym filled.notes) at in
    sound_over_longer kept h more prefix back
  where
    transported : {q : ℕ} {notes : Notes} → p ≡ q → record { start = p; list = [] } ≡ notes → IsSoundAt (record (range_kept s held) { position = Some p; notes = record { start = p; list = [] } }) h p
        → IsSoundAt (record (range_kept s held) { position = Some q; notes = notes }) h q
    transported e f at = subst (λ (w : ℕ × Notes). IsSoundAt (record (range_kept s held) { position = Some w.0; notes = w.1 }) h w.0) (λ i. (e i, f i)) at
