-- What an advance over bare ranges notes.
use Rattle.std.proofs.Common.{◌≡◌, ℕ, List, ◌++◌, map, Contains, false, Option, option_and_then, refl, sym, ap, ◌∙◌, subst, ⊎_elim}
use Rattle.std.specs.Option.{IsSomeAnd}
use Rattle.semantics.specs.Texts.{Text, within}
use Rattle.semantics.specs.Patterns.{Slots, bind, fill}
use Rattle.semantics.specs.Joins.{is_check, Source}
use Rattle.semantics.specs.Histories.{History}
use Rattle.semantics.proofs.MemberLemmas.{Has, has_from_contains, contains_from_has, has_append_cases, has_filter, has_filtered, has_map, has_mapped}
use Rattle.growing_history.specs.Changes.{changed_keys}
use Rattle.growing_history.proofs.ElementLemmas.{has_of_all}
use Rattle.range_evaluation.specs.Trees.{Need}
use Rattle.kept_ranges.specs.Notes.{key, slots, Note}
use Rattle.kept_ranges.specs.Rules.{reported_in, Touch, is_left, Application}
use Rattle.kept_ranges.proofs.ApplyLemmas.{application_from}
use Rattle.range_state.specs.Asking.{ListsWritten, AreListed}
use Rattle.range_state.specs.Advanced.{touch_notes, key_notes, touched_by, applied_by, IsAdvancedTo}
use Rattle.range_state.specs.Held.{range_kept}
use Rattle.range_state.specs.Work.{AreTouchedSlots, IsFilledBy, IsMarkOf}
use Rattle.range_state.specs.declared.holding.Holding.{Holding}
use Rattle.range_state.specs.declared.subject.Subject.{Subject}

-- an output key to which a reported key is applied is filled by a changed key of a value need's range
applied_fills : (s : Subject) (held made : Holding) (h : History) (p : ℕ) (reported : List Text) (a : Application) → AreListed held.position p h held.rows.needs reported → IsAdvancedTo s p reported held made
    → Has (applied_by s reported made) a → IsFilledBy h held.position p (range_kept s held) a.output
applied_fills s held made h p reported a listed advanced has =
    let is = application_from s.join s.range made.pending.noted reported made.rows.needs a has in
    let there : Has held.rows.needs is.need = (has_filter (is_left (touched_by s reported held)) held.rows.needs is.need (subst (λ (ns : List Need). Has ns is.need) advanced.needs is.has)).1 in
    let written : reported_in reported is.need ≡ changed_keys held.position p is.need.range h = has_of_all (ListsWritten held.position p h reported) held.rows.needs is.need listed there in
    record {
      need = is.need;
      has_need = contains_from_has held.rows.needs is.need there;
      of_value = subst (λ (o : Option Source). IsSomeAnd o (λ source. is_check source.operator ≡ false)) (sym is.of_source) is.gives_value;
      key = a.source;
      changed = contains_from_has (changed_keys held.position p is.need.range h) a.source (subst (λ (ks : List Text). Has ks a.source) written (has_filtered (within is.need.range) reported a.source is.holds is.reports));
      fills = ap (option_and_then (λ source. option_and_then (fill s.join.output) (bind source.pattern a.source is.need.slots))) is.of_source ∙ ap (option_and_then (fill s.join.output)) is.binds ∙ is.fills;
    }

-- a note of touched slots
touch_mark : (s : Subject) (held : Holding) (h : History) (p : ℕ) (reported : List Text) (note : Note) → ((given : Slots) → Contains (map (λ t. t.slots) (touched_by s reported held)) given → AreTouchedSlots h held.position p (range_kept s held) given)
    → Has (touch_notes p (touched_by s reported held)) note → (note.position ≡ p) × IsMarkOf h held.position p (range_kept s held) note.mark
touch_mark s held h p reported note of_touches has =
    let touched = touched_by s reported held in
    let w = has_map (λ (t : Touch). record { position = p; mark = slots t.slots }) touched note has in
    let made_of : AreTouchedSlots h held.position p (range_kept s held) w.0.slots =
    of_touches w.0.slots (contains_from_has (map (λ (t : Touch). t.slots) touched) w.0.slots (has_mapped (λ (t : Touch). t.slots) touched w.0 w.1)) in
    subst (λ (n : Note). (n.position ≡ p) × IsMarkOf h held.position p (range_kept s held) n.mark) w.2 (refl, made_of)

-- a note of an output key to which a reported key is applied
application_mark : (s : Subject) (held made : Holding) (h : History) (p : ℕ) (reported : List Text) (note : Note) → AreListed held.position p h held.rows.needs reported → IsAdvancedTo s p reported held made
    → Has (key_notes p (applied_by s reported made)) note → (note.position ≡ p) × IsMarkOf h held.position p (range_kept s held) note.mark
application_mark s held made h p reported note listed advanced has =
    let w = has_map (λ (a : Application). record { position = p; mark = key a.output }) (applied_by s reported made) note has in
    let filled : IsFilledBy h held.position p (range_kept s held) w.0.output = applied_fills s held made h p reported w.0 listed advanced w.1 in
    subst (λ (n : Note). (n.position ≡ p) × IsMarkOf h held.position p (range_kept s held) n.mark) w.2 (refl, filled)

-- a note that an advance makes is made at its position, of what it touches
pub notes_are_marks : (s : Subject) (held made : Holding) (h : History) (p : ℕ) (reported : List Text) → ((given : Slots) → Contains (map (λ t. t.slots) (touched_by s reported held)) given → AreTouchedSlots h held.position p (range_kept s held) given)
    → AreListed held.position p h held.rows.needs reported → IsAdvancedTo s p reported held made
    → (note : Note) → Contains (touch_notes p (touched_by s reported held) ++ key_notes p (applied_by s reported made)) note → (note.position ≡ p) × IsMarkOf h held.position p (range_kept s held) note.mark
notes_are_marks s held made h p reported of_touches listed advanced note has =
    let by_touch = touch_notes p (touched_by s reported held) in
    let by_key = key_notes p (applied_by s reported made) in
    ⊎_elim
    (λ (there : Has by_touch note). touch_mark s held h p reported note of_touches there)
    (λ (there : Has by_key note). application_mark s held made h p reported note listed advanced there)
    (has_append_cases by_touch by_key note (has_from_contains (by_touch ++ by_key) note has))
