-- What is touched: the slots that a changed key of a check source sets, and the needs that are left.
use Rattle.std.proofs.Common.{◌≡◌, ℕ, Bool, true, false, cond, not, List, [], map, filter_map, Contains, Option, Some, None, is_some, option_map, refl, sym, ap, ◌∙◌, subst, inl, inr, ⊎_elim}
use Rattle.std.specs.List.{list_any, AllByRecursion}
use Rattle.std.proofs.lemmas.Bool.{false≢true, not-true}
use Rattle.std.proofs.lemmas.Option.{none-some, same_Some}
use Rattle.semantics.specs.Texts.{Text, same, Table, within}
use Rattle.semantics.specs.Patterns.{Pattern, Slots, text_at, is_pattern, IsPartOf, bind}
use Rattle.semantics.specs.PatternLaws.{AreSegmentTexts}
use Rattle.semantics.specs.Joins.{Source, Join, is_join, is_check, slots_of, occurs}
use Rattle.semantics.proofs.PieceLemmas.{same_itself, equal_by_same}
use Rattle.semantics.proofs.PatternLemmas.{segments_of_pattern}
use Rattle.semantics.proofs.BindLemmas.{texts_bind}
use Rattle.semantics.proofs.MemberLemmas.{Has, has_from_contains, contains_from_has, has_filter, has_filtered, has_map, has_mapped, has_filter_map, has_filter_mapped, has_flat_map, has_flat_mapped, any_from_has, has_from_any}
use Rattle.semantics.proofs.OutputLemmas.{output_of_join}
use Rattle.key_ranges.specs.Containing.{only}
use Rattle.key_ranges.proofs.OnlyLemmas.{only_has_places, only_is_given}
use Rattle.range_evaluation.specs.Trees.{Need}
use Rattle.range_evaluation.specs.TreeLaws.{AreOutputSlots}
use Rattle.growing_history.proofs.ElementLemmas.{all_from_has, has_of_all}
use Rattle.kept_ranges.specs.Kept.{Kept, is_covered, CameBy}
use Rattle.kept_ranges.specs.Rules.{source_of, reported_in, Touch, touch_of, touches_by, touches, is_touched, is_left, IsCut}

-- ---- slots of the output alone

-- a text of one choice, where the other has none
chosen : (b : Bool) (o : Option Text) (t : Text) → cond b o None ≡ Some t → (b ≡ true) × (o ≡ Some t)
chosen true o t h = (refl, h)
chosen false o t h = absurd (none-some t h)

-- a text of the slots of a pattern alone was given, for a place of the pattern
only_given : (p : Pattern) (given : Slots) (place : ℕ) (t : Text) → is_pattern p ≡ true → text_at place (only p given) ≡ Some t → (occurs place (slots_of p) ≡ true) × (text_at place given ≡ Some t)
only_given p given place t pattern h =
    chosen (occurs place (slots_of p)) (text_at place given) t (sym (only_is_given p given place (segments_of_pattern p pattern)) ∙ h)

-- the slots of a pattern alone are a part of the given ones
pub only_part : (p : Pattern) (given : Slots) → is_pattern p ≡ true → IsPartOf (only p given) given
only_part p given pattern place t h = (only_given p given place t pattern h).1

-- the slots of the output alone are slots of the output
pub only_are_output_slots : (j : Join) (given : Slots) → is_join j ≡ true → AreSegmentTexts given → AreOutputSlots j (only j.output given)
only_are_output_slots j given ok texts =
    let output = output_of_join j ok in
    record {
      places = only_has_places j.output given;
      texts = λ place t h. texts place t (only_given j.output given place t output h).1;
      among = λ place t h. (only_given j.output given place t output h).0;
    }

-- ---- what is touched

-- a reported key of a check source that is touched through a need
pub record IsTouched (j : Join) (reported : List Text) (needs : List Need) (touch : Touch) : Type 0 where
  pub need : Need
  pub source_is : Source
  pub bound : Slots
  pub has : Has needs need
  pub of_source : source_of j need ≡ Some source_is
  pub is_check : is_check source_is.operator ≡ true
  pub inside : within need.range touch.key ≡ true
  pub reports : Has reported touch.key
  pub binds : bind source_is.pattern touch.key need.slots ≡ Some bound
  pub slots_are : touch.slots ≡ only j.output bound

-- what a key touches, where it binds
touched_by : (j : Join) (key : Text) (o : Option Slots) (touch : Touch) → option_map (λ slots. record { key = key; slots = only j.output slots }) o ≡ Some touch → (bound : Slots) × (o ≡ Some bound) × (key ≡ touch.key) × (touch.slots ≡ only j.output bound)
touched_by j key None touch h = absurd (none-some touch h)
touched_by j key (Some bound) touch h =
    let e : record { key = key; slots = only j.output bound } ≡ touch = same_Some _ _ h in
    (bound, refl, ap (λ (t : Touch). t.key) e, ap (λ (t : Touch). t.slots) (sym e))

-- what the reported keys touch through one need
touched_through : (j : Join) (reported : List Text) (needs : List Need) (need : Need) (touch : Touch) (o : Option Source) → Has needs need → source_of j need ≡ o → Has (touches_by j reported need o) touch → IsTouched j reported needs touch
touched_through j reported needs need touch None has e h = absurd h
touched_through j reported needs need touch (Some source) has e h = by_check (is_check source.operator) refl h
  where
    by_check : (b : Bool) → is_check source.operator ≡ b → Has (cond b (filter_map (touch_of j need source) (reported_in reported need)) []) touch → IsTouched j reported needs touch
    by_check false e h = absurd h
    by_check true checks h =
        let w = has_filter_map (touch_of j need source) (reported_in reported need) touch h in
        let listed = has_filter (within need.range) reported w.0 w.1 in
        let t = touched_by j w.0 (bind source.pattern w.0 need.slots) touch w.2 in
        record {
          need = need;
          source_is = source;
          bound = t.0;
          has = has;
          of_source = e;
          is_check = checks;
          inside = ap (within need.range) (sym t.2) ∙ listed.0;
          reports = subst (Has reported) t.2 listed.1;
          binds = ap (λ k. bind source.pattern k need.slots) (sym t.2) ∙ t.1;
          slots_are = t.3;
        }

-- each touch is of a reported key of a check source
pub touched : (j : Join) (reported : List Text) (needs : List Need) (touch : Touch) → Has (touches j reported needs) touch → IsTouched j reported needs touch
touched j reported needs touch h =
    let w = has_flat_map (λ need. touches_by j reported need (source_of j need)) needs touch h in
    touched_through j reported needs w.0 touch (source_of j w.0) w.1 refl w.2

-- a reported key of a check source touches the slots that it sets together with a need
pub touches_have : (j : Join) (reported : List Text) (needs : List Need) (need : Need) (source : Source) (key : Text) (bound : Slots) → Has needs need → source_of j need ≡ Some source → is_check source.operator ≡ true
    → within need.range key ≡ true → Has reported key → bind source.pattern key need.slots ≡ Some bound → Has (touches j reported needs) (record { key = key; slots = only j.output bound })
touches_have j reported needs need source key bound has e check inside reports binds =
    let touch : Touch = record { key = key; slots = only j.output bound } in
    let here : Has (filter_map (touch_of j need source) (reported_in reported need)) touch =
    has_filter_mapped (touch_of j need source) (reported_in reported need) key touch (ap (option_map (λ slots. record { key = key; slots = only j.output slots })) binds) (has_filtered (within need.range) reported key inside reports) in
    let by_check : Has (cond (is_check source.operator) (filter_map (touch_of j need source) (reported_in reported need)) []) touch =
    subst (λ b. Has (cond b (filter_map (touch_of j need source) (reported_in reported need)) []) touch) (sym check) here in
    has_flat_mapped (λ need. touches_by j reported need (source_of j need)) needs need touch has (subst (λ o. Has (touches_by j reported need o) touch) (sym e) by_check)

-- ---- the needs that are left

-- what is no test's answer
pub not_by : (b : Bool) → (b ≡ true → ⊥) → not b ≡ true
not_by true h = absurd (h refl)
not_by false h = refl

-- a touched key is reported
touched_reported : (j : Join) (reported : List Text) (needs : List Need) (key : Text) → is_touched (touches j reported needs) key ≡ true → Has reported key
touched_reported j reported needs key h =
    let w = has_from_any (λ touch. same touch.key key) (touches j reported needs) h in
    subst (Has reported) (equal_by_same w.0.key key w.2) (touched j reported needs w.0 w.1).reports

-- a need that came by no reported key is left
pub left_unreported : (j : Join) (reported : List Text) (needs : List Need) (need : Need) → ((key : Text) → Has need.by key → Has reported key → ⊥) → is_left (touches j reported needs) need ≡ true
left_unreported j reported needs need none = not_by (list_any (is_touched (touches j reported needs)) need.by) (λ h.
    let w = has_from_any (is_touched (touches j reported needs)) need.by h in
    none w.0 w.1 (touched_reported j reported needs w.0 w.2))

-- a need that is left came by no touched key
pub left_untouched : (touched : List Touch) (need : Need) (touch : Touch) → is_left touched need ≡ true → Has touched touch → Has need.by touch.key → ⊥
left_untouched touched need touch left has by =
    false≢true (sym (not-true (list_any (is_touched touched) need.by) left)
    ∙ any_from_has (is_touched touched) need.by touch.key by (any_from_has (λ t. same t.key touch.key) touched touch has (same_itself touch.key)))

-- a need that came by some of the keys of one that is left is left
pub left_fewer : (touched : List Touch) (need fewer : Need) → is_left touched need ≡ true → ((key : Text) → Has fewer.by key → Has need.by key) → is_left touched fewer ≡ true
left_fewer touched need fewer left among = not_by (list_any (is_touched touched) fewer.by) (λ h.
    let w = has_from_any (is_touched touched) fewer.by h in
    false≢true (sym (not-true (list_any (is_touched touched) need.by) left) ∙ any_from_has (is_touched touched) need.by w.0 (among w.0 w.1) w.2))

-- ---- what a cut keeps

-- a need that is kept was left
pub cut_left : (j : Join) (reported : List Text) (before after : Kept) (need : Need) → IsCut j reported before after → Has after.needs need → (is_left (touches j reported before.needs) need ≡ true) × Has before.needs need
cut_left j reported before after need cut h = has_filter (is_left (touches j reported before.needs)) before.needs need (subst (λ needs. Has needs need) cut.needs h)

-- a need that is left is kept
pub cut_keeps : (j : Join) (reported : List Text) (before after : Kept) (need : Need) → IsCut j reported before after → is_left (touches j reported before.needs) need ≡ true → Has before.needs need → Has after.needs need
cut_keeps j reported before after need cut left h = subst (λ needs. Has needs need) (sym cut.needs) (has_filtered (is_left (touches j reported before.needs)) before.needs need left h)

-- touched slots are pending
pub cut_pends : (j : Join) (reported : List Text) (before after : Kept) (touch : Touch) → IsCut j reported before after → Has (touches j reported before.needs) touch → Has after.pending touch.slots
cut_pends j reported before after touch cut h =
    has_from_contains after.pending touch.slots ((cut.pending touch.slots).1 (inr (contains_from_has (map (λ t. t.slots) (touches j reported before.needs)) touch.slots (has_mapped (λ t. t.slots) (touches j reported before.needs) touch h))))

-- a key that is covered by nothing that is pending afterwards was covered by nothing before
pub cut_uncovered : (j : Join) (reported : List Text) (before after : Kept) (key : Text) → IsCut j reported before after → is_covered j.output after.pending key ≡ false → is_covered j.output before.pending key ≡ false
cut_uncovered j reported before after key cut h = by_before (is_covered j.output before.pending key) refl
  where
    covers : Slots → Bool
    covers slots = is_some (bind j.output key slots)

    by_before : (b : Bool) → is_covered j.output before.pending key ≡ b → b ≡ false
    by_before false e = refl
    by_before true e =
        let w = has_from_any covers before.pending e in
        let stays : Has after.pending w.0 = has_from_contains after.pending w.0 ((cut.pending w.0).1 (inl (contains_from_has before.pending w.0 w.1))) in
        absurd (false≢true (sym h ∙ any_from_has covers after.pending w.0 stays w.2))

-- what is pending afterwards are slots of the output
pub cut_pending : (j : Join) (reported : List Text) (table : Table) (before after : Kept) → is_join j ≡ true → IsCut j reported before after → AllByRecursion (CameBy j table before.needs) before.needs → AllByRecursion (AreOutputSlots j) before.pending
    → AllByRecursion (AreOutputSlots j) after.pending
cut_pending j reported table before after ok cut came pending = all_from_has (AreOutputSlots j) after.pending (λ slots h. ⊎_elim
    (λ (old : Contains before.pending slots). has_of_all (AreOutputSlots j) before.pending slots pending (has_from_contains before.pending slots old))
    (λ new.
    let w = has_map (λ t. t.slots) (touches j reported before.needs) slots (has_from_contains (map (λ t. t.slots) (touches j reported before.needs)) slots new) in
    let t = touched j reported before.needs w.0 w.1 in
    let texts = texts_bind t.source_is.pattern w.0.key t.need.slots t.bound (has_of_all (CameBy j table before.needs) before.needs t.need came t.has).texts t.binds in
    subst (AreOutputSlots j) (sym t.slots_are ∙ w.2) (only_are_output_slots j t.bound ok texts))
    ((cut.pending slots).0 (contains_from_has after.pending slots h)))
