-- The one source of an aggregate, and how the needs and the applications of a kept range speak of the source keys that give to an output key.
use Rattle.std.proofs.Common.{◌≡◌, ℕ, zero, suc, ◌≤◌, true, false, cond, not, List, [], ◌∷◌, ◌++◌, length, filter, slice_get, Option, Some, None, IsSomeAnd, refl, sym, ap, ◌∙◌, subst, inl, arith}
use Rattle.std.specs.List.{enumerate_from}
use Rattle.std.proofs.lemmas.Bool.{and_parts, and_from, not-true}
use Rattle.std.proofs.lemmas.Option.{none-some, same_Some}
use Rattle.semantics.specs.Texts.{Text, Table, Range, within}
use Rattle.semantics.specs.Patterns.{Slots, no_slots, is_pattern, IsPartOf, bind, fill, fits}
use Rattle.semantics.specs.Joins.{Source, Join, is_join, is_check, keeps_slot_rule}
use Rattle.semantics.proofs.PatternLemmas.{part_itself, no_slots_part, length-no_slots, segments_of_pattern, bind_some, fill_fits}
use Rattle.semantics.proofs.BindLemmas.{texts-no_slots, texts_bind, bind_less, fits_from}
use Rattle.semantics.proofs.MemberLemmas.{Has, has_from_contains, has_filter, passes_from_all}
use Rattle.semantics.proofs.OutputLemmas.{output_of_join, sources_of_join}
use Rattle.growing_history.proofs.ElementLemmas.{has_of_all}
use Rattle.range_evaluation.specs.Trees.{Need, placed_sources, is_asked}
use Rattle.range_evaluation.specs.PathLaws.{HoldsNext}
use Rattle.range_evaluation.proofs.GivenLemmas.{binds_less}
use Rattle.range_evaluation.proofs.FollowedLemmas.{IsReady, ready_more, ready_fills, ready_first}
use Rattle.range_evaluation.proofs.ContributionLemmas.{HasOneSource}
use Rattle.kept_ranges.specs.Kept.{Kept, is_covered, CameBy, IsRight}
use Rattle.kept_ranges.specs.Rules.{Application, applications}
use Rattle.kept_ranges.specs.ListingLaws.{IsAggregateJoin}
use Rattle.kept_ranges.proofs.ApplyLemmas.{IsApplication, application_has}
use Rattle.kept_ranges.proofs.ListingLemmas.{gives, gives_parts, gives_from}

-- ---- the one source

-- it is no check
unchecked : (j : Join) (one : HasOneSource j) → is_check one.source.operator ≡ false
unchecked j one =
    not-true (is_check one.source.operator) (has_filter (λ s. not (is_check s.operator)) j.sources one.source (subst (λ ss. Has ss one.source) (sym one.values) (inl refl))).0

-- it stands alone at the first place
placed_one : (j : Join) (one : HasOneSource j) → placed_sources j ≡ (0, one.source) ∷ []
placed_one j one =
    ap (λ ss. filter (λ (p : ℕ × Source). is_check p.1.operator) (enumerate_from 0 ss) ++ filter (λ (p : ℕ × Source). not (is_check p.1.operator)) (enumerate_from 0 ss)) one.sources
    ∙ ap (λ b. cond b ((0, one.source) ∷ []) [] ++ cond (not b) ((0, one.source) ∷ []) []) (unchecked j one)

-- the one element of a list, by its place
alone_at : {A : Type 0} (x y : A) (n : ℕ) → slice_get (x ∷ []) n ≡ Some y → (n ≡ 0) × (x ≡ y)
alone_at x y zero h = (refl, same_Some x y h)
alone_at x y (suc n) h = absurd (none-some y h)

-- whichever source stands at a place is it
source_alone : (j : Join) (one : HasOneSource j) (n : ℕ) (s : Source) → slice_get j.sources n ≡ Some s → one.source ≡ s
source_alone j one n s h = (alone_at one.source s n (ap (λ ss. slice_get ss n) (sym one.sources) ∙ h)).1

-- whichever place has a source among the placed ones is the first, and the source is it
pub placed_alone : (j : Join) (one : HasOneSource j) (n : ℕ) (p : ℕ × Source) → slice_get (placed_sources j) n ≡ Some p → (n ≡ 0) × ((0, one.source) ≡ p)
placed_alone j one n p h = alone_at (0, one.source) p n (ap (λ ps. slice_get ps n) (sym (placed_one j one)) ∙ h)

-- its pattern is one
pattern_alone : (j : Join) (one : HasOneSource j) → is_join j ≡ true → is_pattern one.source.pattern ≡ true
pattern_alone j one ok = passes_from_all (λ s. is_pattern s.pattern) j.sources one.source (sources_of_join j ok) (subst (λ ss. Has ss one.source) (sym one.sources) (inl refl))

-- a need that came by a path came by no key
pub by_none : (j : Join) (one : HasOneSource j) (table : Table) (needs : List Need) (need : Need) → CameBy j table needs need → need.by ≡ []
by_none j one table needs need came = none_by need.by (slice_get (placed_sources j) (length need.by)) refl came.next
  where
    none_by : (by : List Text) (o : Option (ℕ × Source)) → slice_get (placed_sources j) (length by) ≡ o → IsSomeAnd o (λ p. p.0 ≡ need.source) → by ≡ []
    none_by by None e h = absurd h
    none_by [] (Some p) e h = refl
    none_by (k ∷ ks) (Some p) e h = absurd (omega (arith, (placed_alone j one (length (k ∷ ks)) p e).0))

-- ---- what a source key fills

-- what the source binds under no slots fills what any slots fill that have it as a part
fills_alike : (j : Join) (one : HasOneSource j) (key : Text) (bound more : Slots) → is_join j ≡ true → keeps_slot_rule j ≡ true → bind one.source.pattern key no_slots ≡ Some bound → IsPartOf bound more → fill j.output more ≡ fill j.output bound
fills_alike j one key bound more ok rule e part =
    ready_fills j.output bound more (ready_more j.output one.source [] key no_slots bound (pattern_alone j one ok) length-no_slots e (subst (λ ss. IsReady j.output ss no_slots) one.order (ready_first j no_slots rule))) part

-- a source key that slots bind and fill an output key of the range from gives to it
pub gives_bound : (j : Join) (one : HasOneSource j) (range : Range) (key output : Text) (slots bound : Slots) → is_join j ≡ true → keeps_slot_rule j ≡ true → length slots ≡ 16 → bind one.source.pattern key slots ≡ Some bound
    → fill j.output bound ≡ Some output → within range output ≡ true → gives j one.source range output key ≡ true
gives_bound j one range key output slots bound ok rule long e filled inside =
    let pattern = output_of_join j ok in
    let less = bind_less one.source.pattern key no_slots slots bound (no_slots_part slots) (length-no_slots ∙ sym long) e in
    let fills = sym (fills_alike j one key less.0 bound ok rule less.1 less.2) ∙ filled in
    let fit = (fill_fits j.output less.0 output pattern (texts_bind one.source.pattern key no_slots less.0 texts-no_slots less.1) fills).0 in
    let fitting = fits_from j.output output less.0 (segments_of_pattern j.output pattern) fit in
    gives_from j.output (is_asked j.output no_slots range) output (bind one.source.pattern key no_slots)
    (record { slots = less.0; bound = less.1; fills = fills; passes = and_from (within range output) (fits j.output output) inside fitting })

-- a key that is applied gives to the output key
pub applied_gives : (j : Join) (range : Range) (table : Table) (before : Kept) (reported : List Text) (a : Application) (aggregate : IsAggregateJoin j) (one : HasOneSource j) → IsRight j range table before
    → IsApplication j range before.pending reported before.needs a → gives j one.source range a.output a.source ≡ true
applied_gives j range table before reported a aggregate one right is =
    let came = has_of_all (CameBy j table before.needs) before.needs is.need right.came is.has in
    let own : one.source ≡ is.source_is = source_alone j one is.need.source is.source_is is.of_source in
    gives_bound j one range a.source a.output is.need.slots is.bound aggregate.is_join aggregate.rules.slots came.places (ap (λ s. bind s.pattern a.source is.need.slots) own ∙ is.binds) is.fills is.inside

-- ---- a need that holds a source key which gives to an output key

-- a need of the source by no key, under a part of what the key binds, whose range holds the key
pub record IsHeld (j : Join) (one : HasOneSource j) (needs : List Need) (key output : Text) : Type 0 where
  pub bound : Slots
  pub binds : bind one.source.pattern key no_slots ≡ Some bound
  pub fills : fill j.output bound ≡ Some output
  pub need : Need
  pub has : Has needs need
  pub next : HoldsNext 0 [] bound key need

-- nothing that is pending covers no key
uncovered : (j : Join) (kept : Kept) (key : Text) → kept.pending ≡ [] → is_covered j.output kept.pending key ≡ false
uncovered j kept key nothing = ap (λ pending. is_covered j.output pending key) nothing

-- each short key that gives to an output key of the range is held
pub held : (j : Join) (range : Range) (table : Table) (before : Kept) (key output : Text) (aggregate : IsAggregateJoin j) (one : HasOneSource j) → IsRight j range table before → before.pending ≡ []
    → gives j one.source range output key ≡ true → length key ≤ 512 → IsHeld j one before.needs key output
held j range table before key output aggregate one right nothing give short =
    let pattern = output_of_join j aggregate.is_join in
    let parts = gives_parts j.output (is_asked j.output no_slots range) output (bind one.source.pattern key no_slots) give in
    let inside = (and_parts (within range output) (fits j.output output) parts.passes).0 in
    let fit = (fill_fits j.output parts.slots output pattern (texts_bind one.source.pattern key no_slots parts.slots texts-no_slots parts.bound) parts.fills).0 in
    let takes = (bind_some one.source.pattern key no_slots parts.slots (segments_of_pattern one.source.pattern (pattern_alone j one aggregate.is_join)) length-no_slots parts.bound).takes in
    let at : slice_get (placed_sources j) 0 ≡ Some (0, one.source) = ap (λ ps. slice_get ps 0) (placed_one j one) in
    let w = right.followed output [] parts.slots parts.slots 0 one.source key inside (uncovered j before output nothing) fit tt at (part_itself parts.slots) takes short in
    record { bound = parts.slots; binds = parts.bound; fills = parts.fills; need = w.1; has = has_from_contains before.needs w.1 (w.0, w.2, w.3); next = w.4 }

-- a reported key that gives to an output key of the range is applied to it
pub gives_applied : (j : Join) (range : Range) (table : Table) (before : Kept) (reported : List Text) (key output : Text) (aggregate : IsAggregateJoin j) (one : HasOneSource j) → IsRight j range table before → before.pending ≡ []
    → within range output ≡ true → IsHeld j one before.needs key output → Has reported key → Has (applications j range before.pending reported before.needs) (record { output = output; source = key })
gives_applied j range table before reported key output aggregate one right nothing inside is reports =
    let came = has_of_all (CameBy j table before.needs) before.needs is.need right.came is.has in
    let pattern = pattern_alone j one aggregate.is_join in
    let takes = (bind_some one.source.pattern key no_slots is.bound (segments_of_pattern one.source.pattern pattern) length-no_slots is.binds).takes in
    let found = binds_less one.source.pattern key is.need.slots is.bound pattern came.places takes is.next.part in
    let less = bind_less one.source.pattern key no_slots is.need.slots found.0 (no_slots_part is.need.slots) (length-no_slots ∙ sym came.places) found.1 in
    application_has j range before.pending reported before.needs (record { output = output; source = key }) (record {
      need = is.need;
      source_is = one.source;
      bound = found.0;
      has = is.has;
      of_source = ap (slice_get j.sources) is.next.of_source ∙ ap (λ ss. slice_get ss 0) one.sources;
      gives_value = unchecked j one;
      holds = is.next.holds;
      reports = reports;
      binds = found.1;
      fills = fills_alike j one key less.0 found.0 aggregate.is_join aggregate.rules.slots less.1 less.2 ∙ ap (fill j.output) (same_Some less.0 is.bound (sym less.1 ∙ is.binds)) ∙ is.fills;
      inside = inside;
      uncovered = uncovered j before output nothing;
    })
