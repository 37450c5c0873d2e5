-- An advance of a copy join keeps what is right.
use Rattle.std.proofs.Common.{◌≡◌, ℕ, ◌≤◌, true, false, List, length, map, take, slice_get, Any, Contains, Option, Some, None, is_some, refl, sym, ap, ◌∙◌, subst, ⊎_elim, arith}
use Rattle.std.specs.List.{AllByRecursion}
use Rattle.std.proofs.lemmas.Bool.{false≢true}
use Rattle.std.proofs.lemmas.Option.{same_Some, slice_get_within}
use Rattle.std.proofs.lemmas.List.{length-take-le}
use Rattle.semantics.specs.Texts.{Text, Table, Range, value_at, within}
use Rattle.semantics.specs.Patterns.{Slots, is_pattern, Fits, IsPartOf, bind}
use Rattle.semantics.specs.Joins.{Source, Join, is_check}
use Rattle.semantics.specs.Outputs.{out}
use Rattle.semantics.specs.OutputLaws.{IsCopyJoin}
use Rattle.semantics.proofs.PatternLemmas.{part_itself, part_trans, fill_fits, bind_some, segments_of_pattern}
use Rattle.semantics.proofs.BindLemmas.{texts_bind}
use Rattle.semantics.proofs.TableLemmas.{IsAscending}
use Rattle.semantics.proofs.MemberLemmas.{Has, has_from_contains, contains_from_has, has_map, has_mapped, any_from_has, passes_from_all}
use Rattle.semantics.proofs.OutputLemmas.{output_of_join, sources_of_join}
use Rattle.key_ranges.specs.Containing.{only}
use Rattle.key_ranges.proofs.OnlyLemmas.{only_has_places}
use Rattle.range_evaluation.specs.Trees.{Need, placed_sources}
use Rattle.range_evaluation.specs.PathLaws.{IsPath, HoldsNext}
use Rattle.range_evaluation.proofs.GivenLemmas.{binds_less}
use Rattle.range_evaluation.proofs.AskedLemmas.{binds_with_part}
use Rattle.range_evaluation.proofs.FollowedLemmas.{short_keys}
use Rattle.range_evaluation.proofs.PathLemmas.{short_at, is_any, path_before, path_key}
use Rattle.growing_history.proofs.ElementLemmas.{all_from_has, has_of_all}
use Rattle.kept_ranges.specs.Kept.{Kept, is_covered, IsRowKey, AreRows, AreFollowed, CameBy, IsRight}
use Rattle.kept_ranges.specs.Rules.{source_of, touches, Application, applications, applied, IsCut}
use Rattle.kept_ranges.specs.Listing.{IsApplied}
use Rattle.kept_ranges.specs.FillLaws.{IsSource}
use Rattle.kept_ranges.specs.AdvanceLaws.{AreReported, AdvancedIsRight, UnappliedIsSame}
use Rattle.kept_ranges.proofs.PathLemmas.{has_of_any, has_at, has_from_at, has_from_take, some_with, path_wider, path_over, stands_at, source_before, IsLaidOut, copy_laid_out, checked_before, value_last}
use Rattle.kept_ranges.proofs.OutputPathLemmas.{LeadsTo, out_is_source, path_from_out, filled_by_path}
use Rattle.kept_ranges.proofs.TouchLemmas.{only_part, touches_have, left_unreported, left_untouched, left_fewer, cut_left, cut_keeps, cut_pends, cut_uncovered, cut_pending}
use Rattle.kept_ranges.proofs.ApplyLemmas.{IsApplication, application_from, application_has, applied_row_key, ascending-applied, StaysAt, stays_or_set, applied_keys}

-- ---- an advance

-- what is kept goes from one table to another: it was right for the first, both are the same beside the reported keys, and it was cut for these
record IsCarried (j : Join) (s : Source) (range : Range) (reported : List Text) (table other : Table) (before after : Kept) : Type 0 where
  rules : IsCopyJoin j
  laid : IsLaidOut j s
  first : IsSource table
  second : IsSource other
  right : IsRight j range table before
  same_beside : AreReported before.needs reported table other
  cut : IsCut j reported before after

-- a key of the range that is not covered afterwards, and slots under which it fits the output
record IsOpen (j : Join) (range : Range) (after : Kept) (key : Text) (more : Slots) : Type 0 where
  inside : within range key ≡ true
  uncovered : is_covered j.output after.pending key ≡ false
  agrees : Fits j.output key more

-- a key that is not reported, with the same value in both tables
record IsSameKey (reported : List Text) (table other : Table) (key : Text) : Type 0 where
  unreported : Has reported key → ⊥
  value : value_at key table ≡ value_at key other

-- a key of a need's range that is not reported is the same in both tables
same_key : (j : Join) (s : Source) (range : Range) (reported : List Text) (table other : Table) (before after : Kept) (need : Need) (key : Text) → IsCarried j s range reported table other before after
    → Has before.needs need → within need.range key ≡ true → (Has reported key → ⊥) → IsSameKey reported table other key
same_key j s range reported table other before after need key c has holds none = record {
  unreported = none;
  value = has_of_all (λ n. (k : Text) → within n.range k ≡ true → (Contains reported k → ⊥) → value_at k table ≡ value_at k other) before.needs need c.same_beside has key holds (λ h. none (has_from_contains reported key h));
}

-- the pattern of a source is one
pattern_at : (j : Join) (place : ℕ) (r : Source) → IsCopyJoin j → slice_get j.sources place ≡ Some r → is_pattern r.pattern ≡ true
pattern_at j place r ok at = passes_from_all (λ q. is_pattern q.pattern) j.sources r (sources_of_join j ok.is_join) (has_from_at j.sources place r at)

-- ---- no key of a path that agrees with an open key is reported

-- the need before the advance that holds the next key of such a path
next_need : (j : Join) (s : Source) (range : Range) (reported : List Text) (table other : Table) (before after : Kept) (key : Text) (more wider : Slots) (path : List Text) (source : ℕ) (r : Source) (next : Text)
    → IsCarried j s range reported table other before after → IsOpen j range after key more → IsPath (placed_sources j) table path more → slice_get (placed_sources j) (length path) ≡ Some (source, r)
    → IsPartOf more wider → Fits r.pattern next wider → length next ≤ 512 → (need : Need) × Has before.needs need × HoldsNext source path more next need
next_need j s range reported table other before after key more wider path source r next c is_open path_is at wide fit short =
    has_of_any (HoldsNext source path more next) before.needs
    (c.right.followed key path more wider source r next is_open.inside (cut_uncovered j reported before after key c.cut is_open.uncovered) is_open.agrees path_is at wide fit short)

-- the next key of a check is not reported: what it then touched would cover the open key
next_is_same : (j : Join) (s : Source) (range : Range) (reported : List Text) (table other : Table) (before after : Kept) (key : Text) (more : Slots) (path : List Text) (source : ℕ) (r : Source) (next : Text)
    → IsCarried j s range reported table other before after → IsOpen j range after key more → IsPath (placed_sources j) table path more → slice_get (placed_sources j) (length path) ≡ Some (source, r)
    → is_check r.operator ≡ true → Fits r.pattern next more → length next ≤ 512 → IsSameKey reported table other next
next_is_same j s range reported table other before after key more path source r next c is_open path_is at check fit short =
    let w = next_need j s range reported table other before after key more more path source r next c is_open path_is at (part_itself more) fit short in
    let came = has_of_all (CameBy j table before.needs) before.needs w.0 c.right.came w.1 in
    let stands = stands_at j (length path) source r at in
    let bound = binds_less r.pattern next w.0.slots more (pattern_at j source r c.rules stands) came.places fit w.2.part in
    let of_source : source_of j w.0 ≡ Some r = ap (slice_get j.sources) w.2.of_source ∙ stands in
    let output = output_of_join j c.rules.is_join in
    let none : Has reported next → ⊥ = λ reports.
    let pends = cut_pends j reported before after (record { key = next; slots = only j.output bound.0 }) c.cut (touches_have j reported before.needs w.0 r next bound.0 w.1 of_source check w.2.holds reports bound.1) in
    let covers = binds_with_part j.output key (only j.output bound.0) more output (only_has_places j.output bound.0) is_open.agrees (part_trans (only j.output bound.0) bound.0 more (only_part j.output bound.0 output) bound.2) in
    false≢true (sym is_open.uncovered ∙ any_from_has (λ slots. is_some (bind j.output key slots)) after.pending (only j.output bound.0) pends covers) in
    same_key j s range reported table other before after w.0 next c w.1 w.2.holds none

-- all sources of a path's keys are checks
abbrev AreChecks : Join → List Text → Type 0
AreChecks j path = (i source : ℕ) (r : Source) (key : Text) → slice_get (placed_sources j) i ≡ Some (source, r) → slice_get path i ≡ Some key → is_check r.operator ≡ true

-- those of a path after which a source follows
checks_before : (j : Join) (s : Source) (path : List Text) (p : ℕ × Source) → IsLaidOut j s → slice_get (placed_sources j) (length path) ≡ Some p → AreChecks j path
checks_before j s path p laid at i source r key there is = checked_before j s (length path) i (source, r) p laid at (slice_get_within path i key is) there

-- a beginning of a path up to a key is as long as the key's place
front_at : (j : Join) (path : List Text) (i source : ℕ) (r : Source) (key : Text) → slice_get (placed_sources j) i ≡ Some (source, r) → slice_get path i ≡ Some key → slice_get (placed_sources j) (length (take i path)) ≡ Some (source, r)
front_at j path i source r key at is =
    let long : length (take i path) ≡ i = length-take-le i path (let l = slice_get_within path i key is in omega arith) in
    ap (slice_get (placed_sources j)) long ∙ at

-- a path of checks in the first table that agrees with an open key is one in the second
path_to_second : (j : Join) (s : Source) (range : Range) (reported : List Text) (table other : Table) (before after : Kept) (key : Text) (more : Slots) (path : List Text)
    → IsCarried j s range reported table other before after → IsOpen j range after key more → AreChecks j path → IsPath (placed_sources j) table path more → IsPath (placed_sources j) other path more
path_to_second j s range reported table other before after key more path c is_open checks path_is = path_over (placed_sources j) table other path more path_is (λ i source r next front at is stands fit.
    let q = next_is_same j s range reported table other before after key more (take i path) source r next c is_open (path_before (placed_sources j) table path more i path_is) (front_at j path i source r next at is)
    (checks i source r next at is) fit (short_at next table (short_keys table c.first.keys) stands) in
    ap is_some (sym q.value) ∙ stands)

-- and one in the second is one in the first
path_to_first : (j : Join) (s : Source) (range : Range) (reported : List Text) (table other : Table) (before after : Kept) (key : Text) (more : Slots) (path : List Text)
    → IsCarried j s range reported table other before after → IsOpen j range after key more → AreChecks j path → IsPath (placed_sources j) other path more → IsPath (placed_sources j) table path more
path_to_first j s range reported table other before after key more path c is_open checks path_is = path_over (placed_sources j) other table path more path_is (λ i source r next front at is stands fit.
    let q = next_is_same j s range reported table other before after key more (take i path) source r next c is_open front (front_at j path i source r next at is)
    (checks i source r next at is) fit (short_at next other (short_keys other c.second.keys) stands) in
    ap is_some q.value ∙ stands)

-- no key of such a path is reported
path_unreported : (j : Join) (s : Source) (range : Range) (reported : List Text) (table other : Table) (before after : Kept) (key : Text) (more : Slots) (path : List Text)
    → IsCarried j s range reported table other before after → IsOpen j range after key more → (p : ℕ × Source) → slice_get (placed_sources j) (length path) ≡ Some p → IsPath (placed_sources j) table path more
    → (k : Text) → Has path k → Has reported k → ⊥
path_unreported j s range reported table other before after key more path c is_open p last path_is k h =
    let w = has_at path k h in
    let source = source_before (placed_sources j) (length path) w.0 p last (slice_get_within path w.0 k w.1) in
    let one = path_key (placed_sources j) table path more w.0 source.0 source.1 k path_is source.2 w.1 in
    (next_is_same j s range reported table other before after key more (take w.0 path) source.0 source.1 k c is_open (path_before (placed_sources j) table path more w.0 path_is) (front_at j path w.0 source.0 source.1 k source.2 w.1)
    (checks_before j s path p c.laid last w.0 source.0 source.1 k source.2 w.1) one.1 (short_at k table (short_keys table c.first.keys) one.0)).unreported

-- the need that holds the next key of such a path is kept
next_need_kept : (j : Join) (s : Source) (range : Range) (reported : List Text) (table other : Table) (before after : Kept) (key : Text) (more wider : Slots) (path : List Text) (source : ℕ) (r : Source) (next : Text)
    → IsCarried j s range reported table other before after → IsOpen j range after key more → IsPath (placed_sources j) table path more → slice_get (placed_sources j) (length path) ≡ Some (source, r)
    → IsPartOf more wider → Fits r.pattern next wider → length next ≤ 512 → (need : Need) × Has before.needs need × Has after.needs need × HoldsNext source path more next need
next_need_kept j s range reported table other before after key more wider path source r next c is_open path_is at wide fit short =
    let w = next_need j s range reported table other before after key more wider path source r next c is_open path_is at wide fit short in
    let left = left_unreported j reported before.needs w.0 (λ k h. path_unreported j s range reported table other before after key more path c is_open (source, r) at path_is k (subst (λ l. Has l k) w.2.by h)) in
    (w.0, w.1, cut_keeps j reported before after w.0 c.cut left w.1, w.2)

-- each path that agrees with an open key is followed afterwards
followed_after : (j : Join) (s : Source) (range : Range) (reported : List Text) (table other : Table) (before after : Kept) → IsCarried j s range reported table other before after → AreFollowed j range other after
followed_after j s range reported table other before after c key path more wider source r next inside uncovered agrees path_is at wide fit short =
    let is_open : IsOpen j range after key more = record { inside = inside; uncovered = uncovered; agrees = agrees } in
    let first = path_to_first j s range reported table other before after key more path c is_open (checks_before j s path (source, r) c.laid at) path_is in
    let w = next_need_kept j s range reported table other before after key more wider path source r next c is_open first at wide fit short in
    is_any (HoldsNext source path more next) after.needs w.0 w.2 w.3

-- ---- the needs that are left

-- a key by which a need came that is left is the same in both tables, and the need that holds it is left
by_key_is_same : (j : Join) (s : Source) (range : Range) (reported : List Text) (table other : Table) (before after : Kept) (need : Need) (i source : ℕ) (r : Source) (key : Text) → IsCarried j s range reported table other before after
    → Has after.needs need → slice_get (placed_sources j) i ≡ Some (source, r) → slice_get need.by i ≡ Some key
    → IsSameKey reported table other key × Any (HoldsNext source (take i need.by) need.slots key) after.needs
by_key_is_same j s range reported table other before after need i source r key c has at is =
    let left = cut_left j reported before after need c.cut has in
    let came = has_of_all (CameBy j table before.needs) before.needs need c.right.came left.1 in
    let w = has_of_any (HoldsNext source (take i need.by) need.slots key) before.needs (came.held i source r key at is) in
    let holder = has_of_all (CameBy j table before.needs) before.needs w.0 c.right.came w.1 in
    let next = some_with (λ p. p.0 ≡ need.source) (slice_get (placed_sources j) (length need.by)) came.next in
    let check = checks_before j s need.by next.0 c.laid next.1 i source r key at is in
    let stands = stands_at j i source r at in
    let fit = (path_key (placed_sources j) table need.by need.slots i source r key came.path at is).1 in
    let bound = binds_less r.pattern key w.0.slots need.slots (pattern_at j source r c.rules stands) holder.places fit w.2.part in
    let of_source : source_of j w.0 ≡ Some r = ap (slice_get j.sources) w.2.of_source ∙ stands in
    let none : Has reported key → ⊥ = λ reports. left_untouched (touches j reported before.needs) need (record { key = key; slots = only j.output bound.0 }) left.0
    (touches_have j reported before.needs w.0 r key bound.0 w.1 of_source check w.2.holds reports bound.1) (has_from_at need.by i key is) in
    let fewer = left_fewer (touches j reported before.needs) need w.0 left.0 (λ k h. has_from_take i need.by k (subst (λ l. Has l k) w.2.by h)) in (
      same_key j s range reported table other before after w.0 key c w.1 w.2.holds none,
      is_any (HoldsNext source (take i need.by) need.slots key) after.needs w.0 (cut_keeps j reported before after w.0 c.cut fewer w.1) w.2,
    )

-- each need that is left came by a path of the second table
came_after : (j : Join) (s : Source) (range : Range) (reported : List Text) (table other : Table) (before after : Kept) (need : Need) → IsCarried j s range reported table other before after → Has after.needs need → CameBy j other after.needs need
came_after j s range reported table other before after need c has =
    let left = cut_left j reported before after need c.cut has in
    let came = has_of_all (CameBy j table before.needs) before.needs need c.right.came left.1 in
    record {
      places = came.places;
      texts = came.texts;
      path = path_over (placed_sources j) table other need.by need.slots came.path (λ i source r key front at is stands fit.
          ap is_some (sym (by_key_is_same j s range reported table other before after need i source r key c has at is).0.value) ∙ stands);
      next = came.next;
      held = λ i source r key at is. (by_key_is_same j s range reported table other before after need i source r key c has at is).1;
    }

-- ---- the output where nothing is applied

-- a path of both tables to an open key, and a key that goes on from it as the copy source's: the output is the same, where the key is not applied
same_by_path : (j : Join) (s : Source) (range : Range) (reported : List Text) (table other : Table) (before after : Kept) (key : Text) (path : List Text) (next : Text) (slots : Slots) → (c : IsCarried j s range reported table other before after)
    → IsOpen j range after key slots → LeadsTo j s c.laid.place table key path next slots → LeadsTo j s c.laid.place other key path next slots → length path ≡ length c.laid.checks → length next ≤ 512
    → (IsApplied (applications j range after.pending reported after.needs) key → ⊥) → value_at key (out j other) ≡ value_at key (out j table)
same_by_path j s range reported table other before after key path next slots c is_open leads leads_other full short none =
    let w = next_need_kept j s range reported table other before after key slots slots path c.laid.place s next c is_open leads.path_is leads.at (part_itself slots) leads.fits short in
    let came = has_of_all (CameBy j table before.needs) before.needs w.0 c.right.came w.1 in
    let stands = stands_at j (length path) c.laid.place s leads.at in
    let of_source : source_of j w.0 ≡ Some s = ap (slice_get j.sources) w.3.of_source ∙ stands in
    let pattern = pattern_at j c.laid.place s c.rules stands in
    let bound = binds_less s.pattern next w.0.slots slots pattern came.places leads.fits w.3.part in
    let least = bind_some s.pattern next w.0.slots bound.0 (segments_of_pattern s.pattern pattern) came.places bound.1 in
    let by_path : IsPath (placed_sources j) table path bound.0 = path_wider (placed_sources j) table path w.0.slots bound.0 least.keeps (subst (λ keys. IsPath (placed_sources j) table keys w.0.slots) w.3.by came.path) in
    let fills = filled_by_path j s table key path next bound.0 slots c.rules c.laid by_path full least.takes bound.2 leads.agrees leads.short in
    let unreported : Has reported next → ⊥ = λ reports.
    let a : Application = record { output = key; source = next } in
    let is : IsApplication j range after.pending reported after.needs a = record {
      need = w.0;
      source_is = s;
      bound = bound.0;
      has = w.2;
      of_source = of_source;
      gives_value = c.laid.value;
      holds = w.3.holds;
      reports = reports;
      binds = bound.1;
      fills = fills;
      inside = is_open.inside;
      uncovered = is_open.uncovered;
    } in
    none (contains_from_has _ key (has_mapped (λ b. b.output) (applications j range after.pending reported after.needs) a (application_has j range after.pending reported after.needs a is))) in
    out_is_source j s other key path next slots c.rules c.laid c.second.ascending leads_other full
    ∙ sym (same_key j s range reported table other before after w.0 next c w.1 w.3.holds unreported).value
    ∙ sym (out_is_source j s table key path next slots c.rules c.laid c.first.ascending leads full)

-- what leads to a key over one table leads to it over another in which the checks' keys are a path
leads_over : (j : Join) (s : Source) (place : ℕ) (table other : Table) (key : Text) (path : List Text) (next : Text) (slots : Slots) → LeadsTo j s place table key path next slots → IsPath (placed_sources j) other path slots → LeadsTo j s place other key path next slots
leads_over j s place table other key path next slots leads path_is = record { path_is = path_is; at = leads.at; fits = leads.fits; agrees = leads.agrees; short = leads.short }

-- two values are the same, where they are so as soon as one of them is there
same_by : (a b : Option Text) → (is_some a ≡ true → a ≡ b) → (is_some b ≡ true → a ≡ b) → a ≡ b
same_by None None f g = refl
same_by None (Some y) f g = g refl
same_by (Some x) b f g = f refl

-- at an open key that is not applied the output is the same over both tables
unapplied_same : (j : Join) (s : Source) (range : Range) (reported : List Text) (table other : Table) (before after : Kept) (key : Text) → (c : IsCarried j s range reported table other before after)
    → within range key ≡ true → is_covered j.output after.pending key ≡ false → (IsApplied (applications j range after.pending reported after.needs) key → ⊥) → value_at key (out j other) ≡ value_at key (out j table)
unapplied_same j s range reported table other before after key c inside uncovered none = same_by (value_at key (out j other)) (value_at key (out j table))
    (λ h.
    let w = path_from_out j s other key c.rules c.laid c.second.ascending h in
    let is_open : IsOpen j range after key w.slots = record { inside = inside; uncovered = uncovered; agrees = w.leads.agrees } in
    let first = path_to_first j s range reported table other before after key w.slots w.path c is_open (checks_before j s w.path (c.laid.place, s) c.laid w.leads.at) w.leads.path_is in
    same_by_path j s range reported table other before after key w.path w.next w.slots c is_open (leads_over j s c.laid.place other table key w.path w.next w.slots w.leads first) w.leads w.full
    (short_at w.next other (short_keys other c.second.keys) w.stands) none)
    (λ h.
    let w = path_from_out j s table key c.rules c.laid c.first.ascending h in
    let is_open : IsOpen j range after key w.slots = record { inside = inside; uncovered = uncovered; agrees = w.leads.agrees } in
    let second = path_to_second j s range reported table other before after key w.slots w.path c is_open (checks_before j s w.path (c.laid.place, s) c.laid w.leads.at) w.leads.path_is in
    same_by_path j s range reported table other before after key w.path w.next w.slots c is_open w.leads (leads_over j s c.laid.place table other key w.path w.next w.slots w.leads second) w.full
    (short_at w.next table (short_keys table c.first.keys) w.stands) none)

-- so the output is the same where nothing is applied
pub unapplied_is_same : UnappliedIsSame
unapplied_is_same j range reported table other before after key ok first second right beside cut inside uncovered none =
    let w = copy_laid_out j ok in
    unapplied_same j w.0 range reported table other before after key (record { rules = ok; laid = w.1; first = first; second = second; right = right; same_beside = beside; cut = cut }) inside uncovered none

-- ---- the rows

-- at an applied key the output is what the second table has at the source key
applied_value : (j : Join) (s : Source) (range : Range) (reported : List Text) (table other : Table) (before after : Kept) (a : Application) → IsCarried j s range reported table other before after
    → IsApplication j range after.pending reported after.needs a → value_at a.output (out j other) ≡ value_at a.source other
applied_value j s range reported table other before after a c is =
    let came = came_after j s range reported table other before after is.need c is.has in
    let next = some_with (λ p. p.0 ≡ is.need.source) (slice_get (placed_sources j) (length is.need.by)) came.next in
    let stands = stands_at j (length is.need.by) next.0.0 next.0.1 next.1 in
    let is_source : next.0.1 ≡ is.source_is = same_Some next.0.1 is.source_is (sym stands ∙ ap (slice_get j.sources) next.2 ∙ is.of_source) in
    let last = value_last j s (length is.need.by) next.0 c.laid next.1 (ap (λ r. is_check r.operator) is_source ∙ is.gives_value) in
    let source : is.source_is ≡ s = sym is_source ∙ ap (λ p. p.1) (sym last.1) in
    let pattern = pattern_at j is.need.source is.source_is c.rules is.of_source in
    let bound = bind_some is.source_is.pattern a.source is.need.slots is.bound (segments_of_pattern is.source_is.pattern pattern) came.places is.binds in
    let fit = fill_fits j.output is.bound a.output (output_of_join j c.rules.is_join) (texts_bind is.source_is.pattern a.source is.need.slots is.bound came.texts is.binds) is.fills in
    let leads : LeadsTo j s c.laid.place other a.output is.need.by a.source is.bound = record {
      path_is = path_wider (placed_sources j) other is.need.by is.need.slots is.bound bound.keeps came.path;
      at = next.1 ∙ ap Some (sym last.1);
      fits = subst (λ r. Fits r.pattern a.source is.bound) source bound.takes;
      agrees = fit.0;
      short = fit.1;
    } in
    out_is_source j s other a.output is.need.by a.source is.bound c.rules c.laid c.second.ascending leads last.0

-- the rows with what is applied are right for the second table
rows_after : (j : Join) (s : Source) (range : Range) (reported : List Text) (table other : Table) (before after : Kept) → IsCarried j s range reported table other before after
    → after.rows ≡ applied other (applications j range after.pending reported after.needs) before.rows → AreRows j range other after
rows_after j s range reported table other before after c rows =
    let applying = applications j range after.pending reported after.needs in
    let old = c.right.rows in
    record {
      ascending = subst (λ r. IsAscending r) (sym rows) (ascending-applied other applying before.rows old.ascending);
      keys = subst (λ r. AllByRecursion (λ pair. IsRowKey j range pair.0) r) (sym rows) (applied_keys (IsRowKey j range) other applying before.rows old.ascending old.keys (λ a h.
          let is = application_from j range after.pending reported after.needs a h in
          applied_row_key j range after.pending reported after.needs a c.rules.is_join is (came_after j s range reported table other before after is.need c is.has).texts));
      exact = λ key inside uncovered. ap (value_at key) rows ∙ ⊎_elim
          (λ (stays : StaysAt other applying before.rows key).
          let none : IsApplied applying key → ⊥ = λ h. let w = has_map (λ a. a.output) applying key (has_from_contains (map (λ a. a.output) applying) key h) in stays.none w.0 w.1 w.2 in
          stays.value ∙ old.exact key inside (cut_uncovered j reported before after key c.cut uncovered) ∙ sym (unapplied_same j s range reported table other before after key c inside uncovered none))
          (λ set.
          set.value ∙ sym (applied_value j s range reported table other before after set.application c (application_from j range after.pending reported after.needs set.application set.has))
          ∙ ap (λ k. value_at k (out j other)) set.output)
          (stays_or_set other applying before.rows key);
    }

-- what is right for a table is right for another one after an advance to it
pub advanced_is_right : AdvancedIsRight
advanced_is_right j range reported table other before after ok first second right beside advanced =
    let w = copy_laid_out j ok in
    let c : IsCarried j w.0 range reported table other before after = record { rules = ok; laid = w.1; first = first; second = second; right = right; same_beside = beside; cut = advanced.cut } in
    record {
      rows = rows_after j w.0 range reported table other before after c advanced.rows;
      followed = followed_after j w.0 range reported table other before after c;
      came = all_from_has (CameBy j other after.needs) after.needs (λ need h. came_after j w.0 range reported table other before after need c h);
      pending = cut_pending j reported table before after ok.is_join advanced.cut right.came right.pending;
    }
