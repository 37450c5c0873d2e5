-- The needs as followed paths.
use Rattle.std.proofs.Common.{◌≡◌, ℕ, zero, suc, ◌+◌, ◌≤◌, not, List, [], ◌∷◌, ◌++◌, length, filter, take, slice_get, true, Any, Option, Some, None, is_some, IsSomeAnd, refl, sym, ap, ◌∙◌, subst, inl, inr, ⊎_elim, arith, append_assoc, append-nil}
use Rattle.std.specs.List.{list_all, AllByRecursion, enumerate_from}
use Rattle.std.proofs.lemmas.Bool.{false≢true, and_parts}
use Rattle.std.proofs.lemmas.Option.{none-some, same_Some, slice_get_past}
use Rattle.std.proofs.lemmas.List.Elements.{All-from_recursion}
use Rattle.semantics.specs.Texts.{Text, Table, Range, within, value_at, pairs_within}
use Rattle.semantics.specs.Patterns.{Pattern, Slots, is_pattern, Fits, IsPartOf, bind}
use Rattle.semantics.specs.Joins.{Source, Join, is_join, is_check}
use Rattle.semantics.proofs.PatternLemmas.{part_itself, part_trans, fits_more, bind_some, segments_of_pattern}
use Rattle.semantics.proofs.BindLemmas.{length-bind}
use Rattle.semantics.proofs.MemberLemmas.{Has, contains_from_has, has_filter, has_filtered, has_append_cases, has_flat_map, has_flat_mapped, passes_from_all, all_from_each}
use Rattle.semantics.proofs.TableLemmas.{IsAscending, has_from_value, value_from_has}
use Rattle.semantics.proofs.OutputLemmas.{output_of_join, sources_of_join}
use Rattle.key_ranges.specs.Containing.{containing}
use Rattle.key_ranges.proofs.NarrowedLemmas.{containing_holds}
use Rattle.range_evaluation.specs.Trees.{Need, placed_sources, under, over, needs_from, tree}
use Rattle.range_evaluation.specs.PathLaws.{IsPath, HoldsNext, NeedsHoldNext, CameByPath, NeedsCameByPaths, HasHeldPath, NeedsHoldTheirPaths}
use Rattle.range_evaluation.proofs.GivenLemmas.{binds_less}
use Rattle.range_evaluation.proofs.NeedLemmas.{after_pair, of_range}
use Rattle.range_evaluation.proofs.FollowedLemmas.{HasShortKey, short_keys, IsAskedKey}
use Rattle.growing_history.proofs.ElementLemmas.{all_from_has, has_of_all}

-- ---- the sources with their places

-- a source with a place is one of the list
enumerated : (n : ℕ) (ss : List Source) (p : ℕ × Source) → Has (enumerate_from n ss) p → Has ss p.1
enumerated n [] p h = absurd h
enumerated n (s ∷ ss) p (inl e) = inl (ap (λ q. q.1) e)
enumerated n (s ∷ ss) p (inr h) = inr (enumerated (n + 1) ss p h)

-- the sources with their places have patterns
pub placed_patterns : (j : Join) → is_join j ≡ true → list_all (λ p. is_pattern p.1.pattern) (placed_sources j) ≡ true
placed_patterns j ok = all_from_each (λ p. is_pattern p.1.pattern) (placed_sources j) (λ p h.
    passes_from_all (λ s. is_pattern s.pattern) j.sources p.1 (sources_of_join j ok) (enumerated 0 j.sources p (⊎_elim
    (λ (a : Has (filter (λ p. is_check p.1.operator) (enumerate_from 0 j.sources)) p). (has_filter (λ p. is_check p.1.operator) (enumerate_from 0 j.sources) p a).1)
    (λ b. (has_filter (λ p. not (is_check p.1.operator)) (enumerate_from 0 j.sources) p b).1)
    (has_append_cases (filter (λ p. is_check p.1.operator) (enumerate_from 0 j.sources)) (filter (λ p. not (is_check p.1.operator)) (enumerate_from 0 j.sources)) p h))))

-- ---- keys of the table

-- the value at a key, where there is one
pub value_by : (o : Option Text) → is_some o ≡ true → (value : Text) × (o ≡ Some value)
value_by None h = absurd (false≢true h)
value_by (Some value) h = (value, refl)

-- a key of the table stands in it with its value
pub pair_at : (key : Text) (table : Table) → is_some (value_at key table) ≡ true → (value : Text) × Has table (key, value)
pair_at key table h = let w = value_by (value_at key table) h in (w.0, has_from_value key w.0 table w.1)

-- a key of the table is short
pub short_at : (key : Text) (table : Table) → AllByRecursion HasShortKey table → is_some (value_at key table) ≡ true → length key ≤ 512
short_at key table small h = let w = pair_at key table h in has_of_all HasShortKey table (key, w.0) small w.1

-- ---- a path that goes on

-- a need of a source whose key goes on from no path yet
first_by : (output : Pattern) (asked : Range) (p : ℕ × Source) (ps : List (ℕ × Source)) (table : Table) (by : List Text) (slots more : Slots) (key : Text) (o : Option Range) → IsPartOf slots more → IsSomeAnd o (λ r. within r key ≡ true)
    → (need : Need) × Has (over (of_range output asked p ps table by slots) o) need × HoldsNext p.0 by more key need
first_by output asked p ps table by slots more key None part h = absurd h
first_by output asked p ps table by slots more key (Some range) part h =
    (record { source = p.0; slots = slots; by = by; range = range }, inl refl, record { of_source = refl; by = refl; part = part; holds = h })

-- the needs that follow from a key of a source are needs of the source
later_by : (output : Pattern) (asked : Range) (p : ℕ × Source) (ps : List (ℕ × Source)) (table : Table) (by : List Text) (slots next : Slots) (pair : Text × Text) (need : Need) (o : Option Range) → IsSomeAnd o (λ r. within r pair.0 ≡ true) → Has table pair
    → bind p.1.pattern pair.0 slots ≡ Some next → Has (needs_from output asked ps table (by ++ pair.0 ∷ []) next) need → Has (over (of_range output asked p ps table by slots) o) need
later_by output asked p ps table by slots next pair need None h stored bound has = absurd h
later_by output asked p ps table by slots next pair need (Some range) h stored bound has = inr (has_flat_mapped (after_pair output asked p ps table by slots) (pairs_within range table) pair need
    (has_filtered (λ q. within range q.0) table pair h stored)
    (subst (λ b. Has (under (λ more. needs_from output asked ps table (by ++ pair.0 ∷ []) more) b) need) (sym bound) has))

-- slots that may be gone on from, together with an output key of the asked range: 16 places, a part of others, and these of wider ones, under which the key fits
record AreBelow (output : Pattern) (asked : Range) (out : Text) (slots more wider : Slots) : Type 0 where
  long : length slots ≡ 16
  part : IsPartOf slots more
  wide : IsPartOf more wider
  key : IsAskedKey output asked out
  together : Fits output out wider

-- a key that goes on from a path is held by a need of that path
holds_from : (output : Pattern) (asked : Range) (out : Text) (ps : List (ℕ × Source)) (table : Table) (by : List Text) (slots more wider : Slots) (path : List Text) (source : ℕ) (s : Source) (key : Text) → list_all (λ p. is_pattern p.1.pattern) ps ≡ true
    → AllByRecursion HasShortKey table → AreBelow output asked out slots more wider → IsPath ps table path more → slice_get ps (length path) ≡ Some (source, s) → Fits s.pattern key wider → length key ≤ 512
    → (need : Need) × Has (needs_from output asked ps table by slots) need × HoldsNext source (by ++ path) more key need
holds_from output asked out [] table by slots more wider [] source s key patterns small are path at fit short = absurd (none-some (source, s) at)
holds_from output asked out [] table by slots more wider (k ∷ ks) source s key patterns small are path at fit short = absurd path
holds_from output asked out (p ∷ ps) table by slots more wider [] source s key patterns small are path at fit short =
    let one : p ≡ (source, s) = same_Some p (source, s) at in
    let pattern = (and_parts (is_pattern p.1.pattern) (list_all (λ q. is_pattern q.1.pattern) ps) patterns).0 in
    let held = containing_holds p.1.pattern slots wider output asked key out pattern are.key.pattern are.key.range short (subst (λ q. Fits q.1.pattern key wider) (sym one) fit) (part_trans slots more wider are.part are.wide) are.key.inside are.together in
    let w = first_by output asked p ps table by slots more key (containing p.1.pattern slots output asked) are.part held in
    (w.0, w.1, subst (λ b. HoldsNext source b more key w.0) (sym (append-nil by)) (subst (λ q. HoldsNext q.0 by more key w.0) one w.2))
holds_from output asked out (p ∷ ps) table by slots more wider (k ∷ ks) source s key patterns small are path at fit short =
    let parts = and_parts (is_pattern p.1.pattern) (list_all (λ q. is_pattern q.1.pattern) ps) patterns in
    let held = containing_holds p.1.pattern slots wider output asked k out parts.0 are.key.pattern are.key.range (short_at k table small path.0) (fits_more p.1.pattern k more wider are.wide path.1)
    (part_trans slots more wider are.part are.wide) are.key.inside are.together in
    let stored = pair_at k table path.0 in
    let next = binds_less p.1.pattern k slots more parts.0 are.long path.1 are.part in
    let go_on : AreBelow output asked out next.0 more wider = record { long = length-bind p.1.pattern k slots next.0 next.1 ∙ are.long; part = next.2; wide = are.wide; key = are.key; together = are.together } in
    let w = holds_from output asked out ps table (by ++ k ∷ []) next.0 more wider ks source s key parts.1 small go_on path.2 at fit short in (
      w.0,
      later_by output asked p ps table by slots next.0 (k, stored.0) w.0 (containing p.1.pattern slots output asked) held stored.1 next.1 w.1,
      subst (λ b. HoldsNext source b more key w.0) (append_assoc by (k ∷ []) ks) w.2,
    )

-- an element with a fact is one that the list has
pub is_any : {A : Type 0} (P : A → Type 0) (xs : List A) (x : A) → Has xs x → P x → Any P xs
is_any P xs x h p = let c = contains_from_has xs x h in (c.0, x, c.1, c.2, p)

-- whichever key goes on from a path, some need by that path holds it
pub needs_hold_next : NeedsHoldNext
unfolding tree
needs_hold_next j slots more wider range table path source s key out ok bounds keys long part is at wide fit short inside together =
    let w = holds_from j.output range out (placed_sources j) table [] slots more wider path source s key (placed_patterns j ok) (short_keys table keys)
    (record { long = long; part = part; wide = wide; key = record { pattern = output_of_join j ok; range = bounds; inside = inside }; together = together }) is at fit short in
    is_any (HoldsNext source path more key) (tree j slots range table) w.0 w.1 w.2

-- ---- where the needs came from

-- a need's source is the next after its path, and its range the containing one
abbrev IsNext : Pattern → Range → List (ℕ × Source) → List Text → Need → Type 0
IsNext output asked ps path need = IsSomeAnd (slice_get ps (length path)) (λ p. (p.0 ≡ need.source) × (containing p.1.pattern need.slots output asked ≡ Some need.range))

-- some need of these came by the keys before one of a path, and holds it
abbrev IsHeld : List (ℕ × Source) → List Text → List Text → Slots → List Need → Type 0
IsHeld ps front path slots needs = (i source : ℕ) (s : Source) (key : Text) → slice_get ps i ≡ Some (source, s) → slice_get path i ≡ Some key
    → (need : Need) × Has needs need × HoldsNext source (front ++ take i path) slots key need

-- the need went on from slots by a path, whose keys are held by some of these needs
record WentOn (output : Pattern) (asked : Range) (ps : List (ℕ × Source)) (table : Table) (front : List Text) (slots : Slots) (needs : List Need) (need : Need) : Type 0 where
  more : List Text
  by : need.by ≡ front ++ more
  path : IsPath ps table more need.slots
  part : IsPartOf slots need.slots
  least : (other : Slots) → IsPath ps table more other → IsPartOf slots other → IsPartOf need.slots other
  places : length need.slots ≡ 16
  next : IsNext output asked ps more need
  held : IsHeld ps front more need.slots needs

-- the needs from a path on went on from it
abbrev AllWentOn : Pattern → Range → List (ℕ × Source) → Table → Type 0
AllWentOn output asked ps table = (by : List Text) (slots : Slots) (need : Need) → length slots ≡ 16 → Has (needs_from output asked ps table by slots) need → WentOn output asked ps table by slots (needs_from output asked ps table by slots) need

-- the first key of a path is held by the need of the range in which it was read, and the others by the needs that follow from it
held_after : (output : Pattern) (asked : Range) (p : ℕ × Source) (ps : List (ℕ × Source)) (table : Table) (by : List Text) (slots next wide : Slots) (range : Range) (pair : Text × Text) (path : List Text) → within range pair.0 ≡ true → Has table pair
    → bind p.1.pattern pair.0 slots ≡ Some next → IsPartOf slots wide → IsHeld ps (by ++ pair.0 ∷ []) path wide (needs_from output asked ps table (by ++ pair.0 ∷ []) next)
    → IsHeld (p ∷ ps) by (pair.0 ∷ path) wide (of_range output asked p ps table by slots range)
held_after output asked p ps table by slots next wide range pair path inside stored bound part held zero source s key at k = (
  record { source = p.0; slots = slots; by = by; range = range },
  inl refl,
  record {
    of_source = ap (λ q. q.0) (same_Some p (source, s) at);
    by = sym (append-nil by);
    part = part;
    holds = ap (within range) (sym (same_Some pair.0 key k)) ∙ inside;
  },
)
held_after output asked p ps table by slots next wide range pair path inside stored bound part held (suc i) source s key at k =
    let w = held i source s key at k in (
      w.0,
      inr (has_flat_mapped (after_pair output asked p ps table by slots) (pairs_within range table) pair w.0 (has_filtered (λ q. within range q.0) table pair inside stored)
          (subst (λ b. Has (under (λ more. needs_from output asked ps table (by ++ pair.0 ∷ []) more) b) w.0) (sym bound) w.1)),
      subst (λ b. HoldsNext source b wide key w.0) (append_assoc by (pair.0 ∷ []) (take i path)) w.2,
    )

-- a need that follows from a pair whose key binds went on by that key
went_after : (output : Pattern) (asked : Range) (p : ℕ × Source) (ps : List (ℕ × Source)) (table : Table) (by : List Text) (slots : Slots) (range : Range) (pair : Text × Text) (need : Need) (o : Option Slots) → is_pattern p.1.pattern ≡ true → length slots ≡ 16
    → is_some (value_at pair.0 table) ≡ true → within range pair.0 ≡ true → Has table pair → bind p.1.pattern pair.0 slots ≡ o → AllWentOn output asked ps table → Has (under (λ more. needs_from output asked ps table (by ++ pair.0 ∷ []) more) o) need
    → WentOn output asked (p ∷ ps) table by slots (of_range output asked p ps table by slots range) need
went_after output asked p ps table by slots range pair need None pattern long stands inside stored e all h = absurd h
went_after output asked p ps table by slots range pair need (Some next) pattern long stands inside stored e all h =
    let bound = bind_some p.1.pattern pair.0 slots next (segments_of_pattern p.1.pattern pattern) long e in
    let rest = all (by ++ pair.0 ∷ []) next need (bound.long ∙ long) h in
    let part = part_trans slots next need.slots bound.keeps rest.part in
    record {
      more = pair.0 ∷ rest.more;
      by = rest.by ∙ append_assoc by (pair.0 ∷ []) rest.more;
      path = (stands, fits_more p.1.pattern pair.0 next need.slots rest.part bound.takes, rest.path);
      part = part;
      least = λ other path within_other. rest.least other path.2 (bound.least other path.1 within_other);
      places = rest.places;
      next = rest.next;
      held = held_after output asked p ps table by slots next need.slots range pair rest.more inside stored e part rest.held;
    }

-- a source with a containing range, or without one
went_over : (output : Pattern) (asked : Range) (p : ℕ × Source) (ps : List (ℕ × Source)) (table : Table) (by : List Text) (slots : Slots) (need : Need) (o : Option Range) → is_pattern p.1.pattern ≡ true → length slots ≡ 16 → IsAscending table
    → containing p.1.pattern slots output asked ≡ o → AllWentOn output asked ps table → Has (over (of_range output asked p ps table by slots) o) need → WentOn output asked (p ∷ ps) table by slots (over (of_range output asked p ps table by slots) o) need
went_over output asked p ps table by slots need None pattern long sorted e all h = absurd h
went_over output asked p ps table by slots need (Some range) pattern long sorted e all (inl q) = subst (WentOn output asked (p ∷ ps) table by slots (of_range output asked p ps table by slots range)) q record {
  more = [];
  by = sym (append-nil by);
  path = tt;
  part = part_itself slots;
  least = λ other path part. part;
  places = long;
  next = (refl, e);
  held = λ i source s key at k. absurd (none-some key (sym (slice_get_past [] i (omega arith)) ∙ k));
}
went_over output asked p ps table by slots need (Some range) pattern long sorted e all (inr h) =
    let w = has_flat_map (after_pair output asked p ps table by slots) (pairs_within range table) need h in
    let stored = has_filter (λ q. within range q.0) table w.0 w.1 in
    let stands : is_some (value_at w.0.0 table) ≡ true = ap is_some (value_from_has w.0.0 w.0.1 table sorted stored.1) in
    went_after output asked p ps table by slots range w.0 need (bind p.1.pattern w.0.0 slots) pattern long stands stored.0 stored.1 refl all w.2

all_went_on : (output : Pattern) (asked : Range) (ps : List (ℕ × Source)) (table : Table) → list_all (λ p. is_pattern p.1.pattern) ps ≡ true → IsAscending table → AllWentOn output asked ps table
all_went_on output asked [] table patterns sorted by slots need long h = absurd h
all_went_on output asked (p ∷ ps) table patterns sorted by slots need long h =
    let parts = and_parts (is_pattern p.1.pattern) (list_all (λ q. is_pattern q.1.pattern) ps) patterns in
    went_over output asked p ps table by slots need (containing p.1.pattern slots output asked) parts.0 long sorted refl (all_went_on output asked ps table parts.1 sorted) h

-- a need of the tree came by a path
came_by_path : (j : Join) (slots : Slots) (range : Range) (table : Table) (need : Need) → is_join j ≡ true → length slots ≡ 16 → IsAscending table → Has (tree j slots range table) need → CameByPath j slots range table need
unfolding tree
came_by_path j slots range table need ok long sorted h =
    let w = all_went_on j.output range (placed_sources j) table (placed_patterns j ok) sorted [] slots need long h in
    record {
      path = subst (λ keys. IsPath (placed_sources j) table keys need.slots) (sym w.by) w.path;
      part = w.part;
      least = λ other path part. w.least other (subst (λ keys. IsPath (placed_sources j) table keys other) w.by path) part;
      places = w.places;
      next = subst (λ keys. IsNext j.output range (placed_sources j) keys need) (sym w.by) w.next;
    }

-- each need came by a path
pub needs_came_by_paths : NeedsCameByPaths
needs_came_by_paths j slots range table ok long sorted =
    All-from_recursion (CameByPath j slots range table) (tree j slots range table) (all_from_has (CameByPath j slots range table) (tree j slots range table) (λ need h. came_by_path j slots range table need ok long sorted h))

-- ---- the needs of a path's keys

-- a beginning of a path is a path
pub path_before : (ps : List (ℕ × Source)) (table : Table) (path : List Text) (slots : Slots) (i : ℕ) → IsPath ps table path slots → IsPath ps table (take i path) slots
path_before ps table path slots zero h = tt
path_before ps table [] slots (suc i) h = tt
path_before [] table (k ∷ ks) slots (suc i) h = absurd h
path_before (p ∷ ps) table (k ∷ ks) slots (suc i) h = (h.0, h.1, path_before ps table ks slots i h.2)

-- a key of a path is one of the table, and fits its source
pub path_key : (ps : List (ℕ × Source)) (table : Table) (path : List Text) (slots : Slots) (i source : ℕ) (s : Source) (key : Text) → IsPath ps table path slots → slice_get ps i ≡ Some (source, s) → slice_get path i ≡ Some key
    → (is_some (value_at key table) ≡ true) × Fits s.pattern key slots
path_key ps table [] slots i source s key h at k = absurd (none-some key (sym (slice_get_past [] i (omega arith)) ∙ k))
path_key [] table (first ∷ ks) slots i source s key h at k = absurd h
path_key (p ∷ ps) table (first ∷ ks) slots zero source s key h at k =
    let keys : first ≡ key = same_Some first key k in
    let sources : p ≡ (source, s) = same_Some p (source, s) at in
    (ap (λ q. is_some (value_at q table)) (sym keys) ∙ h.0, subst (λ q. Fits q.1.pattern key slots) sources (subst (λ q. Fits p.1.pattern q slots) keys h.1))
path_key (p ∷ ps) table (first ∷ ks) slots (suc i) source s key h at k = path_key ps table ks slots i source s key h.2 at k

-- each key by which a need came is held by a need that came by the keys before it
has_held_path : (j : Join) (slots : Slots) (range : Range) (table : Table) (need : Need) → is_join j ≡ true → length slots ≡ 16 → IsAscending table → Has (tree j slots range table) need → HasHeldPath j slots range table need
unfolding tree
has_held_path j slots range table need ok long sorted h i source s key at k =
    let w = all_went_on j.output range (placed_sources j) table (placed_patterns j ok) sorted [] slots need long h in
    let held = w.held i source s key at (ap (λ path. slice_get path i) (sym w.by) ∙ k) in
    is_any (HoldsNext source (take i need.by) need.slots key) (tree j slots range table) held.0 held.1
    (subst (λ path. HoldsNext source (take i path) need.slots key held.0) (sym w.by) held.2)

-- so it is of each need
pub needs_hold_their_paths : NeedsHoldTheirPaths
needs_hold_their_paths j slots range table ok long sorted =
    All-from_recursion (HasHeldPath j slots range table) (tree j slots range table) (all_from_has (HasHeldPath j slots range table) (tree j slots range table) (λ need h. has_held_path j slots range table need ok long sorted h))
