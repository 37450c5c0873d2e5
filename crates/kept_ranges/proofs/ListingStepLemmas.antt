-- What is listed after an advance, and that what is kept for an aggregate is right then.
use Rattle.std.proofs.Common.{◌≡◌, ◌⊎◌, ℕ, ◌<◌, ◌≤◌, ◌||◌, ◌&&◌, Bool, true, false, cond, List, [], ◌∷◌, length, map, slice_get, Any, Contains, Option, Some, None, is_some, refl, sym, ap, ◌∙◌, subst, inl, inr, ⊎_elim, arith}
use Rattle.std.specs.List.{list_any, AllByRecursion}
use Rattle.std.proofs.lemmas.Bool.{false≢true, false_from_ne_true, and_parts, and_from, cases_lt}
use Rattle.semantics.specs.Texts.{Text, same, Table, Range, value_at, within, pairs_where}
use Rattle.semantics.specs.Patterns.{Slots, no_slots, bind, fits}
use Rattle.semantics.specs.Joins.{Source, Join, value_operator}
use Rattle.semantics.specs.Outputs.{out}
use Rattle.semantics.proofs.PieceLemmas.{equal_by_same, same_itself}
use Rattle.semantics.proofs.MemberLemmas.{Has, has_from_contains, contains_from_has, has_map, has_mapped, has_from_any, any_from_has}
use Rattle.semantics.proofs.TableLemmas.{IsAscending, same_tables, ascending-pairs_where, value_at-pairs_where, value_from_has, has_from_value}
use Rattle.semantics.proofs.OutputLemmas.{out_keys_fit_short}
use Rattle.growing_history.proofs.ElementLemmas.{all_from_has, has_of_all}
use Rattle.range_evaluation.specs.Trees.{Need, placed_sources, is_asked}
use Rattle.range_evaluation.specs.TreeLaws.{AreOutputSlots}
use Rattle.range_evaluation.specs.PathLaws.{IsPath, HoldsNext}
use Rattle.range_evaluation.specs.Contributions.{listed_contributions}
use Rattle.range_evaluation.proofs.FollowedLemmas.{HasShortKey, short_keys}
use Rattle.range_evaluation.proofs.ContributionLemmas.{HasOneSource, one_source}
use Rattle.range_evaluation.proofs.AskedLemmas.{absent_by}
use Rattle.range_evaluation.proofs.PathLemmas.{value_by as there_by}
use Rattle.agg_rows.specs.Kept.{set_source}
use Rattle.kept_ranges.specs.Kept.{Kept, is_covered, IsRowKey, AreRows, CameBy, IsRight}
use Rattle.kept_ranges.specs.Rules.{Application, applications}
use Rattle.kept_ranges.specs.Listing.{listed_at, AreListed, listed_after, answer_of, IsApplied}
use Rattle.kept_ranges.specs.FillLaws.{IsSource}
use Rattle.kept_ranges.specs.AdvanceLaws.{AreReported}
use Rattle.kept_ranges.specs.ListingLaws.{IsAggregateJoin, IsRelisted, RelistedAreListed, RelistedIsRight, UnlistedIsSame}
use Rattle.kept_ranges.proofs.ReadLemmas.{row_key}
use Rattle.kept_ranges.proofs.ApplyLemmas.{application_from, value_at-set_pair, ascending-set_pair}
use Rattle.kept_ranges.proofs.ListingLemmas.{gives, gives_parts, listed_are_given, listed_make_rows}
use Rattle.kept_ranges.proofs.ListingSourceLemmas.{placed_alone, by_none, applied_gives, held, gives_applied}

-- ---- pairs after applications

-- whether an application lists the pair of a source key at an output key
abbrev is_for : Text → Text → Application → Bool
is_for key q a = same a.output key && same q a.source

-- the pairs with one value set have it at its key, and elsewhere what they had
value_at-set_source : (q source : Text) (o : Option Text) (pairs : Table) → value_at q (set_source source o pairs) ≡ cond (same q source) o (value_at q pairs)
value_at-set_source q source None pairs = value_at-set_pair q source None pairs
value_at-set_source q source (Some value) pairs = value_at-set_pair q source (Some value) pairs

ascending-set_source : (source : Text) (o : Option Text) (pairs : Table) → IsAscending pairs → IsAscending (set_source source o pairs)
ascending-set_source source None pairs h = ascending-set_pair source None pairs h
ascending-set_source source (Some value) pairs h = ascending-set_pair source (Some value) pairs h

-- the pairs after one application
abbrev after_one : Table → Text → Application → Table → Table
after_one table key a pairs = cond (same a.output key) (set_source a.source (value_at a.source table) pairs) pairs

-- what is set at a source key is the value that the table has there
set_own : (q source : Text) (table : Table) (o : Option Text) (b : Bool) → same q source ≡ b → cond b (value_at source table) o ≡ cond b (value_at q table) o
set_own q source table o true e = ap (λ k. value_at k table) (sym (equal_by_same q source e))
set_own q source table o false e = refl

value_at-after_one : (q key : Text) (table : Table) (a : Application) (pairs : Table) (b : Bool) →
    value_at q (cond b (set_source a.source (value_at a.source table) pairs) pairs) ≡ cond (b && same q a.source) (value_at q table) (value_at q pairs)
value_at-after_one q key table a pairs true = value_at-set_source q a.source (value_at a.source table) pairs ∙ set_own q a.source table (value_at q pairs) (same q a.source) refl
value_at-after_one q key table a pairs false = refl

either : (x y : Bool) (o r : Option Text) → cond y o (cond x o r) ≡ cond (x || y) o r
either true true o r = refl
either true false o r = refl
either false y o r = refl

-- the pairs after all applications have the table's value at each source key that is applied, and elsewhere what they had
value_at-listed_after : (q key : Text) (table : Table) (applying : List Application) (pairs : Table) → value_at q (listed_after table applying key pairs) ≡ cond (list_any (is_for key q) applying) (value_at q table) (value_at q pairs)
value_at-listed_after q key table [] pairs = refl
value_at-listed_after q key table (a ∷ applying) pairs =
    value_at-listed_after q key table applying (after_one table key a pairs)
    ∙ ap (cond (list_any (is_for key q) applying) (value_at q table)) (value_at-after_one q key table a pairs (same a.output key))
    ∙ either (is_for key q a) (list_any (is_for key q) applying) (value_at q table) (value_at q pairs)

ascending-after_one : (table : Table) (a : Application) (pairs : Table) (b : Bool) → IsAscending pairs → IsAscending (cond b (set_source a.source (value_at a.source table) pairs) pairs)
ascending-after_one table a pairs true h = ascending-set_source a.source (value_at a.source table) pairs h
ascending-after_one table a pairs false h = h

ascending-listed_after : (key : Text) (table : Table) (applying : List Application) (pairs : Table) → IsAscending pairs → IsAscending (listed_after table applying key pairs)
ascending-listed_after key table [] pairs h = h
ascending-listed_after key table (a ∷ applying) pairs h = ascending-listed_after key table applying (after_one table key a pairs) (ascending-after_one table a pairs (same a.output key) h)

-- ---- from one table to another

-- what is right for a table, with nothing pending, and another table that differs at reported keys alone
record Moves (j : Join) (range : Range) (reported : List Text) (table other : Table) (before : Kept) : Type 0 where
  aggregate : IsAggregateJoin j
  one : HasOneSource j
  below : IsSource table
  above : IsSource other
  right : IsRight j range table before
  nothing : before.pending ≡ []
  reports : AreReported before.needs reported table other

-- the applications of the reported keys
abbrev applications_of : Join → Range → List Text → Kept → List Application
applications_of j range reported before = applications j range before.pending reported before.needs

-- a key that is too long has no value
long_absent : (table : Table) (key : Text) → IsSource table → 512 < length key → value_at key table ≡ None
long_absent table key is long = absent_by (value_at key table) (λ h.
    let w = there_by (value_at key table) h in
    let short : length key ≤ 512 = has_of_all HasShortKey table (key, w.0) (short_keys table is.keys) (has_from_value key w.0 table w.1) in
    omega arith)

-- a source key that gives to an output key of the range, and is not applied to it, has one value in both tables
unapplied_same : (j : Join) (range : Range) (reported : List Text) (table other : Table) (before : Kept) (m : Moves j range reported table other before) (key q : Text) → within range key ≡ true
    → gives j m.one.source range key q ≡ true → list_any (is_for key q) (applications_of j range reported before) ≡ false → value_at q table ≡ value_at q other
unapplied_same j range reported table other before m key q inside give none = ⊎_elim
    (λ (long : 512 < length q). long_absent table q m.below long ∙ sym (long_absent other q m.above long))
    (λ (short : length q ≤ 512).
    let is = held j range table before q key m.aggregate m.one m.right m.nothing give short in
    has_of_all (λ need. (k : Text) → within need.range k ≡ true → (Contains reported k → ⊥) → value_at k table ≡ value_at k other) before.needs is.need m.reports is.has q is.next.holds (λ c.
    let a : Application = record { output = key; source = q } in
    let has = gives_applied j range table before reported q key m.aggregate m.one m.right m.nothing inside is (has_from_contains reported q c) in
    false≢true (sym none ∙ any_from_has (is_for key q) (applications_of j range reported before) a has (and_from (same key key) (same q q) (same_itself key) (same_itself q)))))
    (cases_lt 512 (length q))

-- an output key to which a source key gives lies in the range
given_inside : (j : Join) (one : HasOneSource j) (range : Range) (key q : Text) → gives j one.source range key q ≡ true → within range key ≡ true
given_inside j one range key q give =
    (and_parts (within range key) (fits j.output key) (gives_parts j.output (is_asked j.output no_slots range) key (bind one.source.pattern q no_slots) give).passes).0

-- a source key that is applied to an output key gives to it
applied_given : (j : Join) (range : Range) (reported : List Text) (table other : Table) (before : Kept) (m : Moves j range reported table other before) (key q : Text)
    → list_any (is_for key q) (applications_of j range reported before) ≡ true → gives j m.one.source range key q ≡ true
applied_given j range reported table other before m key q h =
    let w = has_from_any (is_for key q) (applications_of j range reported before) h in
    let parts = and_parts (same w.0.output key) (same q w.0.source) w.2 in
    let is = application_from j range before.pending reported before.needs w.0 w.1 in
    ap (gives j m.one.source range key) (equal_by_same q w.0.source parts.1)
    ∙ ap (λ k. gives j m.one.source range k w.0.source) (sym (equal_by_same w.0.output key parts.0))
    ∙ applied_gives j range table before reported w.0 m.aggregate m.one m.right is

value_by : (applied given : Bool) (new old : Option Text) → (applied ≡ true → given ≡ true) → (applied ≡ false → given ≡ true → old ≡ new) → cond applied new (cond given old None) ≡ cond given new None
value_by true true new old f g = refl
value_by true false new old f g = absurd (false≢true (f refl))
value_by false true new old f g = g refl refl
value_by false false new old f g = refl

-- the pairs that give to a key, after the applications, are those of the other table
pairs_after : (j : Join) (range : Range) (reported : List Text) (table other : Table) (before : Kept) (m : Moves j range reported table other before) (key : Text) →
    listed_after other (applications_of j range reported before) key (pairs_where (gives j m.one.source range key) table) ≡ pairs_where (gives j m.one.source range key) other
pairs_after j range reported table other before m key =
    let give = gives j m.one.source range key in
    let all = applications_of j range reported before in
    same_tables (listed_after other all key (pairs_where give table)) (pairs_where give other)
    (ascending-listed_after key other all (pairs_where give table) (ascending-pairs_where give table m.below.ascending))
    (ascending-pairs_where give other m.above.ascending)
    (λ q.
    value_at-listed_after q key other all (pairs_where give table)
    ∙ ap (cond (list_any (is_for key q) all) (value_at q other)) (value_at-pairs_where give q table)
    ∙ value_by (list_any (is_for key q) all) (give q) (value_at q other) (value_at q table) (applied_given j range reported table other before m key q)
    (λ none g. unapplied_same j range reported table other before m key q (given_inside j m.one range key q g) g none)
    ∙ sym (value_at-pairs_where give q other))

-- what is listed for a table is, after an advance, what is listed for the other one
pub relisted_are_listed : RelistedAreListed
relisted_are_listed j range reported table other before after listing relisted aggregate below above right nothing listed reports made key =
    let one = one_source j aggregate.rules aggregate.aggregates in
    let m : Moves j range reported table other before = record { aggregate = aggregate; one = one; below = below; above = above; right = right; nothing = nothing; reports = reports } in
    made.listed key
    ∙ ap (listed_after other (applications_of j range reported before) key) (listed key ∙ listed_are_given j one range table key)
    ∙ pairs_after j range reported table other before m key
    ∙ sym (listed_are_given j one range other key)

-- ---- keys that are not applied

-- an output key is applied, or it is not
applied_or_not : (all : List Application) (key : Text) → IsApplied all key ⊎ (IsApplied all key → ⊥)
applied_or_not all key = by_any (list_any (λ a. same a.output key) all) refl
  where
    by_any : (b : Bool) → list_any (λ a. same a.output key) all ≡ b → IsApplied all key ⊎ (IsApplied all key → ⊥)
    by_any true e =
        let w = has_from_any (λ a. same a.output key) all e in
        inl (contains_from_has (map (λ a. a.output) all) key (subst (Has (map (λ a. a.output) all)) (equal_by_same w.0.output key w.2) (has_mapped (λ a. a.output) all w.0 w.1)))
    by_any false e = inr (λ c.
        let w = has_map (λ a. a.output) all key (has_from_contains (map (λ a. a.output) all) key c) in
        false≢true (sym e ∙ any_from_has (λ a. same a.output key) all w.0 w.1 (ap (λ k. same k key) w.2 ∙ same_itself key)))

-- no source key is applied to an output key that is not applied
none_for : (all : List Application) (key q : Text) → (IsApplied all key → ⊥) → list_any (is_for key q) all ≡ false
none_for all key q none = false_from_ne_true (list_any (is_for key q) all) (λ h.
    let w = has_from_any (is_for key q) all h in
    let is : w.0.output ≡ key = equal_by_same w.0.output key (and_parts (same w.0.output key) (same q w.0.source) w.2).0 in
    none (contains_from_has (map (λ a. a.output) all) key (subst (Has (map (λ a. a.output) all)) is (has_mapped (λ a. a.output) all w.0 w.1))))

same_by : (given : Bool) (a b : Option Text) → (given ≡ true → a ≡ b) → cond given a None ≡ cond given b None
same_by true a b h = h refl
same_by false a b h = refl

-- at a key of the range that is not applied the output is the same
unapplied_out : (j : Join) (range : Range) (reported : List Text) (table other : Table) (before : Kept) (m : Moves j range reported table other before) (key : Text) → within range key ≡ true
    → (IsApplied (applications_of j range reported before) key → ⊥) → value_at key (out j other) ≡ value_at key (out j table)
unapplied_out j range reported table other before m key inside none =
    let give = gives j m.one.source range key in
    let listing = λ (t : Table) (k : Text). listed_at k (listed_contributions j no_slots range t) in
    let pairs : pairs_where give other ≡ pairs_where give table = same_tables (pairs_where give other) (pairs_where give table) (ascending-pairs_where give other m.above.ascending) (ascending-pairs_where give table m.below.ascending) (λ q.
    value_at-pairs_where give q other
    ∙ same_by (give q) (value_at q other) (value_at q table) (λ g. sym (unapplied_same j range reported table other before m key q inside g (none_for (applications_of j range reported before) key q none)))
    ∙ sym (value_at-pairs_where give q table)) in
    sym (listed_make_rows j range other (listing other) key m.aggregate m.above (λ k. refl) inside)
    ∙ ap (answer_of (value_operator j)) (listed_are_given j m.one range other key ∙ pairs ∙ sym (listed_are_given j m.one range table key))
    ∙ listed_make_rows j range table (listing table) key m.aggregate m.below (λ k. refl) inside

-- at a key of the range that is not applied the output of an aggregate is the same over both tables
pub unlisted_is_same : UnlistedIsSame
unlisted_is_same j range reported table other before key aggregate below above right nothing reports inside none =
    unapplied_out j range reported table other before
    (record { aggregate = aggregate; one = one_source j aggregate.rules aggregate.aggregates; below = below; above = above; right = right; nothing = nothing; reports = reports }) key inside none

-- ---- what is kept afterwards

-- the rows after an advance, with what is listed then
record AreRelisted (j : Join) (range : Range) (reported : List Text) (table other : Table) (before after : Kept) (listing relisted : Text → Table) : Type 0 where
  moves : Moves j range reported table other before
  made : IsRelisted j range reported other before after listing relisted
  listed : AreListed j range other relisted

-- an applied key lies in the range
applied_inside : (j : Join) (range : Range) (reported : List Text) (before : Kept) (key : Text) → IsApplied (applications_of j range reported before) key → within range key ≡ true
applied_inside j range reported before key h =
    let w = has_map (λ a. a.output) (applications_of j range reported before) key (has_from_contains (map (λ a. a.output) (applications_of j range reported before)) key h) in
    ap (within range) (sym w.2) ∙ (application_from j range before.pending reported before.needs w.0 w.1).inside

-- at an applied key the rows have what the join makes of the other table
row_applied : (j : Join) (range : Range) (reported : List Text) (table other : Table) (before after : Kept) (listing relisted : Text → Table) (key : Text) → AreRelisted j range reported table other before after listing relisted
    → IsApplied (applications_of j range reported before) key → value_at key after.rows ≡ value_at key (out j other)
row_applied j range reported table other before after listing relisted key are h =
    are.made.made key h ∙ listed_make_rows j range other relisted key are.moves.aggregate are.moves.above are.listed (applied_inside j range reported before key h)

-- each row has a row's key
relisted_key : (j : Join) (range : Range) (reported : List Text) (table other : Table) (before after : Kept) (listing relisted : Text → Table) (pair : Text × Text) → AreRelisted j range reported table other before after listing relisted
    → Has after.rows pair → IsRowKey j range pair.0
relisted_key j range reported table other before after listing relisted pair are h =
    let at : value_at pair.0 after.rows ≡ Some pair.1 = value_from_has pair.0 pair.1 after.rows are.made.ascending h in
    ⊎_elim
    (λ (yes : IsApplied (applications_of j range reported before) pair.0).
    let row = row_applied j range reported table other before after listing relisted pair.0 are yes in
    let fit = out_keys_fit_short j other pair.0 are.moves.aggregate.is_join (ap is_some (sym row ∙ at)) in
    record { inside = applied_inside j range reported before pair.0 yes; fits = fit.0; short = fit.1 })
    (λ no. row_key j range table before pair.0 are.moves.right.rows (ap is_some (sym (are.made.others pair.0 no) ∙ at)))
    (applied_or_not (applications_of j range reported before) pair.0)

relisted_rows : (j : Join) (range : Range) (reported : List Text) (table other : Table) (before after : Kept) (listing relisted : Text → Table) → AreRelisted j range reported table other before after listing relisted → AreRows j range other after
relisted_rows j range reported table other before after listing relisted are = record {
  ascending = are.made.ascending;
  keys = all_from_has (λ pair. IsRowKey j range pair.0) after.rows (λ pair h. relisted_key j range reported table other before after listing relisted pair are h);
  exact = λ key inside clear. ⊎_elim
      (λ (yes : IsApplied (applications_of j range reported before) key). row_applied j range reported table other before after listing relisted key are yes)
      (λ no.
      are.made.others key no
      ∙ are.moves.right.rows.exact key inside (ap (λ pending. is_covered j.output pending key) are.moves.nothing)
      ∙ sym (unapplied_out j range reported table other before are.moves key inside no))
      (applied_or_not (applications_of j range reported before) key);
}

-- a path of the one source's keys that another goes on from is empty
path_none : (j : Join) (one : HasOneSource j) (path : List Text) (p : ℕ × Source) → slice_get (placed_sources j) (length path) ≡ Some p → path ≡ []
path_none j one [] p at = refl
path_none j one (k ∷ ks) p at = absurd (omega (arith, (placed_alone j one (length (k ∷ ks)) p at).0))

-- the empty path is one over each table
empty_path : (ps : List (ℕ × Source)) (table : Table) (path : List Text) (slots : Slots) → path ≡ [] → IsPath ps table path slots
empty_path ps table path slots none = subst (λ keys. IsPath ps table keys slots) (sym none) tt

-- a need came by the empty path over the other table too
came_over : (j : Join) (one : HasOneSource j) (table other : Table) (needs : List Need) (need : Need) → CameBy j table needs need → CameBy j other needs need
came_over j one table other needs need came = record {
  places = came.places;
  texts = came.texts;
  path = empty_path (placed_sources j) other need.by need.slots (by_none j one table needs need came);
  next = came.next;
  held = came.held;
}

-- the needs stay
needs_over : (j : Join) (one : HasOneSource j) (table other : Table) (needs : List Need) → AllByRecursion (CameBy j table needs) needs → AllByRecursion (CameBy j other needs) needs
needs_over j one table other needs came = all_from_has (CameBy j other needs) needs (λ need h. came_over j one table other needs need (has_of_all (CameBy j table needs) needs need came h))

-- what is kept for an aggregate is right for the other table after an advance
pub relisted_is_right : RelistedIsRight
relisted_is_right j range reported table other before after listing relisted aggregate below above right nothing listed reports made =
    let one = one_source j aggregate.rules aggregate.aggregates in
    let are : AreRelisted j range reported table other before after listing relisted = record {
      moves = record { aggregate = aggregate; one = one; below = below; above = above; right = right; nothing = nothing; reports = reports };
      made = made;
      listed = relisted_are_listed j range reported table other before after listing relisted aggregate below above right nothing listed reports made;
    } in
    record {
      rows = relisted_rows j range reported table other before after listing relisted are;
      followed = λ key path more wider source s next inside clear fit on at wide follows short.
          subst (Any (HoldsNext source path more next)) (sym made.needs)
          (right.followed key path more wider source s next inside (ap (λ pending. is_covered j.output pending key) nothing) fit (empty_path (placed_sources j) table path more (path_none j one path (source, s) at)) at wide follows short);
      came = subst (λ needs. AllByRecursion (CameBy j other needs) needs) (sym made.needs) (needs_over j one table other before.needs right.came);
      pending = subst (AllByRecursion (AreOutputSlots j)) (sym made.pending) right.pending;
    }
