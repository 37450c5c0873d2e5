-- What a shard keeps is the fold of a beginning of what its pass has seen, also after each step.
use Rattle.std.proofs.Common.{◌≡◌, ◌==◌, ℕ, ◌+◌, ◌-◌, ◌%◌, ◌^◌, ◌<◌, ◌≤◌, List, [], ◌++◌, length, take, drop, sum, min, true, eq-eqb, Option, Some, None, IfSome, Vec, Global, Result, Ok, Err, OnOk, OnErr, refl, sym, ap, ◌∙◌, subst, arith}
use Rattle.std.proofs.lemmas.Result.{on_ok_weaker, on_err_weaker}
use Rattle.std.proofs.lemmas.List.{length-take, length-drop, take_all}
use Rattle.semantics.specs.Texts.{Text, Table, Range, pairs_within}
use Rattle.semantics.specs.Histories.{History, base_of}
use Rattle.growing_history.specs.Changes.{changed_keys}
use Rattle.growing_history.specs.Entered.{HasEntered}
use Rattle.growing_history.proofs.PrefixLemmas.{take_prefix, prefix_length}
use Rattle.growing_history.specs.StateChanges.{Change}
use Rattle.base_versions.specs.Kept.{Kept, StandsFor, HasEnteredInPart, has_table, shard_of}
use Rattle.base_versions.specs.Own.{AreOwn, own_from}
use Rattle.base_versions.specs.Valued.{base_changes}
use Rattle.base_versions.specs.declared.placed.Placed.{Placed}
use Rattle.write_history.specs.Marks.{IsLow}
use Rattle.write_history.specs.Passes.{HistoryId, PassView, GoesOn}
use Rattle.write_history.specs.declared.known.Mark.{Mark}
use Rattle.write_history.specs.declared.known.Mark.TheVariants.{Noted}
use Rattle.base_shards.specs.Shards.{HasNoted, KeepsBeginning}
use Rattle.write_history.proofs.Few.{few_entries}
use Rattle.base_shards.proofs.ListLemmas.{take_then, take_of_take, take_is_prefix, changed_prefix, base_changes_prefix}

-- with a longer view
pub keeps_longer : (history : HistoryId) (base : Kept) (old new : PassView) → KeepsBeginning history base old → GoesOn old new → KeepsBeginning history base new
keeps_longer history base old new keeps goes =
    let longer = prefix_length old.view new.view goes.begins in
    record {
      same_history = goes.same_history ∙ keeps.same_history;
      shards = keeps.shards;
      reaches = omega (arith, longer, keeps.reaches);
      noted = subst (λ (mark : Mark). HasNoted mark base.position) (sym goes.same_mark) keeps.noted;
      trimmed = omega (arith, keeps.trimmed, goes.higher);
      stands = subst (StandsFor base.start base) (sym (take_prefix base.position old.view new.view keeps.reaches goes.begins)) keeps.stands;
    }

-- after no entries
pub keeps_none : (history : HistoryId) (base : Kept) (pass : PassView) → pass.history ≡ history → pass.mark ≡ Noted 0 → base.shards ≡ 16 → base.start ≡ 0 → StandsFor 0 base [] → KeepsBeginning history base pass
keeps_none history base pass same marked shards start none = record {
  same_history = same;
  shards = shards;
  reaches = omega (arith, none.same_length);
  noted = record { last = 0; noted = marked; reached = omega arith };
  trimmed = omega (arith, start);
  stands = subst (λ (n : ℕ × ℕ). StandsFor n.0 base (take n.1 pass.view)) (λ i. (sym start i, sym none.same_length i)) none;
}

-- after so many entries more
pub keeps_more : (history : HistoryId) (old new : Kept) (pass : PassView) (count : ℕ) → KeepsBeginning history old pass → old.position + count ≤ length pass.view →
    new.position ≡ old.position + count → new.shards ≡ old.shards → new.start ≡ old.start →
    ((start : ℕ) (h : History) → StandsFor start old h → StandsFor start new (h ++ take count (drop old.position pass.view))) → KeepsBeginning history new pass
keeps_more history old new pass count keeps within position shards start goes = record {
  same_history = keeps.same_history;
  shards = shards ∙ keeps.shards;
  reaches = omega (arith, position, within);
  noted = record { last = keeps.noted.last; noted = keeps.noted.noted; reached = omega (arith, keeps.noted.reached, position) };
  trimmed = omega (arith, start, keeps.trimmed);
  stands =
      subst (λ (n : ℕ). StandsFor n new (take new.position pass.view)) (sym start)
      (subst (StandsFor old.start new) (take_then old.position count pass.view ∙ ap (λ n. take n pass.view) (sym position))
      (goes old.start (take old.position pass.view) keeps.stands));
}

-- once the pass has noted the position
pub keeps_noted : (history : HistoryId) (base : Kept) (pass : PassView) → KeepsBeginning history base pass → KeepsBeginning history base (record pass { mark = Noted base.position })
keeps_noted history base pass keeps = record {
  same_history = keeps.same_history;
  shards = keeps.shards;
  reaches = keeps.reaches;
  noted = record { last = base.position; noted = refl; reached = omega arith };
  trimmed = keeps.trimmed;
  stands = keeps.stands;
}

-- trimmed to a floor that the pass knows
pub keeps_trimmed : (history : HistoryId) (old new : Kept) (pass : PassView) (to : ℕ) → KeepsBeginning history old pass → old.start ≤ to → to ≤ pass.floor → new.start ≡ to → new.position ≡ old.position → new.shards ≡ old.shards →
    ((start : ℕ) (h : History) → StandsFor start old h → start ≤ to → StandsFor to new h) → KeepsBeginning history new pass
keeps_trimmed history old new pass to keeps order known start position shards trims = record {
  same_history = keeps.same_history;
  shards = shards ∙ keeps.shards;
  reaches = omega (arith, position, keeps.reaches);
  noted = record { last = keeps.noted.last; noted = keeps.noted.noted; reached = omega (arith, keeps.noted.reached, position) };
  trimmed = omega (arith, start, known);
  stands = subst (λ (n : ℕ × ℕ). StandsFor n.0 new (take n.1 pass.view)) (λ i. (sym start i, sym position i)) (trims old.start (take old.position pass.view) keeps.stands order);
}

-- the floor that the pass knows is not above the position
pub floor_below : (history : HistoryId) (base : Kept) (pass : PassView) → KeepsBeginning history base pass → IsLow pass.mark pass.floor → pass.floor ≤ base.position
floor_below history base pass keeps low =
    let under : pass.floor ≤ keeps.noted.last = subst (λ (mark : Mark). IsLow mark pass.floor) keeps.noted.noted low in
    omega (arith, under, keeps.noted.reached)

-- some of the next entries were taken: all, or fewer where no memory was found
abbrev TakesSome : Kept → Kept → History → Type 0
TakesSome old new es = (count : ℕ) × (count ≤ length es) × (new.position ≡ old.position + count) × ((start : ℕ) (h : History) → StandsFor start old h → StandsFor start new (h ++ take count es))

takes_some : {T E : Type 0} (r : Result T E) (old new : Kept) (es : History) → OnOk r ((start : ℕ) (h : History) → StandsFor start old h → StandsFor start new (h ++ es)) →
    OnOk r (new.position ≡ old.position + length es) → OnErr r (HasEnteredInPart old es new) → TakesSome old new es
takes_some (Ok x) old new es goes position part =
    (length es, omega arith, position, λ start h s. subst (λ l. StandsFor start new (h ++ l)) (sym (take_all (length es) es (omega arith))) (goes start h s))
takes_some (Err e) old new es goes position part = (part.count, omega (arith, part.some), part.position, part.history)

-- how many entries there are from one place up to another
length-between : (from to : ℕ) (view : History) → from ≤ to → to ≤ length view → length (take (to - from) (drop from view)) ≡ to - from
length-between from to view order inside = omega (arith, length-take (to - from) (drop from view), length-drop from view)

keeps_some : (history : HistoryId) (old new : Kept) (pass : PassView) (to : ℕ) (es : History) → KeepsBeginning history old pass → old.position ≤ to → to ≤ length pass.view →
    es ≡ take (to - old.position) (drop old.position pass.view) → new.shards ≡ old.shards → new.start ≡ old.start → TakesSome old new es → KeepsBeginning history new pass
keeps_some history old new pass to es keeps order inside is shards start some =
    let few = ap length is ∙ length-between old.position to pass.view order inside in
    let rest = length-drop old.position pass.view in
    let same : take some.0 es ≡ take some.0 (drop old.position pass.view) =
    ap (take some.0) is ∙ take_of_take some.0 (to - old.position) (drop old.position pass.view) (omega (arith, few, some.1)) (omega (arith, rest)) in
    keeps_more history old new pass some.0 keeps (omega (arith, few, some.1)) some.2 shards start (λ from h s. subst (λ l. StandsFor from new (h ++ l)) same (some.3 from h s))

-- what is kept after the next entries up to a place, or after some of them, is the fold of a beginning too
pub keeps_taken : {T E : Type 0} (r : Result T E) (history : HistoryId) (old new : Kept) (pass : PassView) (to : ℕ) (es : History) → KeepsBeginning history old pass → old.position ≤ to → to ≤ length pass.view →
    es ≡ take (to - old.position) (drop old.position pass.view) → new.shards ≡ old.shards → new.start ≡ old.start → OnOk r ((start : ℕ) (h : History) → StandsFor start old h → StandsFor start new (h ++ es)) →
    OnOk r (new.position ≡ old.position + length es) → OnErr r (HasEnteredInPart old es new) → KeepsBeginning history new pass
keeps_taken r history old new pass to es keeps order inside is shards start goes position part =
    keeps_some history old new pass to es keeps order inside is shards start (takes_some r old new es goes position part)

-- it comes from where it was to the place at most
pub comes_upto : {T E : Type 0} (r : Result T E) (old new : Kept) (pass : PassView) (to : ℕ) (es : History) → old.position ≤ to → to ≤ length pass.view →
    es ≡ take (to - old.position) (drop old.position pass.view) → OnOk r ((start : ℕ) (h : History) → StandsFor start old h → StandsFor start new (h ++ es)) →
    OnOk r (new.position ≡ old.position + length es) → OnErr r (HasEnteredInPart old es new) → (old.position ≤ new.position) × (new.position ≤ to)
comes_upto r old new pass to es order inside is goes position part =
    let some = takes_some r old new es goes position part in
    let few = ap length is ∙ length-between old.position to pass.view order inside in
    (omega (arith, some.2), omega (arith, some.1, some.2, few))

-- ---- the next entries

-- the next entries of a view, from a position up to a later one, and no more than 1,024
pub record TakesNext (view : History) (position p from to : ℕ) (es : History) : Type 0 where
  pub starts : from ≡ position
  pub ends : to ≡ min p (from + 1024)
  pub entries : es ≡ take (to - from) (drop from view)
  pub before : position < p
  pub inside : p ≤ length view

pub next_after : (view : History) (position p from to : ℕ) (es : History) → TakesNext view position p from to es → position < to
next_after view position p from to es next =
    omega (arith, next.starts, next.before, next.ends)

pub next_upto : (view : History) (position p from to : ℕ) (es : History) → TakesNext view position p from to es → to ≤ p
next_upto view position p from to es next = omega (arith, next.ends)

pub next_entries : (view : History) (position p from to : ℕ) (es : History) → TakesNext view position p from to es → es ≡ take (to - position) (drop position view)
next_entries view position p from to es next = next.entries ∙ ap (λ n. take (to - n) (drop n view)) next.starts

pub next_length : (view : History) (position p from to : ℕ) (es : History) → TakesNext view position p from to es → length es ≡ to - position
next_length view position p from to es next =
    let after = next_after view position p from to es next in
    let upto = next_upto view position p from to es next in
    ap length (next_entries view position p from to es next) ∙ length-between position to view (omega arith) (omega (arith, next.inside))

-- there is room for them
pub next_room : (view : History) (position p from to : ℕ) (es : History) → TakesNext view position p from to es → HasEntered view → to < 2 ^ 48
next_room view position p from to es next entered = omega (arith, few_entries view entered, next_upto view position p from to es next, next.inside)

-- ---- the next entries, of which a part is given its own

-- the own ones of the next entries of a view
pub record TakesOwn (base : Kept) (view : History) (p from to : ℕ) (own : List Placed) (es : History) : Type 0 where
  pub next : TakesNext view base.position p from to es
  pub are : AreOwn base to own es

-- these are the next entries, and of these they are the own ones
pub takes_own : (base : Kept) (view : History) (p from to number : ℕ) (own copies : List Placed) → base.shards ≡ 16 → number ≡ base.shard → from ≡ base.position → to ≡ min p (from + 1024) → own ≡ copies →
    copies ≡ own_from 16 number (from + 1) (take (to - from) (drop from view)) → base.position < p → p ≤ length view → TakesOwn base view p from to own (take (to - from) (drop from view))
takes_own base view p from to number own copies shards same starts ends is are before inside =
    let es : History = take (to - from) (drop from view) in
    let next : TakesNext view base.position p from to es = record { starts = starts; ends = ends; entries = refl; before = before; inside = inside } in
    record {
      next = next;
      are = record {
        reach = omega (arith, next_length view base.position p from to es next, next_after view base.position p from to es next);
        are = is ∙ are ∙ (λ i. own_from (sym shards i) (same i) (starts i + 1) es);
      };
    }

-- what a part knows after it was given the own ones of some entries, it knows after these
module _ {T E : Type 0} (r : Result T E) (old new : Kept) (to : ℕ) (own : List Placed) (es : History) (are : AreOwn old to own es) where
  abbrev Enters : History → Type 0
  Enters all = (start : ℕ) (h : History) → StandsFor start old h → StandsFor start new (h ++ all)

  pub all_enter : OnOk r ((all : History) → AreOwn old to own all → Enters all) → OnOk r (Enters es)
  all_enter goes = on_ok_weaker r (λ (go : (all : History) → AreOwn old to own all → Enters all). go es are) goes

  pub all_reach : OnOk r (new.position ≡ to) → OnOk r (new.position ≡ old.position + length es)
  all_reach reached = on_ok_weaker r (λ (is : new.position ≡ to). is ∙ sym are.reach) reached

  pub some_enter : OnErr r ((all : History) → AreOwn old to own all → HasEnteredInPart old all new) → OnErr r (HasEnteredInPart old es new)
  some_enter part = on_err_weaker r (λ (some : (all : History) → AreOwn old to own all → HasEnteredInPart old all new). some es are) part

-- what is kept after them, or after some of them, is the fold of a beginning too
pub keeps_next : {T E : Type 0} (r : Result T E) (history : HistoryId) (old new : Kept) (pass : PassView) (p from to : ℕ) (own : List Placed) (es : History) → KeepsBeginning history old pass →
    TakesOwn old pass.view p from to own es → new.shards ≡ old.shards → new.start ≡ old.start →
    OnOk r ((all : History) → AreOwn old to own all → (start : ℕ) (h : History) → StandsFor start old h → StandsFor start new (h ++ all)) →
    OnOk r (new.position ≡ to) → OnErr r ((all : History) → AreOwn old to own all → HasEnteredInPart old all new) → KeepsBeginning history new pass
keeps_next r history old new pass p from to own es keeps takes shards start goes position part =
    let next = takes.next in
    let after = next_after pass.view old.position p from to es next in
    keeps_taken r history old new pass to es keeps (omega arith) (omega (arith, next_upto pass.view old.position p from to es next, next.inside)) (next_entries pass.view old.position p from to es next) shards start
    (all_enter r old new to own es takes.are goes) (all_reach r old new to own es takes.are position) (some_enter r old new to own es takes.are part)

-- it comes nearer, and not past the later position
pub next_nearer : {T E : Type 0} (r : Result T E) (old new : Kept) (view : History) (p from to : ℕ) (own : List Placed) (es : History) → TakesOwn old view p from to own es →
    OnOk r (new.position ≡ to) → OnOk r (old.position < new.position)
next_nearer r old new view p from to own es takes position =
    let after = next_after view old.position p from to es takes.next in
    on_ok_weaker r (λ (is : new.position ≡ to). omega (arith, is, after)) position

pub next_between : {T E : Type 0} (r : Result T E) (old new : Kept) (pass : PassView) (p from to : ℕ) (own : List Placed) (es : History) → TakesOwn old pass.view p from to own es →
    OnOk r ((all : History) → AreOwn old to own all → (start : ℕ) (h : History) → StandsFor start old h → StandsFor start new (h ++ all)) →
    OnOk r (new.position ≡ to) → OnErr r ((all : History) → AreOwn old to own all → HasEnteredInPart old all new) → (old.position ≤ new.position) × (new.position ≤ p)
next_between r old new pass p from to own es takes goes position part =
    let next = takes.next in
    let after = next_after pass.view old.position p from to es next in
    let upto = next_upto pass.view old.position p from to es next in
    let comes = comes_upto r old new pass to es (omega arith) (omega (arith, upto, next.inside)) (next_entries pass.view old.position p from to es next)
    (all_enter r old new to own es takes.are goes) (all_reach r old new to own es takes.are position) (some_enter r old new to own es takes.are part) in
    (comes.0, omega (arith, comes.1, upto))

-- ---- reading

-- a table of the part is the shard's own
pub own_part : (base : Kept) (table : Text) → base.shards ≡ 16 → shard_of 16 table ≡ base.shard → has_table base table ≡ true
own_part base table shards is = ap (λ n. (sum table % n) == base.shard) shards ∙ eq-eqb (sum table % 16) base.shard is

-- the pairs at a position that is reached are those after so many entries that the pass has seen
pub pairs_of_view : (history : HistoryId) (base : Kept) (pass : PassView) (p : ℕ) (range : Range) (pairs : Table) → KeepsBeginning history base pass → base.start ≤ p → p ≤ base.position →
    ((start : ℕ) (h : History) → StandsFor start base h → start ≤ p → pairs ≡ pairs_within range (base_of (take p h))) → pairs ≡ pairs_within range (base_of (take p pass.view))
pairs_of_view history base pass p range pairs keeps from inside exact =
    exact base.start (take base.position pass.view) keeps.stands from ∙ ap (λ es. pairs_within range (base_of es)) (take_of_take p base.position pass.view inside keeps.reaches)

-- and so are the changed keys
pub changed_of_view : (history : HistoryId) (base : Kept) (pass : PassView) (q p : ℕ) (range : Range) (keys : List Text) → KeepsBeginning history base pass → base.start ≤ q → q ≤ p → p ≤ base.position →
    ((start : ℕ) (h : History) → StandsFor start base h → start ≤ q → keys ≡ changed_keys q p range h) → keys ≡ changed_keys q p range pass.view
changed_of_view history base pass q p range keys keeps from order inside exact =
    let long : p ≤ length (take base.position pass.view) = omega (arith, length-take base.position pass.view, keeps.reaches) in
    exact base.start (take base.position pass.view) keeps.stands from ∙ sym (changed_prefix q p range (take base.position pass.view) pass.view order long (take_is_prefix base.position pass.view))

-- and so are the changed keys with what stands there
pub changes_of_view : (history : HistoryId) (base : Kept) (pass : PassView) (q p : ℕ) (range : Range) (found : List Change) → KeepsBeginning history base pass → base.start ≤ q → q ≤ p → p ≤ base.position →
    ((start : ℕ) (h : History) → StandsFor start base h → start ≤ q → found ≡ base_changes q p range h) → found ≡ base_changes q p range pass.view
changes_of_view history base pass q p range found keeps from order inside exact =
    let long : p ≤ length (take base.position pass.view) = omega (arith, length-take base.position pass.view, keeps.reaches) in
    exact base.start (take base.position pass.view) keeps.stands from ∙ sym (base_changes_prefix q p range (take base.position pass.view) pass.view order long (take_is_prefix base.position pass.view))

-- where some are given
pub few_of_view : (history : HistoryId) (base : Kept) (pass : PassView) (q p : ℕ) (range : Range) (few : Option (Vec Change Global)) → KeepsBeginning history base pass → base.start ≤ q → q ≤ p → p ≤ base.position →
    ((start : ℕ) (h : History) → StandsFor start base h → start ≤ q → IfSome few (λ found. found.items ≡ base_changes q p range h)) → IfSome few (λ found. found.items ≡ base_changes q p range pass.view)
few_of_view history base pass q p range None keeps from order inside exact = tt
few_of_view history base pass q p range (Some found) keeps from order inside exact = changes_of_view history base pass q p range found.items keeps from order inside exact
