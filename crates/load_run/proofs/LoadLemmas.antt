-- The line of a load, from what the clients wrote and what was read.
use Rattle.std.proofs.Common.{◌≡◌, ℕ, ◌+◌, ◌<◌, ◌≤◌, List, ◌++◌, length, get_or, Some, sym, ap, ◌∙◌, subst, arith}
use Rattle.std.specs.Prelude.{slice_get, codes}
use Rattle.std.specs.List.{AllByRecursion, ShiftedDown}
use Rattle.std.proofs.lemmas.Option.{get_or_from_slice_get}
use Rattle.semantics.specs.Texts.{Text, Table, pairs_within}
use Rattle.semantics.specs.Histories.{Entry, History, IsPrefix}
use Rattle.key_ranges.specs.Ranges.{prefix_range}
use Rattle.growing_history.proofs.PrefixLemmas.{prefix_trans}
use Rattle.write_history.specs.Entries.{written_by}
use Rattle.write_history.specs.Passes.{HistoryId, PassView, new_pass, own}
use Rattle.load_gen.specs.Plans.{planned}
use Rattle.load_gen.specs.declared.acts.Act.{Act}
use Rattle.load_gen.specs.Entries.{declared_joins, entries_of, load_history}
use Rattle.load_gen.specs.Lines.{Holding, holding_of, table_holding, holding_line, load_line}
use Rattle.load_gen.specs.Shares.{acts_of, IsShared}
use Rattle.load_gen.proofs.SharedLemmas.{shared_load_is_load}
use Rattle.pequod_cache.specs.Adding.{HasAdded}
use Rattle.load_run.specs.Jobs.{HaveWorked}
use Rattle.load_run.specs.Holdings.{plain_holding, HoldsOwn, IsHeldOf, AreHeldOf}
use Rattle.load_run.specs.declared.held.Held.{Held}
use Rattle.load_run.specs.declared.text.Tables.{Tables}

-- the clients of a new cache: the first, and the others
pub record AreNew (history : HistoryId) (first : PassView) (others : List PassView) : Type 0 where
  pub all : history.kinds.writers ≡ length others + 1
  pub first_is : first ≡ new_pass history 0
  pub each : (i : ℕ) (d : PassView) → i < length others → get_or others i d ≡ new_pass history (i + 1)

pub are_new : (history : HistoryId) (count : ℕ) (all others : List PassView) (first : PassView) → length others + 1 ≡ count → history.kinds.writers ≡ count →
    ((number : ℕ) → number < count → slice_get all number ≡ Some (new_pass history number)) → first ≡ get_or all 0 first → ShiftedDown all others 0 → AreNew history first others
are_new history count all others first counted writers each is shifted = record {
  all = writers ∙ sym counted;
  first_is = is ∙ get_or_from_slice_get all 0 (new_pass history 0) first (each 0 (omega arith));
  each = λ i d less. shifted i d (omega arith) ∙ get_or_from_slice_get all (i + 1) (new_pass history (i + 1)) d (each (i + 1) (omega arith));
}

-- ---- a history that holds what the clients wrote

-- the first has declared the joins, and each other one has done its share of the acts
pub record HaveDone (acts : List Act) (history : HistoryId) (first declared : PassView) (others workers : List PassView) : Type 0 where
  pub new : AreNew history first others
  pub added : HasAdded declared_joins first declared
  pub begins : IsPrefix declared_joins declared.view
  pub worked : HaveWorked acts others workers

shared : (acts : List Act) (history : HistoryId) (first declared : PassView) (others workers : List PassView) (seen : History) → HaveDone acts history first declared others workers →
    HoldsOwn declared workers seen → IsShared (length others) acts seen
shared acts history first declared others workers seen done whole =
    let counted = done.worked.counted in
    let number : declared.number ≡ 0 = done.added.same_number ∙ ap (λ (p : PassView). p.number) done.new.first_is in
    let writers : declared.writers ≡ length others + 1 = done.added.same_writers ∙ ap (λ (p : PassView). p.writers) done.new.first_is ∙ done.new.all in
    record {
      begins = prefix_trans declared_joins declared.view seen done.begins whole.of_first.within;
      below = subst (λ (n : ℕ). AllByRecursion (λ (e : Entry). e.client < n) seen) writers whole.of_first.recorded.below;
      first = ap (λ (n : ℕ). written_by n seen) (sym number) ∙ whole.of_first.own ∙ done.added.adds ∙ ap (λ (p : PassView). own p ++ declared_joins) done.new.first_is;
      each = λ worker less.
          let other : PassView = get_or others worker declared in
          let client : PassView = get_or workers worker declared in
          let is : other ≡ new_pass history (worker + 1) = done.new.each worker declared less in
          let added = done.worked.each worker declared declared less in
          let mine : other.number ≡ worker + 1 = ap (λ (p : PassView). p.number) is in
          let same : client.number ≡ worker + 1 = added.same_number ∙ mine in
          ap (λ (n : ℕ). written_by n seen) (sym same) ∙ (whole.of_others worker declared (omega arith)).own ∙ added.adds
          ∙ ap (λ (p : PassView). own p ++ entries_of p.number (acts_of (length others) worker acts)) is;
    }

-- ---- the line

-- what a table holds, by the state
abbrev holding_by : Text → Table → Holding
holding_by prefix t = holding_of (pairs_within (prefix_range prefix) t)

-- what was read of a table is what it holds after a load
table_is : (number steps users : ℕ) (history : HistoryId) (first declared : PassView) (others workers : List PassView) (prefix : Text) (held : Held) → 1 ≤ length others → 1 ≤ users → users ≤ 9999 →
    HaveDone (planned number steps users) history first declared others workers → IsHeldOf declared workers prefix held →
    (held.position ≡ length (load_history number steps users)) × (plain_holding held.holding ≡ table_holding prefix (load_history number steps users))
table_is number steps users history first declared others workers prefix held some some_users few done is =
    let law = shared_load_is_load number steps users (length others) is.seen some some_users few (shared (planned number steps users) history first declared others workers is.seen done is.whole) in
    (is.holds.at ∙ law.0, is.holds.is ∙ ap (holding_by prefix) law.1)

pub line_is_loads : (number steps users : ℕ) (history : HistoryId) (first declared : PassView) (others workers : List PassView) (tables : Tables) → 1 ≤ length others → 1 ≤ users → users ≤ 9999 →
    HaveDone (planned number steps users) history first declared others workers → AreHeldOf declared workers tables →
    holding_line tables.karma.position (plain_holding tables.s.holding) (plain_holding tables.p.holding) (plain_holding tables.v.holding) (plain_holding tables.t.holding) (plain_holding tables.karma.holding)
    ≡ load_line number steps users
unfolding load_line
line_is_loads number steps users history first declared others workers tables some some_users few done are =
    let s = table_is number steps users history first declared others workers (codes "s|") tables.s some some_users few done are.s in
    let p = table_is number steps users history first declared others workers (codes "p|") tables.p some some_users few done are.p in
    let v = table_is number steps users history first declared others workers (codes "v|") tables.v some some_users few done are.v in
    let t = table_is number steps users history first declared others workers (codes "t|") tables.t some some_users few done are.t in
    let karma = table_is number steps users history first declared others workers (codes "karma|") tables.karma some some_users few done are.karma in
    λ i. holding_line (karma.0 i) (s.1 i) (p.1 i) (v.1 i) (t.1 i) (karma.1 i)
