-- Groups of keys, and the changes of one table by groups.
use Rattle.std.specs.Prelude.{◌≡◌, ℕ, ◌<◌, ◌==◌, List, [], ◌∷◌, ◌++◌, filter, drop, length, Bool, true, if◌then◌else◌}
use Rattle.std.specs.List.{after_first}
use Rattle.semantics.specs.Texts.{Text, bar, has_bar, same, table_of, Range}
use Rattle.base_versions.specs.declared.changes.Change.{Change}
use Rattle.base_versions.specs.Changes.{Ascend, changed_in}
use Rattle.base_versions.specs.Named.{EachHas, OthersHave, among}

-- what stands behind the first `|` of a text
abbrev pub behind_bar : Text → Text
behind_bar text = after_first (λ b. b == bar) text

-- the group of a key: its second segment, where a `|` follows that; the keys of one table without a third segment are one group, with the empty name
abbrev pub group_of : Text → Text
group_of key = if has_bar (behind_bar key) then table_of (behind_bar key) else []

-- those of several changes that are at keys of a group
abbrev pub of_group : Text → List Change → List Change
of_group group changes = filter (λ c. same (group_of c.key) group) changes

-- the changes of several groups, in the order of their names
abbrev pub Groups : Type 0
Groups = List (Text × List Change)

-- the changes of a group among those of several
abbrev pub changes_among : Text → Groups → List Change
changes_among group groups = among [] group groups

-- each group has a change: one without any takes no place
abbrev pub EachHasChange : Groups → Type 0
EachHasChange groups = EachHas (λ changes. 0 < length changes) groups

-- each group but one has a change
abbrev pub OthersHaveChanges : Text → Groups → Type 0
OthersHaveChanges group groups = OthersHave (λ changes. 0 < length changes) group groups

-- whether the groups are kept, and their changes
pub record ByGroup : Type 0 where
  pub kept : Bool
  pub queues : Groups

-- where they are kept, each group has its changes of a list, in order
abbrev pub AreGrouped : ByGroup → List Change → Type 0
AreGrouped groups changes = groups.kept ≡ true → (group : Text) → changes_among group groups.queues ≡ of_group group changes

-- the group of the change's key has one change more, the last
abbrev pub AddsChange : Change → Groups → Groups → Type 0
AddsChange change old new = (group : Text) → changes_among group new ≡ (if same (group_of change.key) group then changes_among group old ++ change ∷ [] else changes_among group old)

-- a group is without its first change
abbrev pub LosesFirst : Text → Groups → Groups → Type 0
LosesFirst name old new = (group : Text) → changes_among group new ≡ (if same name group then drop 1 (changes_among group old) else changes_among group old)

-- some changes of a table, in order, among which are all at keys of a range
pub record HoldsChanges (range : Range) (all some : List Change) : Type 0 where
  pub ascend : Ascend 0 all → Ascend 0 some
  pub changed : (q p : ℕ) → changed_in q p range some ≡ changed_in q p range all
