-- Laws: versions and changes say what the base pairs and the entries say.
use Rattle.std.specs.Prelude.{◌≡◌, ℕ, ◌≤◌, take, true}
use Rattle.semantics.specs.Texts.{Text, table_of, is_range, Range, value_at}
use Rattle.semantics.specs.Histories.{History, base_of}
use Rattle.growing_history.specs.Changes.{changed_keys}
use Rattle.base_versions.specs.Versions.{value_in, versions_of}
use Rattle.base_versions.specs.Changes.{changed_in, changes_of}

-- the version of a key after p entries is its base pair after p entries
abbrev pub ValueInIsBase : Type 0
ValueInIsBase = (h : History) (key : Text) (p : ℕ) → value_in p (versions_of key h) ≡ value_at key (base_of (take p h))

-- the keys of a range that the changes of its table speak of are those that the entries put or remove
abbrev pub ChangedInIsChanged : Type 0
ChangedInIsChanged = (h : History) (r : Range) (q p : ℕ) → q ≤ p → is_range r.low r.high ≡ true →
    changed_in q p r (changes_of (table_of r.low) h) ≡ changed_keys q p r h
