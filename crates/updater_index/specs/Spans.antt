-- Ranges of ids in the order of one of their bounds.
use Rattle.std.specs.Prelude.{◌≡◌, ℕ, ◌&&◌, ◌⊎◌, ◌==◌, List, Bool, true, false}
use Rattle.std.specs.List.{list_any}
use Rattle.std.specs.Ordering.{nat_cmp, then_cmp, on}
use Rattle.std.specs.declared.cmp.Ordering.{Ordering}
use Rattle.std.specs.BTreeMap.{is_at}
use Rattle.std.specs.BTreeSet.{BTreeSet, contains}
use Rattle.semantics.specs.Texts.{Text, text_cmp, Range, within}
use Rattle.updater_index.specs.Registered.{same_range}
use Rattle.updater_index.specs.declared.side.Span.{Span}

-- the order of spans
abbrev pub span_cmp : Span → Span → Ordering
span_cmp = then_cmp (on (λ s. s.first) text_cmp) (then_cmp (on (λ s. s.id) nat_cmp) (on (λ s. s.second) text_cmp))

-- a range of an id, by its first bound
abbrev pub low_span : Range → ℕ → Span
low_span r id = record { first = r.low; id = id; second = r.high }

-- a range of an id, by its last bound
abbrev pub high_span : Range → ℕ → Span
high_span r id = record { first = r.high; id = id; second = r.low }

-- whether a range of an id is among spans by their first bounds
abbrev pub has_low : List Span → Range → ℕ → Bool
has_low spans r id = list_any (is_at (span_cmp (low_span r id))) spans

-- whether a range of an id is among spans by their last bounds
abbrev pub has_high : List Span → Range → ℕ → Bool
has_high spans r id = list_any (is_at (span_cmp (high_span r id))) spans

-- the range that a span shows, by its first bound or by its last
abbrev pub range_of : Bool → Span → Range
range_of true s = record { low = s.first; high = s.second }
range_of false s = record { low = s.second; high = s.first }

-- whether a span is of the id, and its range contains the key
abbrev pub holds : Bool → Text → ℕ → Span → Bool
holds by_low key id s = (s.id == id) && within (range_of by_low s) key

-- whether two ranges of ids are the same
abbrev pub is_same : Range → ℕ → Range → ℕ → Bool
is_same r id s q = same_range r s && (id == q)

-- new ids were found only where a range of theirs, of which a test says that it is registered, contains the key; those found before stay
pub record FindsHolders (registered : Range → ℕ → Bool) (key : Text) (old new : BTreeSet ℕ) : Type 0 where
  pub kept : (id : ℕ) → contains nat_cmp old id ≡ true → contains nat_cmp new id ≡ true
  pub sound : (id : ℕ) → contains nat_cmp new id ≡ true → (contains nat_cmp old id ≡ true) ⊎ ((r : Range) × (registered r id ≡ true) × (within r key ≡ true))

-- each id was found of which a registered range contains the key
abbrev pub AllFound : (Range → ℕ → Bool) → Text → BTreeSet ℕ → Type 0
AllFound registered key found = (r : Range) (id : ℕ) → registered r id ≡ true → within r key ≡ true → contains nat_cmp found id ≡ true
