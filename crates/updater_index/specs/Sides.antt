-- The ranges of ids by where their bounds part.
use Rattle.std.specs.Prelude.{◌≡◌, ◌⊎◌, ℕ, ◌&&◌, ◌||◌, ◌==◌, List, length, not, Bool, true, false, Option, Some, None, is_some}
use Rattle.std.specs.List.{list_any}
use Rattle.std.specs.Ordering.{nat_cmp}
use Rattle.std.specs.BTreeMap.{is_at}
use Rattle.std.specs.BTreeSet.{BTreeSet, contains}
use Rattle.std.specs.Map.{lookup}
use Rattle.semantics.specs.Texts.{Range}
use Rattle.updater_index.specs.Shared.{shared_len}
use Rattle.updater_index.specs.Forks.{fork_of, fork_cmp}
use Rattle.updater_index.specs.Spans.{has_low, is_same}
use Rattle.updater_index.specs.declared.fork.Fork.{Fork}
use Rattle.updater_index.specs.declared.side.Span.{Span}

-- the ranges of ids, by their first bounds, at each fork
abbrev pub Sides : Type 0
Sides = List (Fork × List Span)

-- what is at a fork
abbrev pub side_at : Fork → Sides → Option (List Span)
side_at fork sides = lookup (is_at (fork_cmp fork)) sides

-- whether a range of an id is among spans, if there are any
abbrev pub is_among : Option (List Span) → Range → ℕ → Bool
is_among None r id = false
is_among (Some spans) r id = has_low spans r id

-- whether a range of an id is registered: it is at the fork of its bounds
abbrev pub is_registered : Sides → Range → ℕ → Bool
is_registered sides r id = is_among (side_at (fork_of r) sides) r id

-- whether a range of an id is registered, and its bounds begin with so many equal bytes
abbrev pub is_registered_at : ℕ → Sides → Range → ℕ → Bool
is_registered_at shared sides r id = is_registered sides r id && (shared_len r.low r.high == shared)

-- whether a range of an id is at one of several forks
abbrev pub is_at_some : Sides → Range → ℕ → Bool
is_at_some sides r id = list_any (λ side. has_low side.1 r id) sides

-- each fork has a length that is known, and at each fork are only ranges whose bounds part there
pub record AreForks (lengths : BTreeSet ℕ) (sides : Sides) : Type 0 where
  pub known : (fork : Fork) → is_some (side_at fork sides) ≡ true → contains nat_cmp lengths (length fork.beginning) ≡ true
  pub placed : (fork : Fork) (r : Range) (id : ℕ) → is_among (side_at fork sides) r id ≡ true → is_at (fork_cmp fork) (fork_of r) ≡ true

-- at the fork of its bounds a range of an id is added; no other fork is new
pub record AddsRange (b : Range) (id : ℕ) (old new : Sides) : Type 0 where
  pub among : (fork : Fork) (r : Range) (q : ℕ) → is_among (side_at fork new) r q ≡ ((is_at (fork_cmp (fork_of b)) fork && is_same b id r q) || is_among (side_at fork old) r q)
  pub present : (fork : Fork) → is_some (side_at fork new) ≡ true → (is_at (fork_cmp (fork_of b)) fork || is_some (side_at fork old)) ≡ true

-- at the fork of its bounds a range of an id is taken out; no fork is new
pub record RemovesRange (b : Range) (id : ℕ) (old new : Sides) : Type 0 where
  pub among : (fork : Fork) (r : Range) (q : ℕ) → is_among (side_at fork new) r q ≡ (not (is_at (fork_cmp (fork_of b)) fork && is_same b id r q) && is_among (side_at fork old) r q)
  pub present : (fork : Fork) → is_some (side_at fork new) ≡ true → is_some (side_at fork old) ≡ true

-- at each fork are the ranges that were there; no fork is new
pub record KeepsRanges (old new : Sides) : Type 0 where
  pub among : (fork : Fork) (r : Range) (q : ℕ) → is_among (side_at fork new) r q ≡ is_among (side_at fork old) r q
  pub present : (fork : Fork) → is_some (side_at fork new) ≡ true → is_some (side_at fork old) ≡ true
