-- The ranges of each id, and the ids that are marked.
use Rattle.std.specs.Prelude.{◌≡◌, ℕ, ◌+◌, ◌-◌, ◌<◌, ◌&&◌, ◌==◌, List, [], ◌∷◌, ◌++◌, length, take, filter, fold, replicate, Bool, not, slice_index_or, if◌then◌else◌}
use Rattle.std.specs.List.{list_any}
use Rattle.semantics.specs.Texts.{Text, same, Range, within}

-- the ranges of each id below a number, in the order of the ids
abbrev pub Held : Type 0
Held = List (List Range)

-- the ranges of each id, and the marked ids in the order of marking
pub record Index : Type 0 where
  pub held : Held
  pub marked : List ℕ

-- the ranges of an id
abbrev pub ranges_of : ℕ → Held → List Range
ranges_of id held = slice_index_or held id []

-- the ranges of first ids, and none of those behind them, so many ids in all
abbrev pub filled : ℕ → Held → Held
filled ids held = held ++ replicate (ids - length held) []

-- whether two ranges have the same bounds
abbrev pub same_range : Range → Range → Bool
same_range r s = same r.low s.low && same r.high s.high

-- whether a range is among others
abbrev pub has_range : List Range → Range → Bool
has_range rs r = list_any (same_range r) rs

-- the ranges with one more as the last, unless it is among them
abbrev pub with_range : List Range → Range → List Range
with_range rs r = if has_range rs r then rs else rs ++ r ∷ []

-- the ranges with others, one after another, each unless it is there already
abbrev pub with_ranges : List Range → List Range → List Range
with_ranges rs more = fold with_range rs more

-- whether one of the ranges contains a key
abbrev pub holds_key : Text → List Range → Bool
holds_key key rs = list_any (λ r. within r key) rs

-- the ids from a number on, one for each list, whose ranges contain a key
abbrev pub stabbed_from : ℕ → Text → Held → List ℕ
stabbed_from id key [] = []
stabbed_from id key (rs ∷ more) = if holds_key key rs then id ∷ stabbed_from (id + 1) key more else stabbed_from (id + 1) key more

-- the ids with a range that contains a key: ascending, each once
abbrev pub stabbed : Text → Held → List ℕ
stabbed key held = stabbed_from 0 key held

-- whether an id is among others
abbrev pub has_id : List ℕ → ℕ → Bool
has_id ids id = list_any (λ x. id == x) ids

-- the marked ids with one more as the last; one that is marked keeps its place
abbrev pub with_mark : List ℕ → ℕ → List ℕ
with_mark ids id = if has_id ids id then ids else ids ++ id ∷ []

-- the marked ids with others, one after another
abbrev pub with_marks : List ℕ → List ℕ → List ℕ
with_marks ids more = fold with_mark ids more

-- the marked ids without one
abbrev pub without_mark : ℕ → List ℕ → List ℕ
without_mark id ids = filter (λ x. not (id == x)) ids

-- some first of the ids with a range that contains the key are marked, and the ranges are those that were
pub record IsMarkedInPart (old : Index) (key : Text) (new : Index) : Type 0 where
  pub count : ℕ
  pub held : new.held ≡ old.held
  pub marked : new.marked ≡ with_marks old.marked (take count (stabbed key old.held))
