-- What is found at one fork after another.
use Rattle.std.proofs.Common.{◌≡◌, ℕ, Bool, true, false, ◌||◌, ◌⊎◌, inl, inr, List, [], ◌∷◌, refl, sym, ap, ◌∙◌}
use Rattle.std.specs.Ordering.{nat_cmp}
use Rattle.std.specs.BTreeSet.{BTreeSet, contains}
use Rattle.std.proofs.lemmas.Bool.{or_left, or_right, or_cases, false≢true}
use Rattle.semantics.specs.Texts.{Text, Range, within}
use Rattle.updater_index.specs.declared.fork.Fork.{Fork}
use Rattle.updater_index.specs.declared.side.Span.{Span}
use Rattle.updater_index.specs.Spans.{has_low, FindsHolders, AllFound}
use Rattle.updater_index.specs.Sides.{Sides, is_at_some}

-- what was found is of ranges of a test, with what was found before
pub finds_trans : (P : Range → ℕ → Bool) (Q : Range → ℕ → Bool) (key : Text) (old now new : BTreeSet ℕ) → ((r : Range) (id : ℕ) → Q r id ≡ true → P r id ≡ true) → FindsHolders P key old now → FindsHolders Q key now new → FindsHolders P key old new
finds_trans P Q key old now new part first second = record {
  kept = λ id h. second.kept id (first.kept id h);
  sound = λ id h. elim (second.sound id h) [
    | inl before ↦ first.sound id before
    | inr one ↦ inr (one.0, part one.0 id one.1, one.2)
  ];
}

pub finds_none : (P : Range → ℕ → Bool) (key : Text) (now : BTreeSet ℕ) → FindsHolders P key now now
finds_none P key now = record { kept = λ id h. h; sound = λ id h. inl h }

-- some forks are left of all, and what was found so far is of ranges at all; of the ranges that contain the key those that are not at the forks that are left were found
pub record IsFinding (total rest : Sides) (key : Text) (old now : BTreeSet ℕ) : Type 0 where
  pub part : (r : Range) (id : ℕ) → is_at_some rest r id ≡ true → is_at_some total r id ≡ true
  pub finds : FindsHolders (is_at_some total) key old now
  pub left : (r : Range) (id : ℕ) → is_at_some total r id ≡ true → within r key ≡ true → (contains nat_cmp now id ≡ true) ⊎ (is_at_some rest r id ≡ true)

pub finding_begins : (total : Sides) (key : Text) (now : BTreeSet ℕ) → IsFinding total total key now now
finding_begins total key now = record { part = λ r id h. h; finds = finds_none (is_at_some total) key now; left = λ r id h w. inr h }

-- one fork more
pub finding_goes : (total rest : Sides) (fork : Fork) (side : List Span) (key : Text) (old now new : BTreeSet ℕ) → IsFinding total ((fork, side) ∷ rest) key old now →
    FindsHolders (has_low side) key now new → AllFound (has_low side) key new → IsFinding total rest key old new
finding_goes total rest fork side key old now new f finds all = record {
  part = λ r id h. f.part r id (or_right (has_low side r id) (is_at_some rest r id) h);
  finds = finds_trans (is_at_some total) (has_low side) key old now new (λ r id h. f.part r id (or_left (has_low side r id) (is_at_some rest r id) h)) f.finds finds;
  left = λ r id h w. elim (f.left r id h w) [
    | inl there ↦ inl (finds.kept id there)
    | inr more ↦ elim (or_cases (has_low side r id) (is_at_some rest r id) more) [
      | inl here ↦ inl (all r id here w)
      | inr later ↦ inr later
    ]
  ];
}

-- at the end all were found
pub finding_ends : (total : Sides) (key : Text) (old now : BTreeSet ℕ) → IsFinding total [] key old now → AllFound (is_at_some total) key now
finding_ends total key old now f = λ r id h w. elim (f.left r id h w) [
  | inl there ↦ there
  | inr none ↦ absurd (false≢true none)
]
