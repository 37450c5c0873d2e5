-- Keys of one list behind another.
use Rattle.std.proofs.Common.{◌≡◌, ◌↔◌, ◌⊎◌, ◌++◌, true, List, Contains, Less, Equal, Greater, Ordering, is_lt, refl, ⊎_elim}
use Rattle.std.proofs.lemmas.Bool.{false≢true}
use Rattle.std.proofs.lemmas.List.Elements.{Contains-append_left, Contains-append_right, Contains-append_cases}
use Rattle.semantics.specs.Texts.{Text}

-- an order that is less
pub less_from_lt : (o : Ordering) → is_lt o ≡ true → o ≡ Less
less_from_lt Less h = refl
less_from_lt Equal h = absurd (false≢true h)
less_from_lt Greater h = absurd (false≢true h)

-- a key is in two lists, one behind the other, just where it is in one of them
pub in_either : (first other : List Text) (key : Text) → Contains (first ++ other) key ↔ (Contains first key ⊎ Contains other key)
in_either first other key = (
  λ h. Contains-append_cases first other key h,
  λ h. ⊎_elim (λ (one : Contains first key). Contains-append_left first other key one) (λ (two : Contains other key). Contains-append_right first other key two) h,
)
