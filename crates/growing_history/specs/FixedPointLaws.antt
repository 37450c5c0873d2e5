-- Laws on the state as what the joins make of the state itself.
use Rattle.std.specs.Prelude.{◌≡◌, ℕ, true, false, slice_get, Some, IsTrue}
use Rattle.std.specs.FinMap.Entries.{is_sorted}
use Rattle.semantics.specs.Texts.{Text, text_cmp, Table, value_at}
use Rattle.semantics.specs.Patterns.{fits}
use Rattle.semantics.specs.Histories.{History, DeclaredJoin, joins_of, is_computed, visible}
use Rattle.semantics.specs.Outputs.{out}
use Rattle.semantics.specs.States.{IsAdmissible, state}
use Rattle.semantics.specs.StateLaws.{DeclaresJoins}

-- at a key of an output the table has what that join makes of the table itself, and at every other key what is visible
pub record IsFixedPoint (h : History) (table : Table) : Type 0 where
  pub of_output : (place : ℕ) (s : DeclaredJoin) (key : Text) → slice_get (joins_of h) place ≡ Some s → fits s.join.output key ≡ true →
      value_at key table ≡ value_at key (out s.join table)
  pub elsewhere : (key : Text) → is_computed (joins_of h) key ≡ false → value_at key table ≡ value_at key (visible h)

-- where the joins that stand are admissible, the state is a fixed point
abbrev pub StateIsFixedPoint : Type 0
StateIsFixedPoint = (h : History) → IsAdmissible (joins_of h) → DeclaresJoins h → IsFixedPoint h (state h)

-- no other table with ascending keys is one
abbrev pub FixedPointIsState : Type 0
FixedPointIsState = (h : History) (table : Table) → IsAdmissible (joins_of h) → DeclaresJoins h → IsTrue (is_sorted text_cmp table) →
    IsFixedPoint h table → table ≡ state h
