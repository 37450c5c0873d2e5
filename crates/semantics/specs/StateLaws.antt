-- Laws on the state and on the sets of joins that stand.
use Rattle.std.specs.Prelude.{◌≡◌, ℕ, slice_get, slice_index, true, false, Some, IsTrue}
use Rattle.std.specs.List.{AllByRecursion}
use Rattle.std.specs.FinMap.Entries.{is_sorted}
use Rattle.semantics.specs.Texts.{Text, text_cmp, value_at}
use Rattle.semantics.specs.Patterns.{fits}
use Rattle.semantics.specs.Joins.{is_join}
use Rattle.semantics.specs.Histories.{History, DeclaredJoin, joins_of, is_computed, visible}
use Rattle.semantics.specs.Outputs.{out}
use Rattle.semantics.specs.States.{IsAdmissible, ranks_of, below, state}
use Rattle.semantics.specs.Verdicts.{AllEntered}

-- the joins that stand after the history are joins
abbrev pub DeclaresJoins : History → Type 0
DeclaresJoins h = AllByRecursion (λ s. is_join s.join ≡ true) (joins_of h)

-- the set of joins that stand after entries without a cause against them is admissible
abbrev pub EnteredIsAdmissible : Type 0
EnteredIsAdmissible = (h : History) → AllEntered h → IsAdmissible (joins_of h)

-- at a key that fits an output, the state is what that join makes over the state below its rank
abbrev pub StateOfOutput : Type 0
StateOfOutput = (h : History) (i : ℕ) (s : DeclaredJoin) (key : Text) → IsAdmissible (joins_of h) → DeclaresJoins h →
    slice_get (joins_of h) i ≡ Some s → fits s.join.output key ≡ true →
    value_at key (state h) ≡ value_at key (out s.join (below h (slice_index (ranks_of (joins_of h)) i)))

-- at every other key it is what is visible
abbrev pub StateElsewhere : Type 0
StateElsewhere = (h : History) (key : Text) → DeclaresJoins h → is_computed (joins_of h) key ≡ false →
    value_at key (state h) ≡ value_at key (visible h)

-- the state's keys ascend, each once
abbrev pub StateIsSorted : Type 0
StateIsSorted = (h : History) → IsTrue (is_sorted text_cmp (state h))
