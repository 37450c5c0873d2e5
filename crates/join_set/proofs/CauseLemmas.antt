-- Why a join may not be added: the first cause, fault by fault.
use Rattle.std.proofs.Common.{◌≡◌, ℕ, List, ◌∷◌, [], Bool, true, false, not, Option, Some, None, find, option_map, length, nat_lt, nat_le, if◌then◌else◌, ◌<◌, leb-true, refl, ap, ◌∙◌, arith}
use Rattle.std.proofs.lemmas.Bool.{false_from_ne_true}
use Rattle.std.specs.List.{list_any}
use Rattle.semantics.specs.Patterns.{overlaps}
use Rattle.semantics.specs.Joins.{Join, keeps_slot_rule, keeps_source_rule}
use Rattle.semantics.specs.Histories.{DeclaredJoin}
use Rattle.semantics.specs.States.{ranks_of}
use Rattle.semantics.specs.Verdicts.{Cause, slots, sources, deep, many, clash, first_cause, clash_cause, cycle_cause, join_cause, joined}
use Rattle.join_set.specs.declared.fault.AddFault.{AddFault}
use Rattle.join_set.specs.declared.fault.AddFault.TheVariants.{Slots, Sources, Clash, Cycle, Deep, Many, OutOfMemory}
use Rattle.join_set.specs.Faults.{IsFaultOf, plain_fault}

-- a cause that there is comes first
first_is : (c : Option Cause) (cs : List (Option Cause)) (x : Cause) → c ≡ Some x → first_cause (c ∷ cs) ≡ Some x
first_is None cs x h = cc
first_is (Some y) cs x h = h

-- a cause that there is not is passed over
pub first_passes : (c : Option Cause) (cs : List (Option Cause)) → c ≡ None → first_cause (c ∷ cs) ≡ first_cause cs
first_passes None cs h = refl
first_passes (Some y) cs h = cc

-- a fault that is a cause is the first of causes that begin with it
pub IsFaultOf-first : (fault : AddFault) (c : Option Cause) (cs : List (Option Cause)) → IsFaultOf fault c → IsFaultOf fault (first_cause (c ∷ cs))
IsFaultOf-first Slots c cs h = first_is c cs _ h
IsFaultOf-first Sources c cs h = first_is c cs _ h
IsFaultOf-first (Clash position) c cs h = first_is c cs _ h
IsFaultOf-first (Cycle positions) c cs h = first_is c cs _ h
IsFaultOf-first Deep c cs h = first_is c cs _ h
IsFaultOf-first Many c cs h = first_is c cs _ h
IsFaultOf-first (OutOfMemory _) c cs h = tt

-- the cause where the test holds
abbrev cause_where : Bool → Cause → Option Cause
cause_where test cause = if test then Some cause else None

-- the test fails
where_false : (b : Bool) (c : Cause) → b ≡ false → cause_where b c ≡ None
where_false true c h = cc
where_false false c h = refl

-- the test holds
where_true : (b : Bool) (c : Cause) → b ≡ true → cause_where b c ≡ Some c
where_true true c h = refl
where_true false c h = cc

-- the opposite of a test
where_not_false : (b : Bool) (c : Cause) → b ≡ false → cause_where (not b) c ≡ Some c
where_not_false true c h = cc
where_not_false false c h = refl

-- the opposite of a test
where_not_true : (b : Bool) (c : Cause) → b ≡ true → cause_where (not b) c ≡ None
where_not_true true c h = refl
where_not_true false c h = cc

-- a test that fails below its bound
pub few_below : (bound n : ℕ) → n < bound → nat_le bound n ≡ false
few_below bound n h = false_from_ne_true (nat_le bound n) (λ e. let over = leb-true bound n e in omega arith)

-- ---- the causes in their order

-- the join breaks the rule on slots
pub cause-slots : (joins : List DeclaredJoin) (at : ℕ) (j : Join) → keeps_slot_rule j ≡ false → join_cause joins at j ≡ Some slots
unfolding join_cause
cause-slots joins at j h = first_is _ _ slots (where_not_false (keeps_slot_rule j) slots h)

-- what is left of the causes once the join meets the rule on slots
abbrev after_slots : List DeclaredJoin → ℕ → Join → List (Option Cause)
after_slots joins at j =
    cause_where (not (keeps_source_rule j)) sources
    ∷ clash_cause j joins
    ∷ cycle_cause (length joins) (joined joins at j)
    ∷ cause_where (list_any (nat_lt 7) (ranks_of (joined joins at j))) deep
    ∷ cause_where (nat_le 64 (length joins)) many
    ∷ []

-- what is left of the causes once the join meets the rules
abbrev pub after_rules : List DeclaredJoin → ℕ → Join → List (Option Cause)
after_rules joins at j =
    clash_cause j joins
    ∷ cycle_cause (length joins) (joined joins at j)
    ∷ cause_where (list_any (nat_lt 7) (ranks_of (joined joins at j))) deep
    ∷ cause_where (nat_le 64 (length joins)) many
    ∷ []

-- the join meets the rule on slots
past_slots : (joins : List DeclaredJoin) (at : ℕ) (j : Join) → keeps_slot_rule j ≡ true → join_cause joins at j ≡ first_cause (after_slots joins at j)
unfolding join_cause
past_slots joins at j h = first_passes _ (after_slots joins at j) (where_not_true (keeps_slot_rule j) slots h)

-- the join breaks the rule on sources alone
pub cause-sources : (joins : List DeclaredJoin) (at : ℕ) (j : Join) → keeps_slot_rule j ≡ true → keeps_source_rule j ≡ false → join_cause joins at j ≡ Some sources
cause-sources joins at j h k = rw (past_slots joins at j h) (first_is _ (after_rules joins at j) sources (where_not_false (keeps_source_rule j) sources k))

-- the join meets both rules
pub past_rules : (joins : List DeclaredJoin) (at : ℕ) (j : Join) → keeps_slot_rule j ≡ true → keeps_source_rule j ≡ true → join_cause joins at j ≡ first_cause (after_rules joins at j)
past_rules joins at j h k = rw (past_slots joins at j h) (first_passes _ (after_rules joins at j) (where_not_true (keeps_source_rule j) sources k))

-- the position of the join that clashes
abbrev pub clash_at : Join → List DeclaredJoin → Option ℕ
clash_at j joins = option_map (λ s. s.position) (find (λ s. overlaps j.output s.join.output) joins)

-- the output overlaps that of a join that stands
pub cause-clash : (joins : List DeclaredJoin) (at : ℕ) (j : Join) (position : ℕ) → keeps_slot_rule j ≡ true → keeps_source_rule j ≡ true → clash_at j joins ≡ Some position →
    join_cause joins at j ≡ Some (clash position)
cause-clash joins at j position h k e =
    let here : clash_cause j joins ≡ Some (clash position) = ap (λ o. option_map clash o) e in
    rw (past_rules joins at j h k) (first_is (clash_cause j joins) _ (clash position) here)

-- the join meets both rules and clashes with none
pub past_clash : (joins : List DeclaredJoin) (at : ℕ) (j : Join) → keeps_slot_rule j ≡ true → keeps_source_rule j ≡ true → clash_at j joins ≡ None →
    join_cause joins at j ≡ first_cause (cycle_cause (length joins) (joined joins at j) ∷ cause_where (list_any (nat_lt 7) (ranks_of (joined joins at j))) deep ∷ cause_where (nat_le 64 (length joins)) many ∷ [])
past_clash joins at j h k e =
    let here : clash_cause j joins ≡ None = ap (λ o. option_map clash o) e in
    rw (past_rules joins at j h k) (first_passes (clash_cause j joins) _ here)

-- the join meets both rules, and the reading with it has a cycle or none was sought for want of memory
pub fault-cycle : (joins : List DeclaredJoin) (at : ℕ) (j : Join) (fault : AddFault) → keeps_slot_rule j ≡ true → keeps_source_rule j ≡ true → clash_at j joins ≡ None →
    IsFaultOf fault (cycle_cause (length joins) (joined joins at j)) → IsFaultOf fault (join_cause joins at j)
fault-cycle joins at j fault h k e f =
    rw (past_clash joins at j h k e) (IsFaultOf-first fault (cycle_cause (length joins) (joined joins at j)) (cause_where (list_any (nat_lt 7) (ranks_of (joined joins at j))) deep ∷ cause_where (nat_le 64 (length joins)) many ∷ []) f)

-- the join meets both rules, clashes with none and closes no cycle
pub past_cycle : (joins : List DeclaredJoin) (at : ℕ) (j : Join) → keeps_slot_rule j ≡ true → keeps_source_rule j ≡ true → clash_at j joins ≡ None →
    cycle_cause (length joins) (joined joins at j) ≡ None →
    join_cause joins at j ≡ first_cause (cause_where (list_any (nat_lt 7) (ranks_of (joined joins at j))) deep ∷ cause_where (nat_le 64 (length joins)) many ∷ [])
past_cycle joins at j h k e f =
    rw (past_clash joins at j h k e) (first_passes (cycle_cause (length joins) (joined joins at j)) (cause_where (list_any (nat_lt 7) (ranks_of (joined joins at j))) deep ∷ cause_where (nat_le 64 (length joins)) many ∷ []) f)

-- some rank would be above 7
pub cause-deep : (joins : List DeclaredJoin) (at : ℕ) (j : Join) → keeps_slot_rule j ≡ true → keeps_source_rule j ≡ true → clash_at j joins ≡ None →
    cycle_cause (length joins) (joined joins at j) ≡ None → list_any (nat_lt 7) (ranks_of (joined joins at j)) ≡ true → join_cause joins at j ≡ Some deep
cause-deep joins at j h k e f d =
    rw (past_cycle joins at j h k e f) (first_is (cause_where (list_any (nat_lt 7) (ranks_of (joined joins at j))) deep) (cause_where (nat_le 64 (length joins)) many ∷ []) deep (where_true _ deep d))

-- each rank is at most 7
past_deep : (joins : List DeclaredJoin) (at : ℕ) (j : Join) → keeps_slot_rule j ≡ true → keeps_source_rule j ≡ true → clash_at j joins ≡ None →
    cycle_cause (length joins) (joined joins at j) ≡ None → list_any (nat_lt 7) (ranks_of (joined joins at j)) ≡ false →
    join_cause joins at j ≡ first_cause (cause_where (nat_le 64 (length joins)) many ∷ [])
past_deep joins at j h k e f d =
    rw (past_cycle joins at j h k e f) (first_passes (cause_where (list_any (nat_lt 7) (ranks_of (joined joins at j))) deep) (cause_where (nat_le 64 (length joins)) many ∷ []) (where_false _ deep d))

-- 64 joins stand already
pub cause-many : (joins : List DeclaredJoin) (at : ℕ) (j : Join) → keeps_slot_rule j ≡ true → keeps_source_rule j ≡ true → clash_at j joins ≡ None →
    cycle_cause (length joins) (joined joins at j) ≡ None → list_any (nat_lt 7) (ranks_of (joined joins at j)) ≡ false → nat_le 64 (length joins) ≡ true → join_cause joins at j ≡ Some many
cause-many joins at j h k e f d m = rw (past_deep joins at j h k e f d) (first_is (cause_where (nat_le 64 (length joins)) many) [] many (where_true _ many m))

-- nothing refuses the join
pub cause-none : (joins : List DeclaredJoin) (at : ℕ) (j : Join) → keeps_slot_rule j ≡ true → keeps_source_rule j ≡ true → clash_at j joins ≡ None →
    cycle_cause (length joins) (joined joins at j) ≡ None → list_any (nat_lt 7) (ranks_of (joined joins at j)) ≡ false → nat_le 64 (length joins) ≡ false → join_cause joins at j ≡ None
cause-none joins at j h k e f d m = rw (past_deep joins at j h k e f d) (first_passes (cause_where (nat_le 64 (length joins)) many) [] (where_false _ many m))

-- ---- faults as causes

-- a fault that is a cause, where that is another cause
pub IsFaultOf-is : (fault : AddFault) (x : Cause) (c : Option Cause) → plain_fault fault ≡ Some x → IsFaultOf fault c → c ≡ Some x
IsFaultOf-is Slots x c e f = f ∙ e
IsFaultOf-is Sources x c e f = f ∙ e
IsFaultOf-is (Clash position) x c e f = f ∙ e
IsFaultOf-is (Cycle positions) x c e f = f ∙ e
IsFaultOf-is Deep x c e f = f ∙ e
IsFaultOf-is Many x c e f = f ∙ e
IsFaultOf-is (OutOfMemory _) x c e f = cc
