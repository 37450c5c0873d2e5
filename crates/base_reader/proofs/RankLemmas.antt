-- The join with a number among joins, by the position of its declaration.
use Rattle.std.proofs.Common.{◌≡◌, ◌&&◌, ℕ, List, length, slice_get, slice_index, take, Bool, true, false, not, is_some, Option, Some, None, option_map, refl, sym, ap, ◌∙◌}
use Rattle.std.proofs.lemmas.Bool.{false≢true, ne_eqb}
use Rattle.std.proofs.lemmas.Option.{none-some, same_Some, slice_get_within}
use Rattle.semantics.specs.Texts.{Range}
use Rattle.semantics.specs.Joins.{Join}
use Rattle.semantics.specs.Histories.{History, DeclaredJoin}
use Rattle.semantics.specs.States.{ranks_of}
use Rattle.join_set.specs.Sets.{Joins, AreJoins}
use Rattle.cell_slots.specs.Slots.{IsDeclared, IsRankIn, StandsAs}
use Rattle.cell_slots.proofs.DeclaredLemmas.{standing_declared}
use Rattle.key_ranges.specs.Containing.{bind_range}
use Rattle.layering.specs.Reached.{reaches}
use Rattle.base_reader.specs.Reaching.{AreUnreachedBut, IsJoinIn, IsOnlyReached, IsReachedBeside}

-- what was declared at a position is some join
declared_there : (o : Option DeclaredJoin) (at : ℕ) → option_map (λ s. s.position) o ≡ Some at → (j : Join) × (o ≡ Some (record { position = at; join = j }))
declared_there None at is = absurd (none-some at is)
declared_there (Some s) at is = (s.join, ap (λ n. Some (record { position = n; join = s.join })) (same_Some s.position at is))

-- its rank
pub rank_of_number : (joins : List DeclaredJoin) (i at rank : ℕ) → option_map (λ s. s.position) (slice_get joins i) ≡ Some at → rank ≡ slice_index (ranks_of joins) i → IsRankIn joins at (Some rank)
rank_of_number joins i at rank is exact =
    let there = declared_there (slice_get joins i) at is in
    (there.0, record { place = i; stands = there.1; ranked = sym exact })

-- the join
pub join_of_number : (joins : List DeclaredJoin) (i at : ℕ) (j : Join) → option_map (λ s. s.position) (slice_get joins i) ≡ Some at → option_map (λ s. s.join) (slice_get joins i) ≡ Some j → IsJoinIn joins at (Some j)
join_of_number joins i at j is also =
    let there = declared_there (slice_get joins i) at is in
    let same = same_Some there.0 j (sym (ap (option_map (λ (s : DeclaredJoin). s.join)) there.1) ∙ also) in
    (i, there.1 ∙ ap (λ k. Some (record { position = at; join = k })) same)

-- the output of another join that was looked at is not reached
pub unreached_here : (joins : List DeclaredJoin) (range : Range) (k i : ℕ) (s : DeclaredJoin) (answer : Bool) → IsReachedBeside joins k i range answer → answer ≡ false → slice_get joins k ≡ Some s → (k ≡ i → ⊥) → reaches range s ≡ false
unreached_here joins range k i s answer said unreached stands apart = sym (ap (λ b. not b && reaches range s) (ne_eqb k i apart)) ∙ sym (said s stands) ∙ unreached

nothing_of : {A : Type 0} (o : Option A) → is_some o ≡ false → o ≡ None
nothing_of None is = refl
nothing_of (Some a) is = absurd (false≢true (sym is))

-- where the outputs of all others are not reached, it is the only one
pub only_of_number : (joins : List DeclaredJoin) (range : Range) (i at rank : ℕ) → option_map (λ s. s.position) (slice_get joins i) ≡ Some at → rank ≡ slice_index (ranks_of joins) i → AreUnreachedBut joins range i (length joins) → IsOnlyReached joins range at rank
only_of_number joins range i at rank is exact others =
    let there = declared_there (slice_get joins i) at is in
    record {
      place = i;
      join = there.0;
      one = record {
        stands = there.1;
        alone = λ other t stands apart. nothing_of (bind_range t.join.output range) (others other t (slice_get_within joins other t stands) stands apart);
      };
      ranked = sym exact;
    }

-- it was declared there, in each history in which these are the joins at some position
pub join_declared : {floor : ℕ} (h : History) (p at : ℕ) (joins : Joins) (j : Join) → AreJoins floor joins (take p h) → IsJoinIn joins.standing at (Some j) → IsDeclared h at j
join_declared h p at joins j are found =
    standing_declared h p found.0 (record { position = at; join = j }) (ap (λ js. slice_get js found.0) (sym are.standing) ∙ found.1)

-- the join that was declared at a position and stands after the first p entries is among these joins
pub join_among : {floor : ℕ} (h : History) (p at rank : ℕ) (joins : Joins) (j : Join) → AreJoins floor joins (take p h) → StandsAs h p at rank j → IsJoinIn joins.standing at (Some j)
join_among h p at rank joins j are stands = (stands.stands.place, ap (λ js. slice_get js stands.stands.place) are.standing ∙ stands.stands.stands)
