-- A set without one of its joins.
use Rattle.std.proofs.Common.{◌≡◌, ℕ, ◌+◌, ◌<◌, ◌≤◌, ◌==◌, List, [], ◌∷◌, ◌++◌, length, take, get_or, not, sym, ap, ◌∙◌, subst, arith}
use Rattle.std.proofs.lemmas.List.{take_more, take_all}
use Rattle.std.proofs.lemmas.List.Elements.{All-filter, All-push, All-weaker}
use Rattle.semantics.specs.Joins.{Join}
use Rattle.semantics.specs.Histories.{DeclaredJoin, without}
use Rattle.semantics.specs.Graphs.{Edges, AreVertices}
use Rattle.semantics.specs.States.{reading, ranks_of, IsAdmissible}
use Rattle.semantics.specs.Verdicts.{joined}
use Rattle.semantics.proofs.JoinReadings.{AreVertices-reading}
use Rattle.semantics.proofs.PartSets.{filtered_is_admissible}
use Rattle.join_set.specs.Sets.{AreUpTo, IsRanked}

-- the first joins and the last are the whole
pub whole : (joins : List DeclaredJoin) (n : ℕ) (s : DeclaredJoin) → length joins ≡ n + 1 → s ≡ get_or joins n s → joined (take n joins) s.position s.join ≡ joins
whole joins n s long is =
    ap (λ t. take n joins ++ t ∷ []) is ∙ sym (take_more joins n s (omega (arith, long))) ∙ take_all (n + 1) joins (omega (arith, long))

-- positions up to a bound are up to a later one too
pub up_to_later : (last at : ℕ) (joins : List DeclaredJoin) → last < at → AreUpTo last joins → AreUpTo at joins
up_to_later last at joins less up = All-weaker (λ (s : DeclaredJoin). s.position ≤ last) (λ (s : DeclaredJoin). s.position ≤ at) (λ s l. omega (arith, l)) joins up

-- and so are those of the joins that are left
pub up_to_without : (last at position : ℕ) (joins next : List DeclaredJoin) → last < at → AreUpTo last joins → next ≡ without position joins → AreUpTo at next
up_to_without last at position joins next less up is =
    subst (λ js. AreUpTo at js) (sym is) (All-filter (λ (s : DeclaredJoin). not (s.position == position)) (λ (s : DeclaredJoin). s.position ≤ at) joins (up_to_later last at joins less up))

-- and those of the joins with one more
pub up_to_joined : (last at : ℕ) (j : Join) (joins next : List DeclaredJoin) → last < at → AreUpTo last joins → next ≡ joined joins at j → AreUpTo at next
up_to_joined last at j joins next less up is =
    subst (λ js. AreUpTo at js) (sym is) (All-push (λ (s : DeclaredJoin). s.position ≤ at) joins (record { position = at; join = j }) (up_to_later last at joins less up) (omega arith))

-- the ranks of the joins that are left
pub ranked_without : (position : ℕ) (joins next : List DeclaredJoin) (found : List ℕ) → IsAdmissible joins → next ≡ without position joins → found ≡ ranks_of next → IsRanked next found
ranked_without position joins next found a is ranks =
    record { admissible = subst IsAdmissible (sym is) (filtered_is_admissible _ joins a); exact = ranks }

-- the joins that are left may stand
pub admissible_without : (position : ℕ) (joins next : List DeclaredJoin) → IsAdmissible joins → next ≡ without position joins → IsAdmissible next
admissible_without position joins next a is = subst IsAdmissible (sym is) (filtered_is_admissible _ joins a)

-- ---- the reading of a set

-- its edges are over the numbers of the joins
pub ends_of_whole : (joins : List DeclaredJoin) (edges : Edges) → edges ≡ reading joins → AreVertices (length joins) edges
ends_of_whole joins edges e = subst (AreVertices (length joins)) (sym e) (AreVertices-reading joins)
