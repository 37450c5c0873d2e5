-- The state in a range that one cell has.
use Rattle.std.proofs.Common.{◌≡◌, ℕ, ◌≤◌, [], ◌∷◌, length, take, Bool, true, false, sym, ap, ◌∙◌, subst}
use Rattle.std.specs.Bool.{OnTrue}
use Rattle.semantics.specs.Texts.{Table, Range, is_range, pairs_within}
use Rattle.semantics.specs.Histories.{History, IsPrefix, joins_of, visible}
use Rattle.semantics.specs.Outputs.{out}
use Rattle.semantics.specs.States.{below, merged, state}
use Rattle.semantics.proofs.GatherLemmas.{ascending-out}
use Rattle.semantics.proofs.MergedLemmas.{ascending-pairs_within}
use Rattle.semantics.proofs.StateLemmas.{below-zero}
use Rattle.growing_history.specs.Entered.{HasEntered}
use Rattle.growing_history.proofs.EnteredLemmas.{has_entered_taken}
use Rattle.growing_history.proofs.PrefixLemmas.{take_prefix}
use Rattle.layering.specs.Parts.{JoinTo}
use Rattle.layering.proofs.LayerLemmas.{one_reached_is_state}
use Rattle.layering.proofs.MergeLemmas.{merged_into_nothing}
use Rattle.join_types.proofs.SinkLemmas.{got_as}
use Rattle.cell_slots.specs.Slots.{IsOutput, StandsAs}
use Rattle.cell_slots.proofs.DeclaredLemmas.{stands_as, stands_over}
use Rattle.base_reader.specs.Reaching.{IsOnlyReached}
use Rattle.shared_cells.specs.Handing.{HandsOut}

-- a part that joins to a range alone is the range
pub one_part_is : (part range : Range) → JoinTo range (part ∷ []) → part ≡ range
one_part_is part range joins = λ i. record { low = joins.0 i; high = joins.2 i }

-- the join whose output alone a range reaches stands
pub only_stands : (h : History) (p at rank : ℕ) (range : Range) (only : IsOnlyReached (joins_of (take p h)) range at rank) → StandsAs h p at rank only.join
only_stands h p at rank range only = stands_as h p rank (record { position = at; join = only.join }) (record { place = only.place; stands = only.one.stands; ranked = only.ranked })

-- where nothing else is seen in a range, what that join gives in it is the state there
pub state_of_only : (h more : History) (p at rank : ℕ) (range : Range) (seen pairs : Table) → p ≤ length h → IsPrefix h more → HasEntered more → is_range range.low range.high ≡ true → IsOnlyReached (joins_of (take p h)) range at rank →
    seen ≡ pairs_within range (below (take p h) 0) → seen ≡ [] → IsOutput more p at rank range pairs → pairs ≡ pairs_within range (state (take p h))
state_of_only h more p at rank range seen pairs less prefix entered is only seen_is none output =
    let now : History = take p h in
    let same : take p more ≡ now = take_prefix p h more less prefix in
    let made : Table = out only.join (below now rank) in
    let nothing : pairs_within range (visible now) ≡ [] = ap (pairs_within range) (sym (below-zero now)) ∙ sym seen_is ∙ none in
    output only.join (stands_over h more p at rank only.join less prefix (only_stands h p at rank range only))
    ∙ ap (λ (l : History). pairs_within range (out only.join (below l rank))) same
    ∙ sym (merged_into_nothing (pairs_within range made) (ascending-pairs_within range made (ascending-out only.join (below now rank))))
    ∙ (λ i. merged (sym nothing i) (pairs_within range (out only.join (below now (sym only.ranked i)))))
    ∙ sym (one_reached_is_state now range only.place (record { position = at; join = only.join }) (subst HasEntered same (has_entered_taken p more entered)) is only.one)

-- so a sink that was handed it got the state there
pub handed_state : {S : Type 0} (got : S → S → Table → Type 0) (h more : History) (p at rank : ℕ) (range : Range) (seen : Table) (old new : S) (before after : ℕ) (gave : Bool) → p ≤ length h → IsPrefix h more → HasEntered more →
    is_range range.low range.high ≡ true → IsOnlyReached (joins_of (take p h)) range at rank → seen ≡ pairs_within range (below (take p h) 0) → seen ≡ [] →
    OnTrue gave (HandsOut got more p at rank range old new before after) → OnTrue gave (got old new (pairs_within range (state (take p h))))
handed_state got h more p at rank range seen old new before after true less prefix entered is only seen_is none handed =
    got_as got old new handed.pairs (pairs_within range (state (take p h))) (state_of_only h more p at rank range seen handed.pairs less prefix entered is only seen_is none handed.output) handed.taken
handed_state got h more p at rank range seen old new before after false less prefix entered is only seen_is none handed = tt
