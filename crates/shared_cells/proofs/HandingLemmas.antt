-- What a cell hands out, and keeps then.
use Rattle.std.proofs.Common.{◌≡◌, ℕ, ◌+◌, ◌≤◌, ◌⊎◌, length, Bool, true, false, Option, Some, None, refl, sym, ap, ◌∙◌, subst, inl, inr}
use Rattle.std.specs.Bool.{OnFalse, OnTrue}
use Rattle.semantics.specs.Texts.{Table, Range}
use Rattle.semantics.specs.Histories.{History, IsPrefix}
use Rattle.kept_ranges.specs.Sound.{KeptRange}
use Rattle.range_state.specs.Work.{StaysWithin}
use Rattle.cell_slots.specs.Serving.{CountsReach, HasTooMany, WasAdvanced, WasMended, output_within}
use Rattle.cell_slots.specs.Slots.{IsOutput}
use Rattle.cell_slots.proofs.LongerLemmas.{advanced_before, mended_before, reach_before}
use Rattle.cell_slots.proofs.ServingLemmas.{same_output}
use Rattle.cell_slots.proofs.UpToLemmas.{many_over}
use Rattle.shared_cells.specs.Cells.{KeepsWithin}
use Rattle.shared_cells.specs.Handing.{HandsOut}

-- where a sink got what a join gives, that is handed out
pub hands_out : {S : Type 0} (got : S → S → Table → Type 0) (h : History) (p at rank : ℕ) (part : Range) (old new : S) (before after : ℕ) (gave : Bool) (pairs : Table) → IsOutput h p at rank part pairs →
    OnTrue gave (got old new pairs) → OnTrue gave (before + 1 + length pairs ≤ after) → OnTrue gave (HandsOut got h p at rank part old new before after)
hands_out got h p at rank part old new before after true pairs output taken cost = record { pairs = pairs; output = output; taken = taken; cost = cost }
hands_out got h p at rank part old new before after false pairs output taken cost = tt

-- what was taken out of a cell, handed out and given back has no more needs than it had, or than are allowed
pub few_handed : (most : ℕ) (s t : KeptRange) (held : Option KeptRange) (gave : Bool) → held ≡ Some t → length s.kept.needs ≤ most → OnTrue gave (StaysWithin (Some most) s t) → OnTrue gave (KeepsWithin most held)
few_handed most s t held true holds few stays = subst (KeepsWithin most) (sym holds) (stays few)
few_handed most s t held false holds few stays = tt

-- ---- where something is handed out, and where nothing is

-- what follows from what is so where something is handed out is so there
pub on_true_so : {P Q : Type 0} (gave : Bool) → (P → Q) → OnTrue gave P → OnTrue gave Q
on_true_so true so holds = so holds
on_true_so false so holds = tt

-- and where nothing is
pub on_false_so : {P Q : Type 0} (gave : Bool) → (P → Q) → OnFalse gave P → OnFalse gave Q
on_false_so true so holds = tt
on_false_so false so holds = so holds

-- ---- what is said over a list that has grown, said of the list as it was

-- what a kept range gives is the same, by whatever name it goes
pub output_before : (h more : History) (p : ℕ) (part : Range) (s t : KeptRange) → IsPrefix h more → p ≤ length h → t ≡ s → output_within t more p part ≡ output_within s h p part
output_before h more p part s t prefix within same =
    ap (λ (k : KeptRange). output_within k more p part) same ∙ same_output s s h more p part (record { join = refl; rank = refl; range = refl }) within prefix

-- what keeps nothing, or takes too many needs, does so
pub kept_or_wide : (most : Option ℕ) (h more : History) (p : ℕ) (part : Range) (s t : KeptRange) → IsPrefix h more → p ≤ length h → t ≡ s → (t.position ≡ None) ⊎ HasTooMany most more p part t → (s.position ≡ None) ⊎ HasTooMany most h p part s
kept_or_wide most h more p part s t prefix within same (inl none) = inl (ap (λ (k : KeptRange). k.position) (sym same) ∙ none)
kept_or_wide most h more p part s t prefix within same (inr many) = inr (many_over most h more p part s prefix within (subst (λ (k : KeptRange). HasTooMany most more p part k) same many))

-- what bringing it there counted, beside a step and one for each pair
pub handed_reach : (h more : History) (p before after : ℕ) (part : Range) (s t : KeptRange) → IsPrefix h more → p ≤ length h → t ≡ s → CountsReach more p t (before + 1 + length (output_within t more p part)) after
    → CountsReach h p s (before + 1 + length (output_within s h p part)) after
handed_reach h more p before after part s t prefix within same counts =
    subst (λ (rows : Table). CountsReach h p s (before + 1 + length rows) after) (output_before h more p part s t prefix within same)
    (reach_before h more p s t (before + 1 + length (output_within t more p part)) after prefix within same counts)

-- what was advanced
pub handed_advanced : (h more : History) (q p before after : ℕ) (part : Range) (s t new : KeptRange) → IsPrefix h more → p ≤ length h → q ≤ p → t ≡ s
    → WasAdvanced more q p part t new (before + 1 + length (output_within t more p part)) after → WasAdvanced h q p part s new (before + 1 + length (output_within s h p part)) after
handed_advanced h more q p before after part s t new prefix within order same was =
    subst (λ (rows : Table). WasAdvanced h q p part s new (before + 1 + length rows) after) (output_before h more p part s t prefix within same)
    (advanced_before h more q p part s new (before + 1 + length (output_within t more p part)) after prefix within order
    (subst (λ (k : KeptRange). WasAdvanced more q p part k new (before + 1 + length (output_within t more p part)) after) same was))

-- and what was mended
pub handed_mended : (h more : History) (p before after : ℕ) (part : Range) (s t new : KeptRange) → IsPrefix h more → p ≤ length h → t ≡ s
    → WasMended more p part t new (before + 1 + length (output_within t more p part)) after → WasMended h p part s new (before + 1 + length (output_within s h p part)) after
handed_mended h more p before after part s t new prefix within same was =
    subst (λ (rows : Table). WasMended h p part s new (before + 1 + length rows) after) (output_before h more p part s t prefix within same)
    (mended_before h more p part s new (before + 1 + length (output_within t more p part)) after prefix within
    (subst (λ (k : KeptRange). WasMended more p part k new (before + 1 + length (output_within t more p part)) after) same was))
