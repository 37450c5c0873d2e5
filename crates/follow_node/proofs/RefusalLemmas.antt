-- Which items are no refusal.
use Rattle.std.proofs.Common.{◌≡◌, ◌<◌, ◌≤◌, List, [], ◌∷◌, length, refl, arith}
use Rattle.serde_json.specs.View.{items_view}
use Rattle.serde_json.specs.declared.value.Value.{Value}
use Rattle.follow_node.specs.FedLines.{of_none, refusal_of_items}

pub refusal_few : (vs : List Value) → length vs < 2 → refusal_of_items (items_view vs) ≡ of_none
refusal_few [] h = refl
refusal_few (v ∷ []) h = refl
refusal_few (v ∷ u ∷ vs) h = absurd (omega arith)

pub refusal_many : (vs : List Value) → 4 ≤ length vs → refusal_of_items (items_view vs) ≡ of_none
refusal_many [] h = absurd (omega arith)
refusal_many (v ∷ []) h = absurd (omega arith)
refusal_many (v ∷ u ∷ []) h = absurd (omega arith)
refusal_many (v ∷ u ∷ t ∷ []) h = absurd (omega arith)
refusal_many (v ∷ u ∷ t ∷ s ∷ vs) h = refl
