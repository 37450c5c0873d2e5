-- The items of a line by their number.
use Rattle.std.proofs.Common.{◌≡◌, ◌<◌, ◌≤◌, false, [], ◌∷◌, List, length, get_or, refl, sym, ap, arith}
use Rattle.std.specs.Prelude.{Err, codes}
use Rattle.serde_json.specs.View.{view, items_view}
use Rattle.serde_json.specs.declared.value.Value.{Value}
use Rattle.semantics.specs.Texts.{Text}
use Rattle.protocol.specs.Requests.{form}
use Rattle.core_events.specs.Scripts.{event_of_word}
use Rattle.event_script.specs.Lines.{is_word, has_one_behind, are_write}

-- two items are a write by the first
pub two_are_write : (vs : List Value) (w : Value) → 2 ≤ length vs → length vs < 3 → w ≡ get_or vs 0 w →
    are_write (items_view vs) ≡ has_one_behind (view w)
two_are_write [] w h k e = absurd (omega arith)
two_are_write (v ∷ []) w h k e = absurd (omega arith)
two_are_write (v ∷ u ∷ []) w h k e = ap (λ x. has_one_behind (view x)) (sym e)
two_are_write (v ∷ u ∷ t ∷ vs) w h k e = absurd (omega arith)

-- three items are a write by the first
pub three_are_write : (vs : List Value) (w : Value) → 3 ≤ length vs → length vs < 4 → w ≡ get_or vs 0 w → are_write (items_view vs) ≡ is_word (codes "put") (view w)
three_are_write [] w h k e = absurd (omega arith)
three_are_write (v ∷ []) w h k e = absurd (omega arith)
three_are_write (v ∷ u ∷ []) w h k e = absurd (omega arith)
three_are_write (v ∷ u ∷ t ∷ []) w h k e = ap (λ x. is_word (codes "put") (view x)) (sym e)
three_are_write (v ∷ u ∷ t ∷ s ∷ vs) w h k e = absurd (omega arith)

-- fewer than two items are none
pub few_are_none : (vs : List Value) → length vs < 2 → are_write (items_view vs) ≡ false
few_are_none [] h = refl
few_are_none (v ∷ []) h = refl
few_are_none (v ∷ u ∷ vs) h = absurd (omega arith)

-- nor are four or more
pub four_are_none : (vs : List Value) → 4 ≤ length vs → are_write (items_view vs) ≡ false
four_are_none [] h = absurd (omega arith)
four_are_none (v ∷ []) h = absurd (omega arith)
four_are_none (v ∷ u ∷ []) h = absurd (omega arith)
four_are_none (v ∷ u ∷ t ∷ []) h = absurd (omega arith)
four_are_none (v ∷ u ∷ t ∷ s ∷ vs) h = refl

-- a word with no item behind it, or with four or more, is no event
pub no_items_form : (word : Text) (vs : List Value) → length vs < 1 → event_of_word word (items_view vs) ≡ Err form
no_items_form word [] h = refl
no_items_form word (v ∷ vs) h = absurd (omega arith)

pub four_items_form : (word : Text) (vs : List Value) → 4 ≤ length vs → event_of_word word (items_view vs) ≡ Err form
four_items_form word [] h = absurd (omega arith)
four_items_form word (v ∷ []) h = absurd (omega arith)
four_items_form word (v ∷ u ∷ []) h = absurd (omega arith)
four_items_form word (v ∷ u ∷ t ∷ []) h = absurd (omega arith)
four_items_form word (v ∷ u ∷ t ∷ s ∷ vs) h = refl
