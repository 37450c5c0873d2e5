use Rattle.std.proofs.Common.{◌≡◌, true, ◌∷◌, [], List, refl, Some, is_some, ap, sym, ◌∙◌, subst}
use Rattle.semantics.specs.Texts.{Text}
use Rattle.semantics.specs.Patterns.{Slots, literal, slot, no_slots, segments, bind, is_pattern, TakeAll}
use Rattle.semantics.proofs.PatternLemmas.{bind_some, segments_of_pattern, length-no_slots, take_segment_texts}
use Rattle.key_pattern.specs.Places.{CanFill}
use Rattle.key_trials.proofs.patterns.moved.Goals as goal

takes_one : (l m : Text) (ts : List Text) (found : Slots) → TakeAll (literal l ∷ slot 0 0 ∷ []) ts found → CanFill (literal m ∷ slot 0 0 ∷ []) found
takes_one l m [] found h = absurd h
takes_one l m (t ∷ []) found h = absurd h.1
takes_one l m (t ∷ u ∷ []) found h = ap is_some (take_segment_texts (literal m ∷ slot 0 0 ∷ []) (m ∷ u ∷ []) found (refl, (h.1.0, tt)))
takes_one l m (t ∷ u ∷ v ∷ vs) found h = absurd h.1.1

-- the slot of one table fills that of another
moves : (l m key : Text) (found : Slots) → is_pattern (literal l ∷ slot 0 0 ∷ []) ≡ true → bind (literal l ∷ slot 0 0 ∷ []) key no_slots ≡ Some found → CanFill (literal m ∷ slot 0 0 ∷ []) found
moves l m key found ok e = takes_one l m (segments key) found (bind_some (literal l ∷ slot 0 0 ∷ []) key no_slots found (segments_of_pattern (literal l ∷ slot 0 0 ∷ []) ok) length-no_slots e).takes

pub fill-requires : goal.fill-requires
fill-requires c =
    let fine = ap is_pattern (sym c.requires.first) ∙ c.in-Some.ensures.is_pattern in
    let bound = ap (λ q. bind q c.args.key.now no_slots) (sym c.requires.first) ∙ ap (λ s. bind c.args.from_pattern.now c.args.key.now s) (sym c.none.ensures) ∙ sym c.in-Some.ensures.binds in
    subst (λ q. CanFill q c.in-Some.slots) (sym c.requires.second) (moves c.args.from.now c.args.to.now c.args.key.now c.in-Some.slots fine bound)
