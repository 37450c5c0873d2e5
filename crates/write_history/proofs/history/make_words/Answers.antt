use Rattle.std.proofs.Common.{◌≡◌, ℕ, List, [], ◌∷◌, ◌++◌, replicate, sym, ap, ◌∙◌}
use Rattle.write_history.specs.Lines.{lines}
use Rattle.write_history.proofs.Lines.{lines-append}
use Rattle.write_history.proofs.Marking.{no_pin_is}
use Rattle.write_history.proofs.history.make_words.Goals as goal

-- four lines of nothing, then the pins, then the noted positions
three_parts : (none first second third : List ℕ) (pins shards pin : ℕ) → none ≡ [] → first ≡ none ++ lines (replicate 4 0) → second ≡ first ++ lines (replicate pins pin) → third ≡ second ++ lines (replicate shards 0) →
    third ≡ lines (0 ∷ 0 ∷ 0 ∷ 0 ∷ (replicate pins pin ++ replicate shards 0))
three_parts none first second third pins shards pin is one two three =
    three
    ∙ ap (λ ws. ws ++ lines (replicate shards 0)) (two ∙ ap (λ ws. ws ++ lines (replicate pins pin)) (one ∙ ap (λ ws. ws ++ lines (replicate 4 0)) is))
    ∙ ap (λ rest. lines (0 ∷ 0 ∷ 0 ∷ 0 ∷ []) ++ rest) (sym (lines-append (replicate pins pin) (replicate shards 0)))

pub returns : goal.returns
returns c = λ kinds pins_are shards_are.
    three_parts c.new-words.result.items c.add_lines.new.words.items c.add_lines-2.new.words.items c.add_lines-3.new.words.items c.args.pin_words c.args.shards 281474976710656 c.new-words.ensures.items c.in_ok-add_lines.ensures c.in_ok-add_lines-2.ensures
    c.in_ok-add_lines-3.ensures
    ∙ (λ i. lines (0 ∷ 0 ∷ 0 ∷ 0 ∷ (replicate (pins_are i) (sym no_pin_is i) ++ replicate (shards_are i) 0)))
