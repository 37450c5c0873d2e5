use Rattle.std.proofs.Common.{◌≡◌, ◌≤◌, length, is_some, true, Option, None, Some, subst}
use Rattle.std.specs.Option.{IsSomeAnd}
use Rattle.semantics.specs.Texts.{Text, Range, within}
use Rattle.semantics.specs.Patterns.{Pattern, Slots, bind}
use Rattle.join_rows.specs.Leaves.{all_rows}
use Rattle.join_rows.proofs.DropLemmas.{stay_before, stay_behind, stay_all}
use Rattle.join_rows.proofs.packed.span_fitting.Goals as goal

-- what is found holds each key of at most 512 bytes that fits
HoldsAll : Pattern → Slots → Option Range → Type 0
HoldsAll pattern slots found = (key : Text) → length key ≤ 512 → is_some (bind pattern key slots) ≡ true → IsSomeAnd found (λ r. within r key ≡ true)

pub returns-in-Ok-None-clause-behind : goal.returns-in-Ok-None-clause-behind
unfolding HoldsAll
returns-in-Ok-None-clause-behind c =
    let fits = λ (key : Text). is_some (bind c.args.pattern.now key c.args.slots.now) in
    let holds = subst (HoldsAll c.args.pattern.now c.args.slots.now) c.in-Ok-None.field-0-is c.in-Ok-None.ensures.holds in
    stay_all fits (all_rows c.args.leaves.now) holds c.requires.rows.each

pub returns-in-Ok-Some-clause-before : goal.returns-in-Ok-Some-clause-before
unfolding HoldsAll
returns-in-Ok-Some-clause-before c =
    let fits = λ (key : Text). is_some (bind c.args.pattern.now key c.args.slots.now) in
    let holds = subst (HoldsAll c.args.pattern.now c.args.slots.now) c.in-Ok-Some.field-0-is c.in-Ok-Some.ensures.holds in
    stay_before fits c.in-Ok-Some.range c.args.leaves.now c.span_of.result.from c.requires holds c.span_of.ensures.below

pub returns-in-Ok-Some-clause-behind : goal.returns-in-Ok-Some-clause-behind
unfolding HoldsAll
returns-in-Ok-Some-clause-behind c =
    let fits = λ (key : Text). is_some (bind c.args.pattern.now key c.args.slots.now) in
    let holds = subst (HoldsAll c.args.pattern.now c.args.slots.now) c.in-Ok-Some.field-0-is c.in-Ok-Some.ensures.holds in
    stay_behind fits c.in-Ok-Some.range c.args.leaves.now c.span_of.result.to c.requires holds c.span_of.ensures.above
