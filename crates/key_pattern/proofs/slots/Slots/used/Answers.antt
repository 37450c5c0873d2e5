use Rattle.std.proofs.Common.{◌≡◌, take, ap, ◌∙◌, sym, arith}
use Rattle.std.proofs.lemmas.List.{take_all}
use Rattle.key_pattern.specs.Places.{padded}
use Rattle.key_pattern.proofs.PlaceLemmas.{last_has, none_lent, padded_all, padded_without}
use Rattle.key_pattern.proofs.slots.Slots.used.Goals as goal
use Rattle.key_pattern.proofs.slots.Slots.used.Goals.{then-is_some, else-is_some}

pub loop-place-preserved : goal.loop-place-preserved
loop-place-preserved c =
    let given = c.args.self.now in
    elim c.if-is_some.branch [
      | then-is_some w ↦ record {
        within = omega (arith, w.used-is);
        all = ap (λ n. padded (take n given)) w.used-is;
        last = λ n e. last_has given c.loop-place.place n c.at.result c.at.ensures.text (sym c.is_some.ensures ∙ w.if-is_some.true) (sym w.used-is ∙ e);
        slots = λ _. c.at.ensures.slots;
      }
      | else-is_some w ↦ record {
        within = omega (arith, w.used-is, c.loop-place.invariant.within);
        all = ap (λ n. padded (take n given)) w.used-is ∙ c.loop-place.invariant.all
            ∙ sym (padded_without given c.loop-place.place c.at.ensures.slots.places c.loop-place-test.true
            (sym c.at.ensures.text ∙ none_lent c.at.result (sym c.is_some.ensures ∙ w.if-is_some.false)));
        last = λ n e. c.loop-place.invariant.last n (sym w.used-is ∙ e);
        slots = λ _. c.at.ensures.slots;
      }
    ]

pub returns-clause-all : goal.returns-clause-all
returns-clause-all c =
    let given = c.args.self.now in
    let all : c.loop-place.place ≡ 16 = omega arith in
    let slots = c.loop-place.invariant.slots (omega (arith, all)) in
    c.loop-place.invariant.all ∙ ap padded (ap (λ n. take n given) all ∙ take_all 16 given (omega (arith, slots.places))) ∙ padded_all given slots.places
