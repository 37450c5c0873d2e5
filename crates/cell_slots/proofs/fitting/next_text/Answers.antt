use Rattle.std.proofs.Common.{◌≡◌, ◌++◌, sym, ◌∙◌, arith}
use Rattle.std.proofs.lemmas.List.{take-append-drop}
use Rattle.key_pattern.specs.Plain.{plain_segments}
use Rattle.cell_slots.proofs.FittingLemmas.{next_splits}
use Rattle.cell_slots.proofs.fitting.next_text.Goals as goal

pub returns : goal.returns
returns c =
    let end = c.in_ok-slot.slot in
    let text = c.in_ok-text.text.now in
    let behind = c.in_ok-text.behind.now in
    let whole : end.rest.now ≡ text ++ behind = sym (take-append-drop end.width end.rest.now) ∙ (λ i. sym c.in_ok-text.ensures.front i ++ sym c.in_ok-text.ensures.back i) in (
      omega arith,
      next_splits (plain_segments c.args.output.now) c.args.bound.now text behind c.in_ok-front.front.now end c.in_ok-last.last c.in_ok-after.after c.saturating_sub-cut.result c.in_ok-slot.ensures whole c.in_ok-text.ensures.front_len
          c.in_ok-last.ensures c.in_ok-after.ensures (sym c.is_above.ensures ∙ c.if-not-is_above.false) (omega arith) c.in_ok-front.ensures.front,
    )
