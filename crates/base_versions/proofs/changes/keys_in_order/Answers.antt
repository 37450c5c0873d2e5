use Rattle.std.proofs.Common.{◌≡◌, ℕ, ◌+◌, ◌-◌, ◌<◌, ◌≤◌, List, length, take, drop, get_or, sym, ap, ◌∙◌, true, false, arith}
use Rattle.std.proofs.lemmas.List.{get_or-drop, length-drop}
use Rattle.base_versions.specs.declared.changes.Change.{Change}
use Rattle.base_versions.proofs.OrderLemmas.{in_order-take}
use Rattle.base_versions.proofs.changes.keys_in_order.Goals as goal
use Rattle.base_versions.proofs.changes.keys_in_order.Goals.{then-contains+in_ok-copy+in_ok-insert, else-contains}

-- a change that stands in a queue stands among those that are left of it
left_at : (cs : List Change) (first place : ℕ) (c : Change) → first ≤ place → c ≡ get_or cs place c → c ≡ get_or (drop first cs) (place - first) c
left_at cs first place c order is =
    let same : place ≡ first + (place - first) = omega arith in
    is ∙ ap (λ n. get_or cs n c) same ∙ sym (get_or-drop first cs (place - first) c)

left_within : (cs : List Change) (first place last : ℕ) → first ≤ place → place < last → last ≤ length cs → place - first < length (drop first cs)
left_within cs first place last order less within = omega (arith, length-drop first cs)

next_place : (cs : List Change) (first place : ℕ) → first ≤ place → take (place + 1 - first) (drop first cs) ≡ take (place - first + 1) (drop first cs)
next_place cs first place order = let same : place + 1 - first ≡ place - first + 1 = omega arith in ap (λ n. take n (drop first cs)) same

pub loop-place-preserved : goal.loop-place-preserved
loop-place-preserved c =
    let cs = c.args.changes.now.items in
    let first = c.args.first in
    let place = c.loop-place.place in
    let change = c.index-change.result.now in
    let order = c.loop-place.auto.place in
    let at = left_at cs first place change (omega (arith, order)) c.index-change.ensures in
    let less = left_within cs first place c.args.last (omega (arith, order)) c.loop-place-test.true c.requires.within in
    let next = next_place cs first place (omega (arith, order)) in
    elim c.if-contains.branch [
      | then-contains+in_ok-copy+in_ok-insert w ↦
          let here = in_order-take c.args.range.now (drop first cs) (place - first) change true less at (sym w.if-contains.true ∙ c.contains.ensures) in
          let key = w.in_ok-copy.ensures in
          let keys = w.in_ok-insert.ensures.keys in
          cc
      | else-contains w ↦
          let here = in_order-take c.args.range.now (drop first cs) (place - first) change false less at (sym w.if-contains.false ∙ c.contains.ensures) in
          cc
    ]
