use Rattle.std.proofs.Common.{◌≡◌, ◌<◌, ◌≤◌, ◌+◌, length, arith, ap, sym, ◌∙◌, ◌++◌, ◌∷◌, [], take, drop, ◌-◌}
use Rattle.write_history.proofs.Lists.{range_more}
use Rattle.write_history.proofs.entry_list.EntryList.copy.Goals as goal

pub loop-place-preserved : goal.loop-place-preserved
loop-place-preserved c =
    let es = c.args.self.now.entries in
    let lacks = c.args.self.now.lacks in
    let x = c.get.result.now in
    let place = c.loop-place.place in
    let kept = c.requires.kept in
    let short : place - lacks < length es = let w = c.requires.within in omega arith in
    let next : place - lacks + 1 - (c.args.from - lacks) ≡ place + 1 - c.args.from = omega arith in
    let now : place - lacks - (c.args.from - lacks) ≡ place - c.args.from = omega arith in
    c.in_ok-push.ensures.items
    ∙ ap (λ list. list ++ c.in_ok-copy.field-0 ∷ []) c.loop-place.invariant
    ∙ ap (λ y. take (place - c.args.from) (drop (c.args.from - lacks) es) ++ y ∷ []) c.in_ok-copy.ensures
    ∙ sym (ap (λ n. take n (drop (c.args.from - lacks) es)) (sym next) ∙ range_more es (c.args.from - lacks) (place - lacks) x (omega arith) short c.get.ensures ∙ ap (λ n. take n (drop (c.args.from - lacks) es) ++ x ∷ []) now)
