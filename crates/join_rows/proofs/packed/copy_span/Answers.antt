use Rattle.std.proofs.Common.{◌≡◌, ◌-◌, ◌<◌, length, ◌∷◌, ◌++◌, [], take, drop, sym, ap, ◌∙◌, arith}
use Rattle.std.proofs.lemmas.List.{append-nil, append_assoc}
use Rattle.semantics.specs.Texts.{Text, Table}
use Rattle.join_rows.specs.Found.{row_at}
use Rattle.join_rows.proofs.WithinLemmas.{span_more}
use Rattle.join_rows.proofs.packed.copy_span.Goals as goal

pub loop-place-init : goal.loop-place-init
loop-place-init c =
    let pairs : Table = c.args.pairs.now.items in
    let leaf : Table = c.args.leaf.now in
    let from = c.span-span.result.from in
    let none : from - from ≡ 0 = omega arith in record {
      pairs = c.reserve.ensures.items ∙ sym (ap (λ n. pairs ++ take n (drop from leaf)) none ∙ append-nil pairs);
      order = omega arith;
      inside = omega arith;
    }

pub loop-place-preserved : goal.loop-place-preserved
loop-place-preserved c =
    let pairs : Table = c.args.pairs.now.items in
    let leaf : Table = c.args.leaf.now in
    let from = c.span-span.result.from in
    let place = c.loop-place.place in
    let pair : Text × Text = c.in_ok-pair.field-0 in
    let within : place < length leaf = omega (arith, c.span-span.ensures.inside) in record {
      pairs = c.in_ok-push.ensures.items ∙ ap (λ (t : Table). t ++ pair ∷ []) c.loop-place.invariant.pairs ∙ append_assoc pairs (take (place - from) (drop from leaf)) (pair ∷ [])
          ∙ ap (λ (r : Text × Text). pairs ++ (take (place - from) (drop from leaf) ++ r ∷ [])) c.in_ok-pair.ensures
          ∙ ap (λ (t : Table). pairs ++ t) (sym (span_more leaf from place c.loop-place.invariant.order within));
      order = omega arith;
      inside = omega arith;
    }

pub returns : goal.returns
returns c =
    let pairs : Table = c.args.pairs.now.items in
    let leaf : Table = c.args.leaf.now in
    let from = c.span-span.result.from in
    let all : c.loop-place.place - from ≡ c.span-span.result.to - from = omega arith in
    c.loop-place.invariant.pairs ∙ ap (λ n. pairs ++ take n (drop from leaf)) all ∙ ap (λ (t : Table). pairs ++ t) c.span-span.ensures.rows
