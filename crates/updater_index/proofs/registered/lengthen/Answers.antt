use Rattle.std.proofs.Common.{◌≡◌, ◌+◌, ◌≤◌, [], ◌∷◌, ◌++◌, List, length, ap, ◌∙◌, subst, arith, length-append}
use Rattle.semantics.specs.Texts.{Range}
use Rattle.updater_index.specs.Registered.{Held, filled}
use Rattle.updater_index.proofs.FilledLemmas.{filled-more}
use Rattle.updater_index.proofs.registered.lengthen.Goals as goal

pub loop-place-preserved : goal.loop-place-preserved
loop-place-preserved c =
    let held : Held = c.loop-place.by_id.items in
    let is : c.push.new.self.items ≡ held ++ [] ∷ [] = c.in_ok-push.ensures.items ∙ ap (λ (rs : List Range). held ++ rs ∷ []) c.new.ensures in
    let size : length (held ++ [] ∷ []) ≡ length held + 1 = length-append held ([] ∷ []) in
    record {
      long = omega (arith, ap length is, size, c.loop-place.invariant.long);
      upto = omega (arith, c.loop-place-test.true, c.loop-place.invariant.upto);
      same = λ ids h.
          let within : length (held ++ [] ∷ []) ≤ ids = omega (arith, ap length is, h) in
          ap (filled ids) is ∙ filled-more ids held within ∙ c.loop-place.invariant.same ids (omega (arith, size, within));
    }

pub returns-in_err-push-clause-same : goal.returns-in_err-push-clause-same
returns-in_err-push-clause-same c = λ ids h.
    ap (filled ids) c.in_err-push.ensures.items ∙ c.loop-place.invariant.same ids (subst (λ (held : Held). length held ≤ ids) c.in_err-push.ensures.items h)

pub returns-in_err-push-clause-upto : goal.returns-in_err-push-clause-upto
returns-in_err-push-clause-upto c = omega (arith, ap length c.in_err-push.ensures.items, c.loop-place.invariant.long, c.loop-place.invariant.upto)
