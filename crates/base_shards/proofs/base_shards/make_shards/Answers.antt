use Rattle.std.proofs.Common.{◌≡◌, All, length, ap, subst, arith}
use Rattle.std.proofs.lemmas.List.Elements.{All-head, All-tail}
use Rattle.write_history.specs.Passes.{PassView}
use Rattle.write_history.specs.declared.known.Mark.TheVariants.{Noted}
use Rattle.base_shards.proofs.base_shards.make_shards.Goals as goal

pub new-requires-clause-number : goal.new-requires-clause-number
new-requires-clause-number g c =
    let rest = ap length c.in-Some.ensures.steps.0 in
    let count = c.loop-pass.invariant.2 in
    omega (arith, rest, count)

pub new-requires-clause-same_history : goal.new-requires-clause-same_history
new-requires-clause-same_history g c =
    All-head (λ (pass : PassView). pass.history ≡ g.N.Naming.history) c.in-Some.pass _ (subst (All (λ (pass : PassView). pass.history ≡ g.N.Naming.history)) c.in-Some.ensures.steps.0 c.loop-pass.invariant.4)

pub new-requires-clause-noted : goal.new-requires-clause-noted
new-requires-clause-noted g c =
    All-head (λ (pass : PassView). pass.mark ≡ Noted 0) c.in-Some.pass _ (subst (All (λ (pass : PassView). pass.mark ≡ Noted 0)) c.in-Some.ensures.steps.0 c.loop-pass.invariant.5)

pub loop-pass-preserved : goal.loop-pass-preserved
loop-pass-preserved g c =
    let rest = ap length c.in-Some.ensures.steps.0 in
    let count = c.loop-pass.invariant.2 in (
      tt,
      tt,
      omega (arith, rest, count),
      omega (arith, c.in_ok-push.ensures.len, c.loop-pass.invariant.3),
      All-tail (λ (pass : PassView). pass.history ≡ g.N.Naming.history) c.in-Some.pass _ (subst (All (λ (pass : PassView). pass.history ≡ g.N.Naming.history)) c.in-Some.ensures.steps.0 c.loop-pass.invariant.4),
      All-tail (λ (pass : PassView). pass.mark ≡ Noted 0) c.in-Some.pass _ (subst (All (λ (pass : PassView). pass.mark ≡ Noted 0)) c.in-Some.ensures.steps.0 c.loop-pass.invariant.5),
    )
