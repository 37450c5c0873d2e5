use Rattle.std.proofs.Common.{◌∙◌, ap, is_some}
use Rattle.semantics.specs.Histories.{is_computed}
use Rattle.join_set.specs.Sets.{Joins}
use Rattle.join_set.proofs.OwnerLemmas.{is_some-owner_of}
use Rattle.join_set.proofs.set.JoinSet.owner.Goals as goal

pub returns-clause-computed : goal.returns-clause-computed
returns-clause-computed c =
    ap (λ o. is_some o) c.owner.ensures ∙ is_some-owner_of c.args.key.now c.as_slice.result.now
    ∙ ap (λ js. is_computed js c.args.key.now) (c.as_slice.ensures.value ∙ ap (λ (s : Joins). s.standing) c.self.view_is)
