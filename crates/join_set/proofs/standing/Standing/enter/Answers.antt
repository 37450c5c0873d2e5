use Rattle.std.proofs.Common.{◌++◌, ◌∷◌, [], sym, subst}
use Rattle.std.proofs.lemmas.Result.{on_ok_weaker}
use Rattle.join_types.specs.Writes.{plain_write}
use Rattle.join_set.specs.Summaries.{Summary, StandsFor}
use Rattle.join_set.proofs.SummaryLemmas.{StandsFor-push}
use Rattle.join_set.proofs.standing.Standing.enter.Goals as goal

pub returns-clause-history : goal.returns-clause-history
returns-clause-history c =
    on_ok_weaker c.take.result
    (λ e h client s. subst (λ (t : Summary). StandsFor t (h ++ record { client = client; write = plain_write c.args.write.now } ∷ [])) (sym e) (StandsFor-push c.args.self.now h client (plain_write c.args.write.now) s c.requires)) c.take.ensures.ok
