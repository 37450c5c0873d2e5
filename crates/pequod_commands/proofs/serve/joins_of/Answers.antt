use Rattle.std.proofs.Common.{◌∙◌, map, ap, subst}
use Rattle.join_set.specs.Sets.{Joins}
use Rattle.joins_file.specs.Declarations.{IsDeclaredBy}
use Rattle.pequod_commands.proofs.FileLemmas.{joins_of_file}
use Rattle.pequod_commands.proofs.serve.joins_of.Goals as goal

pub returns-in_ok-copies-in-Joins : goal.returns-in_ok-copies-in-Joins
returns-in_ok-copies-in-Joins c =
    let by = subst (IsDeclaredBy c.args.bytes.now) c.in-Joins.is c.in_ok-standing.ensures in
    joins_of_file c.args.bytes.now by.0 _ by.1 (c.in_ok-copies-in-Joins.ensures ∙ ap (map (λ s. s.join)) (ap (λ (j : Joins). j.standing) c.joins.ensures.joins ∙ by.2.joins.standing))
