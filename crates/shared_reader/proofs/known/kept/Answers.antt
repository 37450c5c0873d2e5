use Rattle.std.proofs.Common.{◌≡◌, Option, IfSome, Vec, Global, subst}
use Rattle.growing_history.specs.StateChanges.{Change}
use Rattle.base_versions.specs.Valued.{base_changes}
use Rattle.shared_reader.proofs.known.kept.Goals as goal

pub returns-in-Some : goal.returns-in-Some
returns-in-Some c = λ h found. subst (λ (o : Option (Vec Change Global)). IfSome o (λ changes. changes.items ≡ base_changes c.args.q c.args.p c.args.table h)) c.in-Some.is found
