use Rattle.std.proofs.Common.{◌≡◌, IfOk, IfSome, subst}
use Rattle.base_versions.specs.Valued.{base_changes}
use Rattle.shared_reader.proofs.known.known_of.Goals as goal

pub returns-in-Ok : goal.returns-in-Ok
returns-in-Ok c = λ h found. c.kept.ensures h (subst (λ r. IfOk r (λ some. IfSome some (λ changes. changes.items ≡ base_changes c.args.q c.args.p c.args.table h))) c.in-Ok.is found)
