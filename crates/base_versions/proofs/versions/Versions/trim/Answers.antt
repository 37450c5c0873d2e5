use Rattle.std.proofs.Common.{List, sym, subst}
use Rattle.base_versions.specs.declared.versions.Version.{Version}
use Rattle.base_versions.specs.Versions.{TrimsTo}
use Rattle.base_versions.proofs.versions.Versions.trim.Goals as goal

pub returns-then-is_spent : goal.returns-then-is_spent
returns-then-is_spent c = λ a.
    subst (λ (vs : List Version). TrimsTo c.args.to c.args.self.now vs) (sym c.clear.ensures) (c.is_spent.ensures c.if-is_spent.true a)
