use Rattle.std.proofs.Common.{List, sym, subst}
use Rattle.semantics.specs.Texts.{Text}
use Rattle.base_versions.specs.Kept.{FindsChanged}
use Rattle.base_versions.proofs.table.TableVersions.few_changes.Goals as goal

pub returns-clause-keys : goal.returns-clause-keys
returns-clause-keys c = λ ascend.
    let few = rw c.in-Some.is at (c.in_ok-keys.ensures ascend) in
    subst (λ (ks : List Text). FindsChanged c.args.q c.args.p c.args.range.now c.args.self.now ks) (sym c.in_ok-found.ensures.keys) few
