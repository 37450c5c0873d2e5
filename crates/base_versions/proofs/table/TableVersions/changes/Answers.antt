use Rattle.std.proofs.Common.{List, sym, subst}
use Rattle.std.proofs.lemmas.Result.{IfOk-weaker}
use Rattle.semantics.specs.Texts.{Text}
use Rattle.base_versions.specs.Kept.{FindsChanged}
use Rattle.base_versions.proofs.table.TableVersions.changes.Goals as goal

pub returns-clause-keys : goal.returns-clause-keys
returns-clause-keys c = λ ascend.
    IfOk-weaker c.with_values.result _ _
    (λ found is. subst (λ (ks : List Text). FindsChanged c.args.q c.args.p c.args.range.now c.args.self.now ks) (sym is) (c.in_ok-keys.ensures ascend)) c.with_values.ensures.keys
