use Rattle.std.proofs.Common.{◌≡◌, ap, ◌∙◌}
use Rattle.agg_rows.specs.Kept.{KeptGroups}
use Rattle.range_state.specs.Valued.{ValuedApplication}
use Rattle.range_state.proofs.SettingLemmas.{relisted_more, set_carried}
use Rattle.range_state.proofs.setting.list_values.Goals as goal

pub loop-application-preserved : goal.loop-application-preserved
loop-application-preserved c =
    let before = c.loop-application.invariant in
    let applying = c.args.applications.now in
    let index = c.loop-application.application-index in
    let a = c.application-item.result in
    let same_output : c.application.inside.output ≡ a.output = ap (λ (b : ValuedApplication). b.output) c.application.view_is in
    let same_source : c.application.inside.source ≡ a.source = ap (λ (b : ValuedApplication). b.source) c.application.view_is in
    let same_value = c.as_ref-value.ensures.value ∙ ap (λ (b : ValuedApplication). b.value) c.application.view_is in
    let set = set_carried a c.application.inside.output c.application.inside.source _ c.loop-application.groups.groups c.set.new.self.groups same_output same_source same_value (ap (λ (k : KeptGroups). k.groups) c.in_ok-set.ensures.ok) in
    record {
      operator = ap (λ (k : KeptGroups). k.operator) c.in_ok-set.ensures.ok ∙ before.operator;
      listed = λ key. relisted_more applying key c.args.groups.now.groups c.loop-application.groups.groups c.set.new.self.groups index a c.set_lists_pair.ensures c.set_keeps_others.ensures c.loop-application-test.true c.application-item.is set (before.listed key);
    }
