use Rattle.std.proofs.Common.{List, ap, ◌∙◌}
use Rattle.std.proofs.lemmas.Result.{on_ok_weaker}
use Rattle.semantics.specs.Texts.{Text, value_at}
use Rattle.join_rows.specs.Kept.{KeptRows}
use Rattle.range_state.specs.Setting.{remade}
use Rattle.range_state.specs.Valued.{all_unvalued}
use Rattle.range_state.proofs.SettingLemmas.{are_outputs, remade_applied, remade_others, ascending-remade}
use Rattle.range_state.proofs.setting.remake_rows.Goals as goal

pub returns-clause-made : goal.returns-clause-made
returns-clause-made c =
    let outputs = c.in_ok-outputs.outputs.items in
    let same = are_outputs c.args.applications.now c.in_ok-outputs_of.field-0.items outputs c.in_ok-outputs_of.ensures c.in_ok-outputs.ensures.same in
    on_ok_weaker c.remake_each.result
    (λ is key applied.
    ap (λ (r : KeptRows). value_at key r.pairs) is ∙ ap (λ (l : List Text). value_at key (remade c.args.groups.now l c.args.rows.now.pairs)) c.as_slice.ensures.value
    ∙ remade_applied key c.args.groups.now (all_unvalued c.args.applications.now) outputs c.args.rows.now.pairs same applied)
    c.remake_each.ensures

pub returns-clause-others : goal.returns-clause-others
returns-clause-others c =
    let outputs = c.in_ok-outputs.outputs.items in
    let same = are_outputs c.args.applications.now c.in_ok-outputs_of.field-0.items outputs c.in_ok-outputs_of.ensures c.in_ok-outputs.ensures.same in
    on_ok_weaker c.remake_each.result
    (λ is key none.
    ap (λ (r : KeptRows). value_at key r.pairs) is ∙ ap (λ (l : List Text). value_at key (remade c.args.groups.now l c.args.rows.now.pairs)) c.as_slice.ensures.value
    ∙ remade_others key c.args.groups.now (all_unvalued c.args.applications.now) outputs c.args.rows.now.pairs same none)
    c.remake_each.ensures

pub returns-clause-ascending : goal.returns-clause-ascending
returns-clause-ascending c =
    on_ok_weaker c.remake_each.result
    (λ is. rw is (ascending-remade c.args.groups.now c.as_slice.result.now c.args.rows.now.pairs c.len-ascending.ensures.ascending))
    c.remake_each.ensures
