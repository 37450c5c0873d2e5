use Rattle.std.proofs.Common.{◌≡◌, ◌∙◌, ap, inl}
use Rattle.base_versions.specs.Changes.{changed_in}
use Rattle.base_versions.specs.Kept.{TableKept}
use Rattle.base_versions.proofs.GroupedLemmas.{found_by_changes}
use Rattle.base_versions.proofs.table.TableVersions.few_changed.Goals as goal

pub returns-in_default : goal.returns-in_default
returns-in_default c = λ ascend. inl (c.new.ensures.items ∙ c.in_default.ensures.none.changed c.args.q c.args.p ∙ ap (λ (t : TableKept). changed_in c.args.q c.args.p c.args.range.now t.changes) c.self.view_is)

pub returns : goal.returns
returns c = λ ascend.
    let is : c.self.inside.changes.items ≡ c.args.self.now.changes = ap (λ (t : TableKept). t.changes) c.self.view_is in
    found_by_changes c.args.q c.args.p c.args.range.now c.args.self.now c.self.inside.changes.items c.in-Some.changes.now.items _ c.in_ok-keys.keys.items is c.in-Some.ensures.some ascend c.between-first.ensures.exact c.in_ok-keys.ensures
