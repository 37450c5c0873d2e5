use Rattle.std.proofs.Common.{◌≡◌, List, ◌∷◌, Bool, refl, sym, ap, ◌∙◌, subst}
use Rattle.semantics.specs.Texts.{Text}
use Rattle.base_versions.specs.declared.changes.Change.{Change}
use Rattle.base_versions.specs.Named.{named}
use Rattle.base_versions.specs.Groups.{group_of, Groups, ByGroup, AreGrouped, LosesFirst}
use Rattle.base_versions.proofs.GroupedLemmas.{grouped-first}
use Rattle.base_versions.proofs.groups.ChangesByGroup.take_first.Goals as goal

-- without its first change the group has those of the rest
lost : (first : Change) (changes : List Change) (name key : Text) (view : ByGroup) (kept : Bool) (old new : Groups) → record { kept = kept; queues = old } ≡ view → name ≡ group_of key → first.key ≡ key → LosesFirst name old new →
    AreGrouped view (first ∷ changes) → AreGrouped (record { kept = kept; queues = new }) changes
lost first changes name key view kept old new is named_by at loses h =
    grouped-first first changes (record { kept = kept; queues = old }) (record { kept = kept; queues = new }) refl
    (subst (λ (n : Text). LosesFirst n old new) (named_by ∙ ap group_of (sym at)) loses)
    (subst (λ (g : ByGroup). AreGrouped g (first ∷ changes)) (sym is) h)

pub returns-then-lose_first : goal.returns-then-lose_first
returns-then-lose_first c = λ first changes at h kept group.
    c.remove_group.ensures.same group
    ∙ lost first changes c.group_of-group.result.now c.args.key.now c.args.self.now c.self.inside.kept (named c.self.inside.queues.entries) (named c.lose_first.new.queues.entries) c.self.view_is
    (c.group_of-group.ensures ∙ ap group_of c.text.ensures.text) at c.lose_first.ensures.loses h kept group

pub returns-else-lose_first : goal.returns-else-lose_first
returns-else-lose_first c = λ first changes at h.
    lost first changes c.group_of-group.result.now c.args.key.now c.args.self.now c.self.inside.kept (named c.self.inside.queues.entries) (named c.lose_first.new.queues.entries) c.self.view_is
    (c.group_of-group.ensures ∙ ap group_of c.text.ensures.text) at c.lose_first.ensures.loses h

pub invariant_of-self : goal.invariant_of-self
invariant_of-self c = c.remove_group.ensures.gone (c.lose_first.ensures.others c.self.invariant)

pub invariant_of-self-else-lose_first : goal.invariant_of-self-else-lose_first
invariant_of-self-else-lose_first c = c.lose_first.ensures.some c.if-lose_first.false c.self.invariant
