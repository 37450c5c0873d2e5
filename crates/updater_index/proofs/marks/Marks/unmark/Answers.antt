use Rattle.std.proofs.Common.{◌≡◌, ◌<◌, not, ◌==◌, List, ℕ, length, sym, ap, ◌∙◌, arith, rules}
use Rattle.std.proofs.lemmas.Fn.{filter_same}
use Rattle.updater_index.specs.Registered.{has_id, without_mark}
use Rattle.updater_index.proofs.MarkLemmas.{queued_below, queued_without, without_none}
use Rattle.updater_index.proofs.marks.Marks.unmark.Goals as goal

kept : (c : goal.After-self-1) → c.retain.new.self.items ≡ without_mark c.args.id c.self.inside.queue.items
kept c = filter_same _ (λ (x : ℕ). not (c.args.id == x)) _ (λ x b f' t. search rules) c.self.inside.queue.items c.retain.new.self.items c.retain.ensures.filtered

tested : (c : goal.After-self-1) → c.args.id < length c.self.inside.queued.items
tested c =
    queued_below c.self.inside.queued.items c.self.inside.queue.items c.args.id c.self.invariant
    (ap (λ (ids : List ℕ). has_id ids c.args.id) c.self.view_is ∙ sym c.is_marked.ensures ∙ c.if-is_marked.true)

pub index_mut-requires : goal.index_mut-requires
index_mut-requires c =
    let below =
    queued_below c.self.inside.queued.items c.self.inside.queue.items c.args.id c.self.invariant
    (ap (λ (ids : List ℕ). has_id ids c.args.id) c.self.view_is ∙ sym c.is_marked.ensures ∙ c.if-is_marked.true) in
    omega (arith, below, c.self.inside.queued.ok)

pub invariant_of-self : goal.invariant_of-self
invariant_of-self c = queued_without c.self.inside.queued.items c.self.inside.queue.items c.retain.new.self.items c.args.id (tested c) (kept c) c.self.invariant

pub returns-then-is_marked : goal.returns-then-is_marked
returns-then-is_marked c = kept c ∙ ap (without_mark c.args.id) c.self.view_is

pub returns-else-is_marked : goal.returns-else-is_marked
returns-else-is_marked c = sym (without_none c.args.id c.args.self.now (sym c.is_marked.ensures ∙ c.if-is_marked.false))
