use Rattle.std.proofs.Common.{◌≡◌, set, List, ℕ, true, false, get_or, refl, sym, ap, ◌∙◌, subst}
use Rattle.updater_index.specs.Registered.{has_id}
use Rattle.updater_index.specs.Marked.{AreQueued}
use Rattle.updater_index.proofs.MarkLemmas.{queued_push, queued_same}
use Rattle.updater_index.proofs.marks.Marks.mark.Goals as goal

pub invariant_of-self : goal.invariant_of-self
invariant_of-self c = queued_same c.self.inside.queued.items c.reach.new.queued.items c.self.inside.queue.items c.self.inside.queue.items c.reach.ensures.same refl c.self.invariant

pub invariant_of-self-in_err-push_back : goal.invariant_of-self-in_err-push_back
invariant_of-self-in_err-push_back c =
    queued_same c.self.inside.queued.items c.reach.new.queued.items c.self.inside.queue.items c.push_back.new.self.items c.reach.ensures.same c.in_err-push_back.ensures.items c.self.invariant

pub invariant_of-self-2 : goal.invariant_of-self-2
invariant_of-self-2 c =
    let tests = c.reach.new.queued.items in
    let ids = c.self.inside.queue.items in
    let queued : AreQueued tests ids = queued_same c.self.inside.queued.items tests ids ids c.reach.ensures.same refl c.self.invariant in
    let none : get_or tests c.args.id false ≡ false = queued.agrees c.args.id ∙ ap (λ (l : List ℕ). has_id l c.args.id) c.self.view_is ∙ sym c.is_marked.ensures ∙ c.if-is_marked.false in
    subst (λ (l : List ℕ). AreQueued (set tests c.args.id true) l) (sym {A = List ℕ} c.in_ok-push_back.ensures.items) (queued_push tests ids c.args.id c.in_ok-reach.ensures.reached none queued)
