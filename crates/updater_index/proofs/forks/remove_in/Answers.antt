use Rattle.std.proofs.Common.{◌≡◌, ℕ, ◌&&◌, not, Some, None, is_some, sym, refl, ap, ◌∙◌, subst, cond, rules}
use Rattle.semantics.specs.Texts.{Range}
use Rattle.updater_index.specs.declared.fork.Fork.{Fork}
use Rattle.updater_index.specs.declared.side.Span.{Span}
use Rattle.updater_index.specs.Forks.{fork_of}
use Rattle.updater_index.specs.Spans.{has_low, is_same}
use Rattle.updater_index.specs.Sides.{Sides, side_at, is_among, RemovesRange}
use Rattle.updater_index.proofs.SideLemmas.{IsSet, removes-from_set, removes-nothing, set_twice, left_by}
use Rattle.updater_index.proofs.forks.remove_in.Goals as goal

pub returns-in_default : goal.returns-in_default
returns-in_default c =
    let old = c.args.sides.now.entries in
    removes-nothing c.args.bounds c.args.id old c.get_mut.follows.lender-at-none.entries (ap (λ f. side_at f old) (sym c.into_parts-fork.ensures.fork) ∙ sym c.in_default.ensures.value) (ap (λ m. m.entries) c.get_mut.follows.holds-at-none)

pub returns-then-is_empty : goal.returns-then-is_empty
returns-then-is_empty c =
    let b = c.args.bounds in
    let old = c.args.sides.now.entries in
    let fork = c.into_parts-fork.ensures.fork in
    let at : Some c.in-Some.side.now ≡ side_at (fork_of b) old = c.in-Some.ensures.value ∙ ap (λ f. side_at f old) fork in
    let first = ((c.get_mut.follows.holds c.remove.new.self).3 (search rules)).0 in
    let both = set_twice c.into_parts-fork.result.0 (Some c.remove.new.self) None old (c.get_mut.follows.lender c.remove.new.self).entries c.remove-then-is_empty.new.self.entries first c.remove-then-is_empty.ensures.updates.0 in
    removes-from_set b c.args.id None old c.remove-then-is_empty.new.self.entries
    (λ r q. sym (ap (λ ss. has_low ss r q) (c.if-is_empty.ensures.0 (search rules))) ∙ left_by b c.into_parts-fork.result.1 c.into_parts-fork.result.2 c.args.id c.in-Some.side.now c.remove.new.self (side_at (fork_of b) old) c.into_parts-fork.ensures.low c.into_parts-fork.ensures.high at c.remove.ensures r q)
    (ap is_some (sym at)) (subst (λ (f : Fork). IsSet f None old c.remove-then-is_empty.new.self.entries) fork both)

pub returns : goal.returns
returns c =
    let b = c.args.bounds in
    let old = c.args.sides.now.entries in
    let new = (c.get_mut.follows.lender c.remove.new.self).entries in
    let fork = c.into_parts-fork.ensures.fork in
    let at : Some c.in-Some.side.now ≡ side_at (fork_of b) old = c.in-Some.ensures.value ∙ ap (λ f. side_at f old) fork in
    let first = ((c.get_mut.follows.holds c.remove.new.self).3 (search rules)).0 in
    removes-from_set b c.args.id (Some c.remove.new.self) old new
    (left_by b c.into_parts-fork.result.1 c.into_parts-fork.result.2 c.args.id c.in-Some.side.now c.remove.new.self (side_at (fork_of b) old) c.into_parts-fork.ensures.low c.into_parts-fork.ensures.high at c.remove.ensures)
    (ap is_some (sym at)) (subst (λ (f : Fork). IsSet f (Some c.remove.new.self) old new) fork first)
