use Rattle.std.proofs.Common.{◌≡◌, true, false, not, sym, ◌∙◌, string_bytes}
use Rattle.semantics.specs.Texts.{same}
use Rattle.range_set.proofs.StoredLemmas.{removes_none, removes_no_other, removes, Removed}
use Rattle.range_set.proofs.range_set.RangeSet.remove.Given as given
use Rattle.range_set.proofs.range_set.RangeSet.remove.Goals as goal

pub returns-in_default-clause-item : goal.returns-in_default-clause-item
returns-in_default-clause-item g c =
    (removes_none string_bytes c.args.range.now c.args.self.now c.self.inside.ranges.entries c.lo.result.now c.lo.ensures.text c.self.invariant c.self.view_is c.in_default.ensures.value).0

pub returns-in_default-clause-left : goal.returns-in_default-clause-left
returns-in_default-clause-left g c =
    (removes_none string_bytes c.args.range.now c.args.self.now c.self.inside.ranges.entries c.lo.result.now c.lo.ensures.text c.self.invariant c.self.view_is c.in_default.ensures.value).1

pub returns-then-ne-clause-item : goal.returns-then-ne-clause-item
returns-then-ne-clause-item g c =
    let differ : not (same c.hi.result.now c.hi-2.result.now) ≡ true = sym c.ne.ensures ∙ c.if-ne.true in
    (removes_no_other string_bytes c.args.range.now c.args.self.now c.self.inside.ranges.entries c.in-Some.held.now c.lo.result.now c.hi.result.now c.hi-2.result.now
    c.lo.ensures.text c.hi.ensures c.hi-2.ensures c.self.invariant c.self.view_is c.in-Some.ensures.value differ).0

pub returns-then-ne-clause-left : goal.returns-then-ne-clause-left
returns-then-ne-clause-left g c =
    let differ : not (same c.hi.result.now c.hi-2.result.now) ≡ true = sym c.ne.ensures ∙ c.if-ne.true in
    (removes_no_other string_bytes c.args.range.now c.args.self.now c.self.inside.ranges.entries c.in-Some.held.now c.lo.result.now c.hi.result.now c.hi-2.result.now
    c.lo.ensures.text c.hi.ensures c.hi-2.ensures c.self.invariant c.self.view_is c.in-Some.ensures.value differ).1

-- what is left, and the item
taken : (g : given.Over) (c : goal.Joined-remove g) → Removed string_bytes c.args.range.now c.args.self.now c.in-Some.held.now.1 c.remove.new.self.entries
taken g c =
    let agree : not (same c.hi.result.now c.hi-2.result.now) ≡ false = sym c.ne.ensures ∙ c.if-ne.false in
    removes string_bytes c.args.range.now c.args.self.now c.self.inside.ranges.entries c.remove.new.self.entries c.in-Some.held.now c.lo.result.now c.lo-2.result.now c.hi.result.now c.hi-2.result.now
    c.lo.ensures.text c.lo-2.ensures.text c.hi.ensures c.hi-2.ensures c.self.invariant c.self.view_is c.in-Some.ensures.value agree c.remove.ensures.entries

pub invariant_of-self : goal.invariant_of-self
invariant_of-self g c = (taken g c).stored

pub returns-clause-item : goal.returns-clause-item
returns-clause-item g c = (taken g c).item_is

pub returns-clause-left : goal.returns-clause-left
returns-clause-left g c = (taken g c).left_is
