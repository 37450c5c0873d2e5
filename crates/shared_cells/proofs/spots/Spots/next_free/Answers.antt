use Rattle.std.proofs.Common.{◌∙◌}
use Rattle.shared_cells.proofs.spots.Spots.next_free.Goals as goal

pub invariant_of-self : goal.invariant_of-self
invariant_of-self g c = c.add_number.ensures.same_history

pub returns-in_err-add_number : goal.returns-in_err-add_number
returns-in_err-add_number g c = c.add_number.ensures.same ∙ c.self.view_is

pub invariant_of-self-then-not-branch : goal.invariant_of-self-then-not-branch
invariant_of-self-then-not-branch g c = c.add_number.ensures.same_history

pub returns-then-not-branch : goal.returns-then-not-branch
returns-then-not-branch g c = c.add_number.ensures.same ∙ c.self.view_is

pub invariant_of-self-2 : goal.invariant_of-self-2
invariant_of-self-2 g c = c.add_number.ensures.same_history

pub returns : goal.returns
returns g c = c.add_number.ensures.same ∙ c.self.view_is
