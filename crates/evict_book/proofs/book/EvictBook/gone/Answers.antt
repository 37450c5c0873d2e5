use Rattle.std.proofs.Common.{◌≡◌, ℕ, ◌-◌, subst, arith, None, Some}
use Rattle.evict_book.specs.Weighed.{AreWeighed}
use Rattle.evict_book.proofs.BookLemmas.{removed, gone_book}
use Rattle.evict_book.proofs.book.EvictBook.gone.Goals as goal

pub overflow_sub-self : goal.overflow_sub-self
overflow_sub-self c = (removed c.self.inside.weights c.pop.new.self c.self.inside.total c.self.inside.cells c.args.id (Some c.in-Some.weight) c.self.invariant c.in-Some.ensures.value c.pop.ensures.entries).enough

pub invariant_of-self : goal.invariant_of-self
invariant_of-self c = (removed c.self.inside.weights c.pop.new.self c.self.inside.total c.self.inside.cells c.args.id (Some c.in-Some.weight) c.self.invariant c.in-Some.ensures.value c.pop.ensures.entries).weighed

-- a number without 0
zero_less : (n : ℕ) → n - 0 ≡ n
zero_less n = omega arith

pub invariant_of-self-in_default : goal.invariant_of-self-in_default
invariant_of-self-in_default c =
    subst (λ n. AreWeighed c.pop.new.self n c.self.inside.cells) (zero_less c.self.inside.total)
    (removed c.self.inside.weights c.pop.new.self c.self.inside.total c.self.inside.cells c.args.id None c.self.invariant c.in_default.ensures.value c.pop.ensures.entries).weighed

pub returns-in-Some : goal.returns-in-Some
returns-in-Some c =
    gone_book c.self.inside.weights c.pop.new.self c.self.inside.cells c.self.inside.limit c.args.id c.args.self.now
    (removed c.self.inside.weights c.pop.new.self c.self.inside.total c.self.inside.cells c.args.id (Some c.in-Some.weight) c.self.invariant c.in-Some.ensures.value c.pop.ensures.entries).used c.self.view_is

pub returns-in_default : goal.returns-in_default
returns-in_default c =
    gone_book c.self.inside.weights c.pop.new.self c.self.inside.cells c.self.inside.limit c.args.id c.args.self.now
    (removed c.self.inside.weights c.pop.new.self c.self.inside.total c.self.inside.cells c.args.id None c.self.invariant c.in_default.ensures.value c.pop.ensures.entries).used c.self.view_is
