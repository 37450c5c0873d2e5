use Rattle.std.proofs.Common.{None, Some, arith}
use Rattle.evict_book.proofs.BookLemmas.{others}
use Rattle.evict_book.proofs.book.EvictBook.total_without.Goals as goal

pub overflow_sub-result : goal.overflow_sub-result
overflow_sub-result c = (others c.self.inside.weights c.self.inside.total c.self.inside.cells c.self.inside.limit c.args.id c.args.self.now (Some c.in-Some.weight.now) c.self.invariant c.self.view_is c.in-Some.ensures).enough

pub returns-in-Some-clause-total : goal.returns-in-Some-clause-total
returns-in-Some-clause-total c = (others c.self.inside.weights c.self.inside.total c.self.inside.cells c.self.inside.limit c.args.id c.args.self.now (Some c.in-Some.weight.now) c.self.invariant c.self.view_is c.in-Some.ensures).total_is

pub returns-in-Some-clause-bound : goal.returns-in-Some-clause-bound
returns-in-Some-clause-bound c = (others c.self.inside.weights c.self.inside.total c.self.inside.cells c.self.inside.limit c.args.id c.args.self.now (Some c.in-Some.weight.now) c.self.invariant c.self.view_is c.in-Some.ensures).bound

pub returns-in-None-clause-total : goal.returns-in-None-clause-total
returns-in-None-clause-total c =
    let all = (others c.self.inside.weights c.self.inside.total c.self.inside.cells c.self.inside.limit c.args.id c.args.self.now None c.self.invariant c.self.view_is c.in-None.ensures).total_is in
    omega arith

pub returns-in-None-clause-bound : goal.returns-in-None-clause-bound
returns-in-None-clause-bound c =
    let all = (others c.self.inside.weights c.self.inside.total c.self.inside.cells c.self.inside.limit c.args.id c.args.self.now None c.self.invariant c.self.view_is c.in-None.ensures).bound in
    omega arith
