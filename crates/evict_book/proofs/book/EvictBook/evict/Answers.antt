use Rattle.std.proofs.Common.{◌<◌, ◌≤◌, reverse, ◌∙◌, arith}
use Rattle.evict_book.specs.Books.{total_weight}
use Rattle.evict_book.proofs.BookLemmas.{Evicted, evicted, evicts}
use Rattle.evict_book.proofs.book.EvictBook.evict.Goals as goal

pub overflow_sub-self : goal.overflow_sub-self
overflow_sub-self c =
    let limit = c.from.ensures in
    let test = c.loop-self-test.true in
    let above : c.loop-self.self-inside.limit < c.loop-self.self-inside.total = omega arith in
    (evicted c.loop-self.self-inside.weights c.pop_lru.new.self c.loop-self.self-inside.total c.loop-self.self-inside.cells c.loop-self.self-inside.limit (c.in-Some.field-0-0, c.in-Some.weight)
    c.loop-self.invariant.weighed above c.in-Some.ensures.value c.in-Some.ensures.entries).enough

pub loop-self-preserved : goal.loop-self-preserved
loop-self-preserved c =
    let limit = c.from.ensures in
    let test = c.loop-self-test.true in
    let above : c.loop-self.self-inside.limit < c.loop-self.self-inside.total = omega arith in
    let step : Evicted c.loop-self.self-inside.weights c.pop_lru.new.self c.loop-self.self-inside.total c.loop-self.self-inside.cells c.loop-self.self-inside.limit (c.in-Some.field-0-0, c.in-Some.weight) =
    evicted c.loop-self.self-inside.weights c.pop_lru.new.self c.loop-self.self-inside.total c.loop-self.self-inside.cells c.loop-self.self-inside.limit (c.in-Some.field-0-0, c.in-Some.weight)
    c.loop-self.invariant.weighed above c.in-Some.ensures.value c.in-Some.ensures.entries in
    record { weighed = step.weighed; left = step.left ∙ c.loop-self.invariant.left; cells = c.loop-self.invariant.cells; limit = c.loop-self.invariant.limit }

pub returns : goal.returns
returns c =
    let limit = c.from.ensures in
    let test = c.loop-self-test.false in
    let sum = c.loop-self.invariant.weighed.sum_is in
    let fits : total_weight (reverse c.loop-self.self-inside.weights.entries) ≤ c.loop-self.self-inside.limit = omega arith in
    evicts (reverse c.loop-self.self-inside.weights.entries) c.loop-self.self-inside.cells c.loop-self.self-inside.limit c.args.self.now c.loop-self.invariant.left c.loop-self.invariant.cells c.loop-self.invariant.limit fits
