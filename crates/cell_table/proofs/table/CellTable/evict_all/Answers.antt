use Rattle.std.proofs.Common.{ℕ, ◌+◌, ◌<◌, ◌≤◌, List, sym, ap, ◌∙◌, subst, length, take, get_or, arith}
use Rattle.std.proofs.lemmas.List.{take_all, take_more}
use Rattle.semantics.proofs.MemberLemmas.{Has, contains_from_has, has_from_contains}
use Rattle.kept_ranges.proofs.PathLemmas.{has_from_take}
use Rattle.cell_table.specs.Moves.{freed_all}
use Rattle.cell_table.proofs.EvictLemmas.{evicts_of_more}
use Rattle.cell_table.proofs.table.CellTable.evict_all.Goals as goal

pub loop-victim-preserved : goal.loop-victim-preserved
loop-victim-preserved c =
    let ids = c.args.victims.now in
    let i = c.loop-victim.victim-index in
    let less : i < length ids = omega arith in
    evicts_of_more (take i ids) (take (i + 1) ids) (get_or ids i 0) c.args.self.now c.loop-victim.self c.evict_held.new.self (take_more ids i 0 less) c.loop-victim.invariant c.evict_held.ensures.evicts
    c.evict_held.ensures.others c.evict_held.ensures.gone c.evict_held.ensures.same_used c.evict_held.ensures.same_limit c.evict_held.ensures.freed c.evict_held.ensures.same

pub returns-clause-freed : goal.returns-clause-freed
returns-clause-freed c =
    let ids = c.args.victims.now in
    let all : length ids ≤ c.loop-victim.victim-index = omega arith in
    c.loop-victim.invariant.freed ∙ ap (λ (xs : List ℕ). freed_all xs c.args.self.now) (take_all c.loop-victim.victim-index ids all)

pub returns-clause-others : goal.returns-clause-others
returns-clause-others c = λ id none. c.loop-victim.invariant.others id (λ h. none (contains_from_has c.args.victims.now id (has_from_take c.loop-victim.victim-index c.args.victims.now id h)))

pub returns-clause-gone : goal.returns-clause-gone
returns-clause-gone c = λ id among held.
    let ids = c.args.victims.now in
    let all : length ids ≤ c.loop-victim.victim-index = omega arith in
    c.loop-victim.invariant.gone id (subst (λ (xs : List ℕ). Has xs id) (sym (take_all c.loop-victim.victim-index ids all)) (has_from_contains ids id among)) held
