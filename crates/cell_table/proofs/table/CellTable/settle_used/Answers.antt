use Rattle.std.proofs.Common.{◌≡◌, ◌<◌, ◌≤◌, ℕ, List, length, get_or, ap, ◌∙◌, sym, subst, arith}
use Rattle.std.proofs.lemmas.List.{take_all}
use Rattle.std.proofs.lemmas.Grind.{get_or_default_zero}
use Rattle.cell_table.specs.Stores.{Store}
use Rattle.cell_table.specs.Moves.{settled_all}
use Rattle.cell_table.proofs.EvictLemmas.{settles_more}
use Rattle.cell_table.proofs.table.CellTable.settle_used.Goals as goal

pub returns-clause-settled : goal.returns-clause-settled
returns-clause-settled c =
    let used : length c.self.inside.used.items ≡ length c.args.self.now.holdings.used = ap (λ (t : Store). length t.holdings.used) c.self.view_is in
    let count = c.self.inside.used.ok.0 in
    let all : length c.args.self.now.holdings.used ≤ c.loop-index.index = omega arith in
    c.loop-index.invariant.settled ∙ ap (λ (ids : List ℕ). settled_all ids c.args.self.now) (take_all c.loop-index.index c.args.self.now.holdings.used all)

pub returns-clause-first : goal.returns-clause-first
returns-clause-first c = record { count = c.loop-index.index; is = c.loop-index.invariant.settled }

pub returns-clause-heavy : goal.returns-clause-heavy
returns-clause-heavy c = λ id at s one held heavy.
    let used : length c.self.inside.used.items ≡ 1 = ap length (ap (λ t. t.holdings.used) c.self.view_is ∙ one) in
    let count = c.self.inside.used.ok.0 in
    let some : 1 ≤ c.loop-index.index = omega arith in
    c.loop-index.invariant.heavy id at s some one held heavy

pub loop-index-preserved : goal.loop-index-preserved
loop-index-preserved c =
    let done = c.in_ok-settle_cell.ensures in
    let used : length c.self.inside.used.items ≡ length c.args.self.now.holdings.used = ap (λ (t : Store). length t.holdings.used) c.self.view_is in
    let test = c.loop-index-test.true in
    let len = c.len-index-end.ensures in
    let less : c.loop-index.index < length c.args.self.now.holdings.used = omega arith in
    let same = ap (λ (t : Store). t.holdings.used) c.self-in-loop-index.view_is ∙ c.loop-index.invariant.same_used in
    settles_more c.args.self.now c.loop-index.self c.settle_cell.new.self c.loop-index.index c.index-id.result.now c.loop-index.invariant less
    (c.index-id.ensures ∙ get_or_default_zero c.self-in-loop-index.inside.used.items c.loop-index.index c.index-id.result.now (subst (λ (ids : List ℕ). c.loop-index.index < length ids) (sym same) less) ∙ ap (λ (ids : List ℕ). get_or ids c.loop-index.index 0) same) done.evicts done.same_used done.same_limit done.spared done.heavy done.told done.same
