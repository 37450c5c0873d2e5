use Rattle.std.proofs.Common.{◌≡◌, codes, sym, subst, rules}
use Rattle.semantics.specs.Texts.{Text, table_of}
use Rattle.cell_table.specs.Stores.{AreOfTable}
use Rattle.cell_table.proofs.CellLemmas.{reserved_stay_of_table}
use Rattle.range_trials.proofs.cells.cover.Goals as goal

pub cover-requires : goal.cover-requires
cover-requires g c =
    let here : table_of c.read_range-range.result.low ≡ codes "t" = search rules in
    subst (λ (name : Text). AreOfTable c.args.table.now.holdings.slots 1 name) (sym here) c.requires

pub returns-in_err-parts : goal.returns-in_err-parts
returns-in_err-parts g c =
    let range = c.read_range-range.result in
    let here : table_of range.low ≡ codes "t" = search rules in
    let before : AreOfTable c.args.table.now.holdings.slots 1 (table_of range.low) = subst (λ (name : Text). AreOfTable c.args.table.now.holdings.slots 1 name) (sym here) c.requires in
    subst (λ (name : Text). AreOfTable c.cover-2.new.self.holdings.slots 1 name) here (reserved_stay_of_table c.args.table.now.holdings c.cover-2.new.self.holdings 1 0 _ range c.table.ensures.is_range before c.cover-2.ensures.slots)

pub returns-in_err-shown : goal.returns-in_err-shown
returns-in_err-shown g c =
    let range = c.read_range-range.result in
    let here : table_of range.low ≡ codes "t" = search rules in
    let before : AreOfTable c.args.table.now.holdings.slots 1 (table_of range.low) = subst (λ (name : Text). AreOfTable c.args.table.now.holdings.slots 1 name) (sym here) c.requires in
    subst (λ (name : Text). AreOfTable c.cover-2.new.self.holdings.slots 1 name) here (reserved_stay_of_table c.args.table.now.holdings c.cover-2.new.self.holdings 1 0 _ range c.table.ensures.is_range before c.cover-2.ensures.slots)

pub returns : goal.returns
returns g c =
    let range = c.read_range-range.result in
    let here : table_of range.low ≡ codes "t" = search rules in
    let before : AreOfTable c.args.table.now.holdings.slots 1 (table_of range.low) = subst (λ (name : Text). AreOfTable c.args.table.now.holdings.slots 1 name) (sym here) c.requires in
    subst (λ (name : Text). AreOfTable c.cover-2.new.self.holdings.slots 1 name) here (reserved_stay_of_table c.args.table.now.holdings c.cover-2.new.self.holdings 1 0 _ range c.table.ensures.is_range before c.cover-2.ensures.slots)
