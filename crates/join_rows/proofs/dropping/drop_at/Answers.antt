use Rattle.std.proofs.Common.{◌≡◌, ◌<◌, length, is_some, arith}
use Rattle.semantics.specs.Texts.{Text}
use Rattle.semantics.specs.Patterns.{bind}
use Rattle.join_rows.proofs.LeafLemmas.{left_before, left_inside, left_length}
use Rattle.join_rows.proofs.DropLemmas.{thinned_left}
use Rattle.join_rows.proofs.dropping.drop_at.Goals as goal

pub returns-clause-are : goal.returns-clause-are
returns-clause-are c =
    let leaves = c.args.leaves.now.items in
    let now = c.drop_empty.new.leaves.items in
    let leaf = c.index_mut.result.now in
    let within : c.args.place < length leaves = omega (arith, c.args.leaves.now.ok.0) in
    (thinned_left (λ (key : Text). is_some (bind c.args.pattern.now key c.args.slots.now)) leaves now c.args.place leaf c.drop_fitting-gone.new.self c.requires.are within c.index_mut.ensures.value c.drop_fitting-gone.ensures.rows c.drop_empty.ensures).are

pub returns-clause-rows : goal.returns-clause-rows
returns-clause-rows c =
    let leaves = c.args.leaves.now.items in
    let now = c.drop_empty.new.leaves.items in
    let leaf = c.index_mut.result.now in
    let within : c.args.place < length leaves = omega (arith, c.args.leaves.now.ok.0) in
    (thinned_left (λ (key : Text). is_some (bind c.args.pattern.now key c.args.slots.now)) leaves now c.args.place leaf c.drop_fitting-gone.new.self c.requires.are within c.index_mut.ensures.value c.drop_fitting-gone.ensures.rows c.drop_empty.ensures).is

pub returns-clause-before : goal.returns-clause-before
returns-clause-before c =
    let leaves = c.args.leaves.now.items in
    let now = c.drop_empty.new.leaves.items in
    let leaf = c.index_mut.result.now in
    let within : c.args.place < length leaves = omega (arith, c.args.leaves.now.ok.0) in
    left_before leaves now c.args.place leaf within c.drop_fitting-gone.new.self c.drop_empty.ensures

pub returns-clause-inside : goal.returns-clause-inside
returns-clause-inside c =
    let leaves = c.args.leaves.now.items in
    let now = c.drop_empty.new.leaves.items in
    let leaf = c.index_mut.result.now in
    let within : c.args.place < length leaves = omega (arith, c.args.leaves.now.ok.0) in
    left_inside leaves now c.args.place leaf within c.drop_fitting-gone.new.self c.drop_empty.ensures

pub returns-clause-gone : goal.returns-clause-gone
returns-clause-gone c =
    let leaves = c.args.leaves.now.items in
    let now = c.drop_empty.new.leaves.items in
    let leaf = c.index_mut.result.now in
    let within : c.args.place < length leaves = omega (arith, c.args.leaves.now.ok.0) in
    let sum = left_length leaves now c.args.place leaf within c.drop_fitting-gone.new.self c.index_mut.ensures.value c.drop_empty.ensures in
    omega (arith, sum, c.drop_fitting-gone.ensures.gone)
