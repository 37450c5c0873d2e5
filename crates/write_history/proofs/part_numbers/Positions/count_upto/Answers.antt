use Rattle.std.proofs.Common.{nat_le, sym, ap, ◌∙◌, rules, subst, arith}
use Rattle.std.specs.List.{count_by}
use Rattle.std.proofs.lemmas.List.Sorted.{IsPartitionPoint-from_clause}
use Rattle.base_versions.specs.Positions.{AscendBy}
use Rattle.base_versions.proofs.PositionLemmas.{IsCut, partitioned-ascend}
use Rattle.write_history.specs.Numbers.{Numbers}
use Rattle.write_history.proofs.Numbering.{count_cut}
use Rattle.write_history.proofs.part_numbers.Positions.count_upto.Goals as goal

pub returns : goal.returns
returns c = λ a.
    let position = c.args.position in
    let queue = c.self.inside.queue in
    let n = c.partition_point.result in
    let ascends : AscendBy (λ m. m) 0 queue.items = subst (λ (p : Numbers). AscendBy (λ m. m) 0 p.positions) (sym c.self.view_is) a in
    let cut : IsCut (λ m. nat_le m position) queue.items n =
    IsPartitionPoint-from_clause (λ m. nat_le m position) queue.items n c.partition_point.ensures.partitioned (partitioned-ascend (λ m. m) 0 position queue.items ascends) (λ x r q k. search rules) in
    let bound = c.partition_point.ensures.bound in
    count_cut (λ m. nat_le m position) queue.items n (omega (arith, queue.ok)) cut ∙ ap (λ (p : Numbers). count_by (λ m. nat_le m position) p.positions) c.self.view_is
