use Rattle.std.proofs.Common.{◌≡◌, ℕ, ◌-◌, ◌≤◌, take, drop, length, max, nat_le, sym, ap, ◌∙◌, arith, rules}
use Rattle.std.proofs.lemmas.List.Sorted.{IsPartitionPoint-from_clause}
use Rattle.base_versions.proofs.PositionLemmas.{IsCut, cut_drop, partitioned-ascend}
use Rattle.base_versions.proofs.ChangeLemmas.{between-cuts}
use Rattle.base_versions.proofs.changes.between.Goals as goal

pub returns-clause-exact : goal.returns-clause-exact
returns-clause-exact c = λ a.
    let cs = c.args.changes.now.items in
    let n = c.partition_point-first.result in
    let m = c.partition_point-last.result in
    let first : IsCut (λ x. nat_le x.position c.args.q) cs n =
    IsPartitionPoint-from_clause (λ x. nat_le x.position c.args.q) cs n c.partition_point-first.ensures.partitioned (partitioned-ascend (λ x. x.position) 0 c.args.q cs a) (λ x r q k. search rules) in
    let second : IsCut (λ x. nat_le x.position c.args.p) cs m =
    IsPartitionPoint-from_clause (λ x. nat_le x.position c.args.p) cs m c.partition_point-last.ensures.partitioned (partitioned-ascend (λ x. x.position) 0 c.args.p cs a) (λ x r q k. search rules) in
    let same : c.max.result - n ≡ m - n = omega (arith, c.max.ensures) in
    ap (λ k. take k (drop n cs)) same ∙ between-cuts c.args.q c.args.p cs n (m - n) first (cut_drop (λ x. nat_le x.position c.args.p) cs n m second)
