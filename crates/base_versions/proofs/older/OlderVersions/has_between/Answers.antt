use Rattle.std.proofs.Common.{◌≡◌, ◌-◌, ◌<◌, ◌≤◌, ℕ, List, length, drop, nat_le, Some, None, sym, ap, ◌∙◌, arith, rules, subst}
use Rattle.std.proofs.lemmas.List.Sorted.{IsPartitionPoint-from_clause}
use Rattle.base_versions.specs.declared.versions.Version.{Version}
use Rattle.base_versions.specs.Versions.{AscendFrom, has_between}
use Rattle.base_versions.proofs.PositionLemmas.{IsCut, partitioned-ascend}
use Rattle.base_versions.proofs.VersionLemmas.{is_up_to, first_left, none_left, has_between-cut}
use Rattle.base_versions.proofs.older.OlderVersions.has_between.Goals as goal

pub returns-in-None : goal.returns-in-None
returns-in-None c = λ a.
    let q = c.args.q in
    let vs = c.self.inside.queue.items in
    let n = c.partition_point-count.result in
    let asc = subst (λ (ws : List Version). AscendFrom 0 ws) (sym c.self.view_is) a in
    let cut : IsCut (λ v. nat_le v.position q) vs n =
    IsPartitionPoint-from_clause (λ v. nat_le v.position q) vs n c.partition_point-count.ensures.partitioned (partitioned-ascend (λ v. v.position) 0 q vs asc) (λ x r q' k. search rules) in
    ap (is_up_to c.args.p) (sym (none_left n vs c.in-None.ensures.item.3)) ∙ has_between-cut q c.args.p 0 vs n asc cut ∙ ap (has_between q c.args.p) c.self.view_is

pub returns-in-Some : goal.returns-in-Some
returns-in-Some c = λ a.
    let q = c.args.q in
    let vs = c.self.inside.queue.items in
    let n = c.partition_point-count.result in
    let version = c.in-Some.version.now in
    let asc = subst (λ (ws : List Version). AscendFrom 0 ws) (sym c.self.view_is) a in
    let cut : IsCut (λ v. nat_le v.position q) vs n =
    IsPartitionPoint-from_clause (λ v. nat_le v.position q) vs n c.partition_point-count.ensures.partitioned (partitioned-ascend (λ v. v.position) 0 q vs asc) (λ x r q' k. search rules) in
    ap (is_up_to c.args.p) (sym (first_left n vs version c.in-Some.ensures.item.3.0 c.in-Some.ensures.lookup)) ∙ has_between-cut q c.args.p 0 vs n asc cut ∙ ap (has_between q c.args.p) c.self.view_is
