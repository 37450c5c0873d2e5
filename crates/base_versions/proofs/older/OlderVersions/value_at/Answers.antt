use Rattle.std.proofs.Common.{◌≡◌, ◌+◌, ◌-◌, ◌<◌, ℕ, suc, List, length, get_or, nat_le, sym, ap, ◌∙◌, rules, subst, arith}
use Rattle.std.proofs.lemmas.List.Sorted.{IsPartitionPoint-from_clause}
use Rattle.base_versions.specs.declared.versions.Version.{Version}
use Rattle.base_versions.specs.Versions.{AscendFrom, value_in}
use Rattle.base_versions.proofs.PositionLemmas.{IsCut, partitioned-ascend}
use Rattle.base_versions.proofs.VersionLemmas.{value_in-cut, value_in-early}
use Rattle.base_versions.proofs.older.OlderVersions.value_at.Goals as goal

pub returns-then-count-eq0 : goal.returns-then-count-eq0
returns-then-count-eq0 c = λ a.
    let p = c.args.p in
    let vs = c.self.inside.queue.items in
    let n = c.partition_point-count.result in
    let cut : IsCut (λ v. nat_le v.position p) vs n =
    IsPartitionPoint-from_clause (λ v. nat_le v.position p) vs n c.partition_point-count.ensures.partitioned (partitioned-ascend (λ v. v.position) 0 p vs (subst (λ (ws : List Version). AscendFrom 0 ws) (sym c.self.view_is) a)) (λ x r q k. search rules) in
    let none : n ≡ 0 = omega (arith, c.if-count-eq0.true) in
    value_in-early p vs (subst (λ (m : ℕ). IsCut (λ v. nat_le v.position p) vs m) none cut) ∙ ap (value_in p) c.self.view_is

pub returns-in-Some : goal.returns-in-Some
returns-in-Some c = λ a.
    let p = c.args.p in
    let vs = c.self.inside.queue.items in
    let n = c.partition_point-count.result in
    let version = c.in-Some.version.now in
    let cut : IsCut (λ v. nat_le v.position p) vs n =
    IsPartitionPoint-from_clause (λ v. nat_le v.position p) vs n c.partition_point-count.ensures.partitioned (partitioned-ascend (λ v. v.position) 0 p vs (subst (λ (ws : List Version). AscendFrom 0 ws) (sym c.self.view_is) a)) (λ x r q k. search rules) in
    let some = c.if-count-eq0.false in
    let bound = c.partition_point-count.ensures.bound in
    let next : n ≡ suc (n - 1) = omega arith in
    c.as_ref.ensures.value
    ∙ value_in-cut p vs (n - 1) version (omega arith) (subst (λ (m : ℕ). IsCut (λ v. nat_le v.position p) vs m) next cut) c.in-Some.ensures.lookup
    ∙ ap (value_in p) c.self.view_is
