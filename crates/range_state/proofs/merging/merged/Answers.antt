use Rattle.std.proofs.Common.{◌≡◌, ◌↔◌, List, Contains, sym, subst}
use Rattle.std.specs.List.{dedup}
use Rattle.std.specs.List.Sorted.{IsStrictlySortedBy}
use Rattle.std.specs.Cmp.Lexicographic.{nat_list_eq_equiv}
use Rattle.std.proofs.lemmas.List.Filters.{dedup_is}
use Rattle.semantics.specs.Texts.{Text, text_cmp, same}
use Rattle.range_state.proofs.OrderLemmas.{merged_ascend, merged_same}
use Rattle.range_state.proofs.merging.merged.Goals as goal

pub returns-clause-ascend : goal.returns-clause-ascend
returns-clause-ascend c =
    let is : c.dedup.new.self.items ≡ dedup same c.sort.new.self.items = dedup_is same c.sort.new.self.items c.dedup.new.self.items c.dedup.ensures.filtered in
    subst (IsStrictlySortedBy text_cmp) (sym is) (merged_ascend c.sort.new.self.items c.in_ok-sort.ensures.sorted)

pub returns-clause-same : goal.returns-clause-same
returns-clause-same c =
    let is : c.dedup.new.self.items ≡ dedup same c.sort.new.self.items = dedup_is same c.sort.new.self.items c.dedup.new.self.items c.dedup.ensures.filtered in
    λ key. subst (λ (l : List Text). Contains l key ↔ Contains c.args.keys.items key) (sym is) (merged_same c.args.keys.items c.sort.new.self.items key nat_list_eq_equiv c.in_ok-sort.ensures.permutation)
