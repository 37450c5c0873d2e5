-- The order of slots.
use Rattle.std.specs.declared.cmp.Ordering.{Ordering}
use Rattle.std.specs.Option.{option_cmp}
use Rattle.std.specs.Cmp.{IsTotalOrder}
use Rattle.std.specs.Cmp.Lexicographic.{slice_cmp, nat_list_cmp_total, lists_total, options_total}
use Rattle.semantics.specs.Texts.{text_cmp}
use Rattle.semantics.specs.Patterns.{Slots}

-- slots place by place: where one has no text and the other has, the one without is the less
abbrev pub slots_cmp : Slots → Slots → Ordering
slots_cmp = slice_cmp (option_cmp text_cmp)

-- this is a total order
pub slots_total : IsTotalOrder slots_cmp
slots_total = lists_total (options_total nat_list_cmp_total)
