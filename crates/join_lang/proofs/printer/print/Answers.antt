use Rattle.std.proofs.Common.{map, string_bytes, ap, ◌∙◌}
use Rattle.protocol.specs.JoinText.{pattern_print}
use Rattle.join_lang.specs.Printed.{sources_print}
use Rattle.join_lang.proofs.PrintLemmas.{canonical_text-parts, print_chain}
use Rattle.join_lang.proofs.printer.print.Goals as goal

pub returns : goal.returns
returns c =
    let names = c.as_slice-names.ensures.value in
    rw (← c.join.view_is, canonical_text-parts)
    (print_chain _ _ _ _ _ _ _ _ _ _ _ c.new-text.ensures.bytes c.in_ok-push_pattern.ensures c.in_ok-push_str.ensures.bytes c.in_ok-push_str-2.ensures.bytes c.in_ok-push_sources.ensures
    (ap (λ n. pattern_print (map string_bytes n) c.join.inside.output) names)
    c.kind_text.ensures
    (ap (λ n. sources_print (map string_bytes n) c.as_slice.result.now) names ∙ ap (sources_print (map string_bytes c.join.inside.names.items)) c.as_slice.ensures.value))
