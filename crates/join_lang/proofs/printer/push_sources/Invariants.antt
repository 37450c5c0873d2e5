use Rattle.std.proofs.Common.{◌≡◌, ◌++◌, map, drop, string_bytes}
use Rattle.join_lang.specs.Printed.{sources_print}
use Rattle.join_lang.proofs.printer.push_sources.Given as goal

abbrev pub invariant-loop-source : goal.invariant-loop-source
invariant-loop-source l =
    string_bytes l.text ++ sources_print (map string_bytes l.names) (drop l.source-index l.sources)
    ≡ string_bytes l.fn.text ++ sources_print (map string_bytes l.names) l.sources
