use Rattle.std.proofs.Common.{[], ◌∷◌, ◌++◌, map, ap, ◌∙◌}
use Rattle.std.specs.Prelude.{string_bytes}
use Rattle.std.proofs.lemmas.List.{map-append}
use Rattle.pq_io.proofs.mem_doors.add_address.Goals as goal

pub returns : goal.returns
returns c =
    let all = c.args.all.items in
    ap (map string_bytes) c.in_ok-push.ensures.items ∙ map-append string_bytes all (c.in_ok-text.text ∷ []) ∙ ap (λ text. map string_bytes all ++ text ∷ []) c.in_ok-text.ensures.ok
