use Rattle.std.proofs.Common.{◌≡◌, [], ◌∷◌, ◌++◌, map, option_map, Some, ap, sym, subst}
use Rattle.std.specs.Prelude.{string_bytes}
use Rattle.pq_io.specs.Doors.{opened_of}
use Rattle.pq_io.proofs.mem_doors.keep_address.Goals as goal

-- the address stands behind those that were known
pub returns-in-Ok : goal.returns-in-Ok
returns-in-Ok c =
    subst (λ opened. option_map (λ others. others ++ c.args.address.now ∷ []) (opened_of opened) ≡ Some (map string_bytes c.in-Ok.all.items)) (sym c.in-Some.is)
    (ap Some (sym c.in-Ok.ensures))
