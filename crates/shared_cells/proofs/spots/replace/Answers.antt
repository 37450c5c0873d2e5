use Rattle.std.proofs.Common.{◌≤◌, length, map, option_map, sym, ap, ◌∙◌, arith}
use Rattle.std.proofs.lemmas.List.{length-map, map-set, set_past}
use Rattle.std.proofs.lemmas.Option.{slice_get-map, slice_get_past}
use Rattle.shared_cells.specs.Spots.{spot_view}
use Rattle.shared_cells.proofs.spots.replace.Goals as goal

pub returns-then-id-len-clause-set : goal.returns-then-id-len-clause-set
returns-then-id-len-clause-set g c =
    let items = c.args.spots.now.items in
    let past : length (map spot_view items) ≤ c.args.id = omega (arith, c.if-id-len.true, c.len.ensures, length-map items spot_view) in
    sym (set_past (map spot_view items) c.args.id (spot_view c.args.spot) past)

pub returns-then-id-len-clause-was : goal.returns-then-id-len-clause-was
returns-then-id-len-clause-was g c =
    let items = c.args.spots.now.items in
    let past : length (map spot_view items) ≤ c.args.id = omega (arith, c.if-id-len.true, c.len.ensures, length-map items spot_view) in
    slice_get_past (map spot_view items) c.args.id past

pub returns-clause-set : goal.returns-clause-set
returns-clause-set g c = ap (map spot_view) c.swap.ensures.set ∙ map-set spot_view c.args.spots.now.items c.args.id c.args.spot

pub returns-clause-was : goal.returns-clause-was
returns-clause-was g c = slice_get-map spot_view c.args.spots.now.items c.args.id ∙ ap (option_map spot_view) c.swap.ensures.was
