use Rattle.std.proofs.Common.{◌≡◌, List, length, map, slice_get, Some, None, option_map, sym, ap, ◌∙◌, subst}
use Rattle.std.specs.Option.{option_and_then}
use Rattle.shared_cells.specs.Spots.{IsTakenOut, SpotView, leaving, place_at, place_of, spot_view, free, with_unused}
use Rattle.shared_cells.proofs.SpotLemmas.{out_used, place_used, put_back, put_nowhere, put_same}
use Rattle.shared_cells.proofs.spots.Spots.take_out.Goals as goal

pub returns-in-Some-Taken : goal.returns-in-Some-Taken
returns-in-Some-Taken g c =
    let id = c.args.id in
    let join = c.in-Some-Taken.join in
    let range = c.in-Some-Taken.range in
    let old = map spot_view c.self.inside.spots.items in
    let new = map spot_view c.replace.new.spots.items in
    let count = length c.self.inside.unused.items in
    let out : IsTakenOut id join range old new = record {
      was = c.replace.ensures.was ∙ ap (option_map spot_view) (c.in-Some-Taken.is ∙ ap Some c.in-Some-Taken.field-0-is);
      stands = c.replace.ensures.set;
    } in
    subst (λ (l : List SpotView). IsTakenOut id join range l (with_unused new count)) c.self.view_is (out_used id join range old new count out)

pub returns-in-Some-Free : goal.returns-in-Some-Free
returns-in-Some-Free g c =
    let id = c.args.id in
    let old = map spot_view c.self.inside.spots.items in
    let between = map spot_view c.replace.new.spots.items in
    let new = map spot_view c.replace-in-Some-Free.new.spots.items in
    let count = length c.self.inside.unused.items in
    let was : slice_get old id ≡ Some free = c.replace.ensures.was ∙ ap (option_map spot_view) (c.in-Some-Free.is ∙ ap Some c.in-Some-Free.field-0-is) in
    record {
      none = ap (λ (l : List SpotView). place_at l id) (sym c.self.view_is) ∙ place_used old count id ∙ ap (option_and_then place_of) was;
      same = ap (λ (l : List SpotView). with_unused l count) (put_back old between new id leaving free was c.replace.ensures.set c.replace-in-Some-Free.ensures.set) ∙ c.self.view_is;
    }

pub returns-in-Some-Leaving : goal.returns-in-Some-Leaving
returns-in-Some-Leaving g c =
    let id = c.args.id in
    let old = map spot_view c.self.inside.spots.items in
    let count = length c.self.inside.unused.items in
    let was : slice_get old id ≡ Some leaving = c.replace.ensures.was ∙ ap (option_map spot_view) (c.in-Some-Leaving.is ∙ ap Some c.in-Some-Leaving.field-0-is) in
    record {
      none = ap (λ (l : List SpotView). place_at l id) (sym c.self.view_is) ∙ place_used old count id ∙ ap (option_and_then place_of) was;
      same = ap (λ (l : List SpotView). with_unused l count) (put_same old (map spot_view c.replace.new.spots.items) id leaving was c.replace.ensures.set) ∙ c.self.view_is;
    }

pub returns-in-None : goal.returns-in-None
returns-in-None g c =
    let id = c.args.id in
    let old = map spot_view c.self.inside.spots.items in
    let count = length c.self.inside.unused.items in
    let was : slice_get old id ≡ None = c.replace.ensures.was ∙ ap (option_map spot_view) c.in-None.is in
    record {
      none = ap (λ (l : List SpotView). place_at l id) (sym c.self.view_is) ∙ place_used old count id ∙ ap (option_and_then place_of) was;
      same = ap (λ (l : List SpotView). with_unused l count) (put_nowhere old (map spot_view c.replace.new.spots.items) id leaving was c.replace.ensures.set) ∙ c.self.view_is;
    }
