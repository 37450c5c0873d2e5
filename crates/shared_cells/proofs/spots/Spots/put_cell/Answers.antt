use Rattle.std.proofs.Common.{List, length, map, Some, option_map, ap, ◌∙◌, subst}
use Rattle.shared_cells.specs.Spots.{IsPut, SpotView, taken, leaving, spot_view, with_unused}
use Rattle.shared_cells.proofs.SpotLemmas.{put_back, put_instead, put_nowhere, put_same, put_used}
use Rattle.shared_cells.proofs.spots.Spots.put_cell.Goals as goal

pub returns-in-Some-Free : goal.returns-in-Some-Free
returns-in-Some-Free g c =
    let id = c.args.id in
    let old = map spot_view c.self.inside.spots.items in
    let between = map spot_view c.replace.new.spots.items in
    let new = map spot_view c.replace-in-Some-Free.new.spots.items in
    let count = length c.self.inside.unused.items in
    let put : IsPut id c.args.join c.args.place old new = record {
      was = c.replace.ensures.was ∙ ap (option_map spot_view) (c.in-Some-Free.is ∙ ap Some c.in-Some-Free.field-0-is);
      stands = put_instead old between new id leaving (taken c.args.join c.args.place) c.replace.ensures.set c.replace-in-Some-Free.ensures.set;
    } in
    subst (λ (l : List SpotView). IsPut id c.args.join c.args.place l (with_unused new count)) c.self.view_is (put_used id c.args.join c.args.place old new count put)

pub returns-in-Some-Taken : goal.returns-in-Some-Taken
returns-in-Some-Taken g c =
    let id = c.args.id in
    let old = map spot_view c.self.inside.spots.items in
    let between = map spot_view c.replace.new.spots.items in
    let new = map spot_view c.replace-in-Some-Taken.new.spots.items in
    let cell = taken c.in-Some-Taken.former c.in-Some-Taken.range in
    let same = ap (λ (l : List SpotView). with_unused l (length c.self.inside.unused.items))
    (put_back old between new id leaving cell (c.replace.ensures.was ∙ ap (option_map spot_view) (c.in-Some-Taken.is ∙ ap Some c.in-Some-Taken.field-0-is)) c.replace.ensures.set c.replace-in-Some-Taken.ensures.set)
    ∙ c.self.view_is in
    elim c.match-place-4.branch [ goal.in-Apart-22 w ↦ w.self-is ∙ same | goal.in-Here-22 w ↦ w.self-is ∙ same ]

pub returns-in-Some-Leaving : goal.returns-in-Some-Leaving
returns-in-Some-Leaving g c =
    let old = map spot_view c.self.inside.spots.items in
    let new = map spot_view c.replace.new.spots.items in
    let same = ap (λ (l : List SpotView). with_unused l (length c.self.inside.unused.items))
    (put_same old new c.args.id leaving (c.replace.ensures.was ∙ ap (option_map spot_view) (c.in-Some-Leaving.is ∙ ap Some c.in-Some-Leaving.field-0-is)) c.replace.ensures.set)
    ∙ c.self.view_is in
    elim c.match-place-6.branch [ goal.in-Apart-23 w ↦ w.self-is ∙ same | goal.in-Here-23 w ↦ w.self-is ∙ same ]

pub returns-in-None : goal.returns-in-None
returns-in-None g c =
    let old = map spot_view c.self.inside.spots.items in
    let new = map spot_view c.replace.new.spots.items in
    let same = ap (λ (l : List SpotView). with_unused l (length c.self.inside.unused.items)) (put_nowhere old new c.args.id leaving (c.replace.ensures.was ∙ ap (option_map spot_view) c.in-None.is) c.replace.ensures.set)
    ∙ c.self.view_is in
    elim c.match-place-8.branch [ goal.in-Apart-24 w ↦ w.self-is ∙ same | goal.in-Here-24 w ↦ w.self-is ∙ same ]
