use Rattle.std.proofs.Common.{◌≡◌, List, length, map, slice_get, slice_set, Some, None, option_map, sym, ap, ◌∙◌}
use Rattle.shared_cells.specs.Spots.{SpotView, taken, leaving, spot_view, free, with_unused}
use Rattle.shared_cells.proofs.SpotLemmas.{taken_waits_not, put_back, put_nowhere, free_waits_not, get_used, set_used, unused_waits_not}
use Rattle.shared_cells.proofs.spots.Spots.give_back.Goals as goal

-- ---- where the number waits

pub returns-in-Some-Leaving-clause-back : goal.returns-in-Some-Leaving-clause-back
returns-in-Some-Leaving-clause-back g c = λ waits.
    let old = map spot_view c.self.inside.spots.items in
    let count = length c.self.inside.unused.items in
    let was : slice_get old c.args.id ≡ Some leaving = c.replace.ensures.was ∙ ap (option_map spot_view) (c.in-Some-Leaving.is ∙ ap Some c.in-Some-Leaving.field-0-is) in
    ap (λ (l : List SpotView). with_unused l count) c.replace.ensures.set ∙ set_used old count c.args.id leaving free was ∙ ap (λ (l : List SpotView). slice_set l c.args.id free) c.self.view_is

pub returns-in-Some-Leaving-clause-same : goal.returns-in-Some-Leaving-clause-same
returns-in-Some-Leaving-clause-same g c = λ waits_not.
    let old = map spot_view c.self.inside.spots.items in
    let was : slice_get old c.args.id ≡ Some leaving = c.replace.ensures.was ∙ ap (option_map spot_view) (c.in-Some-Leaving.is ∙ ap Some c.in-Some-Leaving.field-0-is) in
    absurd (waits_not (ap (λ (l : List SpotView). slice_get l c.args.id) (sym c.self.view_is) ∙ get_used old (length c.self.inside.unused.items) c.args.id leaving was))

-- ---- where it has no cell

pub returns-in-Some-Free-clause-back : goal.returns-in-Some-Free-clause-back
returns-in-Some-Free-clause-back g c = λ waits.
    let old = map spot_view c.self.inside.spots.items in
    let was : slice_get old c.args.id ≡ Some free = c.replace.ensures.was ∙ ap (option_map spot_view) (c.in-Some-Free.is ∙ ap Some c.in-Some-Free.field-0-is) in
    absurd (free_waits_not (sym (get_used old (length c.self.inside.unused.items) c.args.id free was) ∙ ap (λ (l : List SpotView). slice_get l c.args.id) c.self.view_is ∙ waits))

pub returns-in-Some-Free-clause-same : goal.returns-in-Some-Free-clause-same
returns-in-Some-Free-clause-same g c = λ waits_not.
    let old = map spot_view c.self.inside.spots.items in
    let was : slice_get old c.args.id ≡ Some free = c.replace.ensures.was ∙ ap (option_map spot_view) (c.in-Some-Free.is ∙ ap Some c.in-Some-Free.field-0-is) in
    let same = ap (λ (l : List SpotView). with_unused l (length c.self.inside.unused.items))
    (put_back old (map spot_view c.replace.new.spots.items) (map spot_view c.replace-in-Some-Free.new.spots.items) c.args.id free free was c.replace.ensures.set c.replace-in-Some-Free.ensures.set)
    ∙ c.self.view_is in
    elim c.match-replace-3.branch [ goal.in-Some-replace-3+in-Free-1 w ↦ w.self-is ∙ same | goal.in-Some-replace-3+in-Taken-1 w ↦ w.self-is ∙ same | goal.in-Some-replace-3+in-Leaving-1 w ↦ w.self-is ∙ same | goal.in-None-1 w ↦ w.self-is ∙ same ]

-- ---- where it has a cell

pub returns-in-Some-Taken-clause-back : goal.returns-in-Some-Taken-clause-back
returns-in-Some-Taken-clause-back g c = λ waits.
    let old = map spot_view c.self.inside.spots.items in
    let cell = taken c.in-Some-Taken.join c.in-Some-Taken.range in
    let was : slice_get old c.args.id ≡ Some cell = c.replace.ensures.was ∙ ap (option_map spot_view) (c.in-Some-Taken.is ∙ ap Some c.in-Some-Taken.field-0-is) in
    absurd
    (taken_waits_not c.in-Some-Taken.join c.in-Some-Taken.range
    (sym (get_used old (length c.self.inside.unused.items) c.args.id cell was) ∙ ap (λ (l : List SpotView). slice_get l c.args.id) c.self.view_is ∙ waits))

pub returns-in-Some-Taken-clause-same : goal.returns-in-Some-Taken-clause-same
returns-in-Some-Taken-clause-same g c = λ waits_not.
    let old = map spot_view c.self.inside.spots.items in
    let cell = taken c.in-Some-Taken.join c.in-Some-Taken.range in
    let was : slice_get old c.args.id ≡ Some cell = c.replace.ensures.was ∙ ap (option_map spot_view) (c.in-Some-Taken.is ∙ ap Some c.in-Some-Taken.field-0-is) in
    let same = ap (λ (l : List SpotView). with_unused l (length c.self.inside.unused.items))
    (put_back old (map spot_view c.replace.new.spots.items) (map spot_view c.replace-in-Some-Taken.new.spots.items) c.args.id free cell was c.replace.ensures.set c.replace-in-Some-Taken.ensures.set)
    ∙ c.self.view_is in
    elim c.match-replace-5.branch [ goal.in-Some-replace-5+in-Free-1 w ↦ w.self-is ∙ same | goal.in-Some-replace-5+in-Taken-1 w ↦ w.self-is ∙ same | goal.in-Some-replace-5+in-Leaving-1 w ↦ w.self-is ∙ same | goal.in-None-2 w ↦ w.self-is ∙ same ]

-- ---- where it is not in use

pub returns-in-None-clause-back : goal.returns-in-None-clause-back
returns-in-None-clause-back g c = λ waits.
    let old = map spot_view c.self.inside.spots.items in
    let was : slice_get old c.args.id ≡ None = c.replace.ensures.was ∙ ap (option_map spot_view) c.in-None.is in
    absurd (unused_waits_not old (length c.self.inside.unused.items) c.args.id was (ap (λ (l : List SpotView). slice_get l c.args.id) c.self.view_is ∙ waits))

pub returns-in-None-clause-same : goal.returns-in-None-clause-same
returns-in-None-clause-same g c = λ waits_not.
    let old = map spot_view c.self.inside.spots.items in
    let was : slice_get old c.args.id ≡ None = c.replace.ensures.was ∙ ap (option_map spot_view) c.in-None.is in
    ap (λ (l : List SpotView). with_unused l (length c.self.inside.unused.items)) (put_nowhere old (map spot_view c.replace.new.spots.items) c.args.id free was c.replace.ensures.set) ∙ c.self.view_is
