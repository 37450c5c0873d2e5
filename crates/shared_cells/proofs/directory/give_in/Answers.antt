use Rattle.std.proofs.Common.{List, refl, ◌∙◌, subst}
use Rattle.semantics.specs.Texts.{Range}
use Rattle.cell_slots.proofs.AdvancedLemmas.{on_err_always}
use Rattle.shared_cells.specs.Spots.{IsPut, SpotView}
use Rattle.shared_cells.proofs.ListingLemmas.{listed_and_back}
use Rattle.shared_cells.proofs.directory.give_in.Goals as goal

-- ---- before a range is listed

pub returns-in_err-free-clause-err : goal.returns-in_err-free-clause-err
returns-in_err-free-clause-err g c = on_err_always c.from_residual.result (record { spots = c.next_free.ensures; listed = λ at. refl })

pub returns-in_default-clause-given : goal.returns-in_default-clause-given
returns-in_default-clause-given g c = record { spots = c.next_free.ensures; listed = λ at. refl }

pub returns-in_err-reach-clause-err : goal.returns-in_err-reach-clause-err
returns-in_err-reach-clause-err g c = on_err_always c.from_residual-in_err-reach.result (record { spots = c.next_free.ensures; listed = λ at. refl })

pub returns-in_err-place-clause-err : goal.returns-in_err-place-clause-err
returns-in_err-place-clause-err g c = on_err_always c.from_residual-in_err-place.result (record { spots = c.next_free.ensures; listed = λ at. refl })

pub returns-in_err-own-clause-err : goal.returns-in_err-own-clause-err
returns-in_err-own-clause-err g c = on_err_always c.from_residual-in_err-own.result (record { spots = c.next_free.ensures; listed = λ at. refl })

pub returns-in_err-shared-clause-err : goal.returns-in_err-shared-clause-err
returns-in_err-shared-clause-err g c = on_err_always c.from_residual-in_err-shared.result (record { spots = c.next_free.ensures; listed = λ at. refl })

-- ---- when it is listed, or is not

pub returns-in_err-is_listed-clause-err : goal.returns-in_err-is_listed-clause-err
returns-in_err-is_listed-clause-err g c = on_err_always c.from_residual-in_err-is_listed.result (record { spots = c.next_free.ensures; listed = c.in_err-is_listed.ensures.err })

pub returns-then-not-is_listed-clause-given : goal.returns-then-not-is_listed-clause-given
returns-then-not-is_listed-clause-given g c = record { spots = c.next_free.ensures; listed = c.in_ok-is_listed.ensures.left c.if-not-is_listed.true }

pub returns-then-not-put_cell-clause-given : goal.returns-then-not-put_cell-clause-given
returns-then-not-put_cell-clause-given g c =
    record {
      spots = c.if-not-put_cell.ensures ∙ c.next_free.ensures;
      listed = listed_and_back c.args.join c.args.range.now c.in-Some.id c.args.listings.now c.insert.new.self c.remove.new.self (c.in_ok-is_listed.ensures.listed c.if-not-is_listed.false) c.remove.ensures;
    }

pub returns-clause-given : goal.returns-clause-given
returns-clause-given g c =
    let put : IsPut c.in-Some.id c.args.join c.args.range.now c.next_free.new.self c.put_cell.new.self =
    subst (λ (r : Range). IsPut c.in-Some.id c.args.join r c.next_free.new.self c.put_cell.new.self) c.in_ok-place.ensures c.if-not-put_cell.ensures in
    let among : IsPut c.in-Some.id c.args.join c.args.range.now c.args.spots.now c.put_cell.new.self =
    subst (λ (l : List SpotView). IsPut c.in-Some.id c.args.join c.args.range.now l c.put_cell.new.self) c.next_free.ensures put in
    record { was = among.was; stands = among.stands; listed = c.in_ok-is_listed.ensures.listed c.if-not-is_listed.false }
