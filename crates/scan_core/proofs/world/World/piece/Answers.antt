use Rattle.std.proofs.Common.{◌-◌, Some, option_map, sym, subst, arith}
use Rattle.std.proofs.lemmas.Option.{MatchOption-at_some}
use Rattle.core_events.specs.Events as plain
use Rattle.scan_core.specs.Progress.{Puts, further}
use Rattle.scan_core.specs.Going.{AreGoing}
use Rattle.scan_core.specs.Worlds.{CoreWorld, StepsAs, StepSpends}
use Rattle.scan_core.proofs.GoingLemmas.{going_put, further_goes}
use Rattle.scan_core.proofs.StepLemmas.{at_none, world_of, the_next, piece_nothing, piece_answered, spends_nothing, spends_next}
use Rattle.scan_core.proofs.world.World.piece.Goals as goal

pub returns-in_default-clause-step : goal.returns-in_default-clause-step
returns-in_default-clause-step g c =
    subst (λ (v : CoreWorld). StepsAs (plain.piece c.args.scan c.args.upto) v.world v.world plain.nothing) c.self.view_is
    (piece_nothing c.self.inside.core.history c.self.inside.scans c.args.scan c.args.upto (at_none _ _ _ c.in_default.is c.in_ok-part.ensures))

pub returns-in_default-clause-spends : goal.returns-in_default-clause-spends
returns-in_default-clause-spends g c =
    subst (λ (v : CoreWorld). StepSpends (plain.piece c.args.scan c.args.upto) v v (c.args.steps.now - c.args.steps.now)) c.self.view_is
    (spends_nothing c.self.inside.core.history c.self.inside.scans c.self.inside.core.cells c.args.scan c.args.upto (c.args.steps.now - c.args.steps.now) (at_none _ _ _ c.in_default.is c.in_ok-part.ensures))

pub read_piece-requires : goal.read_piece-requires
read_piece-requires g c =
    let n = the_next c.self.inside.scans c.args.scan c.args.upto c.in-Some.part.range c.in-Some.part.position (MatchOption-at_some _ _ c.in-Some.part c.in-Some.is c.in_ok-part.ensures) in
    let goes = c.self.invariant.0 c.args.scan n.progress n.found in
    omega (arith, goes.stands, n.next.after)

pub invariant_of-self : goal.invariant_of-self
invariant_of-self g c = (subst (λ h. AreGoing h c.self.inside.scans) (sym c.read_piece.ensures.history) c.self.invariant.0, c.read_piece.ensures.unlent c.self.invariant.1)

pub invariant_of-self-in_err-add_part : goal.invariant_of-self-in_err-add_part
invariant_of-self-in_err-add_part g c = (
  subst (λ h. AreGoing h c.add_part.new.self) (sym c.read_piece.ensures.history) (subst (AreGoing c.self.inside.core.history) (sym c.in_err-add_part.ensures.err) c.self.invariant.0),
  c.read_piece.ensures.unlent c.self.invariant.1,
)

pub invariant_of-self-2 : goal.invariant_of-self-2
invariant_of-self-2 g c =
    let n = the_next c.self.inside.scans c.args.scan c.args.upto c.in-Some.part.range c.in-Some.part.position (MatchOption-at_some _ _ c.in-Some.part c.in-Some.is c.in_ok-part.ensures) in
    let goes = c.self.invariant.0 c.args.scan n.progress n.found in
    let pairs = c.in_ok-pairs.pairs.items in
    let puts = subst (λ o. Puts c.args.scan (option_map (further c.args.upto pairs) o) c.self.inside.scans c.add_part.new.self) n.found c.in_ok-add_part.ensures.ok in (
      subst (λ h. AreGoing h c.add_part.new.self) (sym c.read_piece.ensures.history)
          (going_put c.self.inside.core.history c.args.scan (Some (further c.args.upto pairs n.progress)) c.self.inside.scans c.add_part.new.self c.self.invariant.0 puts
          (further_goes c.self.inside.core.history c.args.upto pairs n.progress c.in-Some.part.range c.in-Some.part.position goes n.next c.in_ok-pairs.ensures.exact)),
      c.read_piece.ensures.unlent c.self.invariant.1,
    )

pub returns-clause-step : goal.returns-clause-step
returns-clause-step g c =
    let n = the_next c.self.inside.scans c.args.scan c.args.upto c.in-Some.part.range c.in-Some.part.position (MatchOption-at_some _ _ c.in-Some.part c.in-Some.is c.in_ok-part.ensures) in
    subst (λ (v : CoreWorld). StepsAs (plain.piece c.args.scan c.args.upto) v.world (world_of c.read_piece.new.core.history c.add_part.new.self) plain.answered) c.self.view_is
    (subst (λ h. StepsAs (plain.piece c.args.scan c.args.upto) (world_of c.self.inside.core.history c.self.inside.scans) (world_of h c.add_part.new.self) plain.answered) (sym c.read_piece.ensures.history)
    (piece_answered c.self.inside.core.history c.self.inside.scans c.add_part.new.self c.args.scan c.args.upto c.in_ok-pairs.pairs.items n.progress n.found n.next.goes c.in_ok-add_part.ensures.ok))

pub returns-clause-spends : goal.returns-clause-spends
returns-clause-spends g c =
    let n = the_next c.self.inside.scans c.args.scan c.args.upto c.in-Some.part.range c.in-Some.part.position (MatchOption-at_some _ _ c.in-Some.part c.in-Some.is c.in_ok-part.ensures) in
    subst (λ (v : CoreWorld). StepSpends (plain.piece c.args.scan c.args.upto) v (record { world = world_of c.read_piece.new.core.history c.add_part.new.self; cells = c.read_piece.new.core.cells }) (c.read_piece.new.steps - c.args.steps.now)) c.self.view_is
    (spends_next c.self.inside.core.history c.self.inside.scans c.self.inside.core.cells (record { world = world_of c.read_piece.new.core.history c.add_part.new.self; cells = c.read_piece.new.core.cells })
    c.args.scan c.args.upto (c.read_piece.new.steps - c.args.steps.now) n c.in_ok-pairs.ensures.spends)
