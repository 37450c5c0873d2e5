use Rattle.std.proofs.Common.{◌==◌, Some, refl, sym, ap, ◌∙◌, subst, eq-eqb}
use Rattle.std.specs.Option.{option_copied, option_eq}
use Rattle.std.proofs.lemmas.Bool.{false≢true}
use Rattle.cell_slots.specs.Slots.{Holdings}
use Rattle.scan_core.specs.Cells.{HoldsAt}
use Rattle.scan_core.specs.LettingGo.{LetsGo}
use Rattle.scan_core.proofs.LettingLemmas.{one_goes, other_rank}
use Rattle.scan_core.proofs.contents.Core.let_go_of.Goals as goal

pub returns-clause-goes : goal.returns-clause-goes
returns-clause-goes c =
    let at = c.in-Some-Held.at in
    let s = c.in-Some-Held.state in
    let held : HoldsAt c.args.self.now.cells.slots c.args.id at s = sym c.slot.ensures ∙ ap option_copied c.in-Some-Held.is ∙ ap Some c.in-Some-Held.field-0-is in
    subst (λ (v : Holdings). LetsGo c.args.self.now.history c.args.p c.args.self.now.cells v) (sym c.evict.ensures.cells)
    (one_goes c.args.self.now.history c.args.p c.args.self.now.cells c.args.id at s held
    (other_rank c.args.self.now.history c.args.p at s.rank c.in_ok-rank_at.field-0 c.look.ensures.entered c.in_ok-rank_at.ensures
    (λ same. false≢true (sym c.if-eq.false ∙ c.eq.ensures ∙ (λ i. option_eq (λ a b. a == b) (same i) (Some (c.rank.ensures i))) ∙ eq-eqb s.rank s.rank refl))))
