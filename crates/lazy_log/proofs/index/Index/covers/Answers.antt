use Rattle.std.proofs.Common.{sym, ap, subst, ◌∙◌}
use Rattle.semantics.specs.Patterns.{bind}
use Rattle.lazy_log.specs.Index.{HasAnySought}
use Rattle.lazy_log.proofs.IndexLemmas.{covered_is, unfit_is}
use Rattle.lazy_log.proofs.index.Index.covers.Goals as goal

pub returns-in_default : goal.returns-in_default
returns-in_default c = λ noted of.
    unfit_is c.args.output.now c.args.key.now noted c.args.self.now c.matches.ensures.is_pattern
    (ap (bind c.args.output.now c.args.key.now) (sym c.none-none.ensures) ∙ sym c.matches.ensures.binds ∙ c.in_default.is) of

pub returns : goal.returns
returns c = λ noted of.
    covered_is c.args.output.now c.args.key.now c.in-Some.found noted c.args.self.now c.in_ok-covered.covered c.matches.ensures.is_pattern
    (ap (bind c.args.output.now c.args.key.now) (sym c.none-none.ensures) ∙ sym c.matches.ensures.binds ∙ c.in-Some.is) of
    (subst (λ ss. HasAnySought c.args.self.now.slots.keys c.in-Some.found ss c.in_ok-covered.covered) c.as_slice.ensures.value c.in_ok-covered.ensures)
