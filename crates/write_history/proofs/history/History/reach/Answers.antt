use Rattle.std.proofs.Common.{◌≡◌, ℕ, sym, ap, ◌∙◌}
use Rattle.write_history.specs.Marks.{before, reach}
use Rattle.write_history.specs.Passes.{PassView}
use Rattle.write_history.specs.declared.known.Mark.{Mark}
use Rattle.write_history.proofs.Marking.{before_is}
use Rattle.write_history.proofs.history.History.reach.Goals as goal

pub returns-clause-first : goal.returns-clause-first
returns-clause-first c =
    let pin = c.requires.pinned in
    let is : c.pinned_at-pin.result ≡ pin.0 = c.pinned_at-pin.ensures.position pin.0 (ap (λ (v : PassView). v.mark) c.pass.view_is ∙ pin.1) in
    c.saturating_sub.ensures ∙ sym (before_is c.pinned_at-pin.result) ∙ ap before is ∙ sym (ap reach pin.1)
