use Rattle.std.proofs.Common.{◌-◌, ◌∙◌}
use Rattle.scan_core.proofs.LettingLemmas.{piece_over, unlent_after}
use Rattle.scan_core.proofs.ReaderLemmas.{piece_from}
use Rattle.scan_core.proofs.reading.read_piece.Goals as goal

pub returns-clause-spends : goal.returns-clause-spends
returns-clause-spends g c =
    piece_over c.args.core.now.history c.args.core.now.cells c.let_go.new.self.cells c.settle-settled.new.self.cells c.args.p c.args.range.now (c.read_all-found.new.steps - c.args.steps.now)
    c.look.ensures.entered c.look.ensures.right c.let_go.ensures.goes
    (piece_from c.args.core.now.history c.clear_used.new.self.history c.let_go.new.self.cells c.clear_used.new.self.cells c.read_all-found.new.core c.settle-settled.new.self.cells c.args.p c.args.range.now
    (c.read_all-found.new.steps - c.args.steps.now) (c.clear_used.ensures.history ∙ c.let_go.ensures.history) c.clear_used.ensures.slots c.clear_used.ensures.used c.clear_used.ensures.setting c.read_all-found.ensures.history c.read_all-found.ensures.frame.same_setting
    c.read_all-found.ensures.entered c.lo-low.ensures.is_range c.in_ok-pairs.ensures.spent c.read_all-found.ensures.right c.settle-settled.ensures.last c.settle-settled.ensures.evicts)
