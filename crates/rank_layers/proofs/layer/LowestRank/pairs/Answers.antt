use Rattle.std.proofs.Common.{◌-◌}
use Rattle.std.proofs.lemmas.Result.{IfOk-weaker}
use Rattle.rank_layers.proofs.MoveLemmas.{moves_by_call}
use Rattle.rank_layers.proofs.layer.LowestRank.pairs.Goals as goal

pub returns-clause-moves : goal.returns-clause-moves
returns-clause-moves g c =
    moves_by_call g.S.Reader.list g.S.Reader.floor g.S.Reader.went _ c.args.lowest.now c.pairs.new.self (g.met.S.Cells.went_frame c.args.lowest.now c.pairs.new.self) c.pairs.ensures.kept c.pairs.ensures.entered c.pairs.ensures.same_floor c.pairs.ensures.on

pub returns-clause-spent : goal.returns-clause-spent
returns-clause-spent g c =
    IfOk-weaker c.pairs.result _ _ (λ pairs so. g.met.S.Cells.spends_so c.args.lowest.now c.pairs.new.self c.args.p c.args.range.now c.args.rank (c.pairs.new.steps - c.args.steps.now) so) c.pairs.ensures.spent
