use Rattle.std.proofs.Common.{map, sym, subst}
use Rattle.layering.specs.Parts.{JoinTo}
use Rattle.join_eval.proofs.MovesLemmas.{moves_refl}
use Rattle.shared_cells.proofs.range_handing.hand_join.Goals as goal

pub returns-in_err-parts-clause-moves : goal.returns-in_err-parts-clause-moves
returns-in_err-parts-clause-moves g c = moves_refl g.R.Reader.list g.R.Reader.floor g.R.Reader.went c.args.reader.now (g.met.R.Reader.went_refl c.args.reader.now)

pub hand_only-requires-clause-joins : goal.hand_only-requires-clause-joins
hand_only-requires-clause-joins g c = subst (λ parts. JoinTo c.args.range.now (map (λ p. p.range) parts)) (sym c.as_slice.ensures.value) c.in_ok-parts.ensures
