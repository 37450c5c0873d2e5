use Rattle.std.proofs.Common.{◌+◌, map, sym, subst}
use Rattle.std.proofs.lemmas.Result.{IfOk-weaker}
use Rattle.layering.specs.Parts.{JoinTo}
use Rattle.join_eval.proofs.MovesLemmas.{moves_refl}
use Rattle.rank_layers.specs.Telling.{IsUnknown}
use Rattle.rank_layers.proofs.telling.changes_of_join.Goals as goal

pub returns-clause-told : goal.returns-clause-told
returns-clause-told g c =
    IfOk-weaker c.changes_of_parts.result _ _ (λ told is j stands.
    is j c.args.range.now stands (subst (λ parts. JoinTo c.args.range.now (map g.C.RangeCache.range_of parts)) (sym c.as_slice.ensures.value) c.in_ok-parts.ensures)) c.changes_of_parts.ensures.told

pub returns-in_err-parts-clause-moves : goal.returns-in_err-parts-clause-moves
returns-in_err-parts-clause-moves g c = moves_refl g.R.Reader.list g.R.Reader.floor (g.C.RangeCache.left (c.args.query.rank + 1)) c.args.reader.now (g.met.C.RangeCache.left_refl (c.args.query.rank + 1) c.args.reader.now)

pub returns-clause-unknown : goal.returns-clause-unknown
returns-clause-unknown g c =
    let query = c.args.query in
    IfOk-weaker c.changes_of_parts.result _ _ (λ told is all. record {
      parts = c.in_ok-parts.parts.items;
      join = c.in_ok-parts.ensures;
      of_one = subst (λ parts. IsUnknown (g.C.RangeCache.left (query.rank + 1)) (λ a b part. g.C.RangeCache.unknown a b query.at query.rank query.p c.args.since part) c.args.reader.now c.changes_of_parts.new.reader parts)
          c.as_slice.ensures.value (is all);
    }) c.changes_of_parts.ensures.unknown
