use Rattle.std.proofs.Common.{◌≡◌, ◌∷◌, [], map, subst}
use Rattle.std.specs.Bool.{OnTrue}
use Rattle.std.proofs.lemmas.Result.{IfOk-weaker}
use Rattle.semantics.specs.Texts.{Range}
use Rattle.layering.specs.Parts.{JoinTo}
use Rattle.join_eval.proofs.MovesLemmas.{moves_refl}
use Rattle.base_shards.proofs.ChangedLemmas.{only_one}
use Rattle.shared_cells.specs.Handing.{HandsOut}
use Rattle.shared_cells.proofs.RangeHandingLemmas.{one_part_is}
use Rattle.shared_cells.proofs.range_handing.hand_only.Goals as goal

pub returns-in-len1-clause-handed : goal.returns-in-len1-clause-handed
returns-in-len1-clause-handed g c =
    let query = c.args.query in
    let part = c.part-item.result in
    let one : c.args.parts.now ≡ part ∷ [] = only_one c.args.parts.now part c.in-len1.len_at_least c.in-len1.len_below c.part-item.is in
    let same : part.range ≡ c.args.range.now = one_part_is part.range c.args.range.now (subst (λ parts. JoinTo c.args.range.now (map (λ p. p.range) parts)) one c.requires.joins) in
    IfOk-weaker c.hand_part.result _ _ (λ gave handed.
    subst (λ (r : Range). OnTrue gave (HandsOut g.K.RowSink.got (g.R.Reader.list c.args.reader.now) query.p query.at query.rank r c.args.sink.now c.hand_part.new.sink c.args.steps.now c.hand_part.new.steps)) same handed)
    c.hand_part.ensures.handed

pub returns-clause-moves : goal.returns-clause-moves
returns-clause-moves g c = moves_refl g.R.Reader.list g.R.Reader.floor g.R.Reader.went c.args.reader.now (g.met.R.Reader.went_refl c.args.reader.now)
