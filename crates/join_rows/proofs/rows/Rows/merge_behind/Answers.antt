use Rattle.std.proofs.Common.{◌≡◌, List, take, sym, ap, subst}
use Rattle.range_evaluation.specs.Trees.{Need}
use Rattle.join_rows.specs.Kept.{AreApart, KeptRows}
use Rattle.join_rows.proofs.rows.Rows.merge_behind.Goals as goal

pub merge_behind-requires-clause-apart : goal.merge_behind-requires-clause-apart
merge_behind-requires-clause-apart c =
    let own : c.self.inside.needs ≡ c.args.self.needs = ap (λ (rows : KeptRows). rows.needs) c.self.view_is in
    let more : c.other.inside.needs ≡ c.args.other.needs = ap (λ (rows : KeptRows). rows.needs) c.other.view_is in
    subst (λ (w : List Need × List Need). AreApart (take c.args.first w.0) w.1) (λ i. (sym own i, sym more i)) c.requires.apart
