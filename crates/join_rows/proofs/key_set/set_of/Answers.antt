use Rattle.std.proofs.Common.{◌∙◌}
use Rattle.std.specs.BTreeSet.{IsFromIterResult}
use Rattle.std.proofs.lemmas.Iterator.Adapters.{fact_from_collect, YieldsList-from_vec}
use Rattle.semantics.specs.Texts.{text_cmp}
use Rattle.join_rows.proofs.key_set.set_of.Goals as goal

pub returns : goal.returns
returns c =
    fact_from_collect (IsFromIterResult text_cmp) c.collect.result c.collect.ensures.ran
    (YieldsList-from_vec c.args.keys.items c.into_iter.ensures.rest (c.into_iter.ensures.len ∙ c.args.keys.ok.0))
