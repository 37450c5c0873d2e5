use Rattle.std.proofs.Common.{◌↔◌, ◌⊎◌, List, Contains, sym, subst}
use Rattle.std.proofs.lemmas.Result.{IfOk-weaker}
use Rattle.semantics.specs.Texts.{Text}
use Rattle.rank_layers.proofs.KeyLemmas.{in_either}
use Rattle.rank_layers.proofs.keys.united.Goals as goal

pub returns-clause-same : goal.returns-clause-same
returns-clause-same c =
    IfOk-weaker c.merged.result _ _ (λ all same key.
    let both = subst (λ (ks : List Text). Contains ks key ↔ (Contains c.args.first.items key ⊎ Contains c.args.other.items key)) (sym c.in_ok-append.ensures.items) (in_either c.args.first.items c.args.other.items key) in
    (λ h. both.0 ((same key).0 h), λ h. (same key).1 (both.1 h))) c.merged.ensures.same
