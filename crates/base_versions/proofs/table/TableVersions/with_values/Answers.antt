use Rattle.std.proofs.Common.{◌≡◌, List, [], ◌∷◌, ◌++◌, map, option_copied, sym, ap, ◌∙◌, subst}
use Rattle.std.specs.List.{AllByRecursion}
use Rattle.std.proofs.lemmas.List.{map-append}
use Rattle.semantics.specs.Texts.{Text}
use Rattle.growing_history.specs.StateChanges.{Change}
use Rattle.base_versions.specs.Valued.{HasVersion}
use Rattle.base_versions.proofs.ValuedLemmas.{all_and_one}
use Rattle.base_versions.proofs.table.TableVersions.with_values.Goals as goal

pub loop-key-preserved : goal.loop-key-preserved
loop-key-preserved c =
    let before = c.loop-key.invariant in
    let found = c.loop-key.found.items in
    let key : Text = c.in-Some.key in
    let change : Change = record { key = key; value = option_copied c.value_at-value.result } in
    let has = HasVersion c.args.p c.args.self.now.tracks in
    let added : c.push.new.self.items ≡ found ++ change ∷ [] = c.in_ok-push.ensures.items ∙ ap (λ (one : Change). found ++ one ∷ []) c.in_ok-of.ensures in
    record {
      keys = ap (map (λ (one : Change). one.key)) added ∙ map-append (λ (one : Change). one.key) found (change ∷ []) ∙ ap (λ (ks : List Text). ks ++ key ∷ []) before.keys;
      values = subst (AllByRecursion has) (sym added) (all_and_one has found change before.values c.value_at-value.ensures);
    }
