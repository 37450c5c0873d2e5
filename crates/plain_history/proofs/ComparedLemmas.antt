-- What changed between two tables, key by key.
use Rattle.std.proofs.Common.{◌≡◌, Bool, true, false, cond, List, [], ◌∷◌, ◌++◌, map, filter, refl, sym, ap, ◌∙◌, append_assoc}
use Rattle.semantics.specs.Texts.{Text, Range, Table, pairs_within}
use Rattle.semantics.specs.States.{merged}
use Rattle.semantics.proofs.TableLemmas.{IsAscending}
use Rattle.semantics.proofs.MergedLemmas.{ascending-pairs_within}
use Rattle.layering.proofs.MergeLemmas.{merged_into_nothing}
use Rattle.growing_history.specs.StateChanges.{Change, differ_at, change_to, changes_among, changes_between}
use Rattle.growing_history.proofs.ListLemmas.{changes_among_pairs}

-- the changes among a key and others
among_first : (key : Text) (keys : List Text) (before after : Table) → changes_among (key ∷ keys) before after ≡ changes_among (key ∷ []) before after ++ changes_among keys before after
among_first key keys before after = by (differ_at before after key)
  where
    by : (b : Bool) → map (change_to after) (cond b (key ∷ filter (differ_at before after) keys) (filter (differ_at before after) keys))
        ≡ map (change_to after) (cond b (key ∷ []) []) ++ map (change_to after) (filter (differ_at before after) keys)
    by true = refl
    by false = refl

-- with the changes at the key of one pair more, and those that are left to be found, these are all
pub among_next : (all now new : List Change) (left others : Table) (pair : Text × Text) (key : Text) (before after : Table) → new ≡ now ++ changes_among (key ∷ []) before after → key ≡ pair.0 → left ≡ pair ∷ others →
    now ++ changes_among (map (λ p. p.0) left) before after ≡ all → new ++ changes_among (map (λ p. p.0) others) before after ≡ all
among_next all now new left others pair key before after more at next whole =
    ap (λ cs. cs ++ changes_among (map (λ p. p.0) others) before after) (more ∙ ap (λ k. now ++ changes_among (k ∷ []) before after) at)
    ∙ append_assoc now (changes_among (pair.0 ∷ []) before after) (changes_among (map (λ p. p.0) others) before after)
    ∙ ap (λ cs. now ++ cs) (sym (among_first pair.0 (map (λ p. p.0) others) before after)) ∙ ap (λ ps. now ++ changes_among (map (λ p. p.0) ps) before after) (sym next) ∙ whole

-- the changes at the keys that either has in the range
pub compared : (range : Range) (before after either : Table) → IsAscending before → IsAscending after → either ≡ merged (merged [] (pairs_within range before)) (pairs_within range after) →
    changes_among (map (λ p. p.0) (pairs_within range either)) before after ≡ changes_between range before after
compared range before after either first second is =
    let both : either ≡ merged (pairs_within range before) (pairs_within range after) =
    is ∙ ap (λ t. merged t (pairs_within range after)) (merged_into_nothing (pairs_within range before) (ascending-pairs_within range before first)) in
    ap (λ t. changes_among (map (λ p. p.0) (pairs_within range t)) before after) both ∙ changes_among_pairs range before after first second
