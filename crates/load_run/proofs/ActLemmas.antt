-- Acts and declarations, one after another.
use Rattle.std.proofs.Common.{◌≡◌, ℕ, ◌+◌, ◌-◌, List, [], ◌∷◌, ◌++◌, length, map, Some, sym, ap, ◌∙◌, subst, arith, append-nil, length-append}
use Rattle.std.specs.Prelude.{slice_get}
use Rattle.std.proofs.lemmas.Grind.{flat_map-append}
use Rattle.std.proofs.lemmas.List.{map-append, length-map}
use Rattle.semantics.specs.Joins.{Join}
use Rattle.semantics.specs.Histories.{declare, Entry, History, IsPrefix}
use Rattle.growing_history.proofs.PrefixLemmas.{prefix_trans, prefix_with}
use Rattle.write_history.specs.Passes.{PassView}
use Rattle.load_gen.specs.declared.acts.Act.{Act}
use Rattle.load_gen.specs.Entries.{entry_by, act_entries, entries_of}
use Rattle.pequod_cache.specs.Adding.{HasAdded}
use Rattle.pequod_cache.proofs.AddingLemmas.{added_more}

-- ---- acts

-- an act more is done
pub act_added : (acts : List Act) (act : Act) (old between new : PassView) → HasAdded (entries_of old.number acts) old between → HasAdded (act_entries between.number act) between new →
    HasAdded (entries_of old.number (acts ++ act ∷ [])) old new
act_added acts act old between new first next =
    let number : ℕ = old.number in
    let mine = subst (λ (n : ℕ). HasAdded (act_entries n act) between new) first.same_number next in
    let whole : entries_of number acts ++ act_entries number act ≡ entries_of number (acts ++ act ∷ []) =
    ap (λ (es : History). entries_of number acts ++ es) (sym (append-nil (act_entries number act))) ∙ sym (flat_map-append (act_entries number) acts (act ∷ [])) in
    subst (λ (es : History). HasAdded es old new) whole (added_more (entries_of number acts) (act_entries number act) old between new first mine)

-- ---- declarations

-- the declarations of joins
abbrev pub declarations : List Join → History
declarations joins = map (λ j. entry_by 0 (declare j)) joins

-- a client that declares joins, and the position of the last declaration
pub record Declaring (joins : List Join) (position : ℕ) (old now : PassView) : Type 0 where
  pub numbered : now.number ≡ 0
  pub counted : position ≡ length joins
  pub added : HasAdded (declarations joins) old now
  pub begins : IsPrefix (declarations joins) now.view

-- a declaration more
pub declared_more : (joins : List Join) (join : Join) (position next : ℕ) (old between new : PassView) → Declaring joins position old between → next ≡ position + 1 →
    HasAdded (entry_by 0 (declare join) ∷ []) between new → slice_get new.view position ≡ Some (entry_by 0 (declare join)) → Declaring (joins ++ join ∷ []) next old new
declared_more joins join position next old between new so_far counted added entry =
    let e : Entry = entry_by 0 (declare join) in
    let whole : declarations (joins ++ join ∷ []) ≡ declarations joins ++ e ∷ [] = map-append (λ (j : Join). entry_by 0 (declare j)) joins (join ∷ []) in
    let size = length-append joins (join ∷ []) in
    let was = so_far.counted in
    let place : position ≡ length (declarations joins) = so_far.counted ∙ sym (length-map joins (λ (j : Join). entry_by 0 (declare j))) in
    record {
      numbered = added.same_number ∙ so_far.numbered;
      counted = omega arith;
      added = subst (λ (es : History). HasAdded es old new) (sym whole) (added_more (declarations joins) (e ∷ []) old between new so_far.added added);
      begins = subst (λ (h : History). IsPrefix h new.view) (sym whole)
          (prefix_with (declarations joins) new.view e (prefix_trans (declarations joins) between.view new.view so_far.begins added.begins)
          (subst (λ (i : ℕ). slice_get new.view i ≡ Some e) place entry));
    }
