-- Maps of which something holds at each name: after a change at one name, and after a removal.
use Rattle.std.proofs.Common.{◌≡◌, List, Bool, true, false, cond, Option, None, Some, IfSome, refl, sym, ap, ◌∙◌, subst}
use Rattle.std.specs.Map.{lookup}
use Rattle.std.specs.BTreeMap.{BTreeMap, is_at, UpdatesBy}
use Rattle.std.specs.Cmp.Lexicographic.{slice_cmp}
use Rattle.std.specs.Ordering.{nat_cmp}
use Rattle.std.specs.String.{string_bytes, string_cmp}
use Rattle.std.specs.declared.string.String.{String}
use Rattle.std.proofs.lemmas.Bool.{false≢true}
use Rattle.std.proofs.lemmas.Map.Text.{btree_map_updates_text}
use Rattle.semantics.specs.Texts.{Text, same, text_cmp}
use Rattle.semantics.proofs.TableLemmas.{same_is_tie}
use Rattle.base_versions.specs.Named.{named, EachHas, OthersHave}
use Rattle.base_versions.proofs.NamedLemmas.{lookup_named}

-- the new map has this at the name, or nothing, and at every other name what stood there
abbrev pub IsUpdate : {V : Type 0} → Text → Option V → List (Text × V) → List (Text × V) → Type 0
IsUpdate name put old new = (q : Text) → lookup (is_at (text_cmp q)) new ≡ cond (same name q) put (lookup (is_at (text_cmp q)) old)

-- a map whose keys are names is changed at one of them
pub update-named : {A V : Type 0} (name : Text) (put : Option V) (m n : BTreeMap (String A) V) → UpdatesBy string_cmp (λ k. slice_cmp nat_cmp name (string_bytes k)) m n put → IsUpdate name put (named m.entries) (named n.entries)
update-named name put m n u q =
    lookup_named q n.entries ∙ btree_map_updates_text name m n put u q ∙ ap (λ o. cond (same name q) put o) (sym (lookup_named q m.entries))

-- a map whose keys are texts is changed at one of them
pub update-tied : {V : Type 0} (name : Text) (put : Option V) (old new : List (Text × V)) → ((q : Text) → lookup (is_at (text_cmp q)) new ≡ cond (is_at (text_cmp name) q) put (lookup (is_at (text_cmp q)) old)) → IsUpdate name put old new
update-tied name put old new set q = set q ∙ ap (λ b. cond b put (lookup (is_at (text_cmp q)) old)) (sym (same_is_tie name q))

module _ {V : Type 0} (holds : V → Type 0) where
  either : (b : Bool) (put was : Option V) → (b ≡ true → IfSome put holds) → (b ≡ false → IfSome was holds) → IfSome (cond b put was) holds
  either true put was h g = h refl
  either false put was h g = g refl

  -- what holds at each name holds at the others
  pub others-each : (name : Text) (es : List (Text × V)) → EachHas holds es → OthersHave holds name es
  others-each name es each q other = each q

  -- it holds at each name where it holds of what is put, and held at the others
  pub each-update : (name : Text) (put : Option V) (old new : List (Text × V)) → IsUpdate name put old new → IfSome put holds → OthersHave holds name old → EachHas holds new
  each-update name put old new is h others q =
      subst (λ o. IfSome o holds) (sym (is q)) (either (same name q) put (lookup (is_at (text_cmp q)) old) (λ here. h) (others q))

  -- it holds at the others still
  pub others-update : (name : Text) (put : Option V) (old new : List (Text × V)) → IsUpdate name put old new → OthersHave holds name old → OthersHave holds name new
  others-update name put old new is others q other =
      subst (λ o. IfSome o holds) (sym (is q)) (either (same name q) put (lookup (is_at (text_cmp q)) old) (λ here. absurd (false≢true (sym other ∙ here))) (others q))

  -- it holds of what is found
  pub each-found : {A : Type 0} (name : Text) (es : List (String A × V)) (v : V) → Some v ≡ lookup (is_at (λ k. slice_cmp nat_cmp name (string_bytes k))) es → EachHas holds (named es) → holds v
  each-found name es v found each = subst (λ o. IfSome o holds) (lookup_named name es ∙ sym found) (each name)
