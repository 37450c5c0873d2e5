-- Maps whose keys are names: what stands at each name after a look-up, a change and a removal.
use Rattle.std.proofs.Common.{◌≡◌, List, [], ◌∷◌, Bool, true, false, cond, Option, None, Some, refl, sym, ap, ◌∙◌, is_eq}
use Rattle.std.specs.Map.{lookup}
use Rattle.std.specs.Option.{unwrap_or}
use Rattle.std.specs.BTreeMap.{BTreeMap, is_at, get_by_text, UpdatesBy}
use Rattle.std.specs.Cmp.Lexicographic.{slice_cmp}
use Rattle.std.specs.Ordering.{nat_cmp}
use Rattle.std.specs.String.{string_bytes, string_cmp}
use Rattle.std.specs.declared.string.String.{String}
use Rattle.std.proofs.lemmas.Map.Text.{btree_map_updates_text}
use Rattle.semantics.specs.Texts.{Text, same, text_cmp}
use Rattle.semantics.proofs.PieceLemmas.{equal_by_same, same_itself}
use Rattle.base_versions.specs.Named.{named, among}

-- a look-up by text finds what stands at the name
pub lookup_named : {A V : Type 0} (q : Text) (es : List (String A × V)) → lookup (is_at (text_cmp q)) (named es) ≡ lookup (is_at (λ k. slice_cmp nat_cmp q (string_bytes k))) es
lookup_named q [] = refl
lookup_named q (e ∷ es) = ap (cond (is_eq (slice_cmp nat_cmp q (string_bytes e.0))) (Some e.1)) (lookup_named q es)

-- what a look-up finds stands at the name, or nothing does
pub among_found : {A V : Type 0} (nothing : V) (text name : Text) (es : List (String A × V)) (o : Option V) → text ≡ name →
    o ≡ lookup (is_at (λ k. slice_cmp nat_cmp text (string_bytes k))) es → among nothing name (named es) ≡ unwrap_or o nothing
among_found nothing text name es o same_name e =
    ap (λ x. among nothing x (named es)) (sym same_name) ∙ ap (λ x. unwrap_or x nothing) (lookup_named text es ∙ sym e)

-- ---- what is set at a name

-- the new map has this at the name, and at every other name what stood there
abbrev pub IsSetAt : {V : Type 0} → V → Text → V → List (Text × V) → List (Text × V) → Type 0
IsSetAt nothing name value old new = (q : Text) → among nothing q new ≡ cond (same name q) value (among nothing q old)

found_either : {V : Type 0} (nothing : V) (b : Bool) (value : V) (o : Option V) → unwrap_or (cond b (Some value) o) nothing ≡ cond b value (unwrap_or o nothing)
found_either nothing true value o = refl
found_either nothing false value o = refl

-- a map that is changed at one name
pub set-from_updates : {A V : Type 0} (nothing : V) (name : Text) (value : V) (m n : BTreeMap (String A) V) → UpdatesBy string_cmp (λ k. slice_cmp nat_cmp name (string_bytes k)) m n (Some value) →
    IsSetAt nothing name value (named m.entries) (named n.entries)
set-from_updates nothing name value m n u = λ q.
    ap (λ x. unwrap_or x nothing) (lookup_named q n.entries ∙ btree_map_updates_text name m n (Some value) u q)
    ∙ found_either nothing (same name q) value (get_by_text m q)
    ∙ ap (λ x. cond (same name q) value (unwrap_or x nothing)) (sym (lookup_named q m.entries))

-- at the name stands what is set there
pub here : {V : Type 0} (nothing : V) (name : Text) (value : V) (old new : List (Text × V)) → IsSetAt nothing name value old new → among nothing name new ≡ value
here nothing name value old new set = set name ∙ ap (λ b. cond b value (among nothing name old)) (same_itself name)

-- at another name stands what stood there
pub elsewhere : {V : Type 0} (nothing : V) (name q : Text) (value : V) (old new : List (Text × V)) → IsSetAt nothing name value old new → same name q ≡ false → among nothing q new ≡ among nothing q old
elsewhere nothing name q value old new set e = set q ∙ ap (λ b. cond b value (among nothing q old)) e

-- ---- what is taken out

gone_either : {V : Type 0} (nothing : V) (b : Bool) (o : Option V) → unwrap_or (cond b None o) nothing ≡ cond b nothing (unwrap_or o nothing)
gone_either nothing true o = refl
gone_either nothing false o = refl

nothing_by : {V : Type 0} (nothing : V) (name q : Text) (old : List (Text × V)) (b : Bool) → same name q ≡ b → among nothing name old ≡ nothing → cond b nothing (among nothing q old) ≡ among nothing q old
nothing_by nothing name q old true e none = sym none ∙ ap (λ n. among nothing n old) (equal_by_same name q e)
nothing_by nothing name q old false e none = refl

-- a name at which nothing stands is taken out
pub same-from_taken : {A V : Type 0} (nothing : V) (name : Text) (m n : BTreeMap (String A) V) → UpdatesBy string_cmp (λ k. slice_cmp nat_cmp name (string_bytes k)) m n None → among nothing name (named m.entries) ≡ nothing →
    (q : Text) → among nothing q (named n.entries) ≡ among nothing q (named m.entries)
same-from_taken nothing name m n u none q =
    ap (λ x. unwrap_or x nothing) (lookup_named q n.entries ∙ btree_map_updates_text name m n None u q)
    ∙ gone_either nothing (same name q) (get_by_text m q)
    ∙ ap (λ x. cond (same name q) nothing (unwrap_or x nothing)) (sym (lookup_named q m.entries))
    ∙ nothing_by nothing name q (named m.entries) (same name q) refl none
