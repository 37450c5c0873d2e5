-- Maps whose keys are names: what stands at a name.
use Rattle.std.specs.Prelude.{◌≡◌, List, map, string_bytes, IfSome, false}
use Rattle.std.specs.declared.string.String.{String}
use Rattle.std.specs.BTreeMap.{is_at}
use Rattle.std.specs.Map.{lookup}
use Rattle.std.specs.Option.{unwrap_or}
use Rattle.semantics.specs.Texts.{Text, same, text_cmp}

-- what a map has, with its names as texts
abbrev pub named : {A V : Type 0} → List (String A × V) → List (Text × V)
named es = map (λ e. (string_bytes e.0, e.1)) es

-- what stands at a name, or what stands for nothing
abbrev pub among : {V : Type 0} → V → Text → List (Text × V) → V
among nothing name es = unwrap_or (lookup (is_at (text_cmp name)) es) nothing

-- this holds of what stands at each name of a map
abbrev pub EachHas : {V : Type 0} → (V → Type 0) → List (Text × V) → Type 0
EachHas holds es = (name : Text) → IfSome (lookup (is_at (text_cmp name)) es) holds

-- it holds of what stands at each name but one
abbrev pub OthersHave : {V : Type 0} → (V → Type 0) → Text → List (Text × V) → Type 0
OthersHave holds but es = (name : Text) → same but name ≡ false → IfSome (lookup (is_at (text_cmp name)) es) holds
