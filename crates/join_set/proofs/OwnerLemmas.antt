-- Whose output a key fits.
use Rattle.std.proofs.Common.{◌≡◌, List, [], ◌∷◌, Bool, true, false, cond, ◌||◌, Option, Some, is_some, option_map, find, refl, ap, ◌∙◌}
use Rattle.semantics.specs.Texts.{Text}
use Rattle.semantics.specs.Patterns.{fits}
use Rattle.semantics.specs.Histories.{DeclaredJoin, is_computed}
use Rattle.join_set.specs.Sets.{owner_of}

-- a first element that passes is there, and else it is as with the others
there_or_later : (b : Bool) (s : DeclaredJoin) (o : Option DeclaredJoin) → is_some (option_map (λ (t : DeclaredJoin). t.position) (cond b (Some s) o)) ≡ (b || is_some (option_map (λ (t : DeclaredJoin). t.position) o))
there_or_later true s o = refl
there_or_later false s o = refl

-- a key has an owner exactly where it is computed
pub is_some-owner_of : (key : Text) (joins : List DeclaredJoin) → is_some (owner_of key joins) ≡ is_computed joins key
is_some-owner_of key [] = refl
is_some-owner_of key (s ∷ joins) =
    there_or_later (fits s.join.output key) s (find (λ t. fits t.join.output key) joins) ∙ ap (λ b. fits s.join.output key || b) (is_some-owner_of key joins)
