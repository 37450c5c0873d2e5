-- The first argument of words, and what several arguments give.
use Rattle.std.proofs.Common.{◌≡◌, false, List, [], ◌∷◌, ◌++◌, refl, sym, ap, ◌∙◌, subst}
use Rattle.std.specs.List.{list_any}
use Rattle.semantics.specs.Texts.{Text, same}
use Rattle.command_words.specs.Arguments.{is_equals, dashes, option, lone, arguments}

-- ---- options of two words

last_by : (body : Text) → same (dashes ++ body) dashes ≡ false → list_any is_equals body ≡ false → arguments ((dashes ++ body) ∷ []) ≡ lone body ∷ []
last_by body s none = rw (s, none) refl

-- an option that is the last word has no value
pub option_last : (word body : Text) (ws : List Text) → word ≡ dashes ++ body → same word dashes ≡ false → list_any is_equals body ≡ false → ws ≡ [] → arguments (word ∷ ws) ≡ lone body ∷ arguments ws
option_last word body ws e s none ends =
    ap (λ w. arguments (w ∷ ws)) e ∙ ap (λ x. arguments ((dashes ++ body) ∷ x)) ends
    ∙ last_by body (subst (λ w. same w dashes ≡ false) e s) none ∙ ap (λ x. lone body ∷ arguments x) (sym ends)

next_by : (body next : Text) (ws : List Text) → same (dashes ++ body) dashes ≡ false → list_any is_equals body ≡ false →
    arguments ((dashes ++ body) ∷ next ∷ ws) ≡ option body next ∷ arguments ws
next_by body next ws s none = rw (s, none) refl

-- the value of another is the next word
pub option_next : (word body next : Text) (ws behind : List Text) → word ≡ dashes ++ body → same word dashes ≡ false → list_any is_equals body ≡ false → ws ≡ next ∷ behind →
    arguments (word ∷ ws) ≡ option body next ∷ arguments behind
option_next word body next ws behind e s none more =
    ap (λ w. arguments (w ∷ ws)) e ∙ ap (λ x. arguments ((dashes ++ body) ∷ x)) more ∙ next_by body next behind (subst (λ w. same w dashes ≡ false) e s) none
