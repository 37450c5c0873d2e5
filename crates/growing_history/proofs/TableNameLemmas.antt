-- The table of the keys that fit a pattern.
use Rattle.std.proofs.Common.{◌≡◌, ℕ, ◌==◌, Bool, true, false, List, [], ◌∷◌, get_or, refl, sym, ap, ◌∙◌, subst}
use Rattle.std.proofs.lemmas.Bool.{and_parts, false≢true}
use Rattle.semantics.specs.Texts.{Text, bar, table_of}
use Rattle.semantics.specs.Patterns.{literal, slot, Pattern, begins_with_table, segments}
use Rattle.semantics.proofs.PieceLemmas.{HasParts, parts_of, equal_by_same, same_by_equal}
use Rattle.semantics.proofs.PatternLemmas.{SuitAll, fits_suit}
use Rattle.key_ranges.proofs.PrefixLemmas.{table_of-cut, table_of-onto}
use Rattle.growing_history.specs.Changes.{has_table}
use Rattle.growing_history.specs.ChangeLaws.{TableOfFitting}

-- the first of some texts
abbrev first_text : List Text → Text
first_text ts = get_or ts 0 []

-- the byte `|` ends a segment
segments-cut : (b : ℕ) (bs : Text) → (b == bar) ≡ true → segments (b ∷ bs) ≡ [] ∷ segments bs
segments-cut b bs e = rw e

-- another byte goes to the first segment
segments_onto : (b : ℕ) (bs t : Text) (ts : List Text) → (b == bar) ≡ false → segments bs ≡ t ∷ ts → segments (b ∷ bs) ≡ (b ∷ t) ∷ ts
segments_onto b bs t ts e h = rw (e, h)

-- one byte more
first_by : (b : ℕ) (bs : Text) (x : Bool) → (b == bar) ≡ x → HasParts bar bs → table_of bs ≡ first_text (segments bs) → table_of (b ∷ bs) ≡ first_text (segments (b ∷ bs))
first_by b bs true e parts ih = table_of-cut b bs e ∙ sym (ap first_text (segments-cut b bs e))
first_by b bs false e parts ih =
    table_of-onto b bs e ∙ ap (λ t. b ∷ t) (ih ∙ ap first_text parts.2) ∙ sym (ap first_text (segments_onto b bs parts.0 parts.1 e parts.2))

-- the table of a text is the first of its segments
table_is_first : (key : Text) → table_of key ≡ first_text (segments key)
table_is_first [] = refl
table_is_first (b ∷ bs) = first_by b bs (b == bar) refl (parts_of bar bs) (table_is_first bs)

-- segments that suit a pattern begin with its table's name
suits_table : (p : Pattern) (ts : List Text) → begins_with_table p ≡ true → SuitAll p ts → (l : Text) × (ss : Pattern) × (p ≡ literal l ∷ ss) × (first_text ts ≡ l)
suits_table [] ts begins suit = absurd (false≢true begins)
suits_table (literal l ∷ ss) [] begins suit = absurd suit
suits_table (literal l ∷ ss) (t ∷ ts) begins suit = (l, ss, refl, sym suit.0)
suits_table (slot place width ∷ ss) ts begins suit = absurd (false≢true begins)

-- of the keys that fit a pattern each is of the pattern's table
pub table_of_fitting : TableOfFitting
table_of_fitting p table key pattern fit =
    let w = suits_table p (segments key) (and_parts _ (begins_with_table p) (and_parts _ _ pattern).0).1 (fits_suit p key fit) in
    let of_key : table_of key ≡ w.0 = table_is_first key ∙ w.3 in (
      λ has. of_key ∙ equal_by_same w.0 table (subst (λ q. has_table q table ≡ true) w.2 has),
      λ is. subst (λ q. has_table q table ≡ true) (sym w.2) (same_by_equal w.0 table (sym of_key ∙ is)),
    )
