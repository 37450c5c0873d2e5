-- The name of a table in front of a text: a name and `|`, and the joined texts of a pattern.
use Rattle.std.proofs.Common.{◌≡◌, suc, ◌+◌, true, ◌==◌, nat_le, List, [], ◌∷◌, ◌++◌, length, ap, ◌∙◌, subst, refl, arith}
use Rattle.std.specs.List.{list_all, list_any, join_with_byte, position_or_len}
use Rattle.std.proofs.lemmas.Bool.{and_parts, and_from, or_parts, or_right, false≢true}
use Rattle.semantics.specs.Texts.{Text, bar, has_bar, table_of, names_table}
use Rattle.semantics.specs.Patterns.{literal, slot, Pattern, Slots, no_slots, begins_with_table, is_literal, is_literal_byte, is_segment, TakeAll}
use Rattle.semantics.proofs.PieceLemmas.{Lacks}
use Rattle.semantics.proofs.BindLemmas.{texts-no_slots}
use Rattle.semantics.proofs.PatternLemmas.{text_lacks}

-- a name and `|` in front of a text
pub has_bar-named : (name rest : Text) → has_bar (name ++ bar ∷ rest) ≡ true
has_bar-named [] rest = refl
has_bar-named (b ∷ bs) rest = or_right _ _ (has_bar-named bs rest)

-- such a text is of the table with the name
pub table_of-named : (name rest : Text) → Lacks bar name → table_of (name ++ bar ∷ rest) ≡ name
table_of-named [] rest h = refl
table_of-named (b ∷ bs) rest h =
    let parts = or_parts (b == bar) (list_any (λ x. x == bar) bs) h in
    let next = position_or_len (λ x. x == bar) (bs ++ bar ∷ rest) in
    let step : 1 + next ≡ suc next = omega arith in
    rw (parts.0, step) (ap (λ r. b ∷ r) (table_of-named bs rest parts.1))

-- a text that begins with a name of 1 to 64 bytes and `|` names a table
pub names_table-named : (name rest : Text) → Lacks bar name → nat_le 1 (length name) ≡ true → nat_le (length name) 64 ≡ true → names_table (name ++ bar ∷ rest) ≡ true
names_table-named name rest h long short =
    let e = ap length (table_of-named name rest h) in
    and_from _ _ (and_from _ _ (has_bar-named name rest) (ap (nat_le 1) e ∙ long)) (ap (λ n. nat_le n 64) e ∙ short)

-- the texts of a pattern's segments, joined, name a table
pub names_joined : (p : Pattern) (ts : List Text) (given : Slots) → nat_le 2 (length p) ≡ true → begins_with_table p ≡ true → list_all is_segment p ≡ true → TakeAll p ts given → names_table (join_with_byte bar ts) ≡ true
names_joined [] ts given two begins ok h = absurd (false≢true two)
names_joined (slot place width ∷ ss) ts given two begins ok h = absurd (false≢true begins)
names_joined (literal l ∷ []) ts given two begins ok h = absurd (false≢true two)
names_joined (literal l ∷ s ∷ ss) [] given two begins ok h = absurd h
names_joined (literal l ∷ s ∷ ss) (t ∷ []) given two begins ok h = absurd h.1
names_joined (literal l ∷ s ∷ ss) (t ∷ u ∷ us) given two begins ok h =
    let fine : is_literal l ≡ true = (and_parts (is_literal l) (list_all is_segment (s ∷ ss)) ok).0 in
    let lacks = text_lacks (literal l) l no_slots fine texts-no_slots refl in
    subst (λ x. names_table (x ++ bar ∷ join_with_byte bar (u ∷ us)) ≡ true) h.0
    (names_table-named l (join_with_byte bar (u ∷ us)) lacks (and_parts (nat_le 1 (length l)) (list_all is_literal_byte l) fine).0 begins)
