-- A filled text that is read as a key.
use Rattle.std.proofs.Common.{◌≡◌, Bool, true, false, cond, nat_le, List, length, Option, Some, None, option_map, refl, sym, ap, ◌∙◌, subst}
use Rattle.std.specs.List.{join_with_byte}
use Rattle.std.proofs.lemmas.Bool.{and_parts, and_from, false≢true}
use Rattle.std.proofs.lemmas.Option.{none-some, same_Some}
use Rattle.semantics.specs.Texts.{Text, bar, is_key, names_table}
use Rattle.semantics.specs.Patterns.{Pattern, Slots, is_pattern, segment_texts, short, fill}
use Rattle.semantics.proofs.NameLemmas.{names_joined}
use Rattle.semantics.proofs.PatternLemmas.{segment_texts_take, segments_of_pattern, two_of_pattern}
use Rattle.key_pattern.specs.Pieces.{Joins}

-- what a pattern is filled with names a table
pub names_filled : (p : Pattern) (ts : List Text) (given : Slots) → is_pattern p ≡ true → segment_texts p given ≡ Some ts → names_table (join_with_byte bar ts) ≡ true
names_filled p ts given ok h =
    names_joined p ts given (two_of_pattern p ok) (and_parts _ _ (and_parts _ _ ok).0).1 (segments_of_pattern p ok) (segment_texts_take p ts given h)

filled_by : (p : Pattern) (given : Slots) (text : Text) (o : Option (List Text)) → segment_texts p given ≡ o → option_map (join_with_byte bar) o ≡ Some text → is_pattern p ≡ true
    → (fill p given ≡ short text) × (names_table text ≡ true)
filled_by p given text None e h ok = absurd (none-some text h)
filled_by p given text (Some ts) e h ok =
    let same : join_with_byte bar ts ≡ text = same_Some _ _ h in
    (rw e (ap short same), subst (λ t. names_table t ≡ true) same (names_filled p ts given ok e))

-- a joined text is a key exactly where it is short, and is then what is filled
pub filled : (p : Pattern) (given : Slots) (text : Text) → is_pattern p ≡ true → Joins p given text → (fill p given ≡ short text) × (names_table text ≡ true)
filled p given text ok h = filled_by p given text (segment_texts p given) refl h ok

-- a joined text that is a key is what is filled
pub filled_key : (p : Pattern) (given : Slots) (text : Text) → is_pattern p ≡ true → Joins p given text → is_key text ≡ true → fill p given ≡ Some text
filled_key p given text ok h key = (filled p given text ok h).0 ∙ ap (λ b. cond b (Some text) None) (and_parts (nat_le (length text) 512) (names_table text) key).0

too_long : (text : Text) (b : Bool) → nat_le (length text) 512 ≡ b → names_table text ≡ true → is_key text ≡ false → short text ≡ None
too_long text true e names h = absurd (false≢true (sym h ∙ and_from _ _ e names))
too_long text false e names h = rw e

-- a joined text that is no key is too long
pub filled_none : (p : Pattern) (given : Slots) (text : Text) → is_pattern p ≡ true → Joins p given text → is_key text ≡ false → fill p given ≡ None
filled_none p given text ok h none = let f = filled p given text ok h in f.0 ∙ too_long text (nat_le (length text) 512) refl f.1 none
