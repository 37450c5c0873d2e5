-- Options of one word and of two, and arguments in another order.
use Rattle.std.proofs.Common.{◌≡◌, Bool, true, false, ◌&&◌, ◌+◌, List, [], ◌∷◌, ◌++◌, length, take, drop, refl, sym, ap, ◌∙◌, arith}
use Rattle.std.proofs.Math.Seq.{take-append_seam, drop-append-add}
use Rattle.std.specs.Prelude.{Option, Some, None, filter_map}
use Rattle.std.specs.List.{list_any, position_or_len, before_first, after_first, cons_option}
use Rattle.std.proofs.lemmas.List.Elements.{filter_map-append}
use Rattle.std.proofs.lemmas.Bool.{or_parts, or_right}
use Rattle.semantics.specs.Texts.{Text, same}
use Rattle.command_words.specs.Arguments.{Argument, option, arguments, dashes, is_equals, Wanted, given_by, at_most_one, given_once}
use Rattle.command_words.specs.Commands.{is_taken, are_taken, command_by}
use Rattle.command_words.proofs.ArgumentLemmas.{option_next}
use Rattle.command_words.specs.Laws.{OneWordIsTwo, OrderIsFree}

-- ---- arguments in another order

-- two answers of tests in another order
and_swap : (x y z : Bool) → (x && (y && z)) ≡ (y && (x && z))
and_swap true y z = refl
and_swap false true z = refl
and_swap false false z = refl

-- two arguments that change places are taken as before
taken_swap : (options : List Text) (before : List Argument) (a b : Argument) (after : List Argument) → are_taken options (before ++ a ∷ b ∷ after) ≡ are_taken options (before ++ b ∷ a ∷ after)
taken_swap options [] a b after = and_swap (is_taken options a) (is_taken options b) (are_taken options after)
taken_swap options (x ∷ before) a b after = ap (λ t. is_taken options x && t) (taken_swap options before a b after)

-- of two texts and others there is not at most one
two_are_none : (ts : List Text) (t u : Text) (us : List Text) → at_most_one (ts ++ t ∷ u ∷ us) ≡ None
two_are_none [] t u us = refl
two_are_none (r ∷ []) t u us = refl
two_are_none (r ∷ s ∷ ts) t u us = refl

-- texts that change places
texts_swap : (ts : List Text) (x y : Option Text) (us : List Text) → at_most_one (ts ++ cons_option x (cons_option y us)) ≡ at_most_one (ts ++ cons_option y (cons_option x us))
texts_swap ts None y us = refl
texts_swap ts (Some t) None us = refl
texts_swap ts (Some t) (Some u) us = two_are_none ts t u us ∙ sym (two_are_none ts u t us)

-- two arguments that change places give what they gave
given_swap : (wanted : Wanted) (before : List Argument) (a b : Argument) (after : List Argument) → given_once wanted (before ++ a ∷ b ∷ after) ≡ given_once wanted (before ++ b ∷ a ∷ after)
given_swap wanted before a b after =
    ap at_most_one (filter_map-append (given_by wanted) before (a ∷ b ∷ after))
    ∙ texts_swap (filter_map (given_by wanted) before) (given_by wanted a) (given_by wanted b) (filter_map (given_by wanted) after)
    ∙ sym (ap at_most_one (filter_map-append (given_by wanted) before (b ∷ a ∷ after)))

-- arguments that are taken alike and give the same form one command
alike : (word : Text) (args others : List Argument) → ((options : List Text) → are_taken options args ≡ are_taken options others) →
    ((wanted : Wanted) → given_once wanted args ≡ given_once wanted others) → command_by word args ≡ command_by word others
alike word args others taken given = simp (taken, given)

-- two arguments that are side by side may change places
pub order_is_free : OrderIsFree
order_is_free word before a b after =
    alike word (before ++ a ∷ b ∷ after) (before ++ b ∷ a ∷ after) (λ options. taken_swap options before a b after) (λ wanted. given_swap wanted before a b after)

-- ---- options of one word and of two

-- the word of an option of one word is not the word that ends the options
long_word : (name value : Text) → same (dashes ++ name ++ 61 ∷ value) dashes ≡ false
long_word [] value = refl
long_word (b ∷ bs) value = refl

-- it has its value
has_equals : (name value : Text) → list_any is_equals (name ++ 61 ∷ value) ≡ true
has_equals [] value = refl
has_equals (b ∷ bs) value = or_right (is_equals b) (list_any is_equals (bs ++ 61 ∷ value)) (has_equals bs value)

-- its `=` stands behind the name
equals_behind : (name value : Text) → list_any is_equals name ≡ false → position_or_len is_equals (name ++ 61 ∷ value) ≡ length name
equals_behind [] value none = refl
equals_behind (b ∷ bs) value none =
    let parts = or_parts (is_equals b) (list_any is_equals bs) none in
    rw (parts.0, equals_behind bs value parts.1) (omega arith)

-- so that the name stands before it
name_before : (name value : Text) → list_any is_equals name ≡ false → before_first is_equals (name ++ 61 ∷ value) ≡ name
name_before name value none = ap (λ n. take n (name ++ 61 ∷ value)) (equals_behind name value none) ∙ take-append_seam name (61 ∷ value)

-- and the value behind it
value_behind : (name value : Text) → list_any is_equals name ≡ false → after_first is_equals (name ++ 61 ∷ value) ≡ value
value_behind name value none = ap (λ n. drop (n + 1) (name ++ 61 ∷ value)) (equals_behind name value none) ∙ drop-append-add name (61 ∷ value) 1

-- the option of one word that stands first
first_word : (name value : Text) (ws : List Text) → list_any is_equals name ≡ false → arguments ((dashes ++ name ++ 61 ∷ value) ∷ ws) ≡ option name value ∷ arguments ws
first_word name value [] none = rw (long_word name value, has_equals name value, name_before name value none, value_behind name value none) refl
first_word name value (w ∷ ws) none = rw (long_word name value, has_equals name value, name_before name value none, value_behind name value none) refl

-- an option of one word is that of two
pub one_word_is_two : OneWordIsTwo
one_word_is_two name value ws s none = first_word name value ws none ∙ sym (option_next (dashes ++ name) name value (value ∷ ws) ws refl s none refl)
