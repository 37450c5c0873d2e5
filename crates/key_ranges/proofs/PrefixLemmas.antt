-- Texts that begin with a given one, and the table that a text names.
use Rattle.std.proofs.Common.{◌≡◌, ℕ, ◌<◌, ◌≤◌, ◌-◌, Bool, true, false, ◌&&◌, ◌||◌, ◌==◌, nat_eq, [], ◌∷◌, ◌++◌, length, drop, refl, sym, ap, ◌∙◌, subst, ⊎_elim, arith, Less, Equal, Greater, length-append, append_assoc, eqb-true, eq-eqb}
use Rattle.std.specs.Ordering.{nat_cmp}
use Rattle.std.specs.Cmp.{nat_cmp_is}
use Rattle.std.specs.List.{starts_with, ends_with}
use Rattle.std.proofs.Math.Numerals.{one-add}
use Rattle.std.proofs.lemmas.Bool.{false≢true, cases_order, ne_eqb, and_from, or_from, or_left, or_right, or_parts}
use Rattle.std.proofs.lemmas.Bool.Decides.{Decides-eqb}
use Rattle.std.proofs.lemmas.List.{take_at}
use Rattle.std.proofs.lemmas.List.Folds.{list_any-append}
use Rattle.std.proofs.lemmas.Slice.Eq.{starts_is, ends_is}
use Rattle.semantics.specs.Texts.{Text, bar, brace, same, text_cmp, has_bar, table_of, within}
use Rattle.semantics.proofs.PieceLemmas.{Lacks}
use Rattle.key_ranges.specs.Ranges.{is_below, without_last, closed, prefix_range, just}
use Rattle.key_ranges.proofs.OrderLemmas.{is_up_to}

-- ---- beginnings

-- a text begins with another exactly where something follows that one
pub begins_with : (t rest : Text) → starts_with nat_eq (t ++ rest) t ≡ true
begins_with t rest = (starts_is Decides-eqb (t ++ rest) t _ refl).1 rest refl

-- what follows the beginning
pub rest_of : (key t : Text) → starts_with nat_eq key t ≡ true → (rest : Text) × (key ≡ t ++ rest)
rest_of key t h = (drop (length t) key, (starts_is Decides-eqb key t _ refl).0 h)

-- ---- the last byte

-- a text with one byte more, without its last byte
pub without_last_push : (t : Text) (b : ℕ) → without_last (t ++ b ∷ []) ≡ t
without_last_push t b = take_at t (b ∷ []) (length (t ++ b ∷ []) - 1) (omega (arith, length-append t (b ∷ [])))

-- a text with one byte more, with `}` in its place
pub closed_push : (t : Text) (b : ℕ) → closed (t ++ b ∷ []) ≡ t ++ brace ∷ []
closed_push t b = ap (λ u. u ++ brace ∷ []) (without_last_push t b)

-- a text that ends with a byte is the text without it, and the byte
pub last_byte : (t : Text) (b : ℕ) → ends_with nat_eq t (b ∷ []) ≡ true → t ≡ without_last t ++ b ∷ []
last_byte t b h = (ends_is Decides-eqb t (b ∷ []) _ refl).0 h

-- a text with one byte more ends with it
pub ends_with_push : (t : Text) (b : ℕ) → ends_with nat_eq (t ++ b ∷ []) (b ∷ []) ≡ true
ends_with_push t b = (ends_is Decides-eqb (t ++ b ∷ []) (b ∷ []) _ refl).1 t refl

-- ---- ranges by recursion on the key

-- the order of a byte and a greater one
pub less_is : (x y : ℕ) → x < y → nat_cmp x y ≡ Less
less_is x y h = sym (nat_cmp_is x y Less h)

-- of equal bytes
pub equal_is : (x y : ℕ) → x ≡ y → nat_cmp x y ≡ Equal
equal_is x y h = sym (nat_cmp_is x y Equal h)

-- of a byte and a lesser one
pub greater_is : (x y : ℕ) → y < x → nat_cmp x y ≡ Greater
greater_is x y h = sym (nat_cmp_is x y Greater h)

-- texts that begin alike are in the order of what follows
pub text_cmp-append : (t u v : Text) → text_cmp (t ++ u) (t ++ v) ≡ text_cmp u v
text_cmp-append [] u v = refl
text_cmp-append (b ∷ bs) u v = rw (equal_is b b refl) (text_cmp-append bs u v)

-- a key of one byte more lies between bounds of one byte more exactly where the bytes are equal and the key lies between the bounds
within_step : (b k : ℕ) (low high ks : Text) → within (record { low = b ∷ low; high = b ∷ high }) (k ∷ ks) ≡ (nat_eq b k && within (record { low = low; high = high }) ks)
within_step b k low high ks =
    ⊎_elim (λ (e : b ≡ k). rw (equal_is b k e, equal_is k b (sym e), eq-eqb b k e))
    (λ other. ⊎_elim
    (λ (h : b < k). let n : (b ≡ k → ⊥) = (λ e. omega arith) in rw (less_is b k h, greater_is k b h, ne_eqb b k n))
    (λ h. let n : (b ≡ k → ⊥) = (λ e. omega arith) in rw (greater_is b k h, ne_eqb b k n))
    other)
    (cases_order b k)

-- no text is below the empty one
not_below_nothing : (t : Text) → is_below t [] ≡ false
not_below_nothing [] = refl
not_below_nothing (b ∷ bs) = refl

-- the empty text is up to each
pub nothing_up_to : (t : Text) → is_up_to [] t ≡ true
nothing_up_to [] = refl
nothing_up_to (b ∷ bs) = refl

-- a text that begins with a byte from b on is not below the text of b alone
not_below_byte : (k b : ℕ) (ks : Text) → b ≤ k → is_below (k ∷ ks) (b ∷ []) ≡ false
not_below_byte k b ks h =
    ⊎_elim (λ (e : k ≡ b). rw (equal_is k b e) (not_below_nothing ks))
    (λ other. ⊎_elim (λ (l : k < b). absurd (omega arith)) (λ g. rw (greater_is k b g)) other)
    (cases_order k b)

-- a text lies from `|` on and below `}` exactly where it begins with `|`
between_bytes : (k : ℕ) (ks : Text) → within (record { low = bar ∷ []; high = brace ∷ [] }) (k ∷ ks) ≡ (nat_eq bar k && true)
between_bytes k ks =
    ⊎_elim (λ (e : bar ≡ k). rw (equal_is bar k e, less_is k brace (omega (arith, e)), eq-eqb bar k e) (and_from _ _ (nothing_up_to ks) refl))
    (λ other. ⊎_elim
    (λ (h : bar < k). let n : (bar ≡ k → ⊥) = (λ e. omega (arith, h, e)) in rw (less_is bar k h, ne_eqb bar k n) (not_below_byte k brace ks h))
    (λ h. let n : (bar ≡ k → ⊥) = (λ e. omega (arith, h, e)) in rw (greater_is bar k h, ne_eqb bar k n))
    other)
    (cases_order bar k)

-- a text lies from a text with `|` on and below the same with `}` exactly where it begins with the first
pub within_prefix : (t key : Text) → within (record { low = t ++ bar ∷ []; high = t ++ brace ∷ [] }) key ≡ starts_with nat_eq key (t ++ bar ∷ [])
within_prefix [] [] = refl
within_prefix [] (k ∷ ks) = between_bytes k ks
within_prefix (b ∷ bs) [] = refl
within_prefix (b ∷ bs) (k ∷ ks) = rw (within_step b k (bs ++ bar ∷ []) (bs ++ brace ∷ []) ks, within_prefix bs ks)

-- a prefix range holds the keys that begin with its text
pub within-prefix_range : (t key : Text) → within (prefix_range (t ++ bar ∷ [])) key ≡ starts_with nat_eq key (t ++ bar ∷ [])
within-prefix_range t key = rw (closed_push t bar) (within_prefix t key)

-- the range of one key holds it alone
pub within-just : (key other : Text) → within (just key) other ≡ same key other
within-just [] [] = refl
within-just [] (k ∷ ks) = not_below_byte k 0 ks (omega arith)
within-just (b ∷ bs) [] = refl
within-just (b ∷ bs) (k ∷ ks) = rw (within_step b k bs (bs ++ 0 ∷ []) ks, within-just bs ks)

-- ---- the table that a text names

-- `|` ends the name
pub table_of-cut : (b : ℕ) (bs : Text) → (b == bar) ≡ true → table_of (b ∷ bs) ≡ []
table_of-cut b bs e = rw e

-- another byte belongs to it
pub table_of-onto : (b : ℕ) (bs : Text) → (b == bar) ≡ false → table_of (b ∷ bs) ≡ b ∷ table_of bs
table_of-onto b bs e = rw (e, one-add)

-- what stands before the first `|` is the table's name
pub table_of-append : (name rest : Text) → Lacks bar name → table_of (name ++ bar ∷ rest) ≡ name
table_of-append [] rest h = table_of-cut bar rest (eq-eqb bar bar refl)
table_of-append (b ∷ bs) rest h =
    let parts = or_parts (b == bar) (has_bar bs) h in
    table_of-onto b (bs ++ bar ∷ rest) parts.0 ∙ ap (λ t. b ∷ t) (table_of-append bs rest parts.1)

-- a text with `|` in it has one
pub has_bar-append : (t rest : Text) → has_bar (t ++ bar ∷ rest) ≡ true
has_bar-append t rest = list_any-append (λ b. b == bar) t (bar ∷ rest) ∙ or_right (has_bar t) _ (or_left _ (has_bar rest) (eq-eqb bar bar refl))

-- a text's name, `|` and what follows
abbrev pub Named : Text → Type 0
Named t = (rest : Text) × (t ≡ table_of t ++ bar ∷ rest) × Lacks bar (table_of t)

-- one byte more
named_by : (b : ℕ) (bs : Text) (x : Bool) → (b == bar) ≡ x → (has_bar bs ≡ true → Named bs) → (x || has_bar bs) ≡ true → Named (b ∷ bs)
named_by b bs true e ih h =
    let none = table_of-cut b bs e in
    (bs, ap (λ x. x ∷ bs) (eqb-true b bar e) ∙ ap (λ t. t ++ bar ∷ bs) (sym none), subst (Lacks bar) (sym none) refl)
named_by b bs false e ih h =
    let more = table_of-onto b bs e in
    let old = ih h in
    (old.0, ap (λ t. b ∷ t) old.1 ∙ ap (λ t. t ++ bar ∷ old.0) (sym more), subst (Lacks bar) (sym more) (or_from (b == bar) _ e old.2))

-- a text with `|` in it begins with the name of its table and `|`
pub named : (t : Text) → has_bar t ≡ true → Named t
named [] h = absurd (false≢true h)
named (b ∷ bs) h = named_by b bs (b == bar) refl (named bs) h

-- what is said of a name is said of the table of a text that begins with it and `|`
pub table_from_beginning : (t name : Text) → Lacks bar name → starts_with nat_eq t (name ++ bar ∷ []) ≡ true → table_of t ≡ name
table_from_beginning t name lacks h =
    let w = rest_of t (name ++ bar ∷ []) h in
    ap table_of (w.1 ∙ append_assoc name (bar ∷ []) w.0) ∙ table_of-append name w.0 lacks

-- a text begins with its table's name and `|`
pub begins_with_table : (t more : Text) → has_bar t ≡ true → starts_with nat_eq (t ++ more) (table_of t ++ bar ∷ []) ≡ true
begins_with_table t more h =
    let w = named t h in
    let whole : t ++ more ≡ (table_of t ++ bar ∷ []) ++ (w.0 ++ more) =
    ap (λ u. u ++ more) w.1 ∙ append_assoc (table_of t) (bar ∷ w.0) more ∙ sym (append_assoc (table_of t) (bar ∷ []) (w.0 ++ more)) in
    subst (λ u. starts_with nat_eq u (table_of t ++ bar ∷ []) ≡ true) (sym whole) (begins_with (table_of t ++ bar ∷ []) (w.0 ++ more))

-- what follows a text with `|` in it leaves its table
pub table_of-more : (t more : Text) → has_bar t ≡ true → table_of (t ++ more) ≡ table_of t
table_of-more t more h = table_from_beginning (t ++ more) (table_of t) (named t h).2 (begins_with_table t more h)
