-- Where a table's name ends, and what a last bound has after it.
use Rattle.std.proofs.Common.{◌≡◌, ◌+◌, Bool, true, false, ◌||◌, nat_eq, List, [], ◌∷◌, ◌++◌, length, get_or, refl, sym, ap, ◌∙◌, arith, append_assoc, eq-eqb}
use Rattle.std.specs.Bool.{Decides}
use Rattle.std.specs.List.{list_any, position_or_len, starts_with}
use Rattle.std.proofs.lemmas.Bool.{or_from, false≢true, false_from_ne_true, ne_eqb}
use Rattle.std.proofs.lemmas.Bool.Decides.{Decides-eqb}
use Rattle.std.proofs.lemmas.Slice.Eq.{starts_is}
use Rattle.semantics.specs.Texts.{Text, bar, brace, same}
use Rattle.semantics.proofs.PieceLemmas.{equal_by_same}
use Rattle.key_space.specs.Parts.{ends_table}

absent_cons : {A : Type 0} (p : A → Bool) (x : A) (xs : List A) (b : Bool) → p x ≡ b → position_or_len p (x ∷ xs) ≡ length (x ∷ xs) → (position_or_len p xs ≡ length xs → list_any p xs ≡ false) → list_any p (x ∷ xs) ≡ false
absent_cons p x xs true e h ih = let z : 0 ≡ length (x ∷ xs) = rw e at h in absurd (omega (arith, z))
absent_cons p x xs false e h ih = let s : 1 + position_or_len p xs ≡ length (x ∷ xs) = rw e at h in or_from _ _ e (ih (omega (arith, s)))

-- where the first place that passes is the list's end, none passes
pub absent_by : {A : Type 0} (p : A → Bool) (xs : List A) → position_or_len p xs ≡ length xs → list_any p xs ≡ false
absent_by p [] h = refl
absent_by p (x ∷ xs) h = absent_cons p x xs (p x) refl h (absent_by p xs)

-- what begins after the name begins after nothing
pub starts-append : (t rest needle : Text) → starts_with nat_eq (t ++ rest) (t ++ needle) ≡ starts_with nat_eq rest needle
starts-append [] rest needle = refl
starts-append (b ∷ bs) rest needle = rw (eq-eqb b b refl) (starts-append bs rest needle)

same-append : (t u v : Text) → same (t ++ u) (t ++ v) ≡ same u v
same-append [] u v = refl
same-append (b ∷ bs) u v = rw (eq-eqb b b refl) (same-append bs u v)

-- a bound that begins with the name is judged by what follows it
pub ends_after : (table rest : Text) → ends_table table (table ++ rest) ≡ starts_with nat_eq rest (bar ∷ []) || same rest (brace ∷ [])
ends_after table rest = rw (starts-append table rest (bar ∷ []), same-append table rest (brace ∷ []))

longer : (table high more rest : Text) → high ≡ (table ++ more) ++ rest → starts_with nat_eq high table ≡ true
longer table high more rest e = (starts_is Decides-eqb high table _ refl).1 (more ++ rest) (e ∙ append_assoc table more rest)

-- a bound that does not begin with the name is of another table
pub ends_without : (table high : Text) → starts_with nat_eq high table ≡ false → ends_table table high ≡ false
ends_without table high h =
    or_from _ _
    (false_from_ne_true _ (λ e. false≢true (sym h ∙ longer table high (bar ∷ []) _ ((starts_is Decides-eqb high (table ++ bar ∷ []) _ refl).0 e))))
    (false_from_ne_true _ (λ e. false≢true (sym h ∙ (starts_is Decides-eqb high table _ refl).1 (brace ∷ []) (equal_by_same _ _ e))))

starts_bar : (rest : Text) (a : Bool) → Decides a (get_or rest 0 0 ≡ bar) → starts_with nat_eq rest (bar ∷ []) ≡ a
starts_bar [] a h = sym (false_from_ne_true a (λ e. let z : 0 ≡ 124 = h.0 e in omega (arith, z)))
starts_bar (x ∷ xs) true h = rw (eq-eqb bar x (sym (h.0 refl))) refl
starts_bar (x ∷ xs) false h = rw (ne_eqb bar x (λ e. false≢true (h.1 (sym e)))) refl

-- a bound that begins with the name is of the table exactly where `|` follows, or `}` alone
pub ends_by : (table high rest : Text) (a : Bool) → high ≡ table ++ rest → Decides a (get_or rest 0 0 ≡ bar) → ends_table table high ≡ (a || same rest (brace ∷ []))
ends_by table high rest a e h = ap (ends_table table) e ∙ ends_after table rest ∙ ap (λ b. b || same rest (brace ∷ [])) (starts_bar rest a h)
