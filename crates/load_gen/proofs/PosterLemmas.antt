-- The poster whom a key of the load names.
use Rattle.std.proofs.Common.{◌≡◌, ℕ, zero, suc, ◌+◌, ◌-◌, ◌%◌, ◌<◌, ◌≤◌, ◌==◌, Bool, true, false, cond, [], ◌∷◌, ◌++◌, length, take, drop, replicate, decimal, refl, sym, ap, ◌∙◌, arith, length-append}
use Rattle.std.specs.Prelude.{nat_lt, ⊤}
use Rattle.std.specs.List.{AllByRecursion}
use Rattle.std.specs.Str.Parse.{digits_value}
use Rattle.std.proofs.lemmas.Fmt.{length-decimal-le, decimal_is_IsNumeral}
use Rattle.std.proofs.lemmas.List.{length-replicate}
use Rattle.std.proofs.Math.Seq.{drop-append-add, take-append_seam}
use Rattle.semantics.specs.Texts.{Text, bar}
use Rattle.semantics.specs.Histories.{Write, put, remove, declare, drop_join}
use Rattle.rand_pcg.specs.Lcg.{Lcg}
use Rattle.join_types.specs.Writes.{plain_write}
use Rattle.load_gen.specs.Keys.{padded, subscription, post, vote}
use Rattle.load_gen.specs.Plans.{words_of, rest_of, act_of_kind, act_of, acts_from, planned}
use Rattle.load_gen.specs.declared.acts.Act.{Act}
use Rattle.load_gen.specs.declared.acts.Act.TheVariants.{Change, Look}

-- ---- numbers with zeros in front

-- zeros in front change no number
zeros_in_front : (z : ℕ) (ds : Text) → digits_value 10 (replicate z 48 ++ ds) ≡ digits_value 10 ds
zeros_in_front zero ds = refl
zeros_in_front (suc z) ds = zeros_in_front z ds

value_of_padded : (width n : ℕ) → n < 10000 → digits_value 10 (padded width n) ≡ n
value_of_padded width n few = zeros_in_front (width - length (decimal n)) (decimal n) ∙ (decimal_is_IsNumeral n (omega arith)).1

length-padded : (n : ℕ) → n < 10000 → length (padded 4 n) ≡ 4
length-padded n few =
    let digits : length (decimal n) ≤ 4 = length-decimal-le 4 n (omega arith) (omega arith) (omega arith) in
    let both = length-append (replicate (4 - length (decimal n)) 48) (decimal n) in
    let zeros : length (replicate {A = ℕ} (4 - length (decimal n)) 48) ≡ 4 - length (decimal n) = length-replicate (4 - length (decimal n)) 48 in
    omega arith

-- ---- the poster in a key

-- what stands behind four bytes and one more, and the four bytes
behind_four : (front : Text) (byte : ℕ) (back : Text) → length front ≡ 4 → drop 5 (front ++ byte ∷ back) ≡ back
behind_four front byte back four =
    let five : 5 ≡ length front + 1 = omega arith in
    ap (λ (n : ℕ). drop n (front ++ byte ∷ back)) five ∙ drop-append-add front (byte ∷ back) 1

first_four : (front back : Text) → length front ≡ 4 → take 4 (front ++ back) ≡ front
first_four front back four = ap (λ (n : ℕ). take n (front ++ back)) (sym four) ∙ take-append_seam front back

-- the number of four digits that stands second in a subscription, and first in every other key
abbrev pub poster_in : Text → ℕ
poster_in [] = 0
poster_in (letter ∷ others) = cond (letter == 115) (digits_value 10 (drop 6 others)) (digits_value 10 (take 4 (drop 1 others)))

in_subscription : (user poster : ℕ) → user < 10000 → poster < 10000 → poster_in (subscription user poster) ≡ poster
in_subscription user poster few_users few =
    ap (digits_value 10) (behind_four (padded 4 user) bar (padded 4 poster) (length-padded user few_users)) ∙ value_of_padded 4 poster few

in_post : (poster time : ℕ) → poster < 10000 → poster_in (post poster time) ≡ poster
in_post poster time few =
    ap (digits_value 10) (first_four (padded 4 poster) (bar ∷ padded 8 time) (length-padded poster few)) ∙ value_of_padded 4 poster few

in_vote : (poster user : ℕ) → poster < 10000 → poster_in (vote poster user) ≡ poster
in_vote poster user few =
    ap (digits_value 10) (first_four (padded 4 poster) (bar ∷ padded 4 user) (length-padded poster few)) ∙ value_of_padded 4 poster few

-- ---- acts whose keys name their posters

-- the write changes a key that names the poster
abbrev pub Names : ℕ → Write → Type 0
Names poster (put key value) = poster_in key ≡ poster
Names poster (remove key) = poster_in key ≡ poster
Names poster (declare join) = ⊥
Names poster (drop_join at) = ⊥

-- the act reads, or writes such a key of its poster
abbrev pub IsNamed : Act → Type 0
IsNamed (Change poster write) = Names poster (plain_write write)
IsNamed (Look poster user) = ⊤

-- of two acts that are so each choice is
chosen : (b : Bool) (act other : Act) → IsNamed act → IsNamed other → IsNamed (cond b act other)
chosen true act other named rest = named
chosen false act other named rest = rest

named_of_kind : (kind user poster time number : ℕ) → user < 10000 → poster < 10000 → IsNamed (act_of_kind kind user poster time number)
named_of_kind kind user poster time number few_users few =
    chosen (nat_lt kind 10) _ _ (in_subscription user poster few_users few)
    (chosen (nat_lt kind 15) _ _ (in_subscription user poster few_users few)
    (chosen (nat_lt kind 55) _ _ (in_post poster number few)
    (chosen (nat_lt kind 60) _ _ (in_post poster (1 + time % number) few)
    (chosen (nat_lt kind 70) _ _ (in_vote poster user few)
    (chosen (nat_lt kind 75) _ _ (in_vote poster user few) tt)))))

below_users : (word users : ℕ) → 1 ≤ users → users ≤ 9999 → word % users < 10000
below_users word users some few = omega arith

named_act : (number users : ℕ) (g : Lcg) → 1 ≤ users → users ≤ 9999 → IsNamed (act_of (words_of g) number users)
unfolding act_of
named_act number users g some few =
    named_of_kind ((words_of g).kind % 100) ((words_of g).user % users) ((words_of g).poster % users) (words_of g).time number
    (below_users (words_of g).user users some few) (below_users (words_of g).poster users some few)

named_from : (users number count : ℕ) (g : Lcg) → 1 ≤ users → users ≤ 9999 → AllByRecursion IsNamed (acts_from users number count g)
named_from users number zero g some few = tt
named_from users number (suc count) g some few = (named_act number users g some few, named_from users (number + 1) count (rest_of g) some few)

-- each act of a load is so
pub planned_are_named : (number steps users : ℕ) → 1 ≤ users → users ≤ 9999 → AllByRecursion IsNamed (planned number steps users)
planned_are_named number steps users some few = named_from users 1 steps _ some few
