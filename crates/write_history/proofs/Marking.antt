-- The words of the passes: what they allow, and what is left of it once one of them changes.
use Rattle.std.proofs.Common.{length-set, ◌≡◌, ◌≢◌, ℕ, zero, suc, replicate, ◌++◌, ◌⊎◌, nat_le, ◌+◌, ◌-◌, ◌<◌, ◌≤◌, ◌∷◌, List, length, set, get_or, min, nat_lt, true, false, if◌then◌else◌, refl, sym, ap, ◌∙◌, subst, ⊎_elim, arith}
use mathlib.Core.Logic.{dite}
use native.Mathlib.Decide.{ℕ_discrete}
use lib.Seq.{get_or-set_same, get_or-set_other}
use Rattle.std.proofs.lemmas.List.{length-append}
use Rattle.std.proofs.lemmas.Bool.{lt-ltb, le-ltb}
use Rattle.std.proofs.lemmas.Bool.Decides.{leb_tells}
use Rattle.write_history.specs.Marks.{before, no_pin, pins, words_of, allowed, first_word, first_mark, AllAllow, IsMarked, IsLow, IsPlaced}
use Rattle.write_history.specs.Rule.{first_words}
use Rattle.write_history.specs.Seats.{Apart, HasMark}
use Rattle.write_history.specs.declared.known.Kinds.{Kinds}
use Rattle.write_history.specs.declared.known.Mark.{Mark}
use Rattle.write_history.specs.declared.known.Mark.TheVariants.{Plain, Free, Pinned, Noted}
use Rattle.write_history.specs.declared.known.Role.{Role}
use Rattle.write_history.specs.declared.known.Role.TheVariants.{Deals, Numbered, Notes}

-- a later position allows no less
pub before_more : (m n : ℕ) → m ≤ n → before m ≤ before n
unfolding before
before_more m n less = omega arith

pub no_pin_is : no_pin ≡ 281474976710656
unfolding no_pin
no_pin_is = refl

pub before_is : (n : ℕ) → before n ≡ n - 65536
unfolding before
before_is n = refl

pub before_near : (n p : ℕ) → n ≤ p + 65536 → before n ≤ p
unfolding before
before_near n p near = omega arith

pub before_under : (n : ℕ) → before n ≤ n
unfolding before
before_under n = omega arith

-- the word of a pass with a pin, and of one that notes positions
pub allowed_pin : (kinds : Kinds) (number word : ℕ) → number < pins kinds → allowed kinds number word ≡ before word
unfolding allowed
allowed_pin kinds number word less = rw (lt-ltb number (pins kinds) less)

pub allowed_note : (kinds : Kinds) (number word : ℕ) → pins kinds ≤ number → allowed kinds number word ≡ word
unfolding allowed
allowed_note kinds number word less = rw (le-ltb number (pins kinds) less)

-- the smaller of two
pub min_first : (a b : ℕ) → min a b ≤ a
min_first a b = omega arith

pub min_second : (a b : ℕ) → min a b ≤ b
min_second a b = omega arith

-- one word changes, and allows the floor too
pub allow_set : (kinds : Kinds) (count low : ℕ) (words : List ℕ) (number x : ℕ) → number < length words → low ≤ allowed kinds number x → AllAllow kinds count low words → AllAllow kinds count low (set words number x)
allow_set kinds count low words number x there now all n less = dite (ℕ_discrete n number)
    (λ (same : n ≡ number). subst (λ k. low ≤ allowed kinds k (get_or (set words number x) k 0)) (sym same)
    (subst (λ w. low ≤ allowed kinds number w) (sym (get_or-set_same words number x 0 there)) now))
    (λ other. subst (λ w. low ≤ allowed kinds n w) (sym (get_or-set_other words number n x 0 other)) (all n less))

-- one word changes, and allows no less than it did
pub allow_more : (kinds : Kinds) (count low : ℕ) (words : List ℕ) (number x : ℕ) → allowed kinds number (get_or words number 0) ≤ allowed kinds number x → number < length words →
    AllAllow kinds count low words → AllAllow kinds count low (set words number x)
allow_more kinds count low words number x more there all n less = dite (ℕ_discrete n number)
    (λ (same : n ≡ number).
    let old : low ≤ allowed kinds number (get_or words number 0) = subst (λ k. low ≤ allowed kinds k (get_or words k 0)) same (all n less) in
    subst (λ k. low ≤ allowed kinds k (get_or (set words number x) k 0)) (sym same)
    (subst (λ w. low ≤ allowed kinds number w) (sym (get_or-set_same words number x 0 there)) (omega arith)))
    (λ other. subst (λ w. low ≤ allowed kinds n w) (sym (get_or-set_other words number n x 0 other)) (all n less))

-- one word more is looked at, and the floor is lowered to what it allows
pub allow_next : (kinds : Kinds) (count low lower : ℕ) (words : List ℕ) → lower ≤ low → lower ≤ allowed kinds count (get_or words count 0) → AllAllow kinds count low words → AllAllow kinds (count + 1) lower words
allow_next kinds count low lower words less now all n short = dite (ℕ_discrete n count)
    (λ (same : n ≡ count). subst (λ k. lower ≤ allowed kinds k (get_or words k 0)) (sym same) now)
    (λ (other : n ≢ count). let old = all n (let ne = other in omega arith) in omega arith)

-- another pass's word leaves what is known of a word
pub marked_else : (kinds : Kinds) (words : List ℕ) (number n x : ℕ) (mark : Mark) → n ≢ number → IsMarked kinds words n mark → IsMarked kinds (set words number x) n mark
marked_else kinds words number n x Plain other is = tt
marked_else kinds words number n x Free other is = (is.0, get_or-set_other words number n x 0 other ∙ is.1)
marked_else kinds words number n x (Pinned p) other is = (is.0, get_or-set_other words number n x 0 other ∙ is.1)
marked_else kinds words number n x (Noted p) other is = (is.0, is.1, get_or-set_other words number n x 0 other ∙ is.2)

-- and so for each seat that has another number
pub has_mark_else : (kinds : Kinds) (words : List ℕ) (number x : ℕ) (role : Role) (mark : Mark) → Apart role (Numbered number) → HasMark kinds words role mark → HasMark kinds (set words number x) role mark
has_mark_else kinds words number x (Deals next) mark apart has = λ n past short.
    get_or-set_other words number n x 0 (λ same. absurd (omega arith)) ∙ has n past short
has_mark_else kinds words number x (Numbered n) mark apart has = marked_else kinds words number n x mark apart has
has_mark_else kinds words number x Notes mark apart has = tt

-- the floor is one that the word of a pass allows
pub low_of : (kinds : Kinds) (words : List ℕ) (number floor : ℕ) (mark : Mark) → AllAllow kinds (words_of kinds) floor words → IsMarked kinds words number mark → IsLow mark floor
low_of kinds words number floor Plain all is = tt
low_of kinds words number floor Free all is = tt
low_of kinds words number floor (Pinned p) all is =
    let first : number < pins kinds = is.0 in
    let low = all number (omega arith) in
    subst (λ w. floor ≤ w) (allowed_pin kinds number (get_or words number 0) first ∙ ap before is.1) low
low_of kinds words number floor (Noted p) all is =
    subst (λ w. floor ≤ w) (allowed_note kinds number (get_or words number 0) is.0 ∙ is.2) (all number is.1)

-- a lower floor is allowed too
pub lower : (mark : Mark) (floor less : ℕ) → less ≤ floor → IsLow mark floor → IsLow mark less
lower Plain floor less under low = tt
lower Free floor less under low = tt
lower (Pinned p) floor less under low = omega arith
lower (Noted p) floor less under low = omega arith

-- of a number that is dealt
pub mark_of_first : (kinds : Kinds) (words : List ℕ) (number : ℕ) → (number < words_of kinds → get_or words number 0 ≡ first_word kinds number) → IsMarked kinds words number (first_mark kinds number)
unfolding first_mark first_word
mark_of_first kinds words number first = ⊎_elim
    (λ (t : (nat_le (suc number) (pins kinds) ≡ true) × (suc number ≤ pins kinds)).
    let less : number < pins kinds = omega (arith, t.1) in
    let short : number < words_of kinds = omega (arith, t.1) in
    let is : first_mark kinds number ≡ Free = rw (lt-ltb number (pins kinds) less) in
    let word : first_word kinds number ≡ no_pin = rw (lt-ltb number (pins kinds) less) in
    subst (IsMarked kinds words number) (sym is) (less, first short ∙ word))
    (λ (t : (nat_le (suc number) (pins kinds) ≡ false) × (pins kinds < suc number)).
    let past : pins kinds ≤ number = omega (arith, t.1) in
    let word : first_word kinds number ≡ 0 = rw (le-ltb number (pins kinds) past) in
    ⊎_elim
    (λ (t' : (nat_le (suc number) (words_of kinds) ≡ true) × (suc number ≤ words_of kinds)).
    let short : number < words_of kinds = omega (arith, t'.1) in
    let is : first_mark kinds number ≡ Noted 0 =
    ap (λ b. if b then Free else (if nat_lt number (words_of kinds) then Noted 0 else Plain)) (le-ltb number (pins kinds) past)
    ∙ ap (λ b. if b then Noted 0 else Plain) (lt-ltb number (words_of kinds) short) in
    subst (IsMarked kinds words number) (sym is) (past, short, first short ∙ word))
    (λ (t' : (nat_le (suc number) (words_of kinds) ≡ false) × (words_of kinds < suc number)).
    let over : words_of kinds ≤ number = omega (arith, t'.1) in
    let is : first_mark kinds number ≡ Plain =
    ap (λ b. if b then Free else (if nat_lt number (words_of kinds) then Noted 0 else Plain)) (le-ltb number (pins kinds) past)
    ∙ ap (λ b. if b then Noted 0 else Plain) (le-ltb number (words_of kinds) over) in
    subst (IsMarked kinds words number) (sym is) tt)
    (leb_tells (suc number) (words_of kinds)))
    (leb_tells (suc number) (pins kinds))

-- the words at the start
repeated_at : (n x number : ℕ) (ys : List ℕ) → number < n → get_or (replicate n x ++ ys) number 0 ≡ x
repeated_at zero x number ys less = absurd (omega arith)
repeated_at (suc n) x zero ys less = refl
repeated_at (suc n) x (suc number) ys less = repeated_at n x number ys (omega arith)

zero_at : (n number : ℕ) → ◌≡◌ {A = ℕ} (get_or (replicate n 0) number 0) 0
zero_at zero number = refl
zero_at (suc n) zero = refl
zero_at (suc n) (suc number) = zero_at n number

repeated_past : (n x m number : ℕ) → n ≤ number → ◌≡◌ {A = ℕ} (get_or (replicate n x ++ replicate m 0) number 0) 0
repeated_past zero x m number past = zero_at m number
repeated_past (suc n) x m zero past = absurd (omega arith)
repeated_past (suc n) x m (suc number) past = repeated_past n x m number (omega arith)

repeated_length : (n x : ℕ) → length (replicate n x) ≡ n
repeated_length zero x = refl
repeated_length (suc n) x = ap suc (repeated_length n x)

first_at : (kinds : Kinds) (number : ℕ) → get_or (first_words kinds) number 0 ≡ first_word kinds number
unfolding first_word
first_at kinds number = ⊎_elim
    (λ (t : (nat_le (suc number) (pins kinds) ≡ true) × (suc number ≤ pins kinds)).
    let less : number < pins kinds = omega (arith, t.1) in
    let is : first_word kinds number ≡ no_pin = rw (lt-ltb number (pins kinds) less) in
    repeated_at (pins kinds) no_pin number (replicate kinds.shards 0) less ∙ sym is)
    (λ (t : (nat_le (suc number) (pins kinds) ≡ false) × (pins kinds < suc number)).
    let past : pins kinds ≤ number = omega (arith, t.1) in
    let is : first_word kinds number ≡ 0 = rw (le-ltb number (pins kinds) past) in
    repeated_past (pins kinds) no_pin kinds.shards number past ∙ sym is)
    (leb_tells (suc number) (pins kinds))

pub first_words_are : (kinds : Kinds) → (length (first_words kinds) ≡ words_of kinds) × ((number : ℕ) → number < words_of kinds → get_or (first_words kinds) number 0 ≡ first_word kinds number)
first_words_are kinds = (
  (let n = length-append (replicate (pins kinds) no_pin) (replicate kinds.shards 0) in
      let a = repeated_length (pins kinds) no_pin in
      let b = repeated_length kinds.shards 0 in
      omega arith),
  (λ number less. first_at kinds number),
)

-- what a pass knows of its word at the start, by its number
first_by : (kinds : Kinds) (number : ℕ) (P : Mark → Type 0) → (number < pins kinds → P Free) → (pins kinds ≤ number → number < words_of kinds → P (Noted 0)) → P Plain → P (first_mark kinds number)
unfolding first_mark
first_by kinds number P pin note plain = ⊎_elim
    (λ (t : (nat_le (suc number) (pins kinds) ≡ true) × (suc number ≤ pins kinds)).
    let less : number < pins kinds = omega (arith, t.1) in
    let is : first_mark kinds number ≡ Free = rw (lt-ltb number (pins kinds) less) in
    subst P (sym is) (pin less))
    (λ (t : (nat_le (suc number) (pins kinds) ≡ false) × (pins kinds < suc number)).
    let past : pins kinds ≤ number = omega (arith, t.1) in
    let not_pin = le-ltb number (pins kinds) past in
    ⊎_elim
    (λ (t' : (nat_le (suc number) (words_of kinds) ≡ true) × (suc number ≤ words_of kinds)).
    let short : number < words_of kinds = omega (arith, t'.1) in
    let is : first_mark kinds number ≡ Noted 0 =
    ap (λ b. if b then Free else (if nat_lt number (words_of kinds) then Noted 0 else Plain)) not_pin ∙ ap (λ b. if b then Noted 0 else Plain) (lt-ltb number (words_of kinds) short) in
    subst P (sym is) (note past short))
    (λ (t' : (nat_le (suc number) (words_of kinds) ≡ false) × (words_of kinds < suc number)).
    let over : words_of kinds ≤ number = omega (arith, t'.1) in
    let is : first_mark kinds number ≡ Plain =
    ap (λ b. if b then Free else (if nat_lt number (words_of kinds) then Noted 0 else Plain)) not_pin ∙ ap (λ b. if b then Noted 0 else Plain) (le-ltb number (words_of kinds) over) in
    subst P (sym is) plain)
    (leb_tells (suc number) (words_of kinds)))
    (leb_tells (suc number) (pins kinds))

pub first_low : (kinds : Kinds) (number : ℕ) → IsLow (first_mark kinds number) 0
first_low kinds number = first_by kinds number (λ mark. IsLow mark 0) (λ less. tt) (λ past short. omega arith) tt

pub first_placed : (kinds : Kinds) (number : ℕ) → IsPlaced kinds number (first_mark kinds number)
first_placed kinds number = first_by kinds number (IsPlaced kinds number) (λ less. less) (λ past short. (past, short)) tt

-- what a pass that has a pin knows of its word at the start, and one that notes positions
pub first_free : (kinds : Kinds) (number : ℕ) → number < pins kinds → first_mark kinds number ≡ Free
unfolding first_mark
first_free kinds number less = rw (lt-ltb number (pins kinds) less)

pub first_noted : (kinds : Kinds) (number : ℕ) → pins kinds ≤ number → number < words_of kinds → first_mark kinds number ≡ Noted 0
unfolding first_mark
first_noted kinds number past short =
    ap (λ b. if b then Free else (if nat_lt number (words_of kinds) then Noted 0 else Plain)) (le-ltb number (pins kinds) past)
    ∙ ap (λ b. if b then Noted 0 else Plain) (lt-ltb number (words_of kinds) short)
