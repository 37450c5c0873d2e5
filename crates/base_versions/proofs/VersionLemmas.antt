-- The versions of a key, and the base pair at it.
use Rattle.std.proofs.Common.{◌≡◌, ℕ, zero, suc, ◌+◌, ◌-◌, ◌<◌, ◌≤◌, List, [], ◌∷◌, ◌++◌, length, take, fold, drop, get_or, nat_le, Bool, true, false, ◌||◌, cond, not, slice_get, Option, Some, None, refl, sym, ap, ◌∙◌, ⊎_elim, arith}
use Rattle.std.proofs.Math.Seq.{take-nil}
use Rattle.std.proofs.lemmas.Bool.Decides.{nat_tests}
use Rattle.std.proofs.lemmas.Bool.{cases_lt, false_from_ne_true, le-leb, leb-true}
use Rattle.std.proofs.lemmas.List.Sums.{fold-append}
use Rattle.semantics.specs.Texts.{Text, same, Table, value_at}
use Rattle.semantics.specs.Histories.{Write, put, remove, declare, drop_join, Entry, History, base_after, base_of}
use Rattle.semantics.proofs.TableLemmas.{value_at-with_pair, value_at-pairs_where}
use Rattle.base_versions.specs.declared.versions.Version.{Version}
use Rattle.base_versions.specs.Positions.{lies_between, made_from}
use Rattle.base_versions.proofs.PositionLemmas.{ascend_from_less, IsCut, cut_none, cut_some, MakesInOrder, ascend_onto, ascend-made_from, made_from-push, kept_since_all, kept_since-append, ascend-kept_since}
use Rattle.base_versions.specs.Versions.{version_by, versions_of, value_in, has_between, AscendFrom, SayFrom}

-- the versions that a key has from entries that begin at a position
abbrev pub versions_from : ℕ → Text → History → List Version
versions_from position key h = made_from (λ n. version_by n key) position h

-- what a version makes of the value before it, where its position is at most p
abbrev pub taken : ℕ → Option Text → Version → Option Text
taken p value v = cond (nat_le v.position p) v.value value

-- ---- the last version of a position at most p

late_test : (position p : ℕ) → p < position → nat_le position p ≡ false
late_test position p h = false_from_ne_true (nat_le position p) (λ e. let g = leb-true position p e in omega arith)

-- a version after p leaves the value
late_one : (p : ℕ) (b : Bool) (v : Version) (value : Option Text) → p < v.position → fold (taken p) value (cond b (v ∷ []) []) ≡ value
late_one p true v value h = ap (λ t. cond t v.value value) (late_test v.position p h)
late_one p false v value h = refl

-- a write after p leaves the value
late_write : (p position : ℕ) (key : Text) (write : Write) (value : Option Text) → p < position → fold (taken p) value (version_by position key write) ≡ value
late_write p position key (put k v) value h = late_one p (same key k) (record { position = position; value = Some v }) value h
late_write p position key (remove k) value h = late_one p (same key k) (record { position = position; value = None }) value h
late_write p position key (declare j) value h = refl
late_write p position key (drop_join at) value h = refl

-- entries after p leave the value
late_entries : (p position : ℕ) (key : Text) (h : History) (value : Option Text) → p < position → fold (taken p) value (versions_from position key h) ≡ value
late_entries p position key [] value late = refl
late_entries p position key (e ∷ es) value late =
    fold-append (taken p) value (version_by position key e.write) (versions_from (position + 1) key es)
    ∙ ap (λ x. fold (taken p) x (versions_from (position + 1) key es)) (late_write p position key e.write value late)
    ∙ late_entries p (position + 1) key es value (omega arith)

-- a version up to p is taken
early_one : (p : ℕ) (b : Bool) (v : Version) (value : Option Text) → v.position ≤ p → fold (taken p) value (cond b (v ∷ []) []) ≡ cond b v.value value
early_one p true v value h = ap (λ t. cond t v.value value) (le-leb v.position p h)
early_one p false v value h = refl

without : (b : Bool) (value : Option Text) → cond b None value ≡ cond (not b) value None
without true value = refl
without false value = refl

-- a write up to p makes of the value what it makes of the base pair
early_write : (p position : ℕ) (key : Text) (write : Write) (table : Table) → position ≤ p →
    fold (taken p) (value_at key table) (version_by position key write) ≡ value_at key (base_after write table)
early_write p position key (put k v) table h =
    early_one p (same key k) (record { position = position; value = Some v }) (value_at key table) h ∙ sym (value_at-with_pair key k v table)
early_write p position key (remove k) table h =
    early_one p (same key k) (record { position = position; value = None }) (value_at key table) h
    ∙ without (same key k) (value_at key table) ∙ sym (value_at-pairs_where (λ x. not (same x k)) key table)
early_write p position key (declare j) table h = refl
early_write p position key (drop_join at) table h = refl

-- the base pairs after entries
abbrev base_from : Table → History → Table
base_from table h = fold (λ (t : Table) (e : Entry). base_after e.write t) table h

-- the first entry of those that are taken
take_first : (p position : ℕ) (e : Entry) (es : History) → position ≤ p → take (p + 1 - position) (e ∷ es) ≡ e ∷ take (p + 1 - (position + 1)) es
take_first p position e es h = let n : p + 1 - position ≡ suc (p + 1 - (position + 1)) = omega arith in rw n refl

-- the value of a key's last version up to p is its base pair
value_from : (p position : ℕ) (key : Text) (h : History) (table : Table) →
    fold (taken p) (value_at key table) (versions_from position key h) ≡ value_at key (base_from table (take (p + 1 - position) h))
value_from p position key [] table = ap (λ es. value_at key (base_from table es)) (sym (take-nil (p + 1 - position)))
value_from p position key (e ∷ es) table =
    ⊎_elim
    (λ (late : p < position).
    late_entries p position key (e ∷ es) (value_at key table) late
    ∙ ap (λ n. value_at key (base_from table (take n (e ∷ es)))) (let n : 0 ≡ p + 1 - position = omega arith in n))
    (λ (early : position ≤ p).
    fold-append (taken p) (value_at key table) (version_by position key e.write) (versions_from (position + 1) key es)
    ∙ ap (λ x. fold (taken p) x (versions_from (position + 1) key es)) (early_write p position key e.write table early)
    ∙ value_from p (position + 1) key es (base_after e.write table)
    ∙ ap (λ entries. value_at key (base_from table entries)) (sym (take_first p position e es early)))
    (cases_lt p position)

-- what stands at a key after p entries is its base pair after p entries
pub value_in-versions_of : (h : History) (key : Text) (p : ℕ) → value_in p (versions_of key h) ≡ value_at key (base_of (take p h))
unfolding versions_of
value_in-versions_of h key p =
    value_from p 1 key h [] ∙ ap (λ n. value_at key (base_of (take n h))) (let n : p + 1 - 1 ≡ p = omega arith in n)

-- ---- the positions ascend, and one entry more

abbrev of_version : Version → ℕ
of_version v = v.position

-- a version has the position of its write
makes_in_order : (key : Text) → MakesInOrder of_version (λ position. version_by position key)
makes_in_order key position (put k v) vs a = ascend_onto of_version (same key k) (record { position = position; value = Some v }) vs position refl a
makes_in_order key position (remove k) vs a = ascend_onto of_version (same key k) (record { position = position; value = None }) vs position refl a
makes_in_order key position (declare j) vs a = ascend_from_less of_version (position + 1) position vs (omega arith) a
makes_in_order key position (drop_join at) vs a = ascend_from_less of_version (position + 1) position vs (omega arith) a

-- the versions of a key ascend
pub ascend-versions_of : (key : Text) (h : History) → AscendFrom 0 (versions_of key h)
unfolding versions_of
ascend-versions_of key h =
    ascend_from_less of_version 1 0 (versions_from 1 key h) (omega arith) (ascend-made_from of_version (λ position. version_by position key) (makes_in_order key) 1 h)

-- the versions of a key after one entry more
pub versions_of-push : (key : Text) (h : History) (e : Entry) → versions_of key (h ++ e ∷ []) ≡ versions_of key h ++ version_by (length h + 1) key e.write
unfolding versions_of
versions_of-push key h e = made_from-push (λ position. version_by position key) 1 h e ∙ ap (λ n. versions_from 1 key h ++ version_by n key e.write) (omega arith)

-- ---- what is kept since a start

-- all versions say what they say
pub say_from_all : (start : ℕ) (kept all : List Version) → kept ≡ all → SayFrom start kept all
say_from_all start kept all e = record { since = kept_since_all of_version start kept all e; values = λ p h. ap (value_in p) e }

-- and so with more at both ends
pub say_from-append : (start : ℕ) (kept all more : List Version) → SayFrom start kept all → SayFrom start (kept ++ more) (all ++ more)
say_from-append start kept all more s =
    record {
      since = kept_since-append of_version start kept all more s.since;
      values = λ p h. fold-append (taken p) None kept more ∙ ap (λ x. fold (taken p) x more) (s.values p h) ∙ sym (fold-append (taken p) None all more);
    }

-- the kept versions of a key ascend
pub ascend-say_from : (start : ℕ) (kept : List Version) (key : Text) (h : History) → SayFrom start kept (versions_of key h) → AscendFrom 0 kept
ascend-say_from start kept key h s = ascend-kept_since of_version start 0 kept (versions_of key h) s.since (ascend-versions_of key h)

-- from the start on what the kept versions say at a position is the base pair there
pub value_in-say_from : (start : ℕ) (kept : List Version) (key : Text) (h : History) (p : ℕ) → SayFrom start kept (versions_of key h) → start ≤ p → value_in p kept ≡ value_at key (base_of (take p h))
value_in-say_from start kept key h p s g = s.values p g ∙ value_in-versions_of h key p

-- ---- the last of the versions before a cut

-- the value of the last version, or the one before all
abbrev pub last_value : Option Text → List Version → Option Text
last_value value [] = value
last_value value (v ∷ vs) = last_value v.value vs

-- the last version before the cut is the one that is taken
taken_last : (p : ℕ) (value : Option Text) (vs : List Version) (n : ℕ) → IsCut (λ v. nat_le v.position p) vs n → fold (taken p) value vs ≡ last_value value (take n vs)
taken_last p value [] n c = ap (last_value value) (sym (take-nil n))
taken_last p value (v ∷ vs) zero c =
    let w = cut_none (λ v. nat_le v.position p) v vs c in
    ap (λ b. fold (taken p) (cond b v.value value) vs) w.0 ∙ taken_last p value vs zero w.1
taken_last p value (v ∷ vs) (suc n) c =
    let w = cut_some (λ v. nat_le v.position p) v vs n c in
    ap (λ b. fold (taken p) (cond b v.value value) vs) w.0 ∙ taken_last p v.value vs n w.1

-- the last of some first versions has the last value
last_at : (value : Option Text) (vs : List Version) (n : ℕ) (v : Version) → n < length vs → v ≡ get_or vs n v → last_value value (take (suc n) vs) ≡ v.value
last_at value [] n v h e = absurd (omega arith)
last_at value (x ∷ xs) zero v h e = ap (λ (w : Version). w.value) (sym e)
last_at value (x ∷ xs) (suc n) v h e = last_at x.value xs n v (omega arith) e

-- what stands at a key after p entries is the value of the last version before the cut
pub value_in-cut : (p : ℕ) (vs : List Version) (n : ℕ) (v : Version) → n < length vs → IsCut (λ v. nat_le v.position p) vs (suc n) → v ≡ get_or vs n v → v.value ≡ value_in p vs
value_in-cut p vs n v h c e = sym (taken_last p None vs (suc n) c ∙ last_at None vs n v h e)

-- there is nothing where no version is before it
pub value_in-early : (p : ℕ) (vs : List Version) → IsCut (λ v. nat_le v.position p) vs 0 → None ≡ value_in p vs
value_in-early p vs c = sym (taken_last p None vs 0 c)

-- ---- the first version after a cut

-- whether there is a version and its position is at most p
abbrev pub is_up_to : ℕ → Option Version → Bool
is_up_to p None = false
is_up_to p (Some v) = nat_le v.position p

-- the first version that is left without some first ones
pub first_left : (n : ℕ) (vs : List Version) (v : Version) → n < length vs → v ≡ get_or vs n v → slice_get (drop n vs) 0 ≡ Some v
first_left n [] v h e = absurd (omega arith)
first_left zero (x ∷ xs) v h e = ap Some (sym e)
first_left (suc n) (x ∷ xs) v h e = first_left n xs v (omega arith) e

pub none_left : (n : ℕ) (vs : List Version) → length vs ≤ n → slice_get (drop n vs) 0 ≡ None
none_left zero [] h = refl
none_left zero (x ∷ xs) h = absurd (omega arith)
none_left (suc n) [] h = refl
none_left (suc n) (x ∷ xs) h = none_left n xs (omega arith)

-- of versions after p none is between
none_between : (q p low : ℕ) (vs : List Version) → p < low → AscendFrom low vs → has_between q p vs ≡ false
none_between q p low [] h a = refl
none_between q p low (v ∷ vs) h a =
    let later : low ≤ v.position = a.0 in
    let test : lies_between q p v.position ≡ false = grind (arith, nat_tests) in
    ap (λ b. b || has_between q p vs) test ∙ none_between q p (v.position + 1) vs (omega arith) a.1

either_between : (q p : ℕ) (v : Version) (vs : List Version) → q < v.position → AscendFrom (v.position + 1) vs → nat_le v.position p ≡ (lies_between q p v.position || has_between q p vs)
either_between q p v vs h a =
    ⊎_elim
    (λ (late : p < v.position).
    let test : lies_between q p v.position ≡ false = grind (arith, nat_tests) in
    let not_yet : nat_le v.position p ≡ false = grind (arith, nat_tests) in
    not_yet ∙ sym (ap (λ b. b || has_between q p vs) test ∙ none_between q p (v.position + 1) vs (omega arith) a))
    (λ (early : v.position ≤ p).
    let test : lies_between q p v.position ≡ true = grind (arith, nat_tests) in
    let now : nat_le v.position p ≡ true = grind (arith, nat_tests) in
    now ∙ sym (ap (λ b. b || has_between q p vs) test))
    (cases_lt p v.position)

-- a version is between exactly where the first one after the cut is at most p
pub has_between-cut : (q p low : ℕ) (vs : List Version) (n : ℕ) → AscendFrom low vs → IsCut (λ v. nat_le v.position q) vs n → is_up_to p (slice_get (drop n vs) 0) ≡ has_between q p vs
has_between-cut q p low [] zero a c = refl
has_between-cut q p low [] (suc n) a c = refl
has_between-cut q p low (v ∷ vs) zero a c =
    let w = cut_none (λ v. nat_le v.position q) v vs c in
    let after : nat_le v.position q ≡ false = w.0 in
    either_between q p v vs (grind (arith, nat_tests)) a.1
has_between-cut q p low (v ∷ vs) (suc n) a c =
    let w = cut_some (λ v. nat_le v.position q) v vs n c in
    let before : nat_le v.position q ≡ true = w.0 in
    let test : lies_between q p v.position ≡ false = grind (arith, nat_tests) in
    has_between-cut q p (v.position + 1) vs n a.1 w.1 ∙ sym (ap (λ b. b || has_between q p vs) test)
