-- Ids with their weights, each once, as a cache keeps them.
use Rattle.std.proofs.Common.{◌≡◌, ℕ, suc, ◌+◌, ◌-◌, ◌*◌, ◌<◌, ◌≤◌, ◌^◌, Bool, true, false, cond, not, ◌==◌, nat_eq, nat_le, nat_lt, List, [], ◌∷◌, ◌++◌, length, map, take, filter, reverse, Option, None, Some, refl, sym, ap, ◌∙◌, subst, ⊎_elim, arith, append-nil, eqb-true, eq-eqb, leb-true, le-leb}
use Rattle.std.specs.List.{AllByRecursion, IsDistinct, list_any, list_all}
use Rattle.std.specs.Map.{lookup, lookup_entry, remove_entry}
use Rattle.std.specs.Option.{unwrap_or, option_map_or}
use Rattle.std.proofs.lemmas.Bool.{false≢true, false_from_ne_true, and_parts, and_from, ltb-true, lt-ltb, not-true, not_from_false, or_cases}
use Rattle.std.proofs.lemmas.List.{reverse-append, length-reverse, take_all}
use Rattle.std.proofs.lemmas.List.Elements.{filter-append}
use Rattle.std.proofs.lemmas.List.Folds.{list_all-append}
use Rattle.std.proofs.lemmas.List.Sorted.{sum_by-IsPermutation, IsPermutation-reverse}
use Rattle.std.proofs.lemmas.List.Sums.{sum_by-cons}
use Rattle.std.proofs.lemmas.Map.Steps.{length-le_from_distinct_below}
use Rattle.lru.specs.LruCache.{LruCache, put_entries}
use Rattle.evict_book.specs.Books.{Used, total_weight, without}
use Rattle.evict_book.specs.Weighed.{are_once, AreLight}

-- ---- each id once

-- one number is not another where that is not it
flip : (a b : ℕ) → not (a == b) ≡ true → not (b == a) ≡ true
flip a b h = not_from_false (b == a) (false_from_ne_true (b == a) (λ e. false≢true (sym (ap not (eq-eqb a b (sym (eqb-true b a e)))) ∙ h)))

-- of ids with one more behind them, that one is none of the others
pub once_push : (used : Used) (e : ℕ × ℕ) → are_once (used ++ e ∷ []) ≡ true → (are_once used ≡ true) × (list_all (λ f. not (e.0 == f.0)) used ≡ true)
once_push [] e h = (refl, refl)
once_push (f ∷ fs) e h =
    let parts = and_parts _ (are_once (fs ++ e ∷ [])) h in
    let others = and_parts _ (list_all (λ g. not (f.0 == g.0)) (e ∷ [])) (sym (list_all-append (λ g. not (f.0 == g.0)) fs (e ∷ [])) ∙ parts.0) in
    let apart = (and_parts (not (f.0 == e.0)) true others.1).0 in
    let rest = once_push fs e parts.1 in
    (and_from _ _ others.0 rest.0, and_from _ _ (flip f.0 e.0 apart) rest.1)

-- with one more behind them that is none of them, each id is there once
pub once_from_push : (used : Used) (e : ℕ × ℕ) → are_once used ≡ true → list_all (λ f. not (e.0 == f.0)) used ≡ true → are_once (used ++ e ∷ []) ≡ true
once_from_push [] e h new = refl
once_from_push (f ∷ fs) e h new =
    let parts = and_parts _ (are_once fs) h in
    let news = and_parts (not (e.0 == f.0)) (list_all (λ g. not (e.0 == g.0)) fs) new in
    and_from _ _
    (list_all-append (λ g. not (f.0 == g.0)) fs (e ∷ []) ∙ and_from _ _ parts.0 (and_from _ _ (flip e.0 f.0 news.0) refl))
    (once_from_push fs e parts.1 news.1)

-- what holds of all ids holds of some
all_kept_by : (test : ℕ × ℕ → Bool) (e : ℕ × ℕ) (es : Used) (x : Bool) → test e ≡ true → list_all test es ≡ true → list_all test (cond x (e ∷ es) es) ≡ true
all_kept_by test e es true here h = and_from _ _ here h
all_kept_by test e es false here h = h

pub all_kept : (test keep : ℕ × ℕ → Bool) (used : Used) → list_all test used ≡ true → list_all test (filter keep used) ≡ true
all_kept test keep [] h = refl
all_kept test keep (e ∷ es) h = let parts = and_parts (test e) (list_all test es) h in all_kept_by test e (filter keep es) (keep e) parts.0 (all_kept test keep es parts.1)

-- those that are kept pass the test by which they are
passed_by : (keep : ℕ × ℕ → Bool) (e : ℕ × ℕ) (es : Used) (x : Bool) → keep e ≡ x → list_all keep es ≡ true → list_all keep (cond x (e ∷ es) es) ≡ true
passed_by keep e es true k h = and_from _ _ k h
passed_by keep e es false k h = h

pub all_passed : (keep : ℕ × ℕ → Bool) (used : Used) → list_all keep (filter keep used) ≡ true
all_passed keep [] = refl
all_passed keep (e ∷ es) = passed_by keep e (filter keep es) (keep e) refl (all_passed keep es)

-- where all pass, all are kept
pub all_stay : (keep : ℕ × ℕ → Bool) (used : Used) → list_all keep used ≡ true → filter keep used ≡ used
all_stay keep [] h = refl
all_stay keep (e ∷ es) h =
    let parts = and_parts (keep e) (list_all keep es) h in
    ap (λ x. cond x (e ∷ filter keep es) (filter keep es)) parts.0 ∙ ap (λ l. e ∷ l) (all_stay keep es parts.1)

-- some of the ids are there once
once_kept_by : (keep : ℕ × ℕ → Bool) (e : ℕ × ℕ) (es : Used) (x : Bool) → list_all (λ f. not (e.0 == f.0)) es ≡ true → are_once es ≡ true → are_once (cond x (e ∷ es) es) ≡ true
once_kept_by keep e es true new h = and_from _ _ new h
once_kept_by keep e es false new h = h

once_kept : (keep : ℕ × ℕ → Bool) (used : Used) → are_once used ≡ true → are_once (filter keep used) ≡ true
once_kept keep [] h = refl
once_kept keep (e ∷ es) h =
    let parts = and_parts (list_all (λ f. not (e.0 == f.0)) es) (are_once es) h in
    once_kept_by keep e (filter keep es) (keep e) (all_kept (λ f. not (e.0 == f.0)) keep es parts.0) (once_kept keep es parts.1)

-- ---- what is said of the ids

-- without one of them it holds on
pub light-without : (cells id : ℕ) (used : Used) → AreLight cells used → AreLight cells (without id used)
light-without cells id used h = record {
  once = once_kept (λ e. not (id == e.0)) used h.once;
  below = all_kept (λ e. nat_lt e.0 cells) (λ e. not (id == e.0)) used h.below;
  light = all_kept (λ e. nat_le e.1 (2 ^ 48)) (λ e. not (id == e.0)) used h.light;
}

-- with one that is used it holds on
pub light-with_use : (cells id weight : ℕ) (used : Used) → AreLight cells used → id < cells → weight ≤ 2 ^ 48 → AreLight cells (without id used ++ (id, weight) ∷ [])
light-with_use cells id weight used h below light =
    let rest = light-without cells id used h in
    record {
      once = once_from_push (without id used) (id, weight) rest.once (all_passed (λ e. not (id == e.0)) used);
      below = list_all-append (λ e. nat_lt e.0 cells) (without id used) ((id, weight) ∷ []) ∙ and_from _ _ rest.below (and_from _ _ (lt-ltb id cells below) refl);
      light = list_all-append (λ e. nat_le e.1 (2 ^ 48)) (without id used) ((id, weight) ∷ []) ∙ and_from _ _ rest.light (and_from _ _ (le-leb weight (2 ^ 48) light) refl);
    }

-- without the first of them it holds on
pub light-rest : (cells : ℕ) (e : ℕ × ℕ) (used : Used) → AreLight cells (e ∷ used) → AreLight cells used
light-rest cells e used h = record {
  once = (and_parts (list_all (λ f. not (e.0 == f.0)) used) (are_once used) h.once).1;
  below = (and_parts (nat_lt e.0 cells) (list_all (λ f. nat_lt f.0 cells) used) h.below).1;
  light = (and_parts (nat_le e.1 (2 ^ 48)) (list_all (λ f. nat_le f.1 (2 ^ 48)) used) h.light).1;
}

-- ---- how many they are

-- the ids alone
abbrev ids_of : Used → List ℕ
ids_of used = map (λ e. e.0) used

none_equal : (id : ℕ) (used : Used) → list_all (λ f. not (id == f.0)) used ≡ true → AllByRecursion (λ q. nat_eq id q ≡ false) (ids_of used)
none_equal id [] h = tt
none_equal id (e ∷ es) h = let parts = and_parts (not (id == e.0)) (list_all (λ f. not (id == f.0)) es) h in (not-true (id == e.0) parts.0, none_equal id es parts.1)

distinct : (used : Used) → are_once used ≡ true → IsDistinct nat_eq (ids_of used)
unfolding IsDistinct
distinct [] h = tt
distinct (e ∷ es) h = let parts = and_parts (list_all (λ f. not (e.0 == f.0)) es) (are_once es) h in (none_equal e.0 es parts.0, distinct es parts.1)

each_below : (cells : ℕ) (used : Used) → list_all (λ e. nat_lt e.0 cells) used ≡ true → (q : ℕ) → list_any (nat_eq q) (ids_of used) ≡ true → q < cells
each_below cells [] h q any = absurd (false≢true any)
each_below cells (e ∷ es) h q any =
    let parts = and_parts (nat_lt e.0 cells) (list_all (λ f. nat_lt f.0 cells) es) h in
    ⊎_elim (λ (s : nat_eq q e.0 ≡ true). let same = eqb-true q e.0 s in let first = ltb-true e.0 cells parts.0 in omega arith) (each_below cells es parts.1 q) (or_cases (nat_eq q e.0) (list_any (nat_eq q) (ids_of es)) any)

length-ids : (used : Used) → length (ids_of used) ≡ length used
length-ids [] = refl
length-ids (e ∷ es) = ap (λ n. suc n) (length-ids es)

-- they are at most as many as there are cells
pub few : (cells : ℕ) (used : Used) → AreLight cells used → length used ≤ cells
few cells used h = let most = length-le_from_distinct_below (ids_of used) cells (distinct used h.once) (each_below cells used h.below) in omega (arith, length-ids used)

-- and fewer where one is not there
pub fewer : (cells id : ℕ) (used : Used) → AreLight cells used → id < cells → list_all (λ f. not (id == f.0)) used ≡ true → length used < cells
fewer cells id used h below new =
    let more : AreLight cells ((id, 0) ∷ used) = record { once = and_from _ _ new h.once; below = and_from _ _ (lt-ltb id cells below) h.below; light = and_from _ _ refl h.light } in
    let most = few cells ((id, 0) ∷ used) more in
    omega arith

-- ---- what they weigh

-- no more than 2^48 each
heavy : (used : Used) → list_all (λ e. nat_le e.1 (2 ^ 48)) used ≡ true → total_weight used ≤ 2 ^ 48 * length used
heavy [] h = omega arith
heavy (e ∷ es) h =
    let parts = and_parts (nat_le e.1 (2 ^ 48)) (list_all (λ f. nat_le f.1 (2 ^ 48)) es) h in
    let first = leb-true e.1 (2 ^ 48) parts.0 in
    let rest = heavy es parts.1 in
    let sum = sum_by-cons (λ f. f.1) e es in
    omega arith

pub total_bound : (cells : ℕ) (used : Used) → AreLight cells used → total_weight used ≤ 2 ^ 48 * cells
total_bound cells used h = let sum = heavy used h.light in let most = few cells used h in omega arith

-- the other way round they weigh the same
pub total-reverse : (used : Used) → total_weight (reverse used) ≡ total_weight used
total-reverse used = sum_by-IsPermutation (λ e. e.1) used (reverse used) (IsPermutation-reverse used)

split_by : (e : ℕ × ℕ) (es rest : Used) (found : Option ℕ) (x : Bool) → total_weight rest + unwrap_or found 0 ≡ total_weight es → total_weight (cond x es (e ∷ rest)) + unwrap_or (cond x (Some e.1) found) 0 ≡ e.1 + total_weight es
split_by e es rest found true h = omega arith
split_by e es rest found false h = let sum = sum_by-cons (λ f. f.1) e rest in omega arith

-- without one they weigh so much less
total_split : (id : ℕ) (es : Used) → total_weight (remove_entry (nat_eq id) es) + unwrap_or (lookup (nat_eq id) es) 0 ≡ total_weight es
total_split id [] = refl
total_split id (e ∷ es) =
    split_by e es (remove_entry (nat_eq id) es) (lookup (nat_eq id) es) (nat_eq id e.0) (total_split id es) ∙ sym (sum_by-cons (λ f. f.1) e es)

-- ---- a cache, the least recently used first

reverse_first : (e : ℕ × ℕ) (es : Used) → reverse (e ∷ es) ≡ reverse es ++ e ∷ []
reverse_first e es = reverse-append (e ∷ []) es

removed_by : (id : ℕ) (e : ℕ × ℕ) (es rest : Used) (x : Bool) → nat_eq id e.0 ≡ x → list_all (λ f. not (e.0 == f.0)) (reverse es) ≡ true → reverse rest ≡ without id (reverse es) →
    reverse (cond x es (e ∷ rest)) ≡ without id (reverse es) ++ cond (not x) (e ∷ []) []
removed_by id e es rest true s new h =
    let same : id ≡ e.0 = eqb-true id e.0 s in
    sym (append-nil (without id (reverse es)) ∙ all_stay (λ f. not (id == f.0)) (reverse es) (subst (λ i. list_all (λ f. not (i == f.0)) (reverse es) ≡ true) (sym same) new))
removed_by id e es rest false s new h = reverse_first e rest ∙ ap (λ l. l ++ e ∷ []) h

-- a cache without an id
pub removed_used : (id : ℕ) (es : Used) → are_once (reverse es) ≡ true → reverse (remove_entry (nat_eq id) es) ≡ without id (reverse es)
removed_used id [] h = refl
removed_used id (e ∷ es) h =
    let parts = once_push (reverse es) e (ap are_once (sym (reverse_first e es)) ∙ h) in
    removed_by id e es (remove_entry (nat_eq id) es) (nat_eq id e.0) refl parts.1 (removed_used id es parts.0)
    ∙ sym (filter-append (λ f. not (id == f.0)) (reverse es) (e ∷ [])) ∙ ap (without id) (sym (reverse_first e es))

-- what the others weigh
pub total-without : (id : ℕ) (es : Used) → are_once (reverse es) ≡ true → total_weight (without id (reverse es)) + unwrap_or (lookup (nat_eq id) es) 0 ≡ total_weight (reverse es)
total-without id es h =
    let removed : total_weight (without id (reverse es)) ≡ total_weight (remove_entry (nat_eq id) es) = ap total_weight (sym (removed_used id es h)) ∙ total-reverse (remove_entry (nat_eq id) es) in
    let split = total_split id es in
    let whole = total-reverse es in
    omega arith

found_by : (id : ℕ) (e : ℕ × ℕ) (es : Used) (f : ℕ × ℕ) (x : Bool) → nat_eq id e.0 ≡ x → cond x (Some e) (lookup_entry (nat_eq id) es) ≡ Some f → (lookup_entry (nat_eq id) es ≡ Some f → f.0 ≡ id) → f.0 ≡ id
found_by id e es f true s h ih = cc (eqb-true id e.0 s)
found_by id e es f false s h ih = ih h

-- what is found has the id
found_id : (id : ℕ) (es : Used) (f : ℕ × ℕ) → lookup_entry (nat_eq id) es ≡ Some f → f.0 ≡ id
found_id id [] f h = cc
found_id id (e ∷ es) f h = found_by id e es f (nat_eq id e.0) refl h (found_id id es f)

absent_by : (id : ℕ) (e : ℕ × ℕ) (es : Used) (x : Bool) → cond x (Some e) (lookup_entry (nat_eq id) es) ≡ None → (lookup_entry (nat_eq id) es ≡ None → remove_entry (nat_eq id) es ≡ es) → cond x es (e ∷ remove_entry (nat_eq id) es) ≡ e ∷ es
absent_by id e es true h ih = cc
absent_by id e es false h ih = ap (λ l. e ∷ l) (ih h)

-- where nothing is found nothing is taken out
absent : (id : ℕ) (es : Used) → lookup_entry (nat_eq id) es ≡ None → remove_entry (nat_eq id) es ≡ es
absent id [] h = refl
absent id (e ∷ es) h = absent_by id e es (nat_eq id e.0) h (absent id es)

put_by : (c : LruCache ℕ ℕ) (cells id weight : ℕ) (found : Option (ℕ × ℕ)) → lookup_entry (nat_eq id) c.entries ≡ found → AreLight cells (reverse c.entries) → c.cap ≡ cells → id < cells →
    reverse (option_map_or (λ e. (e.0, weight) ∷ remove_entry (nat_eq id) c.entries) found ((id, weight) ∷ take (c.cap - 1) c.entries)) ≡ without id (reverse c.entries) ++ (id, weight) ∷ []
put_by c cells id weight (Some e) is h room below =
    reverse_first (e.0, weight) (remove_entry (nat_eq id) c.entries)
    ∙ ap (λ (l : Used). l ++ (e.0, weight) ∷ []) (removed_used id c.entries h.once)
    ∙ ap (λ (n : ℕ). without id (reverse c.entries) ++ (n, weight) ∷ []) (found_id id c.entries e is)
put_by c cells id weight None is h room below =
    let stays : without id (reverse c.entries) ≡ reverse c.entries = sym (removed_used id c.entries h.once) ∙ ap reverse (absent id c.entries is) in
    let new : list_all (λ f. not (id == f.0)) (reverse c.entries) ≡ true = subst (λ (l : Used). list_all (λ f. not (id == f.0)) l ≡ true) stays (all_passed (λ f. not (id == f.0)) (reverse c.entries)) in
    let short = fewer cells id (reverse c.entries) h below new in
    let fits : length c.entries ≤ c.cap - 1 = omega (arith, length-reverse c.entries) in
    reverse_first (id, weight) (take (c.cap - 1) c.entries)
    ∙ ap (λ (l : Used). reverse l ++ (id, weight) ∷ []) (take_all (c.cap - 1) c.entries fits)
    ∙ ap (λ (l : Used). l ++ (id, weight) ∷ []) (sym stays)

-- a cache with an id that is used
pub put_used : (c : LruCache ℕ ℕ) (cells id weight : ℕ) → AreLight cells (reverse c.entries) → c.cap ≡ cells → id < cells → reverse (put_entries nat_eq c id weight) ≡ without id (reverse c.entries) ++ (id, weight) ∷ []
put_used c cells id weight h room below = put_by c cells id weight (lookup_entry (nat_eq id) c.entries) refl h room below
