-- What a book makes of its cache, step by step.
use Rattle.std.proofs.Common.{◌≡◌, ℕ, ◌+◌, ◌-◌, ◌*◌, ◌<◌, ◌≤◌, ◌^◌, Bool, false, cond, not, nat_eq, nat_le, List, [], ◌∷◌, ◌++◌, length, take, reverse, Option, Some, refl, sym, ap, ◌∙◌, subst, arith, append-nil, append_assoc, le-leb}
use Rattle.std.proofs.lemmas.Bool.{lt-leb, ne_eqb}
use Rattle.std.proofs.lemmas.List.{reverse-append}
use Rattle.std.specs.Map.{lookup, remove_entry}
use Rattle.std.specs.Map.Iter.{TakesFirst}
use Rattle.std.specs.Option.{unwrap_or}
use Rattle.std.proofs.lemmas.List.Sums.{sum_by-cons, sum_by_push}
use Rattle.lru.specs.LruCache.{LruCache, lru_cache, put_entries, last_entry}
use Rattle.lru.proofs.Pairs.{pops_last}
use Rattle.evict_book.specs.Books.{Used, Book, book, weigh, total_weight, without, with_use, victims_of, left_of}
use Rattle.evict_book.specs.Weighed.{AreLight, AreWeighed}
use Rattle.evict_book.proofs.UsedLemmas.{light-without, light-with_use, light-rest, total_bound, removed_used, total-without, put_used}

-- ---- an id less

-- a cache without an id, of which it had this weight or none
pub record Less (c new : LruCache ℕ ℕ) (sum cells id : ℕ) (found : Option ℕ) : Type 0 where
  pub enough : unwrap_or found 0 ≤ sum
  pub used : reverse new.entries ≡ without id (reverse c.entries)
  pub weighed : AreWeighed new (sum - unwrap_or found 0) cells

pub removed : (c new : LruCache ℕ ℕ) (sum cells id : ℕ) (found : Option ℕ) → AreWeighed c sum cells → found ≡ lookup (nat_eq id) c.entries → new ≡ lru_cache (remove_entry (nat_eq id) c.entries) c.cap → Less c new sum cells id found
removed c new sum cells id found h is made =
    let used : reverse new.entries ≡ without id (reverse c.entries) = ap (λ n. reverse n.entries) made ∙ removed_used id c.entries h.used.once in
    let weight : unwrap_or found 0 ≡ unwrap_or (lookup (nat_eq id) c.entries) 0 = ap (λ o. unwrap_or o 0) is in
    let split = total-without id c.entries h.used.once in
    let all = h.sum_is in
    let rest : total_weight (reverse new.entries) ≡ total_weight (without id (reverse c.entries)) = ap total_weight used in
    record {
      enough = omega arith;
      used = used;
      weighed = record {
        used = subst (AreLight cells) (sym used) (light-without cells id (reverse c.entries) h.used);
        room = ap (λ n. n.cap) made ∙ h.room;
        sum_is = omega arith;
      };
    }

-- the book without the id
pub gone_book : (c new : LruCache ℕ ℕ) (cells limit id : ℕ) (b : Book) → reverse new.entries ≡ without id (reverse c.entries) → book (reverse c.entries) cells limit ≡ b →
    book (reverse new.entries) cells limit ≡ book (without id b.used) b.cells b.limit
gone_book c new cells limit id b used view = ap (λ u. book u cells limit) used ∙ ap (λ (a : Book). book (without id a.used) a.cells a.limit) view

-- ---- the first id less

left_by : (limit : ℕ) (used rest : Used) (x : Bool) → x ≡ false → cond x used (left_of limit rest) ≡ left_of limit rest
left_by limit used rest x e = ap (λ b. cond b used (left_of limit rest)) e

-- what is left where all weigh no more than the limit
pub left_stays : (limit : ℕ) (used : Used) → total_weight used ≤ limit → left_of limit used ≡ used
left_stays limit [] h = refl
left_stays limit (e ∷ es) h = ap (λ b. cond b (e ∷ es) (left_of limit es)) (le-leb (total_weight (e ∷ es)) limit h)

-- a cache without its last pair, where all weigh more than the limit
pub record Evicted (c new : LruCache ℕ ℕ) (sum cells limit : ℕ) (e : ℕ × ℕ) : Type 0 where
  pub enough : e.1 ≤ sum
  pub weighed : AreWeighed new (sum - e.1) cells
  pub left : left_of limit (reverse new.entries) ≡ left_of limit (reverse c.entries)

pub evicted : (c new : LruCache ℕ ℕ) (sum cells limit : ℕ) (e : ℕ × ℕ) → AreWeighed c sum cells → limit < sum → Some e ≡ last_entry c.entries → new ≡ lru_cache (take (length c.entries - 1) c.entries) c.cap → Evicted c new sum cells limit e
evicted c new sum cells limit e h above is made =
    let rest : Used = reverse (take (length c.entries - 1) c.entries) in
    let first : reverse c.entries ≡ e ∷ rest = subst (λ (o : Option (ℕ × ℕ)). TakesFirst (λ (x : ℕ × ℕ). x) (reverse c.entries) o rest) (sym is) (pops_last c.entries) in
    let used : reverse new.entries ≡ rest = ap (λ (n : LruCache ℕ ℕ). reverse n.entries) made in
    let whole : total_weight (reverse c.entries) ≡ e.1 + total_weight rest = ap total_weight first ∙ sum_by-cons (λ f. f.1) e rest in
    let part : total_weight (reverse new.entries) ≡ total_weight rest = ap total_weight used in
    let sum_is = h.sum_is in
    let over : limit < total_weight (e ∷ rest) = subst (λ (u : Used). limit < total_weight u) first (omega arith) in
    record {
      enough = omega arith;
      weighed = record {
        used = subst (AreLight cells) (sym used) (light-rest cells e rest (subst (AreLight cells) first h.used));
        room = ap (λ (n : LruCache ℕ ℕ). n.cap) made ∙ h.room;
        sum_is = omega arith;
      };
      left = ap (left_of limit) used ∙ sym (ap (left_of limit) first ∙ left_by limit (e ∷ rest) rest (nat_le (total_weight (e ∷ rest)) limit) (lt-leb (total_weight (e ∷ rest)) limit over));
    }

-- ---- an id that is used

-- what the others weigh
pub others_weigh : (c : LruCache ℕ ℕ) (sum cells id : ℕ) (found : Option ℕ) → AreWeighed c sum cells → found ≡ lookup (nat_eq id) c.entries → total_weight (without id (reverse c.entries)) + unwrap_or found 0 ≡ sum
others_weigh c sum cells id found h is =
    let weight : unwrap_or found 0 ≡ unwrap_or (lookup (nat_eq id) c.entries) 0 = ap (λ o. unwrap_or o 0) is in
    let split = total-without id c.entries h.used.once in
    let all = h.sum_is in
    omega arith

-- and no more than so much for each cell
pub others_bound : (c : LruCache ℕ ℕ) (sum cells id : ℕ) → AreWeighed c sum cells → total_weight (without id (reverse c.entries)) ≤ 2 ^ 48 * cells
others_bound c sum cells id h = total_bound cells (without id (reverse c.entries)) (light-without cells id (reverse c.entries) h.used)

-- a cache with an id that is used
pub put_weighed : (c new : LruCache ℕ ℕ) (sum total cells id weight : ℕ) → AreWeighed c sum cells → id < cells → weight ≤ 2 ^ 48 → total ≡ total_weight (without id (reverse c.entries)) + weight → new ≡ lru_cache (put_entries nat_eq c id weight) c.cap →
    (AreWeighed new total cells) × (reverse new.entries ≡ without id (reverse c.entries) ++ (id, weight) ∷ [])
put_weighed c new sum total cells id weight h below light is made =
    let used : reverse new.entries ≡ without id (reverse c.entries) ++ (id, weight) ∷ [] = ap (λ (n : LruCache ℕ ℕ). reverse n.entries) made ∙ put_used c cells id weight h.used h.room below in (
      record {
        used = subst (AreLight cells) (sym used) (light-with_use cells id weight (reverse c.entries) h.used below light);
        room = ap (λ (n : LruCache ℕ ℕ). n.cap) made ∙ h.room;
        sum_is = is ∙ sym (ap total_weight used ∙ sum_by_push (λ e. e.1) (without id (reverse c.entries)) (id, weight));
      },
      used,
    )

-- where all weigh no more than the limit, nothing more goes
pub evicts : (used : Used) (cells limit : ℕ) (b : Book) → left_of limit used ≡ left_of b.limit b.used → cells ≡ b.cells → limit ≡ b.limit → total_weight used ≤ limit → book used cells limit ≡ book (left_of b.limit b.used) b.cells b.limit
evicts used cells limit b left cells_are limit_is fits =
    ap (λ u. book u cells limit) (sym (left_stays limit used fits) ∙ left) ∙ ap (λ n. book (left_of b.limit b.used) n limit) cells_are ∙ ap (book (left_of b.limit b.used) b.cells) limit_is

-- what the others weigh, and that it is no more than so much for each cell
pub record Others (sum cells id : ℕ) (b : Book) (found : Option ℕ) : Type 0 where
  pub enough : unwrap_or found 0 ≤ sum
  pub total_is : sum - unwrap_or found 0 ≡ total_weight (without id b.used)
  pub bound : sum - unwrap_or found 0 ≤ 2 ^ 48 * b.cells

pub others : (c : LruCache ℕ ℕ) (sum cells limit id : ℕ) (b : Book) (found : Option ℕ) → AreWeighed c sum cells → book (reverse c.entries) cells limit ≡ b → found ≡ lookup (nat_eq id) c.entries → Others sum cells id b found
others c sum cells limit id b found h view is =
    let weigh_all = others_weigh c sum cells id found h is in
    let bound = others_bound c sum cells id h in
    let less : Others sum cells id (book (reverse c.entries) cells limit) found = record { enough = omega arith; total_is = omega arith; bound = omega arith } in
    subst (λ (a : Book). Others sum cells id a found) view less

-- ---- finding the ids that have to go

-- where all weigh no more than the limit, none has to go
pub none_go : (limit : ℕ) (used : Used) → total_weight used ≤ limit → victims_of limit used ≡ []
none_go limit [] h = refl
none_go limit (e ∷ es) h = ap (λ b. cond b [] (e.0 ∷ victims_of limit es)) (le-leb (total_weight (e ∷ es)) limit h)

-- and otherwise the first one has to
pub first_goes : (limit : ℕ) (e : ℕ × ℕ) (es : Used) → limit < total_weight (e ∷ es) → victims_of limit (e ∷ es) ≡ e.0 ∷ victims_of limit es
first_goes limit e es h = ap (λ b. cond b [] (e.0 ∷ victims_of limit es)) (lt-leb (total_weight (e ∷ es)) limit h)

-- the next one is another than this
pub next_other : (id : ℕ) (e last : ℕ × ℕ) (held rest : Used) → held ≡ rest ++ e ∷ [] → (e.0 ≡ id → ⊥) → without id (reverse held) ++ last ∷ [] ≡ e ∷ (without id (reverse rest) ++ last ∷ [])
next_other id e last held rest is other =
    let first : reverse held ≡ e ∷ reverse rest = ap reverse is ∙ reverse-append rest (e ∷ []) in
    ap (λ (u : Used). without id u ++ last ∷ []) first
    ∙ ap (λ b. cond (not b) (e ∷ without id (reverse rest)) (without id (reverse rest)) ++ last ∷ []) (ne_eqb id e.0 (λ s. other (sym s)))

-- one id more that has to go
pub record NextGoes (id limit left : ℕ) (e last : ℕ × ℕ) (rest : Used) (ids target : List ℕ) : Type 0 where
  pub enough : e.1 ≤ left
  pub victims : (ids ++ e.0 ∷ []) ++ victims_of limit (without id (reverse rest) ++ last ∷ []) ≡ target
  pub left_is : left - e.1 ≡ total_weight (without id (reverse rest) ++ last ∷ [])

pub next_goes : (id limit left : ℕ) (e last : ℕ × ℕ) (held rest : Used) (ids target : List ℕ) → held ≡ rest ++ e ∷ [] → (e.0 ≡ id → ⊥) → limit < left → left ≡ total_weight (without id (reverse held) ++ last ∷ []) →
    ids ++ victims_of limit (without id (reverse held) ++ last ∷ []) ≡ target → NextGoes id limit left e last rest ids target
next_goes id limit left e last held rest ids target is other above left_is found =
    let others : Used = without id (reverse rest) ++ last ∷ [] in
    let first : without id (reverse held) ++ last ∷ [] ≡ e ∷ others = next_other id e last held rest is other in
    let whole : left ≡ e.1 + total_weight others = left_is ∙ ap total_weight first ∙ sum_by-cons (λ f. f.1) e others in
    let over : limit < total_weight (e ∷ others) = subst (λ n. limit < n) (left_is ∙ ap total_weight first) above in
    let all : ids ++ (e.0 ∷ victims_of limit others) ≡ target = ap (λ l. ids ++ l) (sym (ap (victims_of limit) first ∙ first_goes limit e others over)) ∙ found in
    record { enough = omega arith; victims = append_assoc ids (e.0 ∷ []) (victims_of limit others) ∙ all; left_is = omega arith }

-- no id more has to go
pub all_found : (limit left : ℕ) (used : Used) (ids target : List ℕ) → left ≤ limit → left ≡ total_weight used → ids ++ victims_of limit used ≡ target → ids ≡ target
all_found limit left used ids target fits left_is found = sym (append-nil ids) ∙ ap (λ l. ids ++ l) (sym (none_go limit used (omega arith))) ∙ found

-- ---- an id that is used, in a book

-- a cache with an id that is used, and what is left in the book
pub record Touched (new : LruCache ℕ ℕ) (sum cells limit id rows : ℕ) (b : Book) : Type 0 where
  pub weighed : AreWeighed new sum cells
  pub left : book (left_of limit (reverse new.entries)) cells limit ≡ book (left_of b.limit (with_use id rows b.used)) b.cells b.limit

pub touched : (c new : LruCache ℕ ℕ) (sum cells limit id rows weight rest : ℕ) (b : Book) → AreWeighed c sum cells → book (reverse c.entries) cells limit ≡ b → id < b.cells → weight ≡ weigh rows → rest ≡ total_weight (without id b.used) →
    new ≡ lru_cache (put_entries nat_eq c id weight) c.cap → Touched new (rest + weight) cells limit id rows b
touched c new sum cells limit id rows weight rest b h view below weighs rest_is made =
    let used_is : reverse c.entries ≡ b.used = ap (λ (a : Book). a.used) view in
    let cells_are : cells ≡ b.cells = ap (λ (a : Book). a.cells) view in
    let light : weight ≤ 2 ^ 48 = omega arith in
    let inside : id < cells = omega arith in
    let total : rest + weight ≡ total_weight (without id (reverse c.entries)) + weight = ap (λ n. n + weight) (rest_is ∙ ap (λ (u : Used). total_weight (without id u)) (sym used_is)) in
    let put = put_weighed c new sum (rest + weight) cells id weight h inside light total made in
    let whole : reverse new.entries ≡ with_use id rows (reverse c.entries) = put.1 ∙ ap (λ n. without id (reverse c.entries) ++ (id, n) ∷ []) weighs in
    record {
      weighed = put.0;
      left = ap (λ (u : Used). book (left_of limit u) cells limit) whole ∙ ap (λ (a : Book). book (left_of a.limit (with_use id rows a.used)) a.cells a.limit) view;
    }
