-- Kept ranges that are evicted.
use Rattle.std.proofs.Common.{◌≡◌, ◌≢◌, ℕ, zero, suc, ◌+◌, ◌^◌, ◌<◌, ◌≤◌, Bool, true, false, cond, not, ◌==◌, nat_le, eq-eqb, List, [], ◌∷◌, ◌++◌, length, take, get_or, slice_get, slice_set, Result, Ok, Err, OnOk, Option, Some, None, ◌⊎◌, inl, inr, refl, sym, ap, ◌∙◌, subst, arith}
use Rattle.std.proofs.lemmas.Bool.{cases_eq, false≢true, not-true}
use Rattle.std.proofs.lemmas.Option.{none-some, slice_get_within}
use Rattle.std.proofs.lemmas.List.{length-set, take_more}
use Rattle.std.proofs.lemmas.List.Sums.{sum_by-cons}
use Rattle.semantics.specs.Texts.{Range}
use Rattle.semantics.proofs.MemberLemmas.{Has, has_append_cases, has_append_left, has_append_right, has_filter}
use Rattle.kept_ranges.specs.Sound.{KeptRange}
use Rattle.evict_book.specs.Books.{Used, left_of, total_weight, victims_of, weigh, with_use, without}
use Rattle.evict_book.proofs.BookLemmas.{first_goes, none_go}
use Rattle.cell_slots.specs.declared.slot.Slot.{Slot}
use Rattle.cell_slots.specs.declared.slot.Slot.TheVariants.{Free, Lent, Held}
use Rattle.cell_slots.proofs.FrameLemmas.{get-set_same, get-set_other}
use Rattle.cell_table.specs.Stores.{Store, unused, with_book, without_cell}
use Rattle.cell_table.specs.Moves.{Evicts, IsEvicted, IsHeld, IsTooHeavy, SettlesFirst, freed, freed_all, freed_by, settled, settled_all, settled_by, weighed}

-- nothing is evicted
pub evicts_none : (slots : List Slot) → Evicts slots slots
evicts_none slots = record { same_count = refl; each = λ id. inl refl }

evicted_then : (a b c : List Slot) (id : ℕ) → (slice_get b id ≡ slice_get a id) ⊎ IsEvicted a b id → (slice_get c id ≡ slice_get b id) ⊎ IsEvicted b c id → (slice_get c id ≡ slice_get a id) ⊎ IsEvicted a c id
evicted_then a b c id (inl h) (inl g) = inl (g ∙ h)
evicted_then a b c id (inl h) (inr g) = inr (record { was = record { at = g.was.at; state = g.was.state; held = sym h ∙ g.was.held }; free = g.free })
evicted_then a b c id (inr h) (inl g) = inr (record { was = h.was; free = g ∙ h.free })
evicted_then a b c id (inr h) (inr g) = inr (record { was = h.was; free = g.free })

-- some are evicted, and then others
pub evicts_then : (a b c : List Slot) → Evicts a b → Evicts b c → Evicts a c
evicts_then a b c h g = record { same_count = g.same_count ∙ h.same_count; each = λ id. evicted_then a b c id (h.each id) (g.each id) }

evicted_by : (slots : List Slot) (id : ℕ) → IsHeld slots id → (other : ℕ) → (other ≡ id) ⊎ (other ≡ id → ⊥) → (slice_get (slice_set slots id Free) other ≡ slice_get slots other) ⊎ IsEvicted slots (slice_set slots id Free) other
evicted_by slots id held other (inl e) = subst (λ (q : ℕ). (slice_get (slice_set slots id Free) q ≡ slice_get slots q) ⊎ IsEvicted slots (slice_set slots id Free) q) (sym e)
    (inr (record { was = held; free = get-set_same slots id Free (slice_get_within slots id (Held held.at held.state) held.held) }))
evicted_by slots id held other (inr apart) = inl (get-set_other slots id other Free apart)

-- one is evicted
pub evicts_one : (slots : List Slot) (id : ℕ) → IsHeld slots id → Evicts slots (slice_set slots id Free)
evicts_one slots id held = record { same_count = length-set slots id Free; each = λ other. evicted_by slots id held other (cases_eq other id) }

-- ---- one after another

not_held_free : (at : ℕ) (s : KeptRange) → Some Free ≡ Some (Held at s) → ⊥
not_held_free at s e = cc

not_held_lent : (at other : ℕ) (range : Range) (s : KeptRange) → Some (Lent at range) ≡ Some (Held other s) → ⊥
not_held_lent at other range s e = cc

freed_where : (o : Option Slot) (id : ℕ) (before after : Store) → slice_get before.holdings.slots id ≡ o → (IsHeld before.holdings.slots id → after ≡ without_cell id before) → ((IsHeld before.holdings.slots id → ⊥) → after ≡ before) →
    after ≡ freed_by o id before
freed_where None id before after is held none = none (λ h. none-some (Held h.at h.state) (sym is ∙ h.held))
freed_where (Some Free) id before after is held none = none (λ h. not_held_free h.at h.state (sym is ∙ h.held))
freed_where (Some (Lent at range)) id before after is held none = none (λ h. not_held_lent at h.at range h.state (sym is ∙ h.held))
freed_where (Some (Held at s)) id before after is held none = held (record { at = at; state = s; held = is })

-- a cell is freed where it holds a kept range
freed_from : (id : ℕ) (before after : Store) → (IsHeld before.holdings.slots id → after ≡ without_cell id before) → ((IsHeld before.holdings.slots id → ⊥) → after ≡ before) → after ≡ freed id before
freed_from id before after held none = freed_where (slice_get before.holdings.slots id) id before after refl held none

-- one more is freed
freed_more : (ids : List ℕ) (id : ℕ) (before : Store) → freed_all (ids ++ id ∷ []) before ≡ freed id (freed_all ids before)
freed_more [] id before = refl
freed_more (x ∷ xs) id before = freed_more xs id (freed x before)

settled_where : (o : Option Slot) (id : ℕ) (before after : Store) → slice_get before.holdings.slots id ≡ o → ((at : ℕ) (s : KeptRange) → slice_get before.holdings.slots id ≡ Some (Held at s) → after ≡ weighed id (length s.kept.rows) before) →
    ((IsHeld before.holdings.slots id → ⊥) → after ≡ before) → after ≡ settled_by o id before
settled_where None id before after is held none = none (λ h. none-some (Held h.at h.state) (sym is ∙ h.held))
settled_where (Some Free) id before after is held none = none (λ h. not_held_free h.at h.state (sym is ∙ h.held))
settled_where (Some (Lent at range)) id before after is held none = none (λ h. not_held_lent at h.at range h.state (sym is ∙ h.held))
settled_where (Some (Held at s)) id before after is held none = held at s is

-- a cell is settled where it holds a kept range
settled_from : (id : ℕ) (before after : Store) → ((at : ℕ) (s : KeptRange) → slice_get before.holdings.slots id ≡ Some (Held at s) → after ≡ weighed id (length s.kept.rows) before) →
    ((IsHeld before.holdings.slots id → ⊥) → after ≡ before) → after ≡ settled id before
settled_from id before after held none = settled_where (slice_get before.holdings.slots id) id before after refl held none

-- one more is settled
settled_more : (ids : List ℕ) (id : ℕ) (before : Store) → settled_all (ids ++ id ∷ []) before ≡ settled id (settled_all ids before)
settled_more [] id before = refl
settled_more (x ∷ xs) id before = settled_more xs id (settled x before)

-- the book is told of a cell, and the cells that it names are freed
pub weighed_from : (before mid after : Store) (victims : List ℕ) (id rows count : ℕ) → victims ≡ victims_of before.limit (with_use id rows before.book) → mid ≡ with_book (left_of before.limit (with_use id rows before.book)) before →
    after ≡ freed_all victims mid → rows ≡ count → after ≡ weighed id count before
weighed_from before mid after victims id rows count named told gone same =
    gone ∙ ap (λ (ids : List ℕ). freed_all ids mid) named ∙ ap (freed_all (victims_of before.limit (with_use id rows before.book))) told ∙ ap (λ (n : ℕ). weighed id n before) same

-- of some cells kept ranges are evicted, and nothing else changes
pub record EvictsOf (ids : List ℕ) (before after : Store) : Type 0 where
  pub freed : after ≡ freed_all ids before
  pub evicts : Evicts before.holdings.slots after.holdings.slots
  pub others : (id : ℕ) → (Has ids id → ⊥) → slice_get after.holdings.slots id ≡ slice_get before.holdings.slots id
  pub gone : (id : ℕ) → Has ids id → IsHeld before.holdings.slots id → slice_get after.holdings.slots id ≡ Some Free
  pub same_used : after.holdings.used ≡ before.holdings.used
  pub same_limit : after.limit ≡ before.limit

stays_by : (a b : List Slot) (id : ℕ) → slice_get a id ≡ Some Free → (slice_get b id ≡ slice_get a id) ⊎ IsEvicted a b id → slice_get b id ≡ Some Free
stays_by a b id free (inl same) = same ∙ free
stays_by a b id free (inr e) = e.free

-- what is free stays free
pub free_stays : (a b : List Slot) (id : ℕ) → Evicts a b → slice_get a id ≡ Some Free → slice_get b id ≡ Some Free
free_stays a b id h free = stays_by a b id free (h.each id)

freed_since : (a b c : List Slot) (id : ℕ) → IsHeld a id → Evicts b c → (IsHeld b id → slice_get c id ≡ Some Free) → (slice_get b id ≡ slice_get a id) ⊎ IsEvicted a b id → slice_get c id ≡ Some Free
freed_since a b c id held evicts gone (inl same) = gone (record { at = held.at; state = held.state; held = same ∙ held.held })
freed_since a b c id held evicts gone (inr e) = free_stays b c id evicts e.free

gone_by : (ids : List ℕ) (id q : ℕ) (a b c : Store) → EvictsOf ids a b → Evicts b.holdings.slots c.holdings.slots → (IsHeld b.holdings.slots id → slice_get c.holdings.slots id ≡ Some Free) → IsHeld a.holdings.slots q → Has ids q ⊎ Has (id ∷ []) q →
    slice_get c.holdings.slots q ≡ Some Free
gone_by ids id q a b c h evicts gone held (inl g) = free_stays b.holdings.slots c.holdings.slots q evicts (h.gone q g held)
gone_by ids id q a b c h evicts gone held (inr (inl e)) =
    freed_since a.holdings.slots b.holdings.slots c.holdings.slots q held evicts (subst (λ (k : ℕ). IsHeld b.holdings.slots k → slice_get c.holdings.slots k ≡ Some Free) e gone) (h.evicts.each q)
gone_by ids id q a b c h evicts gone held (inr (inr g)) = absurd g

-- none of them
pub evicts_of_none : (store : Store) → EvictsOf [] store store
evicts_of_none store = record { freed = refl; evicts = evicts_none store.holdings.slots; others = λ id h. refl; gone = λ id h held. absurd h; same_used = refl; same_limit = refl }

-- one more
pub evicts_of_more : (ids more : List ℕ) (id : ℕ) (a b c : Store) → more ≡ ids ++ id ∷ [] → EvictsOf ids a b → Evicts b.holdings.slots c.holdings.slots →
    ((other : ℕ) → other ≢ id → slice_get c.holdings.slots other ≡ slice_get b.holdings.slots other) → (IsHeld b.holdings.slots id → slice_get c.holdings.slots id ≡ Some Free) →
    c.holdings.used ≡ b.holdings.used → c.limit ≡ b.limit → (IsHeld b.holdings.slots id → c ≡ without_cell id b) → ((IsHeld b.holdings.slots id → ⊥) → c ≡ b) → EvictsOf more a c
evicts_of_more ids more id a b c is h evicts others gone used limit held none = subst (λ (xs : List ℕ). EvictsOf xs a c) (sym is) (record {
  freed = freed_from id b c held none ∙ ap (freed id) h.freed ∙ sym (freed_more ids id a);
  evicts = evicts_then a.holdings.slots b.holdings.slots c.holdings.slots h.evicts evicts;
  others = λ q none. others q (λ e. none (has_append_right ids (id ∷ []) q (inl (sym e)))) ∙ h.others q (λ g. none (has_append_left ids (id ∷ []) q g));
  gone = λ q g held. gone_by ids id q a b c h evicts gone held (has_append_cases ids (id ∷ []) q g);
  same_used = used ∙ h.same_used;
  same_limit = limit ∙ h.same_limit;
})

-- ---- settling

-- the first cells that were used are settled; where one cell alone was used, what it holds stays if it is light enough, and goes, with the first cell, if it is too heavy
pub record Settles (count : ℕ) (before after : Store) : Type 0 where
  pub settled : after ≡ settled_all (take count before.holdings.used) before
  pub evicts : Evicts before.holdings.slots after.holdings.slots
  pub same_used : after.holdings.used ≡ before.holdings.used
  pub spared : (id at : ℕ) (s : KeptRange) → before.holdings.used ≡ id ∷ [] → slice_get before.holdings.slots id ≡ Some (Held at s) → length s.kept.rows + 1 ≤ before.limit → slice_get after.holdings.slots id ≡ Some (Held at s)
  pub heavy : (id at : ℕ) (s : KeptRange) → 1 ≤ count → before.holdings.used ≡ id ∷ [] → slice_get before.holdings.slots id ≡ Some (Held at s) → IsTooHeavy before.limit s → slice_get after.holdings.slots id ≡ Some Free
  pub same_limit : after.limit ≡ before.limit

-- nothing is settled
pub settles_none : (store : Store) → Settles 0 store store
settles_none store = record { settled = refl; evicts = evicts_none store.holdings.slots; same_used = refl; spared = λ id at s one held light. held; heavy = λ id at s some one held heavy. absurd (omega arith); same_limit = refl }

alone : (used : List ℕ) (id index : ℕ) → used ≡ id ∷ [] → index < length used → get_or used index 0 ≡ id
alone used id index one less = subst (λ (xs : List ℕ). index < length xs → get_or xs index 0 ≡ id) (sym one) (by index) less
  where
    by : (k : ℕ) → k < 1 → get_or (id ∷ []) k 0 ≡ id
    by zero h = refl
    by (suc k) h = absurd (omega arith)

heavy_by : (a b c : List Slot) (id at : ℕ) (s : KeptRange) → slice_get a id ≡ Some (Held at s) → Evicts b c → (slice_get b id ≡ Some (Held at s) → slice_get c id ≡ Some Free) → (slice_get b id ≡ slice_get a id) ⊎ IsEvicted a b id →
    slice_get c id ≡ Some Free
heavy_by a b c id at s held evicts goes (inl same) = goes (same ∙ held)
heavy_by a b c id at s held evicts goes (inr e) = free_stays b c id evicts e.free

-- one more cell is settled
pub settles_more : (a b c : Store) (index cell : ℕ) → Settles index a b → index < length a.holdings.used → cell ≡ get_or a.holdings.used index 0 → Evicts b.holdings.slots c.holdings.slots → c.holdings.used ≡ b.holdings.used → c.limit ≡ b.limit →
    ((at : ℕ) (s : KeptRange) → slice_get b.holdings.slots cell ≡ Some (Held at s) → length s.kept.rows + 1 ≤ b.limit → slice_get c.holdings.slots cell ≡ Some (Held at s)) →
    ((at : ℕ) (s : KeptRange) → slice_get b.holdings.slots cell ≡ Some (Held at s) → IsTooHeavy b.limit s → slice_get c.holdings.slots cell ≡ Some Free) →
    ((at : ℕ) (s : KeptRange) → slice_get b.holdings.slots cell ≡ Some (Held at s) → c ≡ weighed cell (length s.kept.rows) b) → ((IsHeld b.holdings.slots cell → ⊥) → c ≡ b) → Settles (index + 1) a c
settles_more a b c index cell h less is evicts used limit spared heavy held none = record {
  settled = settled_from cell b c held none ∙ ap (settled cell) h.settled ∙ sym (settled_more (take index a.holdings.used) cell a)
      ∙ ap (λ (ids : List ℕ). settled_all ids a) (ap (λ (k : ℕ). take index a.holdings.used ++ k ∷ []) is ∙ sym (take_more a.holdings.used index 0 less));
  evicts = evicts_then a.holdings.slots b.holdings.slots c.holdings.slots h.evicts evicts;
  same_used = used ∙ h.same_used;
  spared = λ id at s one held light.
      let this : cell ≡ id = is ∙ alone a.holdings.used id index one less in
      subst (λ (k : ℕ). slice_get c.holdings.slots k ≡ Some (Held at s)) this
      (spared at s (subst (λ (k : ℕ). slice_get b.holdings.slots k ≡ Some (Held at s)) (sym this) (h.spared id at s one held light))
      (subst (λ (n : ℕ). length s.kept.rows + 1 ≤ n) (sym h.same_limit) light));
  heavy = λ id at s some one held too_heavy.
      let this : cell ≡ id = is ∙ alone a.holdings.used id index one less in
      heavy_by a.holdings.slots b.holdings.slots c.holdings.slots id at s held evicts
      (λ here. subst (λ (k : ℕ). slice_get c.holdings.slots k ≡ Some Free) this
      (heavy at s (subst (λ (k : ℕ). slice_get b.holdings.slots k ≡ Some (Held at s)) (sym this) here) (subst (λ (n : ℕ). IsTooHeavy n s) (sym h.same_limit) too_heavy)))
      (h.evicts.each id);
  same_limit = limit ∙ h.same_limit;
}

-- the first ones are
pub settles_first : (index : ℕ) (a b c : Store) → Settles index a b → c ≡ b → SettlesFirst a c
settles_first index a b c h same = record { count = index; is = same ∙ h.settled }

-- all are, and none was used then
pub settled_unused : {A E : Type 0} (result : Result A E) (before told after : Store) → OnOk result (told ≡ settled_all before.holdings.used before) → after ≡ unused told → OnOk result (after ≡ unused (settled_all before.holdings.used before))
settled_unused (Ok x) before told after is same = same ∙ ap unused is
settled_unused (Err e) before told after is same = tt

-- ---- what the book names

others_by : (id first : ℕ) (rest : List ℕ) (x : Bool) → first ≢ id → (Has rest id → ⊥) → Has (cond x [] (first ∷ rest)) id → ⊥
others_by id first rest true apart none h = h
others_by id first rest false apart none (inl e) = apart e
others_by id first rest false apart none (inr h) = none h

not_victim_by : (limit id w : ℕ) (used : Used) → w ≤ limit → ((e : ℕ × ℕ) → Has used e → e.0 ≢ id) → Has (victims_of limit (used ++ (id, w) ∷ [])) id → ⊥
not_victim_by limit id w [] light others h = subst (λ (xs : List ℕ). Has xs id) (none_go limit ((id, w) ∷ []) (omega arith)) h
not_victim_by limit id w (e ∷ es) light others h =
    others_by id e.0 (victims_of limit (es ++ (id, w) ∷ [])) (nat_le (total_weight (e ∷ es ++ (id, w) ∷ [])) limit) (others e (inl refl)) (not_victim_by limit id w es light (λ f g. others f (inr g))) h

-- an id that is used last has not to go where it is light enough alone
pub not_victim : (limit id rows : ℕ) (used : Used) → rows + 1 ≤ limit → Has (victims_of limit (with_use id rows used)) id → ⊥
not_victim limit id rows used light h = not_victim_by limit id (weigh rows) (without id used) (omega arith)
    (λ e g same. let kept = has_filter (λ (f : ℕ × ℕ). not (id == f.0)) used e g in
    false≢true (sym (not-true (id == e.0) kept.0) ∙ subst (λ (k : ℕ). (k == e.0) ≡ true) same (eq-eqb e.0 e.0 refl))) h

weighs_at_least : (id w : ℕ) (used : Used) → w ≤ total_weight (used ++ (id, w) ∷ [])
weighs_at_least id w [] = omega arith
weighs_at_least id w (e ∷ es) = rw (sum_by-cons (λ (f : ℕ × ℕ). f.1) e (es ++ (id, w) ∷ [])) (let rest = weighs_at_least id w es in omega arith)

weighs_above : (limit id w : ℕ) (used : Used) → limit < w → limit < total_weight (used ++ (id, w) ∷ [])
weighs_above limit id w used heavy = let all = weighs_at_least id w used in omega arith

victim_by : (limit id w : ℕ) (used : Used) → limit < w → Has (victims_of limit (used ++ (id, w) ∷ [])) id
victim_by limit id w [] heavy = subst (λ (xs : List ℕ). Has xs id) (sym (first_goes limit (id, w) [] (weighs_above limit id w [] heavy))) (inl refl)
victim_by limit id w (e ∷ es) heavy = subst (λ (xs : List ℕ). Has xs id) (sym (first_goes limit e (es ++ (id, w) ∷ []) (weighs_above limit id w (e ∷ es) heavy))) (inr (victim_by limit id w es heavy))

-- an id that is used last has to go where it is too heavy alone
pub too_heavy_goes : (limit id rows : ℕ) (used : Used) → limit < rows + 1 → limit < 2 ^ 48 → Has (victims_of limit (with_use id rows used)) id
too_heavy_goes limit id rows used heavy most = victim_by limit id (weigh rows) (without id used) (omega arith)
