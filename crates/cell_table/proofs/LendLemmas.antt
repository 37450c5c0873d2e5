-- What a cell lends.
use Rattle.std.proofs.Common.{◌≡◌, ℕ, ◌++◌, ◌==◌, Bool, true, false, cond, List, [], ◌∷◌, slice_get, slice_set, Option, Some, None, MatchOption, refl, sym, ap, ◌∙◌, subst}
use Rattle.std.specs.Option.{unwrap_or}
use Rattle.std.proofs.lemmas.Option.{slice_get_within}
use Rattle.semantics.specs.Texts.{Range}
use Rattle.kept_ranges.specs.Sound.{KeptRange}
use Rattle.range_state.specs.Held.{forgotten}
use Rattle.cell_slots.specs.declared.slot.Slot.{Slot}
use Rattle.cell_slots.specs.declared.slot.Slot.TheVariants.{Held, Lent}
use Rattle.cell_slots.specs.Slots.{Holdings, no_setting, with_lent}
use Rattle.cell_slots.proofs.FrameLemmas.{get-set_same}
use Rattle.cell_table.specs.Moves.{anew_for, at_rank, IsLent}

anew_by : (x : Bool) (s made : KeptRange) → unwrap_or (cond x None (Some made)) s ≡ cond x s made
anew_by true s made = refl
anew_by false s made = refl

-- what is given is the kept range with the rank
pub given_is : (rank : ℕ) (s : KeptRange) (anew found : Option KeptRange) → anew ≡ anew_for rank s → found ≡ Some (unwrap_or anew s) → found ≡ Some (at_rank rank s)
given_is rank s anew found made given = given ∙ ap (λ (o : Option KeptRange). Some (unwrap_or o s)) made ∙ ap Some (anew_by (s.rank == rank) s (forgotten s.join rank s.range))

-- holdings by their parts
abbrev pub holdings : List Slot → List ℕ → Holdings
holdings slots used = record { slots = slots; used = used; setting = no_setting }

-- the holdings after a cell is lent
pub lent_holdings : (slots new : List Slot) (used more : List ℕ) (id at : ℕ) (place range : Range) → new ≡ slice_set slots id (Lent at place) → place ≡ range → more ≡ used ++ id ∷ [] →
    holdings new more ≡ with_lent id at range (holdings slots used)
lent_holdings slots new used more id at place range set same pushed =
    ap (λ (xs : List Slot). holdings xs more) (set ∙ ap (λ (r : Range). slice_set slots id (Lent at r)) same) ∙ ap (λ (xs : List ℕ). holdings (slice_set slots id (Lent at range)) xs) pushed

-- the same kept range is held, whatever its join's position
pub same_state : (at other : ℕ) (s t : KeptRange) → Held at s ≡ Held other t → s ≡ t
same_state at other s t e = cc

-- one slot holds one kept range
pub same_held : (at : ℕ) (s t : KeptRange) → Some (Held at s) ≡ Some (Held at t) → s ≡ t
same_held at s t e = cc

-- what holds of something that is there
pub match_some : {A : Type 0} (o : Option A) (x : A) (N : Type 0) (P : A → Type 0) → o ≡ Some x → P x → MatchOption o N P
match_some {A} o x N P e h = subst (λ (q : Option A). MatchOption q N P) (sym e) h

at_rank_range : (x : Bool) (s made : KeptRange) → made.range ≡ s.range → (cond x s made).range ≡ s.range
at_rank_range true s made e = refl
at_rank_range false s made e = e

-- what is lent is for the range of the kept range that it was
pub given_range : (rank : ℕ) (s : KeptRange) → (at_rank rank s).range ≡ s.range
given_range rank s = at_rank_range (s.rank == rank) s (forgotten s.join rank s.range) refl

-- a cell that lends keeps the place of what is lent
pub lent_slot : (before after : Holdings) (id at rank p : ℕ) (part : Range) (state : KeptRange) → IsLent before after id at rank p part state → slice_get after.slots id ≡ Some (Lent at state.range)
lent_slot before after id at rank p part state l =
    ap (λ (h : Holdings). slice_get h.slots id) l.lent ∙ get-set_same before.slots id (Lent at l.was.range) (slice_get_within before.slots id (Held at l.was) l.might.held) ∙
    ap (λ (r : Range). Some (Lent at r)) (sym (ap (λ (s : KeptRange). s.range) l.given ∙ given_range rank l.was))

-- what holds of something that is there, from what holds in either case
pub match_at : {A : Type 0} (o : Option A) (x : A) (N : Type 0) (P : A → Type 0) → o ≡ Some x → MatchOption o N P → P x
match_at {A} o x N P e h = subst (λ (q : Option A). MatchOption q N P) e h
