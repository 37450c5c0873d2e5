-- What a seat knows fits the history, also once a step changes what one seat knows.
use Rattle.std.proofs.Common.{length-set, ◌≡◌, ◌≢◌, ◌⊎◌, ℕ, ◌+◌, ◌<◌, ◌≤◌, length, List, [], ◌∷◌, ◌++◌, set, Some, None, refl, sym, ap, ◌∙◌, subst, ⊎_elim, inl, inr, arith}
use mathlib.Core.Option.{some, none}
use mathlib.Core.Option as maybe
use lib.ListN.{get_elem?}
use Rattle.std.proofs.lemmas.List.{append-nil, length-append}
use Rattle.atomic_table.proofs.Lists.{set_else}
use Rattle.semantics.specs.Histories.{Entry, History, IsPrefix}
use Rattle.growing_history.proofs.PrefixLemmas.{prefix_trans}
use Rattle.write_history.specs.Entries.{written_by}
use Rattle.write_history.specs.Stored.{Stored}
use Rattle.write_history.specs.Seats.{HasOwn, Apart}
use Rattle.write_history.specs.Marks.{before, AllAllow}
use Rattle.write_history.specs.Rule.{Fits, IsFree, IsTaken, Holds}
use Rattle.write_history.specs.declared.known.Kinds.{Kinds}
use Rattle.write_history.specs.declared.known.Known.{Known}
use Rattle.write_history.specs.declared.known.Role.{Role}
use Rattle.write_history.specs.declared.known.Role.TheVariants.{Deals, Numbered, Notes}
use Rattle.write_history.proofs.Seating.{all_set, all_end}
use Rattle.write_history.proofs.Entering.{prefix_more, written_by-append, written_by-other, written_by-between}

-- ---- what a seat knows

abbrev pub Homes : Type 0
Homes = List (maybe.Option Stored)

-- whether the turn is free or taken
abbrev pub Place : Kinds → List ℕ → History → ℕ → ℕ → Homes → List Known → Type 0
Place kinds words h floor turn homes views = IsFree h floor turn homes views ⊎ IsTaken kinds words h floor turn homes views

-- a seat that knew nothing of the turn has the turn neither
pub holds_none : (v : Known) (h : History) → v.held ≡ None → v.held ≡ Some h → ⊥
holds_none v h nothing something = let both : None ≡ Some h = sym nothing ∙ something in cc

-- what the one that changes does not hold is held as before
pub place_set : (kinds : Kinds) (words : List ℕ) (h : History) (floor turn : ℕ) (homes : Homes) (views : List Known) (id : ℕ) (v w : Known) → get_elem? views id ≡ some v → v.held ≡ None → w.held ≡ None →
    Place kinds words h floor turn homes views → Place kinds words h floor turn homes (set views id w)
place_set kinds words h floor turn homes views id v w at none_v none_w place = ⊎_elim
    (λ (free : IsFree h floor turn homes views). inl (record {
      free = free.free;
      log = free.log;
      home = free.home;
      is_log = free.is_log;
      nobody = all_set (λ seat u. u.held ≡ None) views id w none_w (λ seat u other at'. free.nobody seat u at');
    }))
    (λ (taken : IsTaken kinds words h floor turn homes views).
    let elsewhere : id ≢ taken.holder = λ same. holds_none v h none_v (taken.holds v (subst (λ seat. get_elem? views seat ≡ some v) same at)).held in
    inr (record {
      taken = taken.taken;
      away = taken.away;
      holder = taken.holder;
      seated = let less = taken.seated in omega (arith, length-set views id w);
      holds = λ u at'. taken.holds u (sym (set_else views id taken.holder w (λ same. elsewhere (sym same))) ∙ at');
      others = λ seat u other at'. all_set (λ seat u. seat ≢ taken.holder → u.held ≡ None) views id w (λ away. none_w) (λ seat u apart at'' away. taken.others seat u away at'') seat u at' other;
    }))
    place

-- a seat that comes without the turn leaves it where it is
pub place_end : (kinds : Kinds) (words : List ℕ) (h : History) (floor turn : ℕ) (homes : Homes) (views : List Known) (w : Known) → w.held ≡ None → Place kinds words h floor turn homes views → Place kinds words h floor turn homes (views ++ w ∷ [])
place_end kinds words h floor turn homes views w nothing place = ⊎_elim
    (λ (free : IsFree h floor turn homes views). inl (record {
      free = free.free;
      log = free.log;
      home = free.home;
      is_log = free.is_log;
      nobody = all_end (λ seat u. u.held ≡ None) views w nothing free.nobody;
    }))
    (λ (taken : IsTaken kinds words h floor turn homes views). inr (record {
      taken = taken.taken;
      away = taken.away;
      holder = taken.holder;
      seated = let less = taken.seated in omega (arith, length-append views (w ∷ []));
      holds = λ u at. all_end (λ seat u. seat ≡ taken.holder → Holds kinds words h floor u) views w
          (λ same. let less = taken.seated in absurd (omega arith))
          (λ seat u at' same. taken.holds u (subst (λ i. get_elem? views i ≡ some u) same at')) taken.holder u at refl;
      others = λ seat u other at. all_end (λ seat u. seat ≢ taken.holder → u.held ≡ None) views w (λ away. nothing) (λ seat u at' away. taken.others seat u away at') seat u at other;
    }))
    place

-- ---- numbers that are dealt

pub apart_left : (role : Role) (next : ℕ) → Apart role (Deals next) → Apart role (Deals (next + 1))
apart_left (Deals other) next apart = absurd apart
apart_left (Numbered number) next apart = omega arith
apart_left Notes next apart = tt

pub apart_left_first : (role : Role) (next : ℕ) → Apart (Deals next) role → Apart (Deals (next + 1)) role
apart_left_first (Deals other) next apart = absurd apart
apart_left_first (Numbered number) next apart = omega arith
apart_left_first Notes next apart = tt

pub apart_dealt : (role : Role) (next : ℕ) → Apart role (Deals next) → Apart role (Numbered next)
apart_dealt (Deals other) next apart = absurd apart
apart_dealt (Numbered number) next apart = λ same. absurd (omega arith)
apart_dealt Notes next apart = tt

pub apart_dealt_first : (role : Role) (next : ℕ) → Apart (Deals next) role → Apart (Numbered next) role
apart_dealt_first (Deals other) next apart = absurd apart
apart_dealt_first (Numbered number) next apart = λ same. absurd (omega arith)
apart_dealt_first Notes next apart = tt

pub lt_next : (n : ℕ) → n < n + 1
lt_next n = omega arith

-- a note is apart from each seat
pub apart_note : (role : Role) → Apart role Notes
apart_note (Deals next) = tt
apart_note (Numbered number) = tt
apart_note Notes = tt

-- the holder of the turn stays so, and may know of another history, another floor and other words
pub taken_set : (kinds : Kinds) (words words' : List ℕ) (h h' : History) (floor floor' turn : ℕ) (homes : Homes) (views : List Known) (id : ℕ) (w : Known) (taken : IsTaken kinds words h floor turn homes views) →
    taken.holder ≡ id → Holds kinds words' h' floor' w → IsTaken kinds words' h' floor' turn homes (set views id w)
taken_set kinds words words' h h' floor floor' turn homes views id w taken mine now = record {
  taken = taken.taken;
  away = taken.away;
  holder = id;
  seated = let less = taken.seated in omega (arith, length-set views id w);
  holds = λ u at. all_set (λ seat u. seat ≡ id → Holds kinds words' h' floor' u) views id w (λ same. now) (λ seat u apart at' same. absurd (apart same)) id u at refl;
  others = λ seat u other at. all_set (λ seat u. seat ≢ id → u.held ≡ None) views id w (λ away. absurd (away refl))
      (λ seat u apart at' away. taken.others seat u (λ same. away (same ∙ mine)) at') seat u at other;
}

-- a word of another pass changes, and allows what it did
pub place_words : (kinds : Kinds) (words words' : List ℕ) (h : History) (floor turn : ℕ) (homes : Homes) (views : List Known) →
    ((count low : ℕ) → low ≤ before (length h) → AllAllow kinds count low words → AllAllow kinds count low words') → Place kinds words h floor turn homes views → Place kinds words' h floor turn homes views
place_words kinds words words' h floor turn homes views more place = ⊎_elim
    (λ (free : IsFree h floor turn homes views). inl free)
    (λ (taken : IsTaken kinds words h floor turn homes views). inr (record {
      taken = taken.taken;
      away = taken.away;
      holder = taken.holder;
      seated = taken.seated;
      holds = λ u at. let old = taken.holds u at in record { held = old.held; lacks = old.lacks; counted = old.counted; passed = more u.passed u.low old.counted old.passed };
      others = taken.others;
    }))
    place

-- a seat that has seen all entries has seen its own
pub own_of_all : (h seen : History) (role : Role) → HasOwn h seen role → HasOwn h h role
own_of_all h seen (Deals next) own = own
own_of_all h seen (Numbered number) own = refl
own_of_all h seen Notes own = tt

-- a seat that has seen a beginning with its own entries has them in what it sees besides
pub own_of_more : (h seen more : History) (role : Role) → IsPrefix seen more → IsPrefix more h → HasOwn h seen role → HasOwn h more role
own_of_more h seen more (Deals next) first next_one own = own
own_of_more h seen more (Numbered number) first next_one own = written_by-between number seen more h first next_one own
own_of_more h seen more Notes first next_one own = tt

-- an entry of another number is none of the seat's own
pub own_after : (h seen : History) (role : Role) (number : ℕ) (e : Entry) → e.client ≡ number → Apart role (Numbered number) → HasOwn h seen role → HasOwn (h ++ e ∷ []) seen role
own_after h seen (Deals next) number e by apart own = λ n past.
    let other : e.client ≢ n = λ same. let m : number ≡ n = sym by ∙ same in absurd (omega arith) in
    written_by-append n h (e ∷ []) ∙ ap (λ es. written_by n h ++ es) (written_by-other n e other) ∙ append-nil (written_by n h) ∙ own n past
own_after h seen (Numbered n) number e by apart own =
    let other : e.client ≢ n = λ same. apart (sym same ∙ by) in
    written_by-append n h (e ∷ []) ∙ ap (λ es. written_by n h ++ es) (written_by-other n e other) ∙ append-nil (written_by n h) ∙ own
own_after h seen Notes number e by apart own = tt

-- whatever is known of a history is known of one with an entry more
pub fits_after : (kinds : Kinds) (words : List ℕ) (h : History) (floor number : ℕ) (e : Entry) (u : Known) → e.client ≡ number → Apart u.role (Numbered number) → Fits kinds words h floor u → Fits kinds words (h ++ e ∷ []) floor u
fits_after kinds words h floor number e u by apart fit = record {
  knows = fit.knows;
  marked = fit.marked;
  seen = prefix_trans u.seen h (h ++ e ∷ []) fit.seen (prefix_more h (e ∷ []));
  told = prefix_trans u.told h (h ++ e ∷ []) fit.told (prefix_more h (e ∷ []));
  own = own_after h u.seen u.role number e by apart fit.own;
  reached = fit.reached;
}
