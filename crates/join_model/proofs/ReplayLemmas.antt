-- What the first entries of a history leave, and that each next one has no cause against it.
use Rattle.std.proofs.Common.{◌≡◌, ℕ, ◌+◌, ◌<◌, ◌∷◌, ◌++◌, length, get_or, take, drop, slice_get, Some, None, sym, ap, ◌∙◌}
use Rattle.std.proofs.lemmas.List.{take-append-drop}
use Rattle.std.proofs.lemmas.Option.{slice_get-get_or}
use Rattle.semantics.specs.Texts.{Table}
use Rattle.semantics.specs.Histories.{Entry, History, base_of}
use Rattle.semantics.specs.Verdicts.{AllEntered}
use Rattle.join_set.specs.Summaries.{Summary, StandsFor, cause_over}
use Rattle.join_set.proofs.SummaryLemmas.{cause_over-StandsFor}
use Rattle.join_model.proofs.HidingLemmas.{drop_at_place}

-- the first entries leave this
pub record HasTaken (h : History) (n : ℕ) (summary : Summary) (base : Table) : Type 0 where
  pub stands : StandsFor summary (take n h)
  pub unsettled : summary.floor ≡ 0
  pub same_base : base ≡ base_of (take n h)

-- the entries around the one at a place
split_at_place : (h : History) (n : ℕ) (e : Entry) → slice_get h n ≡ Some e → h ≡ take n h ++ e ∷ drop (n + 1) h
split_at_place h n e at = sym (take-append-drop n h) ∙ ap (λ es. take n h ++ es) (drop_at_place h n e at)

-- the element at a place
at_place : (h : History) (n : ℕ) (e : Entry) → n < length h → e ≡ get_or h n e → slice_get h n ≡ Some e
at_place h n e less is = slice_get-get_or h n e less ∙ ap Some (sym is)

-- nothing is against the entry at a place
pub next_cause : (h : History) (n : ℕ) (e : Entry) (summary : Summary) (base : Table) → AllEntered h → n < length h → e ≡ get_or h n e → HasTaken h n summary base →
    cause_over summary e.write ≡ None
next_cause h n e summary base entered less is taken =
    cause_over-StandsFor summary (take n h) e.write taken.stands ∙ entered (take n h) e (drop (n + 1) h) (split_at_place h n e (at_place h n e less is))
