-- What filling and advancing count at least.
use Rattle.std.proofs.Common.{◌≡◌, ℕ, ◌+◌, ◌≤◌, List, length, take, Option, None, sym, ap, ◌∙◌, subst, inl, inr, arith}
use Rattle.semantics.specs.Texts.{Range, Table}
use Rattle.semantics.specs.Joins.{Join}
use Rattle.semantics.specs.Histories.{History, IsPrefix}
use Rattle.semantics.specs.States.{below}
use Rattle.growing_history.proofs.PrefixLemmas.{take_prefix}
use Rattle.key_ranges.specs.Containing.{range_slots}
use Rattle.range_evaluation.specs.Trees.{Need, reading_steps}
use Rattle.kept_ranges.specs.Sound.{KeptRange}
use Rattle.range_state.specs.Filled.{IsFilledAt}
use Rattle.range_state.specs.Held.{range_kept, view_of}
use Rattle.range_state.specs.Work.{CountsAdvance, fill_needs, needs_under}
use Rattle.range_state.specs.declared.holding.Holding.{Holding}
use Rattle.range_state.specs.declared.subject.Subject.{Subject}
use Rattle.range_state.proofs.SoundLemmas.{of_subject, filled_afresh}

-- nothing is read to fill a range that has no slots
pub nothing_read : (j : Join) (range : Range) (table : Table) (n : ℕ) → range_slots j.output range ≡ None → n + reading_steps (fill_needs j range table) table ≤ n
nothing_read j range table n none =
    let zero : reading_steps (fill_needs j range table) table ≡ 0 = ap (λ o. reading_steps (needs_under j range table o) table) none in
    omega (arith, zero)

-- an advance that fills the range, over a list that has grown, counts what that reads
pub counts_filled : (s : Subject) (o : Option Holding) (made after : Holding) (v : KeptRange) (h here : History) (p old mid new last : ℕ) → view_of s o ≡ v → after ≡ made → last ≡ new → IsPrefix h here → p ≤ length h
    → IsFilledAt s (below (take p here) s.rank) p made → old ≤ mid → mid + reading_steps (fill_needs s.join s.range (below (take p here) s.rank)) (below (take p here) s.rank) ≤ new
    → CountsAdvance p (below (take p h) v.rank) v (range_kept s after) old last
counts_filled s o made after v h here p old mid new last view after_is last_is prefix within filled counted read =
    let same : take p here ≡ take p h = take_prefix p h here within prefix in
    let made_here : IsFilledAt s (below (take p h) s.rank) p made = subst (λ (es : History). IsFilledAt s (below es s.rank) p made) same filled in
    let read_here : mid + reading_steps (fill_needs s.join s.range (below (take p h) s.rank)) (below (take p h) s.rank) ≤ new =
    subst (λ (es : History). mid + reading_steps (fill_needs s.join s.range (below es s.rank)) (below es s.rank) ≤ new) same read in
    let own : mid + reading_steps (fill_needs v.join v.range (below (take p h) v.rank)) (below (take p h) v.rank) ≤ new =
    of_subject (λ j rank range. mid + reading_steps (fill_needs j range (below (take p h) rank)) (below (take p h) rank) ≤ new) s o v view read_here in
    subst (λ (a : Holding). CountsAdvance p (below (take p h) v.rank) v (range_kept s a) old last) (sym after_is)
    (inr (filled_afresh s o made v (take p h) p view made_here, omega (arith, counted, own, last_is)))

-- an advance for which every need was asked counts one step for each at least
pub counts_asked : (s : Subject) (held : Holding) (v after : KeptRange) (table : Table) (p : ℕ) (needs : List Need) (old mid new last : ℕ) → range_kept s held ≡ v → needs ≡ held.rows.needs → last ≡ new → old + length needs ≤ mid → mid ≤ new
    → CountsAdvance p table v after old last
counts_asked s held v after table p needs old mid new last view are last_is asked rest =
    let same : length needs ≡ length v.kept.needs = ap length (are ∙ ap (λ (w : KeptRange). w.kept.needs) view) in
    inl (omega (arith, same, asked, rest, last_is))
