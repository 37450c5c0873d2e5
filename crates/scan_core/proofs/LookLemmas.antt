-- Scans of a table as scans of a world.
use Rattle.std.proofs.Common.{◌≡◌, ◌==◌, ◌++◌, ℕ, Bool, true, false, cond, List, [], ◌∷◌, find, map, Option, Some, None, option_map, refl, sym, ap, ◌∙◌}
use Rattle.std.proofs.lemmas.Bool.{eqb-true, eqb-false, eq-eqb, ne_eqb}
use Rattle.std.specs.Option.{option_or}
use Rattle.semantics.specs.Texts.{Text, Range, Table}
use Rattle.core_events.specs.Plain.{Scan, scan_of, placed, moved, freed}
use Rattle.core_events.proofs.PlainLemmas.{scan_is_moved, scan_is_freed, scan_is_begun}
use Rattle.scan_core.specs.Progress.{Progress, progress_at, scans_of, begun, further, Puts}

found_by : (g : Progress) (b : Bool) (others : Option Scan) (rest : Option Progress) → others ≡ option_map (λ g. g.scan) rest → cond b (Some g.scan) others ≡ option_map (λ g. g.scan) (cond b (Some g) rest)
found_by g true others rest same = refl
found_by g false others rest same = same

-- the scan with a number
pub scan_of_table : (number : ℕ) (table : List Progress) → scan_of number (scans_of table) ≡ option_map (λ g. g.scan) (progress_at number table)
scan_of_table number [] = refl
scan_of_table number (g ∷ gs) = found_by g (g.scan.number == number) (scan_of number (scans_of gs)) (progress_at number gs) (scan_of_table number gs)

-- so with another table
looks_put : (number other : ℕ) (o : Option Progress) (before after : List Progress) → Puts number o before after →
    scan_of other (scans_of after) ≡ cond (other == number) (option_map (λ g. g.scan) o) (scan_of other (scans_of before))
looks_put number other o before after puts =
    scan_of_table other after ∙ ap (option_map (λ g. g.scan)) (puts other) ∙ by (other == number)
  where
    by : (b : Bool) → option_map (λ g. g.scan) (cond b o (progress_at other before)) ≡ cond b (option_map (λ g. g.scan) o) (scan_of other (scans_of before))
    by true = refl
    by false = sym (scan_of_table other before)

-- ---- a scan that begins, goes further, or is gone

-- numbers that are not the same, the other way round
swapped : (a b : ℕ) → (b == a) ≡ false → (a == b) ≡ false
swapped a b e = ne_eqb a b (λ same. eqb-false b a e (sym same))

nothing_more : (o : Option Scan) → option_or o None ≡ o
nothing_more None = refl
nothing_more (Some s) = refl

-- one that begins, where there was none
pub begun_looks : (number position : ℕ) (range : Range) (before after : List Progress) (other : ℕ) → progress_at number before ≡ None → Puts number (Some (begun number range position)) before after →
    scan_of other (scans_of after) ≡ scan_of other (scans_of before ++ (begun number range position).scan ∷ [])
begun_looks number position range before after other none puts =
    looks_put number other (Some (begun number range position)) before after puts
    ∙ by (other == number) refl
    ∙ sym (scan_is_begun (scans_of before) (begun number range position).scan other)
  where
    scan : Scan
    scan = (begun number range position).scan

    here : scan_of number (scans_of before) ≡ None
    here = scan_of_table number before ∙ ap (option_map (λ g. g.scan)) none

    by : (b : Bool) → (other == number) ≡ b →
        cond b (Some scan) (scan_of other (scans_of before)) ≡ option_or (scan_of other (scans_of before)) (cond (number == other) (Some scan) None)
    by true e =
        let same : other ≡ number = eqb-true other number e in
        let found : scan_of other (scans_of before) ≡ None = ap (λ n. scan_of n (scans_of before)) same ∙ here in
        let is : (number == other) ≡ true = eq-eqb number other (sym same) in
        sym (λ i. option_or (found i) (cond (is i) (Some scan) None))
    by false e =
        sym (ap (λ b. option_or (scan_of other (scans_of before)) (cond b (Some scan) None)) (swapped number other e) ∙ nothing_more (scan_of other (scans_of before)))

further_scan : (upto : Text) (more : Table) (o : Option Progress) → option_map (λ g. g.scan) (option_map (further upto more) o) ≡ option_map (placed upto) (option_map (λ g. g.scan) o)
further_scan upto more None = refl
further_scan upto more (Some g) = refl

-- one that goes further
pub moved_looks : (number : ℕ) (upto : Text) (more : Table) (before after : List Progress) (other : ℕ) → Puts number (option_map (further upto more) (progress_at number before)) before after →
    scan_of other (scans_of after) ≡ scan_of other (moved number upto (scans_of before))
moved_looks number upto more before after other puts =
    looks_put number other (option_map (further upto more) (progress_at number before)) before after puts
    ∙ by (other == number) refl
    ∙ sym (scan_is_moved (scans_of before) number other upto)
  where
    by : (b : Bool) → (other == number) ≡ b →
        cond b (option_map (λ g. g.scan) (option_map (further upto more) (progress_at number before))) (scan_of other (scans_of before))
        ≡ cond b (option_map (placed upto) (scan_of other (scans_of before))) (scan_of other (scans_of before))
    by true e =
        further_scan upto more (progress_at number before)
        ∙ ap (option_map (placed upto)) (sym (scan_of_table number before) ∙ ap (λ n. scan_of n (scans_of before)) (sym (eqb-true other number e)))
    by false e = refl

-- one that is gone
pub freed_looks : (number : ℕ) (before after : List Progress) (other : ℕ) → Puts number None before after → scan_of other (scans_of after) ≡ scan_of other (freed number (scans_of before))
freed_looks number before after other puts = looks_put number other None before after puts ∙ sym (scan_is_freed (scans_of before) number other)
