-- Scans under way stay right for a history.
use Rattle.std.proofs.Common.{◌≡◌, ◌==◌, ◌++◌, ℕ, ◌≤◌, Bool, true, false, cond, List, [], length, take, Option, Some, None, IfSome, refl, sym, ap, ◌∙◌, subst, arith}
use Rattle.std.proofs.lemmas.Bool.{and_parts}
use Rattle.std.proofs.lemmas.List.{length-append}
use Rattle.std.proofs.lemmas.Option.{none-some, same_Some}
use Rattle.semantics.specs.Texts.{Text, Range, Table, pairs_within}
use Rattle.semantics.specs.Histories.{History, IsPrefix}
use Rattle.semantics.specs.States.{state}
use Rattle.semantics.proofs.StateLemmas.{ascending-state}
use Rattle.key_ranges.specs.Ranges.{is_below}
use Rattle.key_ranges.proofs.OrderLemmas.{is_up_to, up_to_from_below}
use Rattle.growing_history.proofs.PrefixLemmas.{take_prefix}
use Rattle.layering.proofs.PartLemmas.{two_make_range, parts_make_range}
use Rattle.scan_core.specs.Progress.{Progress, progress_at, Puts, begun, further, IsNext}
use Rattle.scan_core.specs.Going.{IsGoing, AreGoing}

-- a position within a history is within a longer one
longer : (h more : History) (p : ℕ) → IsPrefix h more → p ≤ length h → p ≤ length more
longer h more p prefix less = omega (arith, less, ap length prefix.1, length-append h prefix.0)

-- scans of which one is another, or gone
pub going_put : (h : History) (number : ℕ) (o : Option Progress) (before after : List Progress) → AreGoing h before → Puts number o before after → IfSome o (IsGoing h) → AreGoing h after
going_put h number o before after going puts goes other g is = by (other == number) (sym (puts other) ∙ is)
  where
    of : (found : Option Progress) → IfSome found (IsGoing h) → found ≡ Some g → IsGoing h g
    of None right e = absurd (none-some g e)
    of (Some x) right e = subst (IsGoing h) (same_Some x g e) right

    by : (b : Bool) → cond b o (progress_at other before) ≡ Some g → IsGoing h g
    by true e = of o goes e
    by false e = going other g e

-- a longer history
pub going_more : (h more : History) (table : List Progress) → IsPrefix h more → AreGoing h table → AreGoing more table
going_more h more table prefix going number g is =
    let was = going number g is in
    record {
      stands = longer h more g.scan.position prefix was.stands;
      has = was.has ∙ ap (λ (l : History). pairs_within (record { low = g.scan.range.low; high = g.scan.place }) (state l)) (sym (take_prefix g.scan.position h more was.stands prefix));
    }

-- a scan that begins at the history's length
pub begun_goes : (h : History) (number position : ℕ) (range : Range) → position ≡ length h → IsGoing h (begun number range position)
begun_goes h number position range is = record {
  stands = omega (arith, is);
  has = parts_make_range (record { low = range.low; high = range.low }) [] (state (take position h)) (ascending-state (take position h)) refl;
}

-- a scan that goes further
pub further_goes : (h : History) (upto : Text) (more : Table) (g : Progress) (range : Range) (position : ℕ) → IsGoing h g → IsNext upto g range position → more ≡ pairs_within range (state (take position h)) → IsGoing h (further upto more g)
further_goes h upto more g range position goes next read =
    let h_then = take g.scan.position h in
    let here : more ≡ pairs_within (record { low = g.scan.place; high = upto }) (state h_then) = read ∙ (λ i. pairs_within (next.from i) (state (take (next.after i) h))) in
    let beyond = and_parts (is_below g.scan.place upto) (is_up_to upto g.scan.range.high) next.goes in
    record {
      stands = goes.stands;
      has = (λ i. goes.has i ++ here i)
          ∙ two_make_range g.scan.range.low g.scan.place upto (state h_then) (ascending-state h_then) next.begins (up_to_from_below g.scan.place upto beyond.0);
    }
