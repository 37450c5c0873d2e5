-- Each line of a pull but the last brings an entry.
use Rattle.std.proofs.Common.{◌≡◌, ℕ, ◌+◌, ◌^◌, ◌<◌, ◌≤◌, ◌⊎◌, inl, inr, zero, suc, List, [], ◌∷◌, ◌++◌, length, drop, Bool, true, false, cond, refl, sym, ap, ◌∙◌, subst, arith, append-nil, append_assoc}
use Rattle.std.specs.Prelude.{Option, Some, None, Ok, nat_le, ◌&&◌, ◌||◌}
use Rattle.std.proofs.lemmas.Bool.{and_parts, leb-true, eqb-true}
use Rattle.std.proofs.Math.Dec.{eqb}
use Rattle.semantics.specs.Histories.{Write, History}
use Rattle.protocol.specs.Lines.{Bytes}
use Rattle.protocol.specs.Batches.{Batch}
use Rattle.follow_node.specs.FedLines.{FedLine, of_entries, of_memory, of_gone, of_ahead, of_none, fed_line}
use Rattle.follow_node.specs.Fed.{writes_of}
use Rattle.follow_node.specs.Replicas.{TakesSome}
use Rattle.follow_node.specs.Feeders.{FeederView}
use Rattle.follow_node.specs.Pulls.{takes, is_bad, is_next, heed, TakesLine, Readies, kept_line, read_line}
use Rattle.follow_node.specs.declared.replica.Taken.TheVariants.{Done}
use Rattle.follow_node.proofs.LineTakes.{taken_length}
use Rattle.follow_node.proofs.PullLemmas.{far, IsShortOf}

heed_by : (b b' : Batch) (t : Bool) → cond t (takes b') is_bad ≡ takes b → (t ≡ true) × (b' ≡ b)
heed_by b b' true e = (refl, cc)
heed_by b b' false e = absurd (cc)

-- entries that are taken may be
pub heeds_takes : (first : Option ℕ) (asked : ℕ) (line : FedLine) (b : Batch) → heed first asked line ≡ takes b → (line ≡ of_entries b) × (is_next first asked b.from b.position (length b.entries) ≡ true)
heeds_takes first asked (of_entries b') b e =
    let by = heed_by b b' (is_next first asked b'.from b'.position (length b'.entries)) e in
    (ap of_entries by.1, subst (λ (a : Batch). is_next first asked a.from a.position (length a.entries) ≡ true) by.1 by.0)
heeds_takes first asked of_memory b e = absurd (cc)
heeds_takes first asked (of_gone n) b e = absurd (cc)
heeds_takes first asked (of_ahead n) b e = absurd (cc)
heeds_takes first asked of_none b e = absurd (cc)

-- all were taken
pub done_all : (ws rest : List Write) (n : ℕ) (ws' : List Write) → TakesSome ws rest Done n ws' → (n ≡ length rest) × (ws' ≡ ws ++ rest)
done_all ws [] n ws' took = (took.1, took.2 ∙ sym (append-nil ws))
done_all ws (w ∷ rest) zero ws' took = absurd took.1
done_all ws (w ∷ rest) (suc n) ws' took =
    let later = done_all (ws ++ w ∷ []) rest n ws' took.1 in
    (ap suc later.0, later.1 ∙ append_assoc ws (w ∷ []) rest)

or_true : (x y : Bool) → (x || y) ≡ true → (x ≡ true) ⊎ (y ≡ true)
or_true true y e = inl refl
or_true false y e = inr e

-- what may be taken is no less than the first line's, and has an entry where that is more than was asked for
pub next_more : (first asked from n count : ℕ) → is_next (Some first) asked from n count ≡ true → asked < first → (first ≤ n) × (0 < count)
next_more first asked from n count next short =
    let parts = and_parts (eqb from asked) (nat_le first n && (nat_le (from + count) n && (nat_le 1 count || nat_le n from))) next in
    let others = and_parts (nat_le first n) (nat_le (from + count) n && (nat_le 1 count || nat_le n from)) parts.1 in
    let last = and_parts (nat_le (from + count) n) (nat_le 1 count || nat_le n from) others.1 in
    let at : from ≡ asked = eqb-true from asked parts.0 in
    let enough : first ≤ n = leb-true first n others.0 in (
      enough,
      elim (or_true (nat_le 1 count) (nat_le n from) last.1) [
        | inl e ↦ leb-true 1 count e
        | inr e ↦ let k : n ≤ from = leb-true n from e in absurd (omega arith)
      ],
    )

drop_zero : (n : ℕ) (ws : List Write) → n ≡ 0 → drop n ws ≡ ws
drop_zero n ws e = ap (λ m. drop m ws) e

length_writes : (es : History) → length (writes_of es) ≡ length es
length_writes [] = refl
length_writes (e ∷ es) = ap suc (length_writes es)

-- after the first line each next one brings the pull nearer to where it goes
pub nearer : (left : Option Bytes) (first : Option ℕ) (f g f' : FeederView) (ws ws' : List Write) (bytes : Bytes) (goal : ℕ) →
    IsShortOf first f ws → Readies left f ws bytes g → TakesLine first g f' ws ws' (Ok goal) → goal < 2 ^ 64 → length ws' < goal → far (Some goal) ws' < far first ws
nearer left None f g f' ws ws' bytes goal short ready took small more = omega arith
nearer left (Some first) f _ f' ws ws' _ goal short (kept_line opened kept) took small more = absurd (let z : true ≡ false = sym kept ∙ short.0 in cc)
nearer left (Some first) f _ f' ws ws' _ goal short (read_line bytes g opened kept hears asked none) took small more =
    let rest = took.0.1 in
    let is_goal : goal ≡ first = took.0.2 in
    let b = rest.batch in
    let next = (heeds_takes (Some first) g.asked (fed_line g.line) b rest.heeds).1 in
    let at : g.asked < first = let k = short.1 in omega arith in
    let some = (next_more first g.asked b.from b.position (length b.entries) next at).1 in
    let all = done_all ws (drop g.taken (writes_of b.entries)) took.0.0 ws' rest.took in
    let count : length (drop g.taken (writes_of b.entries)) ≡ length b.entries = ap length (drop_zero g.taken (writes_of b.entries) none) ∙ length_writes b.entries in
    let longer = taken_length ws (drop g.taken (writes_of b.entries)) Done took.0.0 ws' rest.took in
    let n = all.0 in
    let k = short.1 in
    omega arith
