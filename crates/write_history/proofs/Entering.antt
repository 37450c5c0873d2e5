-- Lists of entries: beginnings of one list, entries by number, and one entry more.
use Rattle.std.proofs.Common.{◌≡◌, ◌≢◌, ℕ, ◌<◌, ◌≤◌, ◌==◌, [], ◌∷◌, ◌++◌, length, nat_le, true, false, if◌then◌else◌, None, ne_eqb, eq-eqb, refl, sym, ap, ◌∙◌, subst, ⊎_elim, arith, append_assoc}
use Rattle.std.specs.List.{AllByRecursion}
use Rattle.std.proofs.lemmas.List.{append-nil, length-append}
use Rattle.std.proofs.lemmas.List.{nil_from_length}
use Rattle.std.proofs.lemmas.List.Elements.{filter-append}
use Rattle.std.proofs.lemmas.Bool.{le-leb, lt-leb}
use Rattle.std.proofs.lemmas.Bool.Decides.{leb_tells}
use Rattle.semantics.specs.Histories.{Entry, History, IsPrefix}
use Rattle.semantics.specs.Verdicts.{verdict}
use Rattle.semantics.proofs.EnteredLemmas.{AllEntered-nil, AllEntered-push}
use Rattle.semantics.proofs.Members.{AllByRecursion-append}
use Rattle.growing_history.specs.Entered.{IsWrite}
use Rattle.growing_history.proofs.ElementLemmas.{all_left}
use Rattle.growing_history.proofs.PrefixLemmas.{prefix_refl}
use Rattle.write_history.specs.Entries.{IsRecorded, written_by}
use Rattle.write_history.specs.Steps.{longer}

-- ---- beginnings

-- every list begins with the empty one
pub prefix_nil : (h : History) → IsPrefix [] h
prefix_nil h = (h, refl)

-- a list with more at its end begins with the list
pub prefix_more : (h more : History) → IsPrefix h (h ++ more)
prefix_more h more = (more, refl)

-- what is left of a list behind a beginning
split_of : (a b c d : History) → a ++ c ≡ b ++ d → length a ≤ length b → IsPrefix a b
split_of [] b c d is less = prefix_nil b
split_of (x ∷ a) [] c d is less = absurd (omega arith)
split_of (x ∷ a) (y ∷ b) c d is less =
    let first : x ≡ y = cc in
    let others : a ++ c ≡ b ++ d = cc in
    let p = split_of a b c d others (omega arith) in
    (p.0, (λ i. sym first i ∷ p.1 i))

-- of two beginnings of one list the longer begins with the shorter
pub prefix_of_longer : (a b h : History) → IsPrefix a h → IsPrefix b h → length a ≤ length b → IsPrefix a b
prefix_of_longer a b h first next less = split_of a b first.0 next.0 (sym first.1 ∙ next.1) less

-- ---- entries by number

pub written_by-append : (number : ℕ) (a b : History) → written_by number (a ++ b) ≡ written_by number a ++ written_by number b
written_by-append number a b = filter-append (λ e. e.client == number) a b

-- the entry is by the number
pub written_by-own : (number : ℕ) (e : Entry) → e.client ≡ number → written_by number (e ∷ []) ≡ e ∷ []
written_by-own number e is = rw (eq-eqb e.client number is)

-- the entry is by another number
pub written_by-other : (number : ℕ) (e : Entry) → e.client ≢ number → written_by number (e ∷ []) ≡ []
written_by-other number e other = rw (ne_eqb e.client number other)

-- what a beginning has of a number, and a list that begins with it has no more of, each list between the two has
pub written_by-between : (number : ℕ) (a b h : History) → IsPrefix a b → IsPrefix b h → written_by number h ≡ written_by number a → written_by number h ≡ written_by number b
written_by-between number a b h first next same =
    let p : History = written_by number first.0 in
    let q : History = written_by number next.0 in
    let b_is : written_by number b ≡ written_by number a ++ p = ap (written_by number) first.1 ∙ written_by-append number a first.0 in
    let h_is : written_by number h ≡ written_by number b ++ q = ap (written_by number) next.1 ∙ written_by-append number b next.0 in
    let n = ap length b_is ∙ length-append (written_by number a) p in
    let m = ap length h_is ∙ length-append (written_by number b) q in
    let k = ap length same in
    let none : q ≡ [] = nil_from_length q (omega arith) in
    h_is ∙ ap (λ es. written_by number b ++ es) none ∙ append-nil (written_by number b)

-- ---- one entry more

-- a history without entries may stand
pub IsRecorded-nil : (writers : ℕ) → IsRecorded writers []
IsRecorded-nil writers = record {
  entered = record {
    entered = AllEntered-nil;
    writes = tt;
  };
  below = tt;
}

-- so may one with an entry more, which had no cause against it
pub IsRecorded-push : (writers : ℕ) (h : History) (e : Entry) → IsRecorded writers h → verdict e.write h ≡ None → IsWrite e.write → e.client < writers → IsRecorded writers (h ++ e ∷ [])
IsRecorded-push writers h e old free write below = record {
  entered = record {
    entered = AllEntered-push h e old.entered.entered free;
    writes = AllByRecursion-append (λ e. IsWrite e.write) h (e ∷ []) old.entered.writes (write, tt);
  };
  below = AllByRecursion-append (λ e. e.client < writers) h (e ∷ []) old.below (below, tt);
}

-- so may each beginning
pub IsRecorded-prefix : (writers : ℕ) (h more : History) → IsPrefix h more → IsRecorded writers more → IsRecorded writers h
IsRecorded-prefix writers h more prefix all = record {
  entered = record {
    entered = λ before e after is. all.entered.entered before e (after ++ prefix.0) (prefix.1 ∙ ap (λ es. es ++ prefix.0) is ∙ append_assoc before (e ∷ after) prefix.0);
    writes = all_left (λ (e : Entry). IsWrite e.write) h prefix.0 (subst (AllByRecursion (λ (e : Entry). IsWrite e.write)) prefix.1 all.entered.writes);
  };
  below = all_left (λ (e : Entry). e.client < writers) h prefix.0 (subst (AllByRecursion (λ (e : Entry). e.client < writers)) prefix.1 all.below);
}

-- ---- the longer of two

pub longer_is : (a b : History) → length a ≤ length b → longer a b ≡ b
longer_is a b less = rw (le-leb (length a) (length b) less)

pub longer_isnt : (a b : History) → length b < length a → longer a b ≡ a
longer_isnt a b less = rw (lt-leb (length a) (length b) less)

-- the one or the other is the longer
pub longer_either : (P : History → Type 0) (a b : History) → P a → P b → P (longer a b)
longer_either P a b first next = elim (nat_le (length a) (length b)) as (λ t. P (if t then b else a)) [ true ↦ next | false ↦ first ]

-- the longer of two beginnings of one list begins with each
pub prefix_longer_second : (a b h : History) → IsPrefix a h → IsPrefix b h → IsPrefix b (longer a b)
prefix_longer_second a b h first next = ⊎_elim
    (λ (t : (nat_le (length a) (length b) ≡ true) × (length a ≤ length b)). subst (IsPrefix b) (sym (longer_is a b t.1)) (prefix_refl b))
    (λ (t : (nat_le (length a) (length b) ≡ false) × (length b < length a)). subst (IsPrefix b) (sym (longer_isnt a b t.1)) (prefix_of_longer b a h next first (omega arith)))
    (leb_tells (length a) (length b))

pub prefix_longer : (a b h : History) → IsPrefix a h → IsPrefix b h → IsPrefix a (longer a b)
prefix_longer a b h first next = ⊎_elim
    (λ (t : (nat_le (length a) (length b) ≡ true) × (length a ≤ length b)). subst (IsPrefix a) (sym (longer_is a b t.1)) (prefix_of_longer a b h first next t.1))
    (λ (t : (nat_le (length a) (length b) ≡ false) × (length b < length a)). subst (IsPrefix a) (sym (longer_isnt a b t.1)) (prefix_refl a))
    (leb_tells (length a) (length b))
