-- The joins that stand and the base pairs, through one entry more; what is visible.
use Rattle.std.proofs.Common.{◌≡◌, ℕ, zero, suc, ◌+◌, ◌<◌, ◌≤◌, List, [], ◌∷◌, ◌++◌, length, cond, not, slice_get, Some, None, refl, ap, ◌∙◌, ◌⊎◌, ⊎_elim, inl, inr, arith, fold}
use Rattle.std.proofs.lemmas.List.Sums.{fold_push}
use Rattle.std.proofs.lemmas.Option.{none-some, same_Some, slice_get_within}
use Rattle.semantics.specs.Texts.{Text, Table, value_at}
use Rattle.semantics.specs.Histories.{Write, put, remove, declare, drop_join, Entry, History, DeclaredJoin, without, joins_after, joins_from, joins_of, base_after, base_of, is_computed, visible}
use Rattle.semantics.proofs.TableLemmas.{IsAscending, ascending-with_pair, ascending-pairs_where, value_at-pairs_where}
use Rattle.semantics.proofs.MergedLemmas.{ascending-without_key}
use Rattle.semantics.proofs.PartSets.{IsPart, part_filter}

-- ---- one entry more

-- the base pairs after one entry more
pub base_of-push : (h : History) (e : Entry) → base_of (h ++ e ∷ []) ≡ base_after e.write (base_of h)
base_of-push h e = fold_push (λ (table : Table) (x : Entry). base_after x.write table) [] h e

-- the joins that stand after entries that begin at a position, and one entry more
pub joins_from-push : (position : ℕ) (joins : List DeclaredJoin) (h : History) (e : Entry) →
    joins_from position joins (h ++ e ∷ []) ≡ joins_after (position + length h) e.write (joins_from position joins h)
joins_from-push position joins [] e = ap (λ n. joins_after n e.write joins) (omega arith)
joins_from-push position joins (first ∷ h) e =
    joins_from-push (position + 1) (joins_after position first.write joins) h e
    ∙ ap (λ n. joins_after n e.write (joins_from (position + 1) (joins_after position first.write joins) h)) (omega arith)

-- the joins that stand after one entry more
pub joins_of-push : (h : History) (e : Entry) → joins_of (h ++ e ∷ []) ≡ joins_after (length h + 1) e.write (joins_of h)
joins_of-push h e = joins_from-push 1 [] h e ∙ ap (λ n. joins_after n e.write (joins_of h)) (omega arith)

-- ---- the base pairs and the visible ones

-- after a write the keys of base pairs ascend
pub ascending-base_after : (write : Write) (table : Table) → IsAscending table → IsAscending (base_after write table)
ascending-base_after (put k v) table s = ascending-with_pair k v table s
ascending-base_after (remove k) table s = ascending-without_key k table s
ascending-base_after (declare j) table s = s
ascending-base_after (drop_join at) table s = s

-- after writes the keys of base pairs ascend
ascending-base_from : (h : History) (table : Table) → IsAscending table → IsAscending (fold (λ (t : Table) (x : Entry). base_after x.write t) table h)
ascending-base_from [] table s = s
ascending-base_from (e ∷ h) table s = ascending-base_from h (base_after e.write table) (ascending-base_after e.write table s)

-- the keys of the base pairs ascend
pub ascending-base_of : (h : History) → IsAscending (base_of h)
ascending-base_of h = ascending-base_from h [] refl

-- the keys of the visible pairs ascend
pub ascending-visible : (h : History) → IsAscending (visible h)
ascending-visible h = ascending-pairs_where (λ key. not (is_computed (joins_of h) key)) (base_of h) (ascending-base_of h)

-- what is visible at a key is the base pair there, unless an output hides it
pub value_at-visible : (key : Text) (h : History) → value_at key (visible h) ≡ cond (not (is_computed (joins_of h) key)) (value_at key (base_of h)) None
value_at-visible key h = value_at-pairs_where (λ k. not (is_computed (joins_of h) k)) key (base_of h)

-- ---- positions

-- positions ascend: each is from the first bound on and below the second, and below each later one
pub record Ascend (low high : ℕ) (joins : List DeclaredJoin) : Type 0 where
  pub between : (i : ℕ) (s : DeclaredJoin) → slice_get joins i ≡ Some s → (low ≤ s.position) × (s.position < high)
  pub ascend : (i k : ℕ) (s t : DeclaredJoin) → i < k → slice_get joins i ≡ Some s → slice_get joins k ≡ Some t → s.position < t.position

-- no joins
ascend-nil : (low high : ℕ) → Ascend low high []
ascend-nil low high = record { between = λ i s at. absurd (none-some s at); ascend = λ i k s t less at there. absurd (none-some s at) }

-- an upper bound may be greater
ascend_up : (low high more : ℕ) (joins : List DeclaredJoin) → high ≤ more → Ascend low high joins → Ascend low more joins
ascend_up low high more joins up a = record { between = λ i s at. let b = a.between i s at in (b.0, omega arith); ascend = a.ascend }

-- the element at a place of a list with one more is the last one, or one of the others
slice_get_push : {X : Type 0} (xs : List X) (x : X) (i : ℕ) (y : X) → slice_get (xs ++ x ∷ []) i ≡ Some y → (slice_get xs i ≡ Some y) ⊎ ((i ≡ length xs) × (x ≡ y))
slice_get_push [] x zero y at = inr (refl, same_Some x y at)
slice_get_push [] x (suc i) y at = absurd (none-some y at)
slice_get_push (z ∷ xs) x zero y at = inl at
slice_get_push (z ∷ xs) x (suc i) y at = ⊎_elim inl (λ e. inr (ap suc e.0, e.1)) (slice_get_push xs x i y at)

-- one join more at the upper bound
ascend-push : (low high : ℕ) (joins : List DeclaredJoin) (s : DeclaredJoin) → low ≤ high → s.position ≡ high → Ascend low high joins → Ascend low (high + 1) (joins ++ s ∷ [])
ascend-push low high joins s up at_high a = record {
  between = λ i t at.
      ⊎_elim (λ e. let b = a.between i t e in (b.0, omega arith)) (λ e. let p = ap (λ (x : DeclaredJoin). x.position) e.1 in (omega arith, omega arith)) (slice_get_push joins s i t at);
  ascend = λ i k t u less at there.
      ⊎_elim
      (λ e. ⊎_elim
      (λ f. a.ascend i k t u less e f)
      (λ f. let b = a.between i t e in let p = ap (λ (x : DeclaredJoin). x.position) f.1 in omega arith)
      (slice_get_push joins s k u there))
      (λ e. ⊎_elim
      (λ f. let w = slice_get_within joins k u f in absurd (omega arith))
      (λ f. absurd (omega arith))
      (slice_get_push joins s k u there))
      (slice_get_push joins s i t at);
}

-- a part of joins whose positions ascend
ascend_part : (low high : ℕ) (part joins : List DeclaredJoin) → IsPart part joins → Ascend low high joins → Ascend low high part
ascend_part low high part joins p a = record {
  between = λ i s at. a.between (p.place i) s (p.same i s at);
  ascend = λ i k s t less at there. a.ascend (p.place i) (p.place k) s t (p.order i k less) (p.same i s at) (p.same k t there);
}

-- a write leaves positions ascending
ascend-joins_after : (low position : ℕ) (write : Write) (joins : List DeclaredJoin) → low ≤ position → Ascend low position joins → Ascend low (position + 1) (joins_after position write joins)
ascend-joins_after low position (put k v) joins up a = ascend_up low position (position + 1) joins (omega arith) a
ascend-joins_after low position (remove k) joins up a = ascend_up low position (position + 1) joins (omega arith) a
ascend-joins_after low position (declare j) joins up a = ascend-push low position joins _ up refl a
ascend-joins_after low position (drop_join at) joins up a = ascend_up low position (position + 1) (without at joins) (omega arith) (ascend_part low position (without at joins) joins (part_filter _ joins) a)

-- writes leave positions ascending
ascend-joins_from : (low position : ℕ) (h : History) (joins : List DeclaredJoin) → low ≤ position → Ascend low position joins → Ascend low (position + length h) (joins_from position joins h)
ascend-joins_from low position [] joins up a = ascend_up low position (position + 0) joins (omega arith) a
ascend-joins_from low position (e ∷ h) joins up a =
    ascend_up low (position + 1 + length h) (position + suc (length h)) _ (omega arith)
    (ascend-joins_from low (position + 1) h (joins_after position e.write joins) (omega arith) (ascend-joins_after low position e.write joins up a))

-- the positions of the joins that stand ascend, from 1 to the length of the history
pub ascend-joins_of : (h : History) → Ascend 1 (1 + length h) (joins_of h)
ascend-joins_of h = ascend-joins_from 1 1 h [] (omega arith) (ascend-nil 1 1)
