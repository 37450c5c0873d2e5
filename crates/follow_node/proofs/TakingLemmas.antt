-- Writes that are taken one after another.
use Rattle.std.proofs.Common.{◌≡◌, ℕ, ◌+◌, ◌-◌, ◌<◌, zero, suc, List, [], ◌∷◌, ◌++◌, length, drop, refl, sym, ap, ◌∙◌, subst, arith}
use Rattle.std.specs.Prelude.{None}
use Rattle.semantics.specs.Histories.{Write, Entry}
use Rattle.follow_node.specs.Fed.{writes_of}
use Rattle.follow_node.specs.Replicas.{cause_after, IsTaken, Stops, TakesSome}
use Rattle.follow_node.specs.declared.replica.Taken.{Taken}
use Rattle.follow_node.specs.declared.replica.Taken.TheVariants.{Done, Refused, OutOfMemory}

-- what the rest of the writes come to behind those that were taken, all come to behind the first
pub record TakenSoFar (first now : List Write) (all rest : List Write) (before taken : ℕ) : Type 0 where
  pub count : ℕ
  pub counted : taken ≡ before + count
  pub goes : (result : Taken) (n m : ℕ) (after : List Write) → m ≡ count + n → TakesSome now rest result n after → TakesSome first all result m after

pub taken_first : (now ws rest : List Write) (taken : ℕ) → rest ≡ ws → TakenSoFar now now ws rest taken taken
taken_first now ws rest taken same = record {
  count = 0;
  counted = omega arith;
  goes = λ result n m after e h. subst (λ k. TakesSome now ws result k after) (let k : n ≡ m = omega arith in k) (subst (λ l. TakesSome now l result n after) same h);
}

-- one more is taken
pub taken_more : (first now now' all rest rest' : List Write) (w : Write) (before taken : ℕ) → rest ≡ w ∷ rest' → cause_after now w ≡ None → now' ≡ now ++ w ∷ [] →
    TakenSoFar first now all rest before taken → TakenSoFar first now' all rest' before (taken + 1)
taken_more first now now' all rest rest' w before taken is none next so_far =
    let counted = so_far.counted in
    record {
      count = so_far.count + 1;
      counted = omega arith;
      goes = λ result n m after e h.
          so_far.goes result (suc n) m after (omega arith)
          (subst (λ l. TakesSome now l result (suc n) after) (sym is) (none, subst (λ ws. TakesSome ws rest' result n after) next h));
    }

-- the next is not taken
pub taken_stops : (first now now' all rest rest' : List Write) (w : Write) (before taken : ℕ) (result : Taken) → rest ≡ w ∷ rest' → now' ≡ now → Stops result (cause_after now w) →
    TakenSoFar first now all rest before taken → (n : ℕ) × (taken ≡ before + n) × TakesSome first all result n now'
taken_stops first now now' all rest rest' w before taken result is same stops so_far = (
  so_far.count,
  so_far.counted,
  so_far.goes result 0 so_far.count now' (omega arith) (subst (λ l. TakesSome now l result 0 now') (sym is) (same, stops)),
)

-- all are taken
pub taken_all : (first now all rest : List Write) (before taken : ℕ) → rest ≡ [] →
    TakenSoFar first now all rest before taken → (n : ℕ) × (taken ≡ before + n) × TakesSome first all Done n now
taken_all first now all rest before taken is so_far = (
  so_far.count,
  so_far.counted,
  so_far.goes Done 0 so_far.count now (omega arith) (subst (λ l. TakesSome now l Done 0 now) (sym is) (refl, refl, refl)),
)

-- one fewer is passed over
pub drop_fewer : {A : Type 0} → (n : ℕ) (x : A) (xs : List A) → 0 < n → drop n (x ∷ xs) ≡ drop (n - 1) xs
drop_fewer zero x xs some = absurd (omega arith)
drop_fewer (suc n) x xs some = ap (λ m. drop m xs) (let e : n ≡ suc n - 1 = omega arith in e)

pub passes_over : (first now all : List Write) (es es' : List Entry) (e : Entry) (before taken skipped : ℕ) → es ≡ e ∷ es' → 0 < skipped →
    TakenSoFar first now all (drop skipped (writes_of es)) before taken → TakenSoFar first now all (drop (skipped - 1) (writes_of es')) before taken
passes_over first now all es es' e before taken skipped is some so_far =
    subst (λ l. TakenSoFar first now all l before taken) (ap (λ l. drop skipped (writes_of l)) is ∙ drop_fewer skipped e.write (writes_of es') some) so_far

-- the next of the writes, where none is passed over
pub next_is : (es es' : List Entry) (e : Entry) (skipped : ℕ) → es ≡ e ∷ es' → skipped ≡ 0 → drop skipped (writes_of es) ≡ e.write ∷ drop skipped (writes_of es')
next_is es es' e skipped is none = ap (λ l. drop skipped (writes_of l)) is ∙ ap (λ n. drop n (e.write ∷ writes_of es')) none ∙ ap (λ n. e.write ∷ drop n (writes_of es')) (sym none)

-- what is not taken stops the others
pub stops_by : (before : List Write) (w : Write) (result : Taken) (after : List Write) → IsTaken before w result after → (result ≡ Done → ⊥) → (after ≡ before) × Stops result (cause_after before w)
stops_by before w Done after taken other = absurd (other refl)
stops_by before w Refused after taken other = (taken.1, taken.0)
stops_by before w (OutOfMemory _) after taken other = (taken, tt)

drop_nothing : (n : ℕ) → drop {A = Write} n [] ≡ []
drop_nothing zero = refl
drop_nothing (suc n) = refl

pub none_left : (es : List Entry) (n : ℕ) → length es ≡ 0 → drop n (writes_of es) ≡ []
none_left [] n e = drop_nothing n
none_left (x ∷ es) n e = absurd (omega arith)
