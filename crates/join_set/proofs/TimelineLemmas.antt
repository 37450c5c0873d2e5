-- The last changes that stays tell: through one entry more, and of the first entries.
use Rattle.std.proofs.Common.{◌≡◌, ℕ, zero, suc, ◌+◌, ◌-◌, ◌^◌, ◌<◌, ◌≤◌, ◌&&◌, ◌||◌, ◌==◌, List, [], ◌∷◌, ◌++◌, length, map, filter, take, get_or, max, Bool, true, false, cond, not, nat_lt, nat_le, if◌then◌else◌, Option, Some, None, is_none, refl, sym, ap, ◌∙◌, subst, arith, append-nil, append_assoc, length-append, le-leb, leb-true}
use Rattle.std.specs.List.{list_any}
use Rattle.std.proofs.lemmas.Bool.{and_right, lt-leb, le-ltb, not-false}
use Rattle.std.proofs.lemmas.List.{take_all, take_more}
use Rattle.semantics.specs.Texts.{Text}
use Rattle.semantics.specs.Joins.{Join}
use Rattle.semantics.specs.Histories.{Write, put, remove, declare, drop_join, Entry, History, DeclaredJoin, joins_of, is_of_joins, changed_from, changed_at}
use Rattle.semantics.specs.Stays.{Stay, declared, stays_after, stays_from, stays_of, is_after, stands_at, joins_at}
use Rattle.semantics.specs.Verdicts.{full, nojoin, first_cause, drop_cause, write_cause, verdict, AllEntered}
use Rattle.semantics.proofs.JoinSets.{first_cause-None, test-from_None}
use Rattle.semantics.proofs.StayLemmas.{IsWithinStay, IsUpTo, AreUpTo, stays_up_to, joins_at_stays}
use Rattle.growing_history.specs.Changes.{has_table}
use Rattle.join_set.specs.Sets.{greatest}
use Rattle.join_set.specs.Timelines.{up_to, end_up_to, change_up_to, drop_up_to, changed_up_to, dropped_up_to}

-- ---- positions up to another

pub early : (p n : ℕ) → n ≤ p → up_to p n ≡ n
early p n l = ap (λ b. if b then n else 0) (le-leb n p l)

late : (p n : ℕ) → p < n → up_to p n ≡ 0
late p n l = ap (λ b. if b then n else 0) (lt-leb n p l)

up_to_low : (p n : ℕ) → up_to p n ≤ p
up_to_low p n = by (nat_le n p) refl
  where
    by : (b : Bool) → nat_le n p ≡ b → (if b then n else 0) ≤ p
    by true is = leb-true n p is
    by false is = omega arith

end_low : (p : ℕ) (o : Option ℕ) → end_up_to p o ≤ p
end_low p None = omega arith
end_low p (Some d) = up_to_low p d

change_low : (p : ℕ) (s : Stay) → change_up_to p s ≤ p
change_low p s = omega (arith, up_to_low p s.position, end_low p s.until)

drop_low : (p : ℕ) (table : Text) (s : Stay) → drop_up_to p table s ≤ p
drop_low p table s = by (has_table s.join.output table)
  where
    by : (b : Bool) → (if b then (end_up_to p s.until) else 0) ≤ p
    by true = end_low p s.until
    by false = omega arith

-- ---- the greatest of the numbers of elements

-- of two lists one after the other
pub greatest-append : {X : Type 0} (f : X → ℕ) (xs ys : List X) → greatest f (xs ++ ys) ≡ max (greatest f xs) (greatest f ys)
greatest-append f [] ys = omega arith
greatest-append f (x ∷ xs) ys = let rest = greatest-append f xs ys in omega (arith, rest)

-- one element more
pub greatest-push : {X : Type 0} (f : X → ℕ) (xs : List X) (x : X) → greatest f (xs ++ x ∷ []) ≡ max (greatest f xs) (f x)
greatest-push f xs x = let both = greatest-append f xs (x ∷ []) in omega (arith, both)

-- of the first elements, with one more
pub greatest_more : {X : Type 0} (f : X → ℕ) (xs : List X) (i : ℕ) (x : X) → i < length xs → x ≡ get_or xs i x → greatest f (take (i + 1) xs) ≡ max (greatest f (take i xs)) (f x)
greatest_more f xs i x less at = ap (greatest f) (take_more xs i x less ∙ ap (λ y. take i xs ++ y ∷ []) (sym at)) ∙ greatest-push f (take i xs) x

-- a bound of each is one of the greatest
pub greatest_low : (f : Stay → ℕ) (p : ℕ) (stays : List Stay) → ((s : Stay) → f s ≤ p) → greatest f stays ≤ p
greatest_low f p [] each = omega arith
greatest_low f p (s ∷ stays) each = let rest = greatest_low f p stays each in let one = each s in omega (arith, one, rest)

-- two numbers that are the same of each stay
same_greatest : (f g : Stay → ℕ) (m : ℕ) (stays : List Stay) → AreUpTo m stays → ((s : Stay) → IsUpTo m s → f s ≡ g s) → greatest f stays ≡ greatest g stays
same_greatest f g m [] are same = refl
same_greatest f g m (s ∷ stays) are same = λ i. max (same s are.0 i) (same_greatest f g m stays are.1 same i)

-- ---- what comes later

-- the end of a stay by a drop
abbrev pub ending : ℕ → ℕ → Stay → Stay
ending at position s = if (s.position == at) && is_none s.until then record { position = s.position; join = s.join; until = Some position } else s

-- a number of stays that says nothing of what comes after a position
record IsBlind (p : ℕ) (f : Stay → ℕ) : Type 0 where
  begins : (position : ℕ) (j : Join) → p < position → f (record { position = position; join = j; until = None }) ≡ 0
  ends : (begin position : ℕ) (j : Join) → p < position → f (record { position = begin; join = j; until = Some position }) ≡ f (record { position = begin; join = j; until = None })

blind_ended : (f : Stay → ℕ) (p at position : ℕ) (stays : List Stay) → IsBlind p f → p < position → greatest f (map (ending at position) stays) ≡ greatest f stays
blind_ended f p at position [] blind less = refl
blind_ended f p at position (s ∷ stays) blind less = by (s.position == at) s.until (blind_ended f p at position stays blind less)
  where
    by : (b : Bool) (o : Option ℕ) → greatest f (map (ending at position) stays) ≡ greatest f stays →
        greatest f ((if b && is_none o then record { position = s.position; join = s.join; until = Some position } else record { position = s.position; join = s.join; until = o }) ∷ map (ending at position) stays)
        ≡ greatest f (record { position = s.position; join = s.join; until = o } ∷ stays)
    by true None e = λ i. max (blind.ends s.position position s.join less i) (e i)
    by true (Some d) e = ap (λ n. max (f (record { position = s.position; join = s.join; until = Some d })) n) e
    by false o e = ap (λ n. max (f (record { position = s.position; join = s.join; until = o })) n) e

blind_after : (f : Stay → ℕ) (p position : ℕ) (write : Write) (stays : List Stay) → IsBlind p f → p < position → greatest f (stays_after position write stays) ≡ greatest f stays
blind_after f p position (put k v) stays blind less = refl
blind_after f p position (remove k) stays blind less = refl
blind_after f p position (declare j) stays blind less =
    let more = greatest-push f stays (record { position = position; join = j; until = None }) in
    let none = blind.begins position j less in
    omega (arith, more, none)
blind_after f p position (drop_join at) stays blind less = blind_ended f p at position stays blind less

blind_from : (f : Stay → ℕ) (p position : ℕ) (stays : List Stay) (h : History) → IsBlind p f → p < position → greatest f (stays_from position stays h) ≡ greatest f stays
blind_from f p position stays [] blind less = refl
blind_from f p position stays (e ∷ es) blind less = blind_from f p (position + 1) (stays_after position e.write stays) es blind (omega arith) ∙ blind_after f p position e.write stays blind less

blind_taken : (f : Stay → ℕ) (p position n : ℕ) (stays : List Stay) (h : History) → IsBlind p f → p < position + n → greatest f (stays_from position stays h) ≡ greatest f (stays_from position stays (take n h))
blind_taken f p position zero stays h blind less = blind_from f p position stays h blind (omega arith)
blind_taken f p position (suc n) stays [] blind less = refl
blind_taken f p position (suc n) stays (e ∷ es) blind less = blind_taken f p (position + 1) n (stays_after position e.write stays) es blind (omega arith)

no_end : (b : Bool) (n : ℕ) → n ≡ 0 → (if b then n else 0) ≡ 0
no_end true n e = e
no_end false n e = refl

blind_change : (p : ℕ) → IsBlind p (change_up_to p)
blind_change p = record {
  begins = λ position j less. ap (λ n. max n 0) (late p position less);
  ends = λ begin position j less. ap (λ n. max (up_to p begin) n) (late p position less);
}

blind_drop : (p : ℕ) (table : Text) → IsBlind p (drop_up_to p table)
blind_drop p table = record {
  begins = λ position j less. no_end (has_table j.output table) 0 refl;
  ends = λ begin position j less. ap (λ n. if has_table j.output table then n else 0) (late p position less);
}

-- the stays of all entries tell the last change among the first ones
pub changed_taken : (p : ℕ) (h : History) → changed_up_to p (stays_of h) ≡ changed_up_to p (stays_of (take p h))
changed_taken p h = blind_taken (change_up_to p) p 1 p [] h (blind_change p) (omega arith)

-- and the last drop of each table
pub dropped_taken : (p : ℕ) (table : Text) (h : History) → dropped_up_to p table (stays_of h) ≡ dropped_up_to p table (stays_of (take p h))
dropped_taken p table h = blind_taken (drop_up_to p table) p 1 p [] h (blind_drop p table) (omega arith)

-- ---- one entry more

stays_from-push : (position : ℕ) (stays : List Stay) (h : History) (e : Entry) → stays_from position stays (h ++ e ∷ []) ≡ stays_after (position + length h) e.write (stays_from position stays h)
stays_from-push position stays [] e = ap (λ n. stays_after n e.write stays) (omega arith)
stays_from-push position stays (first ∷ h) e =
    stays_from-push (position + 1) (stays_after position first.write stays) h e
    ∙ ap (λ n. stays_after n e.write (stays_from (position + 1) (stays_after position first.write stays) h)) (omega arith)

-- the stays after one entry more
pub stays_of-push : (h : History) (e : Entry) → stays_of (h ++ e ∷ []) ≡ stays_after (length h + 1) e.write (stays_of h)
stays_of-push h e = stays_from-push 1 [] h e ∙ ap (λ n. stays_after n e.write (stays_of h)) (omega arith)

changed_from-push : (position last : ℕ) (h : History) (e : Entry) → changed_from position last (h ++ e ∷ []) ≡ (if is_of_joins e.write then position + length h else changed_from position last h)
changed_from-push position last [] e = ap (λ n. if is_of_joins e.write then n else last) (omega arith)
changed_from-push position last (first ∷ h) e =
    changed_from-push (position + 1) (if is_of_joins first.write then position else last) h e
    ∙ ap (λ n. if is_of_joins e.write then n else changed_from (position + 1) (if is_of_joins first.write then position else last) h) (omega arith)

-- the last declaration or drop after one entry more
pub changed_at-push : (h : History) (e : Entry) → changed_at (h ++ e ∷ []) ≡ (if is_of_joins e.write then length h + 1 else changed_at h)
changed_at-push h e = changed_from-push 1 0 h e ∙ ap (λ n. if is_of_joins e.write then n else changed_at h) (omega arith)

-- the joins that stand after a history are those whose stays have not ended
pub joins_now : (h : History) → joins_at (length h) (stays_of h) ≡ joins_of h
joins_now h = sym (joins_at_stays h (length h)) ∙ ap (λ g. joins_of g) (take_all (length h) h (omega arith))

-- ---- a drop

-- some join that stands after m entries passes a test: the first stay's, if it has not ended, or one of the others
any_at : (test : DeclaredJoin → Bool) (m : ℕ) (s : Stay) (stays : List Stay) → IsUpTo m s →
    list_any test (joins_at m (s ∷ stays)) ≡ ((is_none s.until && test (declared s)) || list_any test (joins_at m stays))
any_at test m s stays is = by (stands_at m s) ∙ ap (λ b. (b && test (declared s)) || list_any test (joins_at m stays)) (now s.until is)
  where
    by : (b : Bool) → list_any test (map declared (cond b (s ∷ filter (stands_at m) stays) (filter (stands_at m) stays))) ≡ ((b && test (declared s)) || list_any test (joins_at m stays))
    by true = refl
    by false = refl

    now : (o : Option ℕ) → IsWithinStay m s.position o → (nat_le s.position m && is_after m o) ≡ is_none o
    now None w = ap (λ b. b && true) (le-leb s.position m w)
    now (Some d) w = and_right (nat_le s.position m) (nat_lt m d) (le-ltb m d w.1)

merged : (a b : Bool) (x y n : ℕ) → x ≤ n → y ≤ n → max (cond a n x) (cond b n y) ≡ cond (a || b) n (max x y)
merged true true x y n l k = omega arith
merged true false x y n l k = omega arith
merged false true x y n l k = omega arith
merged false false x y n l k = refl

-- the greatest number after a drop, where a stay that it ends gets the position of the drop exactly where its join passes a test
ended_greatest : (f g : Stay → ℕ) (test : DeclaredJoin → Bool) (m at : ℕ) (stays : List Stay) → AreUpTo m stays → ((s : Stay) → g s ≤ m) →
    ((s : Stay) → IsUpTo m s → f (ending at (m + 1) s) ≡ cond (is_none s.until && test (declared s)) (m + 1) (g s)) →
    greatest f (map (ending at (m + 1)) stays) ≡ cond (list_any test (joins_at m stays)) (m + 1) (greatest g stays)
ended_greatest f g test m at [] are low each = refl
ended_greatest f g test m at (s ∷ stays) are low each =
    let one = each s are.0 in
    let rest = ended_greatest f g test m at stays are.1 low each in
    let bound = low s in
    let bounds = greatest_low g m stays low in
    (λ i. max (one i) (rest i))
    ∙ merged (is_none s.until && test (declared s)) (list_any test (joins_at m stays)) (g s) (greatest g stays) (m + 1) (omega (arith, bound)) (omega (arith, bounds))
    ∙ ap (λ b. cond b (m + 1) (max (g s) (greatest g stays))) (sym (any_at test m s stays are.0))

-- ---- changes up to one position more

more : (m n : ℕ) → n ≤ m → up_to (m + 1) n ≡ up_to m n
more m n l = early (m + 1) n (omega (arith, l)) ∙ sym (early m n l)

end_more : (m begin : ℕ) (o : Option ℕ) → IsWithinStay m begin o → end_up_to (m + 1) o ≡ end_up_to m o
end_more m begin None w = refl
end_more m begin (Some d) w = more m d w.1

pub begins_up_to : (m begin : ℕ) (o : Option ℕ) → IsWithinStay m begin o → begin ≤ m
begins_up_to m begin None w = w
begins_up_to m begin (Some d) w = omega (arith, w.0, w.1)

change_more : (m : ℕ) (s : Stay) → IsUpTo m s → change_up_to (m + 1) s ≡ change_up_to m s
change_more m s is = λ i. max (more m s.position (begins_up_to m s.position s.until is) i) (end_more m s.position s.until is i)

drop_more : (m : ℕ) (table : Text) (s : Stay) → IsUpTo m s → drop_up_to (m + 1) table s ≡ drop_up_to m table s
drop_more m table s is = ap (λ n. if has_table s.join.output table then n else 0) (end_more m s.position s.until is)

change_ended : (m at : ℕ) (s : Stay) → IsUpTo m s → change_up_to (m + 1) (ending at (m + 1) s) ≡ cond (is_none s.until && (s.position == at)) (m + 1) (change_up_to m s)
change_ended m at s is = by (s.position == at) s.until is
  where
    by : (b : Bool) (o : Option ℕ) → IsWithinStay m s.position o →
        change_up_to (m + 1) (if b && is_none o then record { position = s.position; join = s.join; until = Some (m + 1) } else record { position = s.position; join = s.join; until = o })
        ≡ cond (is_none o && b) (m + 1) (change_up_to m (record { position = s.position; join = s.join; until = o }))
    by true None w =
        let first = early (m + 1) s.position (omega (arith, w)) in
        let last = early (m + 1) (m + 1) (omega arith) in
        (λ i. max (first i) (last i)) ∙ (let e : max s.position (m + 1) ≡ m + 1 = omega (arith, w) in e)
    by false None w = change_more m (record { position = s.position; join = s.join; until = None }) w
    by true (Some d) w = change_more m (record { position = s.position; join = s.join; until = Some d }) w
    by false (Some d) w = change_more m (record { position = s.position; join = s.join; until = Some d }) w

drop_ended : (m at : ℕ) (table : Text) (s : Stay) → IsUpTo m s →
    drop_up_to (m + 1) table (ending at (m + 1) s) ≡ cond (is_none s.until && ((s.position == at) && has_table s.join.output table)) (m + 1) (drop_up_to m table s)
drop_ended m at table s is = by (s.position == at) s.until is
  where
    hit : (b : Bool) (n : ℕ) → n ≡ 0 → (if b then up_to (m + 1) (m + 1) else 0) ≡ cond b (m + 1) (if b then n else 0)
    hit true n e = early (m + 1) (m + 1) (omega arith)
    hit false n e = refl

    by : (b : Bool) (o : Option ℕ) → IsWithinStay m s.position o →
        drop_up_to (m + 1) table (if b && is_none o then record { position = s.position; join = s.join; until = Some (m + 1) } else record { position = s.position; join = s.join; until = o })
        ≡ cond (is_none o && (b && has_table s.join.output table)) (m + 1) (drop_up_to m table (record { position = s.position; join = s.join; until = o }))
    by true None w = hit (has_table s.join.output table) 0 refl
    by false None w = refl
    by true (Some d) w = drop_more m table (record { position = s.position; join = s.join; until = Some d }) w
    by false (Some d) w = drop_more m table (record { position = s.position; join = s.join; until = Some d }) w

-- ---- the last drop of a table, after one write more

-- the join has its output in a table, and was declared at a position
abbrev pub is_hit : ℕ → Text → DeclaredJoin → Bool
is_hit at table s = (s.position == at) && has_table s.join.output table

-- a declaration drops nothing
pub dropped_declared : (m : ℕ) (table : Text) (j : Join) (stays : List Stay) → AreUpTo m stays → dropped_up_to (m + 1) table (stays_after (m + 1) (declare j) stays) ≡ dropped_up_to m table stays
dropped_declared m table j stays are =
    let push = greatest-push (drop_up_to (m + 1) table) stays (record { position = m + 1; join = j; until = None }) in
    let none = no_end (has_table j.output table) 0 refl in
    push ∙ (λ i. max (greatest (drop_up_to (m + 1) table) stays) (none i))
    ∙ (let e : max (greatest (drop_up_to (m + 1) table) stays) 0 ≡ greatest (drop_up_to (m + 1) table) stays = omega arith in e)
    ∙ same_greatest (drop_up_to (m + 1) table) (drop_up_to m table) m stays are (drop_more m table)

-- nor does the time
pub dropped_more : (m : ℕ) (table : Text) (stays : List Stay) → AreUpTo m stays → dropped_up_to (m + 1) table stays ≡ dropped_up_to m table stays
dropped_more m table stays are = same_greatest (drop_up_to (m + 1) table) (drop_up_to m table) m stays are (drop_more m table)

-- a drop is the last of the table where it hits a join of it
pub dropped_ended : (m at : ℕ) (table : Text) (stays : List Stay) → AreUpTo m stays →
    dropped_up_to (m + 1) table (stays_after (m + 1) (drop_join at) stays) ≡ cond (list_any (is_hit at table) (joins_at m stays)) (m + 1) (dropped_up_to m table stays)
dropped_ended m at table stays are =
    ended_greatest (drop_up_to (m + 1) table) (drop_up_to m table) (is_hit at table) m at stays are (drop_low m table) (drop_ended m at table)

-- ---- the last declaration or drop

-- the stays tell the last declaration or drop of a history
abbrev TellChanges : History → Type 0
TellChanges h = changed_at h ≡ changed_up_to (length h) (stays_of h)

-- a drop that nothing refuses drops a join
dropped_one : (at : ℕ) (h : History) → verdict (drop_join at) h ≡ None → list_any (λ s. s.position == at) (joins_of h) ≡ true
unfolding verdict
dropped_one at h e =
    let roomy = first_cause-None (if nat_le (2 ^ 48 - 1) (length h) then Some full else None) (write_cause (drop_join at) h ∷ []) e in
    let own = first_cause-None (write_cause (drop_join at) h) [] roomy.1 in
    not-false (list_any (λ s. s.position == at) (joins_of h)) (test-from_None (not (list_any (λ s. s.position == at) (joins_of h))) nojoin own.0)

changes_after : (h : History) (w : Write) → verdict w h ≡ None → TellChanges h → (if is_of_joins w then length h + 1 else changed_at h) ≡ changed_up_to (length h + 1) (stays_after (length h + 1) w (stays_of h))
changes_after h (put k v) free same = same ∙ sym (same_greatest (change_up_to (length h + 1)) (change_up_to (length h)) (length h) (stays_of h) (stays_up_to h) (change_more (length h)))
changes_after h (remove k) free same = same ∙ sym (same_greatest (change_up_to (length h + 1)) (change_up_to (length h)) (length h) (stays_of h) (stays_up_to h) (change_more (length h)))
changes_after h (declare j) free same =
    let push = greatest-push (change_up_to (length h + 1)) (stays_of h) (record { position = length h + 1; join = j; until = None }) in
    let last = early (length h + 1) (length h + 1) (omega arith) in
    let low = greatest_low (change_up_to (length h + 1)) (length h + 1) (stays_of h) (change_low (length h + 1)) in
    sym (push ∙ (λ i. max (greatest (change_up_to (length h + 1)) (stays_of h)) (max (last i) 0)) ∙ (let e : max (greatest (change_up_to (length h + 1)) (stays_of h)) (max (length h + 1) 0) ≡ length h + 1 = omega (arith, low) in e))
changes_after h (drop_join at) free same =
    let stood : list_any (λ s. s.position == at) (joins_at (length h) (stays_of h)) ≡ true = ap (list_any (λ s. s.position == at)) (joins_now h) ∙ dropped_one at h free in
    sym (ended_greatest (change_up_to (length h + 1)) (change_up_to (length h)) (λ s. s.position == at) (length h) at (stays_of h) (stays_up_to h) (change_low (length h)) (change_ended (length h) at)
    ∙ ap (λ b. cond b (length h + 1) (changed_up_to (length h) (stays_of h))) stood)

changes_more : (h : History) (e : Entry) → verdict e.write h ≡ None → TellChanges h → TellChanges (h ++ e ∷ [])
changes_more h e free same =
    let long : length (h ++ e ∷ []) ≡ length h + 1 = length-append h (e ∷ []) in
    changed_at-push h e ∙ changes_after h e.write free same ∙ sym (λ i. changed_up_to (long i) (stays_of-push h e i))

changes_along : (before rest : History) → AllEntered (before ++ rest) → TellChanges before → TellChanges (before ++ rest)
changes_along before [] entered same = subst (λ g. TellChanges g) (sym (append-nil before)) same
changes_along before (e ∷ rest) entered same =
    let joined = append_assoc before (e ∷ []) rest in
    let here = entered before e rest refl in
    subst (λ g. TellChanges g) joined (changes_along (before ++ e ∷ []) rest (subst (λ g. AllEntered g) (sym joined) entered) (changes_more before e here same))

-- where each entry entered, the stays tell the last declaration or drop
pub stays_tell_changes : (h : History) → AllEntered h → changed_at h ≡ changed_up_to (length h) (stays_of h)
stays_tell_changes h entered = changes_along [] h entered refl

-- it lies within the history
pub changed_within : (h : History) → AllEntered h → changed_at h ≤ length h
changed_within h entered =
    let tell = stays_tell_changes h entered in
    let low = greatest_low (change_up_to (length h)) (length h) (stays_of h) (change_low (length h)) in
    omega (arith, tell, low)
