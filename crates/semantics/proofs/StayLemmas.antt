-- The joins that stand after the first entries, from the stays after all.
use Rattle.std.proofs.Common.{◌≡◌, ℕ, zero, suc, ◌+◌, ◌<◌, ◌≤◌, ◌&&◌, ◌||◌, ◌==◌, List, [], ◌∷◌, ◌++◌, length, map, filter, take, Bool, true, false, cond, not, nat_lt, nat_le, if◌then◌else◌, Option, Some, None, is_none, refl, sym, ap, ◌∙◌, subst, arith, ◌⊎◌, inl, inr, length-take, append-nil}
use Rattle.std.specs.List.{AllByRecursion, list_all}
use Rattle.std.proofs.lemmas.Bool.{lt-leb, lt-ltb, and_parts, or_cases, false≢true, not-true, false_from_ne_true}
use Rattle.std.proofs.Common.{le-leb, leb-true, ltb-true, ltb-false}
use Rattle.std.proofs.lemmas.List.{map-append}
use Rattle.std.proofs.lemmas.List.Elements.{filter-append}
use Rattle.semantics.specs.Histories.{Write, put, remove, declare, drop_join, Entry, History, DeclaredJoin, without, joins_after, joins_from, joins_of}
use Rattle.semantics.proofs.Members.{AllByRecursion-append}
use Rattle.semantics.specs.Stays.{Stay, declared, stays_after, stays_from, stays_of, is_after, stands_at, joins_at, is_steady, are_steady}

-- ---- those that stand at last

-- the joins whose stays have not ended
abbrev last_joins : List Stay → List DeclaredJoin
last_joins stays = map declared (filter (λ s. is_none s.until) stays)

-- the end of a stay by a drop
abbrev ending : ℕ → ℕ → Stay → Stay
ending at position s = if (s.position == at) && is_none s.until then record { position = s.position; join = s.join; until = Some position } else s

last_dropped : (at position : ℕ) (stays : List Stay) → last_joins (map (ending at position) stays) ≡ without at (last_joins stays)
last_dropped at position [] = refl
last_dropped at position (s ∷ stays) = by (s.position == at) s.until s.position refl (last_dropped at position stays)
  where
    by : (b : Bool) (o : Option ℕ) (n : ℕ) → (n == at) ≡ b → last_joins (map (ending at position) stays) ≡ without at (last_joins stays) →
        last_joins ((if b && is_none o then record { position = n; join = s.join; until = Some position } else record { position = n; join = s.join; until = o }) ∷ map (ending at position) stays)
        ≡ without at (last_joins (record { position = n; join = s.join; until = o } ∷ stays))
    by true None n is e = e ∙ sym (ap (λ b. cond (not b) (record { position = n; join = s.join } ∷ without at (last_joins stays)) (without at (last_joins stays))) is)
    by false None n is e = ap (λ l. record { position = n; join = s.join } ∷ l) e ∙ sym (ap (λ b. cond (not b) (record { position = n; join = s.join } ∷ without at (last_joins stays)) (without at (last_joins stays))) is)
    by true (Some d) n is e = e
    by false (Some d) n is e = e

last_after : (position : ℕ) (write : Write) (stays : List Stay) → last_joins (stays_after position write stays) ≡ joins_after position write (last_joins stays)
last_after position (put k v) stays = refl
last_after position (remove k) stays = refl
last_after position (declare j) stays =
    ap (map declared) (filter-append (λ (s : Stay). is_none s.until) stays (record { position = position; join = j; until = None } ∷ []))
    ∙ map-append declared (filter (λ (s : Stay). is_none s.until) stays) (record { position = position; join = j; until = None } ∷ [])
last_after position (drop_join at) stays = last_dropped at position stays

last_from : (position : ℕ) (stays : List Stay) (h : History) → last_joins (stays_from position stays h) ≡ joins_from position (last_joins stays) h
last_from position stays [] = refl
last_from position stays (e ∷ es) =
    last_from (position + 1) (stays_after position e.write stays) es ∙ ap (λ joins. joins_from (position + 1) joins es) (last_after position e.write stays)

-- ---- those that stood earlier

same_front : (p at position : ℕ) (stays : List Stay) (b : Bool) (t : Stay) → joins_at p (map (ending at position) stays) ≡ joins_at p stays →
    map declared (cond b (t ∷ filter (stands_at p) (map (ending at position) stays)) (filter (stands_at p) (map (ending at position) stays))) ≡ map declared (cond b (t ∷ filter (stands_at p) stays) (filter (stands_at p) stays))
same_front p at position stays true t f = ap (λ l. declared t ∷ l) f
same_front p at position stays false t f = f

-- the end of a stay at a later position changes none that stood
same_stands : (p at position : ℕ) (stays : List Stay) → p < position → joins_at p (map (ending at position) stays) ≡ joins_at p stays
same_stands p at position [] less = refl
same_stands p at position (s ∷ stays) less = by (s.position == at) s.until (same_stands p at position stays less)
  where
    now : nat_lt p position ≡ true
    now = lt-ltb p position less

    by : (b : Bool) (o : Option ℕ) → joins_at p (map (ending at position) stays) ≡ joins_at p stays →
        joins_at p ((if b && is_none o then record { position = s.position; join = s.join; until = Some position } else record { position = s.position; join = s.join; until = o }) ∷ map (ending at position) stays)
        ≡ joins_at p (record { position = s.position; join = s.join; until = o } ∷ stays)
    by true None e = front (nat_le s.position p && nat_lt p position) (nat_le s.position p && true) (ap (λ b. nat_le s.position p && b) now) e
      where
        front : (b c : Bool) → b ≡ c → joins_at p (map (ending at position) stays) ≡ joins_at p stays →
            map declared (cond b (record { position = s.position; join = s.join; until = Some position } ∷ filter (stands_at p) (map (ending at position) stays)) (filter (stands_at p) (map (ending at position) stays)))
            ≡ map declared (cond c (record { position = s.position; join = s.join; until = None } ∷ filter (stands_at p) stays) (filter (stands_at p) stays))
        front true true is f = ap (λ l. record { position = s.position; join = s.join } ∷ l) f
        front false false is f = f
        front true false is f = absurd (false≢true (sym is))
        front false true is f = absurd (false≢true is)
    by true (Some d) e = same_front p at position stays (stands_at p (record { position = s.position; join = s.join; until = Some d })) (record { position = s.position; join = s.join; until = Some d }) e
    by false o e = same_front p at position stays (stands_at p (record { position = s.position; join = s.join; until = o })) (record { position = s.position; join = s.join; until = o }) e

-- a later write changes none that stood
at_after : (p position : ℕ) (write : Write) (stays : List Stay) → p < position → joins_at p (stays_after position write stays) ≡ joins_at p stays
at_after p position (put k v) stays less = refl
at_after p position (remove k) stays less = refl
at_after p position (declare j) stays less =
    ap (map declared) (filter-append (stands_at p) stays (record { position = position; join = j; until = None } ∷ []))
    ∙ map-append declared (filter (stands_at p) stays) (filter (stands_at p) (record { position = position; join = j; until = None } ∷ []))
    ∙ ap (λ b. joins_at p stays ++ map declared (cond (b && true) (record { position = position; join = j; until = None } ∷ []) [])) (lt-leb position p less)
    ∙ append-nil (joins_at p stays)
at_after p position (drop_join at) stays less = same_stands p at position stays less

at_from : (p position : ℕ) (stays : List Stay) (h : History) → p < position → joins_at p (stays_from position stays h) ≡ joins_at p stays
at_from p position stays [] less = refl
at_from p position stays (e ∷ es) less = at_from p (position + 1) (stays_after position e.write stays) es (omega arith) ∙ at_after p position e.write stays less

at_taken : (p position n : ℕ) (stays : List Stay) (h : History) → p < position + n → joins_at p (stays_from position stays h) ≡ joins_at p (stays_from position stays (take n h))
at_taken p position zero stays h less = at_from p position stays h (omega arith)
at_taken p position (suc n) stays [] less = refl
at_taken p position (suc n) stays (e ∷ es) less = at_taken p (position + 1) n (stays_after position e.write stays) es (omega arith)

-- ---- at the end

-- a stay begins up to a position, ends up to it if it ends, and begins before it ends
abbrev pub IsWithinStay : ℕ → ℕ → Option ℕ → Type 0
IsWithinStay p begin None = begin ≤ p
IsWithinStay p begin (Some d) = (begin < d) × (d ≤ p)

abbrev pub IsUpTo : ℕ → Stay → Type 0
IsUpTo p s = IsWithinStay p s.position s.until

abbrev pub AreUpTo : ℕ → List Stay → Type 0
AreUpTo p stays = AllByRecursion (IsUpTo p) stays

up_to_more : (p m : ℕ) (stays : List Stay) → p ≤ m → AreUpTo p stays → AreUpTo m stays
up_to_more p m [] up all = tt
up_to_more p m (s ∷ stays) up all = (by s.until all.0, up_to_more p m stays up all.1)
  where
    by : (o : Option ℕ) → IsWithinStay p s.position o → IsWithinStay m s.position o
    by None l = omega arith
    by (Some d) l = (l.0, omega (arith, l.1))

up_to_dropped : (at p : ℕ) (stays : List Stay) → AreUpTo p stays → AreUpTo (p + 1) (map (ending at (p + 1)) stays)
up_to_dropped at p [] all = tt
up_to_dropped at p (s ∷ stays) all = (by (s.position == at) s.until all.0, up_to_dropped at p stays all.1)
  where
    by : (b : Bool) (o : Option ℕ) → IsWithinStay p s.position o →
        IsUpTo (p + 1) (if b && is_none o then record { position = s.position; join = s.join; until = Some (p + 1) } else record { position = s.position; join = s.join; until = o })
    by true None l = (omega arith, omega arith)
    by false None l = omega arith
    by true (Some d) l = (l.0, omega (arith, l.1))
    by false (Some d) l = (l.0, omega (arith, l.1))

up_to_after : (p : ℕ) (write : Write) (stays : List Stay) → AreUpTo p stays → AreUpTo (p + 1) (stays_after (p + 1) write stays)
up_to_after p (put k v) stays all = up_to_more p (p + 1) stays (omega arith) all
up_to_after p (remove k) stays all = up_to_more p (p + 1) stays (omega arith) all
up_to_after p (declare j) stays all = AllByRecursion-append (IsUpTo (p + 1)) stays (record { position = p + 1; join = j; until = None } ∷ []) (up_to_more p (p + 1) stays (omega arith) all) (omega arith, tt)
up_to_after p (drop_join at) stays all = up_to_dropped at p stays all

up_to_from : (p : ℕ) (stays : List Stay) (h : History) → AreUpTo p stays → AreUpTo (p + length h) (stays_from (p + 1) stays h)
up_to_from p stays [] all = up_to_more p (p + 0) stays (omega arith) all
up_to_from p stays (e ∷ es) all =
    up_to_more (p + 1 + length es) (p + suc (length es)) (stays_from (p + 1 + 1) (stays_after (p + 1) e.write stays) es) (omega arith)
    (up_to_from (p + 1) (stays_after (p + 1) e.write stays) es (up_to_after p e.write stays all))

-- each stay of a history lies within it
pub stays_up_to : (h : History) → AreUpTo (length h) (stays_of h)
stays_up_to h = subst (λ n. AreUpTo n (stays_of h)) (let e : 0 + length h ≡ length h = omega arith in e) (up_to_from 0 [] h tt)

at_last : (p : ℕ) (stays : List Stay) → AreUpTo p stays → joins_at p stays ≡ last_joins stays
at_last p [] all = refl
at_last p (s ∷ stays) all = by s.until all.0 (at_last p stays all.1)
  where
    and_false : (a b : Bool) → b ≡ false → (a && b) ≡ false
    and_false true b is = is
    and_false false b is = refl

    not_below : (a b : ℕ) → b ≤ a → nat_lt a b ≡ false
    not_below a b up = false_from_ne_true (nat_lt a b) (λ t. let l = ltb-true a b t in omega (arith, l))

    front : (b c : Bool) (t : Stay) → b ≡ c → joins_at p stays ≡ last_joins stays →
        map declared (cond b (t ∷ filter (stands_at p) stays) (filter (stands_at p) stays)) ≡ map declared (cond c (t ∷ filter (λ u. is_none u.until) stays) (filter (λ u. is_none u.until) stays))
    front true true t is e = ap (λ l. declared t ∷ l) e
    front false false t is e = e
    front true false t is e = absurd (false≢true (sym is))
    front false true t is e = absurd (false≢true is)

    by : (o : Option ℕ) → IsWithinStay p s.position o → joins_at p stays ≡ last_joins stays →
        joins_at p (record { position = s.position; join = s.join; until = o } ∷ stays) ≡ last_joins (record { position = s.position; join = s.join; until = o } ∷ stays)
    by None l e = front (nat_le s.position p && true) true (record { position = s.position; join = s.join; until = None }) (ap (λ b. b && true) (le-leb s.position p l)) e
    by (Some d) l e = front (nat_le s.position p && nat_lt p d) false (record { position = s.position; join = s.join; until = Some d }) (and_false (nat_le s.position p) (nat_lt p d) (not_below p d l.1)) e

-- the joins after the first p entries are those whose stays have begun up to there and not ended
pub joins_at_stays : (h : History) (p : ℕ) → joins_of (take p h) ≡ joins_at p (stays_of h)
joins_at_stays h p =
    let long = length-take p h in
    let upto = up_to_more (length (take p h)) p (stays_of (take p h)) (omega (arith, long)) (stays_up_to (take p h)) in
    sym (at_taken p 1 p [] h (omega arith) ∙ at_last p (stays_of (take p h)) upto ∙ last_from 1 [] (take p h))

-- ---- joins that stay

-- where no stay begins or ends between, the same stand
pub steady_joins : (q p x : ℕ) (stays : List Stay) → q ≤ x → x ≤ p → are_steady q p stays ≡ true → joins_at x stays ≡ joins_at q stays
steady_joins q p x [] from to steady = refl
steady_joins q p x (s ∷ stays) from to steady =
    let parts = and_parts (is_steady q p s) (are_steady q p stays) steady in
    let both = and_parts (nat_le s.position q || nat_lt p s.position) (is_after p s.until || not (is_after q s.until)) parts.0 in
    front (stands_at x s) (stands_at q s) (λ i. begins (or_cases (nat_le s.position q) (nat_lt p s.position) both.0) i && ends s.until both.1 i) (steady_joins q p x stays from to parts.1)
  where
    front : (b c : Bool) → b ≡ c → joins_at x stays ≡ joins_at q stays → map declared (cond b (s ∷ filter (stands_at x) stays) (filter (stands_at x) stays)) ≡ map declared (cond c (s ∷ filter (stands_at q) stays) (filter (stands_at q) stays))
    front true true is e = ap (λ l. declared s ∷ l) e
    front false false is e = e
    front true false is e = absurd (false≢true (sym is))
    front false true is e = absurd (false≢true is)

    begins : (nat_le s.position q ≡ true) ⊎ (nat_lt p s.position ≡ true) → nat_le s.position x ≡ nat_le s.position q
    begins (inl early) = let l = leb-true s.position q early in le-leb s.position x (omega (arith, l)) ∙ sym early
    begins (inr late) = let l = ltb-true p s.position late in lt-leb s.position x (omega (arith, l)) ∙ sym (lt-leb s.position q (omega (arith, l)))

    ends : (o : Option ℕ) → (is_after p o || not (is_after q o)) ≡ true → is_after x o ≡ is_after q o
    ends None e = refl
    ends (Some d) e = by (or_cases (nat_lt p d) (not (nat_lt q d)) e)
      where
        by : (nat_lt p d ≡ true) ⊎ (not (nat_lt q d) ≡ true) → nat_lt x d ≡ nat_lt q d
        by (inl late) = let l = ltb-true p d late in lt-ltb x d (omega (arith, l)) ∙ sym (lt-ltb q d (omega (arith, l)))
        by (inr early) =
            let no : nat_lt q d ≡ false = not-true (nat_lt q d) early in
            let l = ltb-false q d no in
            false_from_ne_true (nat_lt x d) (λ t. let m = ltb-true x d t in omega (arith, l, m)) ∙ sym no
