-- What is kept of a history, when entries follow of which only those of the shard are looked at.
use Rattle.std.proofs.Common.{◌≡◌, ◌==◌, ℕ, ◌+◌, ◌-◌, ◌≤◌, List, [], ◌∷◌, ◌++◌, length, length-append, append_assoc, take, Bool, true, false, cond, Some, None, refl, sym, ap, ◌∙◌, subst, arith}
use Rattle.std.proofs.lemmas.Bool.{false≢true}
use Rattle.std.proofs.lemmas.List.{append-nil, take-append-le, take_all}
use Rattle.semantics.specs.Texts.{Text, same, table_of}
use Rattle.semantics.specs.Histories.{Write, put, remove, declare, drop_join, Entry, History}
use Rattle.semantics.proofs.PieceLemmas.{equal_by_same}
use Rattle.base_versions.specs.declared.changes.Change.{Change}
use Rattle.base_versions.specs.declared.placed.Placed.{Placed}
use Rattle.base_versions.specs.Positions.{IsKeptSince, made_from}
use Rattle.base_versions.specs.Versions.{version_by, versions_at, versions_of, SayFrom}
use Rattle.base_versions.specs.Changes.{change_by, changes_of}
use Rattle.base_versions.specs.Kept.{Kept, table_in, shard_of, StandsFor, HasEnteredInPart}
use Rattle.base_versions.specs.Own.{is_of, own_from, AreOwn}

-- an entry and its position
abbrev pub placed : ℕ → Entry → Placed
placed n e = record { position = n; entry = e }

-- one element, where a test passes
one_if : {X : Type 0} (x : X) (b : Bool) → b ≡ false → cond b (x ∷ []) [] ≡ []
one_if x b e = ap (λ c. cond c (x ∷ []) []) e

-- ---- entries of other shards

-- what some entries make, and then others
made_from-append : {X : Type 0} (make : ℕ → Write → List X) (n : ℕ) (h es : History) → made_from make n (h ++ es) ≡ made_from make n h ++ made_from make (n + length h) es
made_from-append make n [] es = ap (λ m. made_from make m es) (omega arith)
made_from-append make n (e ∷ h) es =
    ap (λ xs. make n e.write ++ xs) (made_from-append make (n + 1) h es)
    ∙ ap (λ m. make n e.write ++ (made_from make (n + 1) h ++ made_from make m es)) (omega arith)
    ∙ sym (append_assoc (make n e.write) (made_from make (n + 1) h) (made_from make (n + length (e ∷ h)) es))

-- what is made of no write of another shard
abbrev MakesNone : {X : Type 0} → ℕ → ℕ → (ℕ → Write → List X) → Type 0
MakesNone shards shard make = (position : ℕ) (write : Write) → is_of shards shard write ≡ false → make position write ≡ []

none_by : {X : Type 0} (shards shard : ℕ) (make : ℕ → Write → List X) (n m : ℕ) (e : Entry) (es : History) (b : Bool) → MakesNone shards shard make → is_of shards shard e.write ≡ b →
    cond b (placed n e ∷ []) [] ++ own_from shards shard (n + 1) es ≡ [] → (own_from shards shard (n + 1) es ≡ [] → made_from make (m + 1) es ≡ []) → made_from make m (e ∷ es) ≡ []
none_by shards shard make n m e es true none is all more = let no : placed n e ∷ own_from shards shard (n + 1) es ≡ [] = all in cc
none_by shards shard make n m e es false none is all more = ap (λ xs. xs ++ made_from make (m + 1) es) (none m e.write is) ∙ more all

-- entries of other shards make nothing
none_made : {X : Type 0} (shards shard : ℕ) (make : ℕ → Write → List X) (n m : ℕ) (es : History) → MakesNone shards shard make → own_from shards shard n es ≡ [] → made_from make m es ≡ []
none_made shards shard make n m [] none all = refl
none_made shards shard make n m (e ∷ es) none all =
    none_by shards shard make n m e es (is_of shards shard e.write) none refl all (none_made shards shard make (n + 1) (m + 1) es none)

no_version_at : (shards shard : ℕ) (key k : Text) (b : Bool) → same key k ≡ b → (shard_of shards (table_of key) == shard) ≡ true → (shard_of shards (table_of k) == shard) ≡ false → b ≡ false
no_version_at shards shard key k true e own other = absurd (false≢true (sym other ∙ ap (λ (q : Text). shard_of shards (table_of q) == shard) (sym (equal_by_same key k e)) ∙ own))
no_version_at shards shard key k false e own other = refl

-- a write of another shard makes no version of a key of the shard
no_version : (shards shard : ℕ) (key : Text) → (shard_of shards (table_of key) == shard) ≡ true → MakesNone shards shard (λ position. version_by position key)
no_version shards shard key own position (put k v) other = one_if (record { position = position; value = Some v }) (same key k) (no_version_at shards shard key k (same key k) refl own other)
no_version shards shard key own position (remove k) other = one_if (record { position = position; value = None }) (same key k) (no_version_at shards shard key k (same key k) refl own other)
no_version shards shard key own position (declare j) other = refl
no_version shards shard key own position (drop_join at) other = refl

no_change_at : (shards shard : ℕ) (table k : Text) (b : Bool) → same (table_of k) table ≡ b → (shard_of shards table == shard) ≡ true → (shard_of shards (table_of k) == shard) ≡ false → b ≡ false
no_change_at shards shard table k true e own other = absurd (false≢true (sym other ∙ ap (λ (t : Text). shard_of shards t == shard) (equal_by_same (table_of k) table e) ∙ own))
no_change_at shards shard table k false e own other = refl

-- nor a change of a table of the shard
no_change : (shards shard : ℕ) (table : Text) → (shard_of shards table == shard) ≡ true → MakesNone shards shard (λ position. change_by position table)
no_change shards shard table own position (put k v) other = one_if (record { position = position; key = k }) (same (table_of k) table) (no_change_at shards shard table k (same (table_of k) table) refl own other)
no_change shards shard table own position (remove k) other = one_if (record { position = position; key = k }) (same (table_of k) table) (no_change_at shards shard table k (same (table_of k) table) refl own other)
no_change shards shard table own position (declare j) other = refl
no_change shards shard table own position (drop_join at) other = refl

more_of_none : {X : Type 0} (make : ℕ → Write → List X) (h es : History) → made_from make (1 + length h) es ≡ [] → made_from make 1 (h ++ es) ≡ made_from make 1 h
more_of_none make h es none = made_from-append make 1 h es ∙ ap (λ xs. made_from make 1 h ++ xs) none ∙ append-nil (made_from make 1 h)

-- what is kept stands for the history with entries of other shards too, at the position behind them
pub stands-skipped : (start position n : ℕ) (old : Kept) (h es : History) → position ≡ old.position + length es → own_from old.shards old.shard n es ≡ [] → StandsFor start old h → StandsFor start (record old { position = position }) (h ++ es)
unfolding versions_of changes_of
stands-skipped start position n old h es at none s =
    record {
      same_length = at ∙ ap (λ m. m + length es) s.same_length ∙ sym (length-append h es);
      versions = λ key own.
          subst (λ vs. SayFrom start (versions_at key (table_in (table_of key) old).tracks) vs)
          (sym (more_of_none (λ m. version_by m key) h es (none_made old.shards old.shard (λ m. version_by m key) n (1 + length h) es (no_version old.shards old.shard key own) none))) (s.versions key own);
      changes = λ table own.
          subst (λ cs. IsKeptSince (λ (c : Change). c.position) start (table_in table old).changes cs)
          (sym (more_of_none (λ m. change_by m table) h es (none_made old.shards old.shard (λ m. change_by m table) n (1 + length h) es (no_change old.shards old.shard table own) none))) (s.changes table own);
    }

-- ---- the first entry of the shard

-- among entries that begin at a position this one is the first of the shard, and these are the others
pub record IsFirst (shards shard n : ℕ) (x : Placed) (xs : List Placed) (es : History) : Type 0 where
  pub before : History
  pub after : History
  pub is : es ≡ before ++ x.entry ∷ after
  pub none : own_from shards shard n before ≡ []
  pub at : x.position ≡ n + length before
  pub others : xs ≡ own_from shards shard (x.position + 1) after

first_by : (shards shard n : ℕ) (x : Placed) (xs : List Placed) (e : Entry) (es : History) (b : Bool) → is_of shards shard e.write ≡ b →
    x ∷ xs ≡ cond b (placed n e ∷ []) [] ++ own_from shards shard (n + 1) es → (x ∷ xs ≡ own_from shards shard (n + 1) es → IsFirst shards shard (n + 1) x xs es) → IsFirst shards shard n x xs (e ∷ es)
first_by shards shard n x xs e es true test are later =
    let here : Placed = placed n e in
    let both : x ∷ xs ≡ here ∷ own_from shards shard (n + 1) es = are in
    let head : x ≡ here = cc in
    let rest : xs ≡ own_from shards shard (n + 1) es = cc in
    record {
      before = [];
      after = es;
      is = ap (λ (p : Placed). p.entry ∷ es) (sym head);
      none = refl;
      at = ap (λ (p : Placed). p.position) head ∙ omega arith;
      others = rest ∙ ap (λ (p : Placed). own_from shards shard (p.position + 1) es) (sym head);
    }
first_by shards shard n x xs e es false test are later =
    let found = later are in
    record {
      before = e ∷ found.before;
      after = found.after;
      is = ap (λ hs. e ∷ hs) found.is;
      none = ap (λ b. cond b (placed n e ∷ []) [] ++ own_from shards shard (n + 1) found.before) test ∙ found.none;
      at = found.at ∙ omega arith;
      others = found.others;
    }

pub first_own : (shards shard n : ℕ) (x : Placed) (xs : List Placed) (es : History) → x ∷ xs ≡ own_from shards shard n es → IsFirst shards shard n x xs es
first_own shards shard n x xs [] are = let no : x ∷ xs ≡ [] = are in cc
first_own shards shard n x xs (e ∷ es) are = first_by shards shard n x xs e es (is_of shards shard e.write) refl are (first_own shards shard (n + 1) x xs es)

-- ---- one after another

-- of the entries that follow, some first ones have entered, and these of the shard are left
pub record HasTaken (old new : Kept) (left : List Placed) (es : History) : Type 0 where
  pub done : History
  pub rest : History
  pub is : es ≡ done ++ rest
  pub reached : new.position ≡ old.position + length done
  pub are : left ≡ own_from old.shards old.shard (new.position + 1) rest
  pub stands : (start : ℕ) (h : History) → StandsFor start old h → StandsFor start new (h ++ done)

-- before the first
pub taken_none : (old : Kept) (to : ℕ) (own : List Placed) (es : History) → AreOwn old to own es → HasTaken old old own es
taken_none old to own es are = record {
  done = [];
  rest = es;
  is = refl;
  reached = omega arith;
  are = are.are;
  stands = λ start h s. subst (StandsFor start old) (sym (append-nil h)) s;
}

module _ (old now : Kept) (x : Placed) (xs : List Placed) (es : History) (so_far : HasTaken old now (x ∷ xs) es) where
  abbrev first : IsFirst old.shards old.shard (now.position + 1) x xs so_far.rest
  first = first_own old.shards old.shard (now.position + 1) x xs so_far.rest so_far.are

  -- the next one stands behind those that have entered, and within those that follow
  pub next_after : now.position + 1 ≤ x.position
  next_after = omega (arith, first.at)

  pub next_within : x.position ≤ old.position + length es
  next_within =
      let all = ap length so_far.is ∙ length-append so_far.done so_far.rest in
      let left = ap length first.is ∙ length-append first.before (x.entry ∷ first.after) in
      omega (arith, first.at, all, left, so_far.reached)

  -- those before it, which are not of the shard, have entered
  pub skips : (skipped : Kept) → now.shards ≡ old.shards → now.shard ≡ old.shard → skipped ≡ record now { position = x.position - 1 } → (start : ℕ) (h : History) → StandsFor start old h → StandsFor start skipped (h ++ (so_far.done ++ first.before))
  skips skipped shards shard is start h s =
      let none : own_from now.shards now.shard (now.position + 1) first.before ≡ [] = subst (λ (n : ℕ × ℕ). own_from n.0 n.1 (now.position + 1) first.before ≡ []) (λ i. (sym shards i, sym shard i)) first.none in
      let at : x.position - 1 ≡ now.position + length first.before = omega (arith, first.at) in
      subst (λ (k : Kept). StandsFor start k (h ++ (so_far.done ++ first.before))) (sym is)
      (subst (StandsFor start (record now { position = x.position - 1 })) (append_assoc h so_far.done first.before)
      (stands-skipped start (x.position - 1) (now.position + 1) now (h ++ so_far.done) first.before at none (so_far.stands start h s)))

  -- and then it has
  pub taken_next : (skipped new : Kept) → now.shards ≡ old.shards → now.shard ≡ old.shard → skipped ≡ record now { position = x.position - 1 } → new.position ≡ skipped.position + 1 →
      ((start : ℕ) (h : History) → StandsFor start skipped h → StandsFor start new (h ++ x.entry ∷ [])) → HasTaken old new xs es
  taken_next skipped new shards shard is position enters =
      let more : History = so_far.done ++ first.before in
      let place : new.position ≡ x.position = let p = ap (λ (k : Kept). k.position) is in let a = first.at in omega (arith, position, p, a) in
      let long = length-append more (x.entry ∷ []) in
      let both = length-append so_far.done first.before in
      record {
        done = more ++ x.entry ∷ [];
        rest = first.after;
        is = so_far.is ∙ ap (λ hs. so_far.done ++ hs) first.is ∙ sym (append_assoc so_far.done first.before (x.entry ∷ first.after)) ∙ sym (append_assoc more (x.entry ∷ []) first.after);
        reached = omega (arith, place, long, both, first.at, so_far.reached);
        are = first.others ∙ ap (λ n. own_from old.shards old.shard (n + 1) first.after) (sym place);
        stands = λ start h s. subst (StandsFor start new) (append_assoc h more (x.entry ∷ [])) (enters start (h ++ more) (skips skipped shards shard is start h s));
      }

  -- it has not, where no memory was found: some first ones have entered
  pub taken_part : (skipped new : Kept) → now.shards ≡ old.shards → now.shard ≡ old.shard → skipped ≡ record now { position = x.position - 1 } → new.position ≡ skipped.position →
      ((start : ℕ) (h : History) → StandsFor start skipped h → StandsFor start new h) → HasEnteredInPart old es new
  taken_part skipped new shards shard is position enters =
      let more : History = so_far.done ++ first.before in
      let both = length-append so_far.done first.before in
      let place = position ∙ ap (λ (k : Kept). k.position) is in
      let whole : es ≡ more ++ x.entry ∷ first.after = so_far.is ∙ ap (λ hs. so_far.done ++ hs) first.is ∙ sym (append_assoc so_far.done first.before (x.entry ∷ first.after)) in
      let long = ap length whole ∙ length-append more (x.entry ∷ first.after) in
      record {
        count = length more;
        some = omega (arith, long);
        position = omega (arith, place, both, first.at, so_far.reached);
        history = λ start h s.
            subst (λ done. StandsFor start new (h ++ done)) (sym (ap (take (length more)) whole ∙ take-append-le (length more) more (x.entry ∷ first.after) (omega arith) ∙ take_all (length more) more (omega arith))) (enters start (h ++ more) (skips skipped shards shard is start h s));
      }

-- none of the shard is left: those that follow up to the position have entered too
pub taken_all : (old now new : Kept) (to : ℕ) (own : List Placed) (es : History) → AreOwn old to own es → HasTaken old now [] es → now.shards ≡ old.shards → now.shard ≡ old.shard → new ≡ record now { position = to } →
    (start : ℕ) (h : History) → StandsFor start old h → StandsFor start new (h ++ es)
taken_all old now new to own es are so_far shards shard is start h s =
    let none : own_from now.shards now.shard (now.position + 1) so_far.rest ≡ [] = (λ i. own_from (shards i) (shard i) (now.position + 1) so_far.rest) ∙ sym so_far.are in
    let long = ap length so_far.is ∙ length-append so_far.done so_far.rest in
    let at : to ≡ now.position + length so_far.rest = omega (arith, are.reach, long, so_far.reached) in
    subst (λ (k : Kept). StandsFor start k (h ++ es)) (sym is)
    (subst (StandsFor start (record now { position = to })) (append_assoc h so_far.done so_far.rest ∙ ap (λ hs. h ++ hs) (sym so_far.is))
    (stands-skipped start to (now.position + 1) now (h ++ so_far.done) so_far.rest at none (so_far.stands start h s)))

-- it stands at most at the position
pub taken_upto : (old now : Kept) (to : ℕ) (own left : List Placed) (es : History) → AreOwn old to own es → HasTaken old now left es → (old.position ≤ now.position) × (now.position ≤ to)
taken_upto old now to own left es are so_far =
    let long = ap length so_far.is ∙ length-append so_far.done so_far.rest in
    (omega (arith, so_far.reached), omega (arith, so_far.reached, long, are.reach))

-- ---- one entry more

-- those of some entries, and then of others
pub own_from-append : (shards shard n : ℕ) (h es : History) → own_from shards shard n (h ++ es) ≡ own_from shards shard n h ++ own_from shards shard (n + length h) es
own_from-append shards shard n [] es = ap (λ m. own_from shards shard m es) (omega arith)
own_from-append shards shard n (e ∷ h) es =
    let here : List Placed = cond (is_of shards shard e.write) (placed n e ∷ []) [] in
    ap (λ ps. here ++ ps) (own_from-append shards shard (n + 1) h es)
    ∙ ap (λ m. here ++ (own_from shards shard (n + 1) h ++ own_from shards shard m es)) (omega arith)
    ∙ sym (append_assoc here (own_from shards shard (n + 1) h) (own_from shards shard (n + length (e ∷ h)) es))
