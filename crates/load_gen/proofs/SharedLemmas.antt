-- A load that workers share leaves what a load leaves that one client does alone.
use Rattle.std.proofs.Common.{◌≡◌, ℕ, zero, suc, ◌+◌, ◌%◌, ◌<◌, ◌≤◌, ◌==◌, Bool, true, false, cond, not, List, [], ◌∷◌, ◌++◌, length, map, filter, flat_map, refl, sym, ap, ap₂, ◌∙◌, subst, arith, eq-eqb, ne_eqb, eqb-true, append-nil}
use Rattle.std.specs.Prelude.{nat_lt}
use Rattle.std.specs.List.{AllByRecursion}
use Rattle.std.proofs.lemmas.Bool.{cond-true, cond-false}
use Rattle.std.proofs.lemmas.Bool.Decides.{nat_tests}
use Rattle.std.proofs.lemmas.List.{length-map, append_cancel_left}
use Rattle.semantics.specs.Texts.{Text, Table, pairs_where}
use Rattle.semantics.specs.Histories.{Write, put, remove, declare, drop_join, Entry, History, DeclaredJoin, joins_after, joins_from, joins_of, base_of, is_computed}
use Rattle.semantics.specs.States.{below, state, with_outputs, of_rank}
use Rattle.join_types.specs.Writes.{plain_write}
use Rattle.join_types.specs.declared.write.Write.TheVariants.{Put, Remove, Declare, Drop}
use Rattle.load_gen.specs.Plans.{planned}
use Rattle.load_gen.specs.declared.acts.Act.{Act}
use Rattle.load_gen.specs.declared.acts.Act.TheVariants.{Change, Look}
use Rattle.load_gen.specs.Entries.{act_entries, entries_of, declared_joins, load_history}
use Rattle.load_gen.specs.Shares.{acts_of, entries_by, IsShared, SharedLoadIsLoad}
use Rattle.load_gen.proofs.PosterLemmas.{poster_in, Names, IsNamed, planned_are_named}
use Rattle.load_gen.proofs.WriteLemmas.{writes_in, owned_by, owned_below, same_base, same_length}

-- a key's owner is the worker of the poster that it names
abbrev owner_among : ℕ → Text → ℕ
owner_among workers key = poster_in key % workers

-- ---- the writes of acts

abbrev act_writes : Act → List Write
act_writes (Change poster write) = plain_write write ∷ []
act_writes (Look poster user) = []

writes_in-entries_of : (client : ℕ) (acts : List Act) → writes_in (entries_of client acts) ≡ flat_map act_writes acts
writes_in-entries_of client [] = refl
writes_in-entries_of client (Change poster write ∷ acts) = ap (λ (ws : List Write). plain_write write ∷ ws) (writes_in-entries_of client acts)
writes_in-entries_of client (Look poster user ∷ acts) = writes_in-entries_of client acts

-- an act more passes, or does not
act_writes-cond : (b c : Bool) (w : Write) (act : Act) (ws : List Write) (acts : List Act) → b ≡ c → act_writes act ≡ w ∷ [] → ws ≡ flat_map act_writes acts →
    cond b (w ∷ ws) ws ≡ flat_map act_writes (cond c (act ∷ acts) acts)
act_writes-cond b true w act ws acts same is rest = cond-true b _ _ same ∙ ap (λ (vs : List Write). w ∷ vs) rest ∙ ap (λ (vs : List Write). vs ++ flat_map act_writes acts) (sym is)
act_writes-cond b false w act ws acts same is rest = cond-false b _ _ same ∙ rest

look_writes : (c : Bool) (poster user : ℕ) (acts : List Act) → flat_map act_writes acts ≡ flat_map act_writes (cond c (Look poster user ∷ acts) acts)
look_writes true poster user acts = refl
look_writes false poster user acts = refl

-- of the writes of acts those of an owner are those of its acts
of_worker : (workers worker : ℕ) (acts : List Act) → AllByRecursion IsNamed acts →
    filter (owned_by (owner_among workers) worker) (flat_map act_writes acts) ≡ flat_map act_writes (acts_of workers worker acts)
of_worker workers worker [] named = refl
of_worker workers worker (Change poster (Put key value) ∷ acts) named =
    act_writes-cond _ _ (put key value) (Change poster (Put key value)) _ _ (ap (λ (p : ℕ). p % workers == worker) named.0) refl (of_worker workers worker acts named.1)
of_worker workers worker (Change poster (Remove key) ∷ acts) named =
    act_writes-cond _ _ (remove key) (Change poster (Remove key)) _ _ (ap (λ (p : ℕ). p % workers == worker) named.0) refl (of_worker workers worker acts named.1)
of_worker workers worker (Change poster (Declare join) ∷ acts) named = absurd named.0
of_worker workers worker (Change poster (Drop at) ∷ acts) named = absurd named.0
of_worker workers worker (Look poster user ∷ acts) named =
    of_worker workers worker acts named.1 ∙ look_writes (poster % workers == worker) poster user (acts_of workers worker acts)

-- ---- entries by the owners of their keys

-- the write changes a key whose owner's client has the number
abbrev OwnedBy : ℕ → ℕ → Write → Type 0
OwnedBy workers client (put key value) = client ≡ owner_among workers key + 1
OwnedBy workers client (remove key) = client ≡ owner_among workers key + 1
OwnedBy workers client (declare join) = ⊥
OwnedBy workers client (drop_join at) = ⊥

-- the entry is by the owner of its key
abbrev IsOwn : ℕ → Entry → Type 0
IsOwn workers e = OwnedBy workers e.client e.write

own_of : (workers worker poster : ℕ) (key : Text) → poster_in key ≡ poster → (poster % workers == worker) ≡ true → worker + 1 ≡ owner_among workers key + 1
own_of workers worker poster key named is =
    ap (λ (n : ℕ). n + 1) (sym (eqb-true (poster % workers) worker is) ∙ ap (λ (p : ℕ). p % workers) (sym named))

owns_by : (workers worker : ℕ) (act : Act) (acts : List Act) (b : Bool) → (b ≡ true → AllByRecursion (IsOwn workers) (act_entries (worker + 1) act)) →
    AllByRecursion (IsOwn workers) (entries_of (worker + 1) acts) → AllByRecursion (IsOwn workers) (entries_of (worker + 1) (cond b (act ∷ acts) acts))
owns_by workers worker (Change poster write) acts true own rest = ((own refl).0, rest)
owns_by workers worker (Look poster user) acts true own rest = rest
owns_by workers worker act acts false own rest = rest

-- a worker's acts make such entries
owns_acts : (workers worker : ℕ) (acts : List Act) → AllByRecursion IsNamed acts → AllByRecursion (IsOwn workers) (entries_of (worker + 1) (acts_of workers worker acts))
owns_acts workers worker [] named = tt
owns_acts workers worker (Change poster (Put key value) ∷ acts) named =
    owns_by workers worker (Change poster (Put key value)) (acts_of workers worker acts) (poster % workers == worker)
    (λ is. (own_of workers worker poster key named.0 is, tt)) (owns_acts workers worker acts named.1)
owns_acts workers worker (Change poster (Remove key) ∷ acts) named =
    owns_by workers worker (Change poster (Remove key)) (acts_of workers worker acts) (poster % workers == worker)
    (λ is. (own_of workers worker poster key named.0 is, tt)) (owns_acts workers worker acts named.1)
owns_acts workers worker (Change poster (Declare join) ∷ acts) named = absurd named.0
owns_acts workers worker (Change poster (Drop at) ∷ acts) named = absurd named.0
owns_acts workers worker (Look poster user ∷ acts) named =
    owns_by workers worker (Look poster user) (acts_of workers worker acts) (poster % workers == worker) (λ is. tt) (owns_acts workers worker acts named.1)

-- ---- entries client by client

later_by : (P : Entry → Type 0) (e : Entry) (b : Bool) (mine : History) → AllByRecursion P (cond b (e ∷ mine) mine) → AllByRecursion P mine
later_by P e true mine all = all.1
later_by P e false mine all = all

-- what holds of each entry of each client holds of each entry
each_by_client : (P : Entry → Type 0) (count : ℕ) (h : History) → AllByRecursion (λ e. e.client < count) h →
    ((client : ℕ) → client < count → AllByRecursion P (entries_by client h)) → AllByRecursion P h
each_by_client P count [] known all = tt
each_by_client P count (e ∷ h) known all =
    let mine = subst (λ (es : History). AllByRecursion P es) (cond-true (e.client == e.client) (e ∷ entries_by e.client h) (entries_by e.client h) (eq-eqb e.client e.client refl)) (all e.client known.0) in
    (mine.0, each_by_client P count h known.1 (λ client less. later_by P e (e.client == client) (entries_by client h) (all client less)))

-- ---- owners and clients

same_number : (m n client : ℕ) → client ≡ m + 1 → (m == n) ≡ (client == n + 1)
same_number m n client is = grind (arith, nat_tests)

same_owner : (workers worker client : ℕ) (w : Write) → OwnedBy workers client w → owned_by (owner_among workers) worker w ≡ (client == worker + 1)
same_owner workers worker client (put key value) own = same_number (owner_among workers key) worker client own
same_owner workers worker client (remove key) own = same_number (owner_among workers key) worker client own
same_owner workers worker client (declare join) own = absurd own
same_owner workers worker client (drop_join at) own = absurd own

map-cond : {A B : Type 0} (f : A → B) (b : Bool) (x : A) (xs : List A) → cond b (f x ∷ map f xs) (map f xs) ≡ map f (cond b (x ∷ xs) xs)
map-cond f true x xs = refl
map-cond f false x xs = refl

-- of such entries those of a client are its keys' writes
of_client : (workers worker : ℕ) (h : History) → AllByRecursion (IsOwn workers) h →
    filter (owned_by (owner_among workers) worker) (writes_in h) ≡ writes_in (entries_by (worker + 1) h)
of_client workers worker [] own = refl
of_client workers worker (e ∷ h) own =
    let is = same_owner workers worker e.client e.write own.0 in
    let rest = of_client workers worker h own.1 in
    ap₂ (λ (b : Bool) (ws : List Write). cond b (e.write ∷ ws) ws) is rest
    ∙ map-cond (λ (x : Entry). x.write) (e.client == worker + 1) e (entries_by (worker + 1) h)

owner_below : (workers : ℕ) (key : Text) → 1 ≤ workers → nat_lt (owner_among workers key) workers ≡ true
owner_below workers key some = grind (arith, nat_tests)

owned_write : (workers client : ℕ) (w : Write) → 1 ≤ workers → OwnedBy workers client w → owned_below (owner_among workers) workers w ≡ true
owned_write workers client (put key value) some own = owner_below workers key some
owned_write workers client (remove key) some own = owner_below workers key some
owned_write workers client (declare join) some own = absurd own
owned_write workers client (drop_join at) some own = absurd own

owned_writes : (workers : ℕ) (h : History) → 1 ≤ workers → AllByRecursion (IsOwn workers) h → AllByRecursion (λ w. owned_below (owner_among workers) workers w ≡ true) (writes_in h)
owned_writes workers [] some own = tt
owned_writes workers (e ∷ h) some own = (owned_write workers e.client e.write some own.0, owned_writes workers h some own.1)

named_writes : (workers : ℕ) (acts : List Act) → 1 ≤ workers → AllByRecursion IsNamed acts → AllByRecursion (λ w. owned_below (owner_among workers) workers w ≡ true) (flat_map act_writes acts)
named_writes workers [] some named = tt
named_writes workers (Change poster (Put key value) ∷ acts) some named = (owner_below workers key some, named_writes workers acts some named.1)
named_writes workers (Change poster (Remove key) ∷ acts) some named = (owner_below workers key some, named_writes workers acts some named.1)
named_writes workers (Change poster (Declare join) ∷ acts) some named = absurd named.0
named_writes workers (Change poster (Drop at) ∷ acts) some named = absurd named.0
named_writes workers (Look poster user ∷ acts) some named = named_writes workers acts some named.1

-- ---- what stands

-- such a write declares nothing
joins_after_own : (workers client position : ℕ) (w : Write) (joins : List DeclaredJoin) → OwnedBy workers client w → joins_after position w joins ≡ joins
joins_after_own workers client position (put key value) joins own = refl
joins_after_own workers client position (remove key) joins own = refl
joins_after_own workers client position (declare join) joins own = absurd own
joins_after_own workers client position (drop_join at) joins own = absurd own

joins_stay : (workers position : ℕ) (joins : List DeclaredJoin) (h : History) → AllByRecursion (IsOwn workers) h → joins_from position joins h ≡ joins
joins_stay workers position joins [] own = refl
joins_stay workers position joins (e ∷ h) own =
    joins_stay workers (position + 1) (joins_after position e.write joins) h own.1 ∙ joins_after_own workers e.client position e.write joins own.0

joins_after_named : (position poster : ℕ) (w : Write) (joins : List DeclaredJoin) → Names poster w → joins_after position w joins ≡ joins
joins_after_named position poster (put key value) joins named = refl
joins_after_named position poster (remove key) joins named = refl
joins_after_named position poster (declare join) joins named = absurd named
joins_after_named position poster (drop_join at) joins named = absurd named

joins_stay_named : (client position : ℕ) (joins : List DeclaredJoin) (acts : List Act) → AllByRecursion IsNamed acts → joins_from position joins (entries_of client acts) ≡ joins
joins_stay_named client position joins [] named = refl
joins_stay_named client position joins (Change poster write ∷ acts) named =
    joins_stay_named client (position + 1) (joins_after position (plain_write write) joins) acts named.1 ∙ joins_after_named position poster (plain_write write) joins named.0
joins_stay_named client position joins (Look poster user ∷ acts) named = joins_stay_named client position joins acts named.1

-- the state depends on the joins that stand and on the base pairs alone
same_below : (g h : History) (r : ℕ) → joins_of g ≡ joins_of h → base_of g ≡ base_of h → below g r ≡ below h r
unfolding below
same_below g h zero joins base = ap₂ (λ (js : List DeclaredJoin) (t : Table). pairs_where (λ key. not (is_computed js key)) t) joins base
same_below g h (suc r) joins base = ap₂ (λ (js : List DeclaredJoin) (t : Table). with_outputs (of_rank r js) t) joins (same_below g h r joins base)

same_state : (g h : History) → joins_of g ≡ joins_of h → base_of g ≡ base_of h → state g ≡ state h
unfolding state
same_state g h joins base = same_below g h 8 joins base

-- ---- a load that is shared

-- what the entries behind the declarations are
record Behind (workers : ℕ) (acts : List Act) (rest : History) : Type 0 where
  known : AllByRecursion (λ e. e.client < workers + 1) rest
  none : entries_by 0 rest ≡ []
  each : (worker : ℕ) → worker < workers → entries_by (worker + 1) rest ≡ entries_of (worker + 1) (acts_of workers worker acts)

behind_first : (rest : History) → entries_by 0 (declared_joins ++ rest) ≡ declared_joins → entries_by 0 rest ≡ []
behind_first rest is = append_cancel_left declared_joins (entries_by 0 rest) [] (is ∙ sym (append-nil declared_joins))

behind_others : (worker : ℕ) (rest : History) → entries_by (worker + 1) (declared_joins ++ rest) ≡ entries_by (worker + 1) rest
behind_others worker rest =
    let other : (0 == worker + 1) ≡ false = ne_eqb 0 (worker + 1) (λ e. omega arith) in
    rw other refl

behind_known : (count : ℕ) (rest : History) → AllByRecursion (λ e. e.client < count) (declared_joins ++ rest) → AllByRecursion (λ e. e.client < count) rest
behind_known count rest all = all.1.1

behind : (workers : ℕ) (acts : List Act) (h : History) → (shared : IsShared workers acts h) → Behind workers acts shared.begins.0
behind workers acts h shared =
    let rest : History = shared.begins.0 in
    record {
      known = behind_known (workers + 1) rest (subst (AllByRecursion (λ (e : Entry). e.client < workers + 1)) shared.begins.1 shared.below);
      none = behind_first rest (ap (entries_by 0) (sym shared.begins.1) ∙ shared.first);
      each = λ worker less. sym (behind_others worker rest) ∙ ap (entries_by (worker + 1)) (sym shared.begins.1) ∙ shared.each worker less;
    }

-- each of them is by the owner of its key
own_by : (workers : ℕ) (acts : List Act) (rest : History) → AllByRecursion IsNamed acts → Behind workers acts rest →
    (client : ℕ) → client < workers + 1 → AllByRecursion (IsOwn workers) (entries_by client rest)
own_by workers acts rest named is zero less = subst (AllByRecursion (IsOwn workers)) (sym is.none) tt
own_by workers acts rest named is (suc worker) less =
    let number : worker + 1 ≡ suc worker = omega arith in
    subst (λ (client : ℕ). AllByRecursion (IsOwn workers) (entries_by client rest)) number
    (subst (AllByRecursion (IsOwn workers)) (sym (is.each worker (omega arith))) (owns_acts workers worker acts named))

own : (workers : ℕ) (acts : List Act) (rest : History) → AllByRecursion IsNamed acts → Behind workers acts rest → AllByRecursion (IsOwn workers) rest
own workers acts rest named is = each_by_client (IsOwn workers) (workers + 1) rest is.known (own_by workers acts rest named is)

-- each worker writes what its acts write
by_worker : (workers worker client : ℕ) (acts : List Act) (rest : History) → AllByRecursion IsNamed acts → Behind workers acts rest → worker < workers →
    filter (owned_by (owner_among workers) worker) (writes_in rest) ≡ filter (owned_by (owner_among workers) worker) (writes_in (entries_of client acts))
by_worker workers worker client acts rest named is less =
    of_client workers worker rest (own workers acts rest named is) ∙ ap writes_in (is.each worker less) ∙ writes_in-entries_of (worker + 1) (acts_of workers worker acts)
    ∙ sym (of_worker workers worker acts named) ∙ ap (filter (owned_by (owner_among workers) worker)) (sym (writes_in-entries_of client acts))

rest_length : (workers client : ℕ) (acts : List Act) (rest : History) → 1 ≤ workers → AllByRecursion IsNamed acts → Behind workers acts rest → length rest ≡ length (entries_of client acts)
rest_length workers client acts rest some named is =
    sym (length-map rest (λ (e : Entry). e.write))
    ∙ same_length (owner_among workers) workers (writes_in rest) (writes_in (entries_of client acts)) (owned_writes workers rest some (own workers acts rest named is))
    (subst (AllByRecursion (λ (w : Write). owned_below (owner_among workers) workers w ≡ true)) (sym (writes_in-entries_of client acts)) (named_writes workers acts some named))
    (λ worker less. by_worker workers worker client acts rest named is less)
    ∙ length-map (entries_of client acts) (λ (e : Entry). e.write)

owner_less : (workers : ℕ) (q : Text) → 1 ≤ workers → owner_among workers q < workers
owner_less workers q some = omega arith

-- the declarations change no base pair, and stand at the positions 1 and 2
same_with_joins : (workers client : ℕ) (acts : List Act) (rest : History) → 1 ≤ workers → AllByRecursion IsNamed acts → Behind workers acts rest →
    (length (declared_joins ++ rest) ≡ length (declared_joins ++ entries_of client acts)) × (state (declared_joins ++ rest) ≡ state (declared_joins ++ entries_of client acts))
same_with_joins workers client acts rest some named is =
    let other : History = entries_of client acts in
    let joins : joins_of (declared_joins ++ rest) ≡ joins_of (declared_joins ++ other) =
    joins_stay workers 3 (joins_of declared_joins) rest (own workers acts rest named is) ∙ sym (joins_stay_named client 3 (joins_of declared_joins) acts named) in
    let base : base_of rest ≡ base_of other = same_base (owner_among workers) rest other (λ q. by_worker workers (owner_among workers q) client acts rest named is (owner_less workers q some)) in
    let size : length rest ≡ length other = rest_length workers client acts rest some named is in
    (ap (λ (n : ℕ). suc (suc n)) size, same_state (declared_joins ++ rest) (declared_joins ++ other) joins base)

-- what a load leaves that is shared
pub shared_load_is_load : SharedLoadIsLoad
shared_load_is_load number steps users workers h some some_users few shared =
    let acts : List Act = planned number steps users in
    let named = planned_are_named number steps users some_users few in
    subst (λ (g : History). (length g ≡ length (load_history number steps users)) × (state g ≡ state (load_history number steps users))) (sym shared.begins.1)
    (same_with_joins workers 0 acts shared.begins.0 some named (behind workers acts h shared))
