use Rattle.std.proofs.Common.{◌≡◌, ℕ, ◌+◌, ◌-◌, ◌<◌, ◌≤◌, List, [], ◌∷◌, length, drop, get_or, sym, ap, ◌∙◌, refl, subst, arith}
use Rattle.std.proofs.lemmas.List.{drop_more, drop_all}
use Rattle.base_versions.specs.Kept.{Kept}
use Rattle.semantics.specs.Histories.{History}
use Rattle.base_versions.specs.declared.placed.Placed.{Placed}
use Rattle.base_versions.specs.Own.{AreOwn}
use Rattle.base_versions.proofs.EnterLemmas.{on_err_always}
use Rattle.base_versions.proofs.OwnLemmas.{HasTaken, taken_none, next_after, next_within, taken_next, taken_part, taken_all, taken_upto}
use Rattle.base_versions.proofs.base.BaseVersions.advance_own.Goals as goal

-- the next one, and those behind it
next_own : (own : List Placed) (i : ℕ) (x : Placed) → i < length own → x ≡ get_or own i x → drop i own ≡ x ∷ drop (i + 1) own
next_own own i x less is = drop_more own i x less ∙ ap (λ y. y ∷ drop (i + 1) own) (sym is)

pub loop-placed-init : goal.loop-placed-init
loop-placed-init c = record {
  start = refl;
  shard = refl;
  shards = refl;
  taken = λ es are. taken_none c.args.self.now c.args.to c.args.own.now es are;
}

-- what has entered before the next one
before_next : (old now : Kept) (to : ℕ) (own : List Placed) (i : ℕ) (x : Placed) → i < length own → x ≡ get_or own i x → ((es : History) → AreOwn old to own es → HasTaken old now (drop i own) es) → (es : History) → AreOwn old to own es →
    HasTaken old now (x ∷ drop (i + 1) own) es
before_next old now to own i x less is taken es are = subst (λ (left : List Placed). HasTaken old now left es) (next_own own i x less is) (taken es are)

-- the next one stands behind those that have entered, and at most at the position
bounds : (old now : Kept) (to : ℕ) (own : List Placed) (i : ℕ) (x : Placed) → i < length own → x ≡ get_or own i x → ((es : History) → AreOwn old to own es → HasTaken old now (drop i own) es) → (es : History) → AreOwn old to own es →
    (now.position + 1 ≤ x.position) × (x.position ≤ to)
bounds old now to own i x less is taken es are =
    let so_far = before_next old now to own i x less is taken es are in
    (next_after old now x (drop (i + 1) own) es so_far, omega (arith, next_within old now x (drop (i + 1) own) es so_far, are.reach))

pub overflow_sub-placed : goal.overflow_sub-placed
overflow_sub-placed c =
    let own = c.args.own.now in
    let b = bounds c.args.self.now c.loop-placed.self c.args.to own c.loop-placed.placed-index c.placed-item.result c.loop-placed-test.true c.placed-item.is c.loop-placed.invariant.taken c.requires.own.0 c.requires.own.1 in
    omega (arith, b.0)

pub skip_to-requires-clause-later : goal.skip_to-requires-clause-later
skip_to-requires-clause-later c =
    let own = c.args.own.now in
    let b = bounds c.args.self.now c.loop-placed.self c.args.to own c.loop-placed.placed-index c.placed-item.result c.loop-placed-test.true c.placed-item.is c.loop-placed.invariant.taken c.requires.own.0 c.requires.own.1 in
    omega (arith, b.0)

pub skip_to-requires-clause-room : goal.skip_to-requires-clause-room
skip_to-requires-clause-room c =
    let own = c.args.own.now in
    let b = bounds c.args.self.now c.loop-placed.self c.args.to own c.loop-placed.placed-index c.placed-item.result c.loop-placed-test.true c.placed-item.is c.loop-placed.invariant.taken c.requires.own.0 c.requires.own.1 in
    omega (arith, b.0, b.1, c.requires.room)

pub enter-requires : goal.enter-requires
enter-requires c =
    let own = c.args.own.now in
    let b = bounds c.args.self.now c.loop-placed.self c.args.to own c.loop-placed.placed-index c.placed-item.result c.loop-placed-test.true c.placed-item.is c.loop-placed.invariant.taken c.requires.own.0 c.requires.own.1 in
    let at = ap (λ (k : Kept). k.position) c.skip_to.ensures in
    omega (arith, b.0, b.1, at, c.requires.room)

pub loop-placed-preserved : goal.loop-placed-preserved
loop-placed-preserved c =
    let own = c.args.own.now in
    let old = c.args.self.now in
    let now = c.loop-placed.self in
    let i = c.loop-placed.placed-index in
    let x = c.placed-item.result in
    let so_far = c.loop-placed.invariant in
    record {
      start = c.enter.ensures.start ∙ ap (λ (k : Kept). k.start) c.skip_to.ensures ∙ so_far.start;
      shard = c.enter.ensures.shard ∙ ap (λ (k : Kept). k.shard) c.skip_to.ensures ∙ so_far.shard;
      shards = c.enter.ensures.shards ∙ ap (λ (k : Kept). k.shards) c.skip_to.ensures ∙ so_far.shards;
      taken = λ es are.
          taken_next old now x (drop (i + 1) own) es (before_next old now c.args.to own i x c.loop-placed-test.true c.placed-item.is so_far.taken es are) c.skip_to.new.self c.enter.new.self so_far.shards so_far.shard c.skip_to.ensures
          c.in_ok-enter.ensures.position c.in_ok-enter.ensures.ok;
    }

pub returns-in_err-enter-clause-err : goal.returns-in_err-enter-clause-err
returns-in_err-enter-clause-err c =
    let own = c.args.own.now in
    let old = c.args.self.now in
    let now = c.loop-placed.self in
    let i = c.loop-placed.placed-index in
    let x = c.placed-item.result in
    let so_far = c.loop-placed.invariant in
    on_err_always c.from_residual.result (λ es are.
    taken_part old now x (drop (i + 1) own) es (before_next old now c.args.to own i x c.loop-placed-test.true c.placed-item.is so_far.taken es are) c.skip_to.new.self c.enter.new.self so_far.shards so_far.shard c.skip_to.ensures
    c.in_err-enter.ensures.stays c.in_err-enter.ensures.err)

-- none is left behind the last
none_left : (own : List Placed) (i : ℕ) → length own ≤ i → drop i own ≡ []
none_left own i past = drop_all i own past

pub skip_to-requires-2-clause-later : goal.skip_to-requires-2-clause-later
skip_to-requires-2-clause-later c = (taken_upto c.args.self.now c.loop-placed.self c.args.to c.args.own.now _ c.requires.own.0 c.requires.own.1 (c.loop-placed.invariant.taken c.requires.own.0 c.requires.own.1)).1

pub returns-clause-ok : goal.returns-clause-ok
returns-clause-ok c = λ es are start h s.
    let last = subst (λ (left : List Placed). HasTaken c.args.self.now c.loop-placed.self left es) (none_left c.args.own.now c.loop-placed.placed-index (omega arith)) (c.loop-placed.invariant.taken es are) in
    taken_all c.args.self.now c.loop-placed.self c.skip_to-2.new.self c.args.to c.args.own.now es are last c.loop-placed.invariant.shards c.loop-placed.invariant.shard c.skip_to-2.ensures start h s
