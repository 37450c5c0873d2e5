use Rattle.std.proofs.Common.{◌≡◌, ◌+◌, ◌≤◌, [], length, take, true, false, IfOk, inl, inr, sym, ◌∙◌, subst, arith}
use Rattle.std.proofs.lemmas.Grind.{common_steps}
use Rattle.std.proofs.lemmas.Result.{IfOk-weaker}
use Rattle.semantics.specs.Histories.{History, joins_of}
use Rattle.semantics.specs.States.{below}
use Rattle.key_ranges.specs.Ranges.{is_open}
use Rattle.growing_history.proofs.EnteredLemmas.{has_entered_taken}
use Rattle.growing_history.proofs.PrefixLemmas.{prefix_length, prefix_trans, take_prefix}
use Rattle.layering.specs.Reached.{reached}
use Rattle.join_eval.specs.declared.between.Between.TheVariants.{Steady, Other}
use Rattle.join_eval.specs.Answers.{TellsBetween, TellsChanges, TellsValues, change_keys}
use Rattle.growing_history.proofs.BareLemmas.{bare_over}
use Rattle.join_eval.proofs.BetweenLemmas.{between_over}
use Rattle.join_eval.proofs.MovesLemmas.{moves_trans}
use Rattle.rank_layers.proofs.TellingLemmas.{told_over}
use Rattle.rank_layers.proofs.AboveLemmas.{bare_reached, tells_with, entered_before, lists_above, lists_bare, never_bare, no_positions, some_positions}
use Rattle.rank_layers.proofs.MoveLemmas.{moves_as, moves_by_call, moves_looked, up_one}
use Rattle.rank_layers.proofs.JoinLemmas.{listed_over}
use Rattle.rank_layers.proofs.ValueLemmas.{values_next}
use Rattle.rank_layers.proofs.valuing.changes_above.Goals as goal

pub returns-in_err-changes-clause-moves : goal.returns-in_err-changes-clause-moves
returns-in_err-changes-clause-moves g c =
    moves_by_call g.R.Reader.list g.R.Reader.floor g.R.Reader.went (g.C.RangeCache.left (c.args.rank + 1)) c.args.reader.now c.changes.new.self (g.met.C.RangeCache.left_below (c.args.rank + 1) c.args.reader.now c.changes.new.self (up_one g.R.Reader.top c.args.rank c.requires.next))
    c.changes.ensures.kept c.changes.ensures.entered c.changes.ensures.same_floor c.changes.ensures.on

pub returns-in_default-clause-moves : goal.returns-in_default-clause-moves
returns-in_default-clause-moves g c =
    moves_by_call g.R.Reader.list g.R.Reader.floor g.R.Reader.went (g.C.RangeCache.left (c.args.rank + 1)) c.args.reader.now c.changes.new.self (g.met.C.RangeCache.left_below (c.args.rank + 1) c.args.reader.now c.changes.new.self (up_one g.R.Reader.top c.args.rank c.requires.next))
    c.changes.ensures.kept c.changes.ensures.entered c.changes.ensures.same_floor c.changes.ensures.on

pub returns-in_err-between-clause-moves : goal.returns-in_err-between-clause-moves
returns-in_err-between-clause-moves g c =
    moves_looked g.R.Reader.list g.R.Reader.floor g.R.Reader.went g.C.RangeCache.looked (g.C.RangeCache.left (c.args.rank + 1)) c.args.reader.now c.changes.new.self c.between.new.reader (g.met.C.RangeCache.left_below (c.args.rank + 1) c.args.reader.now c.changes.new.self (up_one g.R.Reader.top c.args.rank c.requires.next))
    (g.met.C.RangeCache.left_looked (c.args.rank + 1) c.changes.new.self c.between.new.reader) (g.met.C.RangeCache.left_trans (c.args.rank + 1) c.args.reader.now c.changes.new.self c.between.new.reader)
    c.changes.ensures.kept c.changes.ensures.entered c.changes.ensures.same_floor c.changes.ensures.on c.between.ensures.moves

pub returns-in-Bare-clause-moves : goal.returns-in-Bare-clause-moves
returns-in-Bare-clause-moves g c =
    moves_looked g.R.Reader.list g.R.Reader.floor g.R.Reader.went g.C.RangeCache.looked (g.C.RangeCache.left (c.args.rank + 1)) c.args.reader.now c.changes.new.self c.between.new.reader (g.met.C.RangeCache.left_below (c.args.rank + 1) c.args.reader.now c.changes.new.self (up_one g.R.Reader.top c.args.rank c.requires.next))
    (g.met.C.RangeCache.left_looked (c.args.rank + 1) c.changes.new.self c.between.new.reader) (g.met.C.RangeCache.left_trans (c.args.rank + 1) c.args.reader.now c.changes.new.self c.between.new.reader)
    c.changes.ensures.kept c.changes.ensures.entered c.changes.ensures.same_floor c.changes.ensures.on c.between.ensures.moves

pub returns-in-Other-clause-moves : goal.returns-in-Other-clause-moves
returns-in-Other-clause-moves g c =
    moves_looked g.R.Reader.list g.R.Reader.floor g.R.Reader.went g.C.RangeCache.looked (g.C.RangeCache.left (c.args.rank + 1)) c.args.reader.now c.changes.new.self c.between.new.reader (g.met.C.RangeCache.left_below (c.args.rank + 1) c.args.reader.now c.changes.new.self (up_one g.R.Reader.top c.args.rank c.requires.next))
    (g.met.C.RangeCache.left_looked (c.args.rank + 1) c.changes.new.self c.between.new.reader) (g.met.C.RangeCache.left_trans (c.args.rank + 1) c.args.reader.now c.changes.new.self c.between.new.reader)
    c.changes.ensures.kept c.changes.ensures.entered c.changes.ensures.same_floor c.changes.ensures.on c.between.ensures.moves

pub returns-in_err-ats-clause-moves : goal.returns-in_err-ats-clause-moves
returns-in_err-ats-clause-moves g c =
    moves_trans g.R.Reader.list g.R.Reader.floor (g.C.RangeCache.left (c.args.rank + 1)) c.args.reader.now c.between.new.reader c.reached.new.reader (g.met.C.RangeCache.left_trans (c.args.rank + 1) c.args.reader.now c.between.new.reader c.reached.new.reader)
    (moves_looked g.R.Reader.list g.R.Reader.floor g.R.Reader.went g.C.RangeCache.looked (g.C.RangeCache.left (c.args.rank + 1)) c.args.reader.now c.changes.new.self c.between.new.reader (g.met.C.RangeCache.left_below (c.args.rank + 1) c.args.reader.now c.changes.new.self (up_one g.R.Reader.top c.args.rank c.requires.next))
    (g.met.C.RangeCache.left_looked (c.args.rank + 1) c.changes.new.self c.between.new.reader) (g.met.C.RangeCache.left_trans (c.args.rank + 1) c.args.reader.now c.changes.new.self c.between.new.reader)
    c.changes.ensures.kept c.changes.ensures.entered c.changes.ensures.same_floor c.changes.ensures.on c.between.ensures.moves)
    (moves_as g.R.Reader.list g.R.Reader.floor g.C.RangeCache.looked (g.C.RangeCache.left (c.args.rank + 1)) c.between.new.reader c.reached.new.reader (g.met.C.RangeCache.left_looked (c.args.rank + 1) c.between.new.reader c.reached.new.reader) c.reached.ensures.moves)

pub returns-then-is_empty-clause-moves : goal.returns-then-is_empty-clause-moves
returns-then-is_empty-clause-moves g c =
    moves_trans g.R.Reader.list g.R.Reader.floor (g.C.RangeCache.left (c.args.rank + 1)) c.args.reader.now c.between.new.reader c.reached.new.reader (g.met.C.RangeCache.left_trans (c.args.rank + 1) c.args.reader.now c.between.new.reader c.reached.new.reader)
    (moves_looked g.R.Reader.list g.R.Reader.floor g.R.Reader.went g.C.RangeCache.looked (g.C.RangeCache.left (c.args.rank + 1)) c.args.reader.now c.changes.new.self c.between.new.reader (g.met.C.RangeCache.left_below (c.args.rank + 1) c.args.reader.now c.changes.new.self (up_one g.R.Reader.top c.args.rank c.requires.next))
    (g.met.C.RangeCache.left_looked (c.args.rank + 1) c.changes.new.self c.between.new.reader) (g.met.C.RangeCache.left_trans (c.args.rank + 1) c.args.reader.now c.changes.new.self c.between.new.reader)
    c.changes.ensures.kept c.changes.ensures.entered c.changes.ensures.same_floor c.changes.ensures.on c.between.ensures.moves)
    (moves_as g.R.Reader.list g.R.Reader.floor g.C.RangeCache.looked (g.C.RangeCache.left (c.args.rank + 1)) c.between.new.reader c.reached.new.reader (g.met.C.RangeCache.left_looked (c.args.rank + 1) c.between.new.reader c.reached.new.reader) c.reached.ensures.moves)

pub returns-then-not-is_open-clause-moves : goal.returns-then-not-is_open-clause-moves
returns-then-not-is_open-clause-moves g c =
    moves_trans g.R.Reader.list g.R.Reader.floor (g.C.RangeCache.left (c.args.rank + 1)) c.args.reader.now c.between.new.reader c.reached.new.reader (g.met.C.RangeCache.left_trans (c.args.rank + 1) c.args.reader.now c.between.new.reader c.reached.new.reader)
    (moves_looked g.R.Reader.list g.R.Reader.floor g.R.Reader.went g.C.RangeCache.looked (g.C.RangeCache.left (c.args.rank + 1)) c.args.reader.now c.changes.new.self c.between.new.reader (g.met.C.RangeCache.left_below (c.args.rank + 1) c.args.reader.now c.changes.new.self (up_one g.R.Reader.top c.args.rank c.requires.next))
    (g.met.C.RangeCache.left_looked (c.args.rank + 1) c.changes.new.self c.between.new.reader) (g.met.C.RangeCache.left_trans (c.args.rank + 1) c.args.reader.now c.changes.new.self c.between.new.reader)
    c.changes.ensures.kept c.changes.ensures.entered c.changes.ensures.same_floor c.changes.ensures.on c.between.ensures.moves)
    (moves_as g.R.Reader.list g.R.Reader.floor g.C.RangeCache.looked (g.C.RangeCache.left (c.args.rank + 1)) c.between.new.reader c.reached.new.reader (g.met.C.RangeCache.left_looked (c.args.rank + 1) c.between.new.reader c.reached.new.reader) c.reached.ensures.moves)

pub returns-clause-moves : goal.returns-clause-moves
returns-clause-moves g c =
    moves_trans g.R.Reader.list g.R.Reader.floor (g.C.RangeCache.left (c.args.rank + 1)) c.args.reader.now c.reached.new.reader c.add_valued.new.reader (g.met.C.RangeCache.left_trans (c.args.rank + 1) c.args.reader.now c.reached.new.reader c.add_valued.new.reader)
    (moves_trans g.R.Reader.list g.R.Reader.floor (g.C.RangeCache.left (c.args.rank + 1)) c.args.reader.now c.between.new.reader c.reached.new.reader (g.met.C.RangeCache.left_trans (c.args.rank + 1) c.args.reader.now c.between.new.reader c.reached.new.reader)
    (moves_looked g.R.Reader.list g.R.Reader.floor g.R.Reader.went g.C.RangeCache.looked (g.C.RangeCache.left (c.args.rank + 1)) c.args.reader.now c.changes.new.self c.between.new.reader (g.met.C.RangeCache.left_below (c.args.rank + 1) c.args.reader.now c.changes.new.self (up_one g.R.Reader.top c.args.rank c.requires.next))
    (g.met.C.RangeCache.left_looked (c.args.rank + 1) c.changes.new.self c.between.new.reader) (g.met.C.RangeCache.left_trans (c.args.rank + 1) c.args.reader.now c.changes.new.self c.between.new.reader)
    c.changes.ensures.kept c.changes.ensures.entered c.changes.ensures.same_floor c.changes.ensures.on c.between.ensures.moves)
    (moves_as g.R.Reader.list g.R.Reader.floor g.C.RangeCache.looked (g.C.RangeCache.left (c.args.rank + 1)) c.between.new.reader c.reached.new.reader (g.met.C.RangeCache.left_looked (c.args.rank + 1) c.between.new.reader c.reached.new.reader) c.reached.ensures.moves))
    c.add_valued.ensures.moves

pub between-requires-clause-within : goal.between-requires-clause-within
between-requires-clause-within g c = omega (arith, c.requires.within, prefix_length (g.R.Reader.list c.args.reader.now) (g.R.Reader.list c.changes.new.self) c.changes.ensures.kept)

pub between-requires-clause-above : goal.between-requires-clause-above
between-requires-clause-above g c = subst (λ n. n ≤ c.args.q) (sym c.changes.ensures.same_floor) c.requires.above

pub reached-requires-clause-within : goal.reached-requires-clause-within
reached-requires-clause-within g c =
    let list = g.R.Reader.list in
    omega (arith, c.requires.within, prefix_length (list c.args.reader.now) (list c.changes.new.self) c.changes.ensures.kept, prefix_length (list c.changes.new.self) (list c.between.new.reader) c.between.ensures.moves.kept)

pub reached-requires-clause-above : goal.reached-requires-clause-above
reached-requires-clause-above g c = let floor = subst (λ n. n ≤ c.args.q) (sym (c.between.ensures.moves.same_floor ∙ c.changes.ensures.same_floor)) c.requires.above in omega (arith, floor, c.requires.order)

pub add_valued-requires-clause-above : goal.add_valued-requires-clause-above
add_valued-requires-clause-above g c =
    let floor = subst (λ n. n ≤ c.args.q) (sym (c.reached.ensures.moves.same_floor ∙ c.between.ensures.moves.same_floor ∙ c.changes.ensures.same_floor)) c.requires.above in
    omega (arith, floor, c.requires.order)

pub add_valued-requires-clause-within : goal.add_valued-requires-clause-within
add_valued-requires-clause-within g c =
    let list = g.R.Reader.list in
    omega (arith, c.requires.within, prefix_length (list c.args.reader.now) (list c.changes.new.self) c.changes.ensures.kept, prefix_length (list c.changes.new.self) (list c.between.new.reader) c.between.ensures.moves.kept, prefix_length (list c.between.new.reader) (list c.reached.new.reader) c.reached.ensures.moves.kept)

pub add_valued-requires-clause-entered : goal.add_valued-requires-clause-entered
add_valued-requires-clause-entered g c = c.reached.ensures.moves.entered (c.between.ensures.moves.entered c.changes.ensures.entered)

pub add_valued-requires-clause-listed : goal.add_valued-requires-clause-listed
add_valued-requires-clause-listed g c =
    let list = g.R.Reader.list in
    listed_over (list c.between.new.reader) (list c.reached.new.reader) c.args.p c.args.rank c.args.range.now c.in_ok-ats.ats.items c.as_slice.result.now
    (omega (arith, c.requires.within, prefix_length (list c.args.reader.now) (list c.changes.new.self) c.changes.ensures.kept, prefix_length (list c.changes.new.self) (list c.between.new.reader) c.between.ensures.moves.kept)) c.reached.ensures.moves.kept c.as_slice.ensures.value c.in_ok-ats.ensures.reached

pub returns-in-Bare-clause-exact : goal.returns-in-Bare-clause-exact
returns-in-Bare-clause-exact g c =
    let list = g.R.Reader.list in
    let same = take_prefix c.args.p (list c.args.reader.now) (list c.changes.new.self) c.requires.within c.changes.ensures.kept in
    let lists = subst (TellsChanges (list c.args.reader.now) c.args.q c.args.p c.args.rank c.args.range.now) c.in-Listed.is c.in_ok-changes.ensures.exact in
    lists_bare (list c.args.reader.now) c.args.q c.args.p c.args.rank c.args.range.now (change_keys c.in-Listed.changes.items) (entered_before (list c.args.reader.now) (list c.changes.new.self) c.changes.ensures.kept c.changes.ensures.entered) c.look_at.ensures
    (bare_over (list c.args.reader.now) (list c.changes.new.self) c.args.q c.args.p c.args.range.now same (subst (TellsBetween (list c.changes.new.self) c.args.q c.args.p c.args.range.now) c.in-Bare.is c.in_ok-between.ensures.said)) lists

pub returns-in-Bare-clause-values : goal.returns-in-Bare-clause-values
returns-in-Bare-clause-values g c =
    let list = g.R.Reader.list in
    let h = list c.args.reader.now in
    let same = take_prefix c.args.p h (list c.changes.new.self) c.requires.within c.changes.ensures.kept in
    let lists = subst (TellsChanges h c.args.q c.args.p c.args.rank c.args.range.now) c.in-Listed.is c.in_ok-changes.ensures.exact in
    let stand = subst (TellsValues (below (take c.args.p h) c.args.rank)) c.in-Listed.is c.in_ok-changes.ensures.values in
    let entered = has_entered_taken c.args.p h (entered_before h (list c.changes.new.self) c.changes.ensures.kept c.changes.ensures.entered) in
    let bare = bare_over h (list c.changes.new.self) c.args.q c.args.p c.args.range.now same (subst (TellsBetween (list c.changes.new.self) c.args.q c.args.p c.args.range.now) c.in-Bare.is c.in_ok-between.ensures.said) in
    values_next h c.args.p c.args.rank c.args.range.now c.in-Listed.changes.items entered c.look_at.ensures
    (inl (bare_reached h c.args.p c.args.rank c.args.range.now entered c.look_at.ensures (bare c.args.p c.requires.order (omega arith)))) lists.inside stand

pub returns-in-Other-clause-exact : goal.returns-in-Other-clause-exact
returns-in-Other-clause-exact g c =
    let list = g.R.Reader.list in
    let same = take_prefix c.args.p (list c.args.reader.now) (list c.changes.new.self) c.requires.within c.changes.ensures.kept in
    let other = between_over (list c.args.reader.now) (list c.changes.new.self) c.args.q c.args.p c.args.range.now Other same (subst (TellsBetween (list c.changes.new.self) c.args.q c.args.p c.args.range.now) c.in-Other.is c.in_ok-between.ensures.said) in
    record { computed = other.1; why = inl other.0 }

pub returns-in-Other-clause-bare : goal.returns-in-Other-clause-bare
returns-in-Other-clause-bare g c = λ bare.
    let list = g.R.Reader.list in
    let same = take_prefix c.args.p (list c.args.reader.now) (list c.changes.new.self) c.requires.within c.changes.ensures.kept in
    let other = between_over (list c.args.reader.now) (list c.changes.new.self) c.args.q c.args.p c.args.range.now Other same (subst (TellsBetween (list c.changes.new.self) c.args.q c.args.p c.args.range.now) c.in-Other.is c.in_ok-between.ensures.said) in
    absurd (other.1 bare)

pub returns-in-Other-clause-bare_cost : goal.returns-in-Other-clause-bare_cost
returns-in-Other-clause-bare_cost g c = λ bare.
    let list = g.R.Reader.list in
    let same = take_prefix c.args.p (list c.args.reader.now) (list c.changes.new.self) c.requires.within c.changes.ensures.kept in
    let other = between_over (list c.args.reader.now) (list c.changes.new.self) c.args.q c.args.p c.args.range.now Other same (subst (TellsBetween (list c.changes.new.self) c.args.q c.args.p c.args.range.now) c.in-Other.is c.in_ok-between.ensures.said) in
    absurd (other.1 bare)

pub returns-then-is_empty-clause-exact : goal.returns-then-is_empty-clause-exact
returns-then-is_empty-clause-exact g c =
    let list = g.R.Reader.list in
    let same = take_prefix c.args.p (list c.args.reader.now) (list c.changes.new.self) c.requires.within c.changes.ensures.kept in
    let to_two = prefix_trans (list c.args.reader.now) (list c.changes.new.self) (list c.between.new.reader) c.changes.ensures.kept c.between.ensures.moves.kept in
    let same_two = take_prefix c.args.p (list c.args.reader.now) (list c.between.new.reader) c.requires.within to_two in
    let lists = subst (TellsChanges (list c.args.reader.now) c.args.q c.args.p c.args.rank c.args.range.now) c.in-Listed.is c.in_ok-changes.ensures.exact in
    let steady = between_over (list c.args.reader.now) (list c.changes.new.self) c.args.q c.args.p c.args.range.now Steady same (subst (TellsBetween (list c.changes.new.self) c.args.q c.args.p c.args.range.now) c.in-Steady.is c.in_ok-between.ensures.said) in
    let empty : length c.in_ok-ats.ats.items ≡ 0 = grind (arith, common_steps) in
    let none = no_positions (reached c.args.range.now c.args.rank (joins_of (take c.args.p (list c.between.new.reader)))) c.in_ok-ats.ats.items c.in_ok-ats.ensures.reached empty in
    lists_above (list c.args.reader.now) c.args.q c.args.p c.args.rank c.args.range.now (change_keys c.in-Listed.changes.items) (entered_before (list c.args.reader.now) (list c.changes.new.self) c.changes.ensures.kept c.changes.ensures.entered) c.look_at.ensures c.requires.order steady
    (inl (subst (λ h. reached c.args.range.now c.args.rank (joins_of h) ≡ []) same_two none)) lists

pub returns-then-is_empty-clause-values : goal.returns-then-is_empty-clause-values
returns-then-is_empty-clause-values g c =
    let list = g.R.Reader.list in
    let h = list c.args.reader.now in
    let to_two = prefix_trans h (list c.changes.new.self) (list c.between.new.reader) c.changes.ensures.kept c.between.ensures.moves.kept in
    let same_two = take_prefix c.args.p h (list c.between.new.reader) c.requires.within to_two in
    let lists = subst (TellsChanges h c.args.q c.args.p c.args.rank c.args.range.now) c.in-Listed.is c.in_ok-changes.ensures.exact in
    let stand = subst (TellsValues (below (take c.args.p h) c.args.rank)) c.in-Listed.is c.in_ok-changes.ensures.values in
    let empty : length c.in_ok-ats.ats.items ≡ 0 = grind (arith, common_steps) in
    let none = no_positions (reached c.args.range.now c.args.rank (joins_of (take c.args.p (list c.between.new.reader)))) c.in_ok-ats.ats.items c.in_ok-ats.ensures.reached empty in
    values_next h c.args.p c.args.rank c.args.range.now c.in-Listed.changes.items (has_entered_taken c.args.p h (entered_before h (list c.changes.new.self) c.changes.ensures.kept c.changes.ensures.entered)) c.look_at.ensures
    (inl (subst (λ l. reached c.args.range.now c.args.rank (joins_of l) ≡ []) same_two none)) lists.inside stand

pub returns-then-not-is_open-clause-values : goal.returns-then-not-is_open-clause-values
returns-then-not-is_open-clause-values g c =
    let list = g.R.Reader.list in
    let h = list c.args.reader.now in
    let lists = subst (TellsChanges h c.args.q c.args.p c.args.rank c.args.range.now) c.in-Listed.is c.in_ok-changes.ensures.exact in
    let stand = subst (TellsValues (below (take c.args.p h) c.args.rank)) c.in-Listed.is c.in_ok-changes.ensures.values in
    let empty : is_open c.args.range.now ≡ false = grind (arith, common_steps) in
    values_next h c.args.p c.args.rank c.args.range.now c.in-Listed.changes.items (has_entered_taken c.args.p h (entered_before h (list c.changes.new.self) c.changes.ensures.kept c.changes.ensures.entered)) c.look_at.ensures (inr empty) lists.inside stand

pub returns-then-not-is_open-clause-exact : goal.returns-then-not-is_open-clause-exact
returns-then-not-is_open-clause-exact g c =
    let list = g.R.Reader.list in
    let same = take_prefix c.args.p (list c.args.reader.now) (list c.changes.new.self) c.requires.within c.changes.ensures.kept in
    let lists = subst (TellsChanges (list c.args.reader.now) c.args.q c.args.p c.args.rank c.args.range.now) c.in-Listed.is c.in_ok-changes.ensures.exact in
    let steady = between_over (list c.args.reader.now) (list c.changes.new.self) c.args.q c.args.p c.args.range.now Steady same (subst (TellsBetween (list c.changes.new.self) c.args.q c.args.p c.args.range.now) c.in-Steady.is c.in_ok-between.ensures.said) in
    let empty : is_open c.args.range.now ≡ false = grind (arith, common_steps) in
    lists_above (list c.args.reader.now) c.args.q c.args.p c.args.rank c.args.range.now (change_keys c.in-Listed.changes.items) (entered_before (list c.args.reader.now) (list c.changes.new.self) c.changes.ensures.kept c.changes.ensures.entered) c.look_at.ensures c.requires.order steady (inr empty) lists

pub returns-clause-exact : goal.returns-clause-exact
returns-clause-exact g c =
    let list = g.R.Reader.list in
    let same = take_prefix c.args.p (list c.args.reader.now) (list c.changes.new.self) c.requires.within c.changes.ensures.kept in
    let to_two = prefix_trans (list c.args.reader.now) (list c.changes.new.self) (list c.between.new.reader) c.changes.ensures.kept c.between.ensures.moves.kept in
    let same_two = take_prefix c.args.p (list c.args.reader.now) (list c.between.new.reader) c.requires.within to_two in
    let to_three = prefix_trans (list c.args.reader.now) (list c.between.new.reader) (list c.reached.new.reader) to_two c.reached.ensures.moves.kept in
    let lists = subst (TellsChanges (list c.args.reader.now) c.args.q c.args.p c.args.rank c.args.range.now) c.in-Listed.is c.in_ok-changes.ensures.exact in
    let steady = between_over (list c.args.reader.now) (list c.changes.new.self) c.args.q c.args.p c.args.range.now Steady same (subst (TellsBetween (list c.changes.new.self) c.args.q c.args.p c.args.range.now) c.in-Steady.is c.in_ok-between.ensures.said) in
    let opened : is_open c.args.range.now ≡ true = grind (arith, common_steps) in
    let listed : length c.in_ok-ats.ats.items ≡ 0 → ⊥ = λ none. grind (arith, common_steps, none) in
    let some : reached c.args.range.now c.args.rank (joins_of (take c.args.p (list c.args.reader.now))) ≡ [] → ⊥ =
    subst (λ h. reached c.args.range.now c.args.rank (joins_of h) ≡ [] → ⊥) same_two
    (some_positions (reached c.args.range.now c.args.rank (joins_of (take c.args.p (list c.between.new.reader)))) c.in_ok-ats.ats.items c.in_ok-ats.ensures.reached listed) in
    IfOk-weaker c.add_valued.result _ _ (λ answer added.
    tells_with (list c.args.reader.now) c.args.q c.args.p c.args.rank c.args.range.now (change_keys c.in-Listed.changes.items) answer (entered_before (list c.args.reader.now) (list c.changes.new.self) c.changes.ensures.kept c.changes.ensures.entered) c.look_at.ensures c.requires.order steady opened some lists
    (told_over (list c.args.reader.now) (list c.reached.new.reader) c.args.q c.args.p c.args.rank c.args.range.now (change_keys c.in-Listed.changes.items) answer c.requires.order c.requires.within to_three added)) c.add_valued.ensures.told

pub returns-clause-values : goal.returns-clause-values
returns-clause-values g c =
    let list = g.R.Reader.list in
    let h = list c.args.reader.now in
    let to_two = prefix_trans h (list c.changes.new.self) (list c.between.new.reader) c.changes.ensures.kept c.between.ensures.moves.kept in
    let to_three = prefix_trans h (list c.between.new.reader) (list c.reached.new.reader) to_two c.reached.ensures.moves.kept in
    subst (λ (l : History). IfOk c.add_valued.result (TellsValues (below l (c.args.rank + 1)))) (take_prefix c.args.p h (list c.reached.new.reader) c.requires.within to_three) c.add_valued.ensures.values

pub returns-clause-bare : goal.returns-clause-bare
returns-clause-bare g c = λ bare.
    let list = g.R.Reader.list in
    let to_two = prefix_trans (list c.args.reader.now) (list c.changes.new.self) (list c.between.new.reader) c.changes.ensures.kept c.between.ensures.moves.kept in
    let listed : length c.in_ok-ats.ats.items ≡ 0 → ⊥ = λ none. grind (arith, common_steps, none) in
    absurd (never_bare (list c.args.reader.now) (list c.between.new.reader) c.args.q c.args.p c.args.rank c.args.range.now c.in_ok-ats.ats.items c.requires.order c.requires.within to_two
    (c.between.ensures.moves.entered c.changes.ensures.entered) c.look_at.ensures c.in_ok-ats.ensures.reached listed bare)

pub returns-clause-bare_cost : goal.returns-clause-bare_cost
returns-clause-bare_cost g c = λ bare.
    let list = g.R.Reader.list in
    let to_two = prefix_trans (list c.args.reader.now) (list c.changes.new.self) (list c.between.new.reader) c.changes.ensures.kept c.between.ensures.moves.kept in
    let listed : length c.in_ok-ats.ats.items ≡ 0 → ⊥ = λ none. grind (arith, common_steps, none) in
    absurd (never_bare (list c.args.reader.now) (list c.between.new.reader) c.args.q c.args.p c.args.rank c.args.range.now c.in_ok-ats.ats.items c.requires.order c.requires.within to_two
    (c.between.ensures.moves.entered c.changes.ensures.entered) c.look_at.ensures c.in_ok-ats.ensures.reached listed bare)
