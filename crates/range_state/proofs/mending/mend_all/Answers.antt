use Rattle.std.proofs.Common.{◌≡◌, ℕ, ◌+◌, ◌≤◌, List, [], ◌∷◌, ◌++◌, length, length-append, take, sym, ap, ◌∙◌, subst, arith}
use Rattle.std.specs.List.{AllByRecursion}
use Rattle.std.proofs.lemmas.List.Sums.{sum_by-cons}
use Rattle.std.proofs.lemmas.Result.{err_from_is_err_and}
use Rattle.semantics.specs.Patterns.{Slots}
use Rattle.semantics.specs.Histories.{History}
use Rattle.semantics.specs.States.{below}
use Rattle.growing_history.proofs.PrefixLemmas.{take_prefix}
use Rattle.range_evaluation.specs.Trees.{tree}
use Rattle.range_evaluation.specs.TreeLaws.{AreOutputSlots}
use Rattle.join_rows.specs.Kept.{KeptRows, AddsEach}
use Rattle.join_eval.specs.Bounds.{Allows, Exceeds, most_of}
use Rattle.join_eval.proofs.CollectingLemmas.{exceeds_more, on_too_wide_weaker}
use Rattle.join_eval.proofs.MovesLemmas.{moves_trans}
use Rattle.kept_ranges.specs.Notes.{Note, Notes, note_limit, noted}
use Rattle.kept_ranges.specs.Sound.{KeptRange, IsSoundAt}
use Rattle.range_state.specs.Held.{HasPlaces, range_kept}
use Rattle.range_state.specs.Mended.{AreAllBare, steps_for, steps_under, with_pending}
use Rattle.range_state.specs.Work.{mend_notes, needs_under_each}
use Rattle.range_state.proofs.MendLemmas.{pending_copies, mend_step, slots_note, noted_all, noted_room, bare_longer, steps_longer, needs_next, needs_end, steps_end, notes_end}
use Rattle.range_state.proofs.NotingLemmas.{noted_few, noted_next}
use Rattle.range_state.proofs.mending.mend_all.Goals as goal

pub mend_slots-requires-clause-copies : goal.mend_slots-requires-clause-copies
mend_slots-requires-clause-copies g c =
    let before = c.loop-slots.invariant in
    let left = c.args.held.now.pending.noted in
    let first : c.loop-slots.slots-iterator.rest.items ≡ c.in-Some.slots ∷ c.next.new.self.rest.items = c.in-Some.ensures.steps.0 in
    pending_copies (with_pending (c.loop-slots.slots-iterator.rest.items ++ left) (range_kept c.args.subject.now c.loop-slots.held)) (g.R.Reader.list c.loop-slots.reader) c.args.held.now.position c.in-Some.slots (c.next.new.self.rest.items ++ left)
    before.entered (ap (λ (ss : List Slots). ss ++ left) first) before.sound

pub returns-in_err-mend_slots-clause-moves : goal.returns-in_err-mend_slots-clause-moves
returns-in_err-mend_slots-clause-moves g c =
    moves_trans g.R.Reader.list g.R.Reader.floor g.R.Reader.went c.args.reader.now c.loop-slots.reader c.mend_slots.new.reader (g.met.R.Reader.went_trans c.args.reader.now c.loop-slots.reader c.mend_slots.new.reader) c.loop-slots.invariant.moves c.in_err-mend_slots.ensures.moves

pub returns-in_err-add-clause-moves : goal.returns-in_err-add-clause-moves
returns-in_err-add-clause-moves g c =
    moves_trans g.R.Reader.list g.R.Reader.floor g.R.Reader.went c.args.reader.now c.loop-slots.reader c.mend_slots.new.reader (g.met.R.Reader.went_trans c.args.reader.now c.loop-slots.reader c.mend_slots.new.reader) c.loop-slots.invariant.moves c.mend_slots.ensures.moves

pub returns-in_err-mend_slots-clause-wide : goal.returns-in_err-mend_slots-clause-wide
returns-in_err-mend_slots-clause-wide g c =
    let before = c.loop-slots.invariant in
    let s = c.args.subject.now in
    let h = g.R.Reader.list c.args.reader.now in
    let here = g.R.Reader.list c.loop-slots.reader in
    let q = c.args.held.now.position in
    let most = most_of c.args.bound in
    let given = c.in-Some.slots in
    let rest = c.next.new.self.rest.items in
    let had = c.args.held.now.rows.needs in
    let now = c.loop-slots.held.rows.needs in
    let table = below (take q h) s.rank in
    let found = tree s.join given s.range (below (take q here) s.rank) in
    let all = needs_under_each s.join s.range table c.args.taken.items in
    let same : length found ≡ length (tree s.join given s.range table) = ap (λ (es : History). length (tree s.join given s.range (below es s.rank))) (take_prefix q h here c.requires.sound.place before.moves.kept) in
    let parts : length (needs_under_each s.join s.range table c.loop-slots.slots-iterator.rest.items) ≡ length (tree s.join given s.range table) + length (needs_under_each s.join s.range table rest) =
    ap (λ (ss : List Slots). length (needs_under_each s.join s.range table ss)) c.in-Some.ensures.steps.0 ∙ length-append (tree s.join given s.range table) (needs_under_each s.join s.range table rest) in
    let p = err_from_is_err_and c.from_residual.result c.from_residual.ensures.1 in
    rw (p.1, p.2) (on_too_wide_weaker c.in_err-mend_slots.field-0.0
    (λ (many : Exceeds most (length now + length found)). exceeds_more most (length now + length found) (length had + length all) (omega (arith, before.long, same, parts)) many) c.in_err-mend_slots.ensures.wide)

pub loop-slots-preserved : goal.loop-slots-preserved
loop-slots-preserved g c =
    let before = c.loop-slots.invariant in
    let s = c.args.subject.now in
    let h = g.R.Reader.list c.args.reader.now in
    let here = g.R.Reader.list c.loop-slots.reader in
    let more = g.R.Reader.list c.mend_slots.new.reader in
    let q = c.args.held.now.position in
    let given = c.in-Some.slots in
    let rest = c.next.new.self.rest.items in
    let left = c.args.held.now.pending.noted in
    let held = c.loop-slots.held in
    let all = c.loop-slots.slots-iterator.rest.items in
    let first : all ≡ given ∷ rest = c.in-Some.ensures.steps.0 in
    let kept : KeptRange = with_pending (all ++ left) (range_kept s held) in
    let moved = c.in_ok-mend_slots.ensures.moves in
    let note : Note = slots_note q given in
    let added : c.add.new.self ≡ noted held.notes (note ∷ []) = c.in_ok-add.ensures.ok in
    let own : AllByRecursion (AreOutputSlots s.join) (given ∷ (rest ++ left)) = subst (λ (ss : List Slots). AllByRecursion (AreOutputSlots s.join) (ss ++ left)) first before.sound.right.pending in
    let step : IsSoundAt (record kept { kept = record { rows = c.mend_slots.new.rows.pairs; needs = c.mend_slots.new.rows.needs; pending = rest ++ left }; notes = noted held.notes (note ∷ []) }) more q =
    mend_step kept here more q given (rest ++ left) c.mend_slots.new.rows before.entered c.requires.is_range moved.kept (ap (λ (ss : List Slots). ss ++ left) first) before.sound c.in_ok-mend_slots.ensures.rows c.in_ok-mend_slots.ensures.needs in
    record {
      next = tt;
      finite = tt;
      stays = record { position = before.stays.position; pending = before.stays.pending; groups = before.stays.groups };
      places = subst (λ (n : Notes). AllByRecursion (λ note. HasPlaces note.mark) n.list) (sym added) (noted_all (λ n. HasPlaces n.mark) held.notes (note ∷ []) before.places (own.0.places, tt));
      few = subst (λ (n : Notes). length n.list ≤ note_limit) (sym added) (noted_few held.notes (note ∷ []));
      sound = subst (λ (n : Notes). IsSoundAt (record kept { kept = record { rows = c.mend_slots.new.rows.pairs; needs = c.mend_slots.new.rows.needs; pending = rest ++ left }; notes = n }) more q) (sym added) step;
      entered = moved.entered before.entered;
      moves = moves_trans g.R.Reader.list g.R.Reader.floor g.R.Reader.went c.args.reader.now c.loop-slots.reader c.mend_slots.new.reader (g.met.R.Reader.went_trans c.args.reader.now c.loop-slots.reader c.mend_slots.new.reader) before.moves moved;
      counted = let one = c.in_ok-mend_slots.ensures.counted in let so_far = before.counted in omega arith;
      needs = needs_next s.join s.range (below (take q h) s.rank) (below (take q here) s.rank) given c.args.taken.items all rest c.args.held.now.rows.needs held.rows.needs c.mend_slots.new.rows.needs
          (ap (λ (es : History). below es s.rank) (take_prefix q h here c.requires.sound.place before.moves.kept)) first c.in_ok-mend_slots.ensures.needs before.needs;
      long =
          let one = c.in_ok-mend_slots.ensures.long in
          let table = below (take q h) s.rank in
          let same : length (tree s.join given s.range (below (take q here) s.rank)) ≡ length (tree s.join given s.range table) =
          ap (λ (es : History). length (tree s.join given s.range (below es s.rank))) (take_prefix q h here c.requires.sound.place before.moves.kept) in
          let parts : length (needs_under_each s.join s.range table all) ≡ length (tree s.join given s.range table) + length (needs_under_each s.join s.range table rest) =
          ap (λ (ss : List Slots). length (needs_under_each s.join s.range table ss)) first ∙ length-append (tree s.join given s.range table) (needs_under_each s.join s.range table rest) in
          omega (arith, before.long, one, same, parts);
      within = λ had. c.in_ok-mend_slots.ensures.few;
      notes = noted_next held.notes c.add.new.self note (mend_notes q rest) added ∙ ap (λ (ss : List Slots). noted held.notes (mend_notes q ss)) (sym first) ∙ before.notes;
      least =
          let one = c.in_ok-mend_slots.ensures.least in
          let same : steps_for s here q given ≡ steps_for s h q given = steps_longer s h here q given before.moves.kept c.requires.sound.place in
          let total : steps_under s h q all ≡ steps_for s h q given + steps_under s h q rest = ap (steps_under s h q) first ∙ sum_by-cons (steps_for s h q) given rest in
          omega (arith, before.least, one, same, total);
      start = λ room.
          let b = before.start room in
          let long : length all ≡ length rest + 1 = ap length first ∙ omega arith in
          let fits = noted_room held.notes note (omega (arith, b.1, long)) in
          (ap (λ (n : Notes). n.start) added ∙ fits.0 ∙ b.0, (let l : length c.add.new.self.list ≡ length held.notes.list + 1 = ap (λ (n : Notes). length n.list) added ∙ fits.1 in omega (arith, b.1, long)));
      cost = λ bare.
          let b = before.cost bare in
          let bares : AreAllBare s h q (given ∷ rest) = subst (AreAllBare s h q) first b.0 in
          let one = c.in_ok-mend_slots.ensures.cost (bare_longer s h here q given before.moves.kept c.requires.sound.place bares.0) in
          let same : steps_for s here q given ≡ steps_for s h q given = steps_longer s h here q given before.moves.kept c.requires.sound.place in
          let total : steps_under s h q all ≡ steps_for s h q given + steps_under s h q rest = ap (steps_under s h q) first ∙ sum_by-cons (steps_for s h q) given rest in
          (bares.1, omega (arith, b.1, one, same, total));
    }

pub returns-clause-needs : goal.returns-clause-needs
returns-clause-needs g c =
    let s = c.args.subject.now in
    let table = below (take c.args.held.now.position (g.R.Reader.list c.args.reader.now)) s.rank in
    let none : length c.loop-slots.slots-iterator.rest.items ≡ 0 = sym c.loop-slots.slots-iterator.rest.ok.0 ∙ c.in-None.ensures.steps.0 in
    subst (λ (r : KeptRows). AddsEach (needs_under_each s.join s.range table c.args.taken.items) c.args.held.now.rows.needs r.needs) (sym c.forget_order.ensures)
    (needs_end s.join s.range table c.args.taken.items c.loop-slots.slots-iterator.rest.items c.args.held.now.rows.needs c.loop-slots.held.rows.needs none c.loop-slots.invariant.needs)

pub returns-clause-few : goal.returns-clause-few
returns-clause-few g c =
    let most = most_of c.args.bound in
    subst (λ (r : KeptRows). Allows most (length c.args.held.now.rows.needs) → Allows most (length r.needs)) (sym c.forget_order.ensures) c.loop-slots.invariant.within

pub returns-clause-notes : goal.returns-clause-notes
returns-clause-notes g c =
    let none : length c.loop-slots.slots-iterator.rest.items ≡ 0 = sym c.loop-slots.slots-iterator.rest.ok.0 ∙ c.in-None.ensures.steps.0 in
    notes_end c.loop-slots.held.notes c.args.held.now.notes c.args.held.now.position c.loop-slots.slots-iterator.rest.items c.args.taken.items none c.loop-slots.invariant.few c.loop-slots.invariant.notes

pub returns-clause-least : goal.returns-clause-least
returns-clause-least g c =
    let none : length c.loop-slots.slots-iterator.rest.items ≡ 0 = sym c.loop-slots.slots-iterator.rest.ok.0 ∙ c.in-None.ensures.steps.0 in
    let left = steps_end c.args.subject.now (g.R.Reader.list c.args.reader.now) c.args.held.now.position c.loop-slots.slots-iterator.rest.items none in
    omega (arith, c.loop-slots.invariant.least, left)
