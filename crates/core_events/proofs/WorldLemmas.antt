-- What a step makes of a world: its history, and what is looked up in it.
use Rattle.std.proofs.Common.{◌≡◌, ◌⊎◌, ◌==◌, ℕ, ◌+◌, Bool, true, false, cond, List, [], ◌∷◌, ◌++◌, length, Option, Some, None, is_some, option_map, refl, sym, ap, ◌∙◌, subst, inl, inr, ⊎_elim, arith, append_assoc, append-nil, is_lt}
use Rattle.std.specs.Option.{option_or}
use Rattle.std.proofs.lemmas.List.{length-append, same_from_push}
use Rattle.semantics.specs.Texts.{Text, text_cmp, Range}
use Rattle.semantics.specs.Histories.{Write, Entry, History, IsPrefix}
use Rattle.semantics.specs.Verdicts.{Cause, AllEntered, verdict}
use Rattle.core_events.specs.Events.{Event, append, begin, piece, advance, mend, evict, finish, entered, refused, begun, finished}
use Rattle.core_events.specs.Plain.{Scan, World, scan_of, placed, goes_on, pairs_of, append_step, begin_step, piece_step, finish_step, Step, step, world_from, world_after}
use Rattle.core_events.specs.PlainLaws.{LookAlike, LooksDecide, EntriesHaveEntered, HistoryGrows}
use Rattle.core_events.proofs.PlainLemmas.{world_after-is, world_in_parts, scan_is_moved, scan_is_freed, scan_is_begun}

-- ---- the history

-- an event leaves the history, or adds one entry against which there was no cause
abbrev Adds : History → History → Type 0
Adds before after = (after ≡ before) ⊎ ((e : Entry) × (after ≡ before ++ e ∷ []) × (verdict e.write before ≡ None))

append_adds : (client : ℕ) (write : Write) (world : World) (o : Option Cause) → verdict write world.history ≡ o → Adds world.history (append_step client write world o).world.history
append_adds client write world None e = inr (record { client = client; write = write }, refl, e)
append_adds client write world (Some cause) e = inl refl

begin_adds : (scan : ℕ) (range : Range) (world : World) (b : Bool) → Adds world.history (begin_step scan range world b).world.history
begin_adds scan range world true = inl refl
begin_adds scan range world false = inl refl

-- what is chosen between two steps that leave the history
chosen : (h : History) (b : Bool) (s t : Step) → s.world.history ≡ h → t.world.history ≡ h → (cond b s t).world.history ≡ h
chosen h true s t e f = e
chosen h false s t e f = f

piece_adds : (scan : ℕ) (upto : Text) (world : World) (o : Option Scan) → Adds world.history (piece_step scan upto world o).world.history
piece_adds scan upto world None = inl refl
piece_adds scan upto world (Some s) = inl (chosen world.history (goes_on upto s) _ _ refl refl)

finish_adds : (scan : ℕ) (world : World) (o : Option Scan) → Adds world.history (finish_step scan world o).world.history
finish_adds scan world None = inl refl
finish_adds scan world (Some s) = inl (chosen world.history (is_lt (text_cmp s.place s.range.high)) _ _ refl refl)

-- so does every event
step_adds : (event : Event) (world : World) → Adds world.history (step event world).world.history
step_adds (append client write) world = append_adds client write world (verdict write world.history) refl
step_adds (begin scan range) world = begin_adds scan range world (is_some (scan_of scan world.scans))
step_adds (piece scan upto) world = piece_adds scan upto world (scan_of scan world.scans)
step_adds (advance cell to) world = inl refl
step_adds (mend cell range) world = inl refl
step_adds (evict cell) world = inl refl
step_adds (finish scan) world = finish_adds scan world (scan_of scan world.scans)

-- a list with an element has a last one
last_split : (x : Entry) (xs : History) → (front : History) × (last : Entry) × (x ∷ xs ≡ front ++ last ∷ [])
last_split x [] = ([], x, refl)
last_split x (y ∷ ys) = let w = last_split y ys in (x ∷ w.0, w.1, ap (λ zs. x ∷ zs) w.2)

-- an entry of a list with one more is the last one, or stands in the list
entry_of_more : (h before after : History) (e f : Entry) → h ++ e ∷ [] ≡ before ++ f ∷ after → ((before ≡ h) × (f ≡ e)) ⊎ ((rest : History) × (h ≡ before ++ f ∷ rest))
entry_of_more h before [] e f is = let both = same_from_push h before e f is in inl (sym both.0, sym both.1)
entry_of_more h before (a ∷ after) e f is =
    let w = last_split a after in
    let split = ap (λ es. before ++ f ∷ es) w.2 ∙ sym (append_assoc before (f ∷ w.0) (w.1 ∷ [])) in
    inr (w.0, (same_from_push h (before ++ f ∷ w.0) e w.1 (is ∙ split)).0)

-- nothing is against no entries
none_entered : AllEntered []
none_entered before e after is = let n = simp length-append at (ap length is) in absurd (omega arith)

-- nothing is against any entry after one against which there was nothing
entered_more : (before after : History) → AllEntered before → Adds before after → AllEntered after
entered_more before after all (inl same) = subst AllEntered (sym same) all
entered_more before after all (inr w) = subst AllEntered (sym w.1) (λ front f back is.
    ⊎_elim (λ p. (λ i. verdict (p.1 i).write (p.0 i)) ∙ w.2) (λ r. all front f r.0 r.1) (entry_of_more before front back w.0 f is))

entered_from : (world : World) (events : List Event) → AllEntered world.history → AllEntered (world_from world events).history
entered_from world [] all = all
entered_from world (event ∷ events) all =
    entered_from (step event world).world events (entered_more world.history (step event world).world.history all (step_adds event world))

-- each entry had no cause against it
pub entries_have_entered : EntriesHaveEntered
entries_have_entered events = subst (λ w. AllEntered w.history) (sym (world_after-is events)) (entered_from _ events none_entered)

-- a longer list begins with the list
prefix_more : (before after : History) → Adds before after → IsPrefix before after
prefix_more before after (inl same) = ([], same ∙ sym (append-nil before))
prefix_more before after (inr w) = (w.0 ∷ [], w.1)

grows_from : (world : World) (events : List Event) → IsPrefix world.history (world_from world events).history
grows_from world [] = ([], sym (append-nil world.history))
grows_from world (event ∷ events) =
    let first = prefix_more world.history (step event world).world.history (step_adds event world) in
    let next = grows_from (step event world).world events in
    (first.0 ++ next.0, next.1 ∙ ap (λ es. es ++ next.0) first.1 ∙ append_assoc world.history first.0 next.0)

-- the history grows
pub history_grows : HistoryGrows
history_grows events more = subst (λ w. IsPrefix (world_after events).history w.history) (sym (world_in_parts events more)) (grows_from (world_after events) more)

-- ---- what is looked up

-- steps with one answer, to worlds that look alike
abbrev StepsAlike : Step → Step → Type 0
StepsAlike s t = (s.answer ≡ t.answer) × LookAlike s.world t.world

alike_append : (client : ℕ) (write : Write) (world other : World) (o : Option Cause) → LookAlike world other → StepsAlike (append_step client write world o) (append_step client write other o)
alike_append client write world other None like = (
  ap (λ h. Some (entered (length h + 1))) like.histories,
  record { histories = ap (λ h. h ++ record { client = client; write = write } ∷ []) like.histories; scans = like.scans },
)
alike_append client write world other (Some cause) like = (ap (λ h. Some (refused (length h) cause)) like.histories, like)

alike_begin : (scan : ℕ) (range : Range) (world other : World) (b : Bool) → LookAlike world other → StepsAlike (begin_step scan range world b) (begin_step scan range other b)
alike_begin scan range world other true like = (refl, like)
alike_begin scan range world other false like =
    let new : History → Scan = λ h. record { number = scan; range = range; position = length h; place = range.low } in (
      ap (λ h. Some (begun (length h))) like.histories,
      record {
        histories = like.histories;
        scans = λ n.
            scan_is_begun world.scans (new world.history) n
            ∙ (λ i. option_or (like.scans n i) (cond (scan == n) (Some (new (like.histories i))) None))
            ∙ sym (scan_is_begun other.scans (new other.history) n);
      },
    )

-- what is chosen between steps that are alike
alike_chosen : (b : Bool) (s t u v : Step) → StepsAlike s u → StepsAlike t v → StepsAlike (cond b s t) (cond b u v)
alike_chosen true s t u v first next = first
alike_chosen false s t u v first next = next

alike_piece : (scan : ℕ) (upto : Text) (world other : World) (o : Option Scan) → LookAlike world other → StepsAlike (piece_step scan upto world o) (piece_step scan upto other o)
alike_piece scan upto world other None like = (refl, like)
alike_piece scan upto world other (Some s) like =
    alike_chosen (goes_on upto s) _ _ _ _ (
      refl,
      record {
        histories = like.histories;
        scans = λ n.
            scan_is_moved world.scans scan n upto
            ∙ (λ i. cond (n == scan) (option_map (placed upto) (like.scans n i)) (like.scans n i))
            ∙ sym (scan_is_moved other.scans scan n upto);
      },
    )
    (refl, like)

alike_finish : (scan : ℕ) (world other : World) (o : Option Scan) → LookAlike world other → StepsAlike (finish_step scan world o) (finish_step scan other o)
alike_finish scan world other None like = (refl, like)
alike_finish scan world other (Some s) like =
    alike_chosen (is_lt (text_cmp s.place s.range.high)) _ _ _ _
    (refl, like) (
      ap (λ h. Some (finished s.position (pairs_of s h))) like.histories,
      record {
        histories = like.histories;
        scans = λ n.
            scan_is_freed world.scans scan n
            ∙ (λ i. cond (n == scan) None (like.scans n i))
            ∙ sym (scan_is_freed other.scans scan n);
      },
    )

-- worlds that look alike give the same answer, and look alike afterwards
pub looks_decide : LooksDecide
looks_decide (append client write) world other like =
    subst (λ o. StepsAlike (step (append client write) world) (append_step client write other o)) (ap (verdict write) like.histories)
    (alike_append client write world other (verdict write world.history) like)
looks_decide (begin scan range) world other like =
    subst (λ b. StepsAlike (step (begin scan range) world) (begin_step scan range other b)) (ap (λ o. is_some o) (like.scans scan))
    (alike_begin scan range world other (is_some (scan_of scan world.scans)) like)
looks_decide (piece scan upto) world other like =
    subst (λ o. StepsAlike (step (piece scan upto) world) (piece_step scan upto other o)) (like.scans scan)
    (alike_piece scan upto world other (scan_of scan world.scans) like)
looks_decide (advance cell to) world other like = (refl, like)
looks_decide (mend cell range) world other like = (refl, like)
looks_decide (evict cell) world other like = (refl, like)
looks_decide (finish scan) world other like =
    subst (λ o. StepsAlike (step (finish scan) world) (finish_step scan other o)) (like.scans scan)
    (alike_finish scan world other (scan_of scan world.scans) like)
