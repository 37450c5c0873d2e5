-- What is held after an advance, and that it is right.
use Rattle.std.proofs.Common.{◌≡◌, ◌↔◌, ◌||◌, ℕ, ◌-◌, ◌≤◌, ◌⊎◌, List, [], ◌∷◌, ◌++◌, zero, suc, length, take, drop, map, filter, filter_map, not, Bool, true, false, cond, Contains, Option, Some, None, IsTrue, refl, sym, ap, ◌∙◌, subst, inl, inr, ⊎_elim}
use Rattle.std.specs.FinMap.Entries.{is_sorted}
use Rattle.std.specs.List.{list_any, AllByRecursion}
use Rattle.std.proofs.lemmas.Bool.{not-true}
use Rattle.std.proofs.lemmas.List.{map-append}
use Rattle.semantics.specs.Texts.{Text, text_cmp, same, Table, is_range, value_at}
use Rattle.semantics.specs.Joins.{copy, is_check, is_aggregate, checks_of, Source, Join, value_operator}
use Rattle.semantics.specs.Histories.{History, joins_of}
use Rattle.semantics.specs.States.{below, KeepsRules}
use Rattle.semantics.proofs.MemberLemmas.{Has, has_from_contains, contains_from_has, has_append_left, has_append_right, has_append_cases, has_filter, has_map, has_mapped}
use Rattle.semantics.proofs.Members.{AllByRecursion-append}
use Rattle.semantics.proofs.OfRankLemmas.{all_at}
use Rattle.key_ranges.proofs.OnlyLemmas.{only_has_places}
use Rattle.growing_history.specs.Entered.{HasEntered, HasRank}
use Rattle.growing_history.proofs.ElementLemmas.{all_from_has}
use Rattle.growing_history.proofs.EnteredLemmas.{has_entered_taken, keeps_rules}
use Rattle.range_evaluation.specs.Trees.{Need}
use Rattle.range_evaluation.proofs.ContributionLemmas.{one_source}
use Rattle.join_rows.specs.Kept.{KeptRows, came_by_any}
use Rattle.agg_rows.specs.Kept.{KeptGroups, pairs_of}
use Rattle.kept_ranges.specs.Listing.{IsApplied, listed_after, answer_of}
use Rattle.kept_ranges.specs.ListingLaws.{IsRelisted}
use Rattle.kept_ranges.specs.Notes.{Mark, key, slots, Note, Notes, note_limit, noted}
use Rattle.kept_ranges.specs.Rules.{source_of, reported_in, Touch, touch_of, touches_by, touches, is_touched, is_left, Application, applications, applied, AddsTouched, IsAdvanced}
use Rattle.kept_ranges.specs.Sound.{KeptRange, IsSoundAt}
use Rattle.kept_ranges.specs.SoundLaws.{AreReportedBetween, CanStand, IsAdvanceMark, MakesNotes}
use Rattle.kept_ranges.proofs.SoundLemmas.{advanced_is_sound, relisted_is_sound}
use Rattle.kept_ranges.proofs.TouchLemmas.{touched}
use Rattle.range_state.specs.Filling.{CanFill}
use Rattle.range_state.specs.Laws.{NeedsCanFill}
use Rattle.range_state.specs.Advanced.{touch_notes, key_notes, slots_touched, touched_by, applied_by, IsAdvancedTo}
use Rattle.range_state.specs.Held.{groups_of, kept_of, range_kept, FitsGroups, FitsJoin, HasPlaces}
use Rattle.range_state.specs.Work.{NotesEach}
use Rattle.range_state.specs.declared.holding.Holding.{Holding}
use Rattle.range_state.specs.declared.subject.Subject.{Subject}
use Rattle.range_state.proofs.FillLemmas.{standing_join}
use Rattle.range_state.proofs.NotingLemmas.{noted_few, noted_parts}

-- ---- needs that are left

-- a test of the touched keys
any_key : (touched : List Touch) (by : Text) → list_any (λ key. same key by) (map (λ t. t.key) touched) ≡ is_touched touched by
any_key [] by = refl
any_key (t ∷ ts) by = ap (λ b. same t.key by || b) (any_key ts by)

-- the needs that came by none of the touched keys are those that are left
pub needs_left : (touched : List Touch) (keys : List Text) (needs : List Need) → keys ≡ map (λ t. t.key) touched → filter (λ need. not (came_by_any keys need)) needs ≡ filter (is_left touched) needs
needs_left touched keys needs is = subst (λ ks. filter (λ need. not (came_by_any ks need)) needs ≡ filter (is_left touched) needs) (sym is) (λ i. filter (λ need. not (list_any (λ by. any_key touched by i) need.by)) needs)

-- where nothing is touched all are left
none_by : (ks : List Text) → list_any (is_touched []) ks ≡ false
none_by [] = refl
none_by (k ∷ ks) = none_by ks

all_left : (needs : List Need) → filter (is_left []) needs ≡ needs
all_left [] = refl
all_left (need ∷ needs) = ap (λ b. cond (not b) (need ∷ filter (is_left []) needs) (filter (is_left []) needs)) (none_by need.by) ∙ ap (λ ns. need ∷ ns) (all_left needs)

-- ---- joins without check sources

unchecked_one : (b : Bool) (s : Source) (ss : List Source) → is_check s.operator ≡ b → cond b (s ∷ checks_of ss) (checks_of ss) ≡ [] → (is_check s.operator ≡ false) × (checks_of ss ≡ [])
unchecked_one true s ss is e = cc
unchecked_one false s ss is e = (is, e)

-- no source is a check
unchecked_all : (ss : List Source) → checks_of ss ≡ [] → AllByRecursion (λ s. is_check s.operator ≡ false) ss
unchecked_all [] e = tt
unchecked_all (s ∷ ss) e = let one = unchecked_one (is_check s.operator) s ss refl e in (one.0, unchecked_all ss one.1)

-- through a need of a join without check sources nothing is touched
untouched_one : (j : Join) (reported : List Text) (need : Need) (o : Option Source) → checks_of j.sources ≡ [] → source_of j need ≡ o → touches_by j reported need o ≡ []
untouched_one j reported need None none e = refl
untouched_one j reported need (Some s) none e =
    ap (λ b. cond b (filter_map (touch_of j need s) (reported_in reported need)) []) (all_at (λ (t : Source). is_check t.operator ≡ false) j.sources need.source s (unchecked_all j.sources none) e)

pub untouched : (j : Join) (reported : List Text) (needs : List Need) → checks_of j.sources ≡ [] → touches j reported needs ≡ []
untouched j reported [] none = refl
untouched j reported (need ∷ needs) none = ap (λ ts. ts ++ touches j reported needs) (untouched_one j reported need (source_of j need) none refl) ∙ untouched j reported needs none

-- an aggregate has no check sources
aggregate_unchecked : (j : Join) → KeepsRules j → is_aggregate (value_operator j) ≡ true → checks_of j.sources ≡ []
aggregate_unchecked j rules aggregates =
    let one = one_source j rules aggregates in
    let passes = (has_filter (λ s. not (is_check s.operator)) j.sources one.source (subst (λ ss. Has ss one.source) (sym one.values) (inl refl))).0 in
    ap checks_of one.sources ∙ ap (λ b. cond b (one.source ∷ []) []) (not-true (is_check one.source.operator) passes)

-- ---- needs that can fill

-- the needs that are left of those of a right kept range can fill
pub left_can_fill : NeedsCanFill → (s : Subject) (held : Holding) (h : History) (test : Need → Bool) (needs : List Need) → HasEntered h → IsSoundAt (range_kept s held) h held.position → needs ≡ filter test held.rows.needs → AllByRecursion (CanFill s.join) needs
left_can_fill needs_can_fill s held h test needs entered sound is =
    let q = held.position in
    subst (AllByRecursion (CanFill s.join)) (sym is) (needs_can_fill s.join (below (take q h) s.rank) held.rows.needs test (standing_join h q s.rank s.join entered sound.stands) (keeps_rules (take q h) s.join s.rank (has_entered_taken q h entered) sound.stands) sound.right.came)

-- a test that all pass
pub all_pass : {A : Type 0} (xs : List A) → xs ≡ filter (λ _. true) xs
all_pass [] = refl
all_pass (x ∷ xs) = ap (λ ys. x ∷ ys) (all_pass xs)

-- and so can they all
pub all_can_fill : NeedsCanFill → (s : Subject) (held : Holding) (h : History) (needs : List Need) → HasEntered h → IsSoundAt (range_kept s held) h held.position → needs ≡ held.rows.needs → AllByRecursion (CanFill s.join) needs
all_can_fill needs_can_fill s held h needs entered sound is = left_can_fill needs_can_fill s held h (λ _. true) needs entered sound (subst (λ ns. needs ≡ ns) (all_pass held.rows.needs) is)

-- ---- the notes of an advance

key_same : (a b : Text) → key a ≡ key b → a ≡ b
key_same a b e = cc

slots_same : (a b : List (Option Text)) → slots a ≡ slots b → a ≡ b
slots_same a b e = cc

apart : {P : Type 0} (a : Text) (b : List (Option Text)) → key a ≡ slots b → P
apart a b e = cc

-- a mark of the touches
touch_mark : (p : ℕ) (touched : List Touch) (mark : Mark) → Has (map (λ note. note.mark) (touch_notes p touched)) mark → (t : Touch) × Has touched t × (slots t.slots ≡ mark)
touch_mark p [] mark h = absurd h
touch_mark p (t ∷ ts) mark (inl e) = (t, inl refl, e)
touch_mark p (t ∷ ts) mark (inr h) = let w = touch_mark p ts mark h in (w.0, inr w.1, w.2)

marked_touch : (p : ℕ) (touched : List Touch) (t : Touch) → Has touched t → Has (map (λ note. note.mark) (touch_notes p touched)) (slots t.slots)
marked_touch p [] t h = absurd h
marked_touch p (u ∷ us) t (inl e) = inl (ap (λ (v : Touch). slots v.slots) e)
marked_touch p (u ∷ us) t (inr h) = inr (marked_touch p us t h)

-- a mark of the applications
key_mark : (p : ℕ) (applying : List Application) (mark : Mark) → Has (map (λ note. note.mark) (key_notes p applying)) mark → (a : Application) × Has applying a × (key a.output ≡ mark)
key_mark p [] mark h = absurd h
key_mark p (a ∷ others) mark (inl e) = (a, inl refl, e)
key_mark p (a ∷ others) mark (inr h) = let w = key_mark p others mark h in (w.0, inr w.1, w.2)

marked_key : (p : ℕ) (applying : List Application) (a : Application) → Has applying a → Has (map (λ note. note.mark) (key_notes p applying)) (key a.output)
marked_key p [] a h = absurd h
marked_key p (b ∷ others) a (inl e) = inl (ap (λ (c : Application). key c.output) e)
marked_key p (b ∷ others) a (inr h) = inr (marked_key p others a h)

-- the marks of both
abbrev marks_of : List Note → List Mark
marks_of notes = map (λ note. note.mark) notes

either_mark : (p : ℕ) (touched : List Touch) (applying : List Application) (mark : Mark) → Contains (marks_of (touch_notes p touched ++ key_notes p applying)) mark
    → Has (marks_of (touch_notes p touched)) mark ⊎ Has (marks_of (key_notes p applying)) mark
either_mark p touched applying mark h =
    has_append_cases (marks_of (touch_notes p touched)) (marks_of (key_notes p applying)) mark
    (subst (λ ms. Has ms mark) (map-append (λ (note : Note). note.mark) (touch_notes p touched) (key_notes p applying)) (has_from_contains (marks_of (touch_notes p touched ++ key_notes p applying)) mark h))

both_marks : (p : ℕ) (touched : List Touch) (applying : List Application) (mark : Mark) → Has (marks_of (touch_notes p touched) ++ marks_of (key_notes p applying)) mark → Contains (marks_of (touch_notes p touched ++ key_notes p applying)) mark
both_marks p touched applying mark h =
    contains_from_has (marks_of (touch_notes p touched ++ key_notes p applying)) mark
    (subst (λ ms. Has ms mark) (sym (map-append (λ (note : Note). note.mark) (touch_notes p touched) (key_notes p applying))) h)

advance_marks : (p : ℕ) (touched : List Touch) (applying : List Application) (mark : Mark) → Contains (marks_of (touch_notes p touched ++ key_notes p applying)) mark ↔ IsAdvanceMark touched applying mark
advance_marks p touched applying (key k) = (
  λ h. ⊎_elim
      (λ (t : Has (marks_of (touch_notes p touched)) (key k)). let w = touch_mark p touched (key k) t in apart k w.0.slots (sym w.2))
      (λ (a : Has (marks_of (key_notes p applying)) (key k)).
      let w = key_mark p applying (key k) a in
      contains_from_has (map (λ b. b.output) applying) k (subst (Has (map (λ b. b.output) applying)) (key_same w.0.output k w.2) (has_mapped (λ (b : Application). b.output) applying w.0 w.1)))
      (either_mark p touched applying (key k) h),
  λ h.
      let w = has_map (λ (b : Application). b.output) applying k (has_from_contains (map (λ b. b.output) applying) k h) in
      both_marks p touched applying (key k) (has_append_right (marks_of (touch_notes p touched)) (marks_of (key_notes p applying)) (key k) (subst (λ o. Has (marks_of (key_notes p applying)) (key o)) w.2 (marked_key p applying w.0 w.1))),
)
advance_marks p touched applying (slots s) = (
  λ h. ⊎_elim
      (λ (t : Has (marks_of (touch_notes p touched)) (slots s)).
      let w = touch_mark p touched (slots s) t in
      contains_from_has (map (λ u. u.slots) touched) s (subst (Has (map (λ u. u.slots) touched)) (slots_same w.0.slots s w.2) (has_mapped (λ (u : Touch). u.slots) touched w.0 w.1)))
      (λ (a : Has (marks_of (key_notes p applying)) (slots s)). let w = key_mark p applying (slots s) a in apart w.0.output s w.2)
      (either_mark p touched applying (slots s) h),
  λ h.
      let w = has_map (λ (u : Touch). u.slots) touched s (has_from_contains (map (λ u. u.slots) touched) s h) in
      both_marks p touched applying (slots s) (has_append_left (marks_of (touch_notes p touched)) (marks_of (key_notes p applying)) (slots s) (subst (λ o. Has (marks_of (touch_notes p touched)) (slots o)) w.2 (marked_touch p touched w.0 w.1))),
)

made_touches : (p : ℕ) (touched : List Touch) → AllByRecursion (λ note. note.position ≡ p) (touch_notes p touched)
made_touches p [] = tt
made_touches p (t ∷ ts) = (refl, made_touches p ts)

made_keys : (p : ℕ) (applying : List Application) → AllByRecursion (λ note. note.position ≡ p) (key_notes p applying)
made_keys p [] = tt
made_keys p (a ∷ others) = (refl, made_keys p others)

-- the notes of an advance are of its marks
advance_notes : (p : ℕ) (touched : List Touch) (applying : List Application) → MakesNotes p (IsAdvanceMark touched applying) (touch_notes p touched ++ key_notes p applying)
advance_notes p touched applying = record {
  made = AllByRecursion-append (λ note. note.position ≡ p) (touch_notes p touched) (key_notes p applying) (made_touches p touched) (made_keys p applying);
  marks = advance_marks p touched applying;
}

-- ---- slots that are noted

touched_places : (p : ℕ) (touched : List Touch) → ((t : Touch) → Has touched t → length t.slots ≡ 16) → AllByRecursion (λ note. HasPlaces note.mark) (touch_notes p touched)
touched_places p [] all = tt
touched_places p (t ∷ ts) all = (all t (inl refl), touched_places p ts (λ u h. all u (inr h)))

keys_places : (p : ℕ) (applying : List Application) → AllByRecursion (λ note. HasPlaces note.mark) (key_notes p applying)
keys_places p [] = tt
keys_places p (a ∷ others) = (tt, keys_places p others)

dropped_places : (d : ℕ) (notes : List Note) → AllByRecursion (λ note. HasPlaces note.mark) notes → AllByRecursion (λ note. HasPlaces note.mark) (drop d notes)
dropped_places zero notes all = all
dropped_places (suc d) [] all = tt
dropped_places (suc d) (note ∷ notes) all = dropped_places d notes all.1

-- slots that are touched have 16 places
touch_places : (j : Join) (reported : List Text) (needs : List Need) (t : Touch) → Has (touches j reported needs) t → length t.slots ≡ 16
touch_places j reported needs t h = let is = touched j reported needs t h in ap length is.slots_are ∙ only_has_places j.output is.bound

-- what is noted after an advance has 16 places
advanced_places : (p : ℕ) (j : Join) (reported : List Text) (needs : List Need) (applying : List Application) (notes : Notes) → AllByRecursion (λ note. HasPlaces note.mark) notes.list
    → AllByRecursion (λ note. HasPlaces note.mark) (noted notes (touch_notes p (touches j reported needs) ++ key_notes p applying)).list
advanced_places p j reported needs applying notes all =
    let ts = touch_notes p (touches j reported needs) in
    let ks = key_notes p applying in
    dropped_places (length (notes.list ++ (ts ++ ks)) - note_limit) (notes.list ++ (ts ++ ks))
    (AllByRecursion-append (λ note. HasPlaces note.mark) notes.list (ts ++ ks) all
    (AllByRecursion-append (λ note. HasPlaces note.mark) ts ks (touched_places p (touches j reported needs) (touch_places j reported needs)) (keys_places p applying)))

-- what is held fits the join, where it is noted so
fits_noted : (s : Subject) (p : ℕ) (reported : List Text) (needs : List Need) (applying : List Application) (held after : Holding) → FitsJoin s.join held → after.pending.output ≡ held.pending.output → FitsGroups s.join after.groups
    → after.notes ≡ noted held.notes (touch_notes p (touches s.join reported needs) ++ key_notes p applying) → FitsJoin s.join after
fits_noted s p reported needs applying held after fits output groups is =
    let added = touch_notes p (touches s.join reported needs) ++ key_notes p applying in
    record {
      output = output ∙ fits.output;
      groups = groups;
      places = subst (λ (n : Notes). AllByRecursion (λ note. HasPlaces note.mark) n.list) (sym is) (advanced_places p s.join reported needs applying held.notes fits.places);
      few = subst (λ (n : Notes). length n.list ≤ note_limit) (sym is) (noted_few held.notes added);
    }

-- ---- copy joins

-- what an advance of a copy join makes of what is held
pub record RowsStep (s : Subject) (p : ℕ) (reported : List Text) (table : Table) (held after : Holding) : Type 0 where
  pub position : after.position ≡ p
  pub groups : after.groups ≡ held.groups
  pub output : after.pending.output ≡ held.pending.output
  pub pending : AddsTouched (touched_by s reported held) held.pending.noted after.pending.noted
  pub once : NotesEach (slots_touched (touched_by s reported held)) held.pending.noted after.pending.noted
  pub needs : after.rows.needs ≡ filter (is_left (touched_by s reported held)) held.rows.needs
  pub pairs : after.rows.pairs ≡ applied table (applied_by s reported after) held.rows.pairs
  pub notes : after.notes ≡ noted held.notes (touch_notes p (touched_by s reported held) ++ key_notes p (applied_by s reported after))

-- from what each call gives
pub rows_step : (s : Subject) (p : ℕ) (reported : List Text) (table : Table) (held after : Holding) (needs_then needs_now : List Need) (touched : List Touch) (keys : List Text) (mid : Notes) (cut : KeptRows) (applying : List Application)
    → needs_then ≡ held.rows.needs → touched ≡ touches s.join reported needs_then → keys ≡ map (λ t. t.key) touched → AddsTouched touched held.pending.noted after.pending.noted → NotesEach (slots_touched touched) held.pending.noted after.pending.noted → mid ≡ noted held.notes (touch_notes p touched)
    → cut ≡ record { pairs = held.rows.pairs; needs = filter (λ need. not (came_by_any keys need)) held.rows.needs } → needs_now ≡ cut.needs → applying ≡ applications s.join s.range after.pending.noted reported needs_now
    → after.notes ≡ noted mid (key_notes p applying) → after.rows ≡ record { pairs = applied table applying cut.pairs; needs = cut.needs } → after.position ≡ p → after.groups ≡ held.groups → after.pending.output ≡ held.pending.output
    → RowsStep s p reported table held after
rows_step s p reported table held after needs_then needs_now touched keys mid cut applying held_needs is_touched are_keys adds notes_each is_mid is_cut now_needs is_applying is_notes is_rows position groups output =
    let touches_are : touched ≡ touched_by s reported held = is_touched ∙ ap (touches s.join reported) held_needs in
    let needs_are : after.rows.needs ≡ cut.needs = ap (λ (r : KeptRows). r.needs) is_rows in
    let applying_are : applying ≡ applied_by s reported after = is_applying ∙ ap (applications s.join s.range after.pending.noted reported) (now_needs ∙ sym needs_are) in
    record {
      position = position;
      groups = groups;
      output = output;
      pending = subst (λ ts. AddsTouched ts held.pending.noted after.pending.noted) touches_are adds;
      once = subst (λ (ts : List Touch). NotesEach (slots_touched ts) held.pending.noted after.pending.noted) touches_are notes_each;
      needs = needs_are ∙ ap (λ (r : KeptRows). r.needs) is_cut ∙ needs_left touched keys held.rows.needs are_keys ∙ ap (λ ts. filter (is_left ts) held.rows.needs) touches_are;
      pairs = ap (λ (r : KeptRows). r.pairs) is_rows ∙ ap (λ as_now. applied table as_now cut.pairs) applying_are ∙ ap (λ (r : KeptRows). applied table (applied_by s reported after) r.pairs) is_cut;
      notes = is_notes ∙ ap (λ n. noted n (key_notes p applying)) is_mid ∙ noted_parts held.notes (touch_notes p touched) (key_notes p applying)
          ∙ ap (λ ts. noted held.notes (touch_notes p ts ++ key_notes p applying)) touches_are ∙ ap (λ as_now. noted held.notes (touch_notes p (touched_by s reported held) ++ key_notes p as_now)) applying_are;
    }

-- then it is advanced
pub rows_advanced : (s : Subject) (p : ℕ) (reported : List Text) (table : Table) (held after : Holding) → FitsJoin s.join held → RowsStep s p reported table held after → IsAdvancedTo s p reported held after
rows_advanced s p reported table held after fits step = record {
  fits = fits_noted s p reported held.rows.needs (applied_by s reported after) held after fits step.output (subst (FitsGroups s.join) (sym step.groups) fits.groups) step.notes;
  position = step.position;
  pending = step.pending;
  once = step.once;
  needs = step.needs;
  notes = step.notes;
}

-- what is right at a position, said of what is held there
said_of : (s : Subject) (h : History) (p : ℕ) (after : Holding) (notes : Notes) → after.position ≡ p → after.notes ≡ notes
    → IsSoundAt (record (range_kept s after) { position = Some p; notes = notes }) h p → IsSoundAt (range_kept s after) h p
said_of s h p after notes position is sound = subst (λ (w : ℕ × Notes). IsSoundAt (record (range_kept s after) { position = Some w.0; notes = w.1 }) h p) (λ i. (sym position i, sym is i)) sound

-- and right at the later position
pub rows_sound : (s : Subject) (h : History) (p : ℕ) (reported : List Text) (held after : Holding) → CanStand (range_kept s held) h p → held.position ≤ p → value_operator s.join ≡ copy
    → IsSoundAt (range_kept s held) h held.position → AreReportedBetween h held.position p s.rank held.rows.needs reported → RowsStep s p reported (below (take p h) s.rank) held after → IsSoundAt (range_kept s after) h p
rows_sound s h p reported held after can le copies sound between step =
    let added = touch_notes p (touched_by s reported held) ++ key_notes p (applied_by s reported after) in
    let advanced : IsAdvanced s.join s.range reported (below (take p h) s.rank) (kept_of held) (kept_of after) = record { cut = record { needs = step.needs; pending = step.pending }; rows = step.pairs } in
    let at = advanced_is_sound (range_kept s held) (kept_of after) reported added h held.position p can le copies sound between advanced (advance_notes p (touched_by s reported held) (applied_by s reported after)) in
    let own : IsSoundAt (record (range_kept s after) { position = Some p; notes = noted held.notes added }) h p =
    subst (λ (o : Option KeptGroups). IsSoundAt (record (range_kept s after) { position = Some p; notes = noted held.notes added; groups = groups_of o }) h p) (sym step.groups) at in
    said_of s h p after (noted held.notes added) step.position step.notes own

-- ---- aggregates

-- what an advance of an aggregate makes of what is held
pub record GroupsStep (s : Subject) (p : ℕ) (reported : List Text) (table : Table) (held after : Holding) : Type 0 where
  pub position : after.position ≡ p
  pub groups : FitsGroups s.join after.groups
  pub pending : after.pending ≡ held.pending
  pub needs : after.rows.needs ≡ held.rows.needs
  pub notes : after.notes ≡ noted held.notes (key_notes p (applied_by s reported held))
  pub listed : (key : Text) → pairs_of key (groups_of after.groups) ≡ listed_after table (applied_by s reported held) key (pairs_of key (groups_of held.groups))
  pub ascending : IsTrue (is_sorted text_cmp after.rows.pairs)
  pub made : (key : Text) → IsApplied (applied_by s reported held) key → value_at key after.rows.pairs ≡ answer_of (value_operator s.join) (pairs_of key (groups_of after.groups))
  pub others : (key : Text) → (IsApplied (applied_by s reported held) key → ⊥) → value_at key after.rows.pairs ≡ value_at key held.rows.pairs

-- from what each call gives
pub groups_step : (s : Subject) (p : ℕ) (reported : List Text) (table : Table) (held after : Holding) (needs : List Need) (old new : KeptGroups) (applying : List Application) → FitsJoin s.join held
    → needs ≡ held.rows.needs → held.groups ≡ Some old → after.groups ≡ Some new → applying ≡ applications s.join s.range held.pending.noted reported needs → after.pending ≡ held.pending → after.position ≡ p
    → after.notes ≡ noted held.notes (key_notes p applying) → new.operator ≡ old.operator → ((key : Text) → pairs_of key new.groups ≡ listed_after table applying key (pairs_of key old.groups))
    → after.rows.needs ≡ held.rows.needs → ((key : Text) → IsApplied applying key → value_at key after.rows.pairs ≡ answer_of new.operator (pairs_of key new.groups))
    → ((key : Text) → (IsApplied applying key → ⊥) → value_at key after.rows.pairs ≡ value_at key held.rows.pairs) → IsTrue (is_sorted text_cmp after.rows.pairs) → GroupsStep s p reported table held after
groups_step s p reported table held after needs old new applying fits held_needs were are is_applying pending position notes operator listed kept made others ascending =
    let applying_are : applying ≡ applied_by s reported held = is_applying ∙ ap (applications s.join s.range held.pending.noted reported) held_needs in
    let fitted : (is_aggregate (value_operator s.join) ≡ true) × (old.operator ≡ value_operator s.join) = subst (FitsGroups s.join) were fits.groups in
    let own : new.operator ≡ value_operator s.join = operator ∙ fitted.1 in
    let before : groups_of held.groups ≡ old.groups = ap groups_of were in
    let later : groups_of after.groups ≡ new.groups = ap groups_of are in
    record {
      position = position;
      groups = subst (FitsGroups s.join) (sym are) (fitted.0, own);
      pending = pending;
      needs = kept;
      notes = notes ∙ ap (λ as_now. noted held.notes (key_notes p as_now)) applying_are;
      listed = λ k. ap (pairs_of k) later ∙ listed k ∙ ap (λ as_now. listed_after table as_now k (pairs_of k old.groups)) applying_are ∙ ap (λ gs. listed_after table (applied_by s reported held) k (pairs_of k gs)) (sym before);
      ascending = ascending;
      made = λ k applied_to. made k (subst (λ as_now. IsApplied as_now k) (sym applying_are) applied_to) ∙ ap (λ o. answer_of o (pairs_of k new.groups)) own ∙ ap (λ gs. answer_of (value_operator s.join) (pairs_of k gs)) (sym later);
      others = λ k away. others k (λ applied_to. away (subst (λ as_now. IsApplied as_now k) applying_are applied_to));
    }

-- where nothing is touched, all that is pending was
adds_none : (touched : List Touch) (pending : List (List (Option Text))) → touched ≡ [] → AddsTouched touched pending pending
adds_none touched pending none s =
    (λ h. inl h, λ h. ⊎_elim (λ (there : Contains pending s). there) (λ (of_touch : Contains (map (λ t. t.slots) touched) s). absurd (has_from_contains [] s (subst (λ ts. Contains (map (λ (t : Touch). t.slots) ts) s) none of_touch))) h)

-- then it is advanced
pub groups_advanced : (s : Subject) (p : ℕ) (reported : List Text) (table : Table) (held after : Holding) → KeepsRules s.join → is_aggregate (value_operator s.join) ≡ true → FitsJoin s.join held
    → GroupsStep s p reported table held after → IsAdvancedTo s p reported held after
groups_advanced s p reported table held after rules aggregates fits step =
    let none : touched_by s reported held ≡ [] = untouched s.join reported held.rows.needs (aggregate_unchecked s.join rules aggregates) in
    let same_applied : applied_by s reported held ≡ applied_by s reported after = λ i. applications s.join s.range ((sym step.pending i).noted) reported (sym step.needs i) in
    let notes : after.notes ≡ noted held.notes (touch_notes p (touched_by s reported held) ++ key_notes p (applied_by s reported after)) =
    step.notes ∙ ap (λ ts. noted held.notes (touch_notes p ts ++ key_notes p (applied_by s reported held))) (sym none) ∙ ap (λ as_now. noted held.notes (touch_notes p (touched_by s reported held) ++ key_notes p as_now)) same_applied in
    let still : after.pending.noted ≡ held.pending.noted = λ i. (step.pending i).noted in
    record {
      fits = fits_noted s p reported held.rows.needs (applied_by s reported after) held after fits (λ i. (step.pending i).output) step.groups notes;
      position = step.position;
      pending = subst (AddsTouched (touched_by s reported held) held.pending.noted) (λ i. (sym step.pending i).noted) (adds_none (touched_by s reported held) held.pending.noted none);
      once = subst (λ (ts : List Touch). NotesEach (slots_touched ts) held.pending.noted after.pending.noted) (sym none) still;
      needs = step.needs ∙ sym (all_left held.rows.needs) ∙ ap (λ ts. filter (is_left ts) held.rows.needs) (sym none);
      notes = notes;
    }

-- and right at the later position
pub groups_sound : (s : Subject) (h : History) (p : ℕ) (reported : List Text) (held after : Holding) → CanStand (range_kept s held) h p → held.position ≤ p → is_aggregate (value_operator s.join) ≡ true
    → IsSoundAt (range_kept s held) h held.position → AreReportedBetween h held.position p s.rank held.rows.needs reported → GroupsStep s p reported (below (take p h) s.rank) held after → IsSoundAt (range_kept s after) h p
groups_sound s h p reported held after can le aggregates sound between step =
    let added = key_notes p (applied_by s reported held) in
    let relisted : IsRelisted s.join s.range reported (below (take p h) s.rank) (kept_of held) (kept_of after) (λ k. pairs_of k (groups_of held.groups)) (λ k. pairs_of k (groups_of after.groups)) =
    record { needs = step.needs; pending = λ i. (step.pending i).noted; listed = step.listed; ascending = step.ascending; made = step.made; others = step.others } in
    said_of s h p after (noted held.notes added) step.position step.notes
    (relisted_is_sound (range_kept s held) (kept_of after) (groups_of after.groups) reported added h held.position p can le aggregates sound between relisted (advance_notes p [] (applied_by s reported held)))
