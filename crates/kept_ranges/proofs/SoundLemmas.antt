-- Kept ranges over histories: what is right stays right over longer ones, once filled, advanced and mended.
use Rattle.std.proofs.Common.{◌≡◌, ◌↔◌, ℕ, ◌<◌, ◌≤◌, ◌||◌, ◌&&◌, List, [], ◌∷◌, ◌++◌, length, take, map, Contains, Bool, true, false, nat_lt, is_some, Option, Some, None, IfSome, refl, sym, ap, ◌∙◌, subst, inl, inr, ⊎_elim, arith, le_antisymm, length-append}
use Rattle.std.specs.List.{AllByRecursion}
use Rattle.std.proofs.lemmas.Bool.{cases_lt, lt-ltb, false≢true, and_from, or_left, or_right}
use Rattle.std.proofs.lemmas.List.Folds.{list_any-append}
use Rattle.semantics.specs.Texts.{Text, same, Table, value_at, within}
use Rattle.semantics.specs.Patterns.{Pattern, Slots, bind}
use Rattle.semantics.specs.Joins.{copy, is_aggregate, Join, is_join, value_operator}
use Rattle.semantics.specs.Histories.{History, DeclaredJoin, IsPrefix, joins_of}
use Rattle.semantics.specs.Outputs.{out}
use Rattle.semantics.specs.OutputLaws.{IsCopyJoin}
use Rattle.semantics.specs.States.{KeepsRules, below}
use Rattle.semantics.proofs.MemberLemmas.{Has, has_from_contains, contains_from_has, any_from_has, has_from_any}
use Rattle.semantics.proofs.OfRankLemmas.{all_at}
use Rattle.semantics.proofs.PieceLemmas.{same_by_equal}
use Rattle.semantics.proofs.StateLemmas.{ascending-below}
use Rattle.growing_history.specs.Entered.{HasEntered, HasRank}
use Rattle.growing_history.proofs.EnteredLemmas.{has_entered_taken, declares_joins, keeps_rules}
use Rattle.growing_history.proofs.KeyLemmas.{has_keys_below}
use Rattle.growing_history.proofs.PrefixLemmas.{take_prefix}
use Rattle.range_evaluation.specs.Trees.{Need}
use Rattle.agg_rows.specs.Kept.{pairs_of}
use Rattle.kept_ranges.specs.Kept.{is_covered, IsRight}
use Rattle.kept_ranges.specs.Notes.{Mark, key, slots, Note, marks, is_noted, AreInOrder, noted, NotesHold}
use Rattle.kept_ranges.specs.Sound.{KeptRange, IsListed, IsSoundAt}
use Rattle.kept_ranges.specs.FillLaws.{IsSource}
use Rattle.kept_ranges.specs.AdvanceLaws.{AreReported}
use Rattle.kept_ranges.specs.ListingLaws.{IsAggregateJoin}
use Rattle.kept_ranges.specs.SoundLaws.{SoundOverLonger, MakesNotes, AreReportedBetween, CanStand, FilledIsSound, AdvancedIsSound, RelistedIsSound, MendedIsSound}
use Rattle.kept_ranges.proofs.NoteLemmas.{noted_in_order, noted_keeps_later}
use Rattle.kept_ranges.proofs.FillLemmas.{filled_is_right}
use Rattle.kept_ranges.proofs.AdvanceLemmas.{unapplied_is_same, advanced_is_right}
use Rattle.kept_ranges.proofs.MendLemmas.{mended_is_right}
use Rattle.kept_ranges.proofs.ListingStepLemmas.{relisted_are_listed, unlisted_is_same, relisted_is_right}

-- ---- longer histories

pub sound_at_longer : (s : KeptRange) (h more : History) (q : ℕ) → IsPrefix h more → IsSoundAt s h q → IsSoundAt s more q
sound_at_longer s h more q prefix sound =
    let e : take q more ≡ take q h = take_prefix q h more sound.place prefix in
    record {
      place = let l : length more ≡ length (h ++ prefix.0) = ap length prefix.1 in let m = length-append h prefix.0 in let n : q ≤ length h = sound.place in omega arith;
      stands = subst (λ es. HasRank (joins_of es) s.join s.rank) (sym e) sound.stands;
      right = subst (λ es. IsRight s.join s.range (below es s.rank) s.kept) (sym e) sound.right;
      listed = λ a. subst (λ es. IsListed s (below es s.rank)) (sym e) (sound.listed a);
      in_order = sound.in_order;
      noted = λ u x k starts order last inside uncovered quiet.
          let at_x : take x more ≡ take x h = take_prefix x h more (let n : q ≤ length h = sound.place in omega arith) prefix in
          let at_u : take u more ≡ take u h = take_prefix u h more (let n : q ≤ length h = sound.place in omega arith) prefix in
          ap (λ es. value_at k (out s.join (below es s.rank))) at_x
          ∙ sound.noted u x k starts order last inside uncovered quiet
          ∙ ap (λ es. value_at k (out s.join (below es s.rank))) (sym at_u);
    }

pub sound_over_longer : SoundOverLonger
sound_over_longer s h more prefix sound = by_position s.position (λ q. sound_at_longer s h more q prefix) sound
  where
    by_position : {P Q : ℕ → Type 0} (o : Option ℕ) → ((q : ℕ) → P q → Q q) → IfSome o P → IfSome o Q
    by_position None more h = h
    by_position (Some q) more h = more q h

-- ---- tables below a join, and the join

-- what stands below a rank after entries that entered is a table of pairs below a join
pub source_at : (h : History) (p rank : ℕ) → HasEntered h → IsSource (below (take p h) rank)
source_at h p rank entered = record {
  ascending = ascending-below (take p h) rank;
  keys = has_keys_below (take p h) rank (has_entered_taken p h entered);
}

pub join_at : (s : KeptRange) (h : History) (p : ℕ) → CanStand s h p → is_join s.join ≡ true
join_at s h p can =
    subst (λ (j : Join). is_join j ≡ true) can.stands.is
    (all_at (λ (d : DeclaredJoin). is_join d.join ≡ true) (joins_of (take p h)) can.stands.place can.stands.standing (declares_joins (take p h) (has_entered_taken p h can.entered)) can.stands.stands)

pub rules_at : (s : KeptRange) (h : History) (p : ℕ) → CanStand s h p → KeepsRules s.join
rules_at s h p can = keeps_rules (take p h) s.join s.rank (has_entered_taken p h can.entered) can.stands

pub copies_at : (s : KeptRange) (h : History) (p : ℕ) → CanStand s h p → value_operator s.join ≡ copy → IsCopyJoin s.join
copies_at s h p can copies = record { is_join = join_at s h p can; copies = copies; slots = (rules_at s h p can).slots; sources = (rules_at s h p can).sources }

pub aggregates_at : (s : KeptRange) (h : History) (p : ℕ) → CanStand s h p → is_aggregate (value_operator s.join) ≡ true → IsAggregateJoin s.join
aggregates_at s h p can aggregates = record { is_join = join_at s h p can; rules = rules_at s h p can; aggregates = aggregates }

-- ---- filling

pub filled_is_sound : FilledIsSound
filled_is_sound s kept groups h p can filled listed = record {
  place = can.place;
  stands = can.stands;
  right = filled_is_right s.join s.range (below (take p h) s.rank) kept (join_at s h p can) can.is_range (source_at h p s.rank can.entered) filled;
  listed = λ a. record { pending = filled.pending; listed = listed a };
  in_order = omega arith;
  noted = λ u x k starts order last inside uncovered quiet. ap (λ y. value_at k (out s.join (below (take y h) s.rank))) (le_antisymm (omega arith) order);
}

-- ---- what is noted

pub or_false_left : (a b : Bool) → (a || b) ≡ false → a ≡ false
or_false_left true b e = e
or_false_left false b e = refl

pub or_false_right : (a b : Bool) → (a || b) ≡ false → b ≡ false
or_false_right true b e = absurd (false≢true (sym e))
or_false_right false b e = e

-- a mark that was made at a position covers its keys from before that position on
made_notes : (output : Pattern) (k : Text) (u p : ℕ) (added : List Note) (mark : Mark) → AllByRecursion (λ note. note.position ≡ p) added → u < p → Has (map (λ note. note.mark) added) mark → marks output k mark ≡ true
    → is_noted output u added k ≡ true
made_notes output k u p [] mark made less has covers = absurd has
made_notes output k u p (note ∷ added) mark made less (inl e) covers =
    or_left _ _ (and_from _ _ (lt-ltb u note.position (let l : note.position ≡ p = made.0 in omega arith)) (ap (marks output k) e ∙ covers))
made_notes output k u p (note ∷ added) mark made less (inr has) covers = or_right _ _ (made_notes output k u p added mark made.1 less has covers)

-- from the position at which the notes start afterwards on, a key that is not noted afterwards was not noted before, and no new mark covers it
record IsQuiet (s : KeptRange) (p u : ℕ) (is_mark : Mark → Type 0) (added : List Note) (k : Text) : Type 0 where
  begins : s.notes.start ≤ u
  old : is_noted s.join.output u s.notes.list k ≡ false
  unmarked : u < p → (mark : Mark) → is_mark mark → marks s.join.output k mark ≡ true → ⊥

quiet_before : (s : KeptRange) (q p u : ℕ) (added : List Note) (is_mark : Mark → Type 0) (k : Text) → q ≤ p → AreInOrder s.notes.start q s.notes.list → MakesNotes p is_mark added
    → (noted s.notes added).start ≤ u → is_noted s.join.output u (noted s.notes added).list k ≡ false → IsQuiet s p u is_mark added k
quiet_before s q p u added is_mark k le in_order makes starts quiet =
    let begins : s.notes.start ≤ (noted s.notes added).start = (noted_in_order q p s.notes added le in_order makes.made).0 in
    let all : is_noted s.join.output u (s.notes.list ++ added) k ≡ false = sym (noted_keeps_later q p u s.notes added s.join.output k le in_order makes.made starts) ∙ quiet in
    let both = sym (list_any-append (λ note. nat_lt u note.position && marks s.join.output k note.mark) s.notes.list added) ∙ all in
    let new : is_noted s.join.output u added k ≡ false = or_false_right _ _ both in
    record {
      begins = omega (arith, begins, starts);
      old = or_false_left _ _ both;
      unmarked = λ less mark m covers. false≢true (sym new ∙ made_notes s.join.output k u p added mark makes.made less (has_from_contains _ mark ((makes.marks mark).1 m)) covers);
    }

-- how the notes go on to a later position: at keys that are not covered and under no new mark the output is the same in between
notes_go_on : (s : KeptRange) (h : History) (q p : ℕ) (pending : List Slots) (added : List Note) (is_mark : Mark → Type 0) → q ≤ p → IsSoundAt s h q → MakesNotes p is_mark added
    → ((k : Text) → is_covered s.join.output pending k ≡ false → is_covered s.join.output s.kept.pending k ≡ false)
    → ((x : ℕ) (k : Text) → q ≤ x → x ≤ p → within s.range k ≡ true → is_covered s.join.output pending k ≡ false → ((mark : Mark) → is_mark mark → marks s.join.output k mark ≡ true → ⊥)
    → value_at k (out s.join (below (take x h) s.rank)) ≡ value_at k (out s.join (below (take q h) s.rank)))
    → NotesHold s.join s.rank s.range h p pending (noted s.notes added)
notes_go_on s h q p pending added is_mark le sound makes carry same u x k starts order last inside uncovered quiet =
    let calm = quiet_before s q p u added is_mark k le sound.in_order makes starts quiet in
    ⊎_elim
    (λ less.
    ⊎_elim
    (λ late.
    same x k (omega arith) last inside uncovered (calm.unmarked less)
    ∙ ⊎_elim
    (λ after. sym (same u k (omega arith) (omega arith) inside uncovered (calm.unmarked less)))
    (λ before. sound.noted u q k calm.begins before (omega arith) inside (carry k uncovered) calm.old)
    (cases_lt q u))
    (λ early. sound.noted u x k calm.begins order early inside (carry k uncovered) calm.old)
    (cases_lt q x))
    (λ past. ap (λ y. value_at k (out s.join (below (take y h) s.rank))) (le_antisymm (omega arith) order))
    (cases_lt u p)

-- ---- advancing

-- what is reported between two positions is reported for the tables at each
reported_at : (h : History) (q p rank : ℕ) (needs : List Need) (reported : List Text) (x : ℕ) → AreReportedBetween h q p rank needs reported → q ≤ x → x ≤ p → AreReported needs reported (below (take q h) rank) (below (take x h) rank)
reported_at h q p rank [] reported x all order last = tt
reported_at h q p rank (need ∷ needs) reported x all order last = (λ k inside absent. sym (all.0 k inside absent x order last), reported_at h q p rank needs reported x all.1 order last)

-- a key that is covered by none of more slots is covered by none of them
pub covered_by_more : (output : Pattern) (old new : List Slots) (k : Text) → ((other : Slots) → Contains old other → Contains new other) → is_covered output new k ≡ false → is_covered output old k ≡ false
covered_by_more output old new k more uncovered = by_test (is_covered output old k) refl
  where
    covers : Slots → Bool
    covers other = is_some (bind output k other)

    by_test : (b : Bool) → is_covered output old k ≡ b → b ≡ false
    by_test false e = refl
    by_test true e =
        let w = has_from_any covers old e in
        absurd (false≢true (sym uncovered ∙ any_from_has covers new w.0 (has_from_contains new w.0 (more w.0 (contains_from_has old w.0 w.1))) w.2))

pub advanced_is_sound : AdvancedIsSound
advanced_is_sound s kept reported added h q p can le copies sound between advanced makes =
    let join = copies_at s h p can copies in
    let at : (x : ℕ) → IsSource (below (take x h) s.rank) = λ x. source_at h x s.rank can.entered in
    let carry : (k : Text) → is_covered s.join.output kept.pending k ≡ false → is_covered s.join.output s.kept.pending k ≡ false =
    λ k uncovered. covered_by_more s.join.output s.kept.pending kept.pending k (λ other c. (advanced.cut.pending other).1 (inl c)) uncovered in
    record {
      place = can.place;
      stands = can.stands;
      right = advanced_is_right s.join s.range reported (below (take q h) s.rank) (below (take p h) s.rank) s.kept kept join (at q) (at p) sound.right (reported_at h q p s.rank s.kept.needs reported p between le (omega arith)) advanced;
      listed = λ a. absurd (false≢true (ap is_aggregate (sym copies) ∙ a));
      in_order = (noted_in_order q p s.notes added le sound.in_order makes.made).1;
      noted = notes_go_on s h q p kept.pending added _ le sound makes carry (λ x k order last inside uncovered unmarked.
          unapplied_is_same s.join s.range reported (below (take q h) s.rank) (below (take x h) s.rank) s.kept kept k join (at q) (at x) sound.right (reported_at h q p s.rank s.kept.needs reported x between order last) advanced.cut inside uncovered
          (λ applied. unmarked (key k) applied (same_by_equal k k refl)));
    }

pub relisted_is_sound : RelistedIsSound
relisted_is_sound s kept groups reported added h q p can le aggregates sound between relisted makes =
    let join = aggregates_at s h p can aggregates in
    let at : (x : ℕ) → IsSource (below (take x h) s.rank) = λ x. source_at h x s.rank can.entered in
    let was = sound.listed aggregates in
    let told = reported_at h q p s.rank s.kept.needs reported p between le (omega arith) in
    let listing : Text → Table = λ k. pairs_of k s.groups in
    let after : Text → Table = λ k. pairs_of k groups in
    record {
      place = can.place;
      stands = can.stands;
      right = relisted_is_right s.join s.range reported (below (take q h) s.rank) (below (take p h) s.rank) s.kept kept listing after join (at q) (at p) sound.right was.pending was.listed told relisted;
      listed = λ a. record {
        pending = relisted.pending ∙ was.pending;
        listed = relisted_are_listed s.join s.range reported (below (take q h) s.rank) (below (take p h) s.rank) s.kept kept listing after join (at q) (at p) sound.right was.pending was.listed told relisted;
      };
      in_order = (noted_in_order q p s.notes added le sound.in_order makes.made).1;
      noted = notes_go_on s h q p kept.pending added _ le sound makes (λ k uncovered. subst (λ ps. is_covered s.join.output ps k ≡ false) relisted.pending uncovered) (λ x k order last inside uncovered unmarked.
          unlisted_is_same s.join s.range reported (below (take q h) s.rank) (below (take x h) s.rank) s.kept k join (at q) (at x) sound.right was.pending (reported_at h q p s.rank s.kept.needs reported x between order last) inside
          (λ applied. unmarked (key k) applied (same_by_equal k k refl)));
    }

-- ---- mending

-- a key that neither the mended slots nor those that stay cover was covered by none
uncovered_before : (output : Pattern) (mended : Slots) (old new : List Slots) (k : Text) → ((other : Slots) → Contains new other ↔ (Contains old other × (other ≡ mended → ⊥))) → is_covered output new k ≡ false
    → (is_some (bind output k mended) ≡ true → ⊥) → is_covered output old k ≡ false
uncovered_before output mended old new k parts uncovered apart = by_test (is_covered output old k) refl
  where
    covers : Slots → Bool
    covers other = is_some (bind output k other)

    by_test : (b : Bool) → is_covered output old k ≡ b → b ≡ false
    by_test false e = refl
    by_test true e =
        let w = has_from_any covers old e in
        let stays = (parts w.0).1 (contains_from_has old w.0 w.1, λ same. apart (ap covers (sym same) ∙ w.2)) in
        absurd (false≢true (sym uncovered ∙ any_from_has covers new w.0 (has_from_contains new w.0 stays) w.2))

pub mended_is_sound : MendedIsSound
mended_is_sound s kept mended added h q can copies sound there mends makes =
    record {
      place = can.place;
      stands = can.stands;
      right = mended_is_right s.join s.range (below (take q h) s.rank) mended s.kept kept (join_at s h q can) can.is_range (source_at h q s.rank can.entered) there sound.right mends;
      listed = λ a. absurd (false≢true (ap is_aggregate (sym copies) ∙ a));
      in_order = (noted_in_order q q s.notes added (omega arith) sound.in_order makes.made).1;
      noted = λ u x k starts order last inside uncovered quiet.
          let calm = quiet_before s q q u added _ k (omega arith) sound.in_order makes starts quiet in
          ⊎_elim
          (λ less. sound.noted u x k calm.begins order last inside (uncovered_before s.join.output mended s.kept.pending kept.pending k mends.pending uncovered (calm.unmarked less (slots mended) refl)) calm.old)
          (λ past. ap (λ y. value_at k (out s.join (below (take y h) s.rank))) (le_antisymm (omega arith) order))
          (cases_lt u q);
    }
