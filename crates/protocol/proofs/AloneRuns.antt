-- What is written to one client alone is the transcript of its bytes at each end, and after a write fault a beginning of one.
use Rattle.std.proofs.Common.{◌≡◌, ℕ, ◌+◌, ◌-◌, ◌<◌, ◌≤◌, ◌==◌, ◌||◌, ◌⊎◌, inl, inr, List, [], ◌∷◌, ◌++◌, length, get_or, take, drop, map, Bool, true, false, Option, Some, None, refl, sym, ap, ap₂, ◌∙◌, subst, arith, append_assoc, append-nil, length-append}
use Rattle.std.specs.Prelude.{slice_get, if◌then◌else◌, nat_lt}
use Rattle.std.specs.List.{list_any}
use Rattle.std.specs.Option.{option_map_or}
use Rattle.std.proofs.Math.Numerals.{one-add}
use Rattle.std.proofs.lemmas.Bool.{or_parts, or_right, ne_eqb, eq-eqb, false≢true, cases_lt}
use Rattle.std.proofs.Math.Bool.{or-false}
use Rattle.std.proofs.lemmas.List.{take-append-le, take-append-drop, get_or_append_left, length-map}
use Rattle.std.proofs.lemmas.List.Folds.{list_any-append}
use Rattle.std.proofs.lemmas.Option.{slice_get_past}
use Rattle.std.proofs.Math.Seq.{get_or-append_seam}
use Rattle.semantics.specs.Texts.{Text}
use Rattle.semantics.specs.Patterns.{pieces}
use Rattle.semantics.specs.Histories.{History}
use Rattle.protocol.specs.Lines.{line_limit, Cut, long_mark, onto_lines, last_line, cut_pieces, lines_of, whole_lines}
use Rattle.protocol.specs.Replies.{Reply, long, bye, reply_text}
use Rattle.protocol.specs.Transcript.{Outcome, outcome_of, reply_texts, long_text, transcript_of_cut, transcript_by, is_memory_line, memory_lines}
use Rattle.protocol.specs.Session.{Serves, BeginLines, is_bye, NoBye, NothingLeft, Ending, closed, quit_line, long_line, read_fault, write_fault, spent, no_memory, Link, AllServed, ServedTo, CutsText, Served}
use Rattle.protocol.specs.Run.{IsTranscript, BeginsText, memory_lines_and_next, BeginsTranscript, QuitsBefore, is_drained, Ran}
use Rattle.protocol.specs.AloneLaws.{AloneIsTranscript}
use Rattle.protocol.specs.Own.{AreOwn}
use Rattle.protocol.proofs.OneLine.{has_feed}
use Rattle.protocol.proofs.Cuts.{pieces-whole}
use Rattle.protocol.proofs.ReplyTexts.{reply_front, reply_text-front, has_feed-reply_front}
use Rattle.protocol.proofs.WrittenLines.{is_memory, whole_lines-reply_texts, memory_lines-reply_texts}
use Rattle.protocol.proofs.RunSteps.{reply_texts-push, SkipsByReplies, HasRun, HasRun-over, run_text, transcript_of_run, run_begins_transcript}
use Rattle.protocol.proofs.Alone.{every_form, ByeLast, alone_outcome}

-- ---- the run of a client alone

-- a reply that is not `bye`, before replies of which only the last may be
bye_last-cons : (reply : Reply) (replies : List Reply) → is_bye reply ≡ false → ByeLast replies → ByeLast (reply ∷ replies)
bye_last-cons reply [] lacks last = tt
bye_last-cons reply (other ∷ replies) lacks last = (lacks, last)

-- without `bye` there is none before the last
bye_last-none : (replies : List Reply) → NoBye replies → ByeLast replies
bye_last-none [] lacks = tt
bye_last-none (reply ∷ replies) lacks = let parts = or_parts (is_bye reply) _ lacks in bye_last-cons reply replies parts.0 (bye_last-none replies parts.1)

-- nor where one reply more stands at the end
bye_last-push : (replies : List Reply) (last : Reply) → NoBye replies → ByeLast (replies ++ last ∷ [])
bye_last-push [] last lacks = tt
bye_last-push (reply ∷ replies) last lacks = let parts = or_parts (is_bye reply) _ lacks in bye_last-cons reply (replies ++ last ∷ []) parts.0 (bye_last-push replies last parts.1)

-- what is served to one client from the empty history on is a run over its lines
pub HasRun-alone : (after : History) (lines : List Text) (replies : List Reply) → Serves [] after 0 lines replies → AreOwn after → ByeLast replies →
    HasRun every_form lines replies after (list_any is_bye replies)
unfolding outcome_of
HasRun-alone after lines replies serves own last starved by = alone_outcome after lines replies starved 1 [] after (record {
  whole = refl;
  own = own;
  each = serves.each;
  answers = serves.told.answers;
  ordered = serves.told.ordered;
  positions = serves.told.own;
  skips = by;
  last = last;
})

-- ---- the end of the bytes

-- the last piece, where it is known whether it is too long
either_end : (too_long : Bool) (rest : Text) → (more : List Text) ×
    ((if too_long then long_mark else last_line true rest).lines ≡ (if too_long then long_mark else last_line false rest).lines ++ more)
either_end true rest = ([], refl)
either_end false rest = ((last_line true rest).lines, refl)

-- a piece before others, where it is known whether it is too long
either_more : (too_long : Bool) (t : Text) (whole first : Cut) → (more : List Text) × (whole.lines ≡ first.lines ++ more) →
    (more : List Text) × ((if too_long then long_mark else onto_lines t whole).lines ≡ (if too_long then long_mark else onto_lines t first).lines ++ more)
either_more true t whole first found = ([], refl)
either_more false t whole first found = (found.0, ap (λ ls. t ∷ ls) found.1)

-- the same of pieces
cut_more : (ps : List Text) → (more : List Text) × ((cut_pieces true ps).lines ≡ (cut_pieces false ps).lines ++ more)
cut_more [] = ([], refl)
cut_more (rest ∷ []) = either_end (nat_lt line_limit (length rest)) rest
cut_more (t ∷ u ∷ ts) = either_more (nat_lt line_limit (length t)) t (cut_pieces true (u ∷ ts)) (cut_pieces false (u ∷ ts)) (cut_more (u ∷ ts))

-- where the bytes have ended there may be one line more
pub lines_of-ended : (bytes : Text) (ended : Bool) → (more : List Text) × ((lines_of bytes true).lines ≡ (lines_of bytes ended).lines ++ more)
unfolding lines_of
lines_of-ended bytes true = ([], sym (append-nil _))
lines_of-ended bytes false = cut_more (pieces 10 bytes)

-- a last piece that is too long
either_long : (too_long : Bool) (rest : Text) → (if too_long then long_mark else last_line false rest).long ≡ true →
    (if too_long then long_mark else last_line true rest) ≡ (if too_long then long_mark else last_line false rest)
either_long true rest h = refl
either_long false rest h = absurd (false≢true h)

-- a piece before others, of which one is too long
either_same : (too_long : Bool) (t : Text) (whole first : Cut) → (first.long ≡ true → whole ≡ first) → (if too_long then long_mark else onto_lines t first).long ≡ true →
    (if too_long then long_mark else onto_lines t whole) ≡ (if too_long then long_mark else onto_lines t first)
either_same true t whole first same h = refl
either_same false t whole first same h = ap (onto_lines t) (same h)

-- the same of pieces
cut_long : (ps : List Text) → (cut_pieces false ps).long ≡ true → cut_pieces true ps ≡ cut_pieces false ps
cut_long [] h = refl
cut_long (rest ∷ []) h = either_long (nat_lt line_limit (length rest)) rest h
cut_long (t ∷ u ∷ ts) h = either_same (nat_lt line_limit (length t)) t (cut_pieces true (u ∷ ts)) (cut_pieces false (u ∷ ts)) (cut_long (u ∷ ts)) h

-- where a line is too long the end of the bytes changes nothing
pub lines_of-long : (bytes : Text) (ended : Bool) → (lines_of bytes false).long ≡ true → lines_of bytes ended ≡ lines_of bytes false
unfolding lines_of
lines_of-long bytes true h = cut_long (pieces 10 bytes) h
lines_of-long bytes false h = refl

-- ---- transcripts

-- what a run over all lines has written, with the mark of a line that is too long, is the transcript
is_transcript : (bytes written : Text) (ended : Bool) (replies : List Reply) (after : History) (over : Bool) → HasRun every_form (lines_of bytes ended).lines replies after over →
    written ≡ run_text (lines_of bytes ended).long replies after over → IsTranscript bytes ended written
is_transcript bytes written ended replies after over run is =
    is ∙ sym (transcript_of_run every_form bytes ended replies after over run) ∙ ap (λ w. transcript_by every_form bytes ended (memory_lines w)) (sym is)

-- no mark, where no line is too long
no_mark : (marked : Bool) (replies : List Reply) (after : History) (over : Bool) → marked ≡ false → reply_texts replies ≡ run_text marked replies after over
no_mark true replies after over h = absurd (false≢true (sym h))
no_mark false replies after over h = sym (append-nil (reply_texts replies))

-- nor where the session is over
no_mark_over : (marked : Bool) (replies : List Reply) (after : History) → reply_texts replies ≡ run_text marked replies after true
no_mark_over true replies after = sym (append-nil (reply_texts replies))
no_mark_over false replies after = sym (append-nil (reply_texts replies))

-- the mark, where a line is too long and the session is not over
long_mark_last : (marked over : Bool) (replies : List Reply) (after : History) → marked ≡ true → over ≡ false → reply_texts (replies ++ long ∷ []) ≡ run_text marked replies after over
long_mark_last true false replies after h k = reply_texts-push replies long
long_mark_last true true replies after h k = absurd (false≢true (sym k))
long_mark_last false over replies after h k = absurd (false≢true h)

-- the last reply ends the session where it is `bye`
over_by_bye : (replies : List Reply) → list_any is_bye (replies ++ bye ∷ []) ≡ true
over_by_bye replies = list_any-append is_bye replies (bye ∷ []) ∙ or_right (list_any is_bye replies) true refl

-- ---- a text that was cut

-- a beginning of a text that is not the whole has no byte 10
cut_feedless : (front : Text) (n : ℕ) → has_feed front ≡ false → n < length (front ++ 10 ∷ []) → has_feed (take n (front ++ 10 ∷ [])) ≡ false
cut_feedless front n none below =
    let short : n ≤ length front = omega (arith, length-append front (10 ∷ [])) in
    let parts = or_parts (has_feed (take n front)) (has_feed (drop n front)) (sym (list_any-append (λ b. b == 10) (take n front) (drop n front)) ∙ ap has_feed (take-append-drop n front) ∙ none) in
    ap has_feed (take-append-le n front (10 ∷ []) short) ∙ parts.0

-- the same of a reply's text
cut_reply_feedless : (last : Reply) (n : ℕ) → n < length (reply_text last) → has_feed (take n (reply_text last)) ≡ false
cut_reply_feedless last n below =
    ap (λ t. has_feed (take n t)) (reply_text-front last)
    ∙ cut_feedless (reply_front last) n (has_feed-reply_front last) (subst (λ t. n < length t) (reply_text-front last) below)

-- no whole line stands in a text without the byte 10
no_whole_line : (t : Text) → has_feed t ≡ false → whole_lines t ≡ []
no_whole_line t none = ap (λ all. take (length all - 1) all) (pieces-whole 10 t none)

-- the whole lines before a text that was cut
lines_before_cut : (replies : List Reply) (t : Text) → has_feed t ≡ false → whole_lines (reply_texts replies ++ t) ≡ map reply_front replies
lines_before_cut replies t none = whole_lines-reply_texts replies t ∙ ap (λ ls. map reply_front replies ++ ls) (no_whole_line t none) ∙ append-nil (map reply_front replies)

-- no whole line has the number of the text that was cut
cut_no_memory : (replies : List Reply) (t : Text) → has_feed t ≡ false → memory_lines (reply_texts replies ++ t) (1 + length replies) ≡ false
unfolding memory_lines
cut_no_memory replies t none =
    let past : length (map reply_front replies) ≤ length replies = omega (arith, length-map replies reply_front) in
    ap (memory_lines (reply_texts replies ++ t)) (one-add (length replies))
    ∙ ap (λ lines. option_map_or is_memory_line (slice_get lines (length replies)) false) (lines_before_cut replies t none)
    ∙ ap (λ line. option_map_or is_memory_line line false) (slice_get_past (map reply_front replies) (length replies) past)

-- what skips by replies and by one more skips by all of them
skips_push : (starved : ℕ → Bool) (replies : List Reply) (last : Reply) → SkipsByReplies starved replies → starved (1 + length replies) ≡ is_memory last →
    SkipsByReplies starved (replies ++ last ∷ [])
skips_push starved replies last before at i below = go (cases_lt i (length replies))
  where
    go : (i < length replies) ⊎ (length replies ≤ i) → starved (1 + i) ≡ is_memory (get_or (replies ++ last ∷ []) i bye)
    go (inl lower) = before i lower ∙ ap is_memory (sym (get_or_append_left replies (last ∷ []) bye i lower))
    go (inr upper) =
        let here : i ≡ length replies = omega (arith, length-append replies (last ∷ [])) in
        ap (λ k. starved (1 + k)) here ∙ at ∙ ap is_memory (sym (get_or-append_seam replies last [] bye)) ∙ ap (λ k. is_memory (get_or (replies ++ last ∷ []) k bye)) (sym here)

-- where the text that was cut is not that of `memory`
skips_cut : (replies : List Reply) (last : Reply) (t : Text) → has_feed t ≡ false → is_memory last ≡ false → SkipsByReplies (memory_lines (reply_texts replies ++ t)) (replies ++ last ∷ [])
skips_cut replies last t none other =
    skips_push (memory_lines (reply_texts replies ++ t)) replies last (memory_lines-reply_texts replies t) (cut_no_memory replies t none ∙ sym other)

-- where it is
skips_cut_memory : (replies : List Reply) (last : Reply) (t : Text) → has_feed t ≡ false → is_memory last ≡ true →
    SkipsByReplies (memory_lines_and_next (reply_texts replies ++ t)) (replies ++ last ∷ [])
skips_cut_memory replies last t none same =
    let written : Text = reply_texts replies ++ t in
    let many : length (whole_lines written) ≡ length replies = ap length (lines_before_cut replies t none) ∙ length-map replies reply_front in
    skips_push (memory_lines_and_next written) replies last
    (λ i below.
    let earlier : (1 + i ≡ length (whole_lines written) + 1) → ⊥ = λ e. omega arith in
    ap (λ b. memory_lines written (1 + i) || b) (ne_eqb (1 + i) (length (whole_lines written) + 1) earlier) ∙ or-false (memory_lines written (1 + i)) ∙ memory_lines-reply_texts replies t i below)
    (let next : 1 + length replies ≡ length (whole_lines written) + 1 = omega arith in
    or_right (memory_lines written (1 + length replies)) _ (eq-eqb (1 + length replies) (length (whole_lines written) + 1) next) ∙ sym same)

-- the written text begins with what begins with the whole of the text that was cut
begins_cut : (replies : List Reply) (last : Reply) (n : ℕ) (rest whole : Text) → whole ≡ reply_texts (replies ++ last ∷ []) ++ rest →
    BeginsText (reply_texts replies ++ take n (reply_text last)) whole
begins_cut replies last n rest whole is =
    let text : Text = reply_text last in (
      drop n text ++ rest,
      is ∙ ap (λ t. t ++ rest) (reply_texts-push replies last ∙ ap (λ t. reply_texts replies ++ t) (sym (take-append-drop n text)) ∙ sym (append_assoc (reply_texts replies) (take n text) (drop n text)))
          ∙ append_assoc (reply_texts replies ++ take n text) (drop n text) rest,
    )

-- where it is told what is left and nothing is, the source is drained
drained_by : (left : Option Text) → NothingLeft left → is_drained left ≡ true
drained_by None nothing = refl
drained_by (Some bytes) nothing = ap (λ b. is_drained (Some b)) nothing

module _ (bytes written : Text) (left : Option Text) (after : History) (own : AreOwn after) where
  -- the link of one client alone
  abbrev alone : Link
  alone = record { before = []; after = after; client = 0; bytes = bytes; written = written; left = left }

  -- all lines were served, and no line is too long
  all_served : (ended : Bool) (replies : List Reply) → AllServed alone ended replies → (lines_of bytes ended).long ≡ false → written ≡ reply_texts replies → IsTranscript bytes ended written
  all_served ended replies served short is =
      is_transcript bytes written ended replies after _ (HasRun-alone after (lines_of bytes ended).lines replies served.serves own (bye_last-none replies served.no_bye))
      (is ∙ no_mark (lines_of bytes ended).long replies after _ short)

  -- all lines before one that is too long were served
  long_served : (replies : List Reply) → AllServed alone false replies → (lines_of bytes false).long ≡ true → written ≡ reply_texts (replies ++ long ∷ []) → IsTranscript bytes false written
  long_served replies served too_long is =
      is_transcript bytes written false replies after _ (HasRun-alone after (lines_of bytes false).lines replies served.serves own (bye_last-none replies served.no_bye))
      (is ∙ long_mark_last (lines_of bytes false).long _ replies after too_long served.no_bye)

  -- the run up to `quit`
  quit_run : (replies : List Reply) (served : ServedTo alone replies bye) → HasRun every_form served.lines (replies ++ bye ∷ []) after true
  quit_run replies served =
      subst (HasRun every_form served.lines (replies ++ bye ∷ []) after) (over_by_bye replies)
      (HasRun-alone after served.lines (replies ++ bye ∷ []) served.serves own (bye_last-push replies bye served.no_bye))

  -- the lines that begin the bytes begin them also where they have ended
  begin_ended : (ended : Bool) (lines : List Text) → BeginLines bytes ended lines → BeginLines bytes true lines
  begin_ended ended lines found =
      let more = lines_of-ended bytes ended in (found.0 ++ more.0, more.1 ∙ ap (λ ls. ls ++ more.0) found.1 ∙ append_assoc lines found.0 more.0)

  -- the lines up to `quit` were served
  quit_served : (replies : List Reply) (served : ServedTo alone replies bye) → written ≡ reply_texts (replies ++ bye ∷ []) → IsTranscript bytes true written
  quit_served replies served is =
      let more = begin_ended served.ended served.lines served.begin in
      is_transcript bytes written true (replies ++ bye ∷ []) after true
      (subst (λ ls. HasRun every_form ls (replies ++ bye ∷ []) after true) (sym more.1) (HasRun-over every_form served.lines (replies ++ bye ∷ []) after more.0 (quit_run replies served)))
      (is ∙ no_mark_over (lines_of bytes true).long (replies ++ bye ∷ []) after)

  -- what is left, or that the lines that have ended came to `quit`
  quit_by : (replies : List Reply) (served : ServedTo alone replies bye) (ended : Bool) → served.ended ≡ ended → written ≡ reply_texts (replies ++ bye ∷ []) →
      NothingLeft left ⊎ QuitsBefore bytes (memory_lines written)
  quit_by replies served true same is = inl (served.at_end same)
  quit_by replies served false same is =
      let found = subst (λ ended. BeginLines bytes ended served.lines) same served.begin in
      let whole : written ≡ reply_texts (replies ++ bye ∷ []) ++ [] = is ∙ sym (append-nil (reply_texts (replies ++ bye ∷ []))) in
      inr (ap (λ ls. (outcome_of every_form (memory_lines written) ls).over) found.1
      ∙ ap (λ (outcome : Outcome). outcome.over) (HasRun-over every_form served.lines (replies ++ bye ∷ []) after found.0 (quit_run replies served) (memory_lines written)
      (λ i below. ap (λ w. memory_lines w (1 + i)) whole ∙ memory_lines-reply_texts (replies ++ bye ∷ []) [] i below)))

  -- the lines of the bytes, as far as the source is drained
  begin_drained : (drained ended : Bool) (lines : List Text) → (ended ≡ true → drained ≡ true) → BeginLines bytes ended lines → BeginLines bytes drained lines
  begin_drained true ended lines at_end found = begin_ended ended lines found
  begin_drained false true lines at_end found = absurd (false≢true (at_end refl))
  begin_drained false false lines at_end found = found

  -- of the last text a part was written, where it is known whether it is that of `memory`
  cut_by : (replies : List Reply) (last : Reply) (n : ℕ) (lines : List Text) → BeginLines bytes (is_drained left) lines →
      HasRun every_form lines (replies ++ last ∷ []) after (list_any is_bye (replies ++ last ∷ [])) → written ≡ reply_texts replies ++ take n (reply_text last) →
      has_feed (take n (reply_text last)) ≡ false → (same : Bool) → is_memory last ≡ same → BeginsTranscript bytes (is_drained left) written
  cut_by replies last n lines begin run is none false other =
      let text : Text = reply_texts replies ++ take n (reply_text last) in
      let found = run_begins_transcript every_form bytes (is_drained left) (memory_lines text) lines begin.0 (replies ++ last ∷ []) after _ begin.1 run (skips_cut replies last (take n (reply_text last)) none other) in
      inl (subst (λ w. BeginsText w (transcript_by every_form bytes (is_drained left) (memory_lines w))) (sym is) (begins_cut replies last n found.0 _ found.1))
  cut_by replies last n lines begin run is none true same =
      let text : Text = reply_texts replies ++ take n (reply_text last) in
      let found = run_begins_transcript every_form bytes (is_drained left) (memory_lines_and_next text) lines begin.0 (replies ++ last ∷ []) after _ begin.1 run (skips_cut_memory replies last (take n (reply_text last)) none same) in
      inr (subst (λ w. BeginsText w (transcript_by every_form bytes (is_drained left) (memory_lines_and_next w))) (sym is) (begins_cut replies last n found.0 _ found.1))

  -- of the last text a part was written
  cut_served : (replies : List Reply) (last : Reply) → ServedTo alone replies last → CutsText written replies last → BeginsTranscript bytes (is_drained left) written
  cut_served replies last served cut =
      cut_by replies last cut.0 served.lines (begin_drained (is_drained left) served.ended served.lines (λ e. drained_by left (served.at_end e)) served.begin)
      (HasRun-alone after served.lines (replies ++ last ∷ []) served.serves own (bye_last-push replies last served.no_bye)) cut.2 (cut_reply_feedless last cut.0 cut.1) (is_memory last) refl

  -- the transcript of lines before one that is too long
  long_transcript : (ended : Bool) (starved : ℕ → Bool) (replies : List Reply) → AllServed alone false replies → (lines_of bytes false).long ≡ true → SkipsByReplies starved replies →
      transcript_by every_form bytes ended starved ≡ reply_texts (replies ++ long ∷ []) ++ []
  unfolding transcript_by
  long_transcript ended starved replies served too_long by =
      ap (transcript_of_cut every_form starved) (lines_of-long bytes ended too_long)
      ∙ ap (λ (outcome : Outcome). reply_texts outcome.replies ++ long_text (lines_of bytes false).long outcome)
      (HasRun-alone after (lines_of bytes false).lines replies served.serves own (bye_last-none replies served.no_bye) starved by)
      ∙ sym (long_mark_last (lines_of bytes false).long (list_any is_bye replies) replies after too_long served.no_bye) ∙ sym (append-nil (reply_texts (replies ++ long ∷ [])))

  -- of the mark of a line that is too long a part was written
  long_cut_served : (replies : List Reply) → AllServed alone false replies → (lines_of bytes false).long ≡ true → CutsText written replies long → BeginsTranscript bytes (is_drained left) written
  long_cut_served replies served too_long cut =
      let text : Text = reply_texts replies ++ take cut.0 (reply_text long) in
      let whole = long_transcript (is_drained left) (memory_lines text) replies served too_long (memory_lines-reply_texts replies (take cut.0 (reply_text long))) in
      inl (subst (λ w. BeginsText w (transcript_by every_form bytes (is_drained left) (memory_lines w))) (sym cut.2) (begins_cut replies long cut.0 [] _ whole))

  -- each end
  by_ending : (ending : Ending) → Served ending alone → Ran ending (record { bytes = bytes; written = written; left = left })
  by_ending closed s = (all_served true s.0 s.1 s.2 s.3, s.4)
  by_ending quit_line s = (quit_served s.0 s.1 s.2, quit_by s.0 s.1 s.1.ended refl s.2)
  by_ending long_line s = (long_served s.0 s.1 s.2 s.3, s.2, (reply_texts s.0, s.3 ∙ reply_texts-push s.0 long))
  by_ending read_fault s = all_served false s.0 s.1 s.2 s.3
  by_ending write_fault (inl s) = cut_served s.0 s.1 s.2 s.3
  by_ending write_fault (inr s) = long_cut_served s.0 s.1 s.2 s.3
  by_ending spent s = (all_served false s.0 s.1 s.2 s.3, s.4)
  by_ending no_memory s = (s.0, s.1)

-- where a link was served from the empty history, and every entry is the client's own, what was written is the transcript, and after a write fault a beginning of one
pub alone_is_transcript : AloneIsTranscript
alone_is_transcript ending link before client own served =
    let same : link ≡ record { before = []; after = link.after; client = 0; bytes = link.bytes; written = link.written; left = link.left } =
    ap₂ (λ (b : History) (c : ℕ). record { before = b; after = link.after; client = c; bytes = link.bytes; written = link.written; left = link.left }) before client in
    by_ending link.bytes link.written link.left link.after own ending (subst (Served ending) same served)
