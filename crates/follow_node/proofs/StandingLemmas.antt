-- How a feeder stands after a pull.
use Rattle.std.proofs.Common.{◌≡◌, ℕ, ◌+◌, inl, inr, zero, suc, List, [], ◌∷◌, ◌++◌, length, take, drop, Bool, true, false, cond, refl, sym, ap, ◌∙◌, subst, append-nil, append_assoc}
use Rattle.std.specs.Prelude.{Option, Some, None, Ok, Err, nat_le, ◌==◌, ◌&&◌, ◌||◌}
use Rattle.std.proofs.Math.Dec.{eqb}
use Rattle.std.proofs.lemmas.Bool.{and_parts, eqb-true, eq-eqb}
use Rattle.std.proofs.lemmas.List.{take-append-drop}
use Rattle.std.proofs.Math.Seq.{take-add}
use Rattle.pq_io.specs.Streams.{Gave}
use Rattle.semantics.specs.Histories.{Write}
use Rattle.protocol.specs.Lines.{Bytes, whole_lines}
use Rattle.protocol.specs.Batches.{Batch}
use Rattle.follow_node.specs.FedLines.{FedLine, of_entries, of_memory, of_gone, of_ahead, of_none, fed_line}
use Rattle.follow_node.specs.Fed.{writes_of, fed_by, fed_onto, fed_of}
use Rattle.follow_node.specs.Replicas.{TakesSome}
use Rattle.follow_node.specs.Heard.{IsShort, Hears}
use Rattle.follow_node.specs.Feeders.{FeederView}
use Rattle.follow_node.specs.Pulls.{takes, at_memory, is_bad, is_next, at_least, heed, heed_line, TakesRest, TakesLine, Readies, kept_line, read_line, Pulls, over, unasked, unheard, level, stops, goes_on}
use Rattle.follow_node.specs.Standing.{FeedsTo, Begins, TookSome, HasLine, Stands, between, keeping, at_an_end, IsPulled}
use Rattle.follow_node.specs.declared.replica.Taken.{Taken}
use Rattle.follow_node.specs.declared.replica.Taken.TheVariants as taken
use Rattle.follow_node.specs.declared.pulled.Pulled.{Pulled}
use Rattle.follow_node.specs.declared.pulled.Pulled.TheVariants.{Level, HomeMemory, Gone, Ahead, Bad, Ended, Over, ReadFault, WriteFault, OutOfMemory}
use Rattle.follow_node.proofs.ProgressLemmas.{heeds_takes, done_all}
use Rattle.follow_node.proofs.FedLemmas.{fed_by_begins, fed_onto_begins, feeds_line, feeds_now}

-- ---- lines of entries

-- the first n were taken
pub some_taken : (ws rest : List Write) (result : Taken) (n : ℕ) (ws' : List Write) → TakesSome ws rest result n ws' → ws' ≡ ws ++ take n rest
some_taken ws [] result n ws' took = took.2 ∙ sym (append-nil ws) ∙ ap (λ m. ws ++ take m []) (sym took.1)
some_taken ws (w ∷ rest) result zero ws' took = took.0 ∙ sym (append-nil ws)
some_taken ws (w ∷ rest) result (suc n) ws' took = some_taken (ws ++ w ∷ []) rest result n ws' took.1 ∙ append_assoc ws (w ∷ []) (take n rest)

-- entries that are taken begin where was asked for
pub begins_asked : (first : Option ℕ) (asked : ℕ) (line : FedLine) (b : Batch) → heed first asked line ≡ takes b → b.from ≡ asked
begins_asked first asked line b e =
    let next = (heeds_takes first asked line b e).1 in
    let parts = and_parts (eqb b.from asked) (at_least first b.position && (nat_le (b.from + length b.entries) b.position && (nat_le 1 (length b.entries) || nat_le b.position b.from))) next in
    eqb-true b.from asked parts.0

-- the writes of a line after those that were taken
pub batch_then : (before ws : List Write) (f : FeederView) (b : Batch) → fed_line f.line ≡ of_entries b → b.from ≡ length before → TookSome before ws f → ws ≡ before ++ take f.taken (writes_of b.entries)
batch_then before ws f b is from (inl none) = none.1 ∙ sym (append-nil before) ∙ ap (λ n. before ++ take n (writes_of b.entries)) (sym none.0)
batch_then before ws f b is from (inr (b', is', from', some)) =
    let same : b' ≡ b = let e : of_entries b' ≡ of_entries b = sym is' ∙ is in cc in
    some ∙ ap (λ (a : Batch). before ++ take f.taken (writes_of a.entries)) same

-- more of the line's writes were taken
pub took_rest : (bytes : Bytes) (first : Option ℕ) (f f' : FeederView) (ws ws' : List Write) (result : Taken) (n : ℕ) → HasLine bytes ws f → TakesRest first f ws result n ws' →
    f'.line ≡ f.line → f'.asked ≡ f.asked → f'.taken ≡ f.taken + n → HasLine bytes ws' f'
took_rest bytes first f f' ws ws' result n has rest same_line same_asked more =
    let b = rest.batch in
    let is = (heeds_takes first f.asked (fed_line f.line) b rest.heeds).0 in
    let from : b.from ≡ length has.writes = begins_asked first f.asked (fed_line f.line) b rest.heeds ∙ has.asked in
    let so_far = batch_then has.writes ws f b is from has.so_far in
    let took = some_taken ws (drop f.taken (writes_of b.entries)) result n ws' rest.took in
    record {
      before = has.before;
      writes = has.writes;
      feeds = has.feeds;
      split = has.split ∙ ap (λ l. has.before ++ (l ++ 10 ∷ [])) (sym same_line);
      short = subst IsShort (sym same_line) has.short;
      asked = same_asked ∙ has.asked;
      so_far = inr (
        b,
        ap fed_line same_line ∙ is,
        from,
        took ∙ ap (λ l. l ++ take n (drop f.taken (writes_of b.entries))) so_far ∙ append_assoc has.writes (take f.taken (writes_of b.entries)) (take n (drop f.taken (writes_of b.entries)))
            ∙ ap (λ l. has.writes ++ l) (sym (take-add f.taken n (writes_of b.entries))) ∙ ap (λ m. has.writes ++ take m (writes_of b.entries)) (sym more),
      );
    }

-- the same line
pub same_line : (bytes : Bytes) (f f' : FeederView) (ws ws' : List Write) → HasLine bytes ws f → ws' ≡ ws → f'.line ≡ f.line → f'.asked ≡ f.asked → f'.taken ≡ f.taken → HasLine bytes ws' f'
same_line bytes f f' ws ws' has same line asked taken_same = record {
  before = has.before;
  writes = has.writes;
  feeds = has.feeds;
  split = has.split ∙ ap (λ l. has.before ++ (l ++ 10 ∷ [])) (sym line);
  short = subst IsShort (sym line) has.short;
  asked = asked ∙ has.asked;
  so_far = same_so_far has.so_far;
}
  where
    same_so_far : TookSome has.writes ws f → TookSome has.writes ws' f'
    same_so_far (inl none) = inl (taken_same ∙ none.0, same ∙ none.1)
    same_so_far (inr (b, is, from, some)) = inr (b, ap fed_line line ∙ is, from, same ∙ some ∙ ap (λ n. has.writes ++ take n (writes_of b.entries)) (sym taken_same))

-- what the bytes feed with the line
pub line_feeds : (bytes : Bytes) (ws : List Write) (f : FeederView) (has : HasLine bytes ws f) (more : Bytes) → fed_of (bytes ++ more) ≡ fed_by has.writes (fed_line f.line) (λ w. fed_onto w (whole_lines more))
line_feeds bytes ws f has more = ap (λ t. fed_of (t ++ more)) has.split ∙ feeds_line has.before f.line has.writes has.feeds has.short more

here_by : (b : Batch) (before : List Write) (all : List Write) → b.from ≡ length before → cond (b.from == length before) all before ≡ all
here_by b before all e = ap (λ t. cond t all before) (eq-eqb b.from (length before) e)

-- the whole line was taken
pub took_all : (bytes : Bytes) (first : Option ℕ) (f : FeederView) (ws ws' : List Write) (n : ℕ) → HasLine bytes ws f → TakesRest first f ws taken.Done n ws' → FeedsTo bytes ws'
took_all bytes first f ws ws' n has rest more =
    let b = rest.batch in
    let is = (heeds_takes first f.asked (fed_line f.line) b rest.heeds).0 in
    let from : b.from ≡ length has.writes = begins_asked first f.asked (fed_line f.line) b rest.heeds ∙ has.asked in
    let so_far = batch_then has.writes ws f b is from has.so_far in
    let all : ws' ≡ has.writes ++ writes_of b.entries =
    (done_all ws (drop f.taken (writes_of b.entries)) n ws' rest.took).1 ∙ ap (λ l. l ++ drop f.taken (writes_of b.entries)) so_far
    ∙ append_assoc has.writes (take f.taken (writes_of b.entries)) (drop f.taken (writes_of b.entries)) ∙ ap (λ l. has.writes ++ l) (take-append-drop f.taken (writes_of b.entries)) in
    line_feeds bytes ws f has more ∙ ap (λ l. fed_by has.writes l (λ w. fed_onto w (whole_lines more))) is
    ∙ here_by b has.writes (fed_onto (has.writes ++ writes_of b.entries) (whole_lines more)) from ∙ ap (λ w. fed_onto w (whole_lines more)) (sym all)

heeds_memory_by : (b : Batch) (t : Bool) → cond t (takes b) is_bad ≡ at_memory → ⊥
heeds_memory_by b true e = absurd (cc)
heeds_memory_by b false e = absurd (cc)

heeds_memory : (first : Option ℕ) (asked : ℕ) (line : FedLine) → heed first asked line ≡ at_memory → line ≡ of_memory
heeds_memory first asked (of_entries b) e = absurd (heeds_memory_by b (is_next first asked b.from b.position (length b.entries)) e)
heeds_memory first asked of_memory e = refl
heeds_memory first asked (of_gone n) e = absurd (cc)
heeds_memory first asked (of_ahead n) e = absurd (cc)
heeds_memory first asked of_none e = absurd (cc)

memory_then : (before ws : List Write) (f : FeederView) → fed_line f.line ≡ of_memory → TookSome before ws f → ws ≡ before
memory_then before ws f is (inl none) = none.1
memory_then before ws f is (inr (b, is', from, some)) = absurd (let e : of_entries b ≡ of_memory = sym is' ∙ is in cc)

-- a line of `memory` feeds nothing
pub took_memory : (bytes : Bytes) (first : Option ℕ) (f : FeederView) (ws : List Write) → HasLine bytes ws f → heed_line first f ≡ at_memory → FeedsTo bytes ws
took_memory bytes first f ws has e more =
    let is = heeds_memory first f.asked (fed_line f.line) e in
    line_feeds bytes ws f has more ∙ ap (λ l. fed_by has.writes l (λ w. fed_onto w (whole_lines more))) is
    ∙ ap (λ w. fed_onto w (whole_lines more)) (sym (memory_then has.writes ws f is has.so_far))

-- what the bytes feed begins with the writes
pub line_begins : (bytes : Bytes) (ws : List Write) (f : FeederView) → HasLine bytes ws f → Begins ws (fed_of bytes)
line_begins bytes ws f has =
    let all : fed_of bytes ≡ fed_by has.writes (fed_line f.line) (λ w. fed_onto w (whole_lines [])) = ap fed_of (sym (append-nil bytes)) ∙ line_feeds bytes ws f has [] in
    by has.so_far all
  where
    by : TookSome has.writes ws f → fed_of bytes ≡ fed_by has.writes (fed_line f.line) (λ w. fed_onto w (whole_lines [])) → Begins ws (fed_of bytes)
    by (inl none) all =
        let it = fed_by_begins has.writes (fed_line f.line) (λ w. fed_onto w (whole_lines [])) (λ w. fed_onto_begins w (whole_lines [])) in
        (it.0, all ∙ it.1 ∙ ap (λ w. w ++ it.0) (sym none.1))
    by (inr (b, is, from, some)) all =
        let writes = writes_of b.entries in
        let it = fed_onto_begins (has.writes ++ writes) (whole_lines []) in (
          drop f.taken writes ++ it.0,
          all ∙ ap (λ l. fed_by has.writes l (λ w. fed_onto w (whole_lines []))) is ∙ here_by b has.writes (fed_onto (has.writes ++ writes) (whole_lines [])) from ∙ it.1
              ∙ ap (λ l. (has.writes ++ l) ++ it.0) (sym (take-append-drop f.taken writes)) ∙ ap (λ l. l ++ it.0) (sym (append_assoc has.writes (take f.taken writes) (drop f.taken writes)))
              ∙ append_assoc (has.writes ++ take f.taken writes) (drop f.taken writes) it.0 ∙ ap (λ l. l ++ (drop f.taken writes ++ it.0)) (sym some),
        )

-- ---- a pull

-- the line that is taken next is the last of the bytes
ready_line : (left : Option Bytes) (f : FeederView) (ws : List Write) (bytes : Bytes) (g : FeederView) → Readies left f ws bytes g → (before : Bytes) → Stands before ws f → HasLine (before ++ bytes) ws g
ready_line left f ws _ _ (kept_line opened kept) before (between _ none feeds) = absurd (let z : true ≡ false = sym kept ∙ none in cc)
ready_line left f ws _ _ (kept_line opened kept) before (keeping _ _ has) = subst (λ bs. HasLine bs ws f) (sym (append-nil before)) has
ready_line left f ws _ _ (kept_line opened kept) before (at_an_end done _) = absurd (let z : true ≡ false = sym done ∙ opened in cc)
ready_line left f ws _ _ (read_line bytes g opened none hears asked first) before (between _ _ feeds) = record {
  before = before;
  writes = ws;
  feeds = feeds;
  split = ap (λ t. before ++ t) hears.0;
  short = hears.1;
  asked = asked;
  so_far = inl (first, refl);
}
ready_line left f ws _ _ (read_line bytes g opened none hears asked first) before (keeping _ kept has) = absurd (let z : true ≡ false = sym kept ∙ none in cc)
ready_line left f ws _ _ (read_line bytes g opened none hears asked first) before (at_an_end done _) = absurd (let z : true ≡ false = sym done ∙ opened in cc)

-- after a line that was taken
stands_taken : (bytes : Bytes) (first : Option ℕ) (g f' : FeederView) (ws ws' : List Write) (goal : ℕ) → HasLine bytes ws g → TakesLine first g f' ws ws' (Ok goal) → Stands bytes ws' f'
stands_taken bytes first g f' ws ws' goal has took = between took.2 took.1 (took_all bytes first g ws ws' took.0.0 has took.0.1)

begins_same : (bytes : Bytes) (g : FeederView) (ws ws' : List Write) → HasLine bytes ws g → ws' ≡ ws → Begins ws' (fed_of bytes)
begins_same bytes g ws ws' has same = subst (λ w. Begins w (fed_of bytes)) (sym same) (line_begins bytes ws g has)

-- after a line that wasn't
stands_stopped : (bytes : Bytes) (first : Option ℕ) (g f' : FeederView) (ws ws' : List Write) (pulled : Pulled) → HasLine bytes ws g → TakesLine first g f' ws ws' (Err pulled) → Stands bytes ws' f'
stands_stopped bytes first g f' ws ws' Level has took = absurd took
stands_stopped bytes first g f' ws ws' HomeMemory has (is, same, kept, opened) =
    between opened kept (subst (FeedsTo bytes) (sym same) (took_memory bytes first g ws has is))
stands_stopped bytes first g f' ws ws' (Gone n) has (is, same, done) = at_an_end done (begins_same bytes g ws ws' has same)
stands_stopped bytes first g f' ws ws' (Ahead n) has (is, same, done) = at_an_end done (begins_same bytes g ws ws' has same)
stands_stopped bytes first g f' ws ws' Bad has (inl bad, done) = at_an_end done (begins_same bytes g ws ws' has bad.1)
stands_stopped bytes first g f' ws ws' Bad has (inr (n, rest), done) =
    at_an_end done (line_begins bytes ws' (record g { taken = g.taken + n }) (took_rest bytes first g (record g { taken = g.taken + n }) ws ws' taken.Refused n has rest refl refl refl))
stands_stopped bytes first g f' ws ws' Ended has took = absurd took
stands_stopped bytes first g f' ws ws' Over has took = absurd took
stands_stopped bytes first g f' ws ws' ReadFault has took = absurd took
stands_stopped bytes first g f' ws ws' WriteFault has took = absurd took
stands_stopped bytes first g f' ws ws' (OutOfMemory m) has (inl same, line, asked, kept, opened) = keeping opened kept (same_line bytes g f' ws ws' has same.1 line asked same.0)
stands_stopped bytes first g f' ws ws' (OutOfMemory m) has (inr (n, more, rest), line, asked, kept, opened) =
    keeping opened kept (took_rest bytes first g f' ws ws' (taken.OutOfMemory m) n has rest line asked more)

-- where no line was heard
stands_unheard : (f f' : FeederView) (ws : List Write) (bytes before : Bytes) → f.ended ≡ false → f.kept ≡ false → f'.ended ≡ true → Stands before ws f → Stands (before ++ bytes) ws f'
stands_unheard f f' ws bytes before opened none done (between _ _ feeds) =
    let it = fed_onto_begins ws (whole_lines bytes) in at_an_end done (it.0, feeds bytes ∙ it.1)
stands_unheard f f' ws bytes before opened none done (keeping _ kept has) = absurd (let z : true ≡ false = sym kept ∙ none in cc)
stands_unheard f f' ws bytes before opened none done (at_an_end ended _) = absurd (let z : true ≡ false = sym ended ∙ opened in cc)

pub pulls_stand : (left : Option Bytes) (first : Option ℕ) (f f' : FeederView) (ws ws' : List Write) (bytes : Bytes) (pulled : Pulled) → Pulls left first f ws bytes pulled f' ws' →
    (before : Bytes) → Stands before ws f → Stands (before ++ bytes) ws' f'
pulls_stand left _ _ _ _ _ _ _ (over first f ws ended) before stands = subst (λ bs. Stands bs ws f) (sym (append-nil before)) stands
pulls_stand left _ _ _ _ _ _ _ (unasked first f f' ws opened none ended) before stands = stands_unheard f f' ws [] before opened none ended stands
pulls_stand left _ _ _ _ _ _ _ (unheard first f f' ws bytes line pulled opened none hears ended) before stands = stands_unheard f f' ws bytes before opened none ended stands
pulls_stand left _ _ _ _ _ _ _ (level first f g f' ws ws' bytes goal ready took enough) before stands =
    stands_taken (before ++ bytes) first g f' ws ws' goal (ready_line left f ws bytes g ready before stands) took
pulls_stand left _ _ _ _ _ _ _ (stops first f g f' ws ws' bytes pulled ready took) before stands =
    stands_stopped (before ++ bytes) first g f' ws ws' pulled (ready_line left f ws bytes g ready before stands) took
pulls_stand left _ _ _ _ _ _ _ (goes_on first f g f' f'' ws ws' ws'' bytes more goal pulled ready took short later) before stands =
    subst (λ bs. Stands bs ws'' f'') (append_assoc before bytes more)
    (pulls_stand left (Some goal) f' f'' ws' ws'' more pulled later (before ++ bytes) (stands_taken (before ++ bytes) first g f' ws ws' goal (ready_line left f ws bytes g ready before stands) took))

pub stands_begins : (bytes : Bytes) (ws : List Write) (f : FeederView) → Stands bytes ws f → Begins ws (fed_of bytes)
stands_begins bytes ws f (between _ _ feeds) = ([], feeds_now bytes ws feeds ∙ sym (append-nil ws))
stands_begins bytes ws f (keeping _ _ has) = line_begins bytes ws f has
stands_begins bytes ws f (at_an_end _ begins) = begins

-- after `Level` no line is kept
pub level_rests : (left : Option Bytes) (first : Option ℕ) (f f' : FeederView) (ws ws' : List Write) (bytes : Bytes) (pulled : Pulled) → Pulls left first f ws bytes pulled f' ws' → pulled ≡ Level →
    (f'.kept ≡ false) × (f'.ended ≡ false)
level_rests left _ _ _ _ _ _ _ (over first f ws ended) is = absurd (cc)
level_rests left _ _ _ _ _ _ _ (unasked first f f' ws opened none ended) is = absurd (cc)
level_rests left _ _ _ _ _ _ _ (unheard first f f' ws bytes line pulled opened none hears ended) is = absurd (subst (λ p. Hears left bytes line (Err p)) is hears)
level_rests left _ _ _ _ _ _ _ (level first f g f' ws ws' bytes goal ready took enough) is = (took.1, took.2)
level_rests left _ _ _ _ _ _ _ (stops first f g f' ws ws' bytes pulled ready took) is = absurd (subst (λ p. TakesLine first g f' ws ws' (Err p)) is took)
level_rests left _ _ _ _ _ _ _ (goes_on first f g f' f'' ws ws' ws'' bytes more goal pulled ready took short later) is = level_rests left (Some goal) f' f'' ws' ws'' more pulled later is

rests_feeds : (bytes : Bytes) (ws : List Write) (f : FeederView) → f.kept ≡ false → f.ended ≡ false → Stands bytes ws f → fed_of bytes ≡ ws
rests_feeds bytes ws f none opened (between _ _ feeds) = feeds_now bytes ws feeds
rests_feeds bytes ws f none opened (keeping _ kept has) = absurd (let z : true ≡ false = sym kept ∙ none in cc)
rests_feeds bytes ws f none opened (at_an_end done _) = absurd (let z : true ≡ false = sym done ∙ opened in cc)

-- what a pull comes to
pub is_pulled : (left : Option Bytes) (f f' : FeederView) (ws ws' : List Write) (bytes : Bytes) (pulled : Pulled) → Pulls left None f ws bytes pulled f' ws' → IsPulled left f ws bytes pulled f' ws'
is_pulled left f f' ws ws' bytes pulled run = record {
  run = run;
  stands = λ before stands. pulls_stand left None f f' ws ws' bytes pulled run before stands;
  begun = λ before stands. stands_begins (before ++ bytes) ws' f' (pulls_stand left None f f' ws ws' bytes pulled run before stands);
  level = λ is before stands.
      let rests = level_rests left None f f' ws ws' bytes pulled run is in
      rests_feeds (before ++ bytes) ws' f' rests.0 rests.1 (pulls_stand left None f f' ws ws' bytes pulled run before stands);
}

pub as_pulled : (left left' : Option Bytes) (f f' : FeederView) (ws ws' : List Write) (pulled : Pulled) → ((bytes : Bytes) × Gave left left' bytes × Pulls left' None f ws bytes pulled f' ws') →
    (bytes : Bytes) × Gave left left' bytes × IsPulled left' f ws bytes pulled f' ws'
as_pulled left left' f f' ws ws' pulled it = (it.0, it.1, is_pulled left' f f' ws ws' it.0 pulled it.2)
