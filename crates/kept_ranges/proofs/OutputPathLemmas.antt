-- The output of a copy join at a key, from a full path and back.
use Rattle.std.proofs.Common.{◌≡◌, ℕ, ◌+◌, ◌≤◌, List, [], ◌∷◌, ◌++◌, length, get_or, map, filter, take, slice_get, true, Contains, Option, Some, None, is_some, option_map, refl, sym, ap, ◌∙◌, subst, inl, inr, ⊎_elim, arith, length-append}
use Rattle.std.specs.List.{list_all, join_with_byte}
use Rattle.std.proofs.lemmas.Bool.{false≢true, and_parts}
use Rattle.std.proofs.lemmas.Option.{none-some, same_Some, slice_get-get_or}
use Rattle.std.proofs.lemmas.List.{length-take-le}
use Rattle.semantics.specs.Texts.{Text, bar, same, Table, value_at}
use Rattle.semantics.specs.Patterns.{Pattern, Slots, is_pattern, segments, Fits, IsPartOf, bind, fill}
use Rattle.semantics.specs.Joins.{copy, Source, Join, slots_of, occurs}
use Rattle.semantics.specs.Outputs.{Match, no_match, extended, after_fit, matches_from, matches, value_of_last, contribution, contributions, result_of, listed, out}
use Rattle.semantics.specs.OutputLaws.{IsCopyJoin, last_key}
use Rattle.semantics.proofs.PieceLemmas.{same_itself, join-pieces}
use Rattle.semantics.proofs.PatternLemmas.{length-no_slots, no_slots_part, part_itself, part_trans, fits_more, fit_is_fill, fill_fits, bind_some, segments_of_pattern}
use Rattle.semantics.proofs.BindLemmas.{length-bind}
use Rattle.semantics.proofs.MemberLemmas.{Has, has_filtered, has_mapped, has_filter_mapped, has_flat_mapped}
use Rattle.semantics.proofs.TableLemmas.{IsAscending, value_from_has}
use Rattle.semantics.proofs.GatherLemmas.{value_at-out}
use Rattle.semantics.proofs.MatchLemmas.{match_step, match_keeps, match_from, match_texts}
use Rattle.semantics.proofs.OutputLemmas.{contribution_match, given_from_listed, out_key_filled, output_of_join}
use Rattle.semantics.proofs.CopyLemmas.{take_agree, take_same, IsCopySource, copy_last}
use Rattle.range_evaluation.specs.Trees.{placed_sources}
use Rattle.range_evaluation.specs.PathLaws.{IsPath}
use Rattle.range_evaluation.proofs.GivenLemmas.{bind_keeps, take_gives, binds_less}
use Rattle.range_evaluation.proofs.FollowedLemmas.{IsGiven, IsIn, IsReady, ready_more, ready_fills, ready_first}
use Rattle.range_evaluation.proofs.NeedLemmas.{unplaced-placed_sources}
use Rattle.range_evaluation.proofs.PathLemmas.{placed_patterns, pair_at, path_before, path_key}
use Rattle.kept_ranges.proofs.PathLemmas.{IsLaidOut, pushed_at}

-- the sources without their places
abbrev pub unplaced : List (ℕ × Source) → List Source
unplaced ps = map (λ p. p.1) ps

-- their patterns are patterns
abbrev pub ArePatterns : List (ℕ × Source) → Type 0
ArePatterns ps = list_all (λ p. is_pattern p.1.pattern) ps ≡ true

-- ---- matches and full paths

-- the keys of a match are a path under its slots
pub match_path : (ps : List (ℕ × Source)) (table : Table) (before after : Match) → ArePatterns ps → IsAscending table → length before.slots ≡ 16 → Has (matches_from (unplaced ps) table before) after
    → (keys : List Text) × (length keys ≡ length ps) × IsPath ps table keys after.slots
match_path [] table before after patterns sorted long h = ([], refl, tt)
match_path (p ∷ ps) table before after patterns sorted long h =
    let parts = and_parts (is_pattern p.1.pattern) (list_all (λ q. is_pattern q.1.pattern) ps) patterns in
    let w = match_step p.1 (unplaced ps) table before after h in
    let bound = bind_some p.1.pattern w.pair.0 before.slots w.slots (segments_of_pattern p.1.pattern parts.0) long w.binds in
    let rest = match_path ps table (extended before w.pair w.slots) after parts.1 sorted (length-bind p.1.pattern w.pair.0 before.slots w.slots w.binds ∙ long) w.rest in
    let part : IsPartOf w.slots after.slots = match_keeps (IsPartOf w.slots) (unplaced ps) table (extended before w.pair w.slots) after
    (λ s k slots more q e. part_trans w.slots slots more q (bind_keeps s.pattern k slots more e)) (part_itself w.slots) w.rest in
    let stands : is_some (value_at w.pair.0 table) ≡ true = ap is_some (value_from_has w.pair.0 w.pair.1 table sorted w.stored) in
    (w.pair.0 ∷ rest.0, omega (arith, rest.1), (stands, fits_more p.1.pattern w.pair.0 w.slots after.slots part bound.takes, rest.2))

-- a match that goes on from another, with slots that are part of a path's and have texts for all places of the output
pub record GoesOn (output : Pattern) (ss : List Source) (table : Table) (more : Slots) (before after : Match) : Type 0 where
  pub matches : Has (matches_from ss table before) after
  pub part : IsPartOf after.slots more
  pub ready : IsReady output [] after.slots

-- a full path gives a match
pub path_match : (output : Pattern) (ps : List (ℕ × Source)) (table : Table) (keys : List Text) (more : Slots) (before : Match) → ArePatterns ps → length keys ≡ length ps → IsPath ps table keys more
    → length before.slots ≡ 16 → IsPartOf before.slots more → IsReady output (unplaced ps) before.slots → (after : Match) × GoesOn output (unplaced ps) table more before after
path_match output [] table [] more before patterns full h long part ready = (before, record { matches = inl refl; part = part; ready = ready })
path_match output [] table (k ∷ ks) more before patterns full h long part ready = absurd h
path_match output (p ∷ ps) table [] more before patterns full h long part ready = absurd (omega (arith, full))
path_match output (p ∷ ps) table (k ∷ ks) more before patterns full h long part ready =
    let parts = and_parts (is_pattern p.1.pattern) (list_all (λ q. is_pattern q.1.pattern) ps) patterns in
    let stored = pair_at k table h.0 in
    let next = binds_less p.1.pattern k before.slots more parts.0 long h.1 part in
    let w = path_match output ps table ks more (extended before (k, stored.0) next.0) parts.1 (omega (arith, full)) h.2
    (length-bind p.1.pattern k before.slots next.0 next.1 ∙ long) next.2 (ready_more output p.1 (unplaced ps) k before.slots next.0 parts.0 long next.1 ready) in (
      w.0,
      record {
        matches = has_flat_mapped (λ pair. after_fit (λ slots. matches_from (unplaced ps) table (extended before pair slots)) (bind p.1.pattern pair.0 before.slots)) table (k, stored.0) w.0 stored.1
            (subst (λ o. Has (after_fit (λ slots. matches_from (unplaced ps) table (extended before (k, stored.0) slots)) o) w.0) (sym next.1) w.1.matches);
        part = w.1.part;
        ready = w.1.ready;
      },
    )

-- ---- values that are listed

-- the last of values is there where one is
some_last : (vs : List Text) (v : Text) → Has vs v → is_some (result_of copy vs) ≡ true
some_last [] v h = absurd h
some_last (x ∷ []) v h = refl
some_last (x ∷ y ∷ vs) v h = some_last (y ∷ vs) y (inl refl)

-- the last of values is one of them
last_in : (vs : List Text) (v : Text) → result_of copy vs ≡ Some v → Has vs v
last_in [] v h = absurd (none-some v h)
last_in (x ∷ []) v h = inl (same_Some x v h)
last_in (x ∷ y ∷ vs) v h = inr (last_in (y ∷ vs) v h)

-- ---- the output at a key

-- in a copy join the value at an output key is that of the source key that fits with it
pub value_of_source : (j : Join) (s : Source) (table : Table) (key next value : Text) (slots : Slots) → IsCopyJoin j → IsCopySource j s → IsAscending table → Fits s.pattern next slots → Fits j.output key slots
    → value_at key (out j table) ≡ Some value → value_at next table ≡ Some value
value_of_source j s table key next value slots ok source sorted fit output h =
    let results : result_of copy (listed key (contributions j table)) ≡ Some value = ap (λ operator. result_of operator (listed key (contributions j table))) (sym ok.copies) ∙ sym (value_at-out j table key) ∙ h in
    let m = contribution_match j table key value (given_from_listed key value (contributions j table) (last_in (listed key (contributions j table)) value results)) in
    let last = copy_last j table s m.0 source m.1 in
    let left = (fill_fits j.output m.0.slots key (output_of_join j ok.is_join) (match_texts j table m.0 m.1) m.2).0 in
    let texts : segments (last_key m.0.pairs) ≡ segments next = take_same s.pattern (segments (last_key m.0.pairs)) (segments next) m.0.slots slots last.fits fit
    (λ place o. take_agree j.output (segments key) m.0.slots slots left output place (source.places place o)) in
    let keys : last_key m.0.pairs ≡ next = sym (join-pieces bar (last_key m.0.pairs)) ∙ ap (join_with_byte bar) texts ∙ join-pieces bar next in
    ap (λ k. value_at k table) (sym keys) ∙ value_from_has (last_key m.0.pairs) (value_of_last m.0.pairs) table sorted last.stored ∙ ap Some m.3

-- a match that fills the key of a copy join gives it a value
out_from_match : (j : Join) (table : Table) (key : Text) (m : Match) → IsCopyJoin j → Has (matches j table) m → fill j.output m.slots ≡ Some key → is_some (value_at key (out j table)) ≡ true
unfolding contributions
out_from_match j table key m ok h filled =
    let given : Has (contributions j table) (key, value_of_last m.pairs) = has_filter_mapped (contribution j.output) (matches j table) m (key, value_of_last m.pairs) (ap (option_map (λ k. (k, value_of_last m.pairs))) filled) h in
    let there : Has (listed key (contributions j table)) (value_of_last m.pairs) =
    has_mapped (λ c. c.1) (filter (λ c. same c.0 key) (contributions j table)) (key, value_of_last m.pairs) (has_filtered (λ c. same c.0 key) (contributions j table) (key, value_of_last m.pairs) (same_itself key) given) in
    ap is_some (value_at-out j table key ∙ ap (λ operator. result_of operator (listed key (contributions j table))) ok.copies) ∙ some_last (listed key (contributions j table)) (value_of_last m.pairs) there

-- a match of the sources with their places is one of the join
placed_matches : (j : Join) (table : Table) (m : Match) → Has (matches_from (unplaced (placed_sources j)) table no_match) m → Has (matches j table) m
unfolding matches
placed_matches j table m h = subst (λ ss. Has (matches_from ss table no_match) m) (unplaced-placed_sources j) h

-- a match of the join is one of the sources with their places
matches_placed : (j : Join) (table : Table) (m : Match) → Contains (matches j table) m → Has (matches_from (unplaced (placed_sources j)) table no_match) m
matches_placed j table m h = subst (λ ss. Has (matches_from ss table no_match) m) (sym (unplaced-placed_sources j)) (match_from j table m h)

-- a full path that agrees with a key of a copy join gives it a value
pub out_from_path : (j : Join) (table : Table) (key : Text) (keys : List Text) (slots : Slots) → IsCopyJoin j → IsPath (placed_sources j) table keys slots → length keys ≡ length (placed_sources j)
    → Fits j.output key slots → length key ≤ 512 → is_some (value_at key (out j table)) ≡ true
out_from_path j table key keys slots ok path full fit short =
    let ready : IsReady j.output (unplaced (placed_sources j)) no_match.slots = subst (λ ss. IsReady j.output ss no_match.slots) (sym (unplaced-placed_sources j)) (ready_first j no_match.slots ok.slots) in
    let w = path_match j.output (placed_sources j) table keys slots no_match (placed_patterns j ok.is_join) full path length-no_slots (no_slots_part slots) ready in
    out_from_match j table key w.0 ok (placed_matches j table w.0 w.1.matches) (sym (ready_fills j.output w.0.slots slots w.1.ready w.1.part) ∙ fit_is_fill j.output slots key fit short)

-- ---- the checks' keys and the copy source's

-- a path of the checks, and a key that goes on from it as the copy source's, both in agreement with an output key
pub record LeadsTo (j : Join) (s : Source) (place : ℕ) (table : Table) (key : Text) (path : List Text) (next : Text) (slots : Slots) : Type 0 where
  pub path_is : IsPath (placed_sources j) table path slots
  pub at : slice_get (placed_sources j) (length path) ≡ Some (place, s)
  pub fits : Fits s.pattern next slots
  pub agrees : Fits j.output key slots
  pub short : length key ≤ 512

-- one key more on a path
path_more : (ps : List (ℕ × Source)) (table : Table) (path : List Text) (slots : Slots) (p : ℕ × Source) (key : Text) → IsPath ps table path slots → slice_get ps (length path) ≡ Some p → is_some (value_at key table) ≡ true → Fits p.1.pattern key slots
    → IsPath ps table (path ++ key ∷ []) slots
path_more [] table [] slots p key h at stands fit = absurd (none-some p at)
path_more (q ∷ ps) table [] slots p key h at stands fit = (stands, subst (λ r. Fits r.1.pattern key slots) (sym (same_Some q p at)) fit, tt)
path_more [] table (k ∷ ks) slots p key h at stands fit = absurd h
path_more (q ∷ ps) table (k ∷ ks) slots p key h at stands fit = (h.0, h.1, path_more ps table ks slots p key h.2 at stands fit)

-- a value that is never there is none
none_by : (o : Option Text) → ((v : Text) → o ≡ Some v → ⊥) → o ≡ None
none_by None h = refl
none_by (Some v) h = absurd (h v refl)

-- at the output key stands what stands at the copy source's key, or nothing
pub out_is_source : (j : Join) (s : Source) (table : Table) (key : Text) (path : List Text) (next : Text) (slots : Slots) → IsCopyJoin j → (laid : IsLaidOut j s) → IsAscending table
    → LeadsTo j s laid.place table key path next slots → length path ≡ length laid.checks → value_at key (out j table) ≡ value_at next table
out_is_source j s table key path next slots ok laid sorted leads full = by_value (value_at key (out j table)) refl
  where
    by_value : (o : Option Text) → value_at key (out j table) ≡ o → o ≡ value_at next table
    by_value (Some value) e = sym (value_of_source j s table key next value slots ok laid.source sorted leads.fits leads.agrees e)
    by_value None e = sym (none_by (value_at next table) (λ v stands.
        let path_is = path_more (placed_sources j) table path slots (laid.place, s) next leads.path_is leads.at (ap is_some stands) leads.fits in
        let long : length (path ++ next ∷ []) ≡ length (placed_sources j) = omega (arith, length-append path (next ∷ []), ap length laid.placed, length-append laid.checks ((laid.place, s) ∷ []), full) in
        false≢true (sym (ap is_some e) ∙ out_from_path j table key (path ++ next ∷ []) slots ok path_is long leads.agrees leads.short)))

-- a key that a copy join makes has a path of the checks and a key of the copy source
pub record IsMadeBy (j : Join) (s : Source) (laid : IsLaidOut j s) (table : Table) (key : Text) : Type 0 where
  pub path : List Text
  pub next : Text
  pub slots : Slots
  pub leads : LeadsTo j s laid.place table key path next slots
  pub full : length path ≡ length laid.checks
  pub stands : is_some (value_at next table) ≡ true

pub path_from_out : (j : Join) (s : Source) (table : Table) (key : Text) → IsCopyJoin j → (laid : IsLaidOut j s) → IsAscending table → is_some (value_at key (out j table)) ≡ true → IsMadeBy j s laid table key
path_from_out j s table key ok laid sorted h =
    let m = out_key_filled j table key h in
    let fit = fill_fits j.output m.0.slots key (output_of_join j ok.is_join) (match_texts j table m.0 m.1) m.2 in
    let w = match_path (placed_sources j) table no_match m.0 (placed_patterns j ok.is_join) sorted length-no_slots (matches_placed j table m.0 m.1) in
    let n = length laid.checks in
    let long : length w.0 ≡ n + 1 = w.1 ∙ ap length laid.placed ∙ length-append laid.checks ((laid.place, s) ∷ []) in
    let front : length (take n w.0) ≡ n = length-take-le n w.0 (omega (arith, long)) in
    let there : slice_get (placed_sources j) n ≡ Some (laid.place, s) = ap (λ l. slice_get l n) laid.placed ∙ pushed_at laid.checks (laid.place, s) in
    let last : slice_get w.0 n ≡ Some (get_or w.0 n []) = slice_get-get_or w.0 n [] (omega (arith, long)) in
    let at_last = path_key (placed_sources j) table w.0 m.0.slots n laid.place s (get_or w.0 n []) w.2 there last in
    record {
      path = take n w.0;
      next = get_or w.0 n [];
      slots = m.0.slots;
      leads = record {
        path_is = path_before (placed_sources j) table w.0 m.0.slots n w.2;
        at = ap (slice_get (placed_sources j)) front ∙ there;
        fits = at_last.1;
        agrees = fit.0;
        short = fit.1;
      };
      full = front;
      stands = at_last.0;
    }

-- ---- what is filled from a part of the slots

-- a source whose key fits has texts for its places
ready_after : (output : Pattern) (s : Source) (ss : List Source) (key : Text) (slots : Slots) → Fits s.pattern key slots → IsReady output (s ∷ ss) slots → IsReady output ss slots
ready_after output s ss key slots fit ready place o = ⊎_elim
    (λ (given : IsGiven slots place). inl given)
    (λ (left : IsIn (s ∷ ss) place). ⊎_elim
    (λ (here : s ≡ left.0). inl (take_gives s.pattern (segments key) slots fit place (ap (λ r. occurs place (slots_of r.pattern)) here ∙ left.2)))
    (λ (later : Has ss left.0). inr (left.0, later, left.2))
    left.1)
    (ready place o)

-- after a path's keys the places of its sources have texts
ready_path : (output : Pattern) (ps : List (ℕ × Source)) (rest : List (ℕ × Source)) (table : Table) (path : List Text) (slots : Slots) → length path ≡ length ps → IsPath (ps ++ rest) table path slots
    → IsReady output (unplaced (ps ++ rest)) slots → IsReady output (unplaced rest) slots
ready_path output [] rest table path slots full h ready = ready
ready_path output (p ∷ ps) rest table [] slots full h ready = absurd (omega (arith, full))
ready_path output (p ∷ ps) rest table (k ∷ ks) slots full h ready = ready_path output ps rest table ks slots (omega (arith, full)) h.2 (ready_after output p.1 (unplaced (ps ++ rest)) k slots h.1 ready)

-- slots under which a path of the checks and the copy source's key fit fill the output key with which wider ones agree
pub filled_by_path : (j : Join) (s : Source) (table : Table) (key : Text) (path : List Text) (next : Text) (slots more : Slots) → IsCopyJoin j → (laid : IsLaidOut j s) → IsPath (placed_sources j) table path slots → length path ≡ length laid.checks
    → Fits s.pattern next slots → IsPartOf slots more → Fits j.output key more → length key ≤ 512 → fill j.output slots ≡ Some key
filled_by_path j s table key path next slots more ok laid path_is full fit part agrees short =
    let first : IsReady j.output (unplaced (placed_sources j)) slots = subst (λ ss. IsReady j.output ss slots) (sym (unplaced-placed_sources j)) (ready_first j slots ok.slots) in
    let laid_first : IsReady j.output (unplaced (laid.checks ++ (laid.place, s) ∷ [])) slots = subst (λ ps. IsReady j.output (unplaced ps) slots) laid.placed first in
    let left = ready_path j.output laid.checks ((laid.place, s) ∷ []) table path slots full (subst (λ ps. IsPath ps table path slots) laid.placed path_is) laid_first in
    sym (ready_fills j.output slots more (ready_after j.output s [] next slots fit left) part) ∙ fit_is_fill j.output more key agrees short
