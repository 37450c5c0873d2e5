-- What events do, as with nothing kept.
use Rattle.std.proofs.Common.{◌≡◌, ◌++◌, ◌+◌, ◌∷◌, [], ℕ, Bool, true, false, List, length, take, Option, Some, None, IfSome, IsSomeAnd, MatchOption, is_some, option_map, refl, sym, ap, ◌∙◌, subst}
use Rattle.std.specs.Bool.{if◌then◌else◌}
use Rattle.std.specs.Ordering.{is_lt}
use Rattle.std.proofs.lemmas.Bool.{false≢true}
use Rattle.std.proofs.lemmas.Option.{none-some, same_Some}
use Rattle.semantics.specs.Texts.{Text, text_cmp, Range, Table, pairs_within}
use Rattle.semantics.specs.Histories.{Write, History}
use Rattle.semantics.specs.States.{state}
use Rattle.semantics.specs.Verdicts.{Cause, verdict}
use Rattle.core_events.specs.Events.{Done, append, begin, piece, finish, entered, refused, begun as begun_done, answered, finished, nothing}
use Rattle.core_events.specs.Plain.{World, Scan, scan_of, moved, freed, goes_on, pairs_of, append_step, begin_step, piece_step, finish_step, Step}
use Rattle.core_events.specs.PlainLaws.{LookAlike}
use Rattle.range_set.proofs.BoundLemmas.{not_below_itself}
use Rattle.scan_core.specs.Progress.{Progress, progress_at, scans_of, begun, further, Puts, IsNext, IsEnded, IsShort, next_range}
use Rattle.scan_core.proofs.LookLemmas.{scan_of_table, begun_looks, moved_looks, freed_looks}
use Rattle.cell_slots.specs.Slots.{Holdings}
use Rattle.scan_core.specs.Going.{IsGoing, AreGoing}
use Rattle.scan_core.specs.Worlds.{CoreWorld, StepsAs, StepSpends, PieceSpends}

-- what is said of what is there, where it is known
pub at_some : {A : Type 0} (P : A → Type 0) (o : Option A) (x : A) → o ≡ Some x → IfSome o P → P x
at_some P o x is said = subst (λ q. IfSome q P) is said

-- and of nothing
pub at_none : {A : Type 0} (P : Type 0) (Q : A → Type 0) (o : Option A) → o ≡ None → MatchOption o P Q → P
at_none P Q o is said = subst (λ q. MatchOption q P Q) is said

-- the world of a history and of scans
abbrev pub world_of : History → List Progress → World
world_of h table = record { history = h; scans = scans_of table }

-- a world looks like itself
pub looks_itself : (w : World) → LookAlike w w
looks_itself w = record { histories = refl; scans = λ number. refl }

-- the scan that is found in the table is that of the world
in_world : (h : History) (table : List Progress) (number : ℕ) (g : Progress) → progress_at number table ≡ Some g → scan_of number (world_of h table).scans ≡ Some g.scan
in_world h table number g is = scan_of_table number table ∙ ap (option_map (λ g. g.scan)) is

not_in_world : (h : History) (table : List Progress) (number : ℕ) → progress_at number table ≡ None → scan_of number (world_of h table).scans ≡ None
not_in_world h table number is = scan_of_table number table ∙ ap (option_map (λ g. g.scan)) is

-- whether something is there does not change by what is made of it
some_mapped : (o : Option Progress) → is_some (option_map (λ g. g.scan) o) ≡ is_some o
some_mapped None = refl
some_mapped (Some g) = refl

none_from : (o : Option Progress) → is_some o ≡ false → o ≡ None
none_from None h = refl
none_from (Some g) h = absurd (false≢true (sym h))

abbrev step_with : Done → World → Step
step_with done w = record { answer = Some done; world = w }

-- a piece of a scan that was found, by whether the text goes on
abbrev piece_by : ℕ → Text → World → Bool → Step
piece_by number upto w b = if b then step_with answered (record w { scans = moved number upto w.scans }) else step_with nothing w

-- the end of a scan that was found, by whether its place is below its last bound
abbrev finish_by : ℕ → World → Scan → Bool → Step
finish_by number w scan b = if b then step_with nothing w else step_with (finished scan.position (pairs_of scan w.history)) (record w { scans = freed number w.scans })

-- a text is not below itself
not_below : (t : Text) → is_lt (text_cmp t t) ≡ false
not_below t = by (is_lt (text_cmp t t)) refl
  where
    by : (b : Bool) → is_lt (text_cmp t t) ≡ b → b ≡ false
    by true e = absurd (not_below_itself t e)
    by false e = refl

-- ---- a write

-- one that is refused
pub append_refused : (w : World) (client : ℕ) (write : Write) (cause : Cause) (n : ℕ) → n ≡ length w.history → verdict write w.history ≡ Some cause → StepsAs (append client write) w w (refused n cause)
append_refused w client write cause n is against = record {
  answer = λ not_cell. ap (λ o. (append_step client write w o).answer) against ∙ ap (λ m. Some (refused m cause)) (sym is);
  world = subst (LookAlike w) (sym (ap (λ o. (append_step client write w o).world) against)) (looks_itself w);
}

-- one that enters
pub append_entered : (w after : World) (client : ℕ) (write : Write) (n : ℕ) → after.history ≡ w.history ++ record { client = client; write = write } ∷ [] → after.scans ≡ w.scans → n ≡ length after.history →
    length after.history ≡ length w.history + 1 → verdict write w.history ≡ None → StepsAs (append client write) w after (entered n)
append_entered w after client write n longer scans is one free = record {
  answer = λ not_cell. ap (λ o. (append_step client write w o).answer) free ∙ ap (λ m. Some (entered m)) (sym (is ∙ one));
  world = subst (LookAlike after) (sym (ap (λ o. (append_step client write w o).world) free))
      (record { histories = longer; scans = λ number. ap (scan_of number) scans });
}

-- ---- a scan that begins

-- where one with its number is under way
pub begin_nothing : (h : History) (table : List Progress) (number : ℕ) (range : Range) → is_some (progress_at number table) ≡ true → StepsAs (begin number range) (world_of h table) (world_of h table) nothing
begin_nothing h table number range has =
    let w = world_of h table in
    let found : is_some (scan_of number w.scans) ≡ true = ap is_some (scan_of_table number table) ∙ some_mapped (progress_at number table) ∙ has in
    record {
      answer = λ not_cell. ap (λ b. (begin_step number range w b).answer) found;
      world = subst (LookAlike w) (sym (ap (λ b. (begin_step number range w b).world) found)) (looks_itself w);
    }

-- where none is
pub begin_begun : (h : History) (before after : List Progress) (number position : ℕ) (range : Range) → is_some (progress_at number before) ≡ false → position ≡ length h → Puts number (Some (begun number range position)) before after →
    StepsAs (begin number range) (world_of h before) (world_of h after) (begun_done position)
begin_begun h before after number position range has is puts =
    let w = world_of h before in
    let lacks : progress_at number before ≡ None = none_from (progress_at number before) has in
    let free : is_some (scan_of number w.scans) ≡ false = ap is_some (not_in_world h before number lacks) in
    record {
      answer = λ not_cell. ap (λ b. (begin_step number range w b).answer) free ∙ ap (λ n. Some (begun_done n)) (sym is);
      world = subst (LookAlike (world_of h after)) (sym (ap (λ b. (begin_step number range w b).world) free))
          (record {
            histories = refl;
            scans = λ other. begun_looks number position range before after other lacks puts
                ∙ ap (λ n. scan_of other (scans_of before ++ record { number = number; range = range; position = n; place = range.low } ∷ [])) is;
          });
    }

-- ---- a piece of a scan

-- where there is no such scan, or the text does not go on from its place
pub piece_nothing : (h : History) (table : List Progress) (number : ℕ) (upto : Text) → IfSome (progress_at number table) (λ g. goes_on upto g.scan ≡ false) → StepsAs (piece number upto) (world_of h table) (world_of h table) nothing
piece_nothing h table number upto short = by (progress_at number table) refl short
  where
    w : World
    w = world_of h table

    by : (o : Option Progress) → progress_at number table ≡ o → IfSome o (λ g. goes_on upto g.scan ≡ false) → StepsAs (piece number upto) w w nothing
    by None is short =
        let none : scan_of number w.scans ≡ None = scan_of_table number table ∙ ap (option_map (λ g. g.scan)) is in
        record {
          answer = λ not_cell. ap (λ o. (piece_step number upto w o).answer) none;
          world = subst (LookAlike w) (sym (ap (λ o. (piece_step number upto w o).world) none)) (looks_itself w);
        }
    by (Some g) is short =
        let some : scan_of number w.scans ≡ Some g.scan = scan_of_table number table ∙ ap (option_map (λ g. g.scan)) is in
        record {
          answer = λ not_cell. ap (λ o. (piece_step number upto w o).answer) some ∙ ap (λ b. (piece_by number upto w b).answer) short;
          world = subst (LookAlike w) (sym (ap (λ o. (piece_step number upto w o).world) some ∙ ap (λ b. (piece_by number upto w b).world) short)) (looks_itself w);
        }

-- where it goes on
pub piece_answered : (h : History) (before after : List Progress) (number : ℕ) (upto : Text) (more : Table) (g : Progress) → progress_at number before ≡ Some g → goes_on upto g.scan ≡ true →
    Puts number (option_map (further upto more) (progress_at number before)) before after → StepsAs (piece number upto) (world_of h before) (world_of h after) answered
piece_answered h before after number upto more g is goes puts =
    let w = world_of h before in
    let some = in_world h before number g is in
    record {
      answer = λ not_cell. ap (λ o. (piece_step number upto w o).answer) some ∙ ap (λ b. (piece_by number upto w b).answer) goes;
      world = subst (LookAlike (world_of h after)) (sym (ap (λ o. (piece_step number upto w o).world) some ∙ ap (λ b. (piece_by number upto w b).world) goes))
          (record { histories = refl; scans = λ other. moved_looks number upto more before after other puts });
    }

-- ---- a scan that ends

-- where there is no such scan, or it is not answered up to its last bound
pub finish_nothing : (h : History) (table : List Progress) (number : ℕ) → IfSome (progress_at number table) IsShort → StepsAs (finish number) (world_of h table) (world_of h table) nothing
finish_nothing h table number short = by (progress_at number table) refl short
  where
    w : World
    w = world_of h table

    by : (o : Option Progress) → progress_at number table ≡ o → IfSome o IsShort → StepsAs (finish number) w w nothing
    by None is short =
        let none : scan_of number w.scans ≡ None = scan_of_table number table ∙ ap (option_map (λ g. g.scan)) is in
        record {
          answer = λ not_cell. ap (λ o. (finish_step number w o).answer) none;
          world = subst (LookAlike w) (sym (ap (λ o. (finish_step number w o).world) none)) (looks_itself w);
        }
    by (Some g) is short =
        let some : scan_of number w.scans ≡ Some g.scan = scan_of_table number table ∙ ap (option_map (λ g. g.scan)) is in
        record {
          answer = λ not_cell. ap (λ o. (finish_step number w o).answer) some ∙ ap (λ b. (finish_by number w g.scan b).answer) short;
          world = subst (LookAlike w) (sym (ap (λ o. (finish_step number w o).world) some ∙ ap (λ b. (finish_by number w g.scan b).world) short)) (looks_itself w);
        }

-- where it is
pub finish_finished : (h : History) (before after : List Progress) (number position : ℕ) (pairs : Table) → IsSomeAnd (progress_at number before) (λ g. IsEnded g position pairs × IsGoing h g) → Puts number None before after →
    StepsAs (finish number) (world_of h before) (world_of h after) (finished position pairs)
finish_finished h before after number position pairs ended puts = by (progress_at number before) refl ended
  where
    w : World
    w = world_of h before

    by : (o : Option Progress) → progress_at number before ≡ o → IsSomeAnd o (λ g. IsEnded g position pairs × IsGoing h g) → StepsAs (finish number) w (world_of h after) (finished position pairs)
    by None is ended = absurd ended
    by (Some g) is ended =
        let some : scan_of number w.scans ≡ Some g.scan = scan_of_table number before ∙ ap (option_map (λ g. g.scan)) is in
        let whole : is_lt (text_cmp g.scan.place g.scan.range.high) ≡ false = ap (λ t. is_lt (text_cmp t g.scan.range.high)) ended.0.whole ∙ not_below g.scan.range.high in
        let all : pairs ≡ pairs_of g.scan h =
        ended.0.all ∙ ended.1.has ∙ ap (λ t. pairs_within (record { low = g.scan.range.low; high = t }) (state (take g.scan.position h))) ended.0.whole in
        record {
          answer = λ not_cell. ap (λ o. (finish_step number w o).answer) some ∙ ap (λ b. (finish_by number w g.scan b).answer) whole
              ∙ (λ i. Some (finished (sym ended.0.from i) (sym all i)));
          world = subst (LookAlike (world_of h after)) (sym (ap (λ o. (finish_step number w o).world) some ∙ ap (λ b. (finish_by number w g.scan b).world) whole))
              (record { histories = refl; scans = λ other. freed_looks number before after other puts });
        }

-- ---- what is known of a scan that was found

-- the scan whose next part was given
pub record Next (table : List Progress) (number : ℕ) (upto : Text) (range : Range) (position : ℕ) : Type 0 where
  pub progress : Progress
  pub found : progress_at number table ≡ Some progress
  pub next : IsNext upto progress range position

pub the_next : (table : List Progress) (number : ℕ) (upto : Text) (range : Range) (position : ℕ) → IsSomeAnd (progress_at number table) (λ g. IsNext upto g range position) → Next table number upto range position
the_next table number upto range position is = by (progress_at number table) refl is
  where
    by : (o : Option Progress) → progress_at number table ≡ o → IsSomeAnd o (λ g. IsNext upto g range position) → Next table number upto range position
    by None e is = absurd is
    by (Some g) e is = record { progress = g; found = e; next = is }

-- a scan that has ended was right
pub ended_goes : (h : History) (table : List Progress) (number position : ℕ) (pairs : Table) → AreGoing h table → IsSomeAnd (progress_at number table) (λ g. IsEnded g position pairs) →
    IsSomeAnd (progress_at number table) (λ g. IsEnded g position pairs × IsGoing h g)
ended_goes h table number position pairs going ended = by (progress_at number table) refl ended
  where
    by : (o : Option Progress) → progress_at number table ≡ o → IsSomeAnd o (λ g. IsEnded g position pairs) → IsSomeAnd o (λ g. IsEnded g position pairs × IsGoing h g)
    by None e ended = ended
    by (Some g) e ended = (ended, going number g e)

-- ---- what a piece costs

-- nothing is said where no part is next
pub spends_nothing : (h : History) (table : List Progress) (cells : Holdings) (number : ℕ) (upto : Text) (added : ℕ) → IfSome (progress_at number table) (λ g. goes_on upto g.scan ≡ false) →
    StepSpends (piece number upto) (record { world = world_of h table; cells = cells }) (record { world = world_of h table; cells = cells }) added
spends_nothing h table cells number upto added short scan is goes = by (progress_at number table) refl short
  where
    by : (o : Option Progress) → progress_at number table ≡ o → IfSome o (λ g. goes_on upto g.scan ≡ false) → PieceSpends h cells cells scan.position (next_range scan upto) added
    by None e short = absurd (none-some scan (sym (not_in_world h table number e) ∙ is))
    by (Some g) e short =
        let same = same_Some g.scan scan (sym (in_world h table number g e) ∙ is) in
        absurd (false≢true (sym short ∙ ap (goes_on upto) same ∙ goes))

-- what reading a piece costs is said of the scan's next part
pub spends_next : (h : History) (table : List Progress) (cells : Holdings) (after : CoreWorld) (number : ℕ) (upto : Text) (added : ℕ) {range : Range} {position : ℕ} (n : Next table number upto range position) →
    PieceSpends h cells after.cells position range added → StepSpends (piece number upto) (record { world = world_of h table; cells = cells }) after added
spends_next h table cells after number upto added {range} {position} n spends scan is goes =
    let same = same_Some n.progress.scan scan (sym (in_world h table number n.progress n.found) ∙ is) in
    subst (λ (s : Scan). PieceSpends h cells after.cells s.position (next_range s upto) added) same
    (subst (λ r. PieceSpends h cells after.cells n.progress.scan.position r added) n.next.from (subst (λ m. PieceSpends h cells after.cells m range added) n.next.after spends))
