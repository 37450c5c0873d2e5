-- Line after line, what lines feed whose entries are those of a view.
use Rattle.std.proofs.Common.{◌≡◌, ℕ, ◌+◌, ◌-◌, zero, suc, List, [], ◌∷◌, ◌++◌, length, take, drop, Bool, true, false, cond, refl, sym, ap, ◌∙◌, append_assoc}
use Rattle.std.specs.Prelude.{nat_le, ◌==◌}
use Rattle.std.specs.List.{AllByRecursion}
use Rattle.std.proofs.lemmas.Bool.{eqb-true}
use Rattle.std.proofs.lemmas.List.{take-append-drop, map-append}
use Rattle.std.proofs.Math.Seq.{drop-append_seam}
use Rattle.semantics.specs.Histories.{Write, History}
use Rattle.protocol.specs.Lines.{Bytes, line_limit}
use Rattle.protocol.specs.Replies.{fed, reply_text}
use Rattle.protocol.specs.Feeds.{longest, most_entries, run}
use Rattle.protocol.specs.Batches.{Batch}
use Rattle.follow_node.specs.FedLines.{FedLine, of_entries, of_memory, of_gone, of_ahead, of_none, fed_line}
use Rattle.follow_node.specs.Fed.{writes_of, fed_by, fed_onto}
use Rattle.follow_node.specs.Standing.{Begins}
use Rattle.follow_node.specs.FedLaw.{TellsView}

abbrev pub IsFront : History → History → Type 0
IsFront front all = (more : History) × (all ≡ front ++ more)

front_take : (n : ℕ) (es : History) → IsFront (take n es) es
front_take n es = (drop n es, sym (take-append-drop n es))

front_then : (a b c : History) → IsFront a b → IsFront b c → IsFront a c
front_then a b c (m, e) (m', e') = (m ++ m', e' ∙ ap (λ t. t ++ m') e ∙ append_assoc a m m')

longest_by : (from n : ℕ) (es : History) (k : ℕ) (fits : Bool) → IsFront (longest from n es k) es → IsFront (cond fits (take (suc k) es) (longest from n es k)) es
longest_by from n es k true h = front_take (suc k) es
longest_by from n es k false h = h

longest_front : (from n : ℕ) (es : History) (k : ℕ) → IsFront (longest from n es k) es
unfolding longest
longest_front from n es zero = (es, refl)
longest_front from n es (suc k) = longest_by from n es k (nat_le (length (reply_text (fed from n (take (suc k) es)))) (line_limit + 1)) (longest_front from n es k)

-- a run is the front of what follows
pub run_front : (view : History) (from n : ℕ) → IsFront (run view from n) (drop from view)
unfolding run
run_front view from n =
    front_then (longest from n (take (n - from) (drop from view)) most_entries) (take (n - from) (drop from view)) (drop from view)
    (longest_front from n (take (n - from) (drop from view)) most_entries) (front_take (n - from) (drop from view))

drop_writes : (n : ℕ) (es : History) → writes_of (drop n es) ≡ drop n (writes_of es)
drop_writes zero es = refl
drop_writes (suc n) [] = refl
drop_writes (suc n) (e ∷ es) = drop_writes n es

-- the writes and those of a run behind them
more_begins : (view : History) (ws : List Write) (b : Batch) → Begins ws (writes_of view) → b.entries ≡ run view b.from b.position → b.from ≡ length ws → Begins (ws ++ writes_of b.entries) (writes_of view)
more_begins view ws b (rest, all) is from =
    let front = run_front view b.from b.position in
    let behind : writes_of (drop b.from view) ≡ rest = drop_writes b.from view ∙ ap (λ n. drop n (writes_of view)) from ∙ ap (drop (length ws)) all ∙ drop-append_seam ws rest in
    let parts : writes_of (drop b.from view) ≡ writes_of b.entries ++ writes_of front.0 =
    ap writes_of front.1 ∙ map-append (λ e. e.write) (run view b.from b.position) front.0 ∙ ap (λ es. writes_of es ++ writes_of front.0) (sym is) in
    (writes_of front.0, all ∙ ap (λ l. ws ++ l) (sym behind ∙ parts) ∙ sym (append_assoc ws (writes_of b.entries) (writes_of front.0)))

entries_by : (view : History) (ws : List Write) (b : Batch) (more : List Write → List Write) (here : Bool) → (b.from == length ws) ≡ here → Begins ws (writes_of view) → b.entries ≡ run view b.from b.position →
    ((w : List Write) → Begins w (writes_of view) → Begins (more w) (writes_of view)) → Begins (cond here (more (ws ++ writes_of b.entries)) ws) (writes_of view)
entries_by view ws b more true e so_far is go = go (ws ++ writes_of b.entries) (more_begins view ws b so_far is (eqb-true b.from (length ws) e))
entries_by view ws b more false e so_far is go = so_far

line_by : (view : History) (ws : List Write) (line : FedLine) (more : List Write → List Write) → Begins ws (writes_of view) → TellsView view line →
    ((w : List Write) → Begins w (writes_of view) → Begins (more w) (writes_of view)) → Begins (fed_by ws line more) (writes_of view)
line_by view ws (of_entries b) more so_far is go = entries_by view ws b more (b.from == length ws) refl so_far is go
line_by view ws of_memory more so_far is go = go ws so_far
line_by view ws (of_gone n) more so_far is go = so_far
line_by view ws (of_ahead n) more so_far is go = so_far
line_by view ws of_none more so_far is go = so_far

lines_by : (view : History) (ws : List Write) (lines : List Bytes) → Begins ws (writes_of view) → AllByRecursion (λ line. TellsView view (fed_line line)) lines → Begins (fed_onto ws lines) (writes_of view)
lines_by view ws [] so_far all = so_far
lines_by view ws (line ∷ lines) so_far all = line_by view ws (fed_line line) (λ w. fed_onto w lines) so_far all.0 (λ w h. lines_by view w lines h all.1)

-- all lines
pub lines_feed : (view : History) (lines : List Bytes) → AllByRecursion (λ line. TellsView view (fed_line line)) lines → Begins (fed_onto [] lines) (writes_of view)
lines_feed view lines all = lines_by view [] lines (writes_of view, refl) all
