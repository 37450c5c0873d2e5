-- What lines feed.
use Rattle.std.proofs.Common.{◌≡◌, ◌+◌, ◌-◌, List, [], ◌∷◌, ◌++◌, length, take, Bool, true, false, cond, refl, sym, ap, ◌∙◌, arith, append-nil, append_assoc}
use Rattle.std.specs.Prelude.{◌==◌}
use Rattle.std.proofs.Math.Seq.{take-append-add}
use Rattle.semantics.specs.Histories.{Write}
use Rattle.protocol.specs.Lines.{Bytes, whole_lines}
use Rattle.protocol.proofs.Cuts.{first_piece, pieces-first}
use Rattle.protocol.specs.Batches.{Batch}
use Rattle.follow_node.specs.FedLines.{FedLine, of_entries, of_memory, of_gone, of_ahead, of_none, fed_line}
use Rattle.follow_node.specs.Fed.{writes_of, fed_by, fed_onto, fed_of}
use Rattle.follow_node.specs.Heard.{IsShort}
use Rattle.follow_node.specs.Standing.{FeedsTo, Begins}

-- a line that a byte 10 ends is the first of the whole lines
but_first : (line : Bytes) (t : Bytes) (ts : List Bytes) → take (length (line ∷ t ∷ ts) - 1) (line ∷ t ∷ ts) ≡ line ∷ take (length (t ∷ ts) - 1) (t ∷ ts)
but_first line t ts =
    let size : length (line ∷ t ∷ ts) - 1 ≡ 1 + (length (t ∷ ts) - 1) = omega arith in
    ap (λ n. take n (line ∷ t ∷ ts)) size ∙ take-append-add (line ∷ []) (t ∷ ts) (length (t ∷ ts) - 1)

pub whole_lines-line : (line rest : Bytes) → IsShort line → whole_lines (line ++ 10 ∷ rest) ≡ line ∷ whole_lines rest
whole_lines-line line rest is =
    let found = first_piece 10 rest in
    ap (λ all. take (length all - 1) all) (pieces-first 10 line rest is.no_feed ∙ ap (λ all. line ∷ all) found.2)
    ∙ but_first line found.0 found.1 ∙ ap (λ all. line ∷ take (length all - 1) all) (sym found.2)

fed_by_begins_by : (ws : List Write) (b : Batch) (more : List Write → List Write) (here : Bool) → ((w : List Write) → Begins w (more w)) →
    Begins ws (cond here (more (ws ++ writes_of b.entries)) ws)
fed_by_begins_by ws b more true go = let it = go (ws ++ writes_of b.entries) in (writes_of b.entries ++ it.0, it.1 ∙ append_assoc ws (writes_of b.entries) it.0)
fed_by_begins_by ws b more false go = ([], sym (append-nil ws))

-- what a line feeds begins with the writes before it
pub fed_by_begins : (ws : List Write) (line : FedLine) (more : List Write → List Write) → ((w : List Write) → Begins w (more w)) → Begins ws (fed_by ws line more)
fed_by_begins ws (of_entries b) more go = fed_by_begins_by ws b more (b.from == length ws) go
fed_by_begins ws of_memory more go = go ws
fed_by_begins ws (of_gone n) more go = ([], sym (append-nil ws))
fed_by_begins ws (of_ahead n) more go = ([], sym (append-nil ws))
fed_by_begins ws of_none more go = ([], sym (append-nil ws))

pub fed_onto_begins : (ws : List Write) (lines : List Bytes) → Begins ws (fed_onto ws lines)
fed_onto_begins ws [] = ([], sym (append-nil ws))
fed_onto_begins ws (line ∷ lines) = fed_by_begins ws (fed_line line) (λ w. fed_onto w lines) (λ w. fed_onto_begins w lines)

-- a line more
pub feeds_line : (bytes line : Bytes) (ws : List Write) → FeedsTo bytes ws → IsShort line → (more : Bytes) →
    fed_of ((bytes ++ (line ++ 10 ∷ [])) ++ more) ≡ fed_by ws (fed_line line) (λ w. fed_onto w (whole_lines more))
feeds_line bytes line ws feeds is more =
    ap fed_of (append_assoc bytes (line ++ 10 ∷ []) more) ∙ feeds ((line ++ 10 ∷ []) ++ more)
    ∙ ap (λ t. fed_onto ws (whole_lines t)) (append_assoc line (10 ∷ []) more) ∙ ap (fed_onto ws) (whole_lines-line line more is)

-- where no more comes
pub feeds_now : (bytes : Bytes) (ws : List Write) → FeedsTo bytes ws → fed_of bytes ≡ ws
feeds_now bytes ws feeds = ap fed_of (sym (append-nil bytes)) ∙ feeds []

-- nothing feeds nothing
pub feeds_none : FeedsTo [] []
unfolding fed_of
feeds_none more = refl
