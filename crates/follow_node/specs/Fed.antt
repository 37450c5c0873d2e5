-- What bytes feed: the writes that a follower takes of them.
use Rattle.std.specs.Prelude.{◌==◌, List, [], ◌∷◌, ◌++◌, length, map, if◌then◌else◌}
use Rattle.semantics.specs.Histories.{Write, History}
use Rattle.protocol.specs.Lines.{Bytes, whole_lines}
use Rattle.follow_node.specs.FedLines.{FedLine, of_entries, of_memory, of_gone, of_ahead, of_none, fed_line}

-- the writes of entries
abbrev pub writes_of : History → List Write
writes_of es = map (λ e. e.write) es

-- the writes so far go on by a line of entries that begins behind them; a line of `memory` is passed over, and each other one ends them
abbrev pub fed_by : List Write → FedLine → (List Write → List Write) → List Write
fed_by ws (of_entries batch) more = if batch.from == length ws then more (ws ++ writes_of batch.entries) else ws
fed_by ws of_memory more = more ws
fed_by ws (of_gone n) more = ws
fed_by ws (of_ahead n) more = ws
fed_by ws of_none more = ws

-- writes, and what lines feed behind them
abbrev pub fed_onto : List Write → List Bytes → List Write
fed_onto ws [] = ws
fed_onto ws (line ∷ lines) = fed_by ws (fed_line line) (λ ws. fed_onto ws lines)

-- `Fed`: what the whole lines of bytes feed
unfoldable pub fed_of : Bytes → List Write
fed_of bytes = fed_onto [] (whole_lines bytes)
