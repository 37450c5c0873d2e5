-- The entries that one line feeds.
use Rattle.std.specs.Prelude.{ℕ, zero, suc, ◌+◌, ◌-◌, [], length, take, drop, nat_le, if◌then◌else◌}
use Rattle.semantics.specs.Histories.{History}
use Rattle.protocol.specs.Lines.{line_limit}
use Rattle.protocol.specs.Replies.{fed, reply_text}

-- the most entries of a line
abbrev pub most_entries : ℕ
most_entries = 1000

-- the longest beginning of entries, of so many or fewer, whose line is within the limit before its byte 10
unfoldable pub longest : ℕ → ℕ → History → ℕ → History
longest from n es zero = []
longest from n es (suc k) =
    if nat_le (length (reply_text (fed from n (take (suc k) es)))) (line_limit + 1) then take (suc k) es else longest from n es k

-- `Run`: the longest run of the entries after a position, up to another, that one line has room for
unfoldable pub run : History → ℕ → ℕ → History
run view from n = longest from n (take (n - from) (drop from view)) most_entries
