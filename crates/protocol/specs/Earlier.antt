-- What is answered about an earlier position of a history.
use Rattle.std.specs.Prelude.{ℕ, ◌+◌, length, take, nat_lt, if◌then◌else◌}
use Rattle.semantics.specs.Histories.{History}
use Rattle.semantics.specs.Answers.{scan, answer}
use Rattle.growing_history.specs.StateChanges.{changes}
use Rattle.protocol.specs.Requests.{Earlier, scan_at, changes_since, feed_from}
use Rattle.protocol.specs.Replies.{Reply, answered, gone, ahead, changed, fed}
use Rattle.protocol.specs.Feeds.{run}

-- how many entries back a question may reach
abbrev pub reach_back : ℕ
reach_back = 65536

-- the position that a question names
abbrev pub asked_position : Earlier → ℕ
asked_position (scan_at range at) = at
asked_position (changes_since range from) = from
asked_position (feed_from from) = from

-- what a question is answered after a history that its position lies in: the pairs of the range after so many entries, what changed in it since, or the first entries after it
abbrev pub told_back : Earlier → History → Reply
told_back (scan_at range at) h = answered (answer (scan range) (take at h))
told_back (changes_since range from) h = changed from (length h) (changes range h from (length h))
told_back (feed_from from) h = fed from (length h) (run h from (length h))

-- the reply to a question after a history: `gone` where its position lies too far back, `ahead` where it lies ahead, each with the length, and otherwise what it asks for
unfoldable pub earlier_reply : Earlier → History → Reply
earlier_reply e h =
    if nat_lt (asked_position e + reach_back) (length h) then gone (length h)
    else (if nat_lt (length h) (asked_position e) then ahead (length h) else told_back e h)
