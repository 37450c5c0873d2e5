-- What a home's replies to feeds feed.
use Rattle.std.specs.Prelude.{◌≡◌, ℕ, List, [], ◌++◌, length, Ok, ⊤}
use Rattle.std.specs.List.{AllByRecursion}
use Rattle.semantics.specs.Texts.{Text}
use Rattle.semantics.specs.Histories.{Write, put, remove, declare, drop_join, Entry, History}
use Rattle.protocol.specs.JoinText.{read_join}
use Rattle.protocol.specs.Lines.{Bytes, whole_lines}
use Rattle.protocol.specs.Requests.{Request, write, read, earlier, quit, Earlier, scan_at, changes_since, feed_from}
use Rattle.protocol.specs.Replies.{Reply}
use Rattle.protocol.specs.ReplyLaws.{IsSmall}
use Rattle.protocol.specs.Feeds.{run}
use Rattle.protocol.specs.Told.{Told}
use Rattle.protocol.specs.Transcript.{reply_texts}
use Rattle.follow_node.specs.FedLines.{FedLine, of_entries, of_memory, of_gone, of_ahead, of_none, fed_line}
use Rattle.follow_node.specs.Fed.{writes_of, fed_onto, fed_of}
use Rattle.follow_node.specs.Standing.{Begins}

abbrev is_feed_of : Earlier → Type 0
is_feed_of (scan_at range at) = ⊥
is_feed_of (changes_since range from) = ⊥
is_feed_of (feed_from from) = ⊤

-- the request is a feed
abbrev pub IsFeed : Request → Type 0
IsFeed (write w) = ⊥
IsFeed (read r) = ⊥
IsFeed (earlier e) = is_feed_of e
IsFeed quit = ⊥

abbrev pub is_parsed : Write → Type 0
is_parsed (put k v) = ⊤
is_parsed (remove k) = ⊤
is_parsed (declare j) = (text : Text) × (read_join text ≡ Ok j)
is_parsed (drop_join n) = IsSmall n

-- the entry's join, if it has one, is one that a text is read as; its numbers are below 2^64
abbrev pub IsParsed : Entry → Type 0
IsParsed e = IsSmall e.client × is_parsed e.write

-- the law: where bytes are the texts of replies to feeds in a run, and perhaps a part of one more, what they feed is a prefix of the view's writes
abbrev pub FeedsView : Type 0
FeedsView = (client : ℕ) (before view : History) (requests : List Request) (replies : List Reply) (rest : Bytes) →
    Told before view client requests replies → AllByRecursion IsFeed requests → AllByRecursion IsParsed view → IsSmall (length view) → whole_lines rest ≡ [] →
    Begins (fed_of (reply_texts replies ++ rest)) (writes_of view)

abbrev pub TellsView : History → FedLine → Type 0
TellsView view (of_entries b) = b.entries ≡ run view b.from b.position
TellsView view of_memory = ⊤
TellsView view (of_gone n) = ⊤
TellsView view (of_ahead n) = ⊤
TellsView view of_none = ⊤

-- its half: lines whose entries are those of the view feed a prefix of the view's writes
abbrev pub LinesFeedView : Type 0
LinesFeedView = (view : History) (lines : List Bytes) → AllByRecursion (λ line. TellsView view (fed_line line)) lines → Begins (fed_onto [] lines) (writes_of view)
