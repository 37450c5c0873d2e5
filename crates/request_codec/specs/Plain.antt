-- Requests, faults and replies as the data that the definitions speak of.
use Rattle.std.specs.Prelude.{◌≡◌, Option, Some, None, Result, Err}
use Rattle.serde_json.specs.Data.{Data}
use Rattle.semantics.specs.Histories as writes
use Rattle.semantics.specs.Answers as answers
use Rattle.protocol.specs.Requests as plain
use Rattle.protocol.specs.Replies as replies
use Rattle.join_types.specs.Causes.{plain_cause}
use Rattle.request_codec.specs.declared.request.Request.{Request}
use Rattle.request_codec.specs.declared.request.Request.TheVariants.{Put, Remove, Get, Scan, ScanAt, Changes as ChangesSince, Feed, Declare, Drop, Quit}
use Rattle.request_codec.specs.declared.request.LineFault.{LineFault}
use Rattle.request_codec.specs.declared.request.LineFault.TheVariants.{Json, Form, Key, Value, Range, Syntax, OutOfMemory}
use Rattle.request_codec.specs.declared.reply.Reply.{Reply}
use Rattle.request_codec.specs.declared.reply.Reply.TheVariants.{Done, Found, Absent, Pairs, Written, Refused, Gone, Ahead, Changes, Entries, Unread, Long, Memory, Bye}

-- a request as a write, a read, a question about an earlier position, or the end of the session
abbrev pub plain_request : Request → plain.Request
plain_request (Put key value) = plain.write (writes.put key value)
plain_request (Remove key) = plain.write (writes.remove key)
plain_request (Get key) = plain.read (answers.get key)
plain_request (Scan range) = plain.read (answers.scan range)
plain_request (ScanAt range at) = plain.earlier (plain.scan_at range at)
plain_request (ChangesSince range from) = plain.earlier (plain.changes_since range from)
plain_request (Feed from) = plain.earlier (plain.feed_from from)
plain_request (Declare join) = plain.write (writes.declare join)
plain_request (Drop position) = plain.write (writes.drop_join position)
plain_request Quit = plain.quit

-- what a fault says of the line, which is nothing where memory ran out
abbrev pub plain_fault : LineFault → Option plain.LineFault
plain_fault Json = Some plain.json
plain_fault Form = Some plain.form
plain_fault Key = Some plain.key
plain_fault Value = Some plain.value
plain_fault Range = Some plain.range
plain_fault (Syntax at) = Some (plain.syntax at)
plain_fault (OutOfMemory _) = None

abbrev fault_is : {A : Type 0} → Result A plain.LineFault → Option plain.LineFault → Type 0
fault_is given None = Unit {0}
fault_is given (Some fault) = given ≡ Err fault

-- the fault is what the definition gives, unless memory ran out
abbrev pub IsFaultOf : {A : Type 0} → Result A plain.LineFault → LineFault → Type 0
IsFaultOf given fault = fault_is given (plain_fault fault)

-- why a line gave no JSON value: it has none, or memory ran out
abbrev pub IsNoJson : Option Data → LineFault → Type 0
IsNoJson found Json = found ≡ None
IsNoJson found Form = ⊥
IsNoJson found Key = ⊥
IsNoJson found Value = ⊥
IsNoJson found Range = ⊥
IsNoJson found (Syntax at) = ⊥
IsNoJson found (OutOfMemory _) = Unit {0}

abbrev unread_or_memory : Option plain.LineFault → replies.Reply
unread_or_memory None = replies.memory
unread_or_memory (Some fault) = replies.unread fault

-- a reply; a line for which memory ran out is told as `memory`
abbrev pub plain_reply : Reply → replies.Reply
plain_reply (Done position) = replies.done position
plain_reply (Found position value) = replies.answered (answers.found position value)
plain_reply (Absent position) = replies.answered (answers.absent position)
plain_reply (Pairs position pairs) = replies.answered (answers.pairs position pairs.items)
plain_reply (Written scan) = replies.answered (answers.pairs scan.position scan.pairs)
plain_reply (Refused position cause) = replies.refused position (plain_cause cause)
plain_reply (Gone position) = replies.gone position
plain_reply (Ahead position) = replies.ahead position
plain_reply (Changes from position changes) = replies.changed from position changes.items
plain_reply (Entries from position entries) = replies.fed from position entries.items
plain_reply (Unread fault) = unread_or_memory (plain_fault fault)
plain_reply Long = replies.long
plain_reply (Memory _) = replies.memory
plain_reply Bye = replies.bye

-- the reply's line is not there yet, and asks for no more memory than the line's own
abbrev pub IsUnwritten : Reply → Type 0
IsUnwritten (Done position) = Unit {0}
IsUnwritten (Found position value) = Unit {0}
IsUnwritten (Absent position) = Unit {0}
IsUnwritten (Pairs position pairs) = Unit {0}
IsUnwritten (Written scan) = ⊥
IsUnwritten (Refused position cause) = Unit {0}
IsUnwritten (Gone position) = Unit {0}
IsUnwritten (Ahead position) = Unit {0}
IsUnwritten (Changes from position changes) = Unit {0}
IsUnwritten (Entries from position entries) = ⊥
IsUnwritten (Unread fault) = Unit {0}
IsUnwritten Long = Unit {0}
IsUnwritten (Memory memory) = Unit {0}
IsUnwritten Bye = Unit {0}
