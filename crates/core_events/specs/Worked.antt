-- Scripts and what is printed about them.
use Rattle.std.specs.Prelude.{◌≡◌, List, [], ◌∷◌, ◌++◌, flat_map, codes}
use Rattle.semantics.specs.Texts.{Text}
use Rattle.core_events.specs.Scripts.{replay_text}

-- lines with byte 10 at the end of each
abbrev lines : List Text → Text
lines = flat_map (λ line. line ++ 10 ∷ [])

-- what is printed about the lines of a script are these lines
abbrev pub Prints : List Text → List Text → Type 0
Prints script printed = replay_text (lines script) ≡ lines printed

-- each scan is answered as of the position at which it began, whatever comes between its pieces
abbrev pub ScansBetweenWrites : Type 0
ScansBetweenWrites = Prints
    (codes "[\"append\",1,[\"join\",\"t|<u>|<n>|<w> = check s|<u>|<w> copy p|<w>|<n>\"]]"
    ∷ codes "[\"append\",1,[\"put\",\"s|ann|bob\",\"1\"]]"
    ∷ codes "[\"append\",1,[\"put\",\"p|bob|1\",\"A\"]]"
    ∷ codes "[\"append\",1,[\"put\",\"s|cat|bob\",\"1\"]]"
    ∷ codes "[\"begin\",1,\"t|\",\"t}\"]"
    ∷ codes "[\"piece\",1,\"t|b\"]"
    ∷ codes "[\"piece\",1,\"t}\"]"
    ∷ codes "[\"finish\",1]"
    ∷ codes "[\"begin\",2,\"t|\",\"t}\"]"
    ∷ codes "[\"piece\",2,\"t|b\"]"
    ∷ codes "[\"append\",2,[\"put\",\"p|bob|2\",\"B\"]]"
    ∷ codes "[\"advance\",1,5]"
    ∷ codes "[\"evict\",0]"
    ∷ codes "[\"piece\",2,\"t}\"]"
    ∷ codes "[\"finish\",2]"
    ∷ codes "[\"begin\",3,\"t|\",\"t}\"]"
    ∷ codes "[\"piece\",3,\"t}\"]"
    ∷ codes "[\"finish\",3]"
    ∷ codes "[\"finish\",3]"
    ∷ [])
    (codes "[\"ok\",1]"
    ∷ codes "[\"ok\",2]"
    ∷ codes "[\"ok\",3]"
    ∷ codes "[\"ok\",4]"
    ∷ codes "[\"pairs\",4,[[\"t|ann|1|bob\",\"A\"],[\"t|cat|1|bob\",\"A\"]]]"
    ∷ codes "[\"ok\",5]"
    ∷ codes "[\"pairs\",4,[[\"t|ann|1|bob\",\"A\"],[\"t|cat|1|bob\",\"A\"]]]"
    ∷ codes "[\"pairs\",5,[[\"t|ann|1|bob\",\"A\"],[\"t|ann|2|bob\",\"B\"],[\"t|cat|1|bob\",\"A\"],[\"t|cat|2|bob\",\"B\"]]]"
    ∷ codes "[\"nothing\"]"
    ∷ [])

-- a step of a scan that is not under way, or already, or does not go on, does nothing; a scan over no keys finishes without a piece
abbrev pub NothingToDo : Type 0
NothingToDo = Prints
    (codes "[\"append\",7,[\"put\",\"k|b\",\"1\"]]"
    ∷ codes "[\"piece\",1,\"k}\"]"
    ∷ codes "[\"begin\",1,\"k|\",\"k|c\"]"
    ∷ codes "[\"begin\",1,\"k|\",\"k}\"]"
    ∷ codes "[\"piece\",1,\"k|\"]"
    ∷ codes "[\"piece\",1,\"k}\"]"
    ∷ codes "[\"finish\",1]"
    ∷ codes "[\"piece\",1,\"k|c\"]"
    ∷ codes "[\"finish\",1]"
    ∷ codes "[\"begin\",1,\"k|a\",\"k|a\"]"
    ∷ codes "[\"finish\",1]"
    ∷ codes "[\"mend\",9,\"k|\",\"k}\"]"
    ∷ [])
    (codes "[\"ok\",1]"
    ∷ codes "[\"nothing\"]"
    ∷ codes "[\"nothing\"]"
    ∷ codes "[\"nothing\"]"
    ∷ codes "[\"nothing\"]"
    ∷ codes "[\"nothing\"]"
    ∷ codes "[\"pairs\",1,[[\"k|b\",\"1\"]]]"
    ∷ codes "[\"pairs\",1,[]]"
    ∷ [])

-- writes that are refused are answered so, and a join that is dropped between the pieces of a scan stands at the scan's position
abbrev pub RefusedWrite : Type 0
RefusedWrite = Prints
    (codes "[\"append\",1,[\"put\",\"p|1\",\"a\"]]"
    ∷ codes "[\"append\",4294967295,[\"join\",\"t|<u> = copy p|<u>\"]]"
    ∷ codes "[\"append\",1,[\"put\",\"t|1\",\"b\"]]"
    ∷ codes "[\"begin\",1,\"t|\",\"t}\"]"
    ∷ codes "[\"piece\",1,\"t|1\"]"
    ∷ codes "[\"append\",1,[\"drop\",2]]"
    ∷ codes "[\"append\",1,[\"drop\",2]]"
    ∷ codes "[\"piece\",1,\"t}\"]"
    ∷ codes "[\"finish\",1]"
    ∷ [])
    (codes "[\"ok\",1]"
    ∷ codes "[\"ok\",2]"
    ∷ codes "[\"error\",\"computed\",2,2]"
    ∷ codes "[\"ok\",3]"
    ∷ codes "[\"error\",\"nojoin\",3]"
    ∷ codes "[\"pairs\",2,[[\"t|1\",\"a\"]]]"
    ∷ [])

-- a line that does not read is the one thing that is printed, by the first rule that it breaks
abbrev pub RefusedLines : Type 0
RefusedLines =
    Prints (codes "[\"evict\",0]" ∷ [] ∷ codes "[\"evict\",0]" ∷ []) (codes "[\"refused\",2,\"json\"]" ∷ [])
    × Prints (codes "[\"evict\",4294967296]" ∷ codes "[" ∷ []) (codes "[\"refused\",1,\"form\"]" ∷ [])
    × Prints (codes "[\"advance\",0,281474976710655]" ∷ codes "[\"advance\",0,281474976710656]" ∷ []) (codes "[\"refused\",2,\"form\"]" ∷ [])
    × Prints (codes "[\"append\",1,[\"get\",\"|a\"]]" ∷ []) (codes "[\"refused\",1,\"form\"]" ∷ [])
    × Prints (codes "[\"append\",1,[\"remove\",\"|a\"]]" ∷ []) (codes "[\"refused\",1,\"key\"]" ∷ [])
    × Prints (codes "[\"append\",1,[\"join\",\"t|<u> = copy\"]]" ∷ []) (codes "[\"refused\",1,\"syntax\"]" ∷ [])
    × Prints (codes "[\"begin\",1,\"k|b\",\"k|a\"]" ∷ []) (codes "[\"refused\",1,\"range\"]" ∷ [])
    × Prints (codes "[\"piece\",1,\"k}\"]" ∷ codes "[\"piece\",1,\"k\"]" ∷ []) (codes "[\"refused\",2,\"range\"]" ∷ [])
