-- Lines of a home, and what they feed.
use Rattle.std.specs.Prelude.{◌≡◌, List, [], ◌∷◌, ◌++◌, codes, flat_map, true, false}
use Rattle.semantics.specs.Texts.{Text}
use Rattle.semantics.specs.Histories.{Write, put, remove, drop_join}
use Rattle.protocol.specs.Transcript.{transcript}
use Rattle.follow_node.specs.FedLines.{of_gone, of_ahead, of_none, fed_line}
use Rattle.follow_node.specs.Fed.{fed_of}

abbrev sent : List Text → Text
sent = flat_map (λ line. line ++ 10 ∷ [])

-- a home with a join and a pair feeds them, and no more
abbrev pub HomeFeeds : Type 0
HomeFeeds = transcript (sent
    (codes "[\"join\",\"b|<x> = copy a|<x>\"]"
    ∷ codes "[\"put\",\"a|1\",\"Hi\"]"
    ∷ codes "[\"feed\",0]"
    ∷ codes "[\"feed\",2]"
    ∷ codes "[\"feed\",3]"
    ∷ codes "[\"feed\",1]"
    ∷ codes "[\"feed\",-1]"
    ∷ codes "[\"feed\"]"
    ∷ [])) true (λ _. false)
    ≡ sent
    (codes "[\"ok\",1]"
    ∷ codes "[\"ok\",2]"
    ∷ codes "[\"entries\",0,2,[[0,[\"join\",\"b|<x> = copy a|<x>\"]],[0,[\"put\",\"a|1\",\"Hi\"]]]]"
    ∷ codes "[\"entries\",2,2,[]]"
    ∷ codes "[\"error\",\"ahead\",2]"
    ∷ codes "[\"entries\",1,2,[[0,[\"put\",\"a|1\",\"Hi\"]]]]"
    ∷ codes "[\"error\",\"form\"]"
    ∷ codes "[\"error\",\"form\"]"
    ∷ [])

abbrev first_line : Text
first_line = codes "[\"entries\",0,2,[[0,[\"put\",\"a|1\",\"Hi\"]],[0,[\"remove\",\"a|1\"]]]]"

abbrev first_writes : List Write
first_writes = put (codes "a|1") (codes "Hi") ∷ remove (codes "a|1") ∷ []

-- the entries of the first line are taken; `memory` is passed over, and a line of another position ends them
abbrev pub LinesFeed : Type 0
LinesFeed =
    (fed_of (sent (first_line ∷ codes "[\"entries\",3,3,[]]" ∷ [])) ≡ first_writes)
    × (fed_of (sent (codes "[\"error\",\"memory\"]" ∷ first_line ∷ codes "[\"entries\",2,3,[[1,[\"drop\",7]]]]" ∷ [])) ≡ (first_writes ++ drop_join 7 ∷ []))
    × (fed_of (sent (codes "[\"entries\",1,2,[[0,[\"drop\",1]]]]" ∷ first_line ∷ [])) ≡ [])
    × (fed_of (first_line) ≡ [])
    × (fed_line (codes "[\"error\",\"gone\",70000]") ≡ of_gone 70000)
    × (fed_line (codes "[\"error\",\"ahead\",2]") ≡ of_ahead 2)
    × (fed_line (codes "[\"entries\",0,1,[[0,[\"get\",\"a|1\"]]]]") ≡ of_none)
    × (fed_line (codes "[\"entries\",0,1,[[0,[\"join\",\"b|<x>  = copy a|<x>\"]]]]") ≡ of_none)
    × (fed_line (codes "[\"pairs\",0,[]]") ≡ of_none)
