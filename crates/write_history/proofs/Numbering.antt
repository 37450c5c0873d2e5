-- The positions of the entries of a part: how many are at most a position, and which entries stand at them.
use Rattle.std.proofs.Common.{◌≡◌, ℕ, zero, suc, ◌+◌, ◌-◌, ◌<◌, ◌≤◌, List, [], ◌∷◌, ◌++◌, length, map, get_or, set, take, drop, nat_le, ◌==◌, ◌≢◌, Bool, true, false, cond, refl, sym, ap, ◌∙◌, subst, length-append, append_assoc, arith}
use Rattle.std.specs.List.{count_by}
use Rattle.std.proofs.lemmas.Bool.{eqb-true, eqb-false}
use Rattle.std.proofs.lemmas.Bool.Decides.{nat_tests}
use Rattle.std.proofs.lemmas.List.{append-nil, get_or-set_same, get_or-set_other, drop-append-le, drop-drop, drop_all, length-drop, length-map, length-take, map-append, take-append-drop, take-append-le, take_all}
use Rattle.std.proofs.lemmas.List.Sums.{length-filter, sum_by-append, sum_by-cons}
use Rattle.semantics.specs.Histories.{Entry, History}
use Rattle.base_versions.specs.declared.placed.Placed.{Placed}
use Rattle.base_versions.specs.Own.{is_of, own_from}
use Rattle.base_versions.specs.Positions.{AscendBy}
use Rattle.base_versions.proofs.OwnLemmas.{placed, own_from-append}
use Rattle.base_versions.proofs.PositionLemmas.{IsCut, ascend_from_less, ascend_onto, taken-cut}
use Rattle.write_history.specs.Numbers.{Numbers, numbers_of, positions_of, own_positions, AreNumbered}
use Rattle.write_history.specs.Stored.{Stored, IsLog}

-- ---- they ascend

abbrev at_most : ℕ → ℕ → Bool
at_most position = λ n. nat_le n position

ascend_own : (part n : ℕ) (es : History) → AscendBy (λ (p : Placed). p.position) n (own_from 16 part n es)
ascend_own part n [] = tt
ascend_own part n (e ∷ es) = ascend_onto (λ (p : Placed). p.position) (is_of 16 part e.write) (placed n e) (own_from 16 part (n + 1) es) n refl (ascend_own part (n + 1) es)

ascend_map : (low : ℕ) (own : List Placed) → AscendBy (λ (p : Placed). p.position) low own → AscendBy (λ n. n) low (map (λ p. p.position) own)
ascend_map low [] a = tt
ascend_map low (p ∷ own) a = (a.0, ascend_map (p.position + 1) own a.1)

pub ascend_positions : (part n : ℕ) (es : History) → AscendBy (λ m. m) 0 (own_positions part n es)
ascend_positions part n es = ascend_from_less (λ m. m) n 0 (own_positions part n es) (omega arith) (ascend_map n (own_from 16 part n es) (ascend_own part n es))

-- ---- how many are at most a position

-- where a list is cut, so many pass
pub count_cut : {X : Type 0} (test : X → Bool) (xs : List X) (n : ℕ) → n ≤ length xs → IsCut test xs n → n ≡ count_by test xs
count_cut test xs n within cut =
    let long : n ≡ length (take n xs) = omega (arith, length-take n xs) in
    long ∙ ap length (taken-cut test xs n cut) ∙ length-filter test xs

early_by : (position n : ℕ) (e : Entry) (b : Bool) (own : List Placed) → n ≤ position → count_by (at_most position) (map (λ p. p.position) own) ≡ length own →
    count_by (at_most position) (map (λ p. p.position) (cond b (placed n e ∷ []) [] ++ own)) ≡ length (cond b (placed n e ∷ []) [] ++ own)
early_by position n e true own less rest =
    let test : nat_le n position ≡ true = grind (arith, nat_tests) in
    sum_by-cons (λ m. cond (nat_le m position) 1 0) n (map (λ p. p.position) own) ∙ (λ i. cond (test i) 1 0 + rest i) ∙ omega arith
early_by position n e false own less rest = rest

-- those of entries up to a position are all at most that
count_early : (part n position : ℕ) (es : History) → n + length es ≤ position + 1 → count_by (at_most position) (own_positions part n es) ≡ length (own_from 16 part n es)
count_early part n position [] within = refl
count_early part n position (e ∷ es) within =
    early_by position n e (is_of 16 part e.write) (own_from 16 part (n + 1) es) (omega arith) (count_early part (n + 1) position es (omega arith))

late_by : (position n : ℕ) (e : Entry) (b : Bool) (own : List Placed) → position < n → count_by (at_most position) (map (λ p. p.position) own) ≡ 0 →
    count_by (at_most position) (map (λ p. p.position) (cond b (placed n e ∷ []) [] ++ own)) ≡ 0
late_by position n e true own less rest =
    let test : nat_le n position ≡ false = grind (arith, nat_tests) in
    sum_by-cons (λ m. cond (nat_le m position) 1 0) n (map (λ p. p.position) own) ∙ (λ i. cond (test i) 1 0 + rest i) ∙ omega arith
late_by position n e false own less rest = rest

-- and of entries after it none is
count_late : (part n position : ℕ) (es : History) → position < n → count_by (at_most position) (own_positions part n es) ≡ 0
count_late part n position [] less = refl
count_late part n position (e ∷ es) less =
    late_by position n e (is_of 16 part e.write) (own_from 16 part (n + 1) es) less (count_late part (n + 1) position es (omega arith))

-- of those of some entries and then of others
positions-append : (part n : ℕ) (early middle : History) → own_positions part n (early ++ middle) ≡ own_positions part n early ++ own_positions part (n + length early) middle
positions-append part n early middle =
    ap (map (λ p. p.position)) (own_from-append 16 part n early middle) ∙ map-append (λ (p : Placed). p.position) (own_from 16 part n early) (own_from 16 part (n + length early) middle)

-- up to the position of the last of some first entries there are as many as these have
count_first : (part n position : ℕ) (early middle : History) → n + length early ≡ position + 1 → count_by (at_most position) (own_positions part n (early ++ middle)) ≡ length (own_from 16 part n early)
count_first part n position early middle at =
    let first = count_early part n position early (omega arith) in
    let others = count_late part (n + length early) position middle (omega arith) in
    ap (count_by (at_most position)) (positions-append part n early middle)
    ∙ sum_by-append (λ m. cond (nat_le m position) 1 0) (own_positions part n early) (own_positions part (n + length early) middle)
    ∙ (λ i. first i + others i) ∙ omega arith

-- ---- one entry more, and some first ones less

one_position : (n : ℕ) (e : Entry) (b : Bool) → map (λ (p : Placed). p.position) (cond b (placed n e ∷ []) [] ++ []) ≡ cond b (n ∷ []) []
one_position n e true = refl
one_position n e false = refl

-- nothing is known of no entries
pub numbered_none : (lacks : ℕ) (es : History) (parts : List Numbers) → es ≡ [] → ((part : ℕ) → positions_of part parts ≡ []) → AreNumbered lacks es parts
numbered_none lacks es parts none empty = λ part. empty part ∙ ap (own_positions part (lacks + 1)) (sym none)

-- the same positions of the same entries
pub numbered_as : (lacks lacks' : ℕ) (es es' : History) (old new : List Numbers) → lacks' ≡ lacks → es' ≡ es → AreNumbered lacks es old → ((part : ℕ) → positions_of part new ≡ positions_of part old) → AreNumbered lacks' es' new
numbered_as lacks lacks' es es' old new same_lacks same_entries numbered same = λ part. same part ∙ numbered part ∙ (λ i. own_positions part (sym same_lacks i + 1) (sym same_entries i))

-- the position of the next entry is added to its part
pub numbered_more : (lacks position : ℕ) (es : History) (e : Entry) (old new : List Numbers) → position ≡ lacks + length es + 1 → AreNumbered lacks es old →
    ((part : ℕ) → positions_of part new ≡ positions_of part old ++ cond (is_of 16 part e.write) (position ∷ []) []) → AreNumbered lacks (es ++ e ∷ []) new
numbered_more lacks position es e old new at numbered adds = λ part.
    let here : lacks + 1 + length es ≡ position = omega arith in
    adds part
    ∙ ap (λ ps. ps ++ cond (is_of 16 part e.write) (position ∷ []) []) (numbered part)
    ∙ ap (λ ps. own_positions part (lacks + 1) es ++ ps) (sym (ap (λ n. own_positions part n (e ∷ [])) here ∙ one_position position e (is_of 16 part e.write)))
    ∙ sym (positions-append part (lacks + 1) es (e ∷ []))

-- a list without its first part
drop_first : {A : Type 0} (xs ys : List A) → drop (length xs) (xs ++ ys) ≡ ys
drop_first xs ys = drop-append-le (length xs) xs ys (omega arith) ∙ ap (λ zs. zs ++ ys) (drop_all (length xs) xs (omega arith))

take_first : {A : Type 0} (xs ys : List A) → take (length xs) (xs ++ ys) ≡ xs
take_first xs ys = take-append-le (length xs) xs ys (omega arith) ∙ take_all (length xs) xs (omega arith)

-- the positions up to a floor are taken out, and the entries up to there
pub numbered_less : (lacks floor : ℕ) (es : History) (old new : List Numbers) → lacks ≤ floor → floor ≤ lacks + length es → AreNumbered lacks es old →
    ((part : ℕ) → AscendBy (λ n. n) 0 (positions_of part old) → positions_of part new ≡ drop (count_by (λ n. nat_le n floor) (positions_of part old)) (positions_of part old)) → AreNumbered floor (drop (floor - lacks) es) new
numbered_less lacks floor es old new order within numbered drops = λ part.
    let early : History = take (floor - lacks) es in
    let middle : History = drop (floor - lacks) es in
    let whole : es ≡ early ++ middle = sym (take-append-drop (floor - lacks) es) in
    let at : lacks + 1 + length early ≡ floor + 1 = omega (arith, length-take (floor - lacks) es) in
    let known : positions_of part old ≡ own_positions part (lacks + 1) (early ++ middle) = numbered part ∙ ap (own_positions part (lacks + 1)) whole in
    let ascends : AscendBy (λ n. n) 0 (positions_of part old) = subst (AscendBy (λ n. n) 0) (sym known) (ascend_positions part (lacks + 1) (early ++ middle)) in
    let count : count_by (λ n. nat_le n floor) (positions_of part old) ≡ length (own_positions part (lacks + 1) early) =
    ap (count_by (at_most floor)) known ∙ count_first part (lacks + 1) floor early middle at ∙ sym (length-map (own_from 16 part (lacks + 1) early) (λ p. p.position)) in
    drops part ascends
    ∙ (λ i. drop (count i) (known i))
    ∙ ap (drop (length (own_positions part (lacks + 1) early))) (positions-append part (lacks + 1) early middle)
    ∙ drop_first (own_positions part (lacks + 1) early) (own_positions part (lacks + 1 + length early) middle)
    ∙ ap (λ n. own_positions part n middle) at

-- ---- those between two positions

-- where those between two positions stand: from one place up to another
pub record Cuts (part lacks from to : ℕ) (es : History) (first last : ℕ) : Type 0 where
  pub order : first ≤ last
  pub within : last ≤ length (own_from 16 part (lacks + 1) es)
  pub between : take (last - first) (drop first (own_from 16 part (lacks + 1) es)) ≡ own_from 16 part (from + 1) (take (to - from) (drop (from - lacks) es))

-- two counts find them
pub cuts : (part lacks from to : ℕ) (es : History) (ps : List ℕ) (first last : ℕ) → lacks ≤ from → from ≤ to → to ≤ lacks + length es → ps ≡ own_positions part (lacks + 1) es →
    (AscendBy (λ n. n) 0 ps → first ≡ count_by (λ n. nat_le n from) ps) → (AscendBy (λ n. n) 0 ps → last ≡ count_by (λ n. nat_le n to) ps) → Cuts part lacks from to es first last
cuts part lacks from to es ps first last kept order within numbered counts_first counts_last =
    let early : History = take (from - lacks) es in
    let rest : History = drop (from - lacks) es in
    let middle : History = take (to - from) rest in
    let late : History = drop (to - from) rest in
    let left : length rest ≡ length es - (from - lacks) = length-drop (from - lacks) es in
    let long_early : length early ≡ from - lacks = omega (arith, length-take (from - lacks) es) in
    let long_middle : length middle ≡ to - from = omega (arith, length-take (to - from) rest, left) in
    let halves : rest ≡ middle ++ late = sym (take-append-drop (to - from) rest) in
    let whole : es ≡ early ++ (middle ++ late) = sym (take-append-drop (from - lacks) es) ∙ ap (λ xs. early ++ xs) halves in
    let ascends : AscendBy (λ m. m) 0 ps = subst (AscendBy (λ m. m) 0) (sym numbered) (ascend_positions part (lacks + 1) es) in
    let own_a : List Placed = own_from 16 part (lacks + 1) early in
    let own_b : List Placed = own_from 16 part (lacks + 1 + length early) middle in
    let own_c : List Placed = own_from 16 part (lacks + 1 + length early + length middle) late in
    let all : own_from 16 part (lacks + 1) es ≡ own_a ++ (own_b ++ own_c) =
    ap (own_from 16 part (lacks + 1)) whole ∙ own_from-append 16 part (lacks + 1) early (middle ++ late) ∙ ap (λ xs. own_a ++ xs) (own_from-append 16 part (lacks + 1 + length early) middle late) in
    let f : first ≡ length own_a = counts_first ascends ∙ ap (count_by (at_most from)) (numbered ∙ ap (own_positions part (lacks + 1)) whole) ∙ count_first part (lacks + 1) from early (middle ++ late) (omega arith) in
    let both : length (early ++ middle) ≡ length early + length middle = length-append early middle in
    let l : last ≡ length (own_from 16 part (lacks + 1) (early ++ middle)) =
    counts_last ascends ∙ ap (count_by (at_most to)) (numbered ∙ ap (own_positions part (lacks + 1)) (whole ∙ sym (append_assoc early middle late))) ∙ count_first part (lacks + 1) to (early ++ middle) late (omega arith) in
    let few : length (own_from 16 part (lacks + 1) (early ++ middle)) ≡ length own_a + length own_b = ap length (own_from-append 16 part (lacks + 1) early middle) ∙ length-append own_a own_b in
    let more : length (own_from 16 part (lacks + 1) es) ≡ length own_a + (length own_b + length own_c) = ap length all ∙ length-append own_a (own_b ++ own_c) ∙ ap (λ k. length own_a + k) (length-append own_b own_c) in
    let so_many : last - first ≡ length own_b = omega arith in
    let at : lacks + 1 + length early ≡ from + 1 = omega arith in
    record {
      order = omega arith;
      within = omega arith;
      between = (λ i. take (so_many i) (drop (f i) (all i)))
          ∙ ap (take (length own_b)) (drop_first own_a (own_b ++ own_c))
          ∙ take_first own_b own_c
          ∙ ap (λ m. own_from 16 part m middle) at;
    }

-- ---- what stands at them

-- of an entry of a part that stands at a place among those of the part: its position, and what stands there among all
pub record StandsAt (n : ℕ) (es : History) (x : Placed) : Type 0 where
  pub low : n ≤ x.position
  pub high : x.position < n + length es
  pub is : (d : Entry) → get_or es (x.position - n) d ≡ x.entry

stands_first : (n : ℕ) (e : Entry) (es : History) (x : Placed) → x ≡ placed n e → StandsAt n (e ∷ es) x
stands_first n e es x at =
    let position : x.position ≡ n = ap (λ (p : Placed). p.position) at in
    record {
      low = omega arith;
      high = omega arith;
      is = λ d. ap (λ k. get_or (e ∷ es) k d) (let z : x.position - n ≡ 0 = omega arith in z) ∙ ap (λ (p : Placed). p.entry) (sym at);
    }

stands_later : (n : ℕ) (e : Entry) (es : History) (x : Placed) → StandsAt (n + 1) es x → StandsAt n (e ∷ es) x
stands_later n e es x later =
    let low = later.low in
    let high = later.high in
    record {
      low = omega arith;
      high = omega arith;
      is = λ d. ap (λ k. get_or (e ∷ es) k d) (let s : x.position - n ≡ suc (x.position - (n + 1)) = omega arith in s) ∙ later.is d;
    }

stands_by : (n : ℕ) (e : Entry) (es : History) (b : Bool) (own : List Placed) (i : ℕ) (x : Placed) → i < length (cond b (placed n e ∷ []) [] ++ own) → x ≡ get_or (cond b (placed n e ∷ []) [] ++ own) i x →
    ((j : ℕ) → j < length own → x ≡ get_or own j x → StandsAt (n + 1) es x) → StandsAt n (e ∷ es) x
stands_by n e es true own zero x less is later = stands_first n e es x is
stands_by n e es true own (suc i) x less is later = stands_later n e es x (later i (omega arith) is)
stands_by n e es false own i x less is later = stands_later n e es x (later i less is)

stands_at : (part n : ℕ) (es : History) (i : ℕ) (x : Placed) → i < length (own_from 16 part n es) → x ≡ get_or (own_from 16 part n es) i x → StandsAt n es x
stands_at part n [] i x less is = absurd (omega arith)
stands_at part n (e ∷ es) i x less is =
    stands_by n e es (is_of 16 part e.write) (own_from 16 part (n + 1) es) i x less is (λ j below at. stands_at part (n + 1) es j x below at)

-- a place within a list says the same with each default
pub any_default : {A : Type 0} (xs : List A) (i : ℕ) (d e : A) → i < length xs → get_or xs i d ≡ get_or xs i e
any_default [] i d e less = absurd (omega arith)
any_default (x ∷ xs) zero d e less = refl
any_default (x ∷ xs) (suc i) d e less = any_default xs i d e (omega arith)

at_map : (own : List Placed) (i : ℕ) (d : Placed) → i < length own → get_or (map (λ p. p.position) own) i d.position ≡ (get_or own i d).position
at_map [] i d less = absurd (omega arith)
at_map (p ∷ own) zero d less = refl
at_map (p ∷ own) (suc i) d less = at_map own i d (omega arith)

-- the position at a place, and the entry that stands there, are the one of the part at that place
pub own_at : (part lacks : ℕ) (es : History) (ps : List ℕ) (i position : ℕ) → ps ≡ own_positions part (lacks + 1) es → i < length (own_from 16 part (lacks + 1) es) → position ≡ get_or ps i position →
    (x : Placed) × (x ≡ get_or (own_from 16 part (lacks + 1) es) i x) × (x.position ≡ position) × StandsAt (lacks + 1) es x
own_at part lacks [] ps i position numbered less is = absurd (omega arith)
own_at part lacks (e ∷ es) ps i position numbered less is =
    let own : List Placed = own_from 16 part (lacks + 1) (e ∷ es) in
    let x : Placed = get_or own i (placed position e) in
    let here : x ≡ get_or own i x = any_default own i (placed position e) x less in
    (x, here, sym (is ∙ ap (λ qs. get_or qs i position) numbered ∙ at_map own i (placed position e) less), stands_at part (lacks + 1) (e ∷ es) i x less here)

-- in a log that lacks some first entries of a history
pub rest_of_log : (lacks from count : ℕ) (h : History) → lacks ≤ from → take count (drop (from - lacks) (drop lacks h)) ≡ take count (drop from h)
rest_of_log lacks from count h order = ap (take count) (drop-drop (from - lacks) lacks h ∙ ap (λ n. drop n h) (let e : lacks + (from - lacks) ≡ from = omega arith in e))

-- the same of a log of a history, whose positions are known
pub cuts_of_log : (part from to : ℕ) (log : Stored) (ps : List ℕ) (first last : ℕ) → (h : History) × (lacks : ℕ) × IsLog h lacks log × (lacks ≤ from) × (to ≤ length h) → from ≤ to → ps ≡ own_positions part (log.lacks + 1) log.entries →
    (AscendBy (λ n. n) 0 ps → first ≡ count_by (λ n. nat_le n from) ps) → (AscendBy (λ n. n) 0 ps → last ≡ count_by (λ n. nat_le n to) ps) → Cuts part log.lacks from to log.entries first last
cuts_of_log part from to log ps first last known order numbered counts_first counts_last =
    let lacked : log.lacks ≡ known.1 = known.2.lacked in
    let inside : known.1 ≤ length known.0 = known.2.within in
    let long : length log.entries ≡ length known.0 - known.1 = ap length known.2.entries ∙ length-drop known.1 known.0 in
    let low : known.1 ≤ from = known.3 in
    let high : to ≤ length known.0 = known.4 in
    cuts part log.lacks from to log.entries ps first last (omega arith) order (omega arith) numbered counts_first counts_last

-- what is found in the log is what the history has there
pub own_of_log : (part from to : ℕ) (log : Stored) (h : History) (lacks : ℕ) → IsLog h lacks log → lacks ≤ from →
    own_from 16 part (from + 1) (take (to - from) (drop (from - log.lacks) log.entries)) ≡ own_from 16 part (from + 1) (take (to - from) (drop from h))
own_of_log part from to log h lacks is low =
    ap (own_from 16 part (from + 1)) ((λ i. take (to - from) (drop (from - is.lacked i) (is.entries i))) ∙ rest_of_log lacks from (to - from) h low)

-- an equal entry with the position is what stands there
pub placed_at : (lacks position : ℕ) (es : History) (x : Placed) (e copy : Entry) → x.position ≡ position → StandsAt (lacks + 1) es x → e ≡ get_or es (position - 1 - lacks) e → copy ≡ e → placed position copy ≡ x
placed_at lacks position es x e copy same stands is equal =
    let there : position - 1 - lacks ≡ x.position - (lacks + 1) = omega (arith, same) in
    let entry : copy ≡ x.entry = equal ∙ is ∙ ap (λ k. get_or es k e) there ∙ stands.is e in
    (λ i. placed (sym same i) (entry i))

-- ---- the positions of one part among those of all

-- where a part has the same positions, each has
pub set_same : (parts : List Numbers) (i : ℕ) (x : Numbers) → x.positions ≡ positions_of i parts → (part : ℕ) → positions_of part (set parts i x) ≡ positions_of part parts
set_same [] i x same part = refl
set_same (p ∷ parts) zero x same zero = same
set_same (p ∷ parts) zero x same (suc part) = refl
set_same (p ∷ parts) (suc i) x same zero = refl
set_same (p ∷ parts) (suc i) x same (suc part) = set_same parts i x same part

-- where a part has one position more, it alone has
pub set_more : (parts : List Numbers) (i position : ℕ) (x : Numbers) → i < length parts → x.positions ≡ positions_of i parts ++ position ∷ [] → (part : ℕ) (b : Bool) → (i == part) ≡ b →
    positions_of part (set parts i x) ≡ positions_of part parts ++ cond b (position ∷ []) []
set_more parts i position x less more part true test =
    let same : part ≡ i = sym (eqb-true i part test) in
    ap (λ n. positions_of n (set parts i x)) same
    ∙ ap (λ (n : Numbers). n.positions) (get_or-set_same parts i x (record { positions = []; room = 0 }) less) ∙ more ∙ ap (λ n. positions_of n parts ++ position ∷ []) (sym same)
set_more parts i position x less more part false test =
    let other : part ≢ i = λ e. eqb-false i part test (sym e) in
    ap (λ (n : Numbers). n.positions) (get_or-set_other parts i part x (record { positions = []; room = 0 }) other) ∙ sym (append-nil (positions_of part parts))

-- no positions in one part more
pub none_more : (parts : List Numbers) (x : Numbers) → x.positions ≡ [] → ((part : ℕ) → positions_of part parts ≡ []) → (part : ℕ) → positions_of part (parts ++ x ∷ []) ≡ []
none_more [] x none all zero = none
none_more [] x none all (suc part) = refl
none_more (p ∷ parts) x none all zero = all zero
none_more (p ∷ parts) x none all (suc part) = none_more parts x none (λ n. all (suc n)) part

-- what is read at the place of a part is the part's
pub own_numbers : (parts : List Numbers) (i : ℕ) (x : Numbers) → i < length parts → x ≡ get_or parts i x → x ≡ numbers_of i parts
own_numbers parts i x less is = is ∙ any_default parts i x (record { positions = []; room = 0 }) less

-- where a part has room, it has
pub room_set : (parts : List Numbers) (i : ℕ) (x : Numbers) → i < length parts → 0 < x.room → (part : ℕ) → (i == part) ≡ true → 0 < (numbers_of part (set parts i x)).room
room_set parts i x less room part test =
    subst (λ (n : ℕ). 0 < (numbers_of n (set parts i x)).room) (eqb-true i part test)
    (subst (λ (n : Numbers). 0 < n.room) (sym (get_or-set_same parts i x (record { positions = []; room = 0 }) less)) room)

-- of a part that there is not there are none
pub no_numbers : (parts : List Numbers) (i : ℕ) → length parts ≤ i → numbers_of i parts ≡ record { positions = []; room = 0 }
no_numbers [] i past = refl
no_numbers (p ∷ parts) zero past = absurd (omega arith)
no_numbers (p ∷ parts) (suc i) past = no_numbers parts i (omega arith)

pub within_parts : (parts : List Numbers) (i place : ℕ) → place < length (positions_of i parts) → i < length parts
within_parts [] i place less = absurd (omega arith)
within_parts (p ∷ parts) zero place less = omega arith
within_parts (p ∷ parts) (suc i) place less = omega (arith, within_parts parts i place less)

-- the others are as they were
pub set_leaves : (parts : List Numbers) (i : ℕ) (x : Numbers) (part : ℕ) → part ≢ i → positions_of part (set parts i x) ≡ positions_of part parts
set_leaves parts i x part other = ap (λ (n : Numbers). n.positions) (get_or-set_other parts i part x (record { positions = []; room = 0 }) other)

-- of a part those up to a position are taken out
pub set_drops : (parts : List Numbers) (i position : ℕ) (old new : Numbers) → i < length parts → old ≡ get_or parts i old →
    (AscendBy (λ n. n) 0 old.positions → new.positions ≡ drop (count_by (λ n. nat_le n position) old.positions) old.positions) →
    AscendBy (λ n. n) 0 (positions_of i parts) → positions_of i (set parts i new) ≡ drop (count_by (λ n. nat_le n position) (positions_of i parts)) (positions_of i parts)
set_drops parts i position old new less is drops ascends =
    let own : old.positions ≡ positions_of i parts = ap (λ (n : Numbers). n.positions) (own_numbers parts i old less is) in
    ap (λ (n : Numbers). n.positions) (get_or-set_same parts i new (record { positions = []; room = 0 }) less)
    ∙ drops (subst (AscendBy (λ n. n) 0) (sym own) ascends)
    ∙ ap (λ ps. drop (count_by (λ n. nat_le n position) ps) ps) own

-- one part after another
pub dropped_at : (all before after : List Numbers) (part here position : ℕ) → part ≡ here → positions_of here before ≡ positions_of here all →
    (AscendBy (λ n. n) 0 (positions_of here before) → positions_of here after ≡ drop (count_by (λ n. nat_le n position) (positions_of here before)) (positions_of here before)) →
    AscendBy (λ n. n) 0 (positions_of part all) → positions_of part after ≡ drop (count_by (λ n. nat_le n position) (positions_of part all)) (positions_of part all)
dropped_at all before after part here position same left drops ascends =
    let known : positions_of here before ≡ positions_of part all = left ∙ ap (λ n. positions_of n all) (sym same) in
    ap (λ n. positions_of n after) same
    ∙ drops (subst (AscendBy (λ n. n) 0) (sym known) ascends)
    ∙ ap (λ ps. drop (count_by (λ n. nat_le n position) ps) ps) known

-- a floor within the history is within what the log stores
pub within_log : (log : Stored) (floor : ℕ) → (h : History) × (lacks : ℕ) × IsLog h lacks log × (lacks ≤ floor) × (floor ≤ length h) → (log.lacks ≤ floor) × (floor ≤ log.lacks + length log.entries)
within_log log floor known =
    let lacked : log.lacks ≡ known.1 = known.2.lacked in
    let inside : known.1 ≤ length known.0 = known.2.within in
    let long : length log.entries ≡ length known.0 - known.1 = ap length known.2.entries ∙ length-drop known.1 known.0 in
    let low : known.1 ≤ floor = known.3 in
    let high : floor ≤ length known.0 = known.4 in
    (omega arith, omega arith)
