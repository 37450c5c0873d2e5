-- How much of a line entries take, and how many it has room for.
use Rattle.std.proofs.Common.{◌≡◌, ℕ, zero, suc, ◌+◌, ◌-◌, ◌<◌, ◌≤◌, ◌⊎◌, inl, inr, List, [], ◌∷◌, ◌++◌, length, take, map, decimal, refl, sym, ap, ◌∙◌, subst, arith, length-append, le-leb, take-suc}
use Rattle.std.specs.Prelude.{codes, if◌then◌else◌, true, false, get_or}
use Rattle.std.proofs.lemmas.Bool.{cases_lt, lt-leb}
use Rattle.std.proofs.lemmas.List.{take_all, length-take-le}
use Rattle.json.specs.Print.{quoted}
use Rattle.serde_json.specs.View.{items_of}
use Rattle.serde_json.specs.Written.{compact_text, items_text}
use Rattle.semantics.specs.Texts.{Text}
use Rattle.semantics.specs.Histories.{Entry, History}
use Rattle.protocol.specs.Lines.{line_limit}
use Rattle.protocol.specs.Replies.{fed, entry_item, reply_text}
use Rattle.protocol.specs.Feeds.{longest}

-- the bytes of an entry and of the comma behind it
abbrev pub spent_by : Entry → ℕ
spent_by e = length (compact_text (entry_item e)) + 1

-- those of entries, each with a comma behind it
abbrev pub spent : History → ℕ
spent [] = 0
spent (e ∷ es) = spent_by e + spent es

-- the line without entries
abbrev pub frame : ℕ → ℕ → ℕ
frame from n = length (reply_text (fed from n []))

-- what entries and their commas may take
abbrev pub room_for : ℕ → ℕ → ℕ
room_for from n = (line_limit + 2) - frame from n

-- ---- the length of a line

-- the parts of a line, with its byte 10
line_parts : (word q p items : Text) →
    length ((91 ∷ (word ++ (44 ∷ (q ++ (44 ∷ (p ++ (44 ∷ ((91 ∷ items) ++ 93 ∷ [])))))))) ++ 10 ∷ []) ≡ (((length word + length q) + length p) + length items) + 7
line_parts word q p items =
    let a = length-append (91 ∷ (word ++ (44 ∷ (q ++ (44 ∷ (p ++ (44 ∷ ((91 ∷ items) ++ 93 ∷ [])))))))) (10 ∷ []) in
    let b = length-append word (44 ∷ (q ++ (44 ∷ (p ++ (44 ∷ ((91 ∷ items) ++ 93 ∷ [])))))) in
    let c = length-append q (44 ∷ (p ++ (44 ∷ ((91 ∷ items) ++ 93 ∷ [])))) in
    let d = length-append p (44 ∷ ((91 ∷ items) ++ 93 ∷ [])) in
    let e = length-append (91 ∷ items) (93 ∷ []) in
    omega arith

-- items behind others, with the bracket that closes them
length-later : (es : History) → length (items_text true (items_of (map entry_item es))) ≡ spent es + 1
length-later [] = refl
length-later (e ∷ es) =
    let a = length-append (compact_text (entry_item e)) (items_text true (items_of (map entry_item es))) in
    let b = length-later es in
    omega arith

-- the line of entries is that without them and what they take, but for one comma
pub length-line : (from n : ℕ) (e : Entry) (es : History) → length (reply_text (fed from n (e ∷ es))) + 1 ≡ frame from n + spent (e ∷ es)
unfolding reply_text
length-line from n e es =
    let items = items_text false (items_of (map entry_item (e ∷ es))) in
    let a = line_parts (quoted (codes "entries")) (decimal from) (decimal n) items in
    let b = line_parts (quoted (codes "entries")) (decimal from) (decimal n) (93 ∷ []) in
    let c = length-append (compact_text (entry_item e)) (items_text true (items_of (map entry_item es))) in
    let d = length-later es in
    omega arith

-- ---- which lines are within the limit

fits : (from n : ℕ) (es : History) → spent es ≤ room_for from n → (es ≡ []) ⊎ (length (reply_text (fed from n es)) ≤ line_limit + 1)
fits from n [] h = inl refl
fits from n (e ∷ es) h = inr (omega (arith, length-line from n e es))

fits_not : (from n : ℕ) (es : History) → room_for from n < spent es → line_limit + 1 < length (reply_text (fed from n es))
fits_not from n [] h = absurd (omega arith)
fits_not from n (e ∷ es) h = omega (arith, length-line from n e es)

-- more entries take no less
spent-more : (es : History) (i j : ℕ) → i ≤ j → spent (take i es) ≤ spent (take j es)
spent-more es zero j h = omega arith
spent-more [] (suc i) j h = omega arith
spent-more (e ∷ es) (suc i) zero h = absurd (omega arith)
spent-more (e ∷ es) (suc i) (suc j) h = omega (arith, spent-more es i j (omega arith))

pub spent-append : (es more : History) → spent (es ++ more) ≡ spent es + spent more
spent-append [] more = omega arith
spent-append (e ∷ es) more = omega (arith, spent-append es more)

-- ---- the longest beginning

-- the line of so many entries, or of all where there are fewer
abbrev line_length : ℕ → ℕ → History → ℕ → ℕ
line_length from n es j = length (reply_text (fed from n (take j es)))

longest-fits : (from n : ℕ) (es : History) (k : ℕ) → line_length from n es (suc k) ≤ line_limit + 1 → longest from n es (suc k) ≡ take (suc k) es
unfolding longest
longest-fits from n es k h = ap (λ b. if b then take (suc k) es else longest from n es k) (le-leb (line_length from n es (suc k)) (line_limit + 1) h)

longest-fits_not : (from n : ℕ) (es : History) (k : ℕ) → line_limit + 1 < line_length from n es (suc k) → longest from n es (suc k) ≡ longest from n es k
unfolding longest
longest-fits_not from n es k h = ap (λ b. if b then take (suc k) es else longest from n es k) (lt-leb (line_length from n es (suc k)) (line_limit + 1) h)

-- the line of none or of so many is within the limit
abbrev Fitting : ℕ → ℕ → History → ℕ → Type 0
Fitting from n es count = (count ≡ 0) ⊎ (line_length from n es count ≤ line_limit + 1)

-- so many entries are as many, or their line is beyond the limit
abbrev IsTooMuch : ℕ → ℕ → History → ℕ → ℕ → Type 0
IsTooMuch from n es count j = (take j es ≡ take count es) ⊎ (line_limit + 1 < line_length from n es j)

all_of : (from n : ℕ) (es : History) (k : ℕ) → Fitting from n es (suc k) → longest from n es (suc k) ≡ take (suc k) es
all_of from n es k (inl none) = absurd (omega (arith, none))
all_of from n es k (inr fitting) = longest-fits from n es k fitting

-- what fits, of which there is no more than so many, is they
no_more : (from n : ℕ) (es : History) (count k : ℕ) → line_length from n es (suc k) ≤ line_limit + 1 → IsTooMuch from n es count (suc k) → longest from n es (suc k) ≡ take count es
no_more from n es count k fitting (inl same) = longest-fits from n es k fitting ∙ same
no_more from n es count k fitting (inr long) = absurd (omega arith)

-- a number is that of the longest beginning where the line of so many fits, and more do not, or are no more
longest-none : (from n : ℕ) (es : History) → longest from n es 0 ≡ []
unfolding longest
longest-none from n es = refl

-- one number of entries less is tried where so many do not fit
longest_by : (from n : ℕ) (es : History) (count k : ℕ) → (count ≤ k → longest from n es k ≡ take count es) → count ≤ suc k → Fitting from n es count
    → IsTooMuch from n es count (suc k) → (count < suc k) ⊎ (suc k ≤ count)
    → (line_limit + 1 < line_length from n es (suc k)) ⊎ (line_length from n es (suc k) ≤ line_limit + 1) → longest from n es (suc k) ≡ take count es
longest_by from n es count k less inside good more (inl fewer) (inl long) = longest-fits_not from n es k long ∙ less (omega arith)
longest_by from n es count k less inside good more (inl fewer) (inr fitting) = no_more from n es count k fitting more
longest_by from n es count k less inside good more (inr all) long =
    let same : suc k ≡ count = omega arith in
    subst (λ m. longest from n es (suc k) ≡ take m es) same (all_of from n es k (subst (Fitting from n es) (sym same) good))

-- where there is no more, it is all
too_much : (from n : ℕ) (es : History) (count j : ℕ) → ((i : ℕ) → count < i → IsTooMuch from n es count i) → (count < j) ⊎ (j ≤ count) → count ≤ j → IsTooMuch from n es count j
too_much from n es count j more (inl fewer) inside = more j fewer
too_much from n es count j more (inr all) inside =
    let same : count ≡ j = omega arith in
    inl (ap (λ m. take m es) (sym same))

-- a number is that of the longest beginning where the line of so many fits, and more do not, or are no more
longest-is : (from n : ℕ) (es : History) (count k : ℕ) → count ≤ k → Fitting from n es count
    → ((j : ℕ) → count < j → IsTooMuch from n es count j) → longest from n es k ≡ take count es
longest-is from n es zero zero inside good more = longest-none from n es
longest-is from n es (suc count) zero inside good more = absurd (omega arith)
longest-is from n es count (suc k) inside good more =
    longest_by from n es count k (λ h. longest-is from n es count k h good more) inside good (too_much from n es count (suc k) more (cases_lt count (suc k)) inside)
    (cases_lt count (suc k)) (cases_lt (line_limit + 1) (line_length from n es (suc k)))

-- ---- the entries counted so far

-- what was taken for so many entries is within the room
fitting_by : (from n : ℕ) (es : History) (count : ℕ) → count ≤ length es
    → (take count es ≡ []) ⊎ (line_length from n es count ≤ line_limit + 1) → Fitting from n es count
fitting_by from n es count inside (inl none) = inl (sym (length-take-le count es inside) ∙ ap length none)
fitting_by from n es count inside (inr h) = inr h

fitting : (from n : ℕ) (es : History) (count : ℕ) → count ≤ length es → spent (take count es) ≤ room_for from n → Fitting from n es count
fitting from n es count inside h = fitting_by from n es count inside (fits from n (take count es) h)

-- all entries fit
pub longest-all : (from n : ℕ) (es : History) (k : ℕ) → length es ≤ k → spent (take (length es) es) ≤ room_for from n → longest from n es k ≡ take (length es) es
longest-all from n es k short h =
    longest-is from n es (length es) k short (fitting from n es (length es) (omega arith) h)
    (λ j more. inl (take_all j es (omega arith) ∙ sym (take_all (length es) es (omega arith))))

-- so many fit, and one more does not
pub longest-some : (from n : ℕ) (es : History) (count k : ℕ) → count < length es → length es ≤ k
    → spent (take count es) ≤ room_for from n → room_for from n < spent (take (suc count) es) → longest from n es k ≡ take count es
longest-some from n es count k inside short h beyond =
    longest-is from n es count k (omega arith) (fitting from n es count (omega arith) h)
    (λ j more. inr (fits_not from n (take j es) (omega (arith, spent-more es (suc count) j more, beyond))))

-- what so many entries and the next take
pub spent-next : (es : History) (i : ℕ) (e : Entry) → i < length es → e ≡ get_or es i e → spent (take (suc i) es) ≡ spent (take i es) + spent_by e
spent-next es i e inside is =
    let more : take (suc i) es ≡ take i es ++ e ∷ [] = take-suc es i e inside ∙ ap (λ (x : Entry). take i es ++ x ∷ []) (sym is) in
    let parts = spent-append (take i es) (e ∷ []) in
    ap spent more ∙ parts ∙ omega arith
