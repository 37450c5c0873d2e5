-- The entries that items are, one after another, and which items are none.
use Rattle.std.proofs.Common.{◌≡◌, ℕ, zero, suc, ◌+◌, ◌<◌, ◌≤◌, List, [], ◌∷◌, ◌++◌, length, take, get_or, Option, Some, None, option_map, option_and_then, refl, sym, ap, ◌∙◌, arith}
use Rattle.std.proofs.lemmas.Option.{none-some}
use Rattle.std.proofs.lemmas.List.{take_more}
use Rattle.serde_json.specs.View.{view, items_view}
use Rattle.serde_json.specs.declared.value.Value.{Value}
use Rattle.semantics.specs.Histories.{Entry, History}
use Rattle.protocol.specs.Batches.{second_text, entry_of, entry_of_items, entries_of, batch_of_items}
use Rattle.request_codec.specs.FeedFaults.{IsNone}
use Rattle.request_codec.specs.declared.batch.FeedFault.{FeedFault}
use Rattle.request_codec.specs.declared.batch.FeedFault.TheVariants.{Bad, OutOfMemory}

pub second_few : (vs : List Value) → length vs < 2 → second_text (items_view vs) ≡ None
second_few [] h = refl
second_few (v ∷ []) h = refl
second_few (v ∷ u ∷ vs) h = absurd (omega arith)

pub entry_few : (vs : List Value) → length vs < 2 → entry_of_items (items_view vs) ≡ None
entry_few [] h = refl
entry_few (v ∷ []) h = refl
entry_few (v ∷ u ∷ vs) h = absurd (omega arith)

pub entry_many : (vs : List Value) → 3 ≤ length vs → entry_of_items (items_view vs) ≡ None
entry_many [] h = absurd (omega arith)
entry_many (v ∷ []) h = absurd (omega arith)
entry_many (v ∷ u ∷ []) h = absurd (omega arith)
entry_many (v ∷ u ∷ t ∷ vs) h = refl

pub batch_few : (vs : List Value) → length vs < 4 → batch_of_items (items_view vs) ≡ None
batch_few [] h = refl
batch_few (v ∷ []) h = refl
batch_few (v ∷ u ∷ []) h = refl
batch_few (v ∷ u ∷ t ∷ []) h = refl
batch_few (v ∷ u ∷ t ∷ s ∷ vs) h = absurd (omega arith)

pub batch_many : (vs : List Value) → 5 ≤ length vs → batch_of_items (items_view vs) ≡ None
batch_many [] h = absurd (omega arith)
batch_many (v ∷ []) h = absurd (omega arith)
batch_many (v ∷ u ∷ []) h = absurd (omega arith)
batch_many (v ∷ u ∷ t ∷ []) h = absurd (omega arith)
batch_many (v ∷ u ∷ t ∷ s ∷ []) h = absurd (omega arith)
batch_many (v ∷ u ∷ t ∷ s ∷ r ∷ vs) h = refl

-- where there is no part there is no whole, unless memory ran out
pub none_whole : {A B : Type 0} (part : Option A) (whole : Option B) (fault : FeedFault) → (part ≡ None → whole ≡ None) → IsNone part fault → IsNone whole fault
none_whole part whole Bad from h = from h
none_whole part whole (OutOfMemory memory) from h = tt

-- an entry before others
abbrev before : Option History → Option Entry → Option History
before others first = option_and_then (λ e. option_map (λ es. e ∷ es) others) first

behind : (a : Option Entry) (b c : Option History) (es : History) (e : Entry) → before b a ≡ Some es → ((fs : History) → b ≡ Some fs → c ≡ Some (fs ++ e ∷ [])) → before c a ≡ Some (es ++ e ∷ [])
behind None b c es e h k = absurd (none-some es h)
behind (Some x) None c es e h k = absurd (none-some es h)
behind (Some x) (Some fs) c es e h k = ap (option_map (λ l. x ∷ l)) (k fs refl) ∙ ap (option_map (λ l. l ++ e ∷ [])) h

entries_of-push : (vs : List Value) (v : Value) (es : History) (e : Entry) → entries_of (items_view vs) ≡ Some es → entry_of (view v) ≡ Some e → entries_of (items_view (vs ++ v ∷ [])) ≡ Some (es ++ e ∷ [])
entries_of-push [] v es e h is = ap (before (Some [])) is ∙ ap (option_map (λ l. l ++ e ∷ [])) h
entries_of-push (u ∷ vs) v es e h is =
    behind (entry_of (view u)) (entries_of (items_view vs)) (entries_of (items_view (vs ++ v ∷ []))) es e h (λ fs first. entries_of-push vs v fs e first is)

-- one value more is one entry more
pub entries_of-next : (vs : List Value) (i : ℕ) (v : Value) (es : History) (e : Entry) → i < length vs → v ≡ get_or vs i v
    → entries_of (items_view (take i vs)) ≡ Some es → entry_of (view v) ≡ Some e → entries_of (items_view (take (i + 1) vs)) ≡ Some (es ++ e ∷ [])
entries_of-next vs i v es e inside at h is =
    let more : take (i + 1) vs ≡ take i vs ++ v ∷ [] = take_more vs i v inside ∙ ap (λ (x : Value). take i vs ++ x ∷ []) (sym at) in
    ap (λ l. entries_of (items_view l)) more ∙ entries_of-push (take i vs) v es e h is

none_behind : (a : Option Entry) (b : Option History) → b ≡ None → before b a ≡ None
none_behind None b h = refl
none_behind (Some x) b h = ap (option_map (λ l. x ∷ l)) h

-- where one value is no entry, all are none
pub entries_of-none : (vs : List Value) (i : ℕ) (v : Value) → i < length vs → v ≡ get_or vs i v → entry_of (view v) ≡ None → entries_of (items_view vs) ≡ None
entries_of-none [] i v h at is = absurd (omega arith)
entries_of-none (u ∷ vs) zero v h at is = ap (λ (x : Value). before (entries_of (items_view vs)) (entry_of (view x))) (sym at) ∙ ap (before (entries_of (items_view vs))) is
entries_of-none (u ∷ vs) (suc i) v h at is = none_behind (entry_of (view u)) (entries_of (items_view vs)) (entries_of-none vs i v (omega arith) at is)
