-- What reading a text comes to, and what a join is that was read.
use Rattle.std.proofs.Common.{◌≡◌, ℕ, zero, suc, ◌<◌, ◌≤◌, Bool, true, false, cond, nat_lt, List, [], ◌∷◌, ◌++◌, length, map, find, codes, Option, Some, None, option_map, Result, Ok, Err, refl, sym, ap, ◌∙◌, subst, arith, length-append, append_assoc, le-leb}
use Rattle.std.specs.List.{list_all}
use Rattle.std.proofs.lemmas.Bool.{lt-ltb, le-ltb, ltb-false, and_parts, and_from}
use Rattle.std.proofs.lemmas.List.{append-nil}
use Rattle.std.proofs.lemmas.Option.{none-some, same_Some}
use Rattle.semantics.specs.Texts.{Text, same}
use Rattle.semantics.specs.Patterns.{Pattern, is_pattern}
use Rattle.semantics.specs.Joins.{Operator, Kind, Source, Join, is_join, slots_of, source_slots_of}
use Rattle.semantics.proofs.PieceLemmas.{equal_by_same}
use Rattle.protocol.specs.JoinText.{Token, tokens, operator_words, operator_of, operator_word, read_pattern, next, onto_sources, read_sources, read_some_sources, read_kind, as_join, join_of_tokens, read_join, source_words, pattern_print}
use Rattle.join_lang.specs.Steps.{join_of_output}
use Rattle.join_lang.proofs.SourceLemmas.{ok_is_no_err, same_ok, accept_ok, sources_some}
use Rattle.join_lang.proofs.ReadLemmas.{IsRead, PatternRead, pattern_read, all_below_more, all_below-append}

-- a text of more than 4,096 bytes is refused there
pub long_text : (t : Text) → 4096 < length t → read_join t ≡ Err 4096
unfolding read_join
long_text t h = rw (lt-ltb 4096 (length t) h)

-- any other text is read by its tokens
pub short_text : (t : Text) → length t ≤ 4096 → read_join t ≡ join_of_tokens (length t) (tokens t)
unfolding read_join
short_text t h = rw (le-ltb 4096 (length t) h)

short_by : (t : Text) (j : Join) (b : Bool) → nat_lt 4096 (length t) ≡ b → cond b (Err 4096) (join_of_tokens (length t) (tokens t)) ≡ Ok j → (length t ≤ 4096) × (join_of_tokens (length t) (tokens t) ≡ Ok j)
short_by t j true e h = absurd (ok_is_no_err j 4096 (sym h))
short_by t j false e h = (ltb-false 4096 (length t) e, h)

-- a text that is read has at most 4,096 bytes
pub read_is_short : (t : Text) (j : Join) → read_join t ≡ Ok j → (length t ≤ 4096) × (join_of_tokens (length t) (tokens t) ≡ Ok j)
unfolding read_join
read_is_short t j h = short_by t j (nat_lt 4096 (length t)) refl h

-- ---- operators

find_by : (p q : Text × Operator → Bool) (x : Text × Operator) (xs : List (Text × Operator)) (e : Text × Operator) (b : Bool) → p x ≡ b → list_all q (x ∷ xs) ≡ true → cond b (Some x) (find p xs) ≡ Some e
    → (list_all q xs ≡ true → find p xs ≡ Some e → (p e ≡ true) × (q e ≡ true)) → (p e ≡ true) × (q e ≡ true)
find_by p q x xs e true s h f more =
    let same_entry = same_Some x e f in
    (subst (λ y. p y ≡ true) same_entry s, subst (λ y. q y ≡ true) same_entry (and_parts (q x) (list_all q xs) h).0)
find_by p q x xs e false s h f more = more (and_parts (q x) (list_all q xs) h).1 f

-- an entry that is found passes the search, and what every entry passes
find_passes : (p q : Text × Operator → Bool) (xs : List (Text × Operator)) (e : Text × Operator) → list_all q xs ≡ true → find p xs ≡ Some e → (p e ≡ true) × (q e ≡ true)
find_passes p q [] e h f = absurd (none-some e f)
find_passes p q (x ∷ xs) e h f = find_by p q x xs e (p x) refl h f (λ r g. find_passes p q xs e r g)

operator_by : (t : Text) (o : Option (Text × Operator)) (operator : Operator) → find (λ e. same e.0 t) operator_words ≡ o → option_map (λ e. e.1) o ≡ Some operator → operator_word operator ≡ t
operator_by t None operator e h = absurd (none-some operator h)
operator_by t (Some found) operator e h =
    let w = find_passes (λ e. same e.0 t) (λ e. same (operator_word e.1) e.0) operator_words found refl e in
    ap operator_word (sym (same_Some found.1 operator h)) ∙ equal_by_same (operator_word found.1) found.0 w.1 ∙ equal_by_same found.0 t w.0

-- an operator's word is what it was read from
pub operator_read : (t : Text) (operator : Operator) → operator_of t ≡ Some operator → operator_word operator ≡ t
operator_read t operator h = operator_by t (find (λ e. same e.0 t) operator_words) operator refl h

-- ---- sources

-- the text of a token
abbrev pub text_of : Token → Text
text_of t = t.text

-- sources that were read from tokens
pub record SourcesRead (names more : List Text) (ts : List Token) (ss : List Source) : Type 0 where
  pub patterns : list_all (λ s. is_pattern s.pattern) ss ≡ true
  pub read : IsRead names more (source_slots_of ss) (λ all. source_words all ss ≡ map text_of ts)

-- what sources go to is what was read behind them
pub onto_ok : (s : Source) (r : Result (List Source × List Text) ℕ) (ss : List Source) (more : List Text) → onto_sources s r ≡ Ok (ss, more) → (others : List Source) × (r ≡ Ok (others, more)) × (s ∷ others ≡ ss)
onto_ok s (Err at) ss more e = absurd (ok_is_no_err (ss, more) at (sym e))
onto_ok s (Ok read) ss more e =
    let p = same_ok _ _ e in
    (read.0, ap (λ m. Ok (read.0, m)) (ap (λ (x : List Source × List Text). x.1) p), ap (λ (x : List Source × List Text). x.0) p)

source_more : (names mid more : List Text) (o p : Token) (ts : List Token) (s : Source) (ss : List Source) → operator_word s.operator ≡ o.text → PatternRead names mid p.text s.pattern → SourcesRead mid more ts ss → SourcesRead names more (o ∷ p ∷ ts) (s ∷ ss)
source_more names mid more o p ts s ss word one others =
    let longer : length mid ≤ length more = omega (arith, ap length others.read.grows, length-append mid others.read.new) in
    record {
      patterns = and_from _ _ one.pattern others.patterns;
      read = record {
        new = one.read.new ++ others.read.new;
        grows = others.read.grows ∙ ap (λ x. x ++ others.read.new) one.read.grows ∙ append_assoc names one.read.new others.read.new;
        few = λ n. others.read.few (one.read.few n);
        below = all_below-append (length more) (slots_of s.pattern) (source_slots_of ss) (all_below_more (length mid) (length more) (slots_of s.pattern) longer one.read.below) others.read.below;
        prints = λ rest.
            let whole : more ++ rest ≡ mid ++ (others.read.new ++ rest) = ap (λ x. x ++ rest) others.read.grows ∙ append_assoc mid others.read.new rest in
            let first : pattern_print (more ++ rest) s.pattern ≡ p.text = ap (λ all. pattern_print all s.pattern) whole ∙ one.read.prints (others.read.new ++ rest) in
            ap (λ x. x ∷ pattern_print (more ++ rest) s.pattern ∷ source_words (more ++ rest) ss) word
            ∙ ap (λ x. o.text ∷ x ∷ source_words (more ++ rest) ss) first ∙ ap (λ x. o.text ∷ p.text ∷ x) (others.read.prints rest);
      };
    }

-- what sources are that were read
pub sources_read : (end : ℕ) (names more : List Text) (ts : List Token) (ss : List Source) → read_sources end names ts ≡ Ok (ss, more) → SourcesRead names more ts ss
sources_read end names more [] ss h =
    let w = same_ok _ _ h in
    let all_names = ap (λ (x : List Source × List Text). x.1) w in
    subst (SourcesRead names more []) (ap (λ (x : List Source × List Text). x.0) w) (record {
      patterns = refl;
      read = record {
        new = [];
        grows = sym all_names ∙ sym (append-nil names);
        few = λ n. subst (λ x. length x ≤ 16) all_names n;
        below = refl;
        prints = λ rest. refl;
      };
    })
sources_read end names more (o ∷ []) ss h =
    let w = accept_ok o (operator_of o.text) _ (ss, more) h in
    absurd (ok_is_no_err (ss, more) end (sym w.2))
sources_read end names more (o ∷ p ∷ ts) ss h =
    let w = accept_ok o (operator_of o.text) _ (ss, more) h in
    let v = accept_ok p (read_pattern names p.text) _ (ss, more) w.2 in
    let u = onto_ok (record { operator = w.0; pattern = v.0.0 }) _ ss more v.2 in
    subst (SourcesRead names more (o ∷ p ∷ ts)) u.2
    (source_more names v.0.1 more o p ts (record { operator = w.0; pattern = v.0.0 }) u.0 (operator_read o.text w.0 w.1) (pattern_read names v.0.1 p.text v.0.0 v.1) (sources_read end v.0.1 more ts u.0 u.1))

-- sources that were wanted and read
pub some_sources_read : (end : ℕ) (names more : List Text) (ts : List Token) (ss : List Source) → read_some_sources end names ts ≡ Ok (ss, more) → (read_sources end names ts ≡ Ok (ss, more)) × (length ss ≡ 0 → ⊥)
some_sources_read end names more [] ss h = absurd (ok_is_no_err (ss, more) end (sym h))
some_sources_read end names more (t ∷ ts) ss h = (h, sources_some end names more t ts ss h)

-- ---- the whole join

-- the parts of a join that was read
pub record JoinRead (end : ℕ) (ts : List Token) (j : Join) : Type 0 where
  pub first : Token
  pub second : Token
  pub rest : List Token
  pub names : List Text
  pub tokens_are : ts ≡ first ∷ second ∷ rest
  pub output : read_pattern [] first.text ≡ Some (j.output, names)
  pub equals : second.text ≡ codes "="
  pub kind : (read_kind rest).0 ≡ j.kind
  pub sources : read_some_sources end names (read_kind rest).1 ≡ Ok (j.sources, j.names)

-- a token that was wanted is there
next_ok : {A : Type 0} (end : ℕ) (ts : List Token) (more : Token → List Token → Result A ℕ) (a : A) → next end ts more ≡ Ok a → (t : Token) × (us : List Token) × (ts ≡ t ∷ us) × (more t us ≡ Ok a)
next_ok end [] more a h = absurd (ok_is_no_err a end (sym h))
next_ok end (t ∷ ts) more a h = (t, ts, refl, h)

as_join_ok : (output : Pattern) (kind : Kind) (r : Result (List Source × List Text) ℕ) (j : Join) → as_join output kind r ≡ Ok j → (output ≡ j.output) × (kind ≡ j.kind) × (r ≡ Ok (j.sources, j.names))
as_join_ok output kind (Err at) j h = absurd (ok_is_no_err j at (sym h))
as_join_ok output kind (Ok read) j h =
    let w = same_ok _ j h in
    (ap (λ (x : Join). x.output) w, ap (λ (x : Join). x.kind) w, ap (λ (x : Join). Ok (x.sources, x.names)) w)

equals_by : (t : Text) (b : Bool) (x : Bool) → same t (codes "=") ≡ b → cond b (Some true) None ≡ Some x → t ≡ codes "="
equals_by t true x e h = equal_by_same t (codes "=") e
equals_by t false x e h = absurd (none-some x h)

-- a join that was read has its parts
pub join_read : (end : ℕ) (ts : List Token) (j : Join) → join_of_tokens end ts ≡ Ok j → JoinRead end ts j
join_read end ts j h =
    let a = next_ok end ts _ j h in
    let b = accept_ok a.0 (read_pattern [] a.0.text) _ j a.3 in
    let c = next_ok end a.1 _ j b.2 in
    let d = accept_ok c.0 _ _ j c.3 in
    let e = as_join_ok b.0.0 (read_kind c.1).0 _ j d.2 in
    record {
      first = a.0;
      second = c.0;
      rest = c.1;
      names = b.0.1;
      tokens_are = a.2 ∙ ap (λ x. a.0 ∷ x) c.2;
      output = b.1 ∙ ap (λ p. Some (p, b.0.1)) e.0;
      equals = equals_by c.0.text (same c.0.text (codes "=")) d.0 refl d.1;
      kind = e.1;
      sources = e.2;
    }

-- the parts make the join again
pub join_back : (end : ℕ) (first second : Token) (rest : List Token) (names : List Text) (j : Join) → read_pattern [] first.text ≡ Some (j.output, names) → second.text ≡ codes "=" → (read_kind rest).0 ≡ j.kind
    → read_some_sources end names (read_kind rest).1 ≡ Ok (j.sources, j.names) → join_of_tokens end (first ∷ second ∷ rest) ≡ Ok j
join_back end first second rest names j output equals kind sources =
    rw (output, equals, sources) (ap (λ k. Ok (record { output = j.output; kind = k; sources = j.sources; names = j.names })) kind)

some_length : (n : ℕ) → (n ≡ 0 → ⊥) → 1 ≤ n
some_length zero h = absurd (h refl)
some_length (suc n) h = omega arith

-- what was read is a join
pub read_is_join : (end : ℕ) (ts : List Token) (j : Join) → join_of_tokens end ts ≡ Ok j → is_join j ≡ true
read_is_join end ts j h =
    let r = join_read end ts j h in
    let some = some_sources_read end r.names j.names (read_kind r.rest).1 j.sources r.sources in
    let output = pattern_read [] r.names r.first.text j.output r.output in
    let sources = sources_read end r.names j.names (read_kind r.rest).1 j.sources some.0 in
    let longer : length r.names ≤ length j.names = omega (arith, ap length sources.read.grows, length-append r.names sources.read.new) in
    let few : length j.names ≤ 16 = sources.read.few (output.read.few (omega arith)) in
    let one : 1 ≤ length j.sources = some_length (length j.sources) some.1 in
    and_from _ _ (and_from _ _ (and_from _ _ (and_from _ _ output.pattern sources.patterns) (le-leb 1 (length j.sources) one)) (le-leb (length j.names) 16 few))
    (all_below-append (length j.names) (slots_of j.output) (source_slots_of j.sources) (all_below_more (length r.names) (length j.names) (slots_of j.output) longer output.read.below) sources.read.below)

-- an output, a kind and sources that were read make a join
pub joined : (given : Result Join ℕ) (end : ℕ) (output : Pattern) (names : List Text) (rest left : List Token) (kind : Kind) (sources : List Source) (more listed : List Text)
    → given ≡ join_of_output end output names rest → kind ≡ (read_kind rest).0 → left ≡ (read_kind rest).1 → read_some_sources end names left ≡ Ok (sources, more) → listed ≡ more
    → given ≡ Ok (record { output = output; kind = kind; sources = sources; names = listed })
joined given end output names rest left kind sources more listed e k l s n =
    e ∙ ap (as_join output (read_kind rest).0) (ap (read_some_sources end names) (sym l) ∙ s)
    ∙ ap (λ k. Ok (record { output = output; kind = k; sources = sources; names = more })) (sym k)
    ∙ ap (λ ns. Ok (record { output = output; kind = kind; sources = sources; names = ns })) (sym n)
