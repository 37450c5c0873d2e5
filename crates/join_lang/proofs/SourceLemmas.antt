-- Sources that are read one after another.
use Rattle.std.proofs.Common.{◌≡◌, ℕ, List, [], ◌∷◌, ◌++◌, length, Option, Some, None, Result, Ok, Err, is_ok, MatchOption, refl, sym, ap, ap₂, ◌∙◌, append_assoc, arith, suc}
use Rattle.std.proofs.lemmas.Bool.{false≢true}
use Rattle.semantics.specs.Texts.{Text}
use Rattle.semantics.specs.Patterns.{Pattern}
use Rattle.semantics.specs.Joins.{Operator, Source}
use Rattle.protocol.specs.JoinText.{Token, operator_of, read_pattern, onto_sources, read_sources, read_some_sources, accept}
use Rattle.join_lang.specs.declared.fault.ParseFault.{ParseFault}
use Rattle.join_lang.specs.declared.fault.ParseFault.TheVariants.{Syntax, OutOfMemory}
use Rattle.join_lang.specs.declared.tokens.Word.{Word}
use Rattle.join_lang.specs.Faults.{IsFaultOf}
use Rattle.join_lang.specs.Words.{plain_word, tokens_of}

-- what is read behind sources that were read before
abbrev pub behind_sources : List Source → Result (List Source × List Text) ℕ → Result (List Source × List Text) ℕ
behind_sources before (Err at) = Err at
behind_sources before (Ok read) = Ok (before ++ read.0, read.1)

-- a source goes to those before
pub behind_sources-onto : (before : List Source) (s : Source) (r : Result (List Source × List Text) ℕ) → behind_sources before (onto_sources s r) ≡ behind_sources (before ++ s ∷ []) r
behind_sources-onto before s (Err at) = refl
behind_sources-onto before s (Ok read) = ap (λ ss. Ok (ss, read.1)) (sym (append_assoc before (s ∷ []) read.0))

-- the tokens are the word that was taken from them, if there was one, and those that are left
pub tokens_taken : (taken : Option Word) (ts left : List Token) → MatchOption taken ((ts ≡ []) × (left ≡ [])) (λ word. ts ≡ plain_word word ∷ left) → ts ≡ tokens_of taken left
tokens_taken None ts left h = h.0
tokens_taken (Some word) ts left h = h

-- a source that was read from a word on goes to those before, and the next word is read after it
pub source_goes_on : (given : Result (List Source × List Text) ℕ) (end : ℕ) (names more : List Text) (next later : Option Word) (word : Word) (ts others left : List Token) (before after : List Source) (s : Source)
    → given ≡ behind_sources before (read_sources end names (tokens_of next ts)) → next ≡ Some word
    → read_sources end names (plain_word word ∷ ts) ≡ onto_sources s (read_sources end more others) → others ≡ tokens_of later left → after ≡ before ++ s ∷ []
    → given ≡ behind_sources after (read_sources end more (tokens_of later left))
source_goes_on given end names more next later word ts others left before after s g n r o a =
    g ∙ ap (λ w. behind_sources before (read_sources end names (tokens_of w ts))) n
    ∙ ap (behind_sources before) r
    ∙ behind_sources-onto before s (read_sources end more others)
    ∙ ap₂ (λ ss us. behind_sources ss (read_sources end more us)) (sym a) o

-- an operator and a pattern are a source
pub source_read : (end : ℕ) (names more : List Text) (o p : Token) (ts : List Token) (operator : Operator) (pattern : Pattern) → operator_of o.text ≡ Some operator → read_pattern names p.text ≡ Some (pattern, more)
    → read_sources end names (o ∷ p ∷ ts) ≡ onto_sources (record { operator = operator; pattern = pattern }) (read_sources end more ts)
source_read end names more o p ts operator pattern e f = rw (e, f)

-- what was read is no fault
pub ok_is_no_err : {A : Type 0} (a : A) (at : ℕ) → ◌≡◌ {A = Result A ℕ} (Ok a) (Err at) → ⊥
ok_is_no_err {A = A} a at e = false≢true (sym (ap (λ (r : Result A ℕ). is_ok r) e))

-- what was read is one thing
pub same_ok : {A : Type 0} (a b : A) → ◌≡◌ {A = Result A ℕ} (Ok a) (Ok b) → a ≡ b
same_ok a b e = cc

-- what is accepted was read, and what comes behind it is accepted
pub accept_ok : {A B : Type 0} (token : Token) (o : Option A) (more : A → Result B ℕ) (b : B) → accept token o more ≡ Ok b → (a : A) × (o ≡ Some a) × (more a ≡ Ok b)
accept_ok token None more b e = absurd (ok_is_no_err b token.at (sym e))
accept_ok token (Some a) more b e = (a, refl, e)

onto_some : (s : Source) (r : Result (List Source × List Text) ℕ) (ss : List Source) (more : List Text) → onto_sources s r ≡ Ok (ss, more) → (length ss ≡ 0) → ⊥
onto_some s (Err at) ss more e n = ok_is_no_err (ss, more) at (sym e)
onto_some s (Ok read) ss more e n =
    let long : suc (length read.0) ≡ length ss = ap (λ (x : List Source × List Text). length x.0) (same_ok _ _ e) in
    absurd (omega arith)

-- a fault in the sources is one where some are wanted
pub some_sources_fault : (end : ℕ) (names : List Text) (ts : List Token) (fault : ParseFault) → IsFaultOf (read_sources end names ts) fault → IsFaultOf (read_some_sources end names ts) fault
some_sources_fault end names [] (Syntax at) h = absurd (ok_is_no_err _ at h)
some_sources_fault end names [] (OutOfMemory _) h = tt
some_sources_fault end names (t ∷ ts) fault h = h

-- a fault behind sources is a fault
pub fault_behind : (given : Result (List Source × List Text) ℕ) (before : List Source) (r : Result (List Source × List Text) ℕ) (fault : ParseFault) → given ≡ behind_sources before r → IsFaultOf r fault → IsFaultOf given fault
fault_behind given before r (Syntax at) e h = e ∙ ap (behind_sources before) h
fault_behind given before r (OutOfMemory _) e h = tt

-- sources that are read from a token on are some
pub sources_some : (end : ℕ) (names more : List Text) (o : Token) (ts : List Token) (ss : List Source) → read_sources end names (o ∷ ts) ≡ Ok (ss, more) → length ss ≡ 0 → ⊥
sources_some end names more o [] ss e n =
    let w = accept_ok o (operator_of o.text) _ (ss, more) e in
    ok_is_no_err (ss, more) end (sym w.2)
sources_some end names more o (p ∷ ts) ss e n =
    let w = accept_ok o (operator_of o.text) _ (ss, more) e in
    let v = accept_ok p (read_pattern names p.text) _ (ss, more) w.2 in
    onto_some _ _ ss more v.2 n

-- where no source is read, one is wanted at the end
pub some_sources_none : (end : ℕ) (names more : List Text) (ts : List Token) (ss : List Source) → read_sources end names ts ≡ Ok (ss, more) → length ss ≡ 0 → read_some_sources end names ts ≡ Err end
some_sources_none end names more [] ss e n = refl
some_sources_none end names more (t ∷ ts) ss e n = absurd (sources_some end names more t ts ss e n)

-- where sources are read, they are those that are wanted
pub some_sources_ok : (end : ℕ) (names more : List Text) (ts : List Token) (ss : List Source) → read_sources end names ts ≡ Ok (ss, more) → (length ss ≡ 0 → ⊥) → read_some_sources end names ts ≡ Ok (ss, more)
some_sources_ok end names more [] ss e n = absurd (n (ap length (sym (ap (λ (x : List Source × List Text). x.0) (same_ok _ _ e)))))
some_sources_ok end names more (t ∷ ts) ss e n = e
