-- What a read or a question about an earlier position is answered.
use Rattle.std.proofs.Common.{◌≡◌, ℕ, [], ◌∷◌, List, length, take, Some, None, Result, Ok, Err, IfOk, sym, ap, ◌∙◌, subst}
use Rattle.semantics.specs.Texts.{Text, Range, Table, value_at}
use Rattle.semantics.specs.Histories.{History}
use Rattle.semantics.specs.States.{state}
use Rattle.semantics.specs.Answers.{get, found, absent, answer}
use Rattle.growing_history.specs.StateChanges.{Change, changes_between, changes}
use Rattle.protocol.specs.Requests.{Request}
use Rattle.protocol.specs.Replies.{Reply as PlainReply}
use Rattle.protocol.specs.Told.{Told}
use Rattle.request_codec.specs.Plain.{plain_reply}
use Rattle.request_codec.specs.declared.reply.Reply.{Reply}

-- a key that has this value
pub found_here : (h : History) (key value : Text) (n : ℕ) → n ≡ length h → Some value ≡ value_at key (state h) → found n value ≡ answer (get key) h
unfolding answer
found_here h key value n count is = rw (← is) (ap (λ m. found m value) count)

-- a key that has none
pub absent_here : (h : History) (key : Text) (n : ℕ) → n ≡ length h → None ≡ value_at key (state h) → absent n ≡ answer (get key) h
unfolding answer
absent_here h key n count is = rw (← is) (ap absent count)

-- what changed between the states after two beginnings
pub changes_are : (range : Range) (h : History) (q p : ℕ) (before after : Table) (listed : List Change) → listed ≡ changes_between range before after → before ≡ state (take q h) → after ≡ state (take p h) →
    listed ≡ changes range h q p
unfolding changes
changes_are range h q p before after listed is first second = is ∙ (λ i. changes_between range (first i) (second i))

-- a reply that is the one that is wanted is told as that
pub told_as : {F : Type 0} (h : History) (request : Request) (wanted : PlainReply) (r : Result Reply F) → Told h h 0 (request ∷ []) (wanted ∷ []) → IfOk r (λ reply. plain_reply reply ≡ wanted) →
    IfOk r (λ reply. Told h h 0 (request ∷ []) (plain_reply reply ∷ []))
told_as h request wanted (Err e) told is = tt
told_as h request wanted (Ok reply) told is = subst (λ x. Told h h 0 (request ∷ []) (x ∷ [])) (sym is) told
