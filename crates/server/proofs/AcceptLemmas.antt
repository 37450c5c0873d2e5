-- Links that doors give, and that are put into a queue; and where the doors were opened.
use Rattle.std.proofs.Common.{◌≡◌, ℕ, inr, List, [], ◌∷◌, ◌++◌, Some, None, Option, Result, Ok, Err, refl, sym, ap, ◌∙◌, append_assoc, append-nil}
use Rattle.std.specs.Prelude.{option_map}
use Rattle.pq_io.specs.Doors.{GaveLink, OpenedAt, OpenedFor}
use Rattle.door_queue.specs.Tallies.{Tallied, put_in}
use Rattle.server.specs.Receipts.{HasAccepted}

-- what is held before links
mapped_none : {K : Type 0} (held : Option (List K)) → held ≡ option_map (λ links. [] ++ links) held
mapped_none None = refl
mapped_none (Some links) = refl

mapped_more : {K : Type 0} (given : List K) (link : K) (held : Option (List K)) →
    option_map (λ links. given ++ links) (option_map (λ links. link ∷ links) held) ≡ option_map (λ links. (given ++ link ∷ []) ++ links) held
mapped_more given link None = refl
mapped_more given link (Some links) = ap Some (sym (append_assoc given (link ∷ []) links))

-- no link was given yet
pub accepted_none : {K : Type 0} (held : Option (List K)) (t : Tallied K) → HasAccepted held held t t
accepted_none held t = record { given = []; gave = mapped_none held; tally = ap (λ l. record t { put = l }) (sym (append-nil t.put)) }

-- a link more was given and put
pub accepted_more : {K : Type 0} (first before after : Option (List K)) (t u v : Tallied K) (link : K) →
    HasAccepted first before t u → GaveLink before after link → v ≡ put_in u link → HasAccepted first after t v
accepted_more first before after t u v link so_far gave put = record {
  given = so_far.given ++ link ∷ [];
  gave = so_far.gave ∙ ap (option_map (λ links. so_far.given ++ links)) gave ∙ mapped_more so_far.given link after;
  tally = put ∙ ap (λ (w : Tallied _). put_in w link) so_far.tally ∙ ap (λ l. record t { put = l }) (append_assoc t.put so_far.given (link ∷ []));
}

-- nothing more was given
pub accepted_same : {K : Type 0} (first before after : Option (List K)) (t u : Tallied K) → HasAccepted first before t u → after ≡ before → HasAccepted first after t u
accepted_same first before after t u so_far same = record {
  given = so_far.given;
  gave = so_far.gave ∙ ap (option_map (λ links. so_far.given ++ links)) (sym same);
  tally = so_far.tally;
}

-- doors that were opened at the address, whether they failed then or not
pub opened_for : {T E : Type 0} (old new : Option (List (List ℕ))) (address : List ℕ) (result : Result T E) → OpenedAt old new address → OpenedFor old new address result
opened_for old new address (Ok x) opened = opened
opened_for old new address (Err e) opened = inr opened
