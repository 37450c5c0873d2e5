-- Ids in a queue.
use Rattle.std.specs.Prelude.{◌≡◌, ℕ, ◌&&◌, List, [], ◌∷◌, not, Bool, true, false, slice_index_or}
use Rattle.updater_index.specs.Registered.{has_id}

-- whether no id stands twice
abbrev pub are_once : List ℕ → Bool
are_once [] = true
are_once (id ∷ ids) = not (has_id ids id) && are_once ids

-- a test for each id, false where there is none, says whether it is in the queue, and each is there once
pub record AreQueued (queued : List Bool) (queue : List ℕ) : Type 0 where
  pub agrees : (id : ℕ) → slice_index_or queued id false ≡ has_id queue id
  pub once : are_once queue ≡ true
