-- What is told of no request, of one and of several in two parts; and a reply for which no memory was found.
use Rattle.std.proofs.Common.{◌≡◌, ℕ, ◌+◌, List, [], ◌∷◌, ◌++◌, length, map, drop, refl, sym, ap, ◌∙◌, subst, arith, append_assoc, inl, inr}
use Rattle.std.proofs.lemmas.Bool.{or_from}
use Rattle.std.proofs.lemmas.List.{map-append}
use Rattle.std.proofs.lemmas.List.Folds.{list_any-append}
use Rattle.std.proofs.lemmas.Slice.Zip.{AllZip-long}
use Rattle.semantics.specs.Texts.{Text}
use Rattle.semantics.specs.Histories.{History}
use Rattle.protocol.specs.Requests.{Request, write, read, earlier, quit}
use Rattle.protocol.specs.Replies.{Reply, done, answered, refused, gone, ahead, changed, fed, unread, long, memory, bye}
use Rattle.protocol.specs.Told.{Told, own_positions}
use Rattle.protocol.specs.Session.{told_pairs, Serves, NoBye, is_bye}
use Rattle.protocol.proofs.Telling.{told-append, AllZip-append}
use Rattle.protocol.proofs.TellingSteps.{told_nothing}
use Rattle.session.specs.Serving.{IsSentAs}

-- ---- parts

-- what is told of lines in two parts, where each line of the first has a reply
pub told_pairs-append : (lines more : List Text) (replies others : List Reply) → length replies ≡ length lines →
    told_pairs (lines ++ more) (replies ++ others) ≡ told_pairs lines replies ++ told_pairs more others
told_pairs-append [] more [] others same = refl
told_pairs-append [] more (reply ∷ replies) others same = absurd (omega arith)
told_pairs-append (line ∷ lines) more [] others same = absurd (omega arith)
told_pairs-append (line ∷ lines) more (reply ∷ replies) others same =
    let rest : told_pairs (lines ++ more) (replies ++ others) ≡ told_pairs lines replies ++ told_pairs more others = told_pairs-append lines more replies others (omega arith) in
    rw rest (sym (append_assoc _ (told_pairs lines replies) (told_pairs more others)))

-- no line is served where the view stays
pub serves_nothing : (view : History) (client : ℕ) → Serves view view client [] []
serves_nothing view client = record { each = tt; told = told_nothing view client }

-- lines that are served in two parts
pub serves-append : (before between after : History) (client : ℕ) (lines more : List Text) (replies others : List Reply) →
    Serves before between client lines replies → Serves between after client more others → Serves before after client (lines ++ more) (replies ++ others)
serves-append before between after client lines more replies others served next =
    let pairs = told_pairs-append lines more replies others (AllZip-long _ lines replies served.each) in
    let requests : map (λ (p : Request × Reply). p.0) (told_pairs (lines ++ more) (replies ++ others)) ≡ map (λ p. p.0) (told_pairs lines replies) ++ map (λ p. p.0) (told_pairs more others) =
    ap (map (λ p. p.0)) pairs ∙ map-append (λ p. p.0) (told_pairs lines replies) (told_pairs more others) in
    let answers : map (λ (p : Request × Reply). p.1) (told_pairs (lines ++ more) (replies ++ others)) ≡ map (λ p. p.1) (told_pairs lines replies) ++ map (λ p. p.1) (told_pairs more others) =
    ap (map (λ p. p.1)) pairs ∙ map-append (λ p. p.1) (told_pairs lines replies) (told_pairs more others) in
    record {
      each = AllZip-append _ lines more replies others served.each next.each;
      told = subst (λ rs. Told before after client rs (map (λ p. p.1) (told_pairs (lines ++ more) (replies ++ others)))) (sym requests)
          (subst (λ rs. Told before after client (map (λ p. p.0) (told_pairs lines replies) ++ map (λ p. p.0) (told_pairs more others)) rs) (sym answers)
          (told-append before between after client _ _ _ _ served.told next.told));
    }

-- replies without `bye` in two parts
pub no_bye-append : (replies others : List Reply) → NoBye replies → NoBye others → NoBye (replies ++ others)
no_bye-append replies others h k = list_any-append is_bye replies others ∙ or_from _ _ h k

-- ---- one request

-- a request for which no memory was found leaves the view
told_memory_of : (before after : History) (client : ℕ) (request : Request) (reply : Reply) → (own_positions client (length before + 1) (drop (length before) after) ≡ []) →
    Told before after client (request ∷ []) (reply ∷ []) → Told before after client (request ∷ []) (memory ∷ [])
told_memory_of before after client (write w) reply none told = record { grows = told.grows; answers = (tt, tt); ordered = tt; own = none }
told_memory_of before after client (read r) reply none told = record { grows = told.grows; answers = (tt, tt); ordered = tt; own = none }
told_memory_of before after client (earlier e) reply none told = record { grows = told.grows; answers = (tt, tt); ordered = tt; own = none }
told_memory_of before after client quit reply none told = absurd (told.answers.0)

-- a reply other than `done` may be told as `memory`
pub told_sent_as : (before after : History) (client : ℕ) (request : Request) (reply sent : Reply) → IsSentAs reply sent →
    Told before after client (request ∷ []) (reply ∷ []) → Told before after client (request ∷ []) (sent ∷ [])
told_sent_as before after client request (done n) sent e told = subst (λ r. Told before after client (request ∷ []) (r ∷ [])) (sym e) told
told_sent_as before after client request (answered a) sent (inl e) told = subst (λ r. Told before after client (request ∷ []) (r ∷ [])) (sym e) told
told_sent_as before after client request (answered a) sent (inr e) told =
    subst (λ r. Told before after client (request ∷ []) (r ∷ [])) (sym e) (told_memory_of before after client request (answered a) told.own told)
told_sent_as before after client request (refused n cause) sent (inl e) told = subst (λ r. Told before after client (request ∷ []) (r ∷ [])) (sym e) told
told_sent_as before after client request (refused n cause) sent (inr e) told =
    subst (λ r. Told before after client (request ∷ []) (r ∷ [])) (sym e) (told_memory_of before after client request (refused n cause) told.own told)
told_sent_as before after client request (gone n) sent (inl e) told = subst (λ r. Told before after client (request ∷ []) (r ∷ [])) (sym e) told
told_sent_as before after client request (gone n) sent (inr e) told =
    subst (λ r. Told before after client (request ∷ []) (r ∷ [])) (sym e) (told_memory_of before after client request (gone n) told.own told)
told_sent_as before after client request (ahead n) sent (inl e) told = subst (λ r. Told before after client (request ∷ []) (r ∷ [])) (sym e) told
told_sent_as before after client request (ahead n) sent (inr e) told =
    subst (λ r. Told before after client (request ∷ []) (r ∷ [])) (sym e) (told_memory_of before after client request (ahead n) told.own told)
told_sent_as before after client request (changed from n listed) sent (inl e) told = subst (λ r. Told before after client (request ∷ []) (r ∷ [])) (sym e) told
told_sent_as before after client request (fed from n listed) sent (inl e) told = subst (λ r. Told before after client (request ∷ []) (r ∷ [])) (sym e) told
told_sent_as before after client request (changed from n listed) sent (inr e) told =
    subst (λ r. Told before after client (request ∷ []) (r ∷ [])) (sym e) (told_memory_of before after client request (changed from n listed) told.own told)
told_sent_as before after client request (fed from n listed) sent (inr e) told =
    subst (λ r. Told before after client (request ∷ []) (r ∷ [])) (sym e) (told_memory_of before after client request (fed from n listed) told.own told)
told_sent_as before after client request (unread fault) sent (inl e) told = subst (λ r. Told before after client (request ∷ []) (r ∷ [])) (sym e) told
told_sent_as before after client request (unread fault) sent (inr e) told =
    subst (λ r. Told before after client (request ∷ []) (r ∷ [])) (sym e) (told_memory_of before after client request (unread fault) told.own told)
told_sent_as before after client request long sent (inl e) told = subst (λ r. Told before after client (request ∷ []) (r ∷ [])) (sym e) told
told_sent_as before after client request long sent (inr e) told =
    subst (λ r. Told before after client (request ∷ []) (r ∷ [])) (sym e) (told_memory_of before after client request long told.own told)
told_sent_as before after client request memory sent e told = subst (λ r. Told before after client (request ∷ []) (r ∷ [])) (sym e) told
told_sent_as before after client request bye sent (inl e) told = subst (λ r. Told before after client (request ∷ []) (r ∷ [])) (sym e) told
told_sent_as before after client request bye sent (inr e) told =
    subst (λ r. Told before after client (request ∷ []) (r ∷ [])) (sym e) (told_memory_of before after client request bye told.own told)
