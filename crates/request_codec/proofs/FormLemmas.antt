-- The request that the items of an array are, by their number and the texts at their places.
use Rattle.std.proofs.Common.{◌≡◌, ℕ, ◌≤◌, List, [], ◌∷◌, length, Option, Some, None, option_map, option_and_then, Err, refl, arith}
use Rattle.std.proofs.lemmas.Option.{none-some}
use Rattle.serde_json.specs.Data.{Data, null, boolean, number, string, array, object, Items, item, no_items}
use Rattle.serde_json.specs.View.{view, items_view}
use Rattle.serde_json.specs.declared.value.Value.{Value}
use Rattle.semantics.specs.Texts.{Text}
use Rattle.protocol.specs.Requests.{form, text_of, position_of, with_text, last_item, texts_and_position, bounds_request, request_of_form}
use Rattle.request_codec.specs.Items.{request_of_items, request_of_numbered}

-- a position alone is no form
position_alone : (o : Option ℕ) → request_of_form (last_item None o) ≡ Err form
position_alone None = refl
position_alone (Some n) = refl

-- an item that is no text is no form
pub no_word : (d : Data) → text_of d ≡ None → request_of_items (item d no_items) ≡ Err form
no_word d h = rw h (position_alone (position_of d))

-- a text and what is none behind it are what the text and the position are, if it is one
pub numbered_last : (d e : Data) (t : Text) → text_of d ≡ Some t → text_of e ≡ None → request_of_items (item d (item e no_items)) ≡ request_of_numbered t (position_of e)
numbered_last d e t h k = rw (h, k) refl

-- a position behind two texts is no form
position_third : (t u : Text) (o : Option ℕ) → request_of_form (option_map (with_text t) (option_map (with_text u) (last_item None o))) ≡ Err form
position_third t u None = refl
position_third t u (Some n) = refl

-- three items of which the last is no text are no form
pub no_third : (d e f : Data) (t u : Text) → text_of d ≡ Some t → text_of e ≡ Some u → text_of f ≡ None → request_of_items (item d (item e (item f no_items))) ≡ Err form
no_third d e f t u h k l = rw (h, k, l) (position_third t u (position_of f))

-- ---- four items or more

-- what four items or more can be: no texts, four texts or more, or three or more with a position behind them
pub record HoldsOfFour (P : Option (List Text × Option ℕ) → Type 0) : Type 0 where
  pub none : P None
  pub texts : (t u v w : Text) (ts : List Text) → P (Some (t ∷ u ∷ v ∷ w ∷ ts, None))
  pub position : (t u v : Text) (ts : List Text) (n : ℕ) → P (Some (t ∷ u ∷ v ∷ ts, Some n))

-- three texts before what others are
abbrev behind_three : Text → Text → Text → Option (List Text × Option ℕ) → Option (List Text × Option ℕ)
behind_three t u v others = option_map (with_text t) (option_map (with_text u) (option_map (with_text v) others))

-- a last item behind three texts
three_and_last : (P : Option (List Text × Option ℕ) → Type 0) → HoldsOfFour P → (t u v : Text) (text : Option Text) (position : Option ℕ) →
    P (behind_three t u v (last_item text position))
three_and_last P h t u v (Some w) position = h.texts t u v w []
three_and_last P h t u v None (Some n) = h.position t u v [] n
three_and_last P h t u v None None = h.none

-- a text and others behind three texts
three_and_more : (P : Option (List Text × Option ℕ) → Type 0) → HoldsOfFour P → (t u v : Text) (text : Option Text) (others : Option (List Text × Option ℕ)) →
    P (behind_three t u v (option_and_then (λ w. option_map (with_text w) others) text))
three_and_more P h t u v None others = h.none
three_and_more P h t u v (Some w) None = h.none
three_and_more P h t u v (Some w) (Some (ts, None)) = h.texts t u v w ts
three_and_more P h t u v (Some w) (Some (ts, Some n)) = h.position t u v (w ∷ ts) n

-- items behind three texts
three_and_items : (P : Option (List Text × Option ℕ) → Type 0) → HoldsOfFour P → (t u v : Text) (d : Data) (ds : Items) →
    P (behind_three t u v (texts_and_position (item d ds)))
three_and_items P h t u v d no_items = three_and_last P h t u v (text_of d) (position_of d)
three_and_items P h t u v d (item e ds) = three_and_more P h t u v (text_of d) (texts_and_position (item e ds))

-- items behind three that may be texts
behind_items : (P : Option (List Text × Option ℕ) → Type 0) → HoldsOfFour P → (a b c : Option Text) (d : Data) (ds : Items) →
    P (option_and_then (λ t. option_map (with_text t) (option_and_then (λ t. option_map (with_text t) (option_and_then (λ t. option_map (with_text t) (texts_and_position (item d ds))) c)) b)) a)
behind_items P h None b c d ds = h.none
behind_items P h (Some t) None c d ds = h.none
behind_items P h (Some t) (Some u) None d ds = h.none
behind_items P h (Some t) (Some u) (Some v) d ds = three_and_items P h t u v d ds

pub four_or_more : (P : Option (List Text × Option ℕ) → Type 0) → HoldsOfFour P → (a b c d : Data) (ds : Items) →
    P (texts_and_position (item a (item b (item c (item d ds)))))
four_or_more P h a b c d ds = behind_items P h (text_of a) (text_of b) (text_of c) d ds

-- ---- four items

-- four texts are no form
text_fourth : (t u v : Text) (o : Option Text) → request_of_form (behind_three t u v (last_item o None)) ≡ Err form
text_fourth t u v None = refl
text_fourth t u v (Some w) = refl

-- three texts and what is no position are no form
pub no_fourth : (d e f g : Data) (t u v : Text) → text_of d ≡ Some t → text_of e ≡ Some u → text_of f ≡ Some v → position_of g ≡ None →
    request_of_items (item d (item e (item f (item g no_items)))) ≡ Err form
no_fourth d e f g t u v h k l m = rw (h, k, l, m) (text_fourth t u v (text_of g))

-- a position is no text
position_no_text : (d : Data) (n : ℕ) → position_of d ≡ Some n → text_of d ≡ None
position_no_text null n e = refl
position_no_text (boolean b) n e = refl
position_no_text (number m) n e = refl
position_no_text (string s) n e = absurd (none-some n e)
position_no_text (array ds) n e = refl
position_no_text (object ms) n e = refl

-- three texts and a position are what they ask for
pub positioned : (d e f g : Data) (t u v : Text) (n : ℕ) → text_of d ≡ Some t → text_of e ≡ Some u → text_of f ≡ Some v → position_of g ≡ Some n →
    request_of_items (item d (item e (item f (item g no_items)))) ≡ bounds_request t u v n
positioned d e f g t u v n h k l m = let none = position_no_text g n m in rw (h, k, l, none, m) refl

-- ---- five items or more

-- four items or more behind what may be a text are no form
behind_first : (a : Option Text) (b c d e : Data) (ds : Items) →
    request_of_form (option_and_then (λ t. option_map (with_text t) (texts_and_position (item b (item c (item d (item e ds)))))) a) ≡ Err form
behind_first None b c d e ds = refl
behind_first (Some t) b c d e ds =
    four_or_more (λ items. request_of_form (option_map (with_text t) items) ≡ Err form)
    (record { none = refl; texts = λ u v w x ts. refl; position = λ u v w ts n. refl }) b c d e ds

pub five_items : (vs : List Value) → 5 ≤ length vs → request_of_items (items_view vs) ≡ Err form
five_items [] h = absurd (omega arith)
five_items (v ∷ []) h = absurd (omega arith)
five_items (v ∷ u ∷ []) h = absurd (omega arith)
five_items (v ∷ u ∷ t ∷ []) h = absurd (omega arith)
five_items (v ∷ u ∷ t ∷ s ∷ []) h = absurd (omega arith)
five_items (v ∷ u ∷ t ∷ s ∷ r ∷ vs) h = behind_first (text_of (view v)) (view u) (view t) (view s) (view r) (items_view vs)
