-- The listeners that an event calls, attribute by attribute, and that they are those of the definitions.
use Rattle.std.proofs.Common.{ℕ, suc, ◌+◌, ◌<◌, ◌≤◌, Bool, true, false, ◌&&◌, List, [], ◌∷◌, ◌++◌, ◌≡◌, refl, sym, ap, ◌∙◌, map, length, get_or, take, drop, arith}
use Rattle.std.specs.Prelude.{Some, if◌then◌else◌, flat_map}
use Rattle.std.proofs.Math.ListN.{drop_of_length-le}
use Rattle.std.proofs.lemmas.List.{append_assoc}
use Rattle.tree_nodes.specs.declared.attribute.Attribute.{Attribute}
use Rattle.tree_nodes.specs.declared.attribute.AttributeValue.{AttributeValue}
use Rattle.tree_nodes.specs.declared.attribute.AttributeValue.TheVariants as values
use Rattle.tree_nodes.specs.declared.attribute.ListenerCallback.{ListenerCallback}
use Rattle.rt_model.specs.OneLog.{types}
use Rattle.rt_model.specs.Lists.{Text, backwards}
use Rattle.rt_model.specs.Heard as hears
use Rattle.rt_model.specs.Heard.{matches}
use Rattle.tree_mirror.specs.Mirror.{attribute_of, value_of}
use Rattle.run_attributes.proofs.Orders.{text-tested}
use Rattle.run_shown.specs.declared.hearing.Listener.{Listener}
use Rattle.run_shown.specs.Climbs.{slots_of, climb_of}
use Rattle.run_shown.specs.Hearing.{listener_in, listeners_of, value_heard, value_listens, attribute_heard, first_heard, first_listening, slot_heard, slots_heard, slots_in_order, climb_heard, event_heard}
use Rattle.run_shown.proofs.OneByOne.{nil-right, next_drop, take-more}

-- a name

pub long_name : (answer : Bool) (name event : Text) → 2 ≤ length name → (answer ≡ true → drop 2 name ≡ event) → (drop 2 name ≡ event → answer ≡ true) → answer ≡ matches name event
long_name answer [] event long sound whole = absurd (let e : ⊥ = omega arith in e)
long_name answer (a ∷ []) event long sound whole = absurd (let e : ⊥ = omega arith in e)
long_name answer (a ∷ b ∷ rest) event long sound whole = text-tested answer rest event sound whole

-- a loop over a list from its end, or from its beginning

backwards-more : {A B : Type 0} (one : A → List B) (xs : List A) (x : A) → backwards one (xs ++ x ∷ []) ≡ one x ++ backwards one xs
backwards-more one [] x = sym (nil-right (one x))
backwards-more one (y ∷ xs) x = ap (λ ys. ys ++ one y) (backwards-more one xs x) ∙ append_assoc (one x) (backwards one xs) (one y)

-- one more item is done, from the end
pub back_more : {A B : Type 0} (one : A → List B) (xs : List A) (i j : ℕ) (x : A) (before after whole : List B)
    → j ≡ i + 1 → i < length xs → x ≡ get_or xs i x → before ++ backwards one (take j xs) ≡ whole → after ≡ before ++ one x → after ++ backwards one (take i xs) ≡ whole
back_more one xs i j x before after whole next low is so_far this =
    let e : suc i ≡ j = omega arith in
    ap (λ ys. ys ++ backwards one (take i xs)) this ∙ append_assoc before (one x) (backwards one (take i xs)) ∙
    ap (λ ys. before ++ ys) (sym (backwards-more one (take i xs) x) ∙ ap (λ ys. backwards one ys) (sym (take-more xs i x low is)) ∙ ap (λ n. backwards one (take n xs)) e) ∙ so_far

-- one more item is done, from the beginning
pub next_more : {A B : Type 0} (one : A → List B) (xs : List A) (i : ℕ) (x : A) (before after whole : List B)
    → i < length xs → x ≡ get_or xs i x → before ++ flat_map one (drop i xs) ≡ whole → after ≡ before ++ one x → after ++ flat_map one (drop (i + 1) xs) ≡ whole
next_more one xs i x before after whole low is so_far this =
    ap (λ ys. ys ++ flat_map one (drop (i + 1) xs)) this ∙ append_assoc before (one x) (flat_map one (drop (i + 1) xs)) ∙
    ap (λ ys. before ++ ys) (ap (λ ys. flat_map one ys) (sym (next_drop xs i x low is))) ∙ so_far

-- all items are done, from the beginning
pub next_done : {A B : Type 0} (one : A → List B) (xs : List A) (i : ℕ) (all whole : List B) → length xs ≤ i → all ++ flat_map one (drop i xs) ≡ whole → all ≡ whole
next_done one xs i all whole end so_far = sym (nil-right all) ∙ ap (λ ys. all ++ flat_map one ys) (sym (drop_of_length-le xs end)) ∙ so_far

module _ {P C Q V H T E L : Type 0} where
  pub listeners-append : (a b : List (Listener P C Q V H T E L)) → listeners_of (a ++ b) ≡ listeners_of a ++ listeners_of b
  listeners-append [] b = refl
  listeners-append (x ∷ a) b = ap (λ xs. listener_in x ∷ xs) (listeners-append a b)

  -- values

  pub heard_Listener : (value : AttributeValue P C Q V H T E L) (l : ListenerCallback P C Q V H T E L) → value ≡ values.Listener l → value_heard value ≡ record { origin = l.origin.0; handler = l.handler } ∷ []
  unfolding value_heard
  heard_Listener value l h = ap (λ v. hears.listener_of (value_of v)) h

  pub heard_Text : (value : AttributeValue P C Q V H T E L) (text : Text) → value ≡ values.Text text → value_heard value ≡ []
  unfolding value_heard
  heard_Text value text h = ap (λ v. hears.listener_of (value_of v)) h

  pub heard_None : (value : AttributeValue P C Q V H T E L) → value ≡ values.None → value_heard value ≡ []
  unfolding value_heard
  heard_None value h = ap (λ v. hears.listener_of (value_of v)) h

  pub listens_Listener : (value : AttributeValue P C Q V H T E L) (l : ListenerCallback P C Q V H T E L) → value ≡ values.Listener l → value_listens value ≡ true
  unfolding value_listens
  listens_Listener value l h = ap (λ v. hears.is_listener (value_of v)) h

  pub listens_Text : (value : AttributeValue P C Q V H T E L) (text : Text) → value ≡ values.Text text → value_listens value ≡ false
  unfolding value_listens
  listens_Text value text h = ap (λ v. hears.is_listener (value_of v)) h

  pub listens_None : (value : AttributeValue P C Q V H T E L) → value ≡ values.None → value_listens value ≡ false
  unfolding value_listens
  listens_None value h = ap (λ v. hears.is_listener (value_of v)) h

  pub attribute_out : (event : Text) (a : Attribute P C Q V H T E L) → attribute_heard event a ≡ (if matches a.name event then value_heard a.value else [])
  unfolding attribute_heard
  attribute_out event a = refl

  -- where a matching attribute is found, it is the first one

  pub first_here : (event : Text) (slot : List (Attribute P C Q V H T E L)) (i : ℕ) (a : Attribute P C Q V H T E L) → i < length slot → a ≡ get_or slot i a
      → matches a.name event ≡ true → first_heard event (drop i slot) ≡ value_heard a.value
  first_here event slot i a low is fits =
      ap (λ xs. first_heard event xs) (next_drop slot i a low is) ∙ ap (λ b. if b then value_heard a.value else first_heard event (drop (i + 1) slot)) fits

  pub listening_here : (event : Text) (slot : List (Attribute P C Q V H T E L)) (i : ℕ) (a : Attribute P C Q V H T E L) → i < length slot → a ≡ get_or slot i a
      → matches a.name event ≡ true → value_listens a.value ≡ true → first_listening event (drop i slot) ≡ value_heard a.value
  listening_here event slot i a low is fits listens =
      ap (λ xs. first_listening event xs) (next_drop slot i a low is) ∙ (λ k. if fits k && listens k then value_heard a.value else first_listening event (drop (i + 1) slot))

  -- it is heard after the others
  pub heard_here : (before so_far after : List (Listener P C Q V H T E L)) (one left whole : List (hears.Listener (types C Q V H T E L)))
      → so_far ≡ before → left ≡ one → left ≡ whole → listeners_of after ≡ listeners_of so_far ++ one → listeners_of after ≡ listeners_of before ++ whole
  heard_here before so_far after one left whole same here is more =
      more ∙ ap (λ ls. listeners_of ls ++ one) same ∙ ap (λ ls. listeners_of before ++ ls) (sym here ∙ is)

  -- nothing is heard
  pub none_here : (before so_far : List (Listener P C Q V H T E L)) (left whole : List (hears.Listener (types C Q V H T E L)))
      → so_far ≡ before → left ≡ [] → left ≡ whole → listeners_of so_far ≡ listeners_of before ++ whole
  none_here before so_far left whole same none is =
      ap (λ ls. listeners_of ls) same ∙ sym (nil-right (listeners_of before)) ∙ ap (λ ls. listeners_of before ++ ls) (sym none ∙ is)

pub ruleset hearings = (listeners-append, heard_Listener, heard_Text, heard_None, listens_Listener, listens_Text, listens_None, attribute_out, nil-right)

-- as the definitions have it

module _ {P C Q V H T E L : Type 0} where
  slot_is : (event : Text) (slot : List (Attribute P C Q V H T E L)) → slot_heard event slot ≡ hears.all_matching event (map attribute_of slot)
  unfolding attribute_heard value_heard
  slot_is event [] = refl
  slot_is event (a ∷ rest) = ap (λ xs. xs ++ (if matches a.name event then hears.listener_of (value_of a.value) else [])) (slot_is event rest)

  first_is : (event : Text) (slot : List (Attribute P C Q V H T E L)) → first_heard event slot ≡ hears.first_matching event (map attribute_of slot)
  unfolding value_heard
  first_is event [] = refl
  first_is event (a ∷ rest) = ap (λ xs. if matches a.name event then hears.listener_of (value_of a.value) else xs) (first_is event rest)

  listening_is : (event : Text) (slot : List (Attribute P C Q V H T E L)) → first_listening event slot ≡ hears.first_listener event (map attribute_of slot)
  unfolding value_heard value_listens
  listening_is event [] = refl
  listening_is event (a ∷ rest) =
      ap (λ xs. if matches a.name event && hears.is_listener (value_of a.value) then hears.listener_of (value_of a.value) else xs) (listening_is event rest)

  slots_are : (event : Text) (slots : List (List (Attribute P C Q V H T E L))) → slots_heard event false slots ≡ backwards (λ a. hears.all_matching event a) (slots_of slots)
  slots_are event [] = refl
  slots_are event (slot ∷ slots) = (λ i. slots_are event slots i ++ slot_is event slot i)

  firsts_are : (event : Text) (slots : List (List (Attribute P C Q V H T E L))) → slots_heard event true slots ≡ backwards (λ a. hears.first_matching event a) (slots_of slots)
  firsts_are event [] = refl
  firsts_are event (slot ∷ slots) = (λ i. firsts_are event slots i ++ first_is event slot i)

  orders_are : (event : Text) (slots : List (List (Attribute P C Q V H T E L))) → slots_in_order event slots ≡ hears.in_order event (slots_of slots)
  orders_are event [] = refl
  orders_are event (slot ∷ slots) = (λ i. listening_is event slot i ++ orders_are event slots i)

  climb_is : (event : Text) (climb : List (List (List (Attribute P C Q V H T E L)))) → climb_heard event climb ≡ hears.climbing event (climb_of climb)
  climb_is event [] = refl
  climb_is event (slots ∷ above) = (λ i. slots_are event slots i ++ climb_is event above i)

  pub event_is : (event : Text) (bubbles : Bool) (climb : List (List (List (Attribute P C Q V H T E L)))) → event_heard event bubbles climb ≡ hears.heard_on event bubbles (Some (climb_of climb))
  event_is event true [] = refl
  event_is event true (slots ∷ above) = (λ i. firsts_are event slots i ++ climb_is event above i)
  event_is event false [] = refl
  event_is event false (slots ∷ above) = orders_are event slots
