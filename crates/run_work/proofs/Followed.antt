-- Where what a side knows goes, once a walk over two trees is done.
use Rattle.std.proofs.Common.{ℕ, zero, suc, ◌+◌, ◌<◌, ◌≤◌, true, false, List, [], ◌∷◌, ◌≡◌, ◌⊎◌, inl, inr, length, get_or, refl, sym, ap, ◌∙◌, subst, arith, nat_eq}
use Rattle.std.specs.Prelude.{Option, Some, None, slice_get, slice_set, replicate}
use Rattle.std.proofs.lemmas.Bool.{eqb-true, true≢false, cases_lt}
use Rattle.rt_lemmas.proofs.Lists.{set_here, within_get}
use Rattle.rt_model.specs.Tree.{Types, VComponent, Place, Kind, Spot, node_at, component_at}
use Rattle.rt_model.specs.World.{Application}
use Rattle.rt_model.specs.Run.{component_in, has_node, is_fed}
use Rattle.rt_model.proofs.Maps.{by_test}
use Rattle.rt_model.proofs.Among.{Among}
use Rattle.rt_model.proofs.Agendas.{found_node, node_found}
use Rattle.run_places.specs.Drawn.{NodesFollow, SeatsFollow, nodes_in, seats_in}
use Rattle.run_work.specs.After.{goes_to}
use Rattle.run_work.specs.Events.{Event, stays, goes, comes, fed, left, made}
use Rattle.run_work.proofs.Flats.{flat, old_in, new_in}
use Rattle.run_work.proofs.Branches.{AllIn}
use Rattle.run_work.proofs.Agreed.{IsAgreed, by_option, found-component, from-flat}

set_there : (to : List (Option ℕ)) (i s : ℕ) (v : Option ℕ) → (i ≡ s → ⊥) → get_or (slice_set to i v) s None ≡ get_or to s None
set_there [] i s v other = refl
set_there (x ∷ to) zero zero v other = absurd (other refl)
set_there (x ∷ to) zero (suc s) v other = refl
set_there (x ∷ to) (suc i) zero v other = refl
set_there (x ∷ to) (suc i) (suc s) v other = set_there to i s v (λ same. other (ap suc same))

set_past : (to : List (Option ℕ)) (i : ℕ) (v : Option ℕ) → length to ≤ i → slice_set to i v ≡ to
set_past [] i v past = refl
set_past (x ∷ to) zero v past = absurd (omega (arith, past))
set_past (x ∷ to) (suc i) v past = ap (λ xs. x ∷ xs) (set_past to i v (omega (arith, past)))

set_long : (to : List (Option ℕ)) (i : ℕ) (v : Option ℕ) → length (slice_set to i v) ≡ length to
set_long [] i v = refl
set_long (x ∷ to) zero v = refl
set_long (x ∷ to) (suc i) v = ap suc (set_long to i v)

pub goes_long : (to : List (Option ℕ)) (o : Option ℕ) (n : ℕ) → length (goes_to to o n) ≡ length to
goes_long to None n = refl
goes_long to (Some i) n = set_long to i (Some n)

pub none_at : (n i : ℕ) → get_or {A = Option ℕ} (replicate n None) i None ≡ None
none_at zero i = refl
none_at (suc n) zero = refl
none_at (suc n) (suc i) = none_at n i

same_or : (i j : ℕ) → (i ≡ j) ⊎ (i ≡ j → ⊥)
same_or i j = by_test (nat_eq i j) (λ q. inl (eqb-true i j q)) (λ q. inr (λ same. true≢false (sym (ap (λ n. nat_eq i n) (sym same) ∙ itself i) ∙ q)))
  where
    itself : (n : ℕ) → nat_eq n n ≡ true
    itself n = grind (arith)

-- what stands at an index after one thing went somewhere: it did before, or it is that thing
pub one_goes : (to : List (Option ℕ)) (o : Option ℕ) (n i j : ℕ) → get_or (goes_to to o n) i None ≡ Some j → (get_or to i None ≡ Some j) ⊎ ((o ≡ Some i) × (n ≡ j))
one_goes to None n i j h = inl h
one_goes to (Some k) n i j h =
    elim (same_or k i) [
      | inl same ↦ elim (cases_lt k (length to)) [
        | inl low ↦ inr (ap Some same, cc (sym (set_here to k (Some n) low) ∙ ap (λ m. get_or (slice_set to k (Some n)) m None) same ∙ h))
        | inr past ↦ inl (ap (λ xs. get_or xs i None) (sym (set_past to k (Some n) past)) ∙ h)
      ]
      | inr other ↦ inl (sym (set_there to k i (Some n) other) ∙ h)
    ]

-- nothing stands at an index: nothing did, and the thing didn't go there
one_went : (to : List (Option ℕ)) (o : Option ℕ) (n i : ℕ) → get_or (goes_to to o n) i None ≡ None → (get_or to i None ≡ None) × (o ≡ Some i → i < length to → ⊥)
one_went to None n i h = (h, λ same low. cc same)
one_went to (Some k) n i h =
    elim (same_or k i) [
      | inl same ↦ elim (cases_lt k (length to)) [
        | inl low ↦ absurd (let e : Some n ≡ None = sym (set_here to k (Some n) low) ∙ ap (λ m. get_or (slice_set to k (Some n)) m None) same ∙ h in cc e)
        | inr past ↦ (ap (λ xs. get_or xs i None) (sym (set_past to k (Some n) past)) ∙ h, λ is low. let e : k ≡ i = same in omega (arith, past, low, e))
      ]
      | inr other ↦ (sym (set_there to k i (Some n) other) ∙ h, λ is low. other (cc is))
    ]

-- things one after another, each of which may go somewhere
abbrev pub followed : List (Option ℕ) → ℕ → List (Option ℕ) → List (Option ℕ)
followed [] n to = to
followed (o ∷ os) n to = followed os (n + 1) (goes_to to o n)

pub followed_goes : (os : List (Option ℕ)) (n : ℕ) (to : List (Option ℕ)) (i j : ℕ) → get_or (followed os n to) i None ≡ Some j
    → (get_or to i None ≡ Some j) ⊎ ((m : ℕ) × (j ≡ n + m) × (slice_get os m ≡ Some (Some i)))
followed_goes [] n to i j h = inl h
followed_goes (o ∷ os) n to i j h =
    elim (followed_goes os (n + 1) (goes_to to o n) i j h) [
      | inl before ↦ elim (one_goes to o n i j before) [
        | inl former ↦ inl former
        | inr here ↦ inr (0, (let e : j ≡ n + 0 = omega (arith, here.1) in e), ap Some here.0)
      ]
      | inr later ↦ inr (suc later.0, (let e : j ≡ n + suc later.0 = omega (arith, later.1) in e), later.2)
    ]

pub followed_went : (os : List (Option ℕ)) (n : ℕ) (to : List (Option ℕ)) (i : ℕ) → get_or (followed os n to) i None ≡ None
    → (get_or to i None ≡ None) × ((m : ℕ) → slice_get os m ≡ Some (Some i) → i < length to → ⊥)
followed_went [] n to i h = (h, λ m is low. cc is)
followed_went (o ∷ os) n to i h =
    let later = followed_went os (n + 1) (goes_to to o n) i h in
    let here = one_went to o n i later.0 in
    (here.0, λ m is low. cases m is low here.1 later.1)
  where
    cases : (m : ℕ) → slice_get (o ∷ os) m ≡ Some (Some i) → i < length to → (o ≡ Some i → i < length to → ⊥)
        → ((k : ℕ) → slice_get os k ≡ Some (Some i) → i < length (goes_to to o n) → ⊥) → ⊥
    cases zero is low here later = here (cc is) low
    cases (suc m) is low here later = later m is (let e : length (goes_to to o n) ≡ length to = goes_long to o n in omega (arith, low, e))

-- what is known of each
abbrev pub each_known : {A : Type 0} → (A → Option ℕ) → List A → List (Option ℕ)
each_known f [] = []
each_known f (x ∷ xs) = f x ∷ each_known f xs

known_at : {A : Type 0} (f : A → Option ℕ) (xs : List A) (m i : ℕ) → slice_get (each_known f xs) m ≡ Some (Some i) → (x : A) × (slice_get xs m ≡ Some x) × (f x ≡ Some i)
known_at f [] m i h = cc h
known_at f (x ∷ xs) zero i h = (x, refl, cc h)
known_at f (x ∷ xs) (suc m) i h = known_at f xs m i h

at_known : {A : Type 0} (f : A → Option ℕ) (xs : List A) (m i : ℕ) (x : A) → slice_get xs m ≡ Some x → f x ≡ Some i → slice_get (each_known f xs) m ≡ Some (Some i)
at_known f [] m i x h g = cc h
at_known f (y ∷ xs) zero i x h g = let same : y ≡ x = cc h in ap Some (ap f same ∙ g)
at_known f (y ∷ xs) (suc m) i x h g = at_known f xs m i x h g

long_none : (n : ℕ) → length {A = Option ℕ} (replicate n None) ≡ n
long_none zero = refl
long_none (suc n) = ap suc (long_none n)

module _ {K : Types} where
  -- a node among spots has an index among their nodes
  node_stands : (news : List (Spot K)) (p : Place) (k : Kind) → Among news (node_at p k) → (m : ℕ) × (slice_get (nodes_in news) m ≡ Some (p, k))
  node_stands [] p k h = absurd h
  node_stands (node_at q l ∷ news) p k (inl h) = let places : q ≡ p = cc h in let kinds : l ≡ k = cc h in (0, λ t. Some (places t, kinds t))
  node_stands (node_at q l ∷ news) p k (inr h) = let found = node_stands news p k h in (suc found.0, found.1)
  node_stands (component_at q c ∷ news) p k (inl h) = cc h
  node_stands (component_at q c ∷ news) p k (inr h) = node_stands news p k h

  node_among : (news : List (Spot K)) (m : ℕ) (p : Place) (k : Kind) → slice_get (nodes_in news) m ≡ Some (p, k) → Among news (node_at p k)
  node_among [] m p k h = cc h
  node_among (node_at q l ∷ news) zero p k h = let both : ◌≡◌ {A = Place × Kind} (q, l) (p, k) = cc h in inl (λ t. node_at ((both t).0) ((both t).1))
  node_among (node_at q l ∷ news) (suc m) p k h = inr (node_among news m p k h)
  node_among (component_at q c ∷ news) m p k h = inr (node_among news m p k h)

  module _ (olds : List (Place × Kind)) (news : List (Spot K)) (known : Place → Kind → Option ℕ)
      (sound : (p : Place) (k : Kind) (i : ℕ) → known p k ≡ Some i → slice_get olds i ≡ Some (p, k))
      (whole : (p : Place) (k : Kind) (i : ℕ) → slice_get olds i ≡ Some (p, k) → known p k ≡ Some i) where
    abbrev nodes_followed : List (Option ℕ)
    nodes_followed = followed (each_known (λ (q : Place × Kind). known q.0 q.1) (nodes_in news)) 0 (replicate (length olds) None)

    some_goes : (i j : ℕ) → get_or nodes_followed i None ≡ Some j → (m : ℕ) × (j ≡ 0 + m) × (slice_get (each_known (λ (q : Place × Kind). known q.0 q.1) (nodes_in news)) m ≡ Some (Some i))
    some_goes i j h =
        elim (followed_goes (each_known (λ (q : Place × Kind). known q.0 q.1) (nodes_in news)) 0 (replicate (length olds) None) i j h) [
          | inl before ↦ absurd (let e : None ≡ Some j = sym (none_at (length olds) i) ∙ before in cc e)
          | inr found ↦ found
        ]

    -- each node that is known goes where it stands among the new ones
    pub nodes_follow : NodesFollow olds news nodes_followed
    nodes_follow = record {
      goes = λ i j q here there.
          let found = some_goes i j there in
          let new = known_at (λ (r : Place × Kind). known r.0 r.1) (nodes_in news) found.0 i found.2 in
          let own : Some q ≡ Some new.0 = sym here ∙ sound (new.0).0 (new.0).1 i new.2 in
          let same : new.0 ≡ q = cc own in
          let at_j : slice_get (nodes_in news) j ≡ Some q = ap (λ n. slice_get (nodes_in news) n) (let e : j ≡ found.0 = omega (arith, found.1) in e) ∙ new.1 ∙ ap Some same in
          (at_j, found_node news q.0 q.1 (node_among news j q.0 q.1 at_j));
      went = λ i q here none.
          by_test (has_node news q.0 q.1)
          (
          λ has.
          let stands = node_stands news q.0 q.1 (node_found news q.0 q.1 has) in
          let gone = followed_went (each_known (λ (r : Place × Kind). known r.0 r.1) (nodes_in news)) 0 (replicate (length olds) None) i none in
          absurd (gone.1 stands.0 (at_known (λ (r : Place × Kind). known r.0 r.1) (nodes_in news) stands.0 i q stands.1 (whole q.0 q.1 i here))
          (let e : length (replicate (length olds) None) ≡ length olds = long_none (length olds) in let low : i < length olds = within_get olds i q here in omega (arith, e, low)))
          )
          (λ no. no);
      ends = λ i past.
          by_option (get_or nodes_followed i None) (λ none. none)
          (λ j there.
          let found = some_goes i j there in
          let new = known_at (λ (r : Place × Kind). known r.0 r.1) (nodes_in news) found.0 i found.2 in
          let own : None ≡ Some new.0 = sym past ∙ sound (new.0).0 (new.0).1 i new.2 in
          cc own);
    }

  -- a component that stands in both trees goes where it is known, one that is new goes nowhere
  abbrev pub seat_goes : (Place → Option ℕ) → Event K → List (Option ℕ)
  seat_goes known (stays p k) = []
  seat_goes known (goes p k) = []
  seat_goes known (comes p k) = []
  seat_goes known (fed p c d) = known p ∷ []
  seat_goes known (left p c) = []
  seat_goes known (made p d) = None ∷ []

  -- what went somewhere was fed
  seat_fed : (known : Place → Option ℕ) (es : List (Event K)) (m i : ℕ) → slice_get (flat (seat_goes known) es) m ≡ Some (Some i)
      → (p : Place) × (c : VComponent K) × (d : VComponent K) × Among es (fed p c d) × (slice_get (seats_in (flat new_in es)) m ≡ Some p) × (known p ≡ Some i)
  seat_fed known [] m i h = cc h
  seat_fed known (stays p k ∷ es) m i h = let r = seat_fed known es m i h in (r.0, r.1, r.2, inr r.3, r.4, r.5)
  seat_fed known (goes p k ∷ es) m i h = let r = seat_fed known es m i h in (r.0, r.1, r.2, inr r.3, r.4, r.5)
  seat_fed known (comes p k ∷ es) m i h = let r = seat_fed known es m i h in (r.0, r.1, r.2, inr r.3, r.4, r.5)
  seat_fed known (left p c ∷ es) m i h = let r = seat_fed known es m i h in (r.0, r.1, r.2, inr r.3, r.4, r.5)
  seat_fed known (fed p c d ∷ es) zero i h = (p, c, d, inl refl, refl, cc h)
  seat_fed known (fed p c d ∷ es) (suc m) i h = let r = seat_fed known es m i h in (r.0, r.1, r.2, inr r.3, r.4, r.5)
  seat_fed known (made p d ∷ es) zero i h = cc h
  seat_fed known (made p d ∷ es) (suc m) i h = let r = seat_fed known es m i h in (r.0, r.1, r.2, inr r.3, r.4, r.5)

  -- what was fed went where it is known
  fed_seat : (known : Place → Option ℕ) (es : List (Event K)) (p : Place) (c d : VComponent K) → Among es (fed p c d) → (m : ℕ) × (slice_get (flat (seat_goes known) es) m ≡ Some (known p))
  fed_seat known [] p c d h = absurd h
  fed_seat known (stays q k ∷ es) p c d (inl h) = cc h
  fed_seat known (stays q k ∷ es) p c d (inr h) = fed_seat known es p c d h
  fed_seat known (goes q k ∷ es) p c d (inl h) = cc h
  fed_seat known (goes q k ∷ es) p c d (inr h) = fed_seat known es p c d h
  fed_seat known (comes q k ∷ es) p c d (inl h) = cc h
  fed_seat known (comes q k ∷ es) p c d (inr h) = fed_seat known es p c d h
  fed_seat known (left q a ∷ es) p c d (inl h) = cc h
  fed_seat known (left q a ∷ es) p c d (inr h) = fed_seat known es p c d h
  fed_seat known (made q b ∷ es) p c d (inl h) = cc h
  fed_seat known (made q b ∷ es) p c d (inr h) = let r = fed_seat known es p c d h in (suc r.0, r.1)
  fed_seat known (fed q a b ∷ es) p c d (inl h) = let places : q ≡ p = cc h in (0, ap (λ (z : Place). Some (known z)) places)
  fed_seat known (fed q a b ∷ es) p c d (inr h) = let r = fed_seat known es p c d h in (suc r.0, r.1)

  module _ (app : Application K) (olds : List Place) (es : List (Event K)) (known : Place → Option ℕ)
      (sound : (p : Place) (i : ℕ) → known p ≡ Some i → slice_get olds i ≡ Some p)
      (whole : (p : Place) (i : ℕ) → slice_get olds i ≡ Some p → known p ≡ Some i)
      (agreed : AllIn (IsAgreed app (flat old_in es) (flat new_in es)) es) where
    abbrev seats_followed : List (Option ℕ)
    seats_followed = followed (flat (seat_goes known) es) 0 (replicate (length olds) None)

    some_seat : (i j : ℕ) → get_or seats_followed i None ≡ Some j → (m : ℕ) × (j ≡ 0 + m) × (slice_get (flat (seat_goes known) es) m ≡ Some (Some i))
    some_seat i j h =
        elim (followed_goes (flat (seat_goes known) es) 0 (replicate (length olds) None) i j h) [
          | inl before ↦ absurd (let e : None ≡ Some j = sym (none_at (length olds) i) ∙ before in cc e)
          | inr found ↦ found
        ]

    -- where nothing went no event fed
    none_fed : (i : ℕ) (p : Place) (c d : VComponent K) → slice_get olds i ≡ Some p → get_or seats_followed i None ≡ None → Among es (fed p c d) → ⊥
    none_fed i p c d here none h =
        let at_m = fed_seat known es p c d h in
        let gone = followed_went (flat (seat_goes known) es) 0 (replicate (length olds) None) i none in
        gone.1 at_m.0 (at_m.1 ∙ ap Some (whole p i here))
        (let e : length (replicate (length olds) None) ≡ length olds = long_none (length olds) in let low : i < length olds = within_get olds i p here in omega (arith, e, low))

    -- a component of the new tree was fed or made
    not_fed : (i : ℕ) (p : Place) (d : VComponent K) → slice_get olds i ≡ Some p → get_or seats_followed i None ≡ None
        → component_in (flat new_in es) p ≡ Some d → (e : Event K) → Among es e → Among (new_in e) (component_at p d)
        → is_fed app (component_in (flat old_in es) p) (Some d) ≡ false
    not_fed i p d here none is (stays q k) h (inl g) = cc g
    not_fed i p d here none is (stays q k) h (inr g) = absurd g
    not_fed i p d here none is (goes q k) h g = absurd g
    not_fed i p d here none is (comes q k) h (inl g) = cc g
    not_fed i p d here none is (comes q k) h (inr g) = absurd g
    not_fed i p d here none is (left q c) h g = absurd g
    not_fed i p d here none is (fed q c b) h (inl g) =
        let places : q ≡ p = cc g in
        absurd (none_fed i p c b here none (subst (λ (z : Place). Among es (fed z c b)) places h))
    not_fed i p d here none is (fed q c b) h (inr g) = absurd g
    not_fed i p d here none is (made q b) h (inl g) =
        let places : q ≡ p = cc g in
        let components : b ≡ d = cc g in
        (λ t. is_fed app (component_in (flat old_in es) (sym places t)) (Some (sym components t))) ∙ agreed (made q b) h
    not_fed i p d here none is (made q b) h (inr g) = absurd g

    -- each component that is known goes where it stands among the new ones, if its child scope is kept
    pub seats_follow : SeatsFollow (λ c d. is_fed app c d) olds (flat old_in es) (flat new_in es) seats_followed
    seats_follow = record {
      goes = λ i j p here there.
          let found = some_seat i j there in
          let new = seat_fed known es found.0 i found.2 in
          let own : Some p ≡ Some new.0 = sym here ∙ sound new.0 i new.5 in
          let same : new.0 ≡ p = cc own in (
            ap (λ n. slice_get (seats_in (flat new_in es)) n) (let e : j ≡ found.0 = omega (arith, found.1) in e) ∙ new.4 ∙ ap Some same,
            sym (ap (λ (z : Place). is_fed app (component_in (flat old_in es) z) (component_in (flat new_in es) z)) same) ∙ (agreed (fed new.0 new.1 new.2) new.3).2,
          );
      went = λ i p here none.
          by_option (component_in (flat new_in es) p)
          (λ no. by_option (component_in (flat old_in es) p) (λ neither. (λ t. is_fed app (neither t) (no t))) (λ c one. (λ t. is_fed app (one t) (no t))))
          (
          λ d is.
          let found = from-flat new_in es (component_at p d) (found-component (flat new_in es) p d is) in
          ap (λ o. is_fed app (component_in (flat old_in es) p) o) is ∙ not_fed i p d here none is found.0 found.1 found.2
          );
      ends = λ i past.
          by_option (get_or seats_followed i None) (λ none. none)
          (λ j there.
          let found = some_seat i j there in
          let new = seat_fed known es found.0 i found.2 in
          let own : None ≡ Some new.0 = sym past ∙ sound new.0 i new.5 in
          cc own);
    }
