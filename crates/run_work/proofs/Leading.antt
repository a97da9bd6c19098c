-- Each event leaves those nodes that a side knows where they stand, and as many components as it knows.
use Rattle.std.proofs.Common.{ℕ, zero, suc, List, [], ◌∷◌, ◌++◌, ◌≡◌, inl, inr, length, map, get_or, refl, sym, ap, ◌∙◌, subst}
use Rattle.std.specs.Prelude.{Option, Some, None, replicate, slice_get, slice_set}
use Rattle.rt_model.specs.OneLog.{types}
use Rattle.rt_model.specs.Tree.{Types, Place, Kind}
use Rattle.run_places.specs.Places.{node_of}
use Rattle.run_places.proofs.Sided.{node_there}
use Rattle.run_work.specs.After.{Ground, Out, after, goes_to, nothing_yet, one, with_node}
use Rattle.run_work.specs.Events.{Event, stays, goes, comes, fed, left, made}
use Rattle.run_work.specs.Goes.{NodesGo}
use Rattle.run_work.specs.Grounds.{ground_of, out_of}
use Rattle.run_work.specs.declared.patched.Ground as code
use Rattle.run_work.specs.declared.patched.Patched.{Patched}
use Rattle.run_work.proofs.Followed.{none_at, one_goes}

-- what stands in a list stands there in a longer one, and what comes stands at its end
get_before : {A : Type 0} (xs ys : List A) (i : ℕ) (x : A) → slice_get xs i ≡ Some x → slice_get (xs ++ ys) i ≡ Some x
get_before [] ys i x h = absurd (cc h)
get_before (y ∷ xs) ys zero x h = h
get_before (y ∷ xs) ys (suc i) x h = get_before xs ys i x h

get_last : {A : Type 0} (xs : List A) (x : A) → slice_get (xs ++ x ∷ []) (length xs) ≡ Some x
get_last [] x = refl
get_last (y ∷ xs) x = get_last xs x

module _ {K : Types} (g : Ground K) (olds : List (Place × Kind)) (sound : (p : Place) (k : Kind) (i : ℕ) → g.node_known p k ≡ Some i → slice_get olds i ≡ Some (p, k)) where
  node_leads : (p : Place) (k : Kind) (o : Out K) → NodesGo olds o.nodes o.nodes_to → NodesGo olds (with_node g p k o).nodes (with_node g p k o).nodes_to
  node_leads p k o led =
      record {
        stands = λ i j h.
            elim (one_goes o.nodes_to (g.node_known p k) (length o.nodes) i j h) [
              | inl before ↦ (let there = led.stands i j before in (there.0, there.1, get_before o.nodes ((p, k) ∷ []) j there.0 there.2))
              | inr here ↦ ((p, k), sound p k i here.0, ap (λ (n : ℕ). slice_get (o.nodes ++ (p, k) ∷ []) n) (sym here.1) ∙ get_last o.nodes (p, k))
            ];
      }

  one_leads : (e : Event K) (o : Out K) → NodesGo olds o.nodes o.nodes_to → NodesGo olds (one g e o).nodes (one g e o).nodes_to
  one_leads (stays p k) o led = node_leads p k o led
  one_leads (goes p k) o led = led
  one_leads (comes p k) o led = node_leads p k o led
  one_leads (fed p c d) o led = led
  one_leads (left p c) o led = led
  one_leads (made p d) o led = led

  after_leads : (es : List (Event K)) (o : Out K) → NodesGo olds o.nodes o.nodes_to → NodesGo olds (after g es o).nodes (after g es o).nodes_to
  after_leads [] o led = led
  after_leads (e ∷ es) o led = after_leads es (one g e o) (one_leads e o led)

-- so many indices, wherever they lead

long_set : (to : List (Option ℕ)) (i : ℕ) (o : Option ℕ) → length (slice_set to i o) ≡ length to
long_set [] i o = refl
long_set (x ∷ to) zero o = refl
long_set (x ∷ to) (suc i) o = ap suc (long_set to i o)

long_goes : (to : List (Option ℕ)) (o : Option ℕ) (n : ℕ) → length (goes_to to o n) ≡ length to
long_goes to None n = refl
long_goes to (Some i) n = long_set to i (Some n)

long_first : (n : ℕ) → length (replicate {A = Option ℕ} n None) ≡ n
long_first zero = refl
long_first (suc n) = ap suc (long_first n)

module _ {K : Types} (g : Ground K) where
  one_long : (e : Event K) (o : Out K) → length (one g e o).seats_to ≡ length o.seats_to
  one_long (stays p k) o = refl
  one_long (goes p k) o = refl
  one_long (comes p k) o = refl
  one_long (fed p c d) o = long_goes o.seats_to (g.seat_known p) (length o.seats)
  one_long (left p c) o = refl
  one_long (made p d) o = refl

  after_long : (es : List (Event K)) (o : Out K) → length (after g es o).seats_to ≡ length o.seats_to
  after_long [] o = refl
  after_long (e ∷ es) o = after_long es (one g e o) ∙ one_long e o

module _ {P C Q V H T E L : Type 0} where
  -- nothing was walked through yet
  led_first : (olds : List (Place × Kind)) (out : Patched P C Q V H T E L) (nodes seats : ℕ) → out_of out ≡ nothing_yet nodes seats → NodesGo olds (map node_of out.nodes) out.nodes_to
  unfolding out_of
  led_first olds out nodes seats h =
      record {
        stands = λ i j k. absurd (nowhere (sym (none_at nodes i) ∙ ap (λ (to : List (Option ℕ)). get_or to i None) (sym (ap (λ (o : Out (types C Q V H T E L)). o.nodes_to) h)) ∙ k));
      }
    where
      nowhere : {j : ℕ} → ◌≡◌ {A = Option ℕ} None (Some j) → ⊥
      nowhere k = cc k

module _ {P C Q V H T E L : Type 0} (g : code.Ground P C Q V H T E L) where
  -- a walk that found these events leads none astray
  pub goes_by : (es : List (Event (types C Q V H T E L))) (start now : Patched P C Q V H T E L) (nodes seats : ℕ) → out_of start ≡ nothing_yet nodes seats → out_of now ≡ after (ground_of g) es (out_of start)
      → NodesGo (map node_of (g.side.now).nodes) (map node_of now.nodes) now.nodes_to
  unfolding out_of ground_of
  goes_by es start now nodes seats first h =
      let olds : List (Place × Kind) = map node_of (g.side.now).nodes in
      subst (λ (o : Out (types C Q V H T E L)). NodesGo olds o.nodes o.nodes_to) (sym h)
      (after_leads (ground_of g) olds (λ p k i known. node_there (g.side.now).nodes p k i (sym known)) es (out_of start) (led_first olds start nodes seats first))

  -- each component that the side knows has an index
  pub seats_by : (es : List (Event (types C Q V H T E L))) (start now : Patched P C Q V H T E L) (nodes seats : ℕ) → out_of start ≡ nothing_yet nodes seats → out_of now ≡ after (ground_of g) es (out_of start)
      → length now.seats_to ≡ seats
  unfolding out_of ground_of
  seats_by es start now nodes seats first h =
      ap (λ (o : Out (types C Q V H T E L)). length o.seats_to) h
      ∙ after_long (ground_of g) es (out_of start)
      ∙ ap (λ (o : Out (types C Q V H T E L)). length o.seats_to) first
      ∙ long_first seats
