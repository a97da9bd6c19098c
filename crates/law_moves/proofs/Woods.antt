-- Of a lawful application the children of each scope stand one level below it, each once.
use Rattle.std.proofs.Common.{ℕ, ◌+◌, Bool, true, false, List, [], ◌∷◌, ◌++◌, ◌≡◌, ◌⊎◌, inl, inr, refl, sym, ap, ◌∙◌, subst, nat_eq}
use Rattle.std.specs.Prelude.{Option, Some, None, All, is_some, if◌then◌else◌}
use Rattle.std.specs.List.{AllByRecursion}
use Rattle.std.proofs.lemmas.Bool.{eqb-true}
use Rattle.std.proofs.lemmas.List.Elements.{All-head, All-tail}
use Rattle.rt_model.specs.Lists.{at}
use Rattle.rt_model.specs.Tree.{Types, Tree, Place, Spot, node_at, component_at}
use Rattle.rt_model.specs.World.{Elements, at_end, Application}
use Rattle.rt_model.specs.Laws.{IsLawful}
use Rattle.rt_model.specs.State.{SideName, MainSide, ChildrenSide, FallbackSide, Fault, IdsExhausted, Side, Scope, State, Item, Draw, Row, Feed, Make, Drop, Outcome, Done, Cut, side_of, is_live, parent_of, height_of}
use Rattle.rt_model.specs.Run.{child_at, spots_of}
use Rattle.rt_model.specs.Boundary.{live_child, children_among, side_scopes, boundary_step}
use Rattle.rt_model.specs.Removal.{children_below}
use Rattle.rt_model.specs.Replay.{Entry, Input, Machine, ended_by, numbered, mounted_state, is_due, due, outcome_of, change_by}
use Rattle.rt_model.specs.Causes.{Limits}
use Rattle.rt_model.specs.Lasting.{IsRooted}
use Rattle.rt_model.proofs.Maps.{by_test}
use Rattle.rt_model.proofs.Places.{place_of, Distinct, spots_distinct}
use Rattle.rt_model.proofs.RunFrames.{step_later}
use Rattle.rt_model.proofs.StepFrames.{Follows, follows_later, follows_refl}
use Rattle.rt_model.proofs.MachineFrames.{ended_later, numbered_later, mounted_later, change_follows}
use Rattle.rt_model.proofs.SideRuns.{mounted_stay}
use Rattle.rt_model.proofs.Stands.{Stands}
use Rattle.rt_model.proofs.Turns.{stay_stands}
use Rattle.rt_model.proofs.SideChanges.{Leads as LeadsTo, numbered_stands}
use Rattle.rt_model.proofs.NumbersRun.{step_leads}
use Rattle.rt_model.proofs.Begun.{Good, ended_good, row_done}
use Rattle.rt_model.proofs.NumbersStand.{Awaits, due_match, change_good, Sound, child_among}
use Rattle.law_moves.proofs.Begun.{begun_sound}
use Rattle.law_moves.specs.Moves.{Move, Silent, Closed, Logged, is_silent, Moves, Leads}
use Rattle.law_moves.specs.Removals.{children_at, Apart, Wooded}
use Rattle.rt_model.specs.Asides.{Aside, aside_state}
use Rattle.law_moves.specs.Asides.{IsAside}
use Rattle.law_moves.specs.Reached.{Reached, ReachedAreWooded}
use Rattle.rt_model.proofs.SideFrames.{Stay}
use Rattle.law_moves.proofs.Asides.{aside_stay, aside_later, Beside, beside}
use Rattle.law_moves.proofs.Ways.{reached_keep}
use Rattle.law_moves.proofs.Leaves.{all_joined}
use Rattle.law_moves.proofs.Acceptance.{same_as_itself}

-- what is apart and nowhere the same is apart together
apart_joined : (P Q : ℕ → Type 0) (xs ys : List ℕ) → ((x y : ℕ) → P x → Q y → nat_eq x y ≡ false) → AllByRecursion P xs → AllByRecursion Q ys → Apart xs → Apart ys → Apart (xs ++ ys)
apart_joined P Q [] ys differ p q a b = b
apart_joined P Q (x ∷ xs) ys differ p q a b =
    (all_joined (λ (n : ℕ). nat_eq x n ≡ false) xs ys a.0 (others ys q), apart_joined P Q xs ys differ p.1 q a.1 b)
  where
    others : (zs : List ℕ) → AllByRecursion Q zs → AllByRecursion (λ (n : ℕ). nat_eq x n ≡ false) zs
    others [] h = tt
    others (z ∷ zs) h = (differ x z p.0 h.0, others zs h.1)

all_weaker : (P Q : ℕ → Type 0) (xs : List ℕ) → ((x : ℕ) → P x → Q x) → AllByRecursion P xs → AllByRecursion Q xs
all_weaker P Q [] f h = tt
all_weaker P Q (x ∷ xs) f h = (f x h.0, all_weaker P Q xs f h.1)

module _ {K : Types} where
  found_where : (o : Option (Scope K)) → is_some o ≡ true → (x : Scope K) × (o ≡ Some x)
  found_where None h = cc
  found_where (Some x) h = (x, refl)

  -- a live child of a side, and the place where it stands
  pub record ChildOf (w : State K) (side : Side K) (t : ℕ) : Type 0 where
    pub place : Place
    pub child : child_at side.children place ≡ Some t
    pub live : is_live w t ≡ true

  child_if : (w : State K) (side : Side K) (p : Place) (t : ℕ) (b : Bool) → child_at side.children p ≡ Some t → is_live w t ≡ b → AllByRecursion (λ (n : ℕ). ChildOf w side n) (if b then t ∷ [] else [])
  child_if w side p t true e live = (record { place = p; child = e; live = live }, tt)
  child_if w side p t false e live = tt

  child_option : (w : State K) (side : Side K) (p : Place) (o : Option ℕ) → child_at side.children p ≡ o → AllByRecursion (λ (n : ℕ). ChildOf w side n) (live_child w o)
  child_option w side p None e = tt
  child_option w side p (Some t) e = child_if w side p t (is_live w t) e refl

  among_children : (w : State K) (side : Side K) (ss : List (Spot K)) → AllByRecursion (λ (n : ℕ). ChildOf w side n) (children_among w side.children ss)
  among_children w side [] = tt
  among_children w side (node_at p k ∷ ss) = among_children w side ss
  among_children w side (component_at p c ∷ ss) =
      all_joined (λ (n : ℕ). ChildOf w side n) (live_child w (child_at side.children p)) (children_among w side.children ss)
      (child_option w side p (child_at side.children p) refl)
      (among_children w side ss)

  pub side_children : (w : State K) (side : Side K) → AllByRecursion (λ (n : ℕ). ChildOf w side n) (side_scopes w side)
  side_children w side = among_children w side (spots_of side.output)

  -- the first child of a place, and those of other places
  module _ (w : State K) (side : Side K) (slot : (t : ℕ) (p q : Place) → child_at side.children p ≡ Some t → child_at side.children q ≡ Some t → p ≡ q) where
    differs_if : (t n : ℕ) (p q : Place) → (p ≡ q → ⊥) → child_at side.children p ≡ Some t → child_at side.children q ≡ Some n → nat_eq t n ≡ false
    differs_if t n p q apart e f =
        by_test (nat_eq t n)
        (λ same. absurd (apart (slot t p q e (f ∙ sym (ap (λ (k : ℕ). Some k) (eqb-true t n same))))))
        (λ other. other)

    differ_live : (t n : ℕ) (b : Bool) → nat_eq t n ≡ false → AllByRecursion (λ (k : ℕ). nat_eq t k ≡ false) (if b then n ∷ [] else [])
    differ_live t n true h = (h, tt)
    differ_live t n false h = tt

    differ_option : (t : ℕ) (p q : Place) (o : Option ℕ) → (p ≡ q → ⊥) → child_at side.children p ≡ Some t → child_at side.children q ≡ o → AllByRecursion (λ (k : ℕ). nat_eq t k ≡ false) (live_child w o)
    differ_option t p q None apart e f = tt
    differ_option t p q (Some n) apart e f = differ_live t n (is_live w n) (differs_if t n p q apart e f)

    differ_among : (t : ℕ) (p : Place) (ss : List (Spot K)) → child_at side.children p ≡ Some t → All (λ (f : Spot K). p ≡ place_of f → ⊥) ss → AllByRecursion (λ (k : ℕ). nat_eq t k ≡ false) (children_among w side.children ss)
    differ_among t p [] e apart = tt
    differ_among t p (node_at q k ∷ ss) e apart = differ_among t p ss e (All-tail (λ (f : Spot K). p ≡ place_of f → ⊥) (node_at q k) ss apart)
    differ_among t p (component_at q c ∷ ss) e apart =
        all_joined (λ (k : ℕ). nat_eq t k ≡ false) (live_child w (child_at side.children q)) (children_among w side.children ss)
        (differ_option t p q (child_at side.children q) (All-head (λ (f : Spot K). p ≡ place_of f → ⊥) (component_at q c) ss apart) e refl)
        (differ_among t p ss e (All-tail (λ (f : Spot K). p ≡ place_of f → ⊥) (component_at q c) ss apart))

    apart_after : (p : Place) (o : Option ℕ) (ss : List (Spot K)) → child_at side.children p ≡ o → All (λ (f : Spot K). p ≡ place_of f → ⊥) ss → Apart (children_among w side.children ss)
        → Apart (live_child w o ++ children_among w side.children ss)
    apart_after p None ss e apart h = h
    apart_after p (Some t) ss e apart h = with_first (is_live w t)
      where
        with_first : (b : Bool) → Apart ((if b then t ∷ [] else []) ++ children_among w side.children ss)
        with_first true = (differ_among t p ss e apart, h)
        with_first false = h

    apart_among : (ss : List (Spot K)) → Distinct ss → Apart (children_among w side.children ss)
    apart_among [] distinct = tt
    apart_among (node_at p k ∷ ss) distinct = apart_among ss distinct.1
    apart_among (component_at p c ∷ ss) distinct = apart_after p (child_at side.children p) ss refl distinct.0 (apart_among ss distinct.1)

  spots_apart : (o : Option (Tree K)) → Distinct (spots_of o)
  spots_apart None = tt
  spots_apart (Some tree) = spots_distinct [] tree

  module _ (w : State K) (work : List (Item K)) (r : IsRooted w) (h : Stands w work) where
    -- a live child of a side knows its parent and its side
    record Knows (s : ℕ) (a : SideName) (t : ℕ) : Type 0 where
      scope : Scope K
      found : at w.scopes t ≡ Some scope
      parent : scope.parent ≡ Some s
      below : scope.below ≡ a

    knows : (s : ℕ) (x : Scope K) (a : SideName) (t : ℕ) → at w.scopes s ≡ Some x → ChildOf w (side_of x a) t → Knows s a t
    knows s x a t e c =
        let live = found_where (at w.scopes t) c.live in
        let told = h.child s t x live.0 a c.place e (child_among (side_of x a).children c.place t c.child) live.1 in
        record { scope = live.0; found = live.1; parent = told.0; below = told.1 }

    height_found : (s : ℕ) (x : Scope K) → at w.scopes s ≡ Some x → height_of w.scopes s ≡ x.height
    height_found s x e = ap (λ (o : Option (Scope K)). elim o as (λ z. ℕ) [ None ↦ 0 | Some y ↦ y.height ]) e

    rises_by_one : (s : ℕ) (x : Scope K) (a : SideName) (t : ℕ) → at w.scopes s ≡ Some x → Knows s a t → height_of w.scopes t ≡ height_of w.scopes s + 1
    rises_by_one s x a t e k =
        height_found t k.scope k.found ∙ r.heights t s k.scope x k.found k.parent e ∙ ap (λ (n : ℕ). n + 1) (sym (height_found s x e))

    side_knows : (s : ℕ) (x : Scope K) (a : SideName) → at w.scopes s ≡ Some x → AllByRecursion (λ (t : ℕ). Knows s a t) (side_scopes w (side_of x a))
    side_knows s x a e =
        all_weaker (λ (t : ℕ). ChildOf w (side_of x a) t) (λ (t : ℕ). Knows s a t) (side_scopes w (side_of x a)) (λ t c. knows s x a t e c) (side_children w (side_of x a))

    pub side_apart : (s : ℕ) (x : Scope K) (a : SideName) → at w.scopes s ≡ Some x → Apart (side_scopes w (side_of x a))
    side_apart s x a e =
        apart_among w (side_of x a)
        (λ t p q f g. h.slot s t x a p q e (child_among (side_of x a).children p t f) (child_among (side_of x a).children q t g))
        (spots_of (side_of x a).output) (spots_apart (side_of x a).output)

    same_below : (t : ℕ) (x y : Scope K) → at w.scopes t ≡ Some x → at w.scopes t ≡ Some y → x.below ≡ y.below
    same_below t x y e f =
        let same : Some x ≡ Some y = sym e ∙ f in
        let one : x ≡ y = cc in
        ap (λ (z : Scope K). z.below) one

    -- children of two sides are two
    sides_differ : (s : ℕ) (a b : SideName) (t n : ℕ) → (a ≡ b → ⊥) → Knows s a t → Knows s b n → nat_eq t n ≡ false
    sides_differ s a b t n apart k l =
        by_test (nat_eq t n)
        (
        λ q.
        let there : at w.scopes t ≡ Some l.scope = ap (λ (i : ℕ). at w.scopes i) (eqb-true t n q) ∙ l.found in
        absurd (apart (sym k.below ∙ same_below t k.scope l.scope k.found there ∙ l.below))
        )
        (λ q. q)

    fallback_first : FallbackSide ≡ ChildrenSide → ⊥
    fallback_first e = cc

    fallback_main : FallbackSide ≡ MainSide → ⊥
    fallback_main e = cc

    children_main : ChildrenSide ≡ MainSide → ⊥
    children_main e = cc

    rises_at : (s : ℕ) (o : Option (Scope K)) → at w.scopes s ≡ o → AllByRecursion (λ (t : ℕ). height_of w.scopes t ≡ height_of w.scopes s + 1) (children_below w o)
    rises_at s None e = tt
    rises_at s (Some x) e =
        let Up : ℕ → Type 0 = λ (t : ℕ). height_of w.scopes t ≡ height_of w.scopes s + 1 in
        let up : (a : SideName) → AllByRecursion Up (side_scopes w (side_of x a)) =
        λ a. all_weaker (λ (t : ℕ). Knows s a t) Up (side_scopes w (side_of x a)) (λ t k. rises_by_one s x a t e k) (side_knows s x a e) in
        all_joined Up (side_scopes w x.fallback_side ++ side_scopes w x.children_side) (side_scopes w x.main_side)
        (all_joined Up (side_scopes w x.fallback_side) (side_scopes w x.children_side) (up FallbackSide) (up ChildrenSide))
        (up MainSide)

    parent_found : (t : ℕ) (x : Scope K) → at w.scopes t ≡ Some x → parent_of w.scopes t ≡ x.parent
    parent_found t x e = ap (λ (o : Option (Scope K)). elim o as (λ z. Option ℕ) [ None ↦ None | Some y ↦ y.parent ]) e

    know_at : (s : ℕ) (o : Option (Scope K)) → at w.scopes s ≡ o → AllByRecursion (λ (t : ℕ). parent_of w.scopes t ≡ Some s) (children_below w o)
    know_at s None e = tt
    know_at s (Some x) e =
        let Of : ℕ → Type 0 = λ (t : ℕ). parent_of w.scopes t ≡ Some s in
        let of : (a : SideName) → AllByRecursion Of (side_scopes w (side_of x a)) =
        λ a. all_weaker (λ (t : ℕ). Knows s a t) Of (side_scopes w (side_of x a)) (λ t k. parent_found t k.scope k.found ∙ k.parent) (side_knows s x a e) in
        all_joined Of (side_scopes w x.fallback_side ++ side_scopes w x.children_side) (side_scopes w x.main_side)
        (all_joined Of (side_scopes w x.fallback_side) (side_scopes w x.children_side) (of FallbackSide) (of ChildrenSide))
        (of MainSide)

    -- each child of a scope has it as its parent
    pub children_know : (s : ℕ) → AllByRecursion (λ (t : ℕ). parent_of w.scopes t ≡ Some s) (children_at w s)
    children_know s = know_at s (at w.scopes s) refl

    apart_at : (s : ℕ) (o : Option (Scope K)) → at w.scopes s ≡ o → Apart (children_below w o)
    apart_at s None e = tt
    apart_at s (Some x) e =
        let fallback : List ℕ = side_scopes w x.fallback_side in
        let children : List ℕ = side_scopes w x.children_side in
        let main : List ℕ = side_scopes w x.main_side in
        let Upper : ℕ → Type 0 = λ (t : ℕ). Knows s FallbackSide t ⊎ Knows s ChildrenSide t in
        let two : Apart (fallback ++ children) =
        apart_joined (λ (t : ℕ). Knows s FallbackSide t) (λ (t : ℕ). Knows s ChildrenSide t) fallback children
        (λ t n k l. sides_differ s FallbackSide ChildrenSide t n fallback_first k l)
        (side_knows s x FallbackSide e) (side_knows s x ChildrenSide e) (side_apart s x FallbackSide e) (side_apart s x ChildrenSide e) in
        apart_joined Upper (λ (t : ℕ). Knows s MainSide t) (fallback ++ children) main
        (λ t n u l. elim u [ inl k ↦ sides_differ s FallbackSide MainSide t n fallback_main k l | inr k ↦ sides_differ s ChildrenSide MainSide t n children_main k l ])
        (
        all_joined Upper fallback children
        (all_weaker (λ (t : ℕ). Knows s FallbackSide t) Upper fallback (λ t k. inl k) (side_knows s x FallbackSide e))
        (all_weaker (λ (t : ℕ). Knows s ChildrenSide t) Upper children (λ t k. inr k) (side_knows s x ChildrenSide e))
        )
        (side_knows s x MainSide e) two (side_apart s x MainSide e)

    -- so what stands is wooded
    pub stands_wooded : Wooded w
    stands_wooded = record { rises = λ s. rises_at s (at w.scopes s) refl; apart = λ s. apart_at s (at w.scopes s) refl }

module _ {K : Types} (app : Application K) (lawful : IsLawful K app) where
  awaits_built : (m : Machine K) (item : Item K) (rest : List (Item K)) → Awaits app m → m.work ≡ item ∷ rest → m.built ≡ true
  awaits_built m item rest (inl built) next = built
  awaits_built m item rest (inr none) next = let absurdity : item ∷ rest ≡ [] = sym next ∙ none in cc

  number_leads : (w : State K) (rest : List (Item K)) (fault : Fault) (v : State K) (b : Bool) → Stands v rest → LeadsTo rest (if b then Cut w fault else Done v [])
  number_leads w rest fault v true h = tt
  number_leads w rest fault v false h = h

  number_follows : (m : Machine K) (item : Item K) (rest : List (Item K)) (fault : Fault) (v : State K) (b : Bool) → Follows m.state v → Follows m.state (ended_by m (Some item) rest (if b then Cut m.state fault else Done v [])).state
  number_follows m item rest fault v true h = follows_refl m.state
  number_follows m item rest fault v false h = h

  sound_of : (u : Machine K) → IsRooted u.state → Good u → Sound app lawful u
  sound_of u rooted good = record { rooted = rooted; stands = λ alive. (good alive).stands; awaits = λ alive. inl (good alive).built }

  silent_item_sound : (m : Machine K) (item : Item K) (rest : List (Item K)) → is_silent item ≡ true → m.built ≡ true → IsRooted m.state → Stands m.state (item ∷ rest)
      → Sound app lawful (ended_by m (Some item) rest (outcome_of app m.state item))
  silent_item_sound m (Draw s side p k) rest silent built rooted h =
      let item : Item K = Draw s side p k in
      let v : State K = numbered m.state s side p k in
      let b : Bool = at_end m.state.next.elements in
      let o : Outcome K = outcome_of app m.state item in
      sound_of (ended_by m (Some item) rest o)
      ((number_follows m item rest (IdsExhausted Elements) v b (follows_later m.state v (numbered_later m.state s side p k))).rooted rooted)
      (ended_good m (Some item) rest o built (number_leads m.state rest (IdsExhausted Elements) v b (numbered_stands m.state rest s side p k h)))
  silent_item_sound m (Row b step) rest silent built rooted h =
      let item : Item K = Row b step in
      let o : Outcome K = boundary_step app m.state b step in
      let u : Machine K = ended_by m (Some item) rest o in
      sound_of u
      ((follows_later m.state u.state (ended_later m.state m (Some item) rest o (step_later app lawful m.state b step))).rooted rooted)
      (ended_good m (Some item) rest o built (step_leads app lawful m.state rest b step (row_done m.state rest b step h)))
  silent_item_sound m (Feed s side p c) rest silent built rooted h = cc
  silent_item_sound m (Make s side p c) rest silent built rooted h = cc
  silent_item_sound m (Drop t s side) rest silent built rooted h = cc

  -- what stands before a move stands after it
  pub move_sound : (limits : Limits) (m u : Machine K) (move : Move) → Moves app limits m move u → Sound app lawful m → Sound app lawful u
  move_sound limits m u Silent h s =
      let stands : Stands m.state (h.item ∷ h.later) = subst (λ (items : List (Item K)). Stands m.state items) h.next (s.stands h.alive) in
      subst (λ (x : Machine K). Sound app lawful x) (sym h.gives)
      (silent_item_sound m h.item h.later h.silent (awaits_built m h.item h.later (s.awaits h.alive) h.next) s.rooted stands)
  move_sound limits m u Closed h s =
      let v : State K = mounted_state m.state in
      subst (λ (x : Machine K). Sound app lawful x) (sym h.gives)
      (
      record {
        rooted = (follows_later m.state v (mounted_later m.state)).rooted s.rooted;
        stands = λ alive. stay_stands m.state v m.work (mounted_stay m.state) (s.stands alive);
        awaits = λ alive. s.awaits alive;
      }
      )
  move_sound limits m u (Logged e) h s =
      let now : is_due app (due app m) e ≡ true = ap (λ (o : Option Entry). is_due app o e) h.due_is ∙ same_as_itself e in
      let fits = due_match app m e s.awaits now in
      let v : Machine K = change_by app m m.work e in
      subst (λ (x : Machine K). Sound app lawful x) (sym h.gives)
      (sound_of v ((change_follows app lawful m m.work e).rooted s.rooted) (change_good app lawful m m.work e fits.1 fits.2 s.rooted (s.stands fits.0) refl))

  pub moves_sound : (limits : Limits) (m v : Machine K) (moves : List Move) → Leads app limits m moves v → Sound app lawful m → Sound app lawful v
  moves_sound limits m v [] leads s = subst (λ (x : Machine K). Sound app lawful x) (sym leads) s
  moves_sound limits m v (move ∷ moves) leads s = moves_sound limits leads.0 v moves leads.2 (move_sound limits m leads.0 move leads.1 s)

  -- what stands before a call that logs no entry stands after it
  pub aside_sound : (m u : Machine K) (a : Aside K) → IsAside app m a u → Sound app lawful m → Sound app lawful u
  aside_sound m u a h s =
      let w : State K = m.state in
      let v : State K = aside_state app w a in
      let b : Beside app lawful m u v = beside app lawful m u a h in
      let stay : Stay w v = aside_stay app lawful w a h.allowed in
      let same : u.work ≡ m.work = b.work in
      record {
        rooted = subst (λ (x : State K). IsRooted x) (sym b.state) ((follows_later w v (aside_later app lawful w a h.allowed)).rooted s.rooted);
        stands =
            λ alive.
            subst (λ (xs : List (Item K)). Stands u.state xs) (sym same)
            (subst (λ (x : State K). Stands x m.work) (sym b.state) (stay_stands w v m.work stay (s.stands (sym b.dead ∙ alive))));
        awaits = λ alive. inl (b.built ∙ h.built);
      }

  -- what stands at the start stands wherever moves lead, and calls that log no entry
  pub reached_sound : (limits : Limits) (props : K.Props) (inputs : List (Input K)) (m : Machine K) → Reached app limits props inputs m → Sound app lawful m
  reached_sound limits props inputs m reached =
      reached_keep app limits props inputs (λ (x : Machine K). Sound app lawful x) (λ u v moves leads s. moves_sound limits u v moves leads s) (λ u v a h s. aside_sound u v a h s)
      (λ firsts contexts above. begun_sound app props contexts firsts inputs lawful above) m reached

pub reached_are_wooded : {K : Types} (app : Application K) → ReachedAreWooded app
reached_are_wooded app lawful limits props inputs m reached alive =
    let sound = reached_sound app lawful limits props inputs m reached in
    stands_wooded m.state m.work sound.rooted (sound.stands alive)
