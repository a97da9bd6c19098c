-- The scopes round the application's root stay, whatever moves lead to.
use Rattle.std.proofs.Common.{ℕ, ◌+◌, ◌||◌, Bool, true, false, List, [], ◌∷◌, ◌++◌, ◌≡◌, refl, sym, ap, ◌∙◌, subst, nat_eq, arith}
use Rattle.std.proofs.lemmas.Bool.{eqb-true}
use Rattle.std.specs.Prelude.{Option, Some, None, if◌then◌else◌}
use Rattle.rt_model.specs.Lists.{at, has}
use Rattle.rt_model.specs.Tree.{Types, VComponent, Place, Kind}
use Rattle.rt_model.specs.World.{Elements, Scopes, at_end, Application}
use Rattle.rt_model.specs.Laws.{IsLawful}
use Rattle.rt_model.specs.State.{SideName, MainSide, IdsExhausted, RowStep, Scope, State, Item, Draw, Row, Feed, Make, Drop, Outcome, Done, Cut, side_of, with_side, is_live}
use Rattle.rt_model.specs.Run.{child_at, serves, with_next, run}
use Rattle.rt_model.specs.Boundary.{boundary_step}
use Rattle.rt_model.specs.Removal.{removed}
use Rattle.rt_model.specs.Replay.{numbered, draw_number, with_child, with_new_scope, fed_child, keeps, made_in, with_props, handed, outcome_of}
use Rattle.rt_model.proofs.Maps.{by_test}
use Rattle.rt_model.proofs.NumbersStand.{child_among}
use Rattle.rt_model.proofs.NumbersRun.{Idle, removed_idle}
use Rattle.law_moves.specs.Moves.{entries}
use Rattle.law_moves.specs.Calls.{IsReady}
use Rattle.law_moves.specs.Frames.{Shown, shown, Keeps, those, served_by}
use Rattle.law_moves.proofs.Untouched.{stand_by, run_leaves, item_leaves, removal_leaves, make_joins}
use Rattle.law_moves.proofs.Taken.{LeafOf, leaf_found}
use Rattle.law_moves.proofs.Twigs.{up, up_found, found_live}
use Rattle.law_moves.proofs.Everywhere.{reached_ready}
use Rattle.law_headline.proofs.Steps.{Ready, Outlasts, moves_keep}
use Rattle.law_headline.proofs.Trees.{keeps_of, joins_of, apart_has}
use Rattle.law_behavior.specs.Along.{NoneRemoves}
use Rattle.law_lasting.specs.ChildrenLast.{ChildrenStay}
use Rattle.law_reduce.specs.RootStays.{suspense_boundary, Wrapped, WrappersStay, RootStays}
use Rattle.law_reduce.proofs.Live.{live_unremoved}
use Rattle.law_reduce.proofs.Wraps.{shape, SeenAs, RowOf, row_seen, SeenO, changed_here, both_fit, run_fit}
use Rattle.law_reduce.proofs.Around.{live_still, RootShows, BoundaryShows, Fit, BothO, WorkO, Wraps, seen_on, seen_by, one_served, root_row, around_row, around_up, not_root, from_root, from_around, from_error, other_than, not_new, numbers_root, numbers_around, child_root, child_around}
use Rattle.law_reduce.proofs.RootRuns.{root_run, around_run, top_step, inner_step, else_step}

module _ {K : Types} (app : Application K) (lawful : IsLawful K app) (c : K.Component) (p : K.Props) (s t : ℕ) where
  abbrev Top : Shown K → Type 0
  Top f = RootShows c p s t f

  abbrev Inner : Shown K → Type 0
  Inner f = BoundaryShows c p s t f

  abbrev around : VComponent K
  around = suspense_boundary c p

  -- items

  served_one : (w v : State K) (item : Item K) (b : ℕ) (rest work : List (Item K)) → Wraps c p s t w (item ∷ rest) → Keeps (b ∷ []) [] w v → outcome_of app w item ≡ Done v work
      → (b ≡ 0 → SeenO 0 (λ f. Top f) (outcome_of app w item))
      → (b ≡ s → SeenO s (λ f. Inner f) (outcome_of app w item))
      → WorkO c p s t (outcome_of app w item)
      → Wraps c p s t v (work ++ rest)
  served_one w v item b rest work h k e top inner fit =
      one_served c p s t w v b (item ∷ rest) (work ++ rest) h (λ n q. k.sides n (apart_has b n q)) (k.stands t refl)
      (λ z. seen_by c p s t 0 (λ f. Top f) (outcome_of app w item) v work e (top z))
      (λ z. seen_by c p s t s (λ f. Inner f) (outcome_of app w item) v work e (inner z))
      (both_fit around work rest (subst (λ (o : Outcome K). WorkO c p s t o) e fit) h.items.1)

  pub numbered_seen : (w : State K) (n : ℕ) (R : Shown K → Type 0) (a : SideName) (q : Place) (k : Kind) (x : Scope K) → at w.scopes n ≡ Some x
      → R (shape (with_side x a (record (side_of x a) { numbers = (side_of x a).numbers ++ (q, k, w.next.elements) ∷ [] })))
      → SeenO n R (draw_number w n a q k)
  numbered_seen w n R a q k x there fine = by (at_end w.next.elements)
    where
      by : (b : Bool) → SeenO n R (if b then Cut w (IdsExhausted Elements) else Done (numbered w n a q k) [])
      by true = tt
      by false =
          let u : State K = with_next w (record (w.next) { elements = w.next.elements + 1 }) in
          record {
            now = shape (with_side x a (record (side_of x a) { numbers = (side_of x a).numbers ++ (q, k, w.next.elements) ∷ [] }));
            is = changed_here u n (λ y. with_side y a (record (side_of y a) { numbers = (side_of y a).numbers ++ (q, k, w.next.elements) ∷ [] })) x (at u.scopes n) there;
            fine = fine;
          }

  pub numbered_fit : (w : State K) (n : ℕ) (a : SideName) (q : Place) (k : Kind) → WorkO c p s t (draw_number w n a q k)
  numbered_fit w n a q k = by (at_end w.next.elements)
    where
      by : (b : Bool) → WorkO c p s t (if b then Cut w (IdsExhausted Elements) else Done (numbered w n a q k) [])
      by true = tt
      by false = tt

  served_draw : (w v : State K) (b : ℕ) (a : SideName) (q : Place) (k : Kind) (rest work : List (Item K)) → Wraps c p s t w (Draw b a q k ∷ rest) → outcome_of app w (Draw b a q k) ≡ Done v work
      → Wraps c p s t v (work ++ rest)
  served_draw w v b a q k rest work h e =
      let item : Item K = Draw b a q k in
      let r : RowOf 0 (λ f. Top f) w = root_row c p s t w (item ∷ rest) h in
      let i : RowOf s (λ f. Inner f) w = around_row c p s t w (item ∷ rest) h in
      served_one w v item b rest work h (keeps_of (b ∷ []) [] w v work (outcome_of app w item) (item_leaves app w item) e) e
      (
      λ z.
      subst (λ (m : ℕ). SeenO 0 (λ f. Top f) (draw_number w m a q k)) (sym z)
      (numbered_seen w 0 (λ f. Top f) a q k r.row r.there (numbers_root c p s t r.row a ((side_of r.row a).numbers ++ (q, k, w.next.elements) ∷ []) r.fine))
      )
      (
      λ z.
      subst (λ (m : ℕ). SeenO s (λ f. Inner f) (draw_number w m a q k)) (sym z)
      (numbered_seen w s (λ f. Inner f) a q k i.row i.there (numbers_around c p s t i.row a ((side_of i.row a).numbers ++ (q, k, w.next.elements) ∷ []) i.fine))
      )
      (numbered_fit w b a q k)

  served_row : (w v : State K) (b : ℕ) (step : RowStep) (rest work : List (Item K)) → Ready w (Row b step ∷ rest) → Wraps c p s t w (Row b step ∷ rest) → outcome_of app w (Row b step) ≡ Done v work
      → Wraps c p s t v (work ++ rest)
  served_row w v b step rest work ready h e =
      let item : Item K = Row b step in
      let r : RowOf 0 (λ f. Top f) w = root_row c p s t w (item ∷ rest) h in
      let i : RowOf s (λ f. Inner f) w = around_row c p s t w (item ∷ rest) h in
      let x = found_live (at w.scopes b) ready.woven.stack.0 in
      served_one w v item b rest work h (keeps_of (b ∷ []) [] w v work (outcome_of app w item) (item_leaves app w item) e) e
      (λ z. subst (λ (m : ℕ). SeenO 0 (λ f. Top f) (boundary_step app w m step)) (sym z) (top_step app lawful c p s t w r.row step r.there r.fine))
      (λ z. subst (λ (m : ℕ). SeenO s (λ f. Inner f) (boundary_step app w m step)) (sym z) (inner_step app lawful c p s t w i.row step i.there i.fine))
      (else_step app lawful c p s t w b x.0 step x.1)

  -- a new child

  one_row : (w : State K) (b n : ℕ) (x y : Scope K) → b ≡ n → at w.scopes b ≡ Some x → at w.scopes n ≡ Some y → y ≡ x
  one_row w b n x y e f g = let both : Some y ≡ Some x = sym g ∙ ap (λ (m : ℕ). at w.scopes m) (sym e) ∙ f in cc

  pub two_apart : (b n m : ℕ) → nat_eq b m ≡ false → nat_eq n m ≡ false → has (b ∷ n ∷ []) m ≡ false
  two_apart b n m f g = ap (λ (z : Bool). z || has (n ∷ []) m) f ∙ apart_has n m g

  pub made_fit : (w : State K) (b : ℕ) (a : SideName) (q : Place) (d : VComponent K) (x : Scope K) → at w.scopes b ≡ Some x → nat_eq w.next_scope 0 ≡ false → WorkO c p s t (outcome_of app w (Make b a q d))
  made_fit w b a q d x there new =
      subst (λ (o : Option (Scope K)). WorkO c p s t (elim o as (λ z. Outcome K) [ None ↦ Done w [] | Some y ↦ made_in app w b a q d y ])) (sym there)
      (by (at_end w.next_scope))
    where
      by : (z : Bool) → WorkO c p s t (if z then Cut w (IdsExhausted Scopes) else run app (with_new_scope w b a q d x) w.next_scope)
      by true = tt
      by false = run_fit around app lawful (with_new_scope w b a q d x) w.next_scope new

  served_make : (w v : State K) (b : ℕ) (a : SideName) (q : Place) (d : VComponent K) (rest work : List (Item K)) → Ready w (Make b a q d ∷ rest) → is_live w b ≡ true → Wraps c p s t w (Make b a q d ∷ rest)
      → outcome_of app w (Make b a q d) ≡ Done v work
      → Wraps c p s t v (work ++ rest)
  served_make w v b a q d rest work ready live h e =
      let item : Item K = Make b a q d in
      let n : ℕ = w.next_scope in
      let x = found_live (at w.scopes b) live in
      let fresh : at w.scopes n ≡ None = (ready.rooted).drawn n (omega arith) in
      let k : Keeps (b ∷ n ∷ []) (n ∷ []) w v = keeps_of (b ∷ n ∷ []) (n ∷ []) w v work (outcome_of app w item) (item_leaves app w item) e in
      let joined = joins_of b a q d w v x.0 work (outcome_of app w item) (make_joins app w b a q d x.0 x.1 fresh) e in
      let r : RowOf 0 (λ f. Top f) w = root_row c p s t w (item ∷ rest) h in
      let i : RowOf s (λ f. Inner f) w = around_row c p s t w (item ∷ rest) h in
      let below = found_live (at w.scopes t) h.live in
      let new : nat_eq n 0 ≡ false = not_new c p s t w (item ∷ rest) 0 r.row ready r.there in
      record {
        root =
            by_test (nat_eq b 0)
            (
            λ z.
            record {
              now = shape (with_child a q n x.0);
              is = ap (λ (m : ℕ). shown (at v.scopes m)) (sym (eqb-true b 0 z)) ∙ joined.0;
              fine = child_root c p s t x.0 a q n (subst (λ (y : Scope K). Top (shape y)) (one_row w b 0 x.0 r.row (eqb-true b 0 z) x.1 r.there) r.fine);
            }
            )
            (λ z. seen_on c p s t w v 0 (λ f. Top f) h.root (k.sides 0 (two_apart b n 0 z new)));
        around =
            by_test (nat_eq b s)
            (
            λ z.
            record {
              now = shape (with_child a q n x.0);
              is = ap (λ (m : ℕ). shown (at v.scopes m)) (sym (eqb-true b s z)) ∙ joined.0;
              fine = child_around c p s t x.0 a q n (subst (λ (y : Scope K). Inner (shape y)) (one_row w b s x.0 i.row (eqb-true b s z) x.1 i.there) i.fine);
            }
            )
            (λ z. seen_on c p s t w v s (λ f. Inner f) h.around (k.sides s (two_apart b n s z (not_new c p s t w (item ∷ rest) s i.row ready i.there))));
        live = live_still w v t (k.stands t (apart_has n t (not_new c p s t w (item ∷ rest) t below.0 ready below.1))) h.live;
        items = both_fit around work rest (subst (λ (o : Outcome K). WorkO c p s t o) e (made_fit w b a q d x.0 x.1 new)) h.items.1;
      }

  -- a child is handed a component

  handed_seen : (w : State K) (x : Scope K) → at w.scopes s ≡ Some x → Inner (shape x) → SeenO s (λ f. Inner f) (handed app w s around)
  handed_seen w x there fine = by (keeps app w s around)
    where
      y : Scope K
      y = record x { component = around }

      u : State K
      u = with_props app w s around

      here : shown (at u.scopes s) ≡ Some (shape y)
      here = changed_here w s (λ z. record z { component = around }) x (at w.scopes s) there

      again : Inner (shape y)
      again = (refl, fine.1, fine.2)

      by : (b : Bool) → SeenO s (λ f. Inner f) (if b then Done u [] else run app u s)
      by true = record { now = shape y; is = here; fine = again }
      by false =
          let r : RowOf s (λ f. Inner f) u = row_seen s (λ f. Inner f) u (record { now = shape y; is = here; fine = again }) in
          around_run app lawful c p s t u r.row r.there r.fine

  pub handed_fit : (w : State K) (n : ℕ) (d : VComponent K) → nat_eq n 0 ≡ false → WorkO c p s t (handed app w n d)
  handed_fit w n d other = by (keeps app w n d)
    where
      by : (b : Bool) → WorkO c p s t (if b then Done (with_props app w n d) [] else run app (with_props app w n d) n)
      by true = tt
      by false = run_fit around app lawful (with_props app w n d) n other

  pub fed_of : (Q : Outcome K → Type 0) (w : State K) (b : ℕ) (a : SideName) (q : Place) (d : VComponent K) (n : ℕ) → fed_child w b a q ≡ Some n → Q (handed app w n d) → Q (outcome_of app w (Feed b a q d))
  fed_of Q w b a q d n fed h = subst (λ (o : Option ℕ). Q (elim o as (λ z. Outcome K) [ None ↦ Done w [] | Some m ↦ handed app w m d ])) (sym fed) h

  pub fed_kid : (w : State K) (b : ℕ) (a : SideName) (q : Place) (n : ℕ) (x : Scope K) → at w.scopes b ≡ Some x → fed_child w b a q ≡ Some n → child_at (side_of x a).children q ≡ Some n
  fed_kid w b a q n x there fed = sym (ap (λ (o : Option (Scope K)). elim o as (λ z. Option ℕ) [ None ↦ None | Some y ↦ child_at (side_of y a).children q ]) there) ∙ fed

  served_feed : (w v : State K) (b : ℕ) (a : SideName) (q : Place) (d : VComponent K) (rest work : List (Item K)) (n : ℕ) → Ready w (Feed b a q d ∷ rest) → Wraps c p s t w (Feed b a q d ∷ rest)
      → fed_child w b a q ≡ Some n
      → is_live w n ≡ true
      → outcome_of app w (Feed b a q d) ≡ Done v work
      → Wraps c p s t v (work ++ rest)
  served_feed w v b a q d rest work n ready h fed live e =
      let item : Item K = Feed b a q d in
      let k : Keeps (served_by w item) [] w v = keeps_of (served_by w item) [] w v work (outcome_of app w item) (item_leaves app w item) e in
      let i : RowOf s (λ f. Inner f) w = around_row c p s t w (item ∷ rest) h in
      let x = found_live (at w.scopes b) ready.woven.stack.0 in
      let y = found_live (at w.scopes n) live in
      let child = (ready.stands).child b n x.0 y.0 a q x.1 (child_among (side_of x.0 a).children q n (fed_kid w b a q n x.0 x.1 fed)) y.1 in
      let other : n ≡ 0 → ⊥ = λ z. not_root c p s t w (item ∷ rest) b h (ap (λ (m : ℕ). up w m) (sym z) ∙ up_found w n y.0 y.1 ∙ child.0) in
      let apart : nat_eq n 0 ≡ false = other_than 0 n other in
      one_served c p s t w v n (item ∷ rest) (work ++ rest) h (λ m z. k.sides m (ap (λ (o : Option ℕ). has (those o) m) fed ∙ apart_has n m z)) (k.stands t refl)
      (λ z. absurd (other z))
      (
      λ z.
      let above = around_up c p s t w (item ∷ rest) ready h y.0 (ap (λ (m : ℕ). at w.scopes m) (sym z) ∙ y.1) in
      let up_is : Some b ≡ Some 0 = sym child.0 ∙ above.0 in
      let zero : b ≡ 0 = cc in
      let same : d ≡ around = h.items.0 zero (sym child.1 ∙ above.1) in
      seen_by c p s t s (λ f. Inner f) (outcome_of app w item) v work e
      (fed_of (λ o. SeenO s (λ f. Inner f) o) w b a q d n fed
      (subst (λ (m : ℕ). SeenO s (λ f. Inner f) (handed app w m d)) (sym z)
      (subst (λ (r : VComponent K). SeenO s (λ f. Inner f) (handed app w s r)) (sym same) (handed_seen w i.row i.there i.fine))))
      )
      (both_fit around work rest (subst (λ (o : Outcome K). WorkO c p s t o) e (fed_of (λ o. WorkO c p s t o) w b a q d n fed (handed_fit w n d apart))) h.items.1)

  served : (w v : State K) (item : Item K) (rest work : List (Item K)) → Ready w (item ∷ rest) → IsReady w item → Wraps c p s t w (item ∷ rest) → outcome_of app w item ≡ Done v work
      → Wraps c p s t v (work ++ rest)
  served w v (Draw b a q k) rest work ready live h e = served_draw w v b a q k rest work h e
  served w v (Row b step) rest work ready live h e = served_row w v b step rest work ready h e
  served w v (Make b a q d) rest work ready live h e = served_make w v b a q d rest work ready live h e
  served w v (Feed b a q d) rest work ready live h e = served_feed w v b a q d rest work live.0 ready h live.1 live.2 e
  served w v (Drop u b a) rest work ready live h e = absurd live

  -- a scope goes that is none of them
  gone_on : (w v : State K) (l : ℕ) (before after work : List (Item K)) → Wraps c p s t w before → (l ≡ 0 → ⊥) → (l ≡ s → ⊥) → (l ≡ t → ⊥) → removed app w l ≡ Done v work → Fit c p s t after
      → Wraps c p s t v (work ++ after)
  gone_on w v l before after work h root around_else error e fit =
      let k : Keeps (l ∷ []) (l ∷ []) w v = keeps_of (l ∷ []) (l ∷ []) w v work (removed app w l) (removal_leaves app w l) e in
      let none : work ≡ [] = subst (λ (o : Outcome K). Idle o) e (removed_idle app lawful w l) in
      record {
        root = seen_on c p s t w v 0 (λ f. Top f) h.root (k.sides 0 (apart_has l 0 (other_than 0 l root)));
        around = seen_on c p s t w v s (λ f. Inner f) h.around (k.sides s (apart_has l s (other_than s l around_else)));
        live = live_still w v t (k.stands t (apart_has l t (other_than t l error))) h.live;
        items = both_fit around work after (subst (λ (xs : List (Item K)). Fit c p s t xs) (sym none) tt) fit;
      }

  -- reruns
  run_on : (w v : State K) (b : ℕ) (work : List (Item K)) → Wraps c p s t w [] → run app w b ≡ Done v work → Wraps c p s t v work
  run_on w v b work h e =
      let k : Keeps (b ∷ []) [] w v = keeps_of (b ∷ []) [] w v work (run app w b) (run_leaves app w b) e in
      let i : RowOf s (λ f. Inner f) w = around_row c p s t w [] h in
      let whole : b ≡ 0 → SeenAs 0 (λ f. Top f) v × Fit c p s t work =
      λ z.
      subst (λ (o : Outcome K). BothO c p s t 0 (λ f. Top f) o) e (subst (λ (m : ℕ). BothO c p s t 0 (λ f. Top f) (run app w m)) (sym z) (root_run app lawful c p s t w h.root)) in
      one_served c p s t w v b [] work h (λ n q. k.sides n (apart_has b n q)) (k.stands t refl)
      (λ z. (whole z).0)
      (
      λ z.
      seen_by c p s t s (λ f. Inner f) (run app w b) v work e
      (subst (λ (m : ℕ). SeenO s (λ f. Inner f) (run app w m)) (sym z) (around_run app lawful c p s t w i.row i.there i.fine))
      )
      (by_test (nat_eq b 0) (λ q. (whole (eqb-true b 0 q)).1) (λ q. subst (λ (o : Outcome K). WorkO c p s t o) e (run_fit around app lawful w b q)))

  wraps_last : Outlasts app lawful (λ w work. Wraps c p s t w work)
  wraps_last =
      record {
        inside =
            record {
              serves = λ w v item rest work before after ready h e. served w v item rest work before ready h e;
              drops =
                  λ w v scope parent side rest work before after first live h e.
                  gone_on w v scope (Drop scope parent side ∷ rest) rest work h
                  (λ z. from_root c p s t w scope parent side rest before h [] scope z refl)
                  (λ z. from_around c p s t w scope parent side rest before h [] scope z refl)
                  (λ z. from_error c p s t w scope parent side rest before h [] scope z refl)
                  e h.items.1;
              thins =
                  λ w v scope top parent side rest work before after first other live h e.
                  let leaf : LeafOf w top scope =
                  subst (λ (n : ℕ). LeafOf w top n) first (leaf_found w (Drop top parent side ∷ rest) before.rooted before.stands top) in
                  gone_on w v scope (Drop top parent side ∷ rest) (Drop top parent side ∷ rest) work h
                  (λ z. from_root c p s t w top parent side rest before h leaf.path scope z leaf.climb)
                  (λ z. from_around c p s t w top parent side rest before h leaf.path scope z leaf.climb)
                  (λ z. from_error c p s t w top parent side rest before h leaf.path scope z leaf.climb)
                  e h.items;
            };
        calms =
            λ w v level h.
            record {
              root = seen_on c p s t w v 0 (λ f. Top f) h.root (level.shows 0);
              around = seen_on c p s t w v s (λ f. Inner f) h.around (level.shows s);
              live = live_still w v t (stand_by (at v.scopes t) (at w.scopes t) (level.shows t)) h.live;
              items = h.items;
            };
        runs = λ w v b work before after h e. run_on w v b work h e;
      }

  wraps_of : (w : State K) → Wrapped c p w s t → Wraps c p s t w []
  wraps_of w h =
      record {
        root = record { now = shape h.root; is = ap (λ (o : Option (Scope K)). shown o) h.stands; fine = (h.is_root, h.on_top, h.shows, h.kid) };
        around = record { now = shape h.around; is = ap (λ (o : Option (Scope K)). shown o) h.below; fine = (h.is_boundary, h.holds, h.held) };
        live = h.live;
        items = tt;
      }

  wrapped_of : (w : State K) (work : List (Item K)) → Wraps c p s t w work → Wrapped c p w s t
  wrapped_of w work h =
      let r : RowOf 0 (λ f. Top f) w = root_row c p s t w work h in
      let i : RowOf s (λ f. Inner f) w = around_row c p s t w work h in
      record {
        root = r.row;
        stands = r.there;
        is_root = (r.fine).0;
        on_top = (r.fine).1;
        shows = (r.fine).2;
        kid = (r.fine).3;
        around = i.row;
        below = i.there;
        is_boundary = (i.fine).0;
        holds = (i.fine).1;
        held = (i.fine).2;
        live = h.live;
      }

pub wrappers_stay : {K : Types} (app : Application K) → WrappersStay app
wrappers_stay {K = K} app lawful limits props inputs m v moves boundary error reached leads alive idle h =
    let before : Wraps app.root props boundary error m.state m.work =
    subst (λ (xs : List (Item K)). Wraps app.root props boundary error m.state xs) (sym idle) (wraps_of app lawful app.root props boundary error m.state h) in
    wrapped_of app lawful app.root props boundary error v.state v.work
    (moves_keep app lawful (λ w work. Wraps app.root props boundary error w work) (wraps_last app lawful app.root props boundary error) limits m v moves leads alive
    (reached_ready app lawful limits props inputs m reached) before)

pub root_stays : {K : Types} (app : Application K) → ChildrenStay app → RootStays app
root_stays app children lawful limits props inputs m v moves boundary error place sort root reached leads alive idle rests h has there kid =
    let after : Wrapped app.root props v.state boundary error = wrappers_stay app lawful limits props inputs m v moves boundary error reached leads alive idle h in
    let spared : NoneRemoves error (entries moves) = live_unremoved app lawful limits props inputs m v moves error reached leads alive after.live in
    children lawful limits props inputs m v moves error MainSide place sort root reached leads alive rests spared has there kid
