-- The scopes round the application's root are there once the build is done, and after each report.
use Rattle.std.proofs.Common.{ℕ, ◌+◌, Bool, true, false, List, [], ◌∷◌, ◌++◌, ◌≡◌, inl, inr, refl, sym, ap, ◌∙◌, subst, nat_eq, arith}
use Rattle.std.proofs.lemmas.Bool.{eqb-true}
use Rattle.std.specs.Prelude.{Option, Some, None, if◌then◌else◌}
use Rattle.std.specs.List.{AllByRecursion}
use Rattle.rt_model.specs.Lists.{at, has}
use Rattle.rt_model.specs.Tree.{Types, VComponent, Root, Place, component_at, spots, Element, rendered}
use Rattle.rt_model.specs.World.{Firsts, Application}
use Rattle.rt_model.specs.Laws.{IsLawful}
use Rattle.rt_model.specs.State.{SideName, MainSide, ChildrenSide, LastCall, Scope, State, Item, Draw, Row, Feed, Make, Drop, Outcome, Done, side_of, new_scope, is_live}
use Rattle.rt_model.specs.Run.{root_tree, body_of, run}
use Rattle.rt_model.specs.Boundary.{children_of}
use Rattle.rt_model.specs.Removal.{removed}
use Rattle.rt_model.specs.Replay.{Input, Machine, with_child, fed_child, keeps, with_props, handed, outcome_of, replay_on, start}
use Rattle.rt_model.specs.Causes.{Limits}
use Rattle.rt_model.specs.Current.{world_again, KeepsAnswer, again, BodyIsCurrent, BoundaryIsCurrent, CurrentAs, IsCurrent, AllCurrent}
use Rattle.rt_model.specs.Told.{Told, telling, told_by, tell_reports}
use Rattle.rt_model.specs.Reports.{Report, logs_of, OneEach}
use Rattle.rt_model.proofs.Maps.{by_test, none_some}
use Rattle.rt_model.proofs.NumbersStand.{child_among}
use Rattle.rt_model.proofs.NumbersRun.{Idle, removed_idle}
use Rattle.rt_model.proofs.TakesOne.{removal_takes_one}
use Rattle.rt_model.proofs.ToldReplayed.{first-of, log-replays}
use Rattle.law_moves.specs.Moves.{IsSettled}
use Rattle.law_moves.specs.Calls.{IsReady}
use Rattle.law_moves.specs.Reached.{first_scope, start_at, Reached}
use Rattle.law_moves.specs.Trees.{HasChild}
use Rattle.law_moves.specs.Frames.{Stand, Shown, stand, shown, Keeps, those, served_by}
use Rattle.law_moves.proofs.Limited.{some_limits}
use Rattle.law_moves.proofs.Logs.{logs_are_moves}
use Rattle.law_moves.proofs.Ways.{start_reached, reached_moved}
use Rattle.law_moves.proofs.Untouched.{run_leaves, item_leaves, removal_leaves, make_joins}
use Rattle.law_moves.proofs.Taken.{LeafOf, leaf_found}
use Rattle.law_moves.proofs.Twigs.{up, up_found, live_found, found_live}
use Rattle.law_headline.proofs.Begins.{start_or_built}
use Rattle.law_headline.proofs.Reports.{settled_after}
use Rattle.law_headline.proofs.Settled.{contained, settled_have_children}
use Rattle.law_headline.proofs.Steps.{Ready, Outlasts, reached_keep}
use Rattle.law_headline.proofs.Trees.{keeps_of, joins_of, apart_has}
use Rattle.author_programs.proofs.Present.{found}
use Rattle.law_reduce.specs.RootStays.{only_place, error_boundary, boundary_tree, suspense_boundary, Wrapped, CurrentWrapped, ReportsWrapped}
use Rattle.law_reduce.proofs.Led.{LedTo, led_start, led_on, Way, way_on}
use Rattle.law_reduce.proofs.OneReport.{settled_alive, settled_idle}
use Rattle.law_reduce.proofs.Reports.{AllSettled, none_told}
use Rattle.law_reduce.proofs.Wraps.{shape, row_shown, some_shown, SeenAs, RowOf, SeenO, changed_here, AllFit, both_fit, run_fit}
use Rattle.law_reduce.proofs.Around.{BothO, WorkO, seen_on, seen_by, other_than, not_new}
use Rattle.law_reduce.proofs.RootRuns.{else_step}
use Rattle.law_reduce.proofs.RootStays.{numbered_fit, two_apart, made_fit, handed_fit, fed_of, fed_kid, wrappers_stay}
use Rattle.law_reduce.proofs.Built.{stand_up, stand_below, same_parent, same_below, alone, child_component, Is, Top, Beneath, root_row, no_parent, root_on, kid_on, one_on, around_is, root_run, served_one, drawn_is, step_is, made_is}

module _ {K : Types} (app : Application K) (lawful : IsLawful K app) (c : K.Component) (p : K.Props) where
  abbrev around : VComponent K
  around = suspense_boundary c p

  abbrev Under : State K → List (Item K) → Type 0
  Under w work = Beneath app lawful c p w work

  served_make : (w v : State K) (b : ℕ) (a : SideName) (q : Place) (d : VComponent K) (rest work : List (Item K)) → Ready w (Make b a q d ∷ rest) → is_live w b ≡ true → Under w (Make b a q d ∷ rest)
      → outcome_of app w (Make b a q d) ≡ Done v work
      → Under v (work ++ rest)
  served_make w v b a q d rest work ready live h e =
      let item : Item K = Make b a q d in
      let n : ℕ = w.next_scope in
      let x = found_live (at w.scopes b) live in
      let fresh : at w.scopes n ≡ None = (ready.rooted).drawn n (omega arith) in
      let k : Keeps (b ∷ n ∷ []) (n ∷ []) w v = keeps_of (b ∷ n ∷ []) (n ∷ []) w v work (outcome_of app w item) (item_leaves app w item) e in
      let joined = joins_of b a q d w v x.0 work (outcome_of app w item) (make_joins app w b a q d x.0 x.1 fresh) e in
      let r : RowOf 0 (λ f. Top app lawful c p f) w = root_row app lawful c p w (item ∷ rest) h in
      let new : nat_eq n 0 ≡ false = not_new c p 0 0 w (item ∷ rest) 0 r.row ready r.there in
      let old : nat_eq n b ≡ false = not_new c p 0 0 w (item ∷ rest) b x.0 ready x.1 in
      let parent : (r : VComponent K) → (x.0).component ≡ r → SeenAs b (λ f. Is app lawful c p r f) v =
      λ r is. record { now = shape (with_child a q n x.0); is = joined.0; fine = child_component x.0 a q n ∙ is } in
      record {
        root =
            by_test (nat_eq b 0)
            (
            λ z.
            let same : b ≡ 0 = eqb-true b 0 z in
            let both : Some x.0 ≡ Some r.row = sym x.1 ∙ ap (λ (m : ℕ). at w.scopes m) same ∙ r.there in
            let one : x.0 ≡ r.row = cc in
            root_on app lawful c p w v (item ∷ rest) h (k.stands 0 (apart_has n 0 new))
            (subst (λ (m : ℕ). SeenAs m (λ f. Is app lawful c p (Root c p) f) v) same (parent (Root c p) (ap (λ (y : Scope K). y.component) one ∙ (r.fine).0)))
            )
            (λ z. seen_on c p 0 0 w v 0 (λ f. Top app lawful c p f) h.root (k.sides 0 (two_apart app lawful c p 0 0 b n 0 z new)));
        kids =
            λ m f f_is above under.
            by_test (nat_eq n m)
            (
            λ z.
            let same : n ≡ m = eqb-true n m z in
            let y = row_shown (at v.scopes n) f (ap (λ (i : ℕ). shown (at v.scopes i)) same ∙ f_is) in
            let stands : stand (Some y.0) ≡ stand (Some (new_scope d (Some b) ((x.0).height + 1) a)) = ap (λ (o : Option (Scope K)). stand o) (sym y.1) ∙ joined.1 in
            let up_is : Some b ≡ Some 0 = sym (ap (λ (o : Option Stand). stand_up o) stands) ∙ ap (λ (g : Shown K). g.1) y.2 ∙ above in
            let zero : b ≡ 0 = cc in
            let low : a ≡ MainSide = sym (ap (λ (o : Option Stand). stand_below o) stands) ∙ ap (λ (g : Shown K). g.3) y.2 ∙ under in
            let is : d ≡ around = h.items.0 zero low in
            let seen : SeenAs n (λ g. Is app lawful c p around g) v =
            seen_by c p 0 0 n (λ g. Is app lawful c p around g) (outcome_of app w item) v work e
            (subst (λ (r : VComponent K). SeenO n (λ g. Is app lawful c p around g) (outcome_of app w (Make b a q r))) (sym is) (made_is app lawful c p w b a q x.0 x.1 fresh)) in
            let one : seen.now ≡ f = some_shown seen.now f (sym seen.is ∙ ap (λ (i : ℕ). shown (at v.scopes i)) same ∙ f_is) in
            ap (λ (g : Shown K). g.0) (sym one) ∙ seen.fine
            )
            (
            λ z.
            by_test (nat_eq b m)
            (
            λ u.
            let same : b ≡ m = eqb-true b m u in
            kid_on app lawful c p w v (item ∷ rest) m h (k.stands m (apart_has n m z))
            (
            λ y there is.
            let both : Some x.0 ≡ Some y = sym x.1 ∙ ap (λ (i : ℕ). at w.scopes i) same ∙ there in
            let one : x.0 ≡ y = cc in
            subst (λ (i : ℕ). SeenAs i (λ g. Is app lawful c p around g) v) same (parent around (ap (λ (s : Scope K). s.component) one ∙ is))
            )
            f f_is above under
            )
            (λ u. h.kids m f (sym (k.sides m (two_apart app lawful c p 0 0 b n m u z)) ∙ f_is) above under)
            );
        items = both_fit around work rest (subst (λ (o : Outcome K). WorkO c p 0 0 o) e (made_fit app lawful c p 0 0 w b a q d x.0 x.1 new)) h.items.1;
      }

  handed_is : (w : State K) (n : ℕ) (x : Scope K) → at w.scopes n ≡ Some x → SeenO n (λ f. Is app lawful c p around f) (handed app w n around)
  handed_is w n x there = by (keeps app w n around)
    where
      y : Scope K
      y = record x { component = around }

      u : State K
      u = with_props app w n around

      here : SeenAs n (λ f. Is app lawful c p around f) u
      here = record { now = shape y; is = changed_here w n (λ z. record z { component = around }) x (at w.scopes n) there; fine = refl }

      by : (b : Bool) → SeenO n (λ f. Is app lawful c p around f) (if b then Done u [] else run app u n)
      by true = here
      by false = let r = row_shown (at u.scopes n) here.now here.is in around_is app lawful c p u n r.0 r.1 (ap (λ (f : Shown K). f.0) r.2)

  served_feed : (w v : State K) (b : ℕ) (a : SideName) (q : Place) (d : VComponent K) (rest work : List (Item K)) (n : ℕ) → Ready w (Feed b a q d ∷ rest) → Under w (Feed b a q d ∷ rest)
      → fed_child w b a q ≡ Some n
      → is_live w n ≡ true
      → outcome_of app w (Feed b a q d) ≡ Done v work
      → Under v (work ++ rest)
  served_feed w v b a q d rest work n ready h fed live e =
      let item : Item K = Feed b a q d in
      let k : Keeps (served_by w item) [] w v = keeps_of (served_by w item) [] w v work (outcome_of app w item) (item_leaves app w item) e in
      let x = found_live (at w.scopes b) ready.woven.stack.0 in
      let y = found_live (at w.scopes n) live in
      let child = (ready.stands).child b n x.0 y.0 a q x.1 (child_among (side_of x.0 a).children q n (fed_kid app lawful c p 0 0 w b a q n x.0 x.1 fed)) y.1 in
      let none : up w 0 ≡ None = no_parent app lawful c p w (item ∷ rest) h in
      let other : n ≡ 0 → ⊥ = λ z. none_some none (ap (λ (m : ℕ). up w m) (sym z) ∙ up_found w n y.0 y.1 ∙ child.0) in
      let apart : nat_eq n 0 ≡ false = other_than 0 n other in
      let sides : (m : ℕ) → nat_eq n m ≡ false → shown (at v.scopes m) ≡ shown (at w.scopes m) = λ m z. k.sides m (ap (λ (o : Option ℕ). has (those o) m) fed ∙ apart_has n m z) in
      record {
        root = seen_on c p 0 0 w v 0 (λ f. Top app lawful c p f) h.root (sides 0 apart);
        kids =
            λ m f f_is above under.
            by_test (nat_eq n m)
            (
            λ z.
            let same : n ≡ m = eqb-true n m z in
            let now = row_shown (at v.scopes n) f (ap (λ (i : ℕ). shown (at v.scopes i)) same ∙ f_is) in
            let up_is : Some b ≡ Some 0 = sym child.0 ∙ same_parent w v n y.0 now.0 y.1 now.1 (k.stands n refl) ∙ ap (λ (g : Shown K). g.1) now.2 ∙ above in
            let zero : b ≡ 0 = cc in
            let low : a ≡ MainSide = sym child.1 ∙ same_below w v n y.0 now.0 y.1 now.1 (k.stands n refl) ∙ ap (λ (g : Shown K). g.3) now.2 ∙ under in
            let is : d ≡ around = h.items.0 zero low in
            let seen : SeenAs n (λ g. Is app lawful c p around g) v =
            seen_by c p 0 0 n (λ g. Is app lawful c p around g) (outcome_of app w item) v work e
            (fed_of app lawful c p 0 0 (λ o. SeenO n (λ g. Is app lawful c p around g) o) w b a q d n fed
            (subst (λ (r : VComponent K). SeenO n (λ g. Is app lawful c p around g) (handed app w n r)) (sym is) (handed_is w n y.0 y.1))) in
            let one : seen.now ≡ f = some_shown seen.now f (sym seen.is ∙ ap (λ (i : ℕ). shown (at v.scopes i)) same ∙ f_is) in
            ap (λ (g : Shown K). g.0) (sym one) ∙ seen.fine
            )
            (λ z. h.kids m f (sym (sides m z) ∙ f_is) above under);
        items = both_fit around work rest (subst (λ (o : Outcome K). WorkO c p 0 0 o) e (fed_of app lawful c p 0 0 (λ o. WorkO c p 0 0 o) w b a q d n fed (handed_fit app lawful c p 0 0 w n d apart))) h.items.1;
      }

  served : (w v : State K) (item : Item K) (rest work : List (Item K)) → Ready w (item ∷ rest) → IsReady w item → Under w (item ∷ rest) → outcome_of app w item ≡ Done v work → Under v (work ++ rest)
  served w v (Draw b a q k) rest work ready live h e =
      served_one app lawful c p w v (Draw b a q k) b rest work h (keeps_of (b ∷ []) [] w v work (outcome_of app w (Draw b a q k)) (item_leaves app w (Draw b a q k)) e) e
      (λ d x there is. drawn_is app lawful c p w b a q k d x there is)
      (numbered_fit app lawful c p 0 0 w b a q k)
  served w v (Row b step) rest work ready live h e =
      let x = found_live (at w.scopes b) ready.woven.stack.0 in
      served_one app lawful c p w v (Row b step) b rest work h (keeps_of (b ∷ []) [] w v work (outcome_of app w (Row b step)) (item_leaves app w (Row b step)) e) e
      (λ d y there is. step_is app lawful c p w b step d y there is)
      (else_step app lawful c p 0 0 w b x.0 step x.1)
  served w v (Make b a q d) rest work ready live h e = served_make w v b a q d rest work ready live h e
  served w v (Feed b a q d) rest work ready live h e = served_feed w v b a q d rest work live.0 ready h live.1 live.2 e
  served w v (Drop u b a) rest work ready live h e = absurd live

  -- a scope goes
  gone_on : (w v : State K) (l : ℕ) (before after work : List (Item K)) → Under w before → (l ≡ 0 → ⊥) → removed app w l ≡ Done v work → AllFit around after → Under v (work ++ after)
  gone_on w v l before after work h other e fit =
      let k : Keeps (l ∷ []) (l ∷ []) w v = keeps_of (l ∷ []) (l ∷ []) w v work (removed app w l) (removal_leaves app w l) e in
      let none : work ≡ [] = subst (λ (o : Outcome K). Idle o) e (removed_idle app lawful w l) in
      let gone : at v.scopes l ≡ None = (removal_takes_one app lawful w v l work e).1.gone in
      record {
        root = seen_on c p 0 0 w v 0 (λ f. Top app lawful c p f) h.root (k.sides 0 (apart_has l 0 (other_than 0 l other)));
        kids =
            λ m f f_is above under.
            by_test (nat_eq l m)
            (λ z. none_some (ap (λ (o : Option (Scope K)). shown o) (ap (λ (i : ℕ). at v.scopes i) (sym (eqb-true l m z)) ∙ gone)) f_is)
            (λ z. h.kids m f (sym (k.sides m (apart_has l m z)) ∙ f_is) above under);
        items = both_fit around work after (subst (λ (xs : List (Item K)). AllFit around xs) (sym none) tt) fit;
      }

  run_on : (w v : State K) (b : ℕ) (work : List (Item K)) → Under w [] → run app w b ≡ Done v work → Under v work
  run_on w v b work h e =
      let k : Keeps (b ∷ []) [] w v = keeps_of (b ∷ []) [] w v work (run app w b) (run_leaves app w b) e in
      let r : RowOf 0 (λ f. Top app lawful c p f) w = root_row app lawful c p w [] h in
      let whole : b ≡ 0 → SeenAs 0 (λ f. Is app lawful c p (Root c p) f) v × AllFit around work =
      λ z.
      subst (λ (o : Outcome K). BothO c p 0 0 0 (λ f. Is app lawful c p (Root c p) f) o) e
      (subst (λ (m : ℕ). BothO c p 0 0 0 (λ f. Is app lawful c p (Root c p) f) (run app w m)) (sym z) (root_run app lawful c p w r.row r.there (r.fine).0)) in
      one_on app lawful c p w v b [] work h k (λ z. (whole z).0)
      (
      λ n x z there is.
      subst (λ (m : ℕ). SeenAs m (λ f. Is app lawful c p around f) v) z
      (seen_by c p 0 0 b (λ f. Is app lawful c p around f) (run app w b) v work e (around_is app lawful c p w b x (ap (λ (m : ℕ). at w.scopes m) z ∙ there) is))
      )
      (by_test (nat_eq b 0) (λ q. (whole (eqb-true b 0 q)).1) (λ q. subst (λ (o : Outcome K). WorkO c p 0 0 o) e (run_fit around app lawful w b q)))

  beneath_lasts : Outlasts app lawful (λ w work. Under w work)
  beneath_lasts =
      record {
        inside =
            record {
              serves = λ w v item rest work before after ready h e. served w v item rest work before ready h e;
              drops =
                  λ w v scope parent side rest work before after first live h e.
                  let none : up w 0 ≡ None = no_parent app lawful c p w (Drop scope parent side ∷ rest) h in
                  gone_on w v scope (Drop scope parent side ∷ rest) rest work h (λ z. alone w scope parent [] scope none before.woven.stack.1.1 refl z) e h.items.1;
              thins =
                  λ w v scope top parent side rest work before after first other live h e.
                  let none : up w 0 ≡ None = no_parent app lawful c p w (Drop top parent side ∷ rest) h in
                  let leaf : LeafOf w top scope =
                  subst (λ (n : ℕ). LeafOf w top n) first (leaf_found w (Drop top parent side ∷ rest) before.rooted before.stands top) in
                  gone_on w v scope (Drop top parent side ∷ rest) (Drop top parent side ∷ rest) work h (λ z. alone w top parent leaf.path scope none before.woven.stack.1.1 leaf.climb z) e h.items;
            };
        calms =
            λ w v level h.
            record {
              root = seen_on c p 0 0 w v 0 (λ f. Top app lawful c p f) h.root (level.shows 0);
              kids = λ m f f_is above under. h.kids m f (sym (level.shows m) ∙ f_is) above under;
              items = h.items;
            };
        runs = λ w v b work before after h e. run_on w v b work h e;
      }

module _ {K : Types} (app : Application K) (lawful : IsLawful K app) where
  start_beneath : (props : K.Props) (firsts : Firsts) (contexts : List (ℕ × K.Value)) (inputs : List (Input K)) → Beneath app lawful app.root props (start_at app props firsts contexts inputs).state []
  start_beneath props firsts contexts inputs =
      record {
        root = record { now = shape first; is = refl; fine = (refl, refl) };
        kids = λ n f f_is above under. one (nat_eq 0 n) f f_is above;
        items = tt;
      }
    where
      first : Scope K
      first = first_scope app props contexts

      one : (b : Bool) (f : Shown K) → shown (if b then Some first else None) ≡ Some f → f.1 ≡ Some 0 → f.0 ≡ suspense_boundary app.root props
      one true f e above =
          let same : shape first ≡ f = some_shown (shape first) f e in
          let absurdity : None ≡ Some 0 = ap (λ (g : Shown K). g.1) same ∙ above in
          cc
      one false f e above = cc

  reached_beneath : (limits : Limits) (props : K.Props) (inputs : List (Input K)) (m : Machine K) → Reached app limits props inputs m → m.dead ≡ None → Beneath app lawful app.root props m.state m.work
  reached_beneath limits props inputs m reached alive =
      reached_keep app lawful (λ w work. Beneath app lawful app.root props w work) (beneath_lasts app lawful app.root props) limits props inputs m reached alive
      (start_beneath props reached.firsts reached.contexts inputs)

  -- where the root wrapper is current it has its tree
  root_output : (c : K.Component) (p : K.Props) (w : State K) (x : Scope K) (o : Option (LastCall K)) → x.component ≡ Root c p → BodyIsCurrent app w x o → x.main_side.output ≡ Some (root_tree c p)
  root_output c p w x None is h = absurd h
  root_output c p w x (Some last) is h =
      let answer : (again app w x last).answer ≡ rendered (root_tree c p) = ap (λ (d : VComponent K). (body_of app d (world_again w x last)).answer) is in
      subst (λ (a : Element K). KeepsAnswer last a x.main_side.output) answer h.1

  wrapped_by : (limits : Limits) (props : K.Props) (inputs : List (Input K)) (m : Machine K) → Reached app limits props inputs m → m.dead ≡ None → m.built ≡ true → m.work ≡ [] → AllCurrent app m.state
      → (boundary : ℕ) × (error : ℕ) × Wrapped app.root props m.state boundary error
  wrapped_by limits props inputs m reached alive built idle current =
      let c : K.Component = app.root in
      let w : State K = m.state in
      let h : Beneath app lawful c props w m.work = reached_beneath limits props inputs m reached alive in
      let r : RowOf 0 (λ f. Top app lawful c props f) w = root_row app lawful c props w m.work h in
      let now : CurrentAs app w r.row (at w.last_calls 0) (Root c props) =
      subst (λ (d : VComponent K). CurrentAs app w r.row (at w.last_calls 0) d) (r.fine).0 (found (λ (e : ℕ × Scope K). IsCurrent app w e.0 e.1) w.scopes 0 r.row current r.there) in
      let output : (r.row).main_side.output ≡ Some (root_tree c props) = root_output c props w r.row (at w.last_calls 0) (r.fine).0 now in
      let one : HasChild w 0 r.row MainSide only_place =
      settled_have_children app lawful limits props inputs m reached alive built idle 0 r.row MainSide (root_tree c props) only_place (suspense_boundary c props) r.there output
      (contained (spots [] (root_tree c props)) (component_at only_place (suspense_boundary c props)) (inl refl)) in
      let is : (one.record_of).component ≡ suspense_boundary c props = h.kids one.child (shape one.record_of) (ap (λ (o : Option (Scope K)). shown o) one.live) one.parent one.below in
      let inner : BoundaryIsCurrent app w one.record_of (at w.last_calls one.child) =
      subst (λ (d : VComponent K). CurrentAs app w one.record_of (at w.last_calls one.child) d) is
      (found (λ (e : ℕ × Scope K). IsCurrent app w e.0 e.1) w.scopes one.child one.record_of current one.live) in
      let holds : (one.record_of).children_side.output ≡ Some (boundary_tree c props) = inner.0 ∙ ap (λ (d : VComponent K). Some (children_of d)) is in
      let two : HasChild w one.child one.record_of ChildrenSide only_place =
      settled_have_children app lawful limits props inputs m reached alive built idle one.child one.record_of ChildrenSide (boundary_tree c props) only_place (error_boundary c props) one.live holds
      (contained (spots [] (boundary_tree c props)) (component_at only_place (error_boundary c props)) (inl refl)) in (
        one.child,
        two.child,
        record {
          root = r.row;
          stands = r.there;
          is_root = (r.fine).0;
          on_top = (r.fine).1;
          shows = output;
          kid = one.kid;
          around = one.record_of;
          below = one.live;
          is_boundary = is;
          holds = holds;
          held = two.kid;
          live = live_found w two.child two.record_of two.live;
        },
      )

pub current_wrapped : {K : Types} (app : Application K) → CurrentWrapped app
current_wrapped {K = K} app lawful limits props inputs m reached alive idle current =
    elim (start_or_built app lawful limits props inputs m reached alive) [
      | inl same ↦
          let first : AllCurrent app (start_at app props reached.firsts reached.contexts inputs).state = subst (λ (x : Machine K). AllCurrent app x.state) same current in
          absurd first.0
      | inr built ↦ wrapped_by app lawful limits props inputs m reached alive built idle current
    ]

-- report by report
module _ {K : Types} (app : Application K) (lawful : IsLawful K app) (props : K.Props) (inputs : List (Input K)) where
  abbrev AllWrapped : ℕ → ℕ → List (Told K) → Type 0
  AllWrapped s t told = AllByRecursion (λ (r : Told K). Wrapped app.root props r.machine.state s t) told

  led_reached : (m : Machine K) → LedTo app props inputs m → (limits : Limits) × Reached app limits props inputs m
  led_reached m led =
      let first : Machine K = start app props inputs in
      let within = some_limits app led.done first m led.goes in
      let moved = logs_are_moves app within.0 first m led.done refl within.1 in
      (within.0, reached_moved app within.0 props inputs first m moved.0 (start_reached app within.0 props inputs) moved.1)

  go_on : (s t : ℕ) (reports : List Report) (m : Machine K) (told : List (Told K)) → LedTo app props inputs m → IsSettled m → m.work ≡ [] → Wrapped app.root props m.state s t
      → tell_reports app m (logs_of reports) ≡ Some told
      → AllSettled told
      → AllWrapped s t told
  go_on s t [] m told led still idle h accepted settled = subst (λ (rs : List (Told K)). AllWrapped s t rs) (none_told told accepted) tt
  go_on s t (r ∷ rs) m told led still idle h accepted settled =
      let f = first-of app m r.log (logs_of rs) told accepted in
      let v : Machine K = (f.0).machine in
      let ends : AllSettled (told_by f.0 ∷ f.1) = subst (λ (x : List (Told K)). AllSettled x) (sym f.4) settled in
      let goes : replay_on app (Some m) r.log ≡ Some v = log-replays app r.log (telling m) f.0 f.2 in
      let way : Way app props inputs m r.log v = way_on app props inputs m v r.log still led goes in
      let next : Wrapped app.root props v.state s t = wrappers_stay app lawful way.limits props inputs m v way.moves s t way.reached way.leads (settled_alive v ends.0) idle h in
      let within = some_limits app r.log m v goes in
      subst (λ (x : List (Told K)). AllWrapped s t x) f.4
      (next, go_on s t rs v f.1 (led_on app props inputs m v r.log led goes) (settled_after app within.0 r.log m v still within.1) (settled_idle v ends.0) next f.3 ends.1)

  all_wrapped : (reports : List Report) (told : List (Told K)) → OneEach inputs (logs_of reports) → tell_reports app (start app props inputs) (logs_of reports) ≡ Some told → AllSettled told
      → AllByRecursion (λ (r : Told K). AllCurrent app r.machine.state) told
      → (boundary : ℕ) × (error : ℕ) × AllWrapped boundary error told
  all_wrapped [] told each accepted settled current = absurd each
  all_wrapped (r ∷ rs) told each accepted settled current =
      let m : Machine K = start app props inputs in
      let f = first-of app m r.log (logs_of rs) told accepted in
      let v : Machine K = (f.0).machine in
      let ends : AllSettled (told_by f.0 ∷ f.1) = subst (λ (x : List (Told K)). AllSettled x) (sym f.4) settled in
      let now : AllByRecursion (λ (r : Told K). AllCurrent app r.machine.state) (told_by f.0 ∷ f.1) =
      subst (λ (x : List (Told K)). AllByRecursion (λ (r : Told K). AllCurrent app r.machine.state) x) (sym f.4) current in
      let goes : replay_on app (Some m) r.log ≡ Some v = log-replays app r.log (telling m) f.0 f.2 in
      let led : LedTo app props inputs v = led_on app props inputs m v r.log (led_start app props inputs) goes in
      let reached = led_reached v led in
      let within = some_limits app r.log m v goes in
      let still : IsSettled v = settled_after app within.0 r.log m v refl within.1 in
      let idle : v.work ≡ [] = settled_idle v ends.0 in
      let first = current_wrapped app lawful reached.0 props inputs v reached.1 (settled_alive v ends.0) idle now.0 in (
        first.0,
        first.1,
        subst (λ (x : List (Told K)). AllWrapped first.0 first.1 x) f.4 (first.2, go_on first.0 first.1 rs v f.1 led still idle first.2 f.3 ends.1),
      )

pub reports_wrapped : {K : Types} (app : Application K) → ReportsWrapped app
reports_wrapped app lawful props inputs limits taken reports h =
    all_wrapped app lawful props inputs reports h.told (h.done).one_each ((h.holds).recorded).accepted ((h.holds).recorded).settled (h.holds).current
