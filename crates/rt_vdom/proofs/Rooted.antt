-- The root wrapper is live wherever a program's calls have led.
use Rattle.std.proofs.Common.{ℕ, Bool, true, false, List, [], ◌∷◌, ◌≡◌, refl, sym, ap, ◌∙◌, subst, arith, nat_eq}
use Rattle.std.specs.Prelude.{Option, Some, None}
use Rattle.std.proofs.lemmas.Bool.{eqb-true}
use Rattle.rt_model.specs.Lists.{at}
use Rattle.rt_model.specs.Tree.{Types, Root}
use Rattle.rt_model.specs.World.{Firsts, Provide, Application}
use Rattle.rt_model.specs.Laws.{IsLawful}
use Rattle.rt_model.specs.State.{MainSide, Scope, State, Item, Draw, Row, Feed, Make, Drop, Done, is_live, new_scope}
use Rattle.rt_model.specs.Commands.{provide_context}
use Rattle.rt_model.specs.Run.{run}
use Rattle.rt_model.specs.Removal.{next_removed, removed}
use Rattle.rt_model.specs.Replay.{Input, first_state, provided_all, outcome_of}
use Rattle.rt_model.specs.Causes.{Limits}
use Rattle.rt_model.specs.Asides.{resting}
use Rattle.rt_model.proofs.Maps.{by_test, none_some}
use Rattle.law_moves.specs.Calls.{IsReady}
use Rattle.law_moves.specs.Frames.{stand, Keeps, served_by}
use Rattle.law_moves.specs.Reached.{first_scope, start_at}
use Rattle.law_moves.proofs.Commanded.{Level, commands_level}
use Rattle.law_moves.proofs.Taken.{LeafOf, leaf_found}
use Rattle.law_moves.proofs.Twigs.{up, up_found, live_found}
use Rattle.law_moves.proofs.Untouched.{stand_by, run_leaves, item_leaves, removal_leaves}
use Rattle.law_moves.proofs.Woven.{Climb}
use Rattle.law_headline.proofs.Steps.{Ready, Outlasts, reached_keep}
use Rattle.law_headline.proofs.Trees.{Stood, stood, keeps_of, apart_has}
use Rattle.law_behavior.specs.Doms.{LedTo}

module _ {K : Types} where
  -- scope 0 is live, and has no parent
  abbrev RootStands : State K → List (Item K) → Type 0
  RootStands w work = (x : Scope K) × (at w.scopes 0 ≡ Some x) × (x.parent ≡ None)

  -- so it is in another state in which it stands as it stood
  stands_on : (w v : State K) → RootStands w [] → stand (at v.scopes 0) ≡ stand (at w.scopes 0) → RootStands v []
  stands_on w v h same =
      let s : Stood (at v.scopes 0) h.0 = stood (at v.scopes 0) h.0 (same ∙ ap (λ (o : Option (Scope K)). stand o) h.1) in
      (s.old, s.found, s.parent ∙ h.2)

  -- a scope that has a parent is another one
  other_by : (w : State K) (l q : ℕ) → RootStands w [] → up w l ≡ Some q → nat_eq l 0 ≡ false
  other_by w l q h above =
      by_test (nat_eq l 0)
      (λ e. none_some (ap (λ (n : ℕ). up w n) (eqb-true l 0 e) ∙ up_found w 0 h.0 h.1 ∙ h.2) above)
      (λ e. e)

  -- so is one from which the way up leads to one that has a parent
  not_root : (w : State K) (l top parent : ℕ) (path : List ℕ) → RootStands w [] → Climb w path l top → up w top ≡ Some parent
      → nat_eq l 0 ≡ false
  not_root w l top parent [] h way above = other_by w l parent h (ap (λ (n : ℕ). up w n) way ∙ above)
  not_root w l top parent (p ∷ path) h way above = other_by w l p h way.0

  -- a number that is yet to be drawn is another one
  not_drawn : (w : State K) (work : List (Item K)) → Ready w work → RootStands w [] → nat_eq w.next_scope 0 ≡ false
  not_drawn w work ready h =
      by_test (nat_eq w.next_scope 0)
      (
      λ e.
      none_some
      (ap (λ (n : ℕ). at w.scopes n) (sym (eqb-true w.next_scope 0 e)) ∙ (ready.rooted).drawn w.next_scope (omega arith))
      h.1
      )
      (λ e. e)

module _ {K : Types} (app : Application K) where
  -- what the root provides before its first run leaves it there
  provided_stands : (es : List (ℕ × K.Value)) (w : State K) → RootStands w [] → RootStands (provided_all app w es) []
  provided_stands [] w h = h
  provided_stands (e ∷ es) w h =
      let v : State K = provide_context app w 0 e.0 e.1 in
      let level : Level w v = commands_level app w 0 None (Provide true e.0 e.1 ∷ []) in
      provided_stands es v (stands_on w v h (stand_by (at v.scopes 0) (at w.scopes 0) (level.shows 0)))

  -- it is live before the build
  pub first_lives : (props : K.Props) (firsts : Firsts) (provided : List (ℕ × K.Value))
      → is_live (provided_all app (first_state app.root props firsts) provided) 0 ≡ true
  first_lives props firsts provided =
      let w : State K = first_state app.root props firsts in
      let h : RootStands (provided_all app w provided) [] =
      provided_stands provided w (new_scope (Root app.root props) None 0 MainSide, refl, refl) in
      live_found (provided_all app w provided) 0 h.0 h.1

module _ {K : Types} (app : Application K) (lawful : IsLawful K app) where
  -- an item that isn't a drop is served
  served_root : (w v : State K) (item : Item K) (rest work : List (Item K)) → Ready w (item ∷ rest) → IsReady w item → RootStands w []
      → outcome_of app w item ≡ Done v work
      → RootStands v []
  served_root w v (Make s a p c) rest work ready live h e =
      let k : Keeps (s ∷ w.next_scope ∷ []) (w.next_scope ∷ []) w v =
      keeps_of (s ∷ w.next_scope ∷ []) (w.next_scope ∷ []) w v work (outcome_of app w (Make s a p c)) (item_leaves app w (Make s a p c)) e in
      stands_on w v h (k.stands 0 (apart_has w.next_scope 0 (not_drawn w (Make s a p c ∷ rest) ready h)))
  served_root w v (Draw s a p k) rest work ready live h e =
      stands_on w v h ((keeps_of (s ∷ []) [] w v work (outcome_of app w (Draw s a p k)) (item_leaves app w (Draw s a p k)) e).stands 0 refl)
  served_root w v (Row b step) rest work ready live h e =
      stands_on w v h ((keeps_of (b ∷ []) [] w v work (outcome_of app w (Row b step)) (item_leaves app w (Row b step)) e).stands 0 refl)
  served_root w v (Feed s a p c) rest work ready live h e =
      stands_on w v h
      ((keeps_of (served_by w (Feed s a p c)) [] w v work (outcome_of app w (Feed s a p c)) (item_leaves app w (Feed s a p c)) e).stands 0 refl)
  served_root w v (Drop u s a) rest work ready live h e = absurd live

  -- a scope goes that isn't the root
  gone_root : (w v : State K) (l : ℕ) (work : List (Item K)) → RootStands w [] → nat_eq l 0 ≡ false → removed app w l ≡ Done v work
      → RootStands v []
  gone_root w v l work h other e =
      let k : Keeps (l ∷ []) (l ∷ []) w v = keeps_of (l ∷ []) (l ∷ []) w v work (removed app w l) (removal_leaves app w l) e in
      stands_on w v h (k.stands 0 (apart_has l 0 other))

  root_lasts : Outlasts app lawful RootStands
  root_lasts =
      record {
        inside =
            record {
              serves = λ w v item rest work before after ready p e. served_root w v item rest work before ready p e;
              drops =
                  λ w v scope parent side rest work before after first live p e.
                  gone_root w v scope work p (not_root w scope scope parent [] p refl before.woven.stack.1.1) e;
              thins =
                  λ w v scope top parent side rest work before after first other live p e.
                  let leaf : LeafOf w top scope =
                  subst (λ (n : ℕ). LeafOf w top n) first (leaf_found w (Drop top parent side ∷ rest) before.rooted before.stands top) in
                  gone_root w v scope work p (not_root w scope top parent leaf.path p leaf.climb before.woven.stack.1.1) e;
            };
        calms = λ w v level h. stands_on w v h (stand_by (at v.scopes 0) (at w.scopes 0) (level.shows 0));
        runs =
            λ w v s work before after h e.
            stands_on w v h ((keeps_of (s ∷ []) [] w v work (run app w s) (run_leaves app w s) e).stands 0 refl);
      }

  start_root : (props : K.Props) (firsts : Firsts) (contexts : List (ℕ × K.Value)) (inputs : List (Input K))
      → RootStands (start_at app props firsts contexts inputs).state []
  start_root props firsts contexts inputs = (first_scope app props contexts, refl, refl)

  -- the root wrapper is live in each state to which a program's calls have led
  pub root_lives : (limits : Limits) (props : K.Props) (whole : Bool) (w : State K) → LedTo app limits props whole w → is_live w 0 ≡ true
  root_lives limits props whole w led =
      let h : RootStands w [] =
      reached_keep app lawful RootStands root_lasts limits props [] (resting w) led.reached refl
      (start_root props (led.reached).firsts (led.reached).contexts []) in
      live_found w 0 h.0 h.1
