-- The scopes are a tree by their heights wherever moves lead.
use Rattle.std.proofs.Common.{ℕ, ◌+◌, Bool, true, false, List, [], ◌∷◌, ◌≡◌, refl, sym, ap, ◌∙◌, subst, arith, nat_eq}
use Rattle.std.specs.Prelude.{Option, Some, None, if◌then◌else◌}
use Rattle.std.proofs.lemmas.Bool.{eqb-true}
use Rattle.rt_model.specs.Lists.{at}
use Rattle.rt_model.specs.Tree.{Types, Place, VComponent}
use Rattle.rt_model.specs.World.{Firsts, Application}
use Rattle.rt_model.specs.Laws.{IsLawful}
use Rattle.rt_model.specs.State.{SideName, MainSide, Scope, State, Item, Draw, Row, Feed, Make, Drop, Outcome, Done, side_of, new_scope, is_live}
use Rattle.rt_model.specs.Run.{run}
use Rattle.rt_model.specs.Removal.{removed}
use Rattle.rt_model.specs.Replay.{Input, Machine, with_child, outcome_of}
use Rattle.rt_model.specs.Causes.{Limits}
use Rattle.rt_model.proofs.Maps.{by_test, none_some}
use Rattle.rt_model.proofs.NumbersStand.{child_among}
use Rattle.rt_model.proofs.TakesOne.{removal_takes_one}
use Rattle.law_moves.specs.Calls.{IsReady}
use Rattle.law_moves.specs.Reached.{first_scope, start_at, Reached}
use Rattle.law_moves.proofs.Twigs.{found_live, up_found}
use Rattle.law_moves.proofs.Everywhere.{reached_ready}
use Rattle.law_moves.specs.Frames.{Stand, stand, shown, Keeps, Leaves, served_by, JoinsO}
use Rattle.law_moves.proofs.Untouched.{stand_by, run_leaves, item_leaves, removal_leaves, make_joins}
use Rattle.law_moves.specs.Trees.{IsTree}
pub use Rattle.law_moves.proofs.Untouched.{no_member as apart_has}
use Rattle.law_headline.proofs.Did.{same_scope}
use Rattle.law_headline.proofs.Steps.{Ready, ready_of, Outlasts, reached_keep}

abbrev parent_in : Option Stand → Option ℕ
parent_in None = None
parent_in (Some f) = f.0

abbrev height_in : Option Stand → ℕ
height_in None = 0
height_in (Some f) = f.1

abbrev below_in : Option Stand → SideName
below_in None = MainSide
below_in (Some f) = f.2

no_child_of : {P : Type 0} (p : ℕ) (o : Option ℕ) → o ≡ Some p → o ≡ None → P
no_child_of p o e f = none_some f e

module _ {K : Types} where
  -- where another scope stands
  pub record Stood (o : Option (Scope K)) (x : Scope K) : Type 0 where
    pub old : Scope K
    pub found : o ≡ Some old
    pub parent : old.parent ≡ x.parent
    pub height : old.height ≡ x.height
    pub below : old.below ≡ x.below

  pub stood : (o : Option (Scope K)) (x : Scope K) → stand o ≡ stand (Some x) → Stood o x
  stood None x h = cc
  stood (Some y) x h = record { old = y; found = refl; parent = ap (λ o. parent_in o) h; height = ap (λ o. height_in o) h; below = ap (λ o. below_in o) h }

  -- a scope that is found after a change stood there before it
  pub stood_before : (o p : Option (Scope K)) (x : Scope K) → stand p ≡ stand o → p ≡ Some x → Stood o x
  stood_before o p x h e = stood o x (sym h ∙ ap (λ (z : Option (Scope K)). stand z) e)

  pub keeps_of : (served moved : List ℕ) (w v : State K) (work : List (Item K)) (o : Outcome K) → Leaves served moved w o → o ≡ Done v work → Keeps served moved w v
  keeps_of served moved w v work o h e = subst (λ (z : Outcome K). Leaves served moved w z) e h

  pub joins_of : (s : ℕ) (side : SideName) (p : Place) (c : VComponent K) (w v : State K) (x : Scope K) (work : List (Item K)) (o : Outcome K) → JoinsO s side p c w x o → o ≡ Done v work
      → (shown (at v.scopes s) ≡ shown (Some (with_child side p w.next_scope x))) × (stand (at v.scopes w.next_scope) ≡ stand (Some (new_scope c (Some s) (x.height + 1) side)))
  joins_of s side p c w v x work o h e = subst (λ (z : Outcome K). JoinsO s side p c w x z) e h

  -- a scope without a parent has no scope above it
  abbrev pub Topped : State K → List (Item K) → Type 0
  Topped w work = (s : ℕ) (x : Scope K) → at w.scopes s ≡ Some x → x.parent ≡ None → (x.height ≡ 0) × (s ≡ 0)

  topped_by : (w v : State K) (s : ℕ) (y : Scope K) → Topped w [] → Stood (at w.scopes s) y → y.parent ≡ None → (y.height ≡ 0) × (s ≡ 0)
  topped_by w v s y h old none = let top = h s old.old old.found (old.parent ∙ none) in (sym old.height ∙ top.0, top.1)

module _ {K : Types} (app : Application K) (lawful : IsLawful K app) where
  made_topped : (w v : State K) (s : ℕ) (a : SideName) (p : Place) (c : VComponent K) (rest work : List (Item K)) → Ready w (Make s a p c ∷ rest) → is_live w s ≡ true → outcome_of app w (Make s a p c) ≡ Done v work
      → (y : Scope K) → at v.scopes w.next_scope ≡ Some y → y.parent ≡ Some s
  made_topped w v s a p c rest work ready live e y found =
      let fresh : at w.scopes w.next_scope ≡ None = (ready.rooted).drawn w.next_scope (omega arith) in
      let x = found_live (at w.scopes s) live in
      let joined = joins_of s a p c w v x.0 work (outcome_of app w (Make s a p c)) (make_joins app w s a p c x.0 x.1 fresh) e in
      let at_new = stood_before (Some (new_scope c (Some s) ((x.0).height + 1) a)) (at v.scopes w.next_scope) y joined.1 found in
      let same : at_new.old ≡ new_scope c (Some s) ((x.0).height + 1) a = sym (same_scope (new_scope c (Some s) ((x.0).height + 1) a) at_new.old at_new.found) in
      sym at_new.parent ∙ ap (λ (z : Scope K). z.parent) same

  served_topped : (w v : State K) (item : Item K) (rest work : List (Item K)) → Ready w (item ∷ rest) → IsReady w item → Topped w [] → outcome_of app w item ≡ Done v work → Topped v []
  served_topped w v (Make s a p c) rest work ready live h e t y found none =
      let k : Keeps (s ∷ w.next_scope ∷ []) (w.next_scope ∷ []) w v = keeps_of (s ∷ w.next_scope ∷ []) (w.next_scope ∷ []) w v work (outcome_of app w (Make s a p c)) (item_leaves app w (Make s a p c)) e in
      by_test (nat_eq w.next_scope t)
      (
      λ q.
      no_child_of s y.parent (made_topped w v s a p c rest work ready live e y (ap (λ (n : ℕ). at v.scopes n) (eqb-true w.next_scope t q) ∙ found)) none
      )
      (λ q. topped_by w v t y h (stood_before (at w.scopes t) (at v.scopes t) y (k.stands t (apart_has w.next_scope t q)) found) none)
  served_topped w v (Draw s a p k) rest work ready live h e t y found none =
      topped_by w v t y h (stood_before (at w.scopes t) (at v.scopes t) y ((keeps_of (s ∷ []) [] w v work (outcome_of app w (Draw s a p k)) (item_leaves app w (Draw s a p k)) e).stands t refl) found) none
  served_topped w v (Row b step) rest work ready live h e t y found none =
      topped_by w v t y h (stood_before (at w.scopes t) (at v.scopes t) y ((keeps_of (b ∷ []) [] w v work (outcome_of app w (Row b step)) (item_leaves app w (Row b step)) e).stands t refl) found) none
  served_topped w v (Feed s a p c) rest work ready live h e t y found none =
      topped_by w v t y h
      (stood_before (at w.scopes t) (at v.scopes t) y ((keeps_of (served_by w (Feed s a p c)) [] w v work (outcome_of app w (Feed s a p c)) (item_leaves app w (Feed s a p c)) e).stands t refl) found) none
  served_topped w v (Drop u s a) rest work ready live h e t y found none = absurd live

  gone_topped : (w v : State K) (l : ℕ) (work : List (Item K)) → Topped w [] → removed app w l ≡ Done v work → Topped v []
  gone_topped w v l work h e t y found none =
      let k : Keeps (l ∷ []) (l ∷ []) w v = keeps_of (l ∷ []) (l ∷ []) w v work (removed app w l) (removal_leaves app w l) e in
      by_test (nat_eq l t)
      (λ q. none_some (removal_takes_one app lawful w v l work e).1.gone (ap (λ (n : ℕ). at v.scopes n) (eqb-true l t q) ∙ found))
      (λ q. topped_by w v t y h (stood_before (at w.scopes t) (at v.scopes t) y (k.stands t (apart_has l t q)) found) none)

  topped_lasts : Outlasts app lawful Topped
  topped_lasts =
      record {
        inside =
            record {
              serves = λ w v item rest work before after ready p e. served_topped w v item rest work before ready p e;
              drops = λ w v scope parent side rest work before after first live p e. gone_topped w v scope work p e;
              thins = λ w v scope top parent side rest work before after first other live p e. gone_topped w v scope work p e;
            };
        calms = λ w v level h t y found none. topped_by w v t y h (stood_before (at w.scopes t) (at v.scopes t) y (stand_by (at v.scopes t) (at w.scopes t) (level.shows t)) found) none;
        runs =
            λ w v s work before after h e t y found none.
            topped_by w v t y h (stood_before (at w.scopes t) (at v.scopes t) y ((keeps_of (s ∷ []) [] w v work (run app w s) (run_leaves app w s) e).stands t refl) found) none;
      }

  start_topped : (props : K.Props) (firsts : Firsts) (contexts : List (ℕ × K.Value)) (inputs : List (Input K))
      → Topped (start_at app props firsts contexts inputs).state []
  start_topped props firsts contexts inputs s x found none = one (nat_eq 0 s) refl found
    where
      one : (b : Bool) → nat_eq 0 s ≡ b → (if b then Some (first_scope app props contexts) else None) ≡ Some x → (x.height ≡ 0) × (s ≡ 0)
      one true q e = (ap (λ (z : Scope K). z.height) (sym (same_scope (first_scope app props contexts) x e)), sym (eqb-true 0 s q))
      one false q e = cc

  -- a state in which the work fits the tree is one
  pub ready_tree : (w : State K) (work : List (Item K)) → Ready w work → Topped w [] → IsTree w
  ready_tree w work r top =
      record {
        top = λ s x found none. (top s x found none).0;
        parent =
            λ s p x found up_is.
            let there = (r.woven).attached s p (up_found w s x found ∙ up_is) in
            let y = found_live (at w.scopes p) there.0 in
            (y.0, y.1, (r.rooted).heights s p x y.0 found up_is y.1);
        child =
            λ s t x y a p found kid there.
            let told = (r.stands).child s t x y a p found (child_among (side_of x a).children p t kid) there in
            (r.rooted).heights t s y x there told.0 found;
      }

  pub reached_topped : (limits : Limits) (props : K.Props) (inputs : List (Input K)) (m : Machine K) → Reached app limits props inputs m → m.dead ≡ None → Topped m.state m.work
  reached_topped limits props inputs m reached alive = reached_keep app lawful Topped topped_lasts limits props inputs m reached alive (start_topped props reached.firsts reached.contexts inputs)

  pub reached_are_trees : (limits : Limits) (props : K.Props) (inputs : List (Input K)) (m : Machine K) → Reached app limits props inputs m → m.dead ≡ None → IsTree m.state
  reached_are_trees limits props inputs m reached alive =
      ready_tree m.state m.work (ready_of app lawful m (reached_ready app lawful limits props inputs m reached) alive)
      (reached_keep app lawful Topped topped_lasts limits props inputs m reached alive (start_topped props reached.firsts reached.contexts inputs))
