-- What commands leave as it was: of each scope that lives on its component, its parent, its height, the side it is below, and its sides.
use Rattle.std.proofs.Common.{ℕ, Bool, true, false, List, ◌≡◌, refl, sym, ap, ◌∙◌}
use Rattle.std.specs.Prelude.{Option, Some, None, if◌then◌else◌}
use Rattle.rt_model.specs.Lists.{at, put}
use Rattle.rt_model.specs.Tree.{Types, VComponent}
use Rattle.rt_model.specs.World.{Firsts, Command, Application}
use Rattle.rt_model.specs.State.{SideName, MainSide, ChildrenSide, FallbackSide, Posted, Side, Scope, State, side_of, change}
use Rattle.rt_model.specs.Commands.{post, end, write_cell, commands}
use Rattle.rt_model.specs.Framed.{Frame, framed}
use Rattle.rt_model.proofs.Tour as tour
use Rattle.rt_model.proofs.Tour.{Steady, Kept}

module _ {K : Types} where
  -- v has no scope that w hasn't, each is framed as in w, and draws no number of a node or a scope
  pub record Stay (w v : State K) : Type 0 where
    pub frames : (s : ℕ) (x : Scope K) → at v.scopes s ≡ Some x → framed (at w.scopes s) ≡ framed (Some x)
    pub elements : v.next.elements ≡ w.next.elements
    pub next_scope : v.next_scope ≡ w.next_scope

  abbrev component_in : VComponent K → Option (Frame K) → VComponent K
  component_in c None = c
  component_in c (Some f) = f.0

  abbrev parent_in : Option (Frame K) → Option ℕ
  parent_in None = None
  parent_in (Some f) = f.1

  abbrev height_in : Option (Frame K) → ℕ
  height_in None = 0
  height_in (Some f) = f.2

  abbrev below_in : Option (Frame K) → SideName
  below_in None = MainSide
  below_in (Some f) = f.3

  abbrev side_in : Side K → SideName → Option (Frame K) → Side K
  side_in e a None = e
  side_in e MainSide (Some f) = f.4
  side_in e ChildrenSide (Some f) = f.5
  side_in e FallbackSide (Some f) = f.6

  -- a scope that is framed as another one
  pub record Alike (o : Option (Scope K)) (x : Scope K) : Type 0 where
    pub old : Scope K
    pub found : o ≡ Some old
    pub component : old.component ≡ x.component
    pub parent : old.parent ≡ x.parent
    pub height : old.height ≡ x.height
    pub below : old.below ≡ x.below
    pub sides : (a : SideName) → side_of old a ≡ side_of x a

  sides_alike : (y x : Scope K) → framed (Some y) ≡ framed (Some x) → (a : SideName) → side_of y a ≡ side_of x a
  sides_alike y x h MainSide = ap (λ o. side_in x.main_side MainSide o) h
  sides_alike y x h ChildrenSide = ap (λ o. side_in x.main_side ChildrenSide o) h
  sides_alike y x h FallbackSide = ap (λ o. side_in x.main_side FallbackSide o) h

  -- a scope whose frame is there is there
  pub alike : (o : Option (Scope K)) (x : Scope K) → framed o ≡ framed (Some x) → Alike o x
  alike None x h = cc
  alike (Some y) x h =
      record {
        old = y;
        found = refl;
        component = ap (λ o. component_in x.component o) h;
        parent = ap (λ o. parent_in o) h;
        height = ap (λ o. height_in o) h;
        below = ap (λ o. below_in o) h;
        sides = sides_alike y x h;
      }

  -- one change after another
  pub stay_trans : (u v w : State K) → Stay u v → Stay v w → Stay u w
  stay_trans u v w p q =
      record {
        frames =
            λ s x e.
            let old : Alike (at v.scopes s) x = alike (at v.scopes s) x (q.frames s x e) in
            p.frames s old.old old.found ∙ ap (λ (o : Option (Scope K)). framed o) (sym old.found) ∙ q.frames s x e;
        elements = q.elements ∙ p.elements;
        next_scope = q.next_scope ∙ p.next_scope;
      }

  -- the frames are equal
  pub stay_equal : (w v : State K) → ((s : ℕ) → framed (at v.scopes s) ≡ framed (at w.scopes s)) → v.next.elements ≡ w.next.elements → v.next_scope ≡ w.next_scope → Stay w v
  stay_equal w v f p q = record { frames = λ s x e. sym (f s) ∙ ap (λ (o : Option (Scope K)). framed o) e; elements = p; next_scope = q }

  -- no change
  pub stay_refl : (w : State K) → Stay w w
  stay_refl w = stay_equal w w (λ s. refl) refl refl

  -- other parts of the state may change
  pub stay_rest : (w v : State K) → v.scopes ≡ w.scopes → v.next.elements ≡ w.next.elements → v.next_scope ≡ w.next_scope → Stay w v
  stay_rest w v p r s = stay_equal w v (λ n. ap (λ (xs : List (ℕ × Scope K)). framed (at xs n)) p) r s

  -- one of two changes
  pub stay_either : (w x y : State K) (c : Bool) → Stay w x → Stay w y → Stay w (if c then x else y)
  stay_either w x y true p q = p
  stay_either w x y false p q = q

  pub framed_steady : Steady {K = K} framed
  framed_steady =
      record {
        hooks = λ x hs. refl;
        error = λ x e. refl;
        contexts = λ x cs. refl;
        effects = λ x es. refl;
        callbacks = λ x es. refl;
        frozen = λ x b. refl;
        holders = λ x hs. refl;
        renders = λ x n. refl;
        reads = λ x ss. refl;
        mounted = λ x b. refl;
      }

  -- what leaves all frames does
  pub stay_kept : (w v : State K) → Kept framed 0 w v → Stay w v
  stay_kept w v h = stay_equal w v h.seen (ap (λ (f : Firsts). f.elements) h.next) h.next_scope

  -- a scope's record is replaced by one that is framed alike
  pub with_put : (w : State K) (s : ℕ) (x y : Scope K) → at w.scopes s ≡ Some x → framed (Some y) ≡ framed (Some x)
      → Stay w (record w { scopes = put w.scopes s y })
  with_put w s x y h same = stay_kept w _ (tour.with_put framed 0 w s x y h same)

  -- a change of one record that leaves its frame
  pub change_stay : (w : State K) (s : ℕ) (f : Scope K → Scope K) → ((x : Scope K) → framed (Some (f x)) ≡ framed (Some x)) → Stay w (change w s f)
  change_stay w s f same = stay_kept w (change w s f) (tour.change_kept framed 0 w s f same)

  -- what is posted
  pub post_stay : (w : State K) (p : Posted) → Stay w (post w p)
  post_stay w p = stay_kept w (post w p) (tour.post_kept framed 0 w p)

  -- a task ends
  pub end_stay : (w : State K) (t : ℕ) → Stay w (end w t)
  end_stay w t = stay_kept w (end w t) (tour.end_kept framed framed_steady 0 w t)

  -- a cell is written
  pub write_stay : (w : State K) (n : ℕ) (v : K.Value) → Stay w (write_cell w n v)
  write_stay w n v = stay_kept w (write_cell w n v) (tour.write_kept framed framed_steady 0 w n v)

  -- the commands of a call
  pub commands_stay : (app : Application K) (w : State K) (s : ℕ) (polled : Option ℕ) (cs : List (Command K)) → Stay w (commands app w s polled cs)
  commands_stay app w s polled cs = stay_kept w (commands app w s polled cs) (tour.commands_seen framed framed_steady app w s polled cs)
