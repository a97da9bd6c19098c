-- The count of calls, from one step of a session to the next.
use Rattle.std.proofs.Common.{ℕ, ◌+◌, Bool, true, false, List, [], ◌∷◌, ◌++◌, ◌≡◌, refl, sym, ap, ◌∙◌, subst, nat_eq, Result, Ok, Err}
use Rattle.std.specs.Prelude.{Option, Some, None, OnOk, if◌then◌else◌}
use Rattle.rt_model.proofs.Maps.{by_test, pick_true, pick_false}
use Rattle.rt_model.specs.Lists.{at}
use Rattle.rt_model.specs.OneLog.{types}
use Rattle.rt_model.specs.Tree.{Types, Place, Kind, VComponent}
use Rattle.rt_model.specs.World.{Application, Elements, at_end}
use Rattle.rt_model.specs.State as model
use Rattle.rt_model.specs.State.{Outcome, Done, Cut, Item, Drop, Scope, SideName, IdsExhausted, changed_scope, side_of, with_side}
use Rattle.rt_model.specs.Heard.{Listener}
use Rattle.rt_model.specs.Next.{Work}
use Rattle.rt_model.specs.Removal.{next_removed, removed}
use Rattle.rt_model.specs.Run.{with_next}
use Rattle.rt_model.specs.Replay as replay
use Rattle.law_moves.specs.Turn.{again, and_then, turn_of, unit_of}
use Rattle.rt_scopes.specs.Counts.{Counts}
use Rattle.rt_scopes.specs.Outcomes.{Comes}
use Rattle.run_state.specs.Mirror.{Unkept, state_of}
use Rattle.run_state.specs.declared.names.Stop.{Stop}
use Rattle.run_state.specs.declared.state.State.{State}
use Rattle.run_turns.specs.Counting.{CountsAlong, CountsChange, CountsListener, calls_after, now_at}

-- whatever was answered
pub on_any : {U X : Type 0} {A : Type 0} (r : Result U X) → A → OnOk r A
on_any (Ok u) a = a
on_any (Err e) a = tt

-- a count goes along with one more step
pub along : (count : Option ℕ) (before after x y : ℕ) → (Counts before x → Counts after y) → CountsAlong (now_at before count) x → CountsAlong (now_at after count) y
along None before after x y on was = tt
along (Some n) before after x y on was = on was

module _ {P C Q V H T E L : Type 0} where
  -- after what was done by a call of the scopes
  pub on_done : (change : model.State (types C Q V H T E L) → Outcome (types C Q V H T E L)) (old new : State P C Q V H T E L) (n m : ℕ) (work : List (Item (types C Q V H T E L)))
      → ((g : Unkept (types C Q V H T E L)) → (h : Unkept (types C Q V H T E L)) × (change (state_of g old) ≡ Done (state_of h new) work) × (Counts n g.calls → Counts m h.calls))
      → CountsChange change old n m
  on_done change old new n m work comes = λ kept was. subst (λ (o : Outcome (types C Q V H T E L)). Counts m (calls_after o)) (sym (comes kept).1) ((comes kept).2 was)

  -- after what a call of the scopes came to
  pub on_comes : {A : Type 0} (change : model.State (types C Q V H T E L) → Outcome (types C Q V H T E L)) (old new : State P C Q V H T E L) (n m : ℕ) (work : A → List (Item (types C Q V H T E L))) (result : Result A Stop)
      → Comes change old n new m work result → OnOk result (CountsChange change old n m)
  on_comes change old new n m work (Ok answer) comes = on_done change old new n m (work answer) comes
  on_comes change old new n m work (Err stop) comes = tt

  -- the same change by another name
  pub change_as : (change other : model.State (types C Q V H T E L) → Outcome (types C Q V H T E L)) (old mid : State P C Q V H T E L) (n m : ℕ)
      → ((g : Unkept (types C Q V H T E L)) → calls_after (other (state_of g mid)) ≡ calls_after (change (state_of g old)))
      → CountsChange other mid n m → CountsChange change old n m
  change_as change other old mid n m same counts = λ kept was. subst (λ (k : ℕ). Counts m k) (same kept) (counts kept was)

  pub change_named : (change other : model.State (types C Q V H T E L) → Outcome (types C Q V H T E L)) (old mid : State P C Q V H T E L) (n m : ℕ)
      → ((g : Unkept (types C Q V H T E L)) → other (state_of g mid) ≡ change (state_of g old))
      → CountsChange other mid n m → CountsChange change old n m
  change_named change other old mid n m same counts = change_as change other old mid n m (λ kept. ap (λ (o : Outcome (types C Q V H T E L)). calls_after o) (same kept)) counts

  pub on_as : {A : Type 0} (change other : model.State (types C Q V H T E L) → Outcome (types C Q V H T E L)) (old mid : State P C Q V H T E L) (n m : ℕ) (result : Result A Stop)
      → ((g : Unkept (types C Q V H T E L)) → other (state_of g mid) ≡ change (state_of g old))
      → OnOk result (CountsChange other mid n m) → OnOk result (CountsChange change old n m)
  on_as change other old mid n m (Ok answer) same counts = change_named change other old mid n m same counts
  on_as change other old mid n m (Err stop) same counts = tt

  -- a change that calls nothing
  pub change_silent : (change : model.State (types C Q V H T E L) → Outcome (types C Q V H T E L)) (old : State P C Q V H T E L) (n : ℕ)
      → ((g : Unkept (types C Q V H T E L)) → calls_after (change (state_of g old)) ≡ g.calls)
      → CountsChange change old n n
  change_silent change old n same = λ kept was. subst (λ (k : ℕ). Counts n k) (sym (same kept)) was

module _ {P C Q V H T E L : Type 0} (app : Application (types C Q V H T E L)) where
  -- a turn at an item by another name
  pub on_item : {A : Type 0} (item other : Item (types C Q V H T E L)) (old : State P C Q V H T E L) (n m : ℕ) (result : Result A Stop) → other ≡ item
      → OnOk result (CountsChange (λ w. turn_of app w other) old n m) → OnOk result (CountsChange (λ w. turn_of app w item) old n m)
  on_item item other old n m result same counts = subst (λ (i : Item (types C Q V H T E L)). OnOk result (CountsChange (λ w. turn_of app w i) old n m)) same counts

  -- a unit's first step by another name
  pub on_unit : (work other : Work) (old : State P C Q V H T E L) (n m : ℕ) → other ≡ work
      → CountsChange (λ w. unit_of app w other) old n m → CountsChange (λ w. unit_of app w work) old n m
  on_unit work other old n m same counts = subst (λ (x : Work). CountsChange (λ w. unit_of app w x) old n m) same counts

module _ {K : Types} where
  changed_calls : (w : model.State K) (s : ℕ) (f : Scope K → Scope K) (o : Option (Scope K)) → (changed_scope w s f o).calls ≡ w.calls
  changed_calls w s f None = refl
  changed_calls w s f (Some x) = refl

  numbered_calls : (w : model.State K) (s : ℕ) (side : SideName) (p : Place) (k : Kind) → (replay.numbered w s side p k).calls ≡ w.calls
  numbered_calls w s side p k =
      changed_calls (with_next w (record (w.next) { elements = w.next.elements + 1 })) s
      (λ (x : Scope K). with_side x side (record (side_of x side) { numbers = (side_of x side).numbers ++ (p, k, w.next.elements) ∷ [] }))
      (at w.scopes s)

  -- a number is drawn without a call
  pub draw_calls : (w : model.State K) (s : ℕ) (side : SideName) (p : Place) (k : Kind) → calls_after (replay.draw_number w s side p k) ≡ w.calls
  draw_calls w s side p k =
      let cut : Outcome K = Cut w (IdsExhausted Elements) in
      let done : Outcome K = Done (replay.numbered w s side p k) [] in
      by_test (at_end w.next.elements)
      (λ q. ap (λ (o : Outcome K). calls_after o) (pick_true cut done q))
      (λ q. ap (λ (o : Outcome K). calls_after o) (pick_false cut done q) ∙ numbered_calls w s side p k)

  -- so is another component put in place
  pub props_calls : (app : Application K) (w : model.State K) (t : ℕ) (c : VComponent K) → (replay.with_props app w t c).calls ≡ w.calls
  props_calls app w t c = changed_calls w t (λ (x : Scope K). record x { component = c }) (at w.scopes t)

  then_calls : (o : Outcome K) (more : List (Item K)) → calls_after o ≡ calls_after (and_then o more)
  then_calls (Done w work) more = refl
  then_calls (Cut w fault) more = refl

  -- a drop calls what the removal of its first scope does
  pub take_calls : (app : Application K) (w : model.State K) (t s : ℕ) (side : SideName) (leaf : ℕ) → leaf ≡ next_removed w t → calls_after (removed app w leaf) ≡ calls_after (turn_of app w (Drop t s side))
  take_calls app w t s side leaf is =
      then_calls (removed app w leaf) (again (nat_eq leaf t) (Drop t s side))
      ∙ ap (λ (n : ℕ). calls_after (and_then (removed app w n) (again (nat_eq n t) (Drop t s side)))) is

module _ {K : Types} (app : Application K) where
  abbrev CountsFirst : replay.Machine K → ℕ → ℕ → List (Listener K) → Type 0
  CountsFirst m n k [] = Unit {0}
  CountsFirst m n k (l ∷ ls) = CountsListener app m l ls n k

  -- the listener that waits first, by another name of the machine
  pub heard_first : (m x : replay.Machine K) (first l : Listener K) (others ls : List (Listener K)) (n k : ℕ)
      → m ≡ x → replay.waiting m ≡ first ∷ others → replay.waiting x ≡ l ∷ ls → CountsListener app x l ls n k → CountsListener app m first others n k
  heard_first m x first l others ls n k same waits there counts =
      let heads : l ∷ ls ≡ first ∷ others = sym there ∙ ap (λ (y : replay.Machine K). replay.waiting y) (sym same) ∙ waits in
      subst (λ (y : replay.Machine K). CountsListener app y first others n k) (sym same)
      (subst (λ (xs : List (Listener K)). CountsFirst x n k xs) heads counts)
