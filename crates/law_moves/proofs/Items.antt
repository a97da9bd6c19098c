-- Serving one item is one move: what a caller has to know.
use Rattle.std.proofs.Common.{ℕ, Bool, true, false, List, [], ◌∷◌, ◌++◌, ◌≡◌, refl, sym, ap, ◌∙◌, subst, nat_eq}
use Rattle.std.specs.Prelude.{Option, Some, None, if◌then◌else◌}
use Rattle.rt_model.specs.Lists.{first_of}
use Rattle.rt_model.specs.Tree.{Types, Place, VComponent}
use Rattle.rt_model.specs.World.{Application}
use Rattle.rt_model.specs.State.{SideName, Fault, State, Item, Draw, Row, Feed, Make, Drop, Outcome, Cut, is_live}
use Rattle.rt_model.specs.Removal.{next_removed, removed}
use Rattle.rt_model.specs.Replay.{Entry, Build, Made, Fed, Kept, Removed, Machine, ended_by, names_live, if_live, fed_child, keeps, due_feed, due_item, due, outcome_of, entry_of, dropped, change_by}
use Rattle.rt_model.specs.Causes.{Limits, depth_refused, height_at, refusal}
use Rattle.rt_model.proofs.Maps.{pick_true, pick_false}
use Rattle.law_moves.specs.Moves.{Move, Silent, Logged, entries, serves_item, Inside, is_silent, busy, IsSettled, AtWork, IsSilent, IsLogged, Moves}
use Rattle.law_moves.specs.Words.{Word, Served, Stopped, Short, Does, Goes, Stops, Says, Enters}
use Rattle.law_moves.specs.Calls.{IsReady, left_of}
use Rattle.law_moves.proofs.Joins.{stays, goes_one, said_after}

-- a way down that ends where it begins
abbrev pub is_end : List ℕ → Bool
is_end [] = true
is_end (child ∷ path) = false

module _ {K : Types} where
  -- what holds of a machine at work, written out, holds of it
  at_work_out : (P : Machine K → Type 0) (m : Machine K) (work : List (Item K)) → AtWork m → m.work ≡ work → P (record m { dead = None; built = true; unit = true; work = work }) → P m
  at_work_out P m work h next p =
      subst (λ (o : Option Fault). P (record m { dead = o })) (sym h.alive)
      (subst (λ (b : Bool). P (record m { dead = None; built = b })) (sym h.built)
      (subst (λ (b : Bool). P (record m { dead = None; built = true; unit = b })) (sym h.unit)
      (subst (λ (items : List (Item K)). P (record m { dead = None; built = true; unit = true; work = items })) (sym next) p)))

  -- while work is served only a make that is too deep is refused
  refusal_at_work : (limits : Limits) (m : Machine K) (item : Item K) (rest : List (Item K)) → AtWork m → m.work ≡ item ∷ rest
      → refusal limits m ≡ first_of (depth_refused limits (height_at m.state (item ∷ rest))) None
  refusal_at_work limits m item rest h next =
      at_work_out (λ (x : Machine K). refusal limits x ≡ first_of (depth_refused limits (height_at x.state (item ∷ rest))) None) m (item ∷ rest) h next refl

  settled_at_work : (m : Machine K) (item : Item K) (rest : List (Item K)) → AtWork m → m.work ≡ item ∷ rest → is_silent item ≡ false → IsSettled m
  settled_at_work m item rest h next quiet = at_work_out (λ (x : Machine K). IsSettled x) m (item ∷ rest) h next quiet

  same_height_at : (w : State K) (item : Item K) (rest more : List (Item K)) → height_at w (item ∷ rest) ≡ height_at w (item ∷ more)
  same_height_at w (Draw s side p k) rest more = refl
  same_height_at w (Row b step) rest more = refl
  same_height_at w (Feed s side p c) rest more = refl
  same_height_at w (Make s side p c) rest more = refl
  same_height_at w (Drop t s side) rest more = refl

module _ {K : Types} (app : Application K) where
  -- the entry that is due at work is that of the first item
  pub due_at_work : (m : Machine K) (work : List (Item K)) → AtWork m → m.work ≡ work → due app m ≡ if_live m.state (due_item app m work)
  due_at_work m work h next =
      ap (λ (o : Option Fault). if_live m.state (elim o as (λ z. Option Entry) [ None ↦ (if m.built then due_item app m m.work else Some Build) | Some fault ↦ None ])) h.alive
      ∙ ap (λ (b : Bool). if_live m.state (if b then due_item app m m.work else Some Build)) h.built
      ∙ ap (λ (items : List (Item K)). if_live m.state (due_item app m items)) next

module _ {K : Types} (app : Application K) (limits : Limits) where
  -- the entry of the first item is a move, where it isn't refused
  pub item_logged : (m u : Machine K) (item : Item K) (rest : List (Item K)) (e : Entry)
      → AtWork m
      → m.work ≡ item ∷ rest
      → is_silent item ≡ false
      → depth_refused limits (height_at m.state (item ∷ [])) ≡ None
      → due_item app m (item ∷ rest) ≡ Some e
      → names_live m.state e ≡ true
      → u ≡ change_by app m (item ∷ rest) e
      → IsLogged app limits m e u
  item_logged m u item rest e h next quiet room due_is live gives =
      record {
        settled = settled_at_work m item rest h next quiet;
        within = refusal_at_work limits m item rest h next
            ∙ ap (λ (o : Option ℕ). first_of (depth_refused limits o) None) (same_height_at m.state item rest [])
            ∙ ap (λ (o : Option Fault). first_of o None) room;
        due_is = due_at_work app m (item ∷ rest) h next
            ∙ ap (λ (o : Option Entry). if_live m.state o) due_is
            ∙ pick_true (Some e) None live;
        gives = gives ∙ ap (λ (items : List (Item K)). change_by app m items e) (sym next);
      }

  -- one move whose change did what is said of it
  pub move_did : (m : Machine K) (move : Move) (a b : List Entry) (item : Item K) (rest : List (Item K)) (o : Outcome K) (done : State K → List (Item K) → Type 0) (stops : Machine K → Type 0) (word : Word)
      → Moves app limits m move (ended_by m (Some item) rest o)
      → Inside (move ∷ [])
      → b ≡ a ++ entries (move ∷ [])
      → ((w : State K) (fault : Fault) → o ≡ Cut w fault → stops (record m { state = w; work = rest; dead = Some fault; refused = Some item }))
      → Does o done word
      → Enters app limits m rest a b done stops word
  move_did m move a b item rest o done stops Served h inside logged cuts did =
      let u : Machine K = busy m did.0 (did.1 ++ rest) in
      let moved : Moves app limits m move u = subst (λ (z : Outcome K). Moves app limits m move (ended_by m (Some item) rest z)) did.2 h in
      (did.0, did.1, subst (λ (log : List Entry). Goes app limits m a log u) (sym logged) (goes_one app limits m u move a moved inside), did.3)
  move_did m move a b item rest o done stops (Stopped fault) h inside logged cuts did =
      let u : Machine K = record m { state = did.0; work = rest; dead = Some fault; refused = Some item } in
      let moved : Moves app limits m move u = subst (λ (z : Outcome K). Moves app limits m move (ended_by m (Some item) rest z)) did.1 h in
      record {
        machine = u;
        goes = subst (λ (log : List Entry). Goes app limits m a log u) (sym logged) (goes_one app limits m u move a moved inside);
        settled = refl;
        cause = refl;
        stopped = cuts did.0 fault did.1;
      }
  move_did m move a b item rest o done stops Short h inside logged cuts did =
      let u : Machine K = ended_by m (Some item) rest o in
      record { machine = u; goes = subst (λ (log : List Entry). Goes app limits m a log u) (sym logged) (goes_one app limits m u move a h inside) }

  -- a child that is fed, or kept
  fed_logged : (m : Machine K) (s : ℕ) (side : SideName) (p : Place) (c : VComponent K) (rest : List (Item K)) (t : ℕ) (b : Bool)
      → AtWork m
      → m.work ≡ Feed s side p c ∷ rest
      → fed_child m.state s side p ≡ Some t
      → is_live m.state t ≡ true
      → keeps app m.state t c ≡ b
      → IsLogged app limits m (if b then Kept t else Fed t) (ended_by m (Some (Feed s side p c)) rest (outcome_of app m.state (Feed s side p c)))
  fed_logged m s side p c rest t b h next child live kept =
      item_logged m (ended_by m (Some item) rest o) item rest (if b then Kept t else Fed t) h next refl refl
      (ap (λ (z : Option ℕ). due_feed app m.state c z) child ∙ ap (λ (z : Bool). Some (if z then Kept t else Fed t)) kept)
      (named b)
      (changed b)
    where
      item : Item K
      item = Feed s side p c

      o : Outcome K
      o = outcome_of app m.state (Feed s side p c)

      named : (b : Bool) → names_live m.state (if b then Kept t else Fed t) ≡ true
      named true = live
      named false = live

      changed : (b : Bool) → ended_by m (Some (Feed s side p c)) rest o ≡ change_by app m (Feed s side p c ∷ rest) (if b then Kept t else Fed t)
      changed true = refl
      changed false = refl

  fed_serves : (t : ℕ) (b : Bool) → serves_item (if b then Kept t else Fed t) ≡ true
  fed_serves t true = refl
  fed_serves t false = refl

  silent_did : (m : Machine K) (a b : List Entry) (item : Item K) (rest : List (Item K)) (done : State K → List (Item K) → Type 0) (stops : Machine K → Type 0) (word : Word)
      → AtWork m
      → m.work ≡ item ∷ rest
      → is_silent item ≡ true
      → b ≡ a ++ []
      → ((w : State K) (fault : Fault) → outcome_of app m.state item ≡ Cut w fault → stops (record m { state = w; work = rest; dead = Some fault; refused = Some item }))
      → Does (outcome_of app m.state item) done word
      → Enters app limits m rest a b done stops word
  silent_did m a b item rest done stops word h next silent logged cuts did =
      let moved : IsSilent app m (ended_by m (Some item) rest (outcome_of app m.state item)) =
      record { item = item; later = rest; silent = silent; alive = h.alive; next = next; gives = refl } in
      move_did m Silent a b item rest (outcome_of app m.state item) done stops word moved tt logged cuts did

  -- an item that names what is there and isn't refused is served up to the work that it leads to
  pub item_did : (m : Machine K) (a b : List Entry) (item : Item K) (rest : List (Item K)) (done : State K → List (Item K) → Type 0) (stops : Machine K → Type 0) (word : Word)
      → AtWork m
      → m.work ≡ item ∷ rest
      → IsReady m.state item
      → depth_refused limits (height_at m.state (item ∷ [])) ≡ None
      → b ≡ a ++ entry_of app m.state item
      → ((w : State K) (fault : Fault) → outcome_of app m.state item ≡ Cut w fault → stops (record m { state = w; work = rest; dead = Some fault; refused = Some item }))
      → Does (outcome_of app m.state item) done word
      → Enters app limits m rest a b done stops word
  item_did m a b (Draw s side p k) rest done stops word h next ready room logged cuts did =
      silent_did m a b (Draw s side p k) rest done stops word h next refl logged cuts did
  item_did m a b (Row c step) rest done stops word h next ready room logged cuts did =
      silent_did m a b (Row c step) rest done stops word h next refl logged cuts did
  item_did m a b (Make s side p c) rest done stops word h next ready room logged cuts did =
      let item : Item K = Make s side p c in
      let e : Entry = Made m.state.next_scope in
      let u : Machine K = ended_by m (Some item) rest (outcome_of app m.state item) in
      move_did m (Logged e) a b item rest (outcome_of app m.state item) done stops word
      (item_logged m u item rest e h next refl room (pick_true (Some e) None ready) refl refl)
      (refl, tt) logged cuts did
  item_did m a b (Feed s side p c) rest done stops word h next ready room logged cuts did =
      let t : ℕ = ready.0 in
      let kept : Bool = keeps app m.state t c in
      let e : Entry = if kept then Kept t else Fed t in
      let entry : entry_of app m.state (Feed s side p c) ≡ e ∷ [] =
      ap (λ (z : Option ℕ). elim z as (λ y. List Entry) [ None ↦ [] | Some n ↦ (if keeps app m.state n c then Kept n else Fed n) ∷ [] ]) ready.1 in
      move_did m (Logged e) a b (Feed s side p c) rest (outcome_of app m.state (Feed s side p c)) done stops word
      (fed_logged m s side p c rest t kept h next ready.1 ready.2 refl)
      (fed_serves t kept, tt)
      (logged ∙ ap (λ (log : List Entry). a ++ log) entry)
      cuts did
  item_did m a b (Drop t s side) rest done stops word h next ready room logged cuts did = absurd ready

  -- a make that is too deep is refused
  pub too_deep : (m : Machine K) (log : List Entry) (item : Item K) (rest : List (Item K)) (fault : Fault) (stops : Machine K → Type 0)
      → AtWork m
      → m.work ≡ item ∷ rest
      → depth_refused limits (height_at m.state (item ∷ [])) ≡ Some fault
      → stops m
      → Stops app limits m log log stops fault
  too_deep m log (Make s side p c) rest fault stops h next deep stopped =
      record {
        machine = m;
        goes = stays app limits m log;
        settled = settled_at_work m (Make s side p c) rest h next refl;
        cause = refusal_at_work limits m (Make s side p c) rest h next ∙ ap (λ (o : Option Fault). first_of o None) deep;
        stopped = stopped;
      }
  too_deep m log (Draw s side p k) rest fault stops h next deep stopped = cc
  too_deep m log (Row b step) rest fault stops h next deep stopped = cc
  too_deep m log (Feed s side p c) rest fault stops h next deep stopped = cc
  too_deep m log (Drop t s side) rest fault stops h next deep stopped = cc

  dropped_as : (m : Machine K) (scope top : ℕ) (item : Item K) (rest : List (Item K)) (path : List ℕ) → nat_eq scope top ≡ is_end path
      → ended_by m (Some item) (left_of path item rest) (removed app m.state scope) ≡ dropped app m scope top item rest
  dropped_as m scope top item rest [] same =
      let o : Outcome K = removed app m.state scope in
      sym (pick_true (ended_by m (Some item) rest o) (ended_by m (Some item) (item ∷ rest) o) same)
  dropped_as m scope top item rest (child ∷ path) same =
      let o : Outcome K = removed app m.state scope in
      sym (pick_false (ended_by m (Some item) rest o) (ended_by m (Some item) (item ∷ rest) o) same)

  -- a scope of a drop goes: the one that it names with the drop itself, one below it while the drop stays
  pub drop_logged : (m : Machine K) (scope top parent : ℕ) (side : SideName) (rest : List (Item K)) (path : List ℕ)
      → AtWork m
      → m.work ≡ Drop top parent side ∷ rest
      → next_removed m.state top ≡ scope
      → is_live m.state scope ≡ true
      → nat_eq scope top ≡ is_end path
      → IsLogged app limits m (Removed scope) (ended_by m (Some (Drop top parent side)) (left_of path (Drop top parent side) rest) (removed app m.state scope))
  drop_logged m scope top parent side rest path h next first live same =
      let item : Item K = Drop top parent side in
      item_logged m (ended_by m (Some item) (left_of path item rest) (removed app m.state scope)) item rest (Removed scope) h next refl refl
      (ap (λ (n : ℕ). Some (Removed n)) first) live (dropped_as m scope top item rest path same)

  -- after an item was served up to the work that it led to, a call serves that work
  pub then_served : (m : Machine K) (rest : List (Item K)) (a b c : List Entry) (done : State K → List (Item K) → Type 0) (ends : State K → Type 0) (stops : Machine K → Type 0) (word : Word)
      → Enters app limits m rest a b done stops Served
      → ((w : State K) (work : List (Item K)) → done w work → Says app limits (busy m w (work ++ rest)) rest b c ends stops word)
      → Says app limits m rest a c ends stops word
  then_served m rest a b c done ends stops word entered serve =
      said_after app limits m entered.0 (entered.1 ++ rest) rest a b c ends stops word entered.2 (serve entered.0 entered.1 entered.3)

  -- an item that wasn't served ends the call
  pub not_entered : (m : Machine K) (rest : List (Item K)) (a b : List Entry) (done : State K → List (Item K) → Type 0) (ends : State K → Type 0) (stops : Machine K → Type 0) (word : Word)
      → (word ≡ Served → ⊥)
      → Enters app limits m rest a b done stops word
      → Says app limits m rest a b ends stops word
  not_entered m rest a b done ends stops Served not_served entered = absurd (not_served refl)
  not_entered m rest a b done ends stops (Stopped fault) not_served entered = entered
  not_entered m rest a b done ends stops Short not_served entered = entered

  -- an item that leads to no work is served as it ends
  pub served_at_once : (m : Machine K) (rest : List (Item K)) (a b : List Entry) (done : State K → List (Item K) → Type 0) (ends : State K → Type 0) (stops : Machine K → Type 0) (word : Word)
      → ((w : State K) (work : List (Item K)) → done w work → (work ≡ []) × ends w)
      → Enters app limits m rest a b done stops word
      → Says app limits m rest a b ends stops word
  served_at_once m rest a b done ends stops Served none entered =
      let end = none entered.0 entered.1 entered.3 in
      record {
        state = entered.0;
        goes = subst (λ (work : List (Item K)). Goes app limits m a b (busy m entered.0 (work ++ rest))) end.0 entered.2;
        ended = end.1;
      }
  served_at_once m rest a b done ends stops (Stopped fault) none entered = entered
  served_at_once m rest a b done ends stops Short none entered = entered
