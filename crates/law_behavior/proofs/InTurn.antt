-- A render reruns the seen scopes in their order, but for those that it removes or feeds before their turn.
use Rattle.std.proofs.Common.{ℕ, ◌+◌, ◌⊎◌, inl, inr, Bool, true, false, ◌&&◌, not, List, [], ◌∷◌, ◌≡◌, refl, sym, ap, ◌∙◌, subst, nat_eq}
use Rattle.std.specs.Prelude.{Option, Some, None, is_some, if◌then◌else◌}
use Rattle.std.specs.List.{AllByRecursion}
use Rattle.rt_model.specs.Lists.{drop_number}
use Rattle.rt_model.specs.Tree.{Types}
use Rattle.rt_model.specs.World.{Application}
use Rattle.rt_model.specs.Laws.{IsLawful}
use Rattle.rt_model.specs.Lasting.{IsRooted}
use Rattle.rt_model.specs.State.{Fault, State, Item, Draw, Row, Feed, Make, Drop, Outcome, Done, is_live}
use Rattle.rt_model.specs.Bodies.{NextIs, RerunInTurn, RerunsTheSeen}
use Rattle.rt_model.specs.Next.{Work, RerunScope, PollTask, RunEffects, found, at_rest, next, seen_in_order}
use Rattle.rt_model.specs.Run.{run}
use Rattle.rt_model.specs.Removal.{next_removed, removed}
use Rattle.rt_model.specs.Heard.{Listener}
use Rattle.rt_model.specs.Replay.{Entry, Build, Taken, Heard, Rerun, Poll, Effects, Made, Fed, Kept, Removed, Input, Machine, no_work, no_listener, ended_by, mounted_state, if_live, waiting, one_more_unit, fed_child, keeps, due_item, due_heard, due_work, due, made, with_props, handed, rested, outcome_of, change_by, is_due, accepts, step}
use Rattle.rt_model.specs.Causes.{Limits}
use Rattle.rt_model.specs.Told.{opens}
use Rattle.rt_model.specs.Sentences.{render_ends, EndsAt}
use Rattle.rt_model.proofs.Conjunctions.{and-left}
use Rattle.rt_model.proofs.OneLogOnly.{same_entry-true}
use Rattle.rt_model.proofs.Maps.{pick_true, pick_false}
use Rattle.rt_model.proofs.MachineFrames.{mounted_later}
use Rattle.law_moves.specs.Moves.{Move, Silent, Closed, Logged, entries, moves_alone, IsSettled, AtWork, Leads}
use Rattle.law_moves.proofs.Insides.{live_due, made_due, fed_due}
use Rattle.law_moves.proofs.Items.{due_at_work}
use Rattle.law_moves.proofs.OneMoveOnly.{unsettled}
use Rattle.law_moves.proofs.Everywhere.{ReadyAt, work_state, reached_ready}
use Rattle.law_behavior.specs.Once.{renders, PollsFirst, RerunsInTurn}
use Rattle.law_behavior.proofs.Seen.{Lined}
use Rattle.law_behavior.proofs.Turning.{OnWay, moves_way, reached_lined}
use Rattle.law_behavior.proofs.Entering.{ample}
use Rattle.law_behavior.proofs.Renders.{Accepted, accepted_as, alive_by, accepted}
use Rattle.law_behavior.proofs.Ordering.{after, InOrder, OrderO, ended_order, order_same, height_later, Level, all_any, turn_first, none_left, rerun_order, make_order, kept_order, fed_order, removed_order, silent_order}

module _ {K : Types} (app : Application K) (lawful : IsLawful K app) where
  -- an entry of a render, by what is due
  abbrev Turns : Machine K → Entry → Machine K → Type 0
  Turns m e u = renders e ≡ true → (opens e ≡ true → render_ends m.state ≡ false) → InOrder (after (seen_in_order m.state) e) u

  not_plain : {P : Type 0} (d e : Entry) → e ≡ d → renders e ≡ true → renders d ≡ false → P
  not_plain d e same plain none = let absurdity : true ≡ false = sym plain ∙ ap (λ (x : Entry). renders x) same ∙ none in cc

  unit_turns : (m : Machine K) (o : Option Work) (inputs : List (Input K)) (e : Entry) → if_live m.state (due_work app m o inputs) ≡ Some e
      → Turns m e (change_by app m [] e)
  unit_turns m (Some (RerunScope s)) inputs e due_is =
      let found = live_due app m.state (Rerun s) e due_is in
      subst (λ (x : Entry). Turns m x (change_by app m [] x)) (sym found.0)
      (
      λ plain goes.
      ended_order (drop_number (seen_in_order m.state) s) (one_more_unit (rested app m)) None [] (run app (at_rest m.state) s)
      (rerun_order app lawful m.state s (goes refl) found.1)
      )
  unit_turns m (Some (PollTask t)) inputs e due_is =
      λ plain goes. not_plain (Poll t) e (live_due app m.state (Poll t) e due_is).0 plain refl
  unit_turns m (Some (RunEffects s)) inputs e due_is =
      λ plain goes. not_plain (Effects s) e (live_due app m.state (Effects s) e due_is).0 plain refl
  unit_turns m None [] e due_is = cc
  unit_turns m None (input ∷ more) e due_is =
      λ plain goes. not_plain (Taken (m.taken + 1)) e (live_due app m.state (Taken (m.taken + 1)) e due_is).0 plain refl

  idle_turns : (m : Machine K) (built : Bool) (ls : List (Listener K)) (e : Entry) → if_live m.state (if built then due_heard app m ls else Some Build) ≡ Some e
      → Turns m e (change_by app m [] e)
  idle_turns m true [] e due_is = unit_turns m (next m.state) m.inputs e due_is
  idle_turns m true (l ∷ ls) e due_is = λ plain goes. not_plain (Heard l.origin) e (live_due app m.state (Heard l.origin) e due_is).0 plain refl
  idle_turns m false ls e due_is = λ plain goes. not_plain Build e (live_due app m.state Build e due_is).0 plain refl

  item_turns : (m : Machine K) (item : Item K) (rest : List (Item K)) (e : Entry) → IsRooted m.state → Lined m.state
      → if_live m.state (due_item app m (item ∷ rest)) ≡ Some e → Turns m e (change_by app m (item ∷ rest) e)
  item_turns m (Draw s side p k) rest e rooted h due_is = cc
  item_turns m (Row b row_step_is) rest e rooted h due_is = cc
  item_turns m (Make s side p c) rest e rooted h due_is =
      let found = made_due app m.state (is_live m.state s) m.state.next_scope e due_is in
      let item : Item K = Make s side p c in
      subst (λ (x : Entry). Turns m x (change_by app m (item ∷ rest) x)) (sym found.1)
      (
      λ plain goes.
      ended_order (seen_in_order m.state) m (Some item) rest (made app m.state s side p c) (make_order app lawful m.state s side p c found.0 rooted h)
      )
  item_turns m (Feed s side p c) rest e rooted h due_is =
      let found = fed_due app m.state c (fed_child m.state s side p) e due_is in
      fed_turns found.0 found.1 found.2 found.3 (keeps app m.state found.0 c) refl
    where
      this : Item K
      this = Feed s side p c

      outcome_is : (t : ℕ) → fed_child m.state s side p ≡ Some t → outcome_of app m.state (Feed s side p c) ≡ handed app m.state t c
      outcome_is t is = ap (λ (o : Option ℕ). elim o as (λ z. Outcome K) [ None ↦ Done m.state [] | Some u ↦ handed app m.state u c ]) is

      fed_turns : (t : ℕ) → fed_child m.state s side p ≡ Some t → e ≡ (if keeps app m.state t c then Kept t else Fed t) → is_live m.state t ≡ true
          → (b : Bool) → keeps app m.state t c ≡ b → Turns m e (change_by app m (Feed s side p c ∷ rest) e)
      fed_turns t is named live true keep =
          let entry : e ≡ Kept t = named ∙ pick_true (Kept t) (Fed t) keep in
          subst (λ (x : Entry). Turns m x (change_by app m (Feed s side p c ∷ rest) x)) (sym entry)
          (
          λ plain goes.
          ended_order (seen_in_order m.state) m (Some (Feed s side p c)) rest (outcome_of app m.state (Feed s side p c))
          (subst (λ (o : Outcome K). OrderO (seen_in_order m.state) o)
          (sym (outcome_is t is ∙ pick_true (Done (with_props app m.state t c) []) (run app (with_props app m.state t c) t) keep))
          (kept_order app lawful m.state t c))
          )
      fed_turns t is named live false keep =
          let entry : e ≡ Fed t = named ∙ pick_false (Kept t) (Fed t) keep in
          subst (λ (x : Entry). Turns m x (change_by app m (Feed s side p c ∷ rest) x)) (sym entry)
          (
          λ plain goes.
          ended_order (drop_number (seen_in_order m.state) t) m (Some (Feed s side p c)) rest (outcome_of app m.state (Feed s side p c))
          (subst (λ (o : Outcome K). OrderO (drop_number (seen_in_order m.state) t) o)
          (sym (outcome_is t is ∙ pick_false (Done (with_props app m.state t c) []) (run app (with_props app m.state t c) t) keep))
          (fed_order app lawful m.state t c live))
          )
  item_turns m (Drop t s side) rest e rooted h due_is =
      let l : ℕ = next_removed m.state t in
      let this : Item K = Drop t s side in
      let found = live_due app m.state (Removed l) e due_is in
      let xs : List ℕ = drop_number (seen_in_order m.state) l in
      subst (λ (x : Entry). Turns m x (change_by app m (this ∷ rest) x)) (sym found.0)
      (
      λ plain goes.
      either xs (nat_eq l t) (ended_by m (Some this) rest (removed app m.state l)) (ended_by m (Some this) (this ∷ rest) (removed app m.state l))
      (ended_order xs m (Some this) rest (removed app m.state l) (removed_order app lawful m.state l))
      (ended_order xs m (Some this) (this ∷ rest) (removed app m.state l) (removed_order app lawful m.state l))
      )
    where
      either : (xs : List ℕ) (b : Bool) (x y : Machine K) → InOrder xs x → InOrder xs y → InOrder xs (if b then x else y)
      either xs true x y f g = f
      either xs false x y f g = g

  -- where nothing is built no work is open
  entry_turns : (m : Machine K) (work : List (Item K)) (e : Entry) → m.work ≡ work → (m.work ≡ []) ⊎ AtWork m → m.dead ≡ None → due app m ≡ Some e
      → IsRooted m.state → Lined m.state → Turns m e (change_by app m work e)
  entry_turns m [] e none state alive due_is rooted h =
      idle_turns m m.built (waiting m) e
      (sym
      (ap (λ (o : Option Fault). if_live m.state (elim o as (λ z. Option Entry) [ None ↦ (if m.built then due_item app m m.work else Some Build) | Some fault ↦ None ])) alive
      ∙ ap (λ (items : List (Item K)). if_live m.state (if m.built then due_item app m items else Some Build)) none)
      ∙ due_is)
  entry_turns m (i ∷ rest) e first (inl none) alive due_is rooted h = let absurdity : i ∷ rest ≡ [] = sym first ∙ none in cc
  entry_turns m (i ∷ rest) e first (inr at_work) alive due_is rooted h =
      item_turns m i rest e rooted h (sym (due_at_work app m (i ∷ rest) at_work first) ∙ due_is)

  -- moves without an entry
  tail_order : (xs : List ℕ) (limits : Limits) (moves : List Move) (m v : Machine K) → entries moves ≡ [] → Leads app limits m moves v
      → InOrder xs m → InOrder xs v
  tail_order xs limits [] m v none leads h = subst (λ (x : Machine K). InOrder xs x) (sym leads) h
  tail_order xs limits (Silent ∷ moves) m v none leads h =
      let move = leads.1 in
      let u : Machine K = leads.0 in
      let o : Outcome K = outcome_of app m.state move.item in
      let here : InOrder (seen_in_order m.state) (ended_by m (Some move.item) move.later o) =
      ended_order (seen_in_order m.state) m (Some move.item) move.later o (silent_order app lawful m.state move.item move.silent) in
      let there : InOrder xs (ended_by m (Some move.item) move.later o) = λ alive. here alive ∙ h move.alive in
      tail_order xs limits moves u v none leads.2 (subst (λ (x : Machine K). InOrder xs x) (sym move.gives) there)
  tail_order xs limits (Closed ∷ moves) m v none leads h =
      let move = leads.1 in
      let u : Machine K = leads.0 in
      let w : State K = m.state in
      let x : Machine K = record m { unit = false; state = mounted_state w } in
      let here : InOrder xs x =
      λ alive.
      order_same w (mounted_state w) refl (all_any (λ t. Level w (mounted_state w) t) w.seen (λ t. height_later w (mounted_state w) (mounted_later w) t))
      ∙ h alive in
      tail_order xs limits moves u v none leads.2 (subst (λ (y : Machine K). InOrder xs y) (sym move.gives) here)
  tail_order xs limits (Logged e ∷ moves) m v none leads h = let absurdity : e ∷ entries moves ≡ [] = none in cc

  one_order : (limits : Limits) (moves : List Move) (m u : Machine K) (e : Entry) → m.dead ≡ None → IsSettled m → Leads app limits m moves u
      → entries moves ≡ e ∷ [] → renders e ≡ true → (opens e ≡ true → render_ends m.state ≡ false) → ReadyAt app lawful m → Lined m.state
      → InOrder (after (seen_in_order m.state) e) u
  one_order limits [] m u e alive settled leads same plain goes ready h = cc
  one_order limits (Silent ∷ moves) m u e alive settled leads same plain goes ready h =
      let move = leads.1 in unsettled m (move.item ∷ move.later) alive move.next move.silent settled
  one_order limits (Closed ∷ moves) m u e alive settled leads same plain goes ready h =
      let move = leads.1 in unsettled m [] alive move.idle move.at_work settled
  one_order limits (Logged d ∷ moves) m u e alive settled leads same plain goes ready h =
      let move = leads.1 in
      let z : Machine K = leads.0 in
      let entry : d ≡ e = cc in
      let none : entries moves ≡ [] = cc in
      let due_is : due app m ≡ Some e = move.due_is ∙ ap (λ (x : Entry). Some x) entry in
      let first : InOrder (after (seen_in_order m.state) e) (change_by app m m.work e) =
      entry_turns m m.work e refl (work_state app lawful m m.work refl alive (ready.idle alive)) alive due_is ready.sound.rooted h plain goes in
      tail_order (after (seen_in_order m.state) e) limits moves z u none leads.2
      (subst (λ (x : Machine K). InOrder (after (seen_in_order m.state) e) x)
      (sym (move.gives ∙ ap (λ (x : Entry). change_by app m m.work x) entry)) first)

  -- where a log goes on or ends in quiet the machine is alive
  ends_alive : (test : State K → Bool) (log : List Entry) (m v : Machine K) → EndsAt app test m log v → m.dead ≡ None
  ends_alive test [] m v ends =
      alive_of m.dead (and-left (not (is_some m.dead)) (no_work m.work) (and-left (not (is_some m.dead) && no_work m.work) (no_listener (waiting m)) ends.1))
    where
      alive_of : (o : Option Fault) → not (is_some o) ≡ true → o ≡ None
      alive_of None h = refl
      alive_of (Some fault) h = cc
  ends_alive test (e ∷ log) m v ends =
      let on = ends.1 in
      alive_by app lawful m m.dead e refl (accepted app lawful (is_due app (due app m) e) (step app m e) on.0 on.1).0

  -- a rerun that is due comes next
  rerun_due : (m : Machine K) (s : ℕ) → m.dead ≡ None → due app m ≡ Some (Rerun s) → next m.state ≡ Some (RerunScope s)
  rerun_due m s alive is =
      by_built m.built
      (sym
      (ap (λ (o : Option Fault). if_live m.state (elim o as (λ z. Option Entry) [ None ↦ (if m.built then due_item app m m.work else Some Build) | Some fault ↦ None ])) alive)
      ∙ is)
    where
      by_work : (o : Option Work) (inputs : List (Input K)) → next m.state ≡ o → if_live m.state (due_work app m o inputs) ≡ Some (Rerun s)
          → next m.state ≡ Some (RerunScope s)
      by_work (Some (RerunScope t)) inputs e g =
          let entry = (live_due app m.state (Rerun t) (Rerun s) g).0 in
          let same : s ≡ t = cc in
          e ∙ ap (λ (n : ℕ). Some (RerunScope n)) (sym same)
      by_work (Some (PollTask t)) inputs e g = let entry = (live_due app m.state (Poll t) (Rerun s) g).0 in cc
      by_work (Some (RunEffects t)) inputs e g = let entry = (live_due app m.state (Effects t) (Rerun s) g).0 in cc
      by_work None [] e g = cc
      by_work None (input ∷ more) e g = let entry = (live_due app m.state (Taken (m.taken + 1)) (Rerun s) g).0 in cc

      by_heard : (ls : List (Listener K)) → if_live m.state (due_heard app m ls) ≡ Some (Rerun s) → next m.state ≡ Some (RerunScope s)
      by_heard [] g = by_work (next m.state) m.inputs refl g
      by_heard (l ∷ ls) g = let entry = (live_due app m.state (Heard l.origin) (Rerun s) g).0 in cc

      by_fed : (t : ℕ) (b : Bool) → Rerun s ≡ (if b then Kept t else Fed t) → next m.state ≡ Some (RerunScope s)
      by_fed t true g = cc
      by_fed t false g = cc

      by_item : (work : List (Item K)) → if_live m.state (due_item app m work) ≡ Some (Rerun s) → next m.state ≡ Some (RerunScope s)
      by_item [] g = by_heard (waiting m) g
      by_item (Draw t side p k ∷ rest) g = cc
      by_item (Row b row_step_is ∷ rest) g = cc
      by_item (Make t side p c ∷ rest) g = let entry = (made_due app m.state (is_live m.state t) m.state.next_scope (Rerun s) g).1 in cc
      by_item (Feed t side p c ∷ rest) g =
          let found = fed_due app m.state c (fed_child m.state t side p) (Rerun s) g in by_fed found.0 (keeps app m.state found.0 c) found.2
      by_item (Drop t u side ∷ rest) g = let entry = (live_due app m.state (Removed (next_removed m.state t)) (Rerun s) g).0 in cc

      by_built : (b : Bool) → if_live m.state (if b then due_item app m m.work else Some Build) ≡ Some (Rerun s) → next m.state ≡ Some (RerunScope s)
      by_built true g = by_item m.work g
      by_built false g = let entry = (live_due app m.state Build (Rerun s) g).0 in cc

  record Next (m u : Machine K) (e : Entry) : Type 0 where
    settled : IsSettled u
    way : OnWay app lawful u
    turns : renders e ≡ true → (opens e ≡ true → render_ends m.state ≡ false) → InOrder (after (seen_in_order m.state) e) u

  next_of : (m u : Machine K) (e : Entry) → IsSettled m → OnWay app lawful m → accepts app m e ≡ Some u → Next m u e
  next_of m u e settled way acc =
      let is : Accepted app lawful m u e = accepted_as app lawful m u e settled acc in
      record {
        settled = is.settled;
        way = moves_way app lawful (ample m) is.moves m u is.leads way;
        turns = λ plain goes. one_order (ample m) is.moves m u e is.alive settled is.leads is.same plain goes way.ready (way.lined is.alive);
      }

  due_is_of : (o : Option Entry) (s : ℕ) → is_due app o (Rerun s) ≡ true → o ≡ Some (Rerun s)
  due_is_of None s h = cc
  due_is_of (Some d) s h = ap (λ (x : Entry). Some x) (same_entry-true d (Rerun s) h)

  one_machine : (u v : Machine K) → Some u ≡ Some v → u ≡ v
  one_machine u v h = cc

  -- from a rerun on the seen scopes come in their order
  in_turn : (log : List Entry) (m v : Machine K) → IsSettled m → OnWay app lawful m → EndsAt app (λ (w : State K). render_ends w) m log v
      → AllByRecursion (λ (e : Entry). renders e ≡ true) log → RerunInTurn (seen_in_order m.state) log
  in_turn [] m v settled way ends plain = none_left m.state ends.2
  in_turn (e ∷ log) m v settled way ends plain =
      let on = ends.1 in
      let u : Machine K = on.0 in
      let n : Next m u e = next_of m u e settled way on.1 in
      let alive : u.dead ≡ None = ends_alive (λ (w : State K). render_ends w) log u v on.2 in
      let rest : RerunInTurn (after (seen_in_order m.state) e) log =
      subst (λ (xs : List ℕ). RerunInTurn xs log) (n.turns plain.0 ends.0 alive) (in_turn log u v n.settled n.way on.2 plain.1) in
      by e ends.0 on.1 plain.0 rest
    where
      xs : List ℕ
      xs = seen_in_order m.state

      -- what is rerun comes next
      rerun_next : (n : Machine K) (s : ℕ) → n.dead ≡ None → is_due app (due app n) (Rerun s) ≡ true → next n.state ≡ Some (RerunScope s)
      rerun_next n s alive is = rerun_due n s alive (due_is_of (due app n) s is)

      by : (d : Entry) → (opens d ≡ true → render_ends m.state ≡ false) → accepts app m d ≡ Some ends.1.0 → renders d ≡ true
          → RerunInTurn (after (seen_in_order m.state) d) log → RerunInTurn (seen_in_order m.state) (d ∷ log)
      by (Rerun s) goes acc q rest =
          let is : Accepted app lawful m ends.1.0 (Rerun s) = accepted_as app lawful m ends.1.0 (Rerun s) settled acc in
          let first : seen_in_order m.state ≡ s ∷ drop_number (seen_in_order m.state) s =
          turn_first m.state s (rerun_next m s is.alive (accepted app lawful (is_due app (due app m) (Rerun s)) (step app m (Rerun s)) ends.1.0 acc).0)
          (goes refl) (way.lined is.alive) in
          subst (λ (ys : List ℕ). NextIs s ys (λ (left : List ℕ). RerunInTurn left log)) (sym first) (refl, rest)
      by (Fed t) goes acc q rest = rest
      by (Removed t) goes acc q rest = rest
      by (Made t) goes acc q rest = rest
      by (Kept t) goes acc q rest = rest
      by Build goes acc q rest = let absurdity : false ≡ true = q in cc
      by (Taken k) goes acc q rest = let absurdity : false ≡ true = q in cc
      by (Heard t) goes acc q rest = let absurdity : false ≡ true = q in cc
      by (Poll t) goes acc q rest = let absurdity : false ≡ true = q in cc
      by (Effects t) goes acc q rest = let absurdity : false ≡ true = q in cc

  -- up to the first rerun, and from there
  reruns_on : (log : List Entry) (m v : Machine K) → IsSettled m → OnWay app lawful m → EndsAt app (λ (w : State K). render_ends w) m log v
      → AllByRecursion (λ (e : Entry). renders e ≡ true) log → RerunsTheSeen app m log
  reruns_on [] m v settled way ends plain = tt
  reruns_on (e ∷ log) m v settled way ends plain =
      by (let n : Next m ends.1.0 e = next_of m ends.1.0 e settled way ends.1.1 in reruns_on log ends.1.0 v n.settled n.way ends.1.2 plain.1) e refl plain.0
    where
      further : RerunsTheSeen app ends.1.0 log → (d : Entry) → e ≡ d → (u : Machine K) → accepts app m d ≡ Some u → RerunsTheSeen app u log
      further rest d is u acc =
          let same : ends.1.0 ≡ u = one_machine ends.1.0 u (sym ends.1.1 ∙ ap (λ (x : Entry). accepts app m x) is ∙ acc) in
          subst (λ (x : Machine K). RerunsTheSeen app x log) same rest

      by : RerunsTheSeen app ends.1.0 log → (d : Entry) → e ≡ d → renders d ≡ true → RerunsTheSeen app m (d ∷ log)
      by rest (Rerun s) is q =
          subst (λ (x : Entry). RerunInTurn (seen_in_order m.state) (x ∷ log)) is (in_turn (e ∷ log) m v settled way ends plain)
      by rest (Fed t) is q = further rest (Fed t) is
      by rest (Removed t) is q = further rest (Removed t) is
      by rest (Made t) is q = further rest (Made t) is
      by rest (Kept t) is q = further rest (Kept t) is
      by rest Build is q = let absurdity : false ≡ true = q in cc
      by rest (Taken k) is q = let absurdity : false ≡ true = q in cc
      by rest (Heard t) is q = let absurdity : false ≡ true = q in cc
      by rest (Poll t) is q = let absurdity : false ≡ true = q in cc
      by rest (Effects t) is q = let absurdity : false ≡ true = q in cc

  polls_on : (log : List Entry) (m v : Machine K) → IsSettled m → OnWay app lawful m → EndsAt app (λ (w : State K). render_ends w) m log v
      → PollsFirst log → RerunsTheSeen app m log
  polls_on [] m v settled way ends plain = tt
  polls_on (Poll t ∷ log) m v settled way ends plain =
      λ u acc.
      let same : ends.1.0 ≡ u = one_machine ends.1.0 u (sym ends.1.1 ∙ acc) in
      let n : Next m ends.1.0 (Poll t) = next_of m ends.1.0 (Poll t) settled way ends.1.1 in
      subst (λ (x : Machine K). RerunsTheSeen app x log) same (polls_on log ends.1.0 v n.settled n.way ends.1.2 plain)
  polls_on (Build ∷ log) m v settled way ends plain = reruns_on (Build ∷ log) m v settled way ends plain
  polls_on (Taken k ∷ log) m v settled way ends plain = reruns_on (Taken k ∷ log) m v settled way ends plain
  polls_on (Heard s ∷ log) m v settled way ends plain = reruns_on (Heard s ∷ log) m v settled way ends plain
  polls_on (Rerun s ∷ log) m v settled way ends plain = reruns_on (Rerun s ∷ log) m v settled way ends plain
  polls_on (Effects s ∷ log) m v settled way ends plain = reruns_on (Effects s ∷ log) m v settled way ends plain
  polls_on (Made s ∷ log) m v settled way ends plain = reruns_on (Made s ∷ log) m v settled way ends plain
  polls_on (Fed s ∷ log) m v settled way ends plain = reruns_on (Fed s ∷ log) m v settled way ends plain
  polls_on (Kept s ∷ log) m v settled way ends plain = reruns_on (Kept s ∷ log) m v settled way ends plain
  polls_on (Removed s ∷ log) m v settled way ends plain = reruns_on (Removed s ∷ log) m v settled way ends plain

pub reruns_in_turn : {K : Types} (app : Application K) → RerunsInTurn app
reruns_in_turn app lawful limits props inputs m v log reached rest ends plain =
    let ready : ReadyAt app lawful m = reached_ready app lawful limits props inputs m reached in
    let settled : IsSettled m =
    ap (λ (o : Option Fault). moves_alone o m.work m.unit) rest.alive ∙ ap (λ (items : List (Item _)). moves_alone None items m.unit) rest.idle ∙ rest.unit in
    polls_on app lawful log m v settled (record { ready = ready; lined = λ alive. reached_lined app lawful limits props inputs m reached alive }) ends plain
