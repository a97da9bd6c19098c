-- In a completed render that polls no task after its first rerun no body runs twice.
use Rattle.std.proofs.Common.{ℕ, ◌+◌, ◌≤◌, Bool, true, false, List, [], ◌∷◌, ◌++◌, ◌≡◌, refl, sym, ap, ◌∙◌, subst, arith}
use Rattle.std.specs.Prelude.{Option, Some, None, if◌then◌else◌}
use Rattle.std.specs.List.{AllByRecursion}
use Rattle.rt_model.specs.Lists.{at}
use Rattle.rt_model.specs.Tree.{Types}
use Rattle.rt_model.specs.World.{Application}
use Rattle.rt_model.specs.Laws.{IsLawful}
use Rattle.rt_model.specs.State.{Fault, State, Item, Draw, Row, Feed, Make, Drop, Outcome}
use Rattle.rt_model.specs.Next.{at_rest, look}
use Rattle.rt_model.specs.Commands.{unqueued}
use Rattle.rt_model.specs.Replay.{Entry, Build, Taken, Heard, Rerun, Poll, Effects, Made, Fed, Kept, Removed, Machine, ended_by, mounted_state, if_live, one_more_unit, due_item, due, polled, rested, change_by, step, settled as settled_machine, rows_left, is_due, accepts}
use Rattle.rt_model.specs.Causes.{Limits, accepts_within, replay_within}
use Rattle.rt_model.specs.Told.{opens, count_entries}
use Rattle.rt_model.specs.Sentences.{runs, NoBodyTwice, render_ends, call_begun, EndsAt}
use Rattle.rt_model.proofs.MachineFrames.{mounted_later}
use Rattle.rt_model.proofs.RunFrames.{later_same}
use Rattle.rt_model.proofs.StepFrames.{follows_later, look_same}
use Rattle.rt_model.proofs.SideRuns.{mounted_stay, look_stay}
use Rattle.rt_model.proofs.Turns.{stay_stands}
use Rattle.rt_model.proofs.NumbersRun.{Idle, polled_idle}
use Rattle.law_moves.specs.Moves.{Move, Silent, Closed, Logged, entries, moves_alone, IsSettled, AtRest, Leads}
use Rattle.law_moves.proofs.OneMoveOnly.{unsettled}
use Rattle.law_moves.proofs.Fuel.{fuel_suffices}
use Rattle.law_moves.proofs.Logs.{logs_are_moves}
use Rattle.law_moves.proofs.Woven.{Woven, woven_same}
use Rattle.law_moves.proofs.Opens.{calm_twigs}
use Rattle.law_moves.proofs.Everywhere.{ReadyAt, work_state, move_ready, reached_ready}
use Rattle.law_behavior.specs.Once.{renders, PollsFirst, RendersOnce, RendersOnceFrom}
use Rattle.law_behavior.proofs.Since.{Since, calm_since}
use Rattle.law_behavior.proofs.NoneAgain.{fades_same, SinceOn, ended_since, silent_since}
use Rattle.law_behavior.proofs.Entering.{nobody, After, Runs, ran_before, ran_now, ample, ample_fits, logged_runs}

module _ {K : Types} (app : Application K) (lawful : IsLawful K app) where
  -- moves without an entry
  tail_since : (some : ℕ → Type 0) (limits : Limits) (moves : List Move) (m v : Machine K) → entries moves ≡ [] → Leads app limits m moves v → ReadyAt app lawful m → SinceOn app lawful some some m → SinceOn app lawful some some v × ReadyAt app lawful v
  tail_since some limits [] m v none leads ready h = subst (λ (z : Machine K). SinceOn app lawful some some z × ReadyAt app lawful z) (sym leads) (h, ready)
  tail_since some limits (Silent ∷ moves) m v none leads ready h =
      let move = leads.1 in
      let u : Machine K = leads.0 in
      let w : State K = m.state in
      let next_ready : ReadyAt app lawful u = move_ready app lawful limits m u Silent move ready in
      let now : Woven w (move.item ∷ move.later) = subst (λ (items : List (Item K)). Woven w items) move.next (ready.woven move.alive) in
      let since : Since some w (move.item ∷ move.later) = subst (λ (items : List (Item K)). Since some w items) move.next (h move.alive) in
      let after : SinceOn app lawful some some u =
      subst (λ (z : Machine K). SinceOn app lawful some some z) (sym move.gives)
      (silent_since app lawful some m move.item move.later move.silent since now (subst (λ (z : Machine K). ReadyAt app lawful z) move.gives next_ready)) in
      tail_since some limits moves u v none leads.2 next_ready after
  tail_since some limits (Closed ∷ moves) m v none leads ready h =
      let move = leads.1 in
      let u : Machine K = leads.0 in
      let w : State K = m.state in
      let y : State K = mounted_state w in
      let next_ready : ReadyAt app lawful u = move_ready app lawful limits m u Closed move ready in
      let after : SinceOn app lawful some some u =
      subst (λ (z : Machine K). SinceOn app lawful some some z) (sym move.gives)
      (λ still. calm_since some w y m.work (calm_twigs w y (mounted_stay w) (mounted_later w)) (fades_same w y refl) (omega arith) (h move.alive)) in
      tail_since some limits moves u v none leads.2 next_ready after
  tail_since some limits (Logged e ∷ moves) m v none leads ready h = let absurdity : e ∷ entries moves ≡ [] = none in cc

  -- what is known after an entry is accepted
  record Stepped (ran : ℕ → Type 0) (e : Entry) (u : Machine K) : Type 0 where
    since : SinceOn app lawful (After ran e) (After ran e) u
    ready : ReadyAt app lawful u
    new : (t : ℕ) → runs t e ≡ true → ran t → ⊥

  from_moves : (ran : ℕ → Type 0) (limits : Limits) (moves : List Move) (m u : Machine K) (e : Entry) → m.dead ≡ None → IsSettled m → Leads app limits m moves u → entries moves ≡ e ∷ [] → renders e ≡ true → (opens e ≡ true → render_ends m.state ≡ false)
      → Since ran m.state m.work → ReadyAt app lawful m
      → Stepped ran e u
  from_moves ran limits [] m u e alive settled leads same plain goes_on h ready = cc
  from_moves ran limits (Silent ∷ moves) m u e alive settled leads same plain goes_on h ready = let move = leads.1 in unsettled m (move.item ∷ move.later) alive move.next move.silent settled
  from_moves ran limits (Closed ∷ moves) m u e alive settled leads same plain goes_on h ready = let move = leads.1 in unsettled m [] alive move.idle move.at_work settled
  from_moves ran limits (Logged d ∷ moves) m u e alive settled leads same plain goes_on h ready =
      let move = leads.1 in
      let z : Machine K = leads.0 in
      let entry : d ≡ e = cc in
      let none : entries moves ≡ [] = cc in
      let next_ready : ReadyAt app lawful z = move_ready app lawful limits m z (Logged d) move ready in
      let first : Runs app lawful ran d (change_by app m m.work d) =
      logged_runs app lawful ran m m.work d refl alive (work_state app lawful m m.work refl alive (ready.idle alive)) settled move.due_is (ap (λ (x : Entry). renders x) entry ∙ plain) (λ q. goes_on (sym (ap (λ (x : Entry). opens x) entry) ∙ q)) h ready
      (subst (λ (y : Machine K). ReadyAt app lawful y) move.gives next_ready) in
      let before : SinceOn app lawful (After ran d) (After ran d) z = subst (λ (y : Machine K). SinceOn app lawful (After ran d) (After ran d) y) (sym move.gives) first.0 in
      let after = tail_since (After ran d) limits moves z u none leads.2 next_ready before in
      subst (λ (x : Entry). Stepped ran x u) entry (record { since = after.0; ready = after.1; new = first.1 })

  pub accepted : (b : Bool) (x u : Machine K) → (if b then Some x else None) ≡ Some u → (b ≡ true) × (x ≡ u)
  accepted true x u h = (refl, cc)
  accepted false x u h = cc

  pub alive_by : (m : Machine K) (o : Option Fault) (e : Entry) → m.dead ≡ o → is_due app (due app m) e ≡ true → m.dead ≡ None
  alive_by m None e is h = is
  alive_by m (Some fault) e is h =
      let none : due app m ≡ None = ap (λ (o : Option Fault). if_live m.state (elim o as (λ z. Option Entry) [ None ↦ (if m.built then due_item app m m.work else Some Build) | Some f ↦ None ])) is in
      let absurdity : false ≡ true = sym (ap (λ (o : Option Entry). is_due app o e) none) ∙ h in
      cc

  -- what an accepted entry gives: moves that leave it alone in the log
  pub record Accepted (m u : Machine K) (e : Entry) : Type 0 where
    pub alive : m.dead ≡ None
    pub moves : List Move
    pub leads : Leads app (ample m) m moves u
    pub same : entries moves ≡ e ∷ []
    pub settled : IsSettled u

  pub accepted_as : (m u : Machine K) (e : Entry) → IsSettled m → accepts app m e ≡ Some u → Accepted m u e
  accepted_as m u e settled acc =
      let is = accepted (is_due app (due app m) e) (step app m e) u acc in
      let alive = alive_by m m.dead e refl is.0 in
      let within : accepts_within app (ample m) m e ≡ Some u =
      ap (λ (o : Option Fault). elim o as (λ z. Option (Machine K)) [ None ↦ accepts app m e | Some fault ↦ None ]) (ample_fits m alive) ∙ acc in
      let found = logs_are_moves app (ample m) m u (e ∷ []) settled (ap (λ (o : Option (Machine K)). replay_within app (ample m) o []) within) in
      let quiet : IsSettled (settled_machine app (change_by app m m.work e)) = settled_is (change_by app m m.work e) in
      record { alive = alive; moves = found.0; leads = found.1; same = found.2; settled = subst (λ (y : Machine K). IsSettled y) is.1 quiet }
    where
      settled_is : (z : Machine K) → IsSettled (settled_machine app z)
      settled_is z = let n : ℕ = rows_left z.work in (fuel_suffices app n n z (omega arith) (omega arith)).1

  one_entry : (ran : ℕ → Type 0) (m u : Machine K) (e : Entry) → IsSettled m → accepts app m e ≡ Some u → renders e ≡ true → (opens e ≡ true → render_ends m.state ≡ false) → SinceOn app lawful ran ran m → ReadyAt app lawful m
      → Stepped ran e u × IsSettled u
  one_entry ran m u e settled acc plain goes_on h ready =
      let is : Accepted m u e = accepted_as m u e settled acc in
      (from_moves ran (ample m) is.moves m u e is.alive settled is.leads is.same plain goes_on (h is.alive) ready, is.settled)

  counted : (ran : ℕ → Type 0) (e : Entry) (log : List Entry) (s : ℕ) (b : Bool) → runs s e ≡ b → (runs s e ≡ true → ran s → ⊥) → (After ran e s → count_entries (λ x. runs s x) log ≡ 0) × (count_entries (λ x. runs s x) log ≤ 1)
      → (ran s → (if b then 1 else 0) + count_entries (λ x. runs s x) log ≡ 0) × ((if b then 1 else 0) + count_entries (λ x. runs s x) log ≤ 1)
  counted ran e log s true is new later =
      let none = later.0 (ran_now ran e s is) in
      ((λ r. absurd (new is r)), omega (arith, none))
  counted ran e log s false is new later =
      let few = later.1 in
      ((λ r. let none = later.0 (ran_before ran e s r) in omega (arith, none)), omega (arith, few))

  once_on : (ran : ℕ → Type 0) (log : List Entry) (m v : Machine K) → IsSettled m → SinceOn app lawful ran ran m → ReadyAt app lawful m → EndsAt app (λ (w : State K). render_ends w) m log v → AllByRecursion (λ (e : Entry). renders e ≡ true) log
      → (s : ℕ) → (ran s → count_entries (λ x. runs s x) log ≡ 0) × (count_entries (λ x. runs s x) log ≤ 1)
  once_on ran [] m v settled h ready ends plain s = ((λ r. refl), omega arith)
  once_on ran (e ∷ log) m v settled h ready ends plain s =
      let on = ends.1 in
      let u : Machine K = on.0 in
      let next_one = one_entry ran m u e settled on.1 plain.0 ends.0 h ready in
      let after = next_one.0 in
      let later = once_on (After ran e) log u v next_one.1 after.since after.ready on.2 plain.1 s in
      let all = counted ran e log s (runs s e) refl (after.new s) later in
      all

  -- a look at rest
  look_ready : (m : Machine K) → ReadyAt app lawful m → ReadyAt app lawful (call_begun m)
  look_ready m ready =
      let w : State K = m.state in
      let v : State K = look w in
      let later = later_same w v (look_same w.next.tasks w) in
      record {
        sound =
            record {
              rooted = (follows_later w v later).rooted ready.sound.rooted;
              stands = λ alive. stay_stands w v m.work (look_stay w) (ready.sound.stands alive);
              awaits = λ alive. ready.sound.awaits alive;
            };
        idle = λ alive. record { holds = tt; idle = (ready.idle alive).idle };
        woven = λ alive. woven_same w v (calm_twigs w v (look_stay w) later) m.work (ready.woven alive);
      }

  begins : (w : State K) → Since nobody w []
  begins w =
      record {
        unseen = λ u r. absurd r;
        unfed = λ u s a p c r e kid. r;
        unturned = λ u b step a r i g j turn. r;
        above = λ u p r i. absurd r;
        owners = λ j e. absurd e;
        drawn = λ u r. absurd r;
        line = tt;
      }

  -- a poll opens no work, so it leaves all as at a look
  poll_change : (m : Machine K) (work : List (Item K)) (t : ℕ) → change_by app m work (Poll t) ≡ ended_by (one_more_unit (rested app m)) None [] (polled app (at_rest m.state) t)
  poll_change m [] t = refl
  poll_change m (Draw s a p k ∷ rest) t = refl
  poll_change m (Row b step ∷ rest) t = refl
  poll_change m (Feed s a p c ∷ rest) t = refl
  poll_change m (Make s a p c ∷ rest) t = refl
  poll_change m (Drop u s a ∷ rest) t = refl

  poll_moves : (limits : Limits) (moves : List Move) (m u : Machine K) (t : ℕ) → m.dead ≡ None → IsSettled m → Leads app limits m moves u → entries moves ≡ Poll t ∷ [] → ReadyAt app lawful m
      → SinceOn app lawful nobody nobody u × ReadyAt app lawful u
  poll_moves limits [] m u t alive settled leads same ready = cc
  poll_moves limits (Silent ∷ moves) m u t alive settled leads same ready = let move = leads.1 in unsettled m (move.item ∷ move.later) alive move.next move.silent settled
  poll_moves limits (Closed ∷ moves) m u t alive settled leads same ready = let move = leads.1 in unsettled m [] alive move.idle move.at_work settled
  poll_moves limits (Logged d ∷ moves) m u t alive settled leads same ready =
      let move = leads.1 in
      let z : Machine K = leads.0 in
      let entry : d ≡ Poll t = cc in
      let none : entries moves ≡ [] = cc in
      let w : State K = at_rest m.state in
      let o : Outcome K = polled app w t in
      let next_ready : ReadyAt app lawful z = move_ready app lawful limits m z (Logged d) move ready in
      let is : z ≡ ended_by (one_more_unit (rested app m)) None [] o = move.gives ∙ ap (λ (x : Entry). change_by app m m.work x) entry ∙ poll_change m m.work t in
      let idle : Idle o = polled_idle app lawful (unqueued w t) t (at w.tasks t) in
      let before : SinceOn app lawful nobody nobody z =
      subst (λ (y : Machine K). SinceOn app lawful nobody nobody y) (sym is)
      (ended_since app lawful nobody nobody (one_more_unit (rested app m)) None [] o (subst (λ (y : Machine K). ReadyAt app lawful y) is next_ready)
      (
      λ v work e woven knows.
      let nothing : work ≡ [] = subst (λ (x : Outcome K). Idle x) e idle in
      subst (λ (xs : List (Item K)). Since nobody v (xs ++ [])) (sym nothing) (begins v)
      )) in
      tail_since nobody limits moves z u none leads.2 next_ready before

  polls_count : (s t : ℕ) (log : List Entry) → count_entries (λ x. runs s x) log ≤ 1 → count_entries (λ x. runs s x) (Poll t ∷ log) ≤ 1
  polls_count s t log few = omega (arith, few)

  first_on : (log : List Entry) (m v : Machine K) → IsSettled m → SinceOn app lawful nobody nobody m → ReadyAt app lawful m → EndsAt app (λ (w : State K). render_ends w) m log v → PollsFirst log → (s : ℕ) → count_entries (λ x. runs s x) log ≤ 1
  first_on [] m v settled h ready ends plain s = omega arith
  first_on (Poll t ∷ log) m v settled h ready ends plain s =
      let on = ends.1 in
      let u : Machine K = on.0 in
      let is : Accepted m u (Poll t) = accepted_as m u (Poll t) settled on.1 in
      let after = poll_moves (ample m) is.moves m u t is.alive settled is.leads is.same ready in
      polls_count s t log (first_on log u v is.settled after.0 after.1 on.2 plain s)
  first_on (Build ∷ log) m v settled h ready ends plain s = (once_on nobody (Build ∷ log) m v settled h ready ends plain s).1
  first_on (Taken k ∷ log) m v settled h ready ends plain s = (once_on nobody (Taken k ∷ log) m v settled h ready ends plain s).1
  first_on (Heard k ∷ log) m v settled h ready ends plain s = (once_on nobody (Heard k ∷ log) m v settled h ready ends plain s).1
  first_on (Rerun k ∷ log) m v settled h ready ends plain s = (once_on nobody (Rerun k ∷ log) m v settled h ready ends plain s).1
  first_on (Effects k ∷ log) m v settled h ready ends plain s = (once_on nobody (Effects k ∷ log) m v settled h ready ends plain s).1
  first_on (Made k ∷ log) m v settled h ready ends plain s = (once_on nobody (Made k ∷ log) m v settled h ready ends plain s).1
  first_on (Fed k ∷ log) m v settled h ready ends plain s = (once_on nobody (Fed k ∷ log) m v settled h ready ends plain s).1
  first_on (Kept k ∷ log) m v settled h ready ends plain s = (once_on nobody (Kept k ∷ log) m v settled h ready ends plain s).1
  first_on (Removed k ∷ log) m v settled h ready ends plain s = (once_on nobody (Removed k ∷ log) m v settled h ready ends plain s).1

  -- from a machine at rest
  from_rest : (m v : Machine K) (log : List Entry) → ReadyAt app lawful m → AtRest m → EndsAt app (λ (w : State K). render_ends w) m log v → PollsFirst log → NoBodyTwice log
  from_rest m v log ready rest ends plain s =
      let settled : IsSettled m =
      ap (λ (o : Option Fault). moves_alone o m.work m.unit) rest.alive ∙ ap (λ (items : List (Item K)). moves_alone None items m.unit) rest.idle ∙ rest.unit in
      let h : SinceOn app lawful nobody nobody m = λ alive. subst (λ (items : List (Item K)). Since nobody m.state items) (sym rest.idle) (begins m.state) in
      first_on log m v settled h ready ends plain s

  pub no_body_twice_of : (m v : Machine K) (log : List Entry) → ReadyAt app lawful m → AtRest m → EndsAt app (λ (w : State K). render_ends w) (call_begun m) log v → PollsFirst log → NoBodyTwice log
  no_body_twice_of m v log ready rest ends plain =
      from_rest (call_begun m) v log (look_ready m ready) (record { alive = rest.alive; idle = rest.idle; unit = rest.unit }) ends plain

pub no_body_twice : {K : Types} (app : Application K) → RendersOnce app
no_body_twice app lawful limits props inputs m v log reached rest ends plain =
    no_body_twice_of app lawful m v log (reached_ready app lawful limits props inputs m reached) rest ends plain

pub no_body_twice_from : {K : Types} (app : Application K) → RendersOnceFrom app
no_body_twice_from app lawful limits props inputs m v log reached rest ends plain =
    from_rest app lawful m v log (reached_ready app lawful limits props inputs m reached) rest ends plain
