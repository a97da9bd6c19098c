-- What the runtime noted is accepted, and two logs that are accepted begin alike.
use Rattle.std.proofs.Common.{ℕ, ◌+◌, ◌≤◌, Bool, true, false, ◌&&◌, nat_eq, ◌⊎◌, inl, inr, List, [], ◌∷◌, ◌++◌, ◌≡◌, refl, sym, ap, ◌∙◌, subst, length, take, append_assoc, append-nil, arith}
use Rattle.std.specs.Prelude.{Option, Some, None, if◌then◌else◌, nat_lt}
use Rattle.std.proofs.Math.Seq.{take-append_seam}
use Rattle.std.proofs.lemmas.List.{take_all}
use Rattle.rt_lemmas.proofs.Options.{some_same as some_is}
use Rattle.rt_model.specs.Document as doc
use Rattle.rt_model.specs.OneLog.{types}
use Rattle.rt_model.specs.Tree.{Types}
use Rattle.rt_model.specs.World.{Application}
use Rattle.rt_model.specs.State as model
use Rattle.rt_model.specs.Replay as replay
use Rattle.rt_model.specs.Lists.{first_of}
use Rattle.rt_model.specs.Next.{owes}
use Rattle.rt_model.specs.Replay.{Entry, Input, Machine, is_quiet, rows_left, settled, step, due, is_due, replay_on}
use Rattle.rt_model.specs.Causes.{Limits, depth_refused, next_height, turns_refused, refusal}
use Rattle.rt_model.proofs.OneLogOnly.{is_due-same, fork}
use Rattle.rt_model.proofs.ToldReplayed.{replay-append, within-replays}
use Rattle.law_moves.specs.Moves.{Move, Logged, entries, IsSettled, Leads}
use Rattle.law_moves.proofs.Acceptance.{moves_are_accepted}
use Rattle.law_moves.proofs.Fuel.{fuel_suffices}
use Rattle.law_moves.proofs.Joins.{entries-append, Leads-append}
use Rattle.law_moves.proofs.Logs.{settles}
use Rattle.law_moves.proofs.Settles.{settled_stays}
use Rattle.law_moves.specs.Underway.{Rests, Works, Refused}
use Rattle.run_state.specs.Names.{fault_of}
use Rattle.run_state.specs.declared.names.Cause.{Cause}
use Rattle.run_state.specs.declared.names.Cause.TheVariants as faults
use Rattle.run_machine.specs.Machines.{machine_of, noted, first_in}
use Rattle.run_machine.specs.Stands.{Going, StandsFor, StandsAt, Settled}
use Rattle.run_machine.specs.declared.machine.Machine.{Machine as Code}
use Rattle.rt_audit.specs.Fronts.{IsFront}
use Rattle.rt_audit.proofs.Fronts.{none_front}

module _ {K : Types} (app : Application K) where
  -- a log is accepted from a machine on
  pub record Takes (from : Machine K) (log : List Entry) : Type 0 where
    pub last : Machine K
    pub accepted : replay_on app (Some from) log ≡ Some last

  -- two of them begin alike: one is a front of the other
  pub alike : (a b : List Entry) (m u v : Machine K) → replay_on app (Some m) a ≡ Some u → replay_on app (Some m) b ≡ Some v → IsFront a b ⊎ IsFront b a
  alike [] b m u v h k = inl (none_front b)
  alike (d ∷ a) [] m u v h k = inr (none_front (d ∷ a))
  alike (d ∷ a) (e ∷ b) m u v h k =
      let f = fork app (is_due app (due app m) d) (step app m d) a u h in
      let g = fork app (is_due app (due app m) e) (step app m e) b v k in
      let same : d ≡ e = is_due-same app (due app m) d e f.0 g.0 in
      let on = subst (λ (x : Entry). replay_on app (Some (step app m x)) b ≡ Some v) (sym same) g.1 in
      elim (alike a b (step app m d) u v f.1 on) [
        | inl x ↦ inl (record { rest = x.rest; is = ap (λ (l : List Entry). e ∷ l) x.is ∙ ap (λ (y : Entry). y ∷ (a ++ x.rest)) (sym same) })
        | inr x ↦ inr (record { rest = x.rest; is = ap (λ (l : List Entry). d ∷ l) x.is ∙ ap (λ (y : Entry). y ∷ (b ++ x.rest)) same })
      ]

  -- so are what follows the same entries
  alike_behind : (opened a b : List Entry) (m u v : Machine K) → replay_on app (Some m) (opened ++ a) ≡ Some u → replay_on app (Some m) (opened ++ b) ≡ Some v → IsFront a b ⊎ IsFront b a
  alike_behind [] a b m u v h k = alike a b m u v h k
  alike_behind (e ∷ opened) a b m u v h k =
      let f = fork app (is_due app (due app m) e) (step app m e) (opened ++ a) u h in
      let g = fork app (is_due app (due app m) e) (step app m e) (opened ++ b) v k in
      alike_behind opened a b (step app m e) u v f.1 g.1

  -- so what was compared of one before is right of the other, too
  pub still_front : (from : Machine K) (opened old new list : List Entry) → Takes from (opened ++ old) → Takes from (opened ++ new)
      → IsFront old list
      → IsFront (take (length old) new) list
  still_front from opened old new list h k front =
      elim (alike_behind opened old new from h.last k.last h.accepted k.accepted) [
        | inl x ↦ subst (λ (l : List Entry). IsFront l list) (sym (ap (λ (l : List Entry). take (length old) l) x.is ∙ take-append_seam old x.rest)) front
        | inr x ↦
            let short : length new ≤ length old = shorter new x.rest old x.is in
            subst (λ (l : List Entry). IsFront l list) (sym (take_all (length old) new short))
            (record { rest = x.rest ++ front.rest; is = front.is ∙ ap (λ (l : List Entry). l ++ front.rest) x.is ∙ append_assoc new x.rest front.rest })
      ]
    where
      long : (xs ys : List Entry) → length xs ≤ length (xs ++ ys)
      long [] ys = omega arith
      long (x ∷ xs) ys = let more = long xs ys in omega (arith, more)

      shorter : (xs ys zs : List Entry) → zs ≡ xs ++ ys → length xs ≤ length zs
      shorter xs ys zs is = let count = ap (λ (l : List Entry). length l) is in let more = long xs ys in omega (arith, count, more)

module _ {K : Types} (app : Application K) (limits : Limits) (props : K.Props) (inputs : List (Input K)) where
  -- at rest
  pub rests_taken : (from m : Machine K) (log : List Entry) (edits : List doc.Edit) → Rests app limits props inputs from log edits m
      → replay_on app (Some from) log ≡ Some m
  rests_taken from m log edits h = within-replays app limits log from m h.so.accepted

  -- up to a refusal
  pub refused_taken : (from : Machine K) (log : List Entry) (edits : List doc.Edit) (fault : model.Fault)
      → (r : Refused app limits props inputs from log edits fault)
      → replay_on app (Some from) log ≡ Some (r.last).machine
  refused_taken from log edits fault r = within-replays app limits log from (r.last).machine r.so.accepted

  -- in the midst of a unit: up to where the machine settles
  pub works_taken : (from m : Machine K) (log : List Entry) (edits : List doc.Edit) (w : model.State K) (first : Entry)
      → Works app limits props inputs from log edits w first m
      → replay_on app (Some from) log ≡ Some (settled app m)
  works_taken from m log edits w first h =
      let t : Machine K = (h.told).machine in
      let u : Machine K = h.begun in
      let v : Machine K = settled app m in
      let quiet = settles app limits m in
      let moves : List Move = h.goes.moves ++ quiet.moves in
      let leads : Leads app limits t (Logged first ∷ moves) v =
      (u, h.logged, Leads-append app limits h.goes.moves quiet.moves u m v h.goes.leads quiet.leads) in
      let still : IsSettled v = (fuel_suffices app (rows_left m.work) (rows_left m.work) m (omega arith) (omega arith)).1 in
      let unit : replay_on app (Some (settled app t)) (first ∷ entries moves) ≡ Some v = (moves_are_accepted app limits t v (Logged first ∷ moves) leads still).1 in
      let more : entries moves ≡ h.more =
      entries-append h.goes.moves quiet.moves
      ∙ ap (λ (l : List Entry). entries h.goes.moves ++ l) quiet.none
      ∙ append-nil (entries h.goes.moves)
      ∙ sym h.goes.logged in
      ap (λ (l : List Entry). replay_on app (Some from) l) h.log_is
      ∙ replay-append app h.earlier (first ∷ h.more) (Some from)
      ∙ ap (λ (o : Option (Machine K)). replay_on app o (first ∷ h.more)) (within-replays app limits h.earlier from t h.so.accepted)
      ∙ ap (λ (x : Machine K). replay_on app (Some x) (first ∷ h.more)) (sym (settled_stays app t h.logged.settled))
      ∙ ap (λ (l : List Entry). replay_on app (Some (settled app t)) (first ∷ l)) (sym more)
      ∙ unit

module _ {P C Q V H T E L : Type 0} (app : Application (types C Q V H T E L)) (limits : Limits) (r : Going (types C Q V H T E L)) where
  stands_for : (o : Option Entry) (edits : List doc.Edit) (d : Code P C Q V H T E L) → StandsFor app limits r o edits d → Takes app r.from (r.opened ++ noted d)
  stands_for None edits d s =
      record {
        last = machine_of s.0 r.left r.taken d;
        accepted = rests_taken app limits r.props r.inputs r.from (machine_of s.0 r.left r.taken d) (r.opened ++ noted d) edits s.1;
      }
  stands_for (Some first) edits d s =
      record {
        last = settled app (machine_of s.0 r.left r.taken d);
        accepted = works_taken app limits r.props r.inputs r.from (machine_of s.0 r.left r.taken d) (r.opened ++ noted d) edits s.1 first s.2;
      }

  -- wherever a report stands
  pub stands_taken : (edits : List doc.Edit) (d : Code P C Q V H T E L) → StandsAt app limits r edits d → Takes app r.from (r.opened ++ noted d)
  stands_taken edits d s = stands_for (first_in d) edits d s

  -- where nothing is left to do
  pub rest_taken : (edits : List doc.Edit) (d : Code P C Q V H T E L) → (s : Settled app limits r edits d)
      → replay_on app (Some r.from) (r.opened ++ noted d) ≡ Some s.last
  rest_taken edits d s = rests_taken app limits r.props r.inputs r.from s.last (r.opened ++ noted d) edits s.rests

-- a fault that isn't one of the limits ended the run
pub record IsOwn (fault : model.Fault) : Type 0 where
  pub deep : (height : ℕ) → fault ≡ model.TooDeep height → ⊥
  pub spent : (units : ℕ) → fault ≡ model.OutOfTurns units → ⊥

not_deep : (limits : Limits) (o : Option ℕ) (fault : model.Fault) → IsOwn fault → depth_refused limits o ≡ Some fault → ⊥
not_deep limits None fault own h = cc
not_deep limits (Some height) fault own h = by (nat_lt limits.height height) h
  where
    by : (b : Bool) → (if b then Some (model.TooDeep height) else None) ≡ Some fault → ⊥
    by true q = own.deep height (sym (some_is (model.TooDeep height) fault q))
    by false q = cc

module _ {K : Types} (limits : Limits) where
  not_spent : (m : Machine K) (fault : model.Fault) → IsOwn fault → turns_refused limits m ≡ Some fault → ⊥
  not_spent m fault own h = by (m.built && is_quiet m && nat_eq m.units limits.units && owes m.state) h
    where
      by : (b : Bool) → (if b then Some (model.OutOfTurns limits.units) else None) ≡ Some fault → ⊥
      by true q = own.spent limits.units (sym (some_is (model.OutOfTurns limits.units) fault q))
      by false q = cc

  -- such a fault ended the run
  pub own_dead : (m : Machine K) (fault : model.Fault) → IsOwn fault → refusal limits m ≡ Some fault → m.dead ≡ Some fault
  own_dead m fault own h = by m.dead refl h
    where
      later : (o : Option model.Fault) → depth_refused limits (next_height m) ≡ o → first_of o (turns_refused limits m) ≡ Some fault → ⊥
      later None is q = not_spent m fault own q
      later (Some f) is q = not_deep limits (next_height m) fault own (is ∙ q)

      by : (o : Option model.Fault) → m.dead ≡ o → first_of o (first_of (depth_refused limits (next_height m)) (turns_refused limits m)) ≡ Some fault → m.dead ≡ Some fault
      by (Some f) is q = is ∙ q
      by None is q = absurd (later (depth_refused limits (next_height m)) refl q)

-- the faults of the run itself are such
pub owns : (what : Cause) → IsOwn (fault_of what)
owns (faults.IdsExhausted what) = record { deep = λ n h. cc; spent = λ n h. cc }
owns (faults.HookChanged scope index kept asked) = record { deep = λ n h. cc; spent = λ n h. cc }
owns (faults.NoSuchTask scope task) = record { deep = λ n h. cc; spent = λ n h. cc }
owns (faults.BadNode scope) = record { deep = λ n h. cc; spent = λ n h. cc }
