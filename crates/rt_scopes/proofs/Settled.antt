-- What a body's call left, taken on.
use Rattle.std.proofs.Common.{◌≡◌, ℕ, ◌++◌, ◌&&◌, true, false, List, [], ◌∷◌, map, Option, Some, None, Result, Ok, Err, refl, ap, sym, subst, ◌∙◌}
use Rattle.std.specs.Prelude.{◌≢◌, is_some, option_map}
use Rattle.rt_cells.specs.declared.sources.Source.{Source}
use Rattle.tree_nodes.specs.declared.error.RenderError.{RenderError}
use Rattle.tree_nodes.specs.declared.error.RenderError.TheVariants as errors
use Rattle.tree_nodes.specs.declared.vnode.VNode.{VNode}
use Rattle.rt_model.specs.OneLog.{types}
use Rattle.rt_model.specs.Lists.{at}
use Rattle.rt_model.specs.Tree as tree
use Rattle.rt_model.specs.World as model
use Rattle.rt_model.specs.World.{Application, CallFault}
use Rattle.rt_model.specs.State as state
use Rattle.rt_model.specs.State.{Outcome, Done, Cut, BadNode, change, world_of}
use Rattle.rt_model.specs.Commands.{commands}
use Rattle.rt_model.specs.Run as run
use Rattle.rt_model.specs.Run.{also_read, answer_fits, answered_with, body_of, call_body, called_once, called_where, caught, is_own, kept_call, output_of, plain, with_next}
use Rattle.tree_mirror.specs.Mirror.{error_of}
use Rattle.tree_mirror.specs.Mirror as mirror
use Rattle.tree_mirror.specs.Sealed.{element_of, tree_of}
use Rattle.run_records.specs.Records as calls
use Rattle.run_records.specs.Records.{command_of, firsts_of, gathered, in_front, newest_first, source_of}
use Rattle.author_calls.specs.Calls.{meaning_of, refusal_of}
use Rattle.run_records.specs.Kept.{scope_of}
use Rattle.author_calls.specs.Turn as left
use Rattle.author_calls.specs.Turn.{Call, HadMemory, begun}
use Rattle.run_records.specs.World.{CallWorld}
use Rattle.run_records.specs.declared.faults.CxFault.{CxFault}
use Rattle.run_records.specs.declared.faults.CxFault.TheVariants as refusals
use Rattle.run_records.specs.declared.rest.Scope.{Scope}
use Rattle.author_calls.specs.declared.turn.TurnParts.{TurnParts}
use Rattle.run_records.proofs.Gathered.{gathered-more, gathered-none}
use Rattle.run_state.proofs.Each.{at-each}
use Rattle.run_state.specs.declared.names.Cause.TheVariants as faults
use Rattle.run_state.specs.declared.names.Stop.{Stop}
use Rattle.run_state.specs.declared.names.Stop.TheVariants as stops
use Rattle.run_state.specs.declared.state.State as code
use Rattle.run_state.specs.Mirror.{Unkept, counts, recalls, state_of}
use Rattle.rt_scopes.specs.Counts.{CountsOn, RaisesWhere, raised_where}
use Rattle.rt_scopes.specs.Bodies.{Answered, Leaves, Settles, answer_in, error_kept, handled_by, meaning_left, plain_left}
use Rattle.rt_scopes.specs.Outcomes.{stop_of}
use Rattle.rt_scopes.proofs.Counted.{counted_after}
use Rattle.rt_scopes.proofs.Onward.{refused}

module _ {P C Q V H T E L : Type 0} (app : Application (types C Q V H T E L)) (d : code.State P C Q V H T E L) (s : ℕ) (parts : TurnParts P (Result (VNode P C Q V H T E L) RenderError) C Q V H T E L) where
  -- what was taken on from each state of the model, with no call
  abbrev Taken : code.State P C Q V H T E L → Result (tree.Element (types C Q V H T E L)) Stop → Type 0
  Taken new result =
      (g : Unkept (types C Q V H T E L)) (world : model.World (types C Q V H T E L)) (aside : List model.Source)
      → (h : Unkept (types C Q V H T E L))
      × ((then_on : state.State (types C Q V H T E L) → tree.Element (types C Q V H T E L) → Outcome (types C Q V H T E L)) → Answered (answered_with app (state_of g d) s world then_on (meaning_left parts aside)) then_on (state_of h new) result)
      × (h.calls ≡ g.calls)

  -- whether or not the application was called
  pub owned : (new : code.State P C Q V H T E L) (result : Result (tree.Element (types C Q V H T E L)) Stop) → Taken new result → Settles app d s parts new result
  owned new result taken g true world aside = taken (counts g) world aside
  owned new result taken g false world aside = taken g world aside

  -- the call that is kept
  abbrev kept_as : Unkept (types C Q V H T E L) → model.World (types C Q V H T E L) → List model.Source → state.LastCall (types C Q V H T E L)
  kept_as g world aside = record { given = world; aside = aside; answer = element_of parts.answer; before = output_of (state_of g d) s }

  kept_stands : (mid v : code.State P C Q V H T E L) (g : Unkept (types C Q V H T E L)) (world : model.World (types C Q V H T E L)) (aside : List model.Source)
      → mid ≡ record d { next = parts.next }
      → ((g : Unkept (types C Q V H T E L)) → state_of g v ≡ change (state_of g mid) s (λ x. record x { reads = newest_first source_of parts.reads }))
      → state_of (recalls g s (kept_as g world aside)) v ≡ kept_call (state_of g d) s world (meaning_left parts aside)
  kept_stands mid v g world aside moved reads =
      ap (λ (w : state.State (types C Q V H T E L)). run.with_last_call w s (kept_as g world aside))
      (reads g ∙ ap (λ (x : code.State P C Q V H T E L). change (state_of g x) s (λ x. record x { reads = newest_first source_of parts.reads })) moved)

  -- it met a refusal
  pub taken_no : (mid : code.State P C Q V H T E L) (refusal : CxFault) (stop : Stop)
      → parts.fault ≡ Some refusal → mid ≡ record d { next = parts.next } → stop ≡ stop_of refusal → Taken mid (Err stop)
  taken_no mid refusal stop some moved is g world aside = (
    g,
    λ then_on.
        refused (answered_with app (state_of g d) s world then_on (meaning_left parts aside)) (state_of g mid) refusal stop is
        (λ f not_memory fault.
        let met : refusal_of parts.fault ≡ Some f = ap refusal_of some ∙ fault in
        rw met (ap (λ (x : code.State P C Q V H T E L). Cut (state_of g x) (run.fault_of f)) (sym moved))),
    refl,
  )

  -- its tree failed the node test
  pub taken_bad : (mid v : code.State P C Q V H T E L)
      → parts.fault ≡ None → mid ≡ record d { next = parts.next }
      → ((g : Unkept (types C Q V H T E L)) → state_of g v ≡ change (state_of g mid) s (λ x. record x { reads = newest_first source_of parts.reads }))
      → answer_fits (element_of parts.answer) ≡ false
      → Taken v (Err (stops.Fault (faults.BadNode s)))
  taken_bad mid v none moved reads bad g world aside = (
    recalls g s (kept_as g world aside),
    λ then_on.
        let stands = kept_stands mid v g world aside moved reads in
        let met : refusal_of parts.fault ≡ None = ap refusal_of none in
        rw (met, bad) (ap (λ w. Cut w (BadNode s)) (sym stands)),
    refl,
  )

  -- its commands were done
  pub taken_ok : (mid v new : code.State P C Q V H T E L)
      → parts.fault ≡ None → mid ≡ record d { next = parts.next }
      → ((g : Unkept (types C Q V H T E L)) → state_of g v ≡ change (state_of g mid) s (λ x. record x { reads = newest_first source_of parts.reads }))
      → answer_fits (element_of parts.answer) ≡ true
      → ((g : Unkept (types C Q V H T E L)) → state_of g new ≡ commands app (state_of g v) s None (map command_of parts.commands))
      → Taken new (Ok (element_of parts.answer))
  taken_ok mid v new none moved reads good done g world aside = (
    recalls g s (kept_as g world aside),
    λ then_on.
        let stands = done (recalls g s (kept_as g world aside)) ∙ ap (λ w. commands app w s None (map command_of parts.commands)) (kept_stands mid v g world aside moved reads) in
        let met : refusal_of parts.fault ≡ None = ap refusal_of none in
        rw (met, good) (ap (λ w. then_on w (element_of parts.answer)) (sym stands)),
    refl,
  )

module _ {P C Q V H T E L : Type 0} (app : Application (types C Q V H T E L)) (d new : code.State P C Q V H T E L) (s : ℕ) (c : tree.VComponent (types C Q V H T E L)) where
  -- a call of a body came to its answer, and to this count
  abbrev AnswersTo : ℕ → ℕ → Result (Result (VNode P C Q V H T E L) RenderError) Stop → Unkept (types C Q V H T E L) → Type 0
  AnswersTo old count result kept =
      (h : Unkept (types C Q V H T E L))
      × ((then_on : state.State (types C Q V H T E L) → tree.Element (types C Q V H T E L) → Outcome (types C Q V H T E L)) → Answered (call_body app (state_of kept d) s c then_on) then_on (state_of h new) (answer_in result))
      × CountsOn old kept.calls count h.calls result

  -- a body was called, and what that left was taken on
  pub answers_by : (old mid count : ℕ) (parts : TurnParts P (Result (VNode P C Q V H T E L) RenderError) C Q V H T E L) (result : Result (Result (VNode P C Q V H T E L) RenderError) Stop)
      → Leaves (body_of app c) d s parts
      → RaisesWhere (is_own c) d s old mid
      → Settles app d s parts new (answer_in result)
      → count ≡ mid
      → (parts.fault ≡ Some refusals.OutOfMemory → result ≡ Err stops.OutOfMemory)
      → (kept : Unkept (types C Q V H T E L)) → AnswersTo old count result kept
  answers_by old mid count parts result leaves raises settles stays memory kept = by_fault parts.fault refl
    where
      had_it : (parts.fault ≢ Some refusals.OutOfMemory) → AnswersTo old count result kept
      had_it had =
          let world : model.World (types C Q V H T E L) = world_of (state_of kept d) s None true in
          let means = leaves had kept in
          let taken = settles kept (is_own c world) world means.0 in (
            taken.0,
            λ then_on.
                subst (λ (x : model.Meaning (types C Q V H T E L) (tree.Element (types C Q V H T E L))). Answered (answered_with app (called_where (is_own c world) (state_of kept d)) s world then_on x) then_on (state_of taken.0 new) (answer_in result)) means.1 (taken.1 then_on),
            counted_after (is_own c world) old mid count (taken.0).calls kept result (raises kept) stays taken.2,
          )

      by_fault : (f : Option CxFault) → parts.fault ≡ f → AnswersTo old count result kept
      by_fault None e = had_it (λ wanting. cc)
      by_fault (Some refusals.OutOfMemory) e = (
        kept,
        λ then_on.
            subst (λ (r : Result (Result (VNode P C Q V H T E L) RenderError) Stop). Answered (call_body app (state_of kept d) s c then_on) then_on (state_of kept new) (answer_in r)) (sym (memory e)) tt,
        subst (λ (r : Result (Result (VNode P C Q V H T E L) RenderError) Stop). CountsOn old kept.calls count kept.calls r) (sym (memory e)) tt,
      )
      by_fault (Some (refusals.IdsExhausted what)) e = had_it (λ wanting. cc)
      by_fault (Some (refusals.HookChanged scope index was asked)) e = had_it (λ wanting. cc)

module _ {P C Q V H T E L : Type 0} where
  -- an answer at the mirror, its tree in one word or not
  sealed_answer : (answer : Result (VNode P C Q V H T E L) RenderError) → element_of answer ≡ mirror.element_of answer
  unfolding tree_of
  sealed_answer (Ok t) = refl
  sealed_answer (Err (errors.Error e)) = refl
  sealed_answer (Err (errors.Suspended f)) = refl

  -- a call of the application left this
  pub leaves_call : (body : model.World (types C Q V H T E L) → model.Meaning (types C Q V H T E L) (tree.Element (types C Q V H T E L))) (d : code.State P C Q V H T E L) (s : ℕ)
      (parts : TurnParts P (Result (VNode P C Q V H T E L) RenderError) C Q V H T E L) (m : left.Meaning P C Q V H T E L (Result (VNode P C Q V H T E L) RenderError)) (cx : Call P C Q V H T E L) (seen : CallWorld P C Q V H T E L)
      → cx ≡ begun true seen
      → ((g : Unkept (types C Q V H T E L)) → calls.world_of seen ≡ world_of (state_of g d) s None true)
      → (HadMemory m → meaning_of mirror.element_of m ≡ body (calls.world_of cx.world))
      → parts.answer ≡ m.answer → parts.reads ≡ m.reads → parts.commands ≡ m.commands → parts.next ≡ m.next → parts.fault ≡ m.fault
      → Leaves body d s parts
  leaves_call body d s parts m cx seen begins world means answer reads given next fault had kept = (
    newest_first source_of m.aside,
    (λ i. record { answer = (ap element_of answer ∙ sealed_answer m.answer) i; reads = newest_first source_of (reads i); aside = newest_first source_of m.aside; commands = map command_of (given i); next = firsts_of (next i); fault = refusal_of (fault i) })
        ∙ means (λ (wanting : m.fault ≡ Some refusals.OutOfMemory). had (fault ∙ wanting))
        ∙ ap (λ (c : Call P C Q V H T E L). body (calls.world_of c.world)) begins
        ∙ ap body (world kept),
  )

  -- an answer for which nothing was called
  pub leaves_plain : (d : code.State P C Q V H T E L) (s : ℕ) (answer : Result (VNode P C Q V H T E L) RenderError) (parts : TurnParts P (Result (VNode P C Q V H T E L) RenderError) C Q V H T E L) (e : tree.Element (types C Q V H T E L))
      → parts ≡ plain_left d.next answer → element_of answer ≡ e → Leaves (λ w. plain w [] e) d s parts
  leaves_plain d s answer parts e is same had kept = (
    [],
    ap (λ (x : TurnParts P (Result (VNode P C Q V H T E L) RenderError) C Q V H T E L). meaning_left x []) is
        ∙ (λ i. record { answer = same i; reads = gathered-none (in_front source_of) [] i; aside = []; commands = []; next = firsts_of d.next; fault = None }),
  )

  -- the error that a boundary keeps is what its body sees
  error_seen : (o : Option (Scope P C Q V H T E L)) → elim (option_map scope_of o) [ None ↦ None | Some x ↦ x.error ] ≡ option_map error_of (error_kept o)
  error_seen None = refl
  error_seen (Some x) = refl

module _ {K : tree.Types} where
  -- a suspense boundary's fallback is the application's own where it is a component
  pub own_fallback : (children : tree.Element K) (fallback : Option (K.Component × K.Props)) (w : model.World K)
      → is_some fallback ≡ is_own (tree.SuspenseBoundary children fallback) w
  own_fallback children None w = refl
  own_fallback children (Some f) w = refl

  -- an error boundary's body is the application's own where it has a handler and keeps an error
  own_handler : {X : Type 0} (children : tree.Element K) (handler : Option (K.Component × K.Props)) (w : model.World K) (f : X → tree.CapturedError) (o : Option X)
      → option_map f o ≡ w.values.error w.given.scope
      → is_some o && is_some handler ≡ is_own (tree.ErrorBoundary children handler) w
  own_handler children None w f None same = refl
  own_handler children None w f (Some x) same = refl
  own_handler children (Some h) w f None same = ap is_some same
  own_handler children (Some h) w f (Some x) same = ap is_some same

module _ {K : tree.Types} (app : Application K) where
  -- an error boundary's body reads the error that it keeps
  caught_as : (children : tree.Element K) (handler : Option (K.Component × K.Props)) (o : Option tree.CapturedError) (w : model.World K)
      → also_read (model.Error w.given.scope) (handled_by app children handler o w) ≡ caught app children handler w o
  caught_as children handler None w = refl
  caught_as children None (Some e) w = refl
  caught_as children (Some h) (Some e) w = refl

module _ {P C Q V H T E L : Type 0} where
  -- the world has the error that a boundary keeps
  error_in : (d : code.State P C Q V H T E L) (s : ℕ) (kept : Unkept (types C Q V H T E L))
      → option_map error_of (error_kept (at (d.rows).table s)) ≡ (world_of (state_of kept d) s None true).values.error s
  error_in d s kept =
      sym (ap (λ (x : Option (state.Scope (types C Q V H T E L))). elim x [ None ↦ None | Some y ↦ y.error ]) (at-each scope_of (d.rows).table s) ∙ error_seen (at (d.rows).table s))

  -- an error boundary's handler is called where it has one and keeps an error
  pub raises_handler : (d : code.State P C Q V H T E L) (s old new : ℕ) (children : tree.Element (types C Q V H T E L)) (handler : Option (C × Q))
      → new ≡ raised_where (is_some (error_kept (at (d.rows).table s)) && is_some handler) old
      → RaisesWhere (is_own (tree.ErrorBoundary children handler)) d s old new
  raises_handler d s old new children handler raised kept =
      raised
      ∙ ap (λ own. raised_where own old)
      (own_handler children handler (world_of (state_of kept d) s None true) error_of (error_kept (at (d.rows).table s)) (error_in d s kept))

  -- that read is put after the others
  pub leaves_caught : (app : Application (types C Q V H T E L)) (d : code.State P C Q V H T E L) (s : ℕ) (parts more : TurnParts P (Result (VNode P C Q V H T E L) RenderError) C Q V H T E L)
      (source : Source) (children : tree.Element (types C Q V H T E L)) (handler : Option (C × Q))
      → more ≡ record parts { reads = parts.reads ++ source ∷ [] }
      → source_of source ≡ model.Error s
      → Leaves (handled_by app children handler (option_map error_of (error_kept (at (d.rows).table s)))) d s parts
      → Leaves (body_of app (tree.ErrorBoundary children handler)) d s more
  leaves_caught app d s parts more source children handler is error leaves had kept =
      let means = leaves (λ (wanting : parts.fault ≡ Some refusals.OutOfMemory). had (ap (λ (x : TurnParts P (Result (VNode P C Q V H T E L) RenderError) C Q V H T E L). x.fault) is ∙ wanting)) kept in
      let world : model.World (types C Q V H T E L) = world_of (state_of kept d) s None true in
      let o : Option tree.CapturedError = option_map error_of (error_kept (at (d.rows).table s)) in (
        means.0,
        ap (λ (x : TurnParts P (Result (VNode P C Q V H T E L) RenderError) C Q V H T E L). meaning_left x means.0) is
            ∙ ap (λ (xs : List model.Source). record (meaning_left parts means.0) { reads = xs }) (gathered-more (in_front source_of) parts.reads source [])
            ∙ ap (λ (x : model.Source). record (meaning_left parts means.0) { reads = x ∷ newest_first source_of parts.reads }) error
            ∙ ap (λ (m : model.Meaning (types C Q V H T E L) (tree.Element (types C Q V H T E L))). also_read (model.Error s) m) means.1
            ∙ caught_as app children handler o world
            ∙ ap (λ (e : Option tree.CapturedError). caught app children handler world e)
            (error_in d s kept),
      )
