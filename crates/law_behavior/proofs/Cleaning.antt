-- A removal calls its clean-ups in turn, last made first, and takes children before their parents.
use Rattle.std.proofs.Common.{ℕ, zero, suc, ◌≤◌, Bool, true, false, not, List, [], ◌∷◌, ◌++◌, length, ◌≡◌, refl, sym, ap, ◌∙◌, subst, nat_eq, arith}
use Rattle.std.specs.Prelude.{Option, Some, None, if◌then◌else◌, is_some}
use Rattle.std.proofs.lemmas.List.{append-nil}
use Rattle.rt_lemmas.proofs.Lists.{append_append as joined_twice}
use Rattle.rt_model.specs.Lists.{at, without, kept_by, drop_number}
use Rattle.rt_model.specs.Tree.{Types}
use Rattle.rt_model.specs.World.{clean_up_kind, CallFault, Hook, HookValue, HookEffect, Command, Meaning, Nothing, Application}
use Rattle.rt_model.specs.State.{Woken, Scope, State, Item, Outcome, Done, Cut, changed_scope, height_of, hooks_of, world_of}
use Rattle.rt_model.specs.Commands.{drop_posted, holding, released, end, commands}
use Rattle.rt_model.specs.Run.{fault_of, with_next, called_once, unmarked}
use Rattle.rt_model.specs.Removal.{first_leaf, tasks_in, end_all, clean_ups, gone, stopped, cleaned_in}
use Rattle.rt_model.proofs.Maps.{by_test, at_here, at_there, at_put_here, eq_same}
use Rattle.law_moves.specs.Removals.{children_at, Wooded}
use Rattle.law_moves.proofs.Leaves.{above_all, above_scope, child_falls}
use Rattle.rt_model.specs.Next.{look}
use Rattle.rt_model.specs.Run.{acted}
use Rattle.rt_model.specs.State.{onward, change}
use Rattle.rt_model.specs.Replay.{batch_then}
use Rattle.law_behavior.specs.Batches.{DoneInTurn, EffectsInTurn}
use Rattle.law_behavior.specs.CleanUps.{backwards, clean_ups_among, CalledInTurn, CleanUpsInTurn, ChildrenGoFirst}

module _ {K : Types} where
  -- the definitions' list of clean-ups is the one from the last made to the first
  last_first : (hs : List (Hook K)) (es : List K.Effect) → clean_ups hs es ≡ backwards (clean_ups_among hs) ++ es
  last_first [] es = refl
  last_first (HookValue k v ∷ hs) es = last_first hs es
  last_first (HookEffect k e ∷ hs) es = one (nat_eq k clean_up_kind) (last_first hs (e ∷ es)) (last_first hs es)
    where
      one : (b : Bool) → clean_ups hs (e ∷ es) ≡ backwards (clean_ups_among hs) ++ e ∷ es → clean_ups hs es ≡ backwards (clean_ups_among hs) ++ es
          → clean_ups hs (if b then e ∷ es else es) ≡ backwards (if b then e ∷ clean_ups_among hs else clean_ups_among hs) ++ es
      one true f g = f ∙ sym (joined_twice (backwards (clean_ups_among hs)) (e ∷ []) es)
      one false f g = g

  -- what ends with a scope isn't its hooks

  abbrev hooks_in : Option (Scope K) → List (Hook K)
  hooks_in o = elim o as (λ z. List (Hook K)) [ None ↦ [] | Some x ↦ x.hooks ]

  released_hooks : (es : List (ℕ × Scope K)) (t s : ℕ) → hooks_in (at (released es t) s) ≡ hooks_in (at es s)
  released_hooks [] t s = refl
  released_hooks (e ∷ es) t s =
      by_test (nat_eq e.0 s)
      (
      λ q.
      ap (λ (o : Option (Scope K)). hooks_in o) (at_here e.0 (record (e.1) { holders = kept_by (λ h. not (nat_eq h.0 t)) (e.1).holders }) (released es t) s q)
      ∙ sym (ap (λ (o : Option (Scope K)). hooks_in o) (at_here e.0 e.1 es s q))
      )
      (
      λ q.
      ap (λ (o : Option (Scope K)). hooks_in o) (at_there e.0 (record (e.1) { holders = kept_by (λ h. not (nat_eq h.0 t)) (e.1).holders }) (released es t) s q)
      ∙ released_hooks es t s
      ∙ sym (ap (λ (o : Option (Scope K)). hooks_in o) (at_there e.0 e.1 es s q))
      )

  end_hooks : (w : State K) (t s : ℕ) → hooks_of (end w t) s ≡ hooks_of w s
  end_hooks w t s = on (is_some (at w.tasks t))
    where
      on : (b : Bool) → hooks_of (if b
          then
          record w {
            tasks = without w.tasks t;
            posted = drop_posted w.posted (Woken t) ++ holding w.scopes t;
            queued = drop_number w.queued t;
            scopes = released w.scopes t;
          }
          else w) s ≡ hooks_of w s
      on true = released_hooks w.scopes t s
      on false = refl

  ends_hooks : (ts : List ℕ) (w : State K) (s : ℕ) → hooks_of (end_all w ts) s ≡ hooks_of w s
  ends_hooks [] w s = refl
  ends_hooks (t ∷ ts) w s = ends_hooks ts (end w t) s ∙ end_hooks w t s

  change_hooks : (w : State K) (s : ℕ) (o : Option (Scope K)) → at w.scopes s ≡ o → hooks_of (changed_scope w s (λ x. record x { effects = [] }) o) s ≡ hooks_of w s
  change_hooks w s None e = refl
  change_hooks w s (Some x) e =
      ap (λ (o : Option (Scope K)). hooks_in o) (at_put_here w.scopes s (record x { effects = [] }) s (eq_same s)) ∙ sym (ap (λ (o : Option (Scope K)). hooks_in o) e)

  stopped_hooks : (w : State K) (s : ℕ) → hooks_of (stopped w s) s ≡ hooks_of w s
  stopped_hooks w s =
      let v : State K = unmarked (end_all w (tasks_in s w.tasks)) s in
      change_hooks v s (at v.scopes s) refl ∙ ends_hooks (tasks_in s w.tasks) w s

module _ {K : Types} (app : Application K) where
  -- what a removal in its midst comes to
  record Cleaned (s : ℕ) (w v : State K) (es : List K.Effect) (waiting : List (Command K)) : Type 0 where
    called : State K
    wanted : List (Command K)
    in_turn : CalledInTurn app s w es called wanted
    ends : v ≡ commands app (gone called s) s None (waiting ++ wanted)

  cleans : (s : ℕ) (es : List K.Effect) (w v : State K) (waiting : List (Command K)) (work : List (Item K)) → cleaned_in app true s es w waiting ≡ Done v work → Cleaned s w v es waiting
  cleans s [] w v waiting work h =
      let same : commands app (gone w s) s None waiting ≡ v = cc in
      record {
        called = w;
        wanted = [];
        in_turn = (refl, refl);
        ends = sym same ∙ ap (λ (cs : List (Command K)). commands app (gone w s) s None cs) (sym (append-nil waiting));
      }
  cleans s (e ∷ es) w v waiting work h =
      let m : Meaning K Nothing = app.effect e (world_of (called_once w) s None true) in
      on m refl m.fault refl (λ u cs g. cleans s es u v cs work g) h
    where
      on : (m : Meaning K Nothing) → m ≡ app.effect e (world_of (called_once w) s None true) → (o : Option CallFault) → m.fault ≡ o
          → ((u : State K) (cs : List (Command K)) → cleaned_in app true s es u cs ≡ Done v work → Cleaned s u v es cs)
          → elim o as (λ z. Outcome K) [
            | None ↦ cleaned_in app true s es (with_next (called_once w) m.next) (waiting ++ m.commands)
            | Some f ↦ Cut (with_next (called_once w) m.next) (fault_of f)
          ] ≡ Done v work
          → Cleaned s w v (e ∷ es) waiting
      on m is None none go g =
          let rest : Cleaned s (with_next (called_once w) m.next) v es (waiting ++ m.commands) = go (with_next (called_once w) m.next) (waiting ++ m.commands) g in
          record {
            called = rest.called;
            wanted = m.commands ++ rest.wanted;
            in_turn = (m, is, none, (rest.wanted, refl, rest.in_turn));
            ends = rest.ends ∙ ap (λ (cs : List (Command K)). commands app (gone rest.called s) s None cs) (joined_twice waiting m.commands rest.wanted);
          }
      on m is (Some f) some go g = cc

  pub clean_ups_in_turn : CleanUpsInTurn app
  clean_ups_in_turn w v s work h =
      let u : State K = stopped w s in
      let es : List K.Effect = clean_ups (hooks_of u s) [] in
      let done : Cleaned s u v es [] = cleans s es u v [] work h in
      let same : es ≡ backwards (clean_ups_among (hooks_of w s)) =
      last_first (hooks_of u s) [] ∙ append-nil (backwards (clean_ups_among (hooks_of u s))) ∙ ap (λ (hs : List (Hook K)). backwards (clean_ups_among hs)) (stopped_hooks w s) in
      record {
        called = done.called;
        wanted = done.wanted;
        in_turn = subst (λ (xs : List K.Effect). CalledInTurn app s u xs done.called done.wanted) same done.in_turn;
        ends = done.ends;
      }

module _ {K : Types} (w : State K) (wood : Wooded w) where
  -- as many steps down as scopes are higher come to a scope without children
  leaf_bare : (n s : ℕ) → above_scope w wood s ≤ n → children_at w (first_leaf w n s) ≡ []
  leaf_bare zero s low = on (children_at w s) refl
    where
      on : (cs : List ℕ) → children_at w s ≡ cs → children_at w s ≡ []
      on [] e = e
      on (child ∷ others) e = let less = child_falls w wood s child others e in absurd (omega (arith, low, less))
  leaf_bare (suc n) s low = on (λ child g. leaf_bare n child g) (children_at w s) refl
    where
      on : ((child : ℕ) → above_scope w wood child ≤ n → children_at w (first_leaf w n child) ≡ []) → (cs : List ℕ) → children_at w s ≡ cs
          → children_at w (elim cs as (λ z. ℕ) [ [] ↦ s | t ∷ ts ↦ first_leaf w n t ]) ≡ []
      on go [] e = e
      on go (child ∷ others) e = let less = child_falls w wood s child others e in go child (omega (arith, low, less))

pub children_go_first : (K : Types) → ChildrenGoFirst K
children_go_first K w s wood = leaf_bare w wood (length w.scopes) s (above_all (height_of w.scopes s) w.scopes)

-- batches

module _ {K : Types} (app : Application K) where
  batches : (s : ℕ) (es : List K.Effect) (w v : State K) (work : List (Item K)) → batch_then app (λ u. look u) w s es ≡ Done v work → (u : State K) × DoneInTurn app s w es u × (v ≡ look u)
  batches s [] w v work h = let same : look w ≡ v = cc in (w, refl, sym same)
  batches s (e ∷ es) w v work h = on (acted app w s e false) refl (λ u g. batches s es u v work g) h
    where
      on : (o : Outcome K) → acted app w s e false ≡ o → ((u : State K) → batch_then app (λ x. look x) u s es ≡ Done v work → (z : State K) × DoneInTurn app s u es z × (v ≡ look z))
          → onward o (λ u. batch_then app (λ x. look x) u s es) ≡ Done v work → (z : State K) × DoneInTurn app s w (e ∷ es) z × (v ≡ look z)
      on (Done u done) is go g = let rest = go u g in (rest.0, (u, done, is, rest.1), rest.2)
      on (Cut u fault) is go g = cc

pub effects_in_turn : {K : Types} (app : Application K) → EffectsInTurn app
effects_in_turn {K = K} app w v s x work live h =
    batches app s x.effects (change w s (λ y. record y { effects = [] })) v work
    (
    sym
    (ap (λ (o : Option (Scope K)). batch_then app (λ u. look u) (change w s (λ y. record y { effects = [] })) s (elim o as (λ z. List K.Effect) [ None ↦ [] | Some y ↦ y.effects ])) live)
    ∙ h
    )
