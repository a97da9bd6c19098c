-- Commands leave what scopes provide of kinds that none of them provides.
use Rattle.std.proofs.Common.{ℕ, Bool, true, false, not, ◌&&◌, List, [], ◌∷◌, ◌++◌, ◌≡◌, refl, sym, ap, ◌∙◌, nat_eq}
use Rattle.std.specs.Prelude.{Option, Some, None, if◌then◌else◌, is_some}
use Rattle.std.specs.List.{AllByRecursion}
use Rattle.std.proofs.lemmas.Bool.{eqb-true}
use Rattle.rt_model.specs.Commands.{post, tell, released, holding, drop_posted, end, written_at, caught_at, thrown_to, cleared_at, activated, spawned, registered, frozen_at, one_more_source, change_context, provided_at, provide_context, command, commands}
use Rattle.rt_model.specs.Lists.{at, put, without, kept_by, drop_number}
use Rattle.rt_model.specs.State.{Posted, Mark, Woken, Scope, CellRow, ContextRow, TaskRow, Isomorphic, ClientOnly, State, changed_scope, change, is_live, error_context, suspense_context}
use Rattle.rt_model.specs.Tree.{Types, CapturedError}
use Rattle.rt_model.specs.World.{Source, Cell, Error, Context, Command, KeepHook, NewCell, Write, DropCell, NewContext, Reset, ReadInto, Spawn, RemoveFuture, Wake, SetActive, QueueEffect, Provide, Update, Throw, ClearErrors, Resolved, Freeze, Application}
use Rattle.rt_model.proofs.Maps.{by_test, at_here, at_there, at_put_here, at_put_other}
use Rattle.author_programs.specs.Kinds.{Kinds, is_among, IsWithin}
use Rattle.author_programs.proofs.Apart.{commands-within, other-kind}
use Rattle.law_behavior.proofs.Readers.{post_posts, tell_posts}
use Rattle.law_kinds.specs.OtherKinds.{CommandsKeepOthers, ProgramsKeepOthers}

module _ {K : Types} (kind t : ℕ) where
  -- what a scope provides of the kind
  abbrev in_row : Option (Scope K) → Option K.Value
  in_row o = elim o as (λ z. Option K.Value) [ None ↦ None | Some x ↦ at x.contexts kind ]

  abbrev Provided : State K → Option K.Value
  Provided w = in_row (at w.scopes t)

  by_scopes : (w v : State K) → v.scopes ≡ w.scopes → Provided v ≡ Provided w
  by_scopes w v same = ap (λ (es : List (ℕ × Scope K)). in_row (at es t)) same

  told : (w : State K) (i : Source) → Provided (tell w i) ≡ Provided w
  told w i = by_scopes w (tell w i) (ap (λ (x : State K). x.scopes) (tell_posts w i).alike)

  posted : (w : State K) (p : Posted) → Provided (post w p) ≡ Provided w
  posted w p = by_scopes w (post w p) (ap (λ (x : State K). x.scopes) (post_posts w p).alike)

  one_of : (w x y : State K) (b : Bool) → Provided x ≡ Provided w → Provided y ≡ Provided w → Provided (if b then x else y) ≡ Provided w
  one_of w x y true f g = f
  one_of w x y false f g = g

  -- another row of a scope, which provides the same of the kind
  put_row : (es : List (ℕ × Scope K)) (s : ℕ) (x y : Scope K) → at es s ≡ Some x → at y.contexts kind ≡ at x.contexts kind → in_row (at (put es s y) t) ≡ in_row (at es t)
  put_row es s x y is keeps =
      by_test (nat_eq s t)
      (
      λ q.
      ap (λ (o : Option (Scope K)). in_row o) (at_put_here es s y t q)
      ∙ keeps
      ∙ sym (ap (λ (o : Option (Scope K)). in_row o) is)
      ∙ ap (λ (n : ℕ). in_row (at es n)) (eqb-true s t q)
      )
      (λ q. ap (λ (o : Option (Scope K)). in_row o) (at_put_other es s y t q))

  changed : (w : State K) (s : ℕ) (f : Scope K → Scope K) → ((x : Scope K) → at (f x).contexts kind ≡ at x.contexts kind) → Provided (change w s f) ≡ Provided w
  changed w s f keeps = on (at w.scopes s) refl
    where
      on : (o : Option (Scope K)) → at w.scopes s ≡ o → Provided (changed_scope w s f o) ≡ Provided w
      on None is = refl
      on (Some x) is = put_row w.scopes s x (f x) is (keeps x)

  -- boundaries that a task held
  released_rows : (es : List (ℕ × Scope K)) (task : ℕ) → in_row (at (released es task) t) ≡ in_row (at es t)
  released_rows [] task = refl
  released_rows (e ∷ es) task =
      let y : Scope K = record (e.1) { holders = kept_by (λ h. not (nat_eq h.0 task)) (e.1).holders } in
      by_test (nat_eq e.0 t)
      (
      λ q.
      ap (λ (o : Option (Scope K)). in_row o) (at_here e.0 y (released es task) t q)
      ∙ sym (ap (λ (o : Option (Scope K)). in_row o) (at_here e.0 e.1 es t q))
      )
      (
      λ q.
      ap (λ (o : Option (Scope K)). in_row o) (at_there e.0 y (released es task) t q)
      ∙ released_rows es task
      ∙ sym (ap (λ (o : Option (Scope K)). in_row o) (at_there e.0 e.1 es t q))
      )

  ended : (w : State K) (task : ℕ) → Provided (end w task) ≡ Provided w
  ended w task =
      one_of w
      (record w {
        tasks = without w.tasks task;
        posted = drop_posted w.posted (Woken task) ++ holding w.scopes task;
        queued = drop_number w.queued task;
        scopes = released w.scopes task;
      })
      w (is_some (at w.tasks task)) (released_rows w.scopes task) refl

  sources_changed : (w : State K) (n : ℕ) (f : ContextRow K → ContextRow K) → Provided (change_context w n f) ≡ Provided w
  sources_changed w n f = on (at w.contexts n)
    where
      on : (o : Option (ContextRow K)) → Provided (elim o as (λ z. State K) [ None ↦ w | Some x ↦ record w { contexts = put w.contexts n (f x) } ]) ≡ Provided w
      on None = refl
      on (Some x) = refl

  wrote : (w : State K) (n : ℕ) (v : K.Value) (o : Option (CellRow K)) → Provided (written_at w n v o) ≡ Provided w
  wrote w n v None = refl
  wrote w n v (Some old) = told (record w { cells = put w.cells n (record old { value = v }) }) (Cell n)

  paused_or_not : (w : State K) (task : ℕ) (active : Bool) (o : Option (TaskRow K)) → Provided (activated w task active o) ≡ Provided w
  paused_or_not w task active None = refl
  paused_or_not w task active (Some x) =
      let v : State K = record w { tasks = put w.tasks task (record x { active = active }) } in
      one_of w (post v (Woken task)) v (active && not x.active) (posted v (Woken task)) refl

  caught : (w : State K) (e : CapturedError) (b : ℕ) (o : Option CapturedError) → Provided (caught_at w e b o) ≡ Provided w
  caught w e b (Some old) = refl
  caught w e b None =
      told (change w b (λ x. record x { error = Some e })) (Error b) ∙ changed w b (λ x. record x { error = Some e }) (λ x. refl)

  thrown : (w : State K) (e : CapturedError) (o : Option ℕ) → Provided (thrown_to w e o) ≡ Provided w
  thrown w e None = refl
  thrown w e (Some b) = on (at w.scopes b)
    where
      on : (o : Option (Scope K)) → Provided (elim o as (λ z. State K) [ None ↦ w | Some x ↦ caught_at w e b x.error ]) ≡ Provided w
      on None = refl
      on (Some x) = caught w e b x.error

  cleared : (w : State K) (o : Option ℕ) → Provided (cleared_at w o) ≡ Provided w
  cleared w None = refl
  cleared w (Some b) =
      told (change w b (λ x. record x { error = None })) (Error b) ∙ changed w b (λ x. record x { error = None }) (λ x. refl)

  joined : (w : State K) (s : ℕ) (e : K.Effect) (o : Option ℕ) → Provided (registered w s e o) ≡ Provided w
  joined w s e None = refl
  joined w s e (Some b) = changed w b (λ x. record x { callbacks = x.callbacks ++ (s, e) ∷ [] }) (λ x. refl)

  froze : (w : State K) (o : Option ℕ) → Provided (frozen_at w o) ≡ Provided w
  froze w None = refl
  froze w (Some b) = changed w b (λ x. record x { frozen = true }) (λ x. refl)

  began : (w : State K) (polled : Option ℕ) (scope task : ℕ) (a : K.TaskState) (isomorphic : Bool) → Provided (spawned w polled scope task a isomorphic) ≡ Provided w
  began w polled scope task a isomorphic =
      let v : State K = record w {
        tasks =
            w.tasks
            ++
            (task, record { scope = scope; parent = polled; state = a; active = true; kind = if isomorphic then Isomorphic else ClientOnly })
            ∷
            [];
      } in
      one_of w (post v (Woken task)) w (is_live w scope) (posted v (Woken task)) refl

  module _ (app : Application K) where
    -- a context of another kind
    provides : (w : State K) (s k : ℕ) (v : K.Value) → nat_eq k kind ≡ false → Provided (provide_context app w s k v) ≡ Provided w
    provides w s k v other = at_scope (at w.scopes s)
      where
        u : State K
        u = change w s (λ x. record x { contexts = put x.contexts k v })

        same : Provided u ≡ Provided w
        same = changed w s (λ x. record x { contexts = put x.contexts k v }) (λ x. at_put_other x.contexts k v kind other)

        on : (o : Option K.Value) → Provided (provided_at app w s k v o) ≡ Provided w
        on None = told u (Context k s) ∙ same
        on (Some old) = one_of w u (tell u (Context k s)) (app.same_value old v) same (told u (Context k s) ∙ same)

        at_scope : (o : Option (Scope K)) → Provided (elim o as (λ z. State K) [ None ↦ w | Some x ↦ provided_at app w s k v (at x.contexts k) ]) ≡ Provided w
        at_scope None = refl
        at_scope (Some x) = on (at x.contexts k)

    one_command : (r : Kinds) (w : State K) (s : ℕ) (polled : Option ℕ) (c : Command K) → IsWithin r c → is_among r kind ≡ false → Provided (command app w s polled c) ≡ Provided w
    one_command r w s polled (KeepHook h) within out = changed w s (λ x. record x { hooks = x.hooks ++ h ∷ [] }) (λ x. refl)
    one_command r w s polled (NewCell n v) within out =
        one_of w (record w { cells = w.cells ++ (n, record { owner = s; value = v }) ∷ [] }) w (is_live w s) refl refl
    one_command r w s polled (Write n v) within out = wrote w n v (at w.cells n)
    one_command r w s polled (DropCell n) within out =
        let v : State K = record w { cells = without w.cells n } in one_of w (tell v (Cell n)) w (is_some (at w.cells n)) (told v (Cell n)) refl
    one_command r w s polled (NewContext n target) within out =
        one_of w (record w { contexts = w.contexts ++ (n, record { scope = s; target = target; sources = [] }) ∷ [] }) w (is_live w s) refl refl
    one_command r w s polled (Reset n) within out = sources_changed w n (λ x. record x { sources = [] })
    one_command r w s polled (ReadInto n source) within out = sources_changed w n (λ x. record x { sources = one_more_source x.sources source })
    one_command r w s polled (Spawn task a forever isomorphic) within out = began w polled (if forever then 0 else s) task a isomorphic
    one_command r w s polled (RemoveFuture task) within out = ended w task
    one_command r w s polled (Wake task) within out = posted w (Woken task)
    one_command r w s polled (SetActive task active) within out = paused_or_not w task active (at w.tasks task)
    one_command r w s polled (QueueEffect e) within out = changed w s (λ x. record x { effects = x.effects ++ e ∷ [] }) (λ x. refl)
    one_command r w s polled (Provide root k v) within out = provides w (if root then 0 else s) k v (other-kind r k kind within out)
    one_command r w s polled (Update n) within out = posted w (Mark n)
    one_command r w s polled (Throw e) within out = thrown w e (error_context w s)
    one_command r w s polled ClearErrors within out = cleared w (error_context w s)
    one_command r w s polled (Resolved e) within out = joined w s e (suspense_context w s)
    one_command r w s polled Freeze within out = froze w (suspense_context w s)

    all_commands : (r : Kinds) (w : State K) (s : ℕ) (polled : Option ℕ) (cs : List (Command K)) → AllByRecursion (λ (c : Command K). IsWithin r c) cs → is_among r kind ≡ false
        → Provided (commands app w s polled cs) ≡ Provided w
    all_commands r w s polled [] within out = refl
    all_commands r w s polled (c ∷ cs) within out =
        all_commands r (command app w s polled c) s polled cs within.1 out ∙ one_command r w s polled c within.0 out

pub commands_keep_others : (K : Types) → CommandsKeepOthers K
commands_keep_others K app r w s polled cs kind t within out = all_commands kind t app r w s polled cs within out

pub programs_keep_others : (K : Types) (A : Type 0) → ProgramsKeepOthers K A
programs_keep_others K A app r p v w s polled kind t keeps out =
    let within = commands-within K A r p v keeps in (
      commands_keep_others K app r w s polled _ kind t within.0 out,
      commands_keep_others K app r w s polled _ kind t within.1 out,
    )
