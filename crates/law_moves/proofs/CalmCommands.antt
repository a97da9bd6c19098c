-- Each command is calm.
use Rattle.std.proofs.Common.{ℕ, Bool, true, false, List, [], ◌∷◌, ◌++◌, ◌≡◌, ◌≤◌, ◌&&◌, refl, sym, ap, ◌∙◌, subst, nat_eq, inl}
use Rattle.std.proofs.lemmas.Bool.{eqb-true}
use Rattle.std.specs.Prelude.{Option, Some, None, if◌then◌else◌, is_some}
use Rattle.std.specs.List.{AllByRecursion}
use Rattle.rt_model.specs.Lists.{at, put, without}
use Rattle.rt_model.specs.Tree.{Types, CapturedError}
use Rattle.rt_model.specs.World.{Source, Cell, Error, Context, same_source, Command, KeepHook, NewCell, Write, DropCell, NewContext, Reset, ReadInto, Spawn, RemoveFuture, Wake, SetActive, QueueEffect, Provide, Update, Throw, ClearErrors, Resolved, Freeze, Application}
use Rattle.rt_model.specs.Laws.{Tests}
use Rattle.rt_model.specs.State.{Mark, Woken, Scope, CellRow, ContextRow, State, is_live, changed_scope, change, error_context, suspense_context}
use Rattle.rt_model.specs.Commands.{one_more_source, post, tell, written_at, drop_cell_row, caught_at, thrown_to, throw_error, cleared_at, activated, spawned, registered, frozen_at, provided_at, command, commands}
use Rattle.rt_model.proofs.Maps.{by_test, eq_same, at_put_here, at_put_other, at_append_none, at_without_other}
use Rattle.rt_model.proofs.Members.{clash, turned_round}
use Rattle.law_moves.specs.Heeds.{Low, leavings, SameOf, Heeds}
use Rattle.law_moves.specs.Heeding.{NewFrom, AllFrom}
use Rattle.law_moves.proofs.Marks.{from_apart}
use Rattle.law_moves.proofs.Told.{post_quiet, change_quiet, Turned, turned_calm, put_by}
use Rattle.law_moves.proofs.Calm.{error_of, context_of, holders_of, cell_in, held_by, unique_put, listed_same, Calm, calm_then, calm_if, calm_refl, Quiet, quiet_rest, quiet_refl, quiet_calm, no_fall}
use Rattle.law_moves.proofs.Tasks.{end_calm, activated_quiet, spawned_quiet}

-- a value that is there already
put_again : {A : Type 0} (es : List (ℕ × A)) (k : ℕ) (v : A) → at es k ≡ Some v → (l : ℕ) → at (put es k v) l ≡ at es l
put_again es k v h l =
    by_test (nat_eq k l)
    (λ q. at_put_here es k v l q ∙ sym h ∙ ap (λ (m : ℕ). at es m) (eqb-true k l q))
    (λ q. at_put_other es k v l q)

module _ {K : Types} where
  -- cells

  cells_turned : (n i : ℕ) (w : State K) (es : List (ℕ × CellRow K)) → ((m : ℕ) → nat_eq m i ≡ false → at es m ≡ at w.cells m) → Turned n (Cell i) w (record w { cells = es })
  cells_turned n i w es h =
      record { stays = λ t. refl; holders = λ t. refl; others = others; calls = refl; tasks = refl; unique = λ h. h; posted = refl; seen = refl; queued = refl; skipped = refl; next = refl }
    where
      others : (j : Source) → Low n j → same_source j (Cell i) ≡ false → SameOf w (record w { cells = es }) j
      others (Cell m) low q = ap (λ (o : Option (CellRow K)). cell_in o) (sym (h m q))
      others (Error s) low q = refl
      others (Context k s) low q = refl

  pub written_calm : (n : ℕ) (w : State K) (i : ℕ) (v : K.Value) (o : Option (CellRow K)) → Calm None n w (written_at w i v o)
  written_calm n w i v None = calm_refl None n w
  written_calm n w i v (Some old) =
      let es : List (ℕ × CellRow K) = put w.cells i (record old { value = v }) in
      turned_calm n (Cell i) w (record w { cells = es }) (cells_turned n i w es (λ m q. at_put_other w.cells i (record old { value = v }) m (turned_round m i q)))

  dropped_calm : (n : ℕ) (w : State K) (i : ℕ) → Calm None n w (drop_cell_row w i)
  dropped_calm n w i =
      let v : State K = record w { cells = without w.cells i } in
      calm_if None n w (tell v (Cell i)) w (is_some (at w.cells i))
      (turned_calm n (Cell i) w v (cells_turned n i w (without w.cells i) (λ m q. at_without_other w.cells i m (turned_round m i q))))
      (calm_refl None n w)

  -- a cell from the bound on is new
  made_calm : (n : ℕ) (w : State K) (i : ℕ) (row : CellRow K) → n ≤ i → Calm None n w (record w { cells = w.cells ++ (i, row) ∷ [] })
  made_calm n w i row from =
      record {
        heeds =
            record {
              stays = λ t p. refl;
              calls = λ t p. refl;
              marks = λ t x p e h. h;
              told = λ t x j p e reads low. inl (others j low);
              held = λ t x y p e d. inl (held_by x y (ap (λ (o : Option (Scope K)). holders_of o) (sym d ∙ e)));
            };
        lists = listed_same None w (record w { cells = w.cells ++ (i, row) ∷ [] }) refl refl refl (λ t h. h);
        orderly = λ h. record { holders = h.holders; unique = h.unique };
        rises = no_fall w;
      }
    where
      others : (j : Source) → Low n j → SameOf w (record w { cells = w.cells ++ (i, row) ∷ [] }) j
      others (Cell m) low = ap (λ (o : Option (CellRow K)). cell_in o) (sym (at_append_none w.cells i row m (from_apart n m i from low)))
      others (Error s) low = refl
      others (Context k s) low = refl

  -- error slots

  slot_turned : (n : ℕ) (w : State K) (s : ℕ) (x : Scope K) (e : Option CapturedError) → at w.scopes s ≡ Some x → Turned n (Error s) w (record w { scopes = put w.scopes s (record x { error = e }) })
  slot_turned n w s x e live =
      record {
        stays = put_by (λ o. leavings o) w.scopes s x y live refl;
        holders = put_by (λ o. holders_of o) w.scopes s x y live refl;
        others = others;
        calls = refl;
        tasks = refl;
        unique = λ h. unique_put w.scopes s x y live h;
        posted = refl;
        seen = refl;
        queued = refl;
        skipped = refl;
        next = refl;
      }
    where
      y : Scope K
      y = record x { error = e }

      others : (j : Source) → Low n j → same_source j (Error s) ≡ false → SameOf w (record w { scopes = put w.scopes s (record x { error = e }) }) j
      others (Cell m) low q = refl
      others (Error t) low q = ap (λ (o : Option (Scope K)). error_of o) (sym (at_put_other w.scopes s y t (turned_round t s q)))
      others (Context k t) low q = sym (put_by (λ o. context_of k o) w.scopes s x y live refl t)

  caught_calm : (n : ℕ) (w : State K) (e : CapturedError) (s : ℕ) (x : Scope K) (o : Option CapturedError) → at w.scopes s ≡ Some x → Calm None n w (caught_at w e s o)
  caught_calm n w e s x (Some old) live = calm_refl None n w
  caught_calm n w e s x None live =
      subst (λ (o : Option (Scope K)). Calm None n w (tell (changed_scope w s (λ y. record y { error = Some e }) o) (Error s))) (sym live)
      (turned_calm n (Error s) w (record w { scopes = put w.scopes s (record x { error = Some e }) }) (slot_turned n w s x (Some e) live))

  thrown_found : (n : ℕ) (w : State K) (e : CapturedError) (s : ℕ) (o : Option (Scope K)) → at w.scopes s ≡ o
      → Calm None n w (elim o as (λ z. State K) [ None ↦ w | Some x ↦ caught_at w e s x.error ])
  thrown_found n w e s None live = calm_refl None n w
  thrown_found n w e s (Some x) live = caught_calm n w e s x x.error live

  thrown_calm : (n : ℕ) (w : State K) (e : CapturedError) (o : Option ℕ) → Calm None n w (thrown_to w e o)
  thrown_calm n w e None = calm_refl None n w
  thrown_calm n w e (Some s) = thrown_found n w e s (at w.scopes s) refl

  pub throw_calm : (n : ℕ) (w : State K) (s : ℕ) (e : CapturedError) → Calm None n w (throw_error w s e)
  throw_calm n w s e = thrown_calm n w e (error_context w s)

  unturned : (n : ℕ) (i : Source) (w : State K) → Turned n i w w
  unturned n i w = record { stays = λ t. refl; holders = λ t. refl; others = λ j low q. alike j; calls = refl; tasks = refl; unique = λ h. h; posted = refl; seen = refl; queued = refl; skipped = refl; next = refl }
    where
      alike : (j : Source) → SameOf w w j
      alike (Cell m) = refl
      alike (Error s) = refl
      alike (Context k s) = refl

  cleared_found : (n : ℕ) (w : State K) (s : ℕ) (o : Option (Scope K)) → at w.scopes s ≡ o → Calm None n w (tell (changed_scope w s (λ y. record y { error = None }) o) (Error s))
  cleared_found n w s None live = turned_calm n (Error s) w w (unturned n (Error s) w)
  cleared_found n w s (Some x) live = turned_calm n (Error s) w (record w { scopes = put w.scopes s (record x { error = None }) }) (slot_turned n w s x None live)

  cleared_calm : (n : ℕ) (w : State K) (o : Option ℕ) → Calm None n w (cleared_at w o)
  cleared_calm n w None = calm_refl None n w
  cleared_calm n w (Some s) = cleared_found n w s (at w.scopes s) refl

  -- what else a command changes

  context_quiet : (w : State K) (c : ℕ) (f : ContextRow K → ContextRow K) (o : Option (ContextRow K)) → Quiet w (elim o as (λ z. State K) [ None ↦ w | Some x ↦ record w { contexts = put w.contexts c (f x) } ])
  context_quiet w c f None = quiet_refl w
  context_quiet w c f (Some x) = quiet_rest w (record w { contexts = put w.contexts c (f x) }) refl refl refl refl refl refl refl refl (no_fall w)

  registered_quiet : (w : State K) (s : ℕ) (e : K.Effect) (o : Option ℕ) → Quiet w (registered w s e o)
  registered_quiet w s e None = quiet_refl w
  registered_quiet w s e (Some b) = change_quiet w b (λ x. record x { callbacks = x.callbacks ++ (s, e) ∷ [] }) (λ x. refl)

  frozen_quiet : (w : State K) (o : Option ℕ) → Quiet w (frozen_at w o)
  frozen_quiet w None = quiet_refl w
  frozen_quiet w (Some b) = change_quiet w b (λ x. record x { frozen = true }) (λ x. refl)

  module _ (app : Application K) (tests : Tests K.Value app.same_value) where
    abbrev provides : ℕ → K.Value → Scope K → Scope K
    provides k v x = record x { contexts = put x.contexts k v }

    kinds_apart : (k l s t : ℕ) → same_source (Context l t) (Context k s) ≡ false → nat_eq s t ≡ true → nat_eq k l ≡ false
    kinds_apart k l s t other q =
        by_test (nat_eq k l)
        (
        λ p.
        clash
        (
        ap (λ (m : ℕ). nat_eq m k && nat_eq t s) (sym (eqb-true k l p))
        ∙ ap (λ (b : Bool). b && nat_eq t s) (eq_same k)
        ∙ ap (λ (m : ℕ). nat_eq m s) (sym (eqb-true s t q))
        ∙ eq_same s
        )
        other
        )
        (λ p. p)

    context_turned : (n : ℕ) (w : State K) (s k : ℕ) (v : K.Value) (x : Scope K) → at w.scopes s ≡ Some x → Turned n (Context k s) w (record w { scopes = put w.scopes s (provides k v x) })
    context_turned n w s k v x live =
        record {
          stays = put_by (λ o. leavings o) w.scopes s x y live refl;
          holders = put_by (λ o. holders_of o) w.scopes s x y live refl;
          others = others;
          calls = refl;
          tasks = refl;
          unique = λ h. unique_put w.scopes s x y live h;
          posted = refl;
          seen = refl;
          queued = refl;
          skipped = refl;
          next = refl;
        }
      where
        y : Scope K
        y = provides k v x

        others : (j : Source) → Low n j → same_source j (Context k s) ≡ false → SameOf w (record w { scopes = put w.scopes s (provides k v x) }) j
        others (Cell m) low q = refl
        others (Error t) low q = sym (put_by (λ o. error_of o) w.scopes s x y live refl t)
        others (Context l t) low q =
            by_test (nat_eq s t)
            (
            λ p.
            ap (λ (m : ℕ). context_of l (at w.scopes m)) (sym (eqb-true s t p))
            ∙ ap (λ (o : Option (Scope K)). context_of l o) live
            ∙ sym (at_put_other x.contexts k v l (kinds_apart k l s t q p))
            ∙ sym (ap (λ (o : Option (Scope K)). context_of l o) (at_put_here w.scopes s y t p))
            )
            (λ p. sym (ap (λ (o : Option (Scope K)). context_of l o) (at_put_other w.scopes s y t p)))

    context_again : (n : ℕ) (w : State K) (s k : ℕ) (v : K.Value) (x : Scope K) → at w.scopes s ≡ Some x → at x.contexts k ≡ Some v → Calm None n w (record w { scopes = put w.scopes s (provides k v x) })
    context_again n w s k v x live same =
        record {
          heeds =
              record {
                stays = λ t p. put_by (λ o. leavings o) w.scopes s x y live refl t;
                calls = λ t p. refl;
                marks = λ t z p e h. h;
                told = λ t z i p e reads low. inl (others i);
                held = λ t a b p e d. inl (held_by a b (ap (λ (o : Option (Scope K)). holders_of o) (sym d) ∙ holders t ∙ ap (λ (o : Option (Scope K)). holders_of o) e));
              };
          lists = listed_same None w (record w { scopes = put w.scopes s (provides k v x) }) refl refl refl (λ t h. h);
          orderly =
              λ h.
              record {
                holders = λ t. subst (λ (hs : List (ℕ × ℕ)). AllByRecursion (λ (d : ℕ × ℕ). is_some (at w.tasks d.0) ≡ true) hs) (sym (holders t)) (h.holders t);
                unique = unique_put w.scopes s x y live h.unique;
              };
          rises = no_fall w;
        }
      where
        y : Scope K
        y = provides k v x

        holders : (t : ℕ) → holders_of (at (put w.scopes s y) t) ≡ holders_of (at w.scopes t)
        holders = put_by (λ o. holders_of o) w.scopes s x y live refl

        others : (i : Source) → SameOf w (record w { scopes = put w.scopes s (provides k v x) }) i
        others (Cell m) = refl
        others (Error t) = sym (put_by (λ o. error_of o) w.scopes s x y live refl t)
        others (Context l t) = sym (put_by (λ o. context_of l o) w.scopes s x y live (put_again x.contexts k v same l) t)

    provided_either : (n : ℕ) (w : State K) (s k : ℕ) (v old : K.Value) (x : Scope K) → at w.scopes s ≡ Some x → at x.contexts k ≡ Some old → (b : Bool) → app.same_value old v ≡ b
        → Calm None n w (if b then record w { scopes = put w.scopes s (provides k v x) } else tell (record w { scopes = put w.scopes s (provides k v x) }) (Context k s))
    provided_either n w s k v old x live h true q = context_again n w s k v x live (h ∙ ap (λ (z : K.Value). Some z) (tests.0 old v q))
    provided_either n w s k v old x live h false q = turned_calm n (Context k s) w (record w { scopes = put w.scopes s (provides k v x) }) (context_turned n w s k v x live)

    provided_calm : (n : ℕ) (w : State K) (s k : ℕ) (v : K.Value) (x : Scope K) (o : Option K.Value) → at w.scopes s ≡ Some x → at x.contexts k ≡ o → Calm None n w (provided_at app w s k v o)
    provided_calm n w s k v x None live h =
        subst (λ (o : Option (Scope K)). Calm None n w (tell (changed_scope w s (λ y. provides k v y) o) (Context k s))) (sym live)
        (turned_calm n (Context k s) w (record w { scopes = put w.scopes s (provides k v x) }) (context_turned n w s k v x live))
    provided_calm n w s k v x (Some old) live h =
        subst
        (λ (o : Option (Scope K)). Calm None n w (if app.same_value old v then changed_scope w s (λ y. provides k v y) o else tell (changed_scope w s (λ y. provides k v y) o) (Context k s)))
        (sym live)
        (provided_either n w s k v old x live h (app.same_value old v) refl)

    provide_found : (n : ℕ) (w : State K) (s k : ℕ) (v : K.Value) (o : Option (Scope K)) → at w.scopes s ≡ o
        → Calm None n w (elim o as (λ z. State K) [ None ↦ w | Some x ↦ provided_at app w s k v (at x.contexts k) ])
    provide_found n w s k v None live = calm_refl None n w
    provide_found n w s k v (Some x) live = provided_calm n w s k v x (at x.contexts k) live refl

    quietly : (n : ℕ) (w v : State K) → Quiet w v → Calm None n w v
    quietly n w v f = quiet_calm None n w v f

    command_calm : (n : ℕ) (w : State K) (s : ℕ) (polled : Option ℕ) (c : Command K) → NewFrom n c → Calm None n w (command app w s polled c)
    command_calm n w s polled (KeepHook h) from = quietly n w (change w s (λ x. record x { hooks = x.hooks ++ h ∷ [] })) (change_quiet w s (λ x. record x { hooks = x.hooks ++ h ∷ [] }) (λ x. refl))
    command_calm n w s polled (NewCell m v) from =
        calm_if None n w (record w { cells = w.cells ++ (m, record { owner = s; value = v }) ∷ [] }) w (is_live w s) (made_calm n w m (record { owner = s; value = v }) from) (calm_refl None n w)
    command_calm n w s polled (Write m v) from = written_calm n w m v (at w.cells m)
    command_calm n w s polled (DropCell m) from = dropped_calm n w m
    command_calm n w s polled (NewContext m t) from =
        let v : State K = record w { contexts = w.contexts ++ (m, record { scope = s; target = t; sources = [] }) ∷ [] } in
        calm_if None n w v w (is_live w s) (quietly n w v (quiet_rest w v refl refl refl refl refl refl refl refl (no_fall w))) (calm_refl None n w)
    command_calm n w s polled (Reset m) from = quietly n w _ (context_quiet w m (λ x. record x { sources = [] }) (at w.contexts m))
    command_calm n w s polled (ReadInto m i) from = quietly n w _ (context_quiet w m (λ x. record x { sources = one_more_source x.sources i }) (at w.contexts m))
    command_calm n w s polled (Spawn t a forever isomorphic) from =
        quietly n w (spawned w polled (if forever then 0 else s) t a isomorphic) (spawned_quiet w polled (if forever then 0 else s) t a isomorphic)
    command_calm n w s polled (RemoveFuture t) from = end_calm n w t
    command_calm n w s polled (Wake t) from = quietly n w (post w (Woken t)) (post_quiet w (Woken t))
    command_calm n w s polled (SetActive t b) from = quietly n w (activated w t b (at w.tasks t)) (activated_quiet w t b (at w.tasks t))
    command_calm n w s polled (QueueEffect e) from = quietly n w (change w s (λ x. record x { effects = x.effects ++ e ∷ [] })) (change_quiet w s (λ x. record x { effects = x.effects ++ e ∷ [] }) (λ x. refl))
    command_calm n w s polled (Provide root k v) from = provide_found n w (if root then 0 else s) k v (at w.scopes (if root then 0 else s)) refl
    command_calm n w s polled (Update m) from = quietly n w (post w (Mark m)) (post_quiet w (Mark m))
    command_calm n w s polled (Throw e) from = throw_calm n w s e
    command_calm n w s polled ClearErrors from = cleared_calm n w (error_context w s)
    command_calm n w s polled (Resolved e) from = quietly n w (registered w s e (suspense_context w s)) (registered_quiet w s e (suspense_context w s))
    command_calm n w s polled Freeze from = quietly n w (frozen_at w (suspense_context w s)) (frozen_quiet w (suspense_context w s))

    pub commands_calm : (n : ℕ) (w : State K) (s : ℕ) (polled : Option ℕ) (cs : List (Command K)) → AllFrom n cs → Calm None n w (commands app w s polled cs)
    commands_calm n w s polled [] from = calm_refl None n w
    commands_calm n w s polled (c ∷ cs) from =
        calm_then None n w (command app w s polled c) (commands app (command app w s polled c) s polled cs)
        (command_calm n w s polled c from.0)
        (commands_calm n (command app w s polled c) s polled cs from.1)

    pub commands_heed : (n : ℕ) (w : State K) (s : ℕ) (polled : Option ℕ) (cs : List (Command K)) → AllFrom n cs → Heeds None n w (commands app w s polled cs)
    commands_heed n w s polled cs from = (commands_calm n w s polled cs from).heeds
