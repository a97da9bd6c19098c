-- Changes of a state of an application of pages in which nothing fails: each scope goes on to be as it has to be, each cell, and the work.
use Rattle.std.proofs.Common.{ℕ, ◌+◌, Bool, true, false, List, [], ◌∷◌, ◌++◌, ◌≡◌, refl, sym, ap, ◌∙◌, subst}
use Rattle.std.specs.Prelude.{Option, Some, None, if◌then◌else◌}
use Rattle.rt_model.specs.Lists.{at, put, without, drop_number}
use Rattle.rt_model.specs.Tree.{Types, Tree, VComponent, Own, Root, Fragment, ErrorBoundary, SuspenseBoundary, Element, suspended, Place, Kind, Spot, spots}
use Rattle.rt_model.specs.World.{Elements, at_end, Command, Meaning, Nothing, Application}
use Rattle.rt_model.specs.Values.{keeps_output}
use Rattle.rt_model.specs.State.{SideName, MainSide, ChildrenSide, FallbackSide, IdsExhausted, RowStep, PatchChildren, MadeChildren, RunFallback, ShowFallback, ShowChildren, DropFallback, Resolve, Side, Scope, TaskRow, State, Item, Row, Feed, Outcome, Done, Cut, onward, empty_side, side_of, with_side, is_live, changed_scope, change, is_held, hooks_of, effects_of, world_of}
use Rattle.rt_model.specs.Commands.{end}
use Rattle.rt_model.specs.Next.{look}
use Rattle.rt_model.specs.Run.{child_at, with_next, called_once, spots_of, kept_numbers, kept_children, patched, unmarked, acted, after_hooks, start_agenda, run}
use Rattle.rt_model.specs.Boundary.{side_scopes, tree_or_placeholder, children_of, counts_render, counted_render, fallback_answered, called_back, row_step}
use Rattle.rt_model.specs.Removal.{tasks_in, end_all, clean_ups, gone, stopped, cleaned_in, removed}
use Rattle.rt_model.specs.Replay.{numbered, draw_number, fed_child, mounted_state, keeps, with_props, handed, outcome_of, polled_at, batch_then, effects_run}
use Rattle.rt_model.proofs.Maps.{none_some, eq_same, at_put_here}
use Rattle.rt_model.proofs.Members.{clash}
use Rattle.law_lasting.proofs.Told.{gone_same}
use Rattle.author_programs.specs.Cells.{Keeping}
use Rattle.author_programs.specs.Pages.{Pages, meaning_of_pages}
use Rattle.law_elm.proofs.Tiers.{Tier, next_tier, MayStep, IsTier, AllOf, Answers, fallback_all, held_all, Works, rows_work, drops_work, patch_works}
use Rattle.law_elm.proofs.Looking.{AllQuiet, quiet_both}
use Rattle.law_elm.proofs.Rules.{AllMay, Alike, Rules}
use Rattle.law_elm.proofs.Calmly.{Rests, look_rests, gone_next}
use Rattle.law_elm.proofs.Well.{well_same, well_put, well_change, well_mounted, well_gone}
use Rattle.law_elm.proofs.Touring.{FineO, then_o, changed, same_fine, end_fine, commands_fine, acted_fine, after_fine, raised_fine, called_by}
use Rattle.law_elm.proofs.Standing.{ShowsKids, Kids, kid_found, kids_kept, Stands, stands_side, kids_of, Good, good_alike, But, good_facts}
use Rattle.law_elm.proofs.Running.{All, IsOf, RanO, run_safe}

module _ {K : Types} where
  numbers_alike : (x : Scope K) (a : SideName) (ns : List (Place × Kind × ℕ)) → Alike x (with_side x a (record (side_of x a) { numbers = ns }))
  numbers_alike x MainSide ns = record { component = refl; error = refl; hooks = refl; output = refl; main = refl; held = refl; fallback = refl }
  numbers_alike x ChildrenSide ns = record { component = refl; error = refl; hooks = refl; output = refl; main = refl; held = refl; fallback = refl }
  numbers_alike x FallbackSide ns = record { component = refl; error = refl; hooks = refl; output = refl; main = refl; held = refl; fallback = refl }

  other_output : (x : Scope K) (side : SideName) (z : Side K) → (side ≡ MainSide → ⊥) → ShowsKids x.component x.main_side.output → ShowsKids (with_side x side z).component (with_side x side z).main_side.output
  other_output x MainSide z other h = absurd (other refl)
  other_output x ChildrenSide z other h = h
  other_output x FallbackSide z other h = h

module _ {K : Types} (k : Keeping K.Value) (a : Pages K) (given : K.Props) (law : Rules k a given) (tiers : ℕ → Tier) (bound : ℕ) where
  abbrev app : Application K
  app = meaning_of_pages k a

  abbrev R : ℕ → Scope K → Type 0
  R n x = Good k a given law tiers bound n x

  abbrev Fine : State K → Type 0
  Fine w = All k a given law tiers bound (λ n x. R n x) w

  abbrev Work : List (Item K) → Type 0
  Work work = Works law.may a.root given tiers bound work

  abbrev Fits : Tier → List (Spot K) → Type 0
  Fits t spots = AllOf law.may a.root given t spots

  -- where a change isn't cut
  abbrev pub SafeO : Outcome K → Type 0
  SafeO (Done v work) = Fine v × Work work
  SafeO (Cut v fault) = Unit {0}

  ran_safe : (b : ℕ) (c : VComponent K) (o : Outcome K) → RanO k a given law tiers bound b c o → SafeO o
  ran_safe b c (Done v work) h = (h.0, h.1)
  ran_safe b c (Cut v fault) h = tt

  either_s : (b : Bool) (x y : Outcome K) → SafeO x → SafeO y → SafeO (if b then x else y)
  either_s true x y f g = f
  either_s false x y f g = g

  abbrev FineOut : Outcome K → Type 0
  FineOut o = FineO k a given law (good_facts k a given law tiers bound) tiers bound o

  pub same : (w v : State K) → v.scopes ≡ w.scopes → v.cells ≡ w.cells → v.next_scope ≡ w.next_scope → Fine w → Fine v
  same w v scopes cells next h = same_fine k a given law (good_facts k a given law tiers bound) tiers bound w v scopes cells next h

  pub rests : (w v : State K) → Rests w v → Fine w → Fine v
  rests w v f h = well_same (λ n x. R n x) (λ n o. law.cells (tiers o) n o) bound w v f.scopes f.owners f.next h

  turned : (w : State K) (s : ℕ) (f : Scope K → Scope K) → ((x : Scope K) → Alike x (f x)) → Fine w → Fine (change w s f)
  turned w s f like h = changed k a given law (good_facts k a given law tiers bound) tiers bound w s f like h

  put_fine : (w : State K) (s : ℕ) (y : Scope K) → R s y → Fine w → Fine (record w { scopes = put w.scopes s y })
  put_fine w s y fine h = well_put (λ n x. R n x) (λ n o. law.cells (tiers o) n o) bound w s y fine h

  fine_then : (o : Outcome K) (f : State K → Outcome K) → FineOut o → ((v : State K) → Fine v → SafeO (f v)) → SafeO (onward o f)
  fine_then (Done v work) f h g = g v h
  fine_then (Cut v fault) f h g = tt

  acts : (w : State K) (s : ℕ) (e : K.Effect) (rendering : Bool) → Fine w → FineOut (acted app w s e rendering)
  acts w s e rendering h = acted_fine k a given law (good_facts k a given law tiers bound) tiers bound w s e rendering h

  -- a run of a scope where all are as they have to be
  pub runs : (w : State K) (b : ℕ) → Fine w → SafeO (run app w b)
  runs w b h = on (at w.scopes b) refl
    where
      by : (c : VComponent K) → IsOf w b c → SafeO (run app w b)
      by c is =
          ran_safe b c (run app w b)
          (run_safe k a given law tiers bound w b c (record { rows = λ n x there. let g = h.rows n x there in (g.0, λ q. g.1); cells = h.cells; drawn = h.drawn }) is)

      on : (o : Option (Scope K)) → at w.scopes b ≡ o → SafeO (run app w b)
      on None e = by (Fragment (suspended 0 0)) (λ y there. none_some e there)
      on (Some x) e = by x.component (λ y there. let one : Some y ≡ Some x = sym there ∙ e in ap (λ (o : Option (Scope K)). elim o as (λ z. VComponent K) [ None ↦ x.component | Some z ↦ z.component ]) one)

  -- items

  pub draws : (w : State K) (s : ℕ) (side : SideName) (p : Place) (kind : Kind) → Fine w → SafeO (draw_number w s side p kind)
  draws w s side p kind h =
      let v : State K = with_next w (record (w.next) { elements = w.next.elements + 1 }) in
      either_s (at_end w.next.elements) (Cut w (IdsExhausted Elements)) (Done (numbered w s side p kind) []) tt (
        turned v s (λ x. with_side x side (record (side_of x side) { numbers = (side_of x side).numbers ++ (p, kind, w.next.elements) ∷ [] }))
            (λ x. numbers_alike x side ((side_of x side).numbers ++ (p, kind, w.next.elements) ∷ [])) (same w v refl refl refl h),
        tt,
      )

  -- a patch of another side than the main one
  patches : (w : State K) (b : ℕ) (side : SideName) (tree : Tree K) → (side ≡ MainSide → ⊥) → Fits (next_tier (tiers b) side) (spots [] tree) → Fine w → SafeO (start_agenda app w b side tree)
  patches w b side tree other safe h = on (at w.scopes b) refl
    where
      on : (o : Option (Scope K)) → at w.scopes b ≡ o
          → SafeO (elim o as (λ z. Outcome K) [
            | None ↦ Done w []
            | Some x ↦ patched app w b side tree (spots_of (side_of x side).output) (spots [] tree) (side_of x side) x
          ])
      on None e = (h, tt)
      on (Some x) e =
          let was : Side K = side_of x side in
          let old : List (Spot K) = spots_of was.output in
          let new : List (Spot K) = spots [] tree in
          let now : Side K = record { output = Some tree; numbers = kept_numbers new was.numbers; children = kept_children app old new was.children } in
          let g : R b x = h.rows b x e in
          let kids : Kids tiers bound (next_tier (tiers b) side) now.children =
          kids_kept tiers bound app old new (next_tier (tiers b) side) was.children (kids_of k a given law tiers bound b x side g.0) in (
            put_fine w b (with_side x side now) (stands_side k a given law tiers bound b x side now kids g.0, other_output x side now other g.1) h,
            patch_works law.may a.root given tiers bound app b side old tree was.children (g.0).low safe,
          )

  callbacks : (es : List (ℕ × K.Effect)) (w : State K) → Fine w → SafeO (called_back app w es)
  callbacks [] w h = (h, tt)
  callbacks (e ∷ es) w h =
      either_s (is_live w e.0) (onward (acted app w e.0 e.1 false) (λ v. called_back app v es)) (called_back app w es)
      (fine_then (acted app w e.0 e.1 false) (λ v. called_back app v es) (acts w e.0 e.1 false h) (λ v g. callbacks es v g))
      (callbacks es w h)

  counts : (w : State K) (b : ℕ) (z : Bool) → Fine w → FineOut (counted_render app w b z)
  counts w b true h = raised_fine k a given law (good_facts k a given law tiers bound) tiers bound w b h
  counts w b false h = h

  falls_back : (w : State K) (b : ℕ) (c : VComponent K) (answer : Element K) → MayStep (tiers b) → Answers law.may a.root given (tiers b) answer → Fine w → SafeO (fallback_answered app w b c answer)
  falls_back w b c answer step safe h =
      let facts = good_facts k a given law tiers bound in
      fine_then (onward (counted_render app w b (counts_render c answer)) (λ v. after_hooks app v b)) (λ v. start_agenda app v b FallbackSide (tree_or_placeholder answer))
      (
      then_o k a given law facts tiers bound (counted_render app w b (counts_render c answer)) (λ v. after_hooks app v b)
      (counts w b (counts_render c answer) h)
      (λ v g. after_fine k a given law facts tiers bound v b g)
      )
      (λ v g. patches v b FallbackSide (tree_or_placeholder answer) (λ e. cc) (fallback_all law.may a.root given (tiers b) step answer safe) g)

  steps : (w : State K) (b : ℕ) (x : Scope K) (step : RowStep) → MayStep (tiers b) → at w.scopes b ≡ Some x → Fine w → SafeO (row_step app w b x step)
  steps w b x PatchChildren may e h = patches w b ChildrenSide (children_of x.component) (λ q. cc) (held_all law.may a.root given (tiers b) may x.component (h.rows b x e).0.is) h
  steps w b x MadeChildren may e h = (h, rows_work K law.may a.root given tiers bound b (if is_held x then RunFallback ∷ ShowFallback ∷ [] else ShowChildren ∷ Resolve ∷ []) may (h.rows b x e).0.low)
  steps w b x RunFallback may e h =
      called_by k a given law (good_facts k a given law tiers bound) tiers bound (λ o. SafeO o) (λ v f. tt) w b x.component (λ v answer. fallback_answered app v b x.component answer)
      (h.rows b x e).0.is h
      (λ v answer safe kids g. falls_back v b x.component answer may safe g)
  steps w b x ShowFallback may e h =
      let v : State K = record w { resolved = drop_number w.resolved b } in
      (turned v b (λ y. record y { shows = Some FallbackSide }) (λ y. record { component = refl; error = refl; hooks = refl; output = refl; main = refl; held = refl; fallback = refl }) (same w v refl refl refl h), tt)
  steps w b x ShowChildren may e h =
      let v : State K = record w { last_calls = without w.last_calls b } in
      (turned v b (λ y. record y { shows = Some ChildrenSide; reads = [] }) (λ y. record { component = refl; error = refl; hooks = refl; output = refl; main = refl; held = refl; fallback = refl }) (same w v refl refl refl h), tt)
  steps w b x DropFallback may e h = (
    well_change (λ n y. R n y) (λ n o. law.cells (tiers o) n o) bound w b (λ y. record y { fallback_side = empty_side })
        (λ y g. (stands_side k a given law tiers bound b y FallbackSide empty_side tt g.0, g.1)) h,
    drops_work K law.may a.root given tiers bound b FallbackSide (side_scopes w x.fallback_side),
  )
  steps w b x Resolve may e h =
      let u : State K = record w { resolved = w.resolved ++ b ∷ [] } in
      callbacks x.callbacks (change u b (λ y. record y { callbacks = [] }))
      (turned u b (λ y. record y { callbacks = [] }) (λ y. record { component = refl; error = refl; hooks = refl; output = refl; main = refl; held = refl; fallback = refl }) (same w u refl refl refl h))

  -- a component that an error boundary is handed never lets the output be
  kept_shows : (d c : VComponent K) (o : Option (Tree K)) → keeps_output app d c ≡ true → ShowsKids c o
  kept_shows d (Own component props) o q = tt
  kept_shows d (Root component props) o q = tt
  kept_shows d (Fragment children) o q = tt
  kept_shows d (SuspenseBoundary children fallback) o q = tt
  kept_shows (Own e p) (ErrorBoundary children handler) o q = cc
  kept_shows (Root e p) (ErrorBoundary children handler) o q = cc
  kept_shows (Fragment t) (ErrorBoundary children handler) o q = cc
  kept_shows (SuspenseBoundary t f) (ErrorBoundary children handler) o q = cc
  kept_shows (ErrorBoundary t f) (ErrorBoundary children handler) o q = cc

  handed_stands : (t : ℕ) (x : Scope K) (c : VComponent K) → IsTier law.may a.root given (tiers t) c → Stands k a given law tiers bound t x → Stands k a given law tiers bound t (record x { component = c })
  handed_stands t x c is g =
      record { error = g.error; is = is; low = g.low; main = g.main; held = g.held; fallback = g.fallback; hooks = g.hooks }

  -- a scope is handed a component
  hands : (w : State K) (t : ℕ) (c : VComponent K) → IsTier law.may a.root given (tiers t) c → Fine w → SafeO (handed app w t c)
  hands w t c safe h = by (keeps app w t c) refl
    where
      handed_one : (o : Option (Scope K)) → at w.scopes t ≡ o → IsOf (changed_scope w t (λ x. record x { component = c }) o) t c
      handed_one None e = λ y there. none_some e there
      handed_one (Some x) e = λ y there. is x y (sym (at_put_here w.scopes t (record x { component = c }) t (eq_same t)) ∙ there)
        where
          is : (x y : Scope K) → Some (record x { component = c }) ≡ Some y → y.component ≡ c
          is x y q = ap (λ (o : Option (Scope K)). elim o as (λ j. VComponent K) [ None ↦ c | Some j ↦ j.component ]) (sym q)

      lets : (o : Option (Scope K)) → at w.scopes t ≡ o → elim o as (λ z. Bool) [ None ↦ false | Some x ↦ keeps_output app x.component c ] ≡ true
          → Fine (changed_scope w t (λ x. record x { component = c }) o)
      lets None e q = cc
      lets (Some x) e q = put_fine w t (record x { component = c }) (handed_stands t x c safe (h.rows t x e).0, kept_shows x.component c x.main_side.output q) h

      by : (b : Bool) → keeps app w t c ≡ b → SafeO (if b then Done (with_props app w t c) [] else run app (with_props app w t c) t)
      by true q = (lets (at w.scopes t) refl q, tt)
      by false q =
          ran_safe t c (run app (with_props app w t c) t)
          (
          run_safe k a given law tiers bound (with_props app w t c) t c
          (
          well_change (λ n x. But k a given law tiers bound t n x) (λ n o. law.cells (tiers o) n o) bound w t (λ x. record x { component = c })
          (λ x g. (handed_stands t x c safe g.0, λ other. clash (eq_same t) other))
          (record { rows = λ n x there. let g = h.rows n x there in (g.0, λ r. g.1); cells = h.cells; drawn = h.drawn })
          )
          (handed_one (at w.scopes t) refl)
          )

  pub row_serves : (w : State K) (b : ℕ) (step : RowStep) → MayStep (tiers b) → Fine w → SafeO (outcome_of app w (Row b step))
  row_serves w b step may h = on (at w.scopes b) refl
    where
      on : (o : Option (Scope K)) → at w.scopes b ≡ o → SafeO (elim o as (λ z. Outcome K) [ None ↦ Done w [] | Some x ↦ row_step app w b x step ])
      on None e = (h, tt)
      on (Some x) e = steps w b x step may e h

  -- the child at a place is what has to stand there
  fed_tier : (w : State K) (s : ℕ) (side : SideName) (p : Place) (t : ℕ) → Fine w → fed_child w s side p ≡ Some t → tiers t ≡ next_tier (tiers s) side
  fed_tier w s side p t h = on (at w.scopes s) refl
    where
      on : (o : Option (Scope K)) → at w.scopes s ≡ o → elim o as (λ z. Option ℕ) [ None ↦ None | Some x ↦ child_at (side_of x side).children p ] ≡ Some t → tiers t ≡ next_tier (tiers s) side
      on None e q = cc
      on (Some x) e q = (kid_found tiers bound (next_tier (tiers s) side) (side_of x side).children p t (kids_of k a given law tiers bound s x side (h.rows s x e).0) q).0

  pub feeds : (w : State K) (s : ℕ) (side : SideName) (p : Place) (c : VComponent K) → IsTier law.may a.root given (next_tier (tiers s) side) c → Fine w → SafeO (outcome_of app w (Feed s side p c))
  feeds w s side p c safe h = on (fed_child w s side p) refl
    where
      on : (o : Option ℕ) → fed_child w s side p ≡ o → SafeO (elim o as (λ z. Outcome K) [ None ↦ Done w [] | Some t ↦ handed app w t c ])
      on None e = (h, tt)
      on (Some t) e = hands w t c (subst (λ (u : Tier). IsTier law.may a.root given u c) (sym (fed_tier w s side p t h e)) safe) h

  -- removals

  ends : (ts : List ℕ) (w : State K) → Fine w → Fine (end_all w ts)
  ends [] w h = h
  ends (t ∷ ts) w h = ends ts (end w t) (end_fine k a given law (good_facts k a given law tiers bound) tiers bound w t h)

  may_both : (s : ℕ) (cs ds : List (Command K)) → AllMay (λ n. law.cells (tiers s) n s) cs → AllMay (λ n. law.cells (tiers s) n s) ds → AllMay (λ n. law.cells (tiers s) n s) (cs ++ ds)
  may_both s [] ds h g = g
  may_both s (c ∷ cs) ds h g = (h.0, may_both s cs ds h.1 g)

  goes : (v : State K) (s : ℕ) → Fine v → Fine (gone v s)
  goes v s h =
      let f = gone_same v s in
      well_gone (λ n x. R n x) (λ n o. law.cells (tiers o) n o) bound v (gone v s) s f.scopes f.cells (gone_next v s) h

  cleans : (s : ℕ) (es : List K.Effect) (v : State K) (later : List (Command K)) → AllQuiet later → AllMay (λ n. law.cells (tiers s) n s) later → Fine v → SafeO (cleaned_in app true s es v later)
  cleans s [] v later quiet may h =
      (commands_fine k a given law (good_facts k a given law tiers bound) tiers bound (gone v s) s None later quiet (λ live. may) (goes v s h), tt)
  cleans s (e ∷ es) v later quiet may h =
      let m : Meaning K Nothing = app.effect e (world_of v s None true) in
      let u : State K = with_next (called_once v) m.next in
      cleans s es u (later ++ m.commands) (quiet_both later m.commands quiet tt) (may_both s later m.commands may tt) (same v u refl refl refl h)

  pub removes : (w : State K) (s : ℕ) → Fine w → SafeO (removed app w s)
  removes w s h =
      let v : State K = stopped w s in
      let ended : State K = end_all w (tasks_in s w.tasks) in
      cleans s (clean_ups (hooks_of v s) []) v [] tt tt
      (
      turned (unmarked ended s) s (λ x. record x { effects = [] }) (λ x. record { component = refl; error = refl; hooks = refl; output = refl; main = refl; held = refl; fallback = refl })
      (same ended (unmarked ended s) refl refl refl (ends (tasks_in s w.tasks) w h))
      )

  -- polls and effects

  pub polls : (w : State K) (t : ℕ) (o : Option (TaskRow K)) → Fine w → SafeO (polled_at app w t o)
  polls w t None h = (h, tt)
  polls w t (Some x) h =
      let m = app.poll x.state (world_of w x.scope (Some t) false) in
      let v : State K = with_next (called_once w) m.next in
      let u : State K = end v t in (
        rests u (look u) (look_rests u) (end_fine k a given law (good_facts k a given law tiers bound) tiers bound v t (same w v refl refl refl h)),
        tt,
      )

  pub batches : (s : ℕ) (es : List K.Effect) (w : State K) → Fine w → SafeO (batch_then app (λ v. look v) w s es)
  batches s [] w h = (rests w (look w) (look_rests w) h, tt)
  batches s (e ∷ es) w h =
      fine_then (acted app w s e false) (λ v. batch_then app (λ u. look u) v s es) (acts w s e false h) (λ v g. batches s es v g)

  pub effects : (w : State K) (s : ℕ) → Fine w → SafeO (effects_run app w s)
  effects w s h =
      batches s (effects_of w s) (change w s (λ x. record x { effects = [] }))
      (turned w s (λ x. record x { effects = [] }) (λ x. record { component = refl; error = refl; hooks = refl; output = refl; main = refl; held = refl; fallback = refl }) h)

  pub mounts : (w : State K) → Fine w → Fine (mounted_state w)
  mounts w h =
      well_mounted (λ n x. R n x) (λ n o. law.cells (tiers o) n o) bound w
      (
      λ n x b g.
      good_alike k a given law tiers bound n x (record x { mounted = b }) (record { component = refl; error = refl; hooks = refl; output = refl; main = refl; held = refl; fallback = refl }) g
      )
      h
