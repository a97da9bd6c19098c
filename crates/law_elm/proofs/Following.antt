-- Whatever moves lead to in an application of pages in which nothing fails: each scope is as it has to be, each cell, and the open work.
use Rattle.std.proofs.Common.{ℕ, ◌+◌, ◌≤◌, Bool, true, false, List, [], ◌∷◌, ◌++◌, ◌≡◌, refl, sym, ap, ◌∙◌, subst, arith}
use Rattle.std.specs.Prelude.{Option, Some, None, if◌then◌else◌}
use Rattle.rt_model.specs.Lists.{at}
use Rattle.rt_model.specs.Tree.{Types, VComponent, Fragment, suspended, Place}
use Rattle.rt_model.specs.World.{Scopes, at_end, Application}
use Rattle.rt_model.specs.State.{SideName, IdsExhausted, Scope, State, Item, Draw, Row, Feed, Make, Drop, Outcome, Done, Cut}
use Rattle.rt_model.specs.Commands.{unqueued}
use Rattle.rt_model.specs.Next.{at_rest}
use Rattle.rt_model.specs.Run.{run}
use Rattle.rt_model.specs.Removal.{removed}
use Rattle.rt_model.specs.Replay.{with_new_scope, mounted_state, made_in, outcome_of, polled, effects_run, take_next, heard_event, rested}
use Rattle.rt_model.proofs.Maps.{none_some}
use Rattle.law_moves.specs.Calls.{IsReady}
use Rattle.law_moves.proofs.Always.{Outlasts}
use Rattle.author_programs.specs.Cells.{Keeping}
use Rattle.author_programs.specs.Pages.{Pages, meaning_of_pages}
use Rattle.law_elm.proofs.Tiers.{Tier, next_tier, Works, works_both}
use Rattle.law_elm.proofs.Rules.{Rules}
use Rattle.law_elm.proofs.Calmly.{rest_rests, take_rests, heard_rests}
use Rattle.law_elm.proofs.Standing.{Good, But}
use Rattle.law_elm.proofs.Running.{All, RanO, run_safe}
use Rattle.law_elm.proofs.Growing.{more, works_more, made_well}
use Rattle.law_elm.proofs.Serving.{SafeO, same, rests, runs, draws, row_serves, feeds, removes, polls, effects, mounts}

module _ {K : Types} (k : Keeping K.Value) (a : Pages K) (given : K.Props) (law : Rules k a given) where
  -- all scopes and cells are such, and so is what is made or handed on in the open work
  pub record AllSafe (w : State K) (work : List (Item K)) : Type 0 where
    pub tiers : ℕ → Tier
    pub bound : ℕ
    pub well : All k a given law tiers bound (λ n x. Good k a given law tiers bound n x) w
    pub works : Works law.may a.root given tiers bound work
    pub fresh : (n : ℕ) → bound ≤ n → law.hooks n []

  abbrev meant : Application K
  meant = meaning_of_pages k a

  abbrev Safe : State K → List (Item K) → Type 0
  Safe w work = AllSafe w work

  -- after a change, with the work that was open
  abbrev SoO : List (Item K) → Outcome K → Type 0
  SoO rest (Done v work) = Safe v (work ++ rest)
  SoO rest (Cut v fault) = Unit {0}

  -- nothing new was told of scopes
  told : (w : State K) (first rest : List (Item K)) (h : Safe w first) → Works law.may a.root given h.tiers h.bound rest → (o : Outcome K) → SafeO k a given law h.tiers h.bound o → SoO rest o
  told w first rest h later (Done v work) g =
      record { tiers = h.tiers; bound = h.bound; well = g.0; works = works_both law.may a.root given h.tiers h.bound work rest g.1 later; fresh = h.fresh }
  told w first rest h later (Cut v fault) g = tt

  makes : (w : State K) (s : ℕ) (side : SideName) (p : Place) (c : VComponent K) (rest : List (Item K)) → Safe w (Make s side p c ∷ rest) → SoO rest (outcome_of meant w (Make s side p c))
  makes w s side p c rest h = on (at w.scopes s) refl
    where
      t : ℕ
      t = w.next_scope

      tier : Tier
      tier = next_tier (h.tiers s) side

      next : ℕ → Tier
      next = more h.tiers h.bound t tier h.well.drawn

      by_run : (v : State K) → All k a given law next (t + 1) (λ n z. But k a given law next (t + 1) t n z) v → (o : Option (Scope K)) → at v.scopes t ≡ o → (c : VComponent K) × RanO k a given law next (t + 1) t c (run meant v t)
      by_run v all None e = (Fragment (suspended 0 0), run_safe k a given law next (t + 1) v t (Fragment (suspended 0 0)) all (λ z there. none_some e there))
      by_run v all (Some z) e = (z.component, run_safe k a given law next (t + 1) v t z.component all (λ i there. one z i (sym e ∙ there)))
        where
          one : (z i : Scope K) → Some z ≡ Some i → i.component ≡ z.component
          one z i q = ap (λ (o : Option (Scope K)). elim o as (λ j. VComponent K) [ None ↦ z.component | Some j ↦ j.component ]) (sym q)

      so : (c : VComponent K) (o : Outcome K) → RanO k a given law next (t + 1) t c o → SoO rest o
      so c (Done v work) g =
          record {
            tiers = next;
            bound = t + 1;
            well = g.0;
            works = works_both law.may a.root given next (t + 1) work rest g.1 (works_more k a given law h.tiers h.bound t tier h.well.drawn rest h.works.1);
            fresh = λ n low. let most : h.bound ≤ t = h.well.drawn in h.fresh n (omega (arith, low, most));
          }
      so c (Cut v fault) g = tt

      made : (x : Scope K) → at w.scopes s ≡ Some x → (b : Bool) → SoO rest (if b then Cut w (IdsExhausted Scopes) else run meant (with_new_scope w s side p c x) t)
      made x e true = tt
      made x e false =
          let v : State K = with_new_scope w s side p c x in
          let ran = by_run v (made_well k a given law h.tiers h.bound w s side p c x e h.works.0.0 (h.fresh t h.well.drawn) h.well) (at v.scopes t) refl in
          so ran.0 (run meant v t) ran.1

      on : (o : Option (Scope K)) → at w.scopes s ≡ o → SoO rest (elim o as (λ z. Outcome K) [ None ↦ Done w [] | Some x ↦ made_in meant w s side p c x ])
      on None e = record { tiers = h.tiers; bound = h.bound; well = h.well; works = h.works.1; fresh = h.fresh }
      on (Some x) e = made x e (at_end t)

  serves : (w : State K) (item : Item K) (rest : List (Item K)) → IsReady w item → Safe w (item ∷ rest) → SoO rest (outcome_of meant w item)
  serves w (Draw s side p kind) rest ready h =
      told w (Draw s side p kind ∷ rest) rest h h.works (outcome_of meant w (Draw s side p kind)) (draws k a given law h.tiers h.bound w s side p kind h.well)
  serves w (Row b step) rest ready h =
      told w (Row b step ∷ rest) rest h h.works.1 (outcome_of meant w (Row b step)) (row_serves k a given law h.tiers h.bound w b step h.works.0.0 h.well)
  serves w (Make s side p c) rest ready h = makes w s side p c rest h
  serves w (Feed s side p c) rest ready h =
      told w (Feed s side p c ∷ rest) rest h h.works.1 (outcome_of meant w (Feed s side p c)) (feeds k a given law h.tiers h.bound w s side p c h.works.0.0 h.well)
  serves w (Drop t s side) rest ready h = absurd ready

  so_on : (o : Outcome K) (v : State K) (work rest : List (Item K)) → SoO rest o → o ≡ Done v work → Safe v (work ++ rest)
  so_on o v work rest h e = subst (λ (z : Outcome K). SoO rest z) e h

  goes_so : (w v : State K) (scope : ℕ) (first rest work : List (Item K)) → (h : Safe w first) → Works law.may a.root given h.tiers h.bound rest → removed meant w scope ≡ Done v work → Safe v (work ++ rest)
  goes_so w v scope first rest work h later e =
      so_on (removed meant w scope) v work rest (told w first rest h later (removed meant w scope) (removes k a given law h.tiers h.bound w scope h.well)) e

  -- a change without work
  calm : (w v : State K) (first : List (Item K)) → (h : Safe w first) → All k a given law h.tiers h.bound (λ n x. Good k a given law h.tiers h.bound n x) v → Safe v []
  calm w v first h well = record { tiers = h.tiers; bound = h.bound; well = well; works = tt; fresh = h.fresh }

  rested_so : (w : State K) → Safe w [] → Safe (at_rest w) []
  rested_so w h = calm w (at_rest w) [] h (rests k a given law h.tiers h.bound w (at_rest w) (rest_rests w) h.well)

  alone : (w v : State K) (work : List (Item K)) (o : Outcome K) → (h : Safe w []) → SafeO k a given law h.tiers h.bound o → o ≡ Done v work → Safe v work
  alone w v work o h g e =
      let now = subst (λ (z : Outcome K). SafeO k a given law h.tiers h.bound z) e g in
      record { tiers = h.tiers; bound = h.bound; well = now.0; works = now.1; fresh = h.fresh }

  -- so it is wherever moves lead
  pub safe_lasts : Outlasts meant (λ w work. Safe w work)
  safe_lasts =
      record {
        inside =
            record {
              serves = λ w v item rest work ready h e. so_on (outcome_of meant w item) v work rest (serves w item rest ready h) e;
              drops = λ w v scope parent side rest work first live h e. goes_so w v scope (Drop scope parent side ∷ rest) rest work h h.works e;
              thins = λ w v scope top parent side rest work first other live h e. goes_so w v scope (Drop top parent side ∷ rest) (Drop top parent side ∷ rest) work h h.works e;
            };
        mounts = λ w h. calm w (mounted_state w) [] h (mounts k a given law h.tiers h.bound w h.well);
        builds = λ w v work h e. alone w v work (run meant w 0) h (runs k a given law h.tiers h.bound w 0 h.well) e;
        reruns =
            λ w v s work is live h e.
            let u : State K = at_rest w in
            let g : Safe u [] = rested_so w h in
            alone u v work (run meant u s) g (runs k a given law g.tiers g.bound u s g.well) e;
        polls =
            λ w v t work is live h e.
            let u : State K = at_rest w in
            let g : Safe u [] = rested_so w h in
            let z : State K = unqueued u t in
            alone u v work (polled meant u t) g
            (polls k a given law g.tiers g.bound z t (at u.tasks t) (same k a given law g.tiers g.bound u z refl refl refl g.well)) e;
        effects =
            λ w v s work is live h e.
            let u : State K = at_rest w in
            let g : Safe u [] = rested_so w h in
            alone u v work (effects_run meant u s) g (effects k a given law g.tiers g.bound u s g.well) e;
        takes =
            λ m input more none h.
            let u = rested meant m in
            let g : Safe u.state [] = rested_so m.state h in
            let v : State K = (take_next u (input ∷ more)).state in
            calm u.state v [] g (rests k a given law g.tiers g.bound u.state v (take_rests u input more) g.well);
        hears =
            λ m first others live h alive.
            let v : State K = (heard_event meant m first others m.event).state in
            calm m.state v [] h (rests k a given law h.tiers h.bound m.state v (heard_rests k a m first others m.event) h.well);
      }
