-- What an entry of a render runs, and that it runs none again.
use Rattle.std.proofs.Common.{ℕ, ◌+◌, Bool, true, false, ◌&&◌, List, [], ◌∷◌, ◌++◌, ◌≡◌, ◌⊎◌, inl, inr, refl, sym, ap, ◌∙◌, subst, arith, nat_eq}
use Rattle.std.specs.Prelude.{Option, Some, None, is_some, if◌then◌else◌}
use Rattle.std.proofs.lemmas.Bool.{eqb-true}
use Rattle.rt_lemmas.proofs.Numbers.{not_less}
use Rattle.rt_model.specs.Lists.{at, first_of}
use Rattle.rt_model.specs.Tree.{Types, Place, VComponent}
use Rattle.rt_model.specs.World.{Scopes, at_end, Application}
use Rattle.rt_model.specs.Laws.{IsLawful}
use Rattle.rt_model.specs.State.{SideName, Fault, IdsExhausted, TooDeep, OutOfTurns, Scope, State, Item, Draw, Row, Feed, Make, Drop, Outcome, Done, Cut, is_live}
use Rattle.rt_model.specs.Next.{Work, RerunScope, PollTask, RunEffects, at_rest, next, owes}
use Rattle.rt_model.specs.Run.{run}
use Rattle.rt_model.specs.Removal.{next_removed}
use Rattle.rt_model.specs.Heard.{Listener}
use Rattle.rt_model.specs.Replay.{is_quiet, Entry, Build, Taken, Heard, Rerun, Poll, Effects, Made, Fed, Kept, Removed, Input, Machine, ended_by, if_live, waiting, one_more_unit, fed_child, keeps, due_item, due_heard, due_work, due, made_in, with_new_scope, with_props, handed, outcome_of, rested, change_by, step}
use Rattle.rt_model.specs.Causes.{Limits, depth_refused, next_height, turns_refused, refusal}
use Rattle.rt_model.specs.Told.{opens}
use Rattle.rt_model.specs.Sentences.{runs, render_ends}
use Rattle.rt_model.proofs.Maps.{by_test, pick_true, pick_false}
use Rattle.rt_model.proofs.Stands.{Stands}
use Rattle.law_moves.specs.Moves.{IsSettled, AtWork}
use Rattle.law_moves.proofs.OneMoveOnly.{unsettled}
use Rattle.law_moves.proofs.Items.{due_at_work}
use Rattle.law_moves.proofs.Insides.{live_due, made_due, fed_due, fed_change}
use Rattle.law_moves.proofs.Twigs.{by_scope}
use Rattle.law_moves.proofs.Woven.{Woven}
use Rattle.law_moves.proofs.Everywhere.{fed_kid, ReadyAt}
use Rattle.law_behavior.specs.Once.{renders}
use Rattle.law_behavior.proofs.Since.{Since}
use Rattle.law_behavior.proofs.NoneAgain.{OneMore, not_both, SinceOn, ended_since}
use Rattle.law_behavior.proofs.Entries.{rerun_new, rerun_since, kept_since, fed_new, fed_since, made_new, born_run, drop_since}

-- at a look no scope ran
abbrev pub nobody : ℕ → Type 0
nobody u = ⊥

-- the scopes that ran, with the one of this entry
abbrev pub After : (ℕ → Type 0) → Entry → ℕ → Type 0
After ran (Made t) = OneMore ran t
After ran (Fed t) = OneMore ran t
After ran (Rerun t) = OneMore ran t
After ran (Build) = ran
After ran (Taken k) = ran
After ran (Heard s) = ran
After ran (Poll t) = ran
After ran (Effects s) = ran
After ran (Kept s) = ran
After ran (Removed s) = ran

pub ran_before : (ran : ℕ → Type 0) (e : Entry) (u : ℕ) → ran u → After ran e u
ran_before ran (Made t) u r = inl r
ran_before ran (Fed t) u r = inl r
ran_before ran (Rerun t) u r = inl r
ran_before ran (Build) u r = r
ran_before ran (Taken k) u r = r
ran_before ran (Heard s) u r = r
ran_before ran (Poll t) u r = r
ran_before ran (Effects s) u r = r
ran_before ran (Kept s) u r = r
ran_before ran (Removed s) u r = r

pub ran_now : (ran : ℕ → Type 0) (e : Entry) (u : ℕ) → runs u e ≡ true → After ran e u
ran_now ran (Made t) u q = inr (sym (eqb-true t u q))
ran_now ran (Fed t) u q = inr (sym (eqb-true t u q))
ran_now ran (Rerun t) u q = inr (sym (eqb-true t u q))
ran_now ran (Build) u q = let absurdity : false ≡ true = q in cc
ran_now ran (Taken k) u q = let absurdity : false ≡ true = q in cc
ran_now ran (Heard s) u q = let absurdity : false ≡ true = q in cc
ran_now ran (Poll t) u q = let absurdity : false ≡ true = q in cc
ran_now ran (Effects s) u q = let absurdity : false ≡ true = q in cc
ran_now ran (Kept s) u q = let absurdity : false ≡ true = q in cc
ran_now ran (Removed s) u q = let absurdity : false ≡ true = q in cc

four_false : (a b c d : Bool) → c ≡ false → a && b && c && d ≡ false
four_false true true true d h = cc
four_false true true false d h = refl
four_false true false true d h = cc
four_false true false false d h = refl
four_false false true c d h = refl
four_false false false c d h = refl

pub one_more : (n : ℕ) → nat_eq n (n + 1) ≡ false
one_more n = by_test (nat_eq n (n + 1)) (λ q. let same : n ≡ n + 1 = eqb-true n (n + 1) q in absurd (omega (arith, same))) (λ q. q)

abbrev at_most : Option ℕ → ℕ
at_most None = 0
at_most (Some n) = n

deep_enough : (units : ℕ) (o : Option ℕ) → depth_refused (record { units = units; height = at_most o; drain = 0 }) o ≡ None
deep_enough units None = refl
deep_enough units (Some n) = pick_false (Some (TooDeep n)) None (not_less n)

module _ {K : Types} where
  -- limits that refuse nothing here
  abbrev pub ample : Machine K → Limits
  ample m = record { units = m.units + 1; height = at_most (next_height m); drain = 0 }

  pub ample_fits : (m : Machine K) → m.dead ≡ None → refusal (ample m) m ≡ None
  ample_fits m alive =
      ap (λ (o : Option Fault). first_of o (first_of (depth_refused (ample m) (next_height m)) (turns_refused (ample m) m))) alive
      ∙ ap (λ (o : Option Fault). first_of o (turns_refused (ample m) m)) (deep_enough (m.units + 1) (next_height m))
      ∙ pick_false (Some (OutOfTurns (m.units + 1))) None (four_false m.built (is_quiet m) (nat_eq m.units (m.units + 1)) (owes m.state) (one_more m.units))

module _ {K : Types} (app : Application K) (lawful : IsLawful K app) where
  -- what an entry keeps, and that it runs none again
  abbrev pub Runs : (ℕ → Type 0) → Entry → Machine K → Type 0
  Runs ran e u = SinceOn app lawful ran (After ran e) u × ((t : ℕ) → runs t e ≡ true → ran t → ⊥)

  none_runs : {P : Type 0} → false ≡ true → P
  none_runs q = cc

  make_runs : (ran : ℕ → Type 0) (m : Machine K) (rest : List (Item K)) (s : ℕ) (a : SideName) (p : Place) (c : VComponent K) → m.dead ≡ None → m.work ≡ Make s a p c ∷ rest → is_live m.state s ≡ true → Since ran m.state (Make s a p c ∷ rest)
      → ReadyAt app lawful m → ReadyAt app lawful (ended_by m (Some (Make s a p c)) rest (outcome_of app m.state (Make s a p c)))
      → Runs ran (Made m.state.next_scope) (ended_by m (Some (Make s a p c)) rest (outcome_of app m.state (Make s a p c)))
  make_runs ran m rest s a p c alive first live h ready after =
      let w : State K = m.state in
      let now : Woven w (Make s a p c ∷ rest) = subst (λ (items : List (Item K)). Woven w items) first (ready.woven alive) in
      by_scope (at w.scopes s)
      (λ none. not_both (is_live w s) live (ap (λ (o : Option (Scope K)). is_some o) none))
      (
      λ x found. (
        ended_since app lawful ran (OneMore ran w.next_scope) m (Some (Make s a p c)) rest (outcome_of app w (Make s a p c)) after
            (
            λ v work e woven knows.
            let here : made_in app w s a p c x ≡ Done v work = sym (ap (λ (o : Option (Scope K)). elim o as (λ z. Outcome K) [ None ↦ Done w [] | Some y ↦ made_in app w s a p c y ]) found) ∙ e in
            born_run app lawful ran w s a p c rest x found h now ready.sound.rooted v work (not_cut w v work (run app (with_new_scope w s a p c x) w.next_scope) (at_end w.next_scope) here) woven knows
            ),
        λ t q r. made_new app lawful ran w s a p c rest x found h now ready.sound.rooted (subst (λ (n : ℕ). ran n) (sym (eqb-true w.next_scope t q)) r),
      )
      )
    where
      not_cut : (w v : State K) (work : List (Item K)) (o : Outcome K) (b : Bool) → (if b then Cut w (IdsExhausted Scopes) else o) ≡ Done v work → o ≡ Done v work
      not_cut w v work o true e = cc
      not_cut w v work o false e = e

  feed_runs : (ran : ℕ → Type 0) (m : Machine K) (rest : List (Item K)) (s t : ℕ) (a : SideName) (p : Place) (c : VComponent K) (b : Bool) → keeps app m.state t c ≡ b → m.dead ≡ None → m.work ≡ Feed s a p c ∷ rest → fed_child m.state s a p ≡ Some t
      → is_live m.state t ≡ true → Since ran m.state (Feed s a p c ∷ rest) → ReadyAt app lawful m → ReadyAt app lawful (ended_by m (Some (Feed s a p c)) rest (outcome_of app m.state (Feed s a p c)))
      → Runs ran (if b then Kept t else Fed t) (ended_by m (Some (Feed s a p c)) rest (outcome_of app m.state (Feed s a p c)))
  feed_runs ran m rest s t a p c true keep alive first is live h ready after =
      let w : State K = m.state in
      let now : Woven w (Feed s a p c ∷ rest) = subst (λ (items : List (Item K)). Woven w items) first (ready.woven alive) in
      let stands : Stands w (Feed s a p c ∷ rest) = subst (λ (items : List (Item K)). Stands w items) first (ready.sound.stands alive) in
      let kid = sym (fed_kid w s a p) ∙ is in (
        ended_since app lawful ran ran m (Some (Feed s a p c)) rest (outcome_of app w (Feed s a p c)) after
            (
            λ v work e woven knows.
            let here : Done (with_props app w t c) [] ≡ Done v work =
            sym (pick_true (Done (with_props app w t c) []) (run app (with_props app w t c) t) keep)
            ∙ sym (ap (λ (o : Option ℕ). elim o as (λ z. Outcome K) [ None ↦ Done w [] | Some k ↦ handed app w k c ]) is)
            ∙ e in
            let same : with_props app w t c ≡ v = cc in
            let none : [] ≡ work = cc in
            subst (λ (xs : List (Item K)). Since ran v (xs ++ rest)) none (subst (λ (y : State K). Since ran y rest) same (kept_since app lawful ran w s t a p c rest h now ready.sound.rooted stands kid live))
            ),
        λ u q r. none_runs q,
      )
  feed_runs ran m rest s t a p c false feeds alive first is live h ready after =
      let w : State K = m.state in
      let now : Woven w (Feed s a p c ∷ rest) = subst (λ (items : List (Item K)). Woven w items) first (ready.woven alive) in
      let stands : Stands w (Feed s a p c ∷ rest) = subst (λ (items : List (Item K)). Stands w items) first (ready.sound.stands alive) in
      let kid = sym (fed_kid w s a p) ∙ is in (
        ended_since app lawful ran (OneMore ran t) m (Some (Feed s a p c)) rest (outcome_of app w (Feed s a p c)) after
            (
            λ v work e woven knows.
            let here : run app (with_props app w t c) t ≡ Done v work =
            sym (pick_false (Done (with_props app w t c) []) (run app (with_props app w t c) t) feeds)
            ∙ sym (ap (λ (o : Option ℕ). elim o as (λ z. Outcome K) [ None ↦ Done w [] | Some k ↦ handed app w k c ]) is)
            ∙ e in
            fed_since app lawful ran w s t a p c rest h now ready.sound.rooted stands kid live v work here woven knows
            ),
        λ u q r. fed_new app lawful ran w s t a p c rest h now ready.sound.rooted stands kid live (subst (λ (n : ℕ). ran n) (sym (eqb-true t u q)) r),
      )

  not_plain : {P : Type 0} (d e : Entry) → e ≡ d → renders e ≡ true → renders d ≡ false → P
  not_plain d e same plain none = let absurdity : true ≡ false = sym plain ∙ ap (λ (x : Entry). renders x) same ∙ none in cc

  -- an entry where no work is open: a scope is rerun
  owed_runs : (ran : ℕ → Type 0) (m : Machine K) (work : Option Work) (inputs : List (Input K)) (e : Entry) → next m.state ≡ work → renders e ≡ true → (opens e ≡ true → render_ends m.state ≡ false) → Since ran m.state []
      → Stands m.state [] → ReadyAt app lawful m → if_live m.state (due_work app m work inputs) ≡ Some e
      → ReadyAt app lawful (change_by app m [] e)
      → Runs ran e (change_by app m [] e)
  owed_runs ran m (Some (RerunScope s)) inputs e is plain goes_on h stands ready due_is =
      let found = live_due app m.state (Rerun s) e due_is in
      let on : render_ends m.state ≡ false = goes_on (ap (λ (x : Entry). opens x) found.0) in
      subst (λ (x : Entry). ReadyAt app lawful (change_by app m [] x) → Runs ran x (change_by app m [] x)) (sym found.0)
      (
      λ after. (
        ended_since app lawful ran (OneMore ran s) (one_more_unit (rested app m)) None [] (run app (at_rest m.state) s) after
            (λ v work f woven knows. rerun_since app lawful ran m.state s is found.1 on h ready.sound.rooted stands v work f woven knows),
        λ t q r. rerun_new app lawful ran m.state s is found.1 on h ready.sound.rooted stands (subst (λ (n : ℕ). ran n) (sym (eqb-true s t q)) r),
      )
      )
  owed_runs ran m (Some (PollTask t)) inputs e is plain goes_on h stands ready due_is = not_plain (Poll t) e (live_due app m.state (Poll t) e due_is).0 plain refl
  owed_runs ran m (Some (RunEffects s)) inputs e is plain goes_on h stands ready due_is = not_plain (Effects s) e (live_due app m.state (Effects s) e due_is).0 plain refl
  owed_runs ran m None [] e is plain goes_on h stands ready due_is = cc
  owed_runs ran m None (input ∷ inputs) e is plain goes_on h stands ready due_is = not_plain (Taken (m.taken + 1)) e (live_due app m.state (Taken (m.taken + 1)) e due_is).0 plain refl

  heard_runs : (ran : ℕ → Type 0) (m : Machine K) (listeners : List (Listener K)) (e : Entry) → renders e ≡ true → (opens e ≡ true → render_ends m.state ≡ false) → Since ran m.state [] → Stands m.state [] → ReadyAt app lawful m
      → if_live m.state (due_heard app m listeners) ≡ Some e
      → ReadyAt app lawful (change_by app m [] e)
      → Runs ran e (change_by app m [] e)
  heard_runs ran m [] e plain goes_on h stands ready due_is = owed_runs ran m (next m.state) m.inputs e refl plain goes_on h stands ready due_is
  heard_runs ran m (l ∷ ls) e plain goes_on h stands ready due_is = not_plain (Heard l.origin) e (live_due app m.state (Heard l.origin) e due_is).0 plain refl

  idle_runs : (ran : ℕ → Type 0) (m : Machine K) (built : Bool) (e : Entry) → renders e ≡ true → (opens e ≡ true → render_ends m.state ≡ false) → Since ran m.state [] → Stands m.state [] → ReadyAt app lawful m
      → if_live m.state (if built then due_heard app m (waiting m) else Some Build) ≡ Some e
      → ReadyAt app lawful (change_by app m [] e)
      → Runs ran e (change_by app m [] e)
  idle_runs ran m true e plain goes_on h stands ready due_is = heard_runs ran m (waiting m) e plain goes_on h stands ready due_is
  idle_runs ran m false e plain goes_on h stands ready due_is = not_plain Build e (live_due app m.state Build e due_is).0 plain refl

  at_work_by : (m : Machine K) (item : Item K) (rest : List (Item K)) → m.work ≡ item ∷ rest → (m.work ≡ []) ⊎ AtWork m → AtWork m
  at_work_by m item rest first (inl none) = let absurdity : item ∷ rest ≡ [] = sym first ∙ none in cc
  at_work_by m item rest first (inr w) = w

  -- an entry, by the open work
  pub logged_runs : (ran : ℕ → Type 0) (m : Machine K) (work : List (Item K)) (e : Entry) → m.work ≡ work → m.dead ≡ None → (m.work ≡ []) ⊎ AtWork m → IsSettled m → due app m ≡ Some e → renders e ≡ true → (opens e ≡ true → render_ends m.state ≡ false)
      → Since ran m.state work → ReadyAt app lawful m → ReadyAt app lawful (change_by app m work e)
      → Runs ran e (change_by app m work e)
  logged_runs ran m [] e none alive at_work settled due_is plain goes_on h ready after =
      idle_runs ran m m.built e plain goes_on h (subst (λ (items : List (Item K)). Stands m.state items) none (ready.sound.stands alive)) ready
      (
      sym
      (ap (λ (o : Option Fault). if_live m.state (elim o as (λ z. Option Entry) [ None ↦ (if m.built then due_item app m m.work else Some Build) | Some fault ↦ None ])) alive
      ∙ ap (λ (items : List (Item K)). if_live m.state (if m.built then due_item app m items else Some Build)) none)
      ∙ due_is
      )
      after
  logged_runs ran m (Draw s a p k ∷ rest) e first alive at_work settled due_is plain goes_on h ready after = unsettled m (Draw s a p k ∷ rest) alive first refl settled
  logged_runs ran m (Row b step ∷ rest) e first alive at_work settled due_is plain goes_on h ready after = unsettled m (Row b step ∷ rest) alive first refl settled
  logged_runs ran m (Make s a p c ∷ rest) e first alive at_work settled due_is plain goes_on h ready after =
      let w : AtWork m = at_work_by m (Make s a p c) rest first at_work in
      let due_now : if_live m.state (due_item app m (Make s a p c ∷ rest)) ≡ Some e = sym (due_at_work app m (Make s a p c ∷ rest) w first) ∙ due_is in
      let found = made_due app m.state (is_live m.state s) m.state.next_scope e due_now in
      (subst (λ (x : Entry). ReadyAt app lawful (change_by app m (Make s a p c ∷ rest) x) → Runs ran x (change_by app m (Make s a p c ∷ rest) x)) (sym found.1)
      (λ next_ready. make_runs ran m rest s a p c alive first found.0 h ready next_ready)) after
  logged_runs ran m (Feed s a p c ∷ rest) e first alive at_work settled due_is plain goes_on h ready after =
      let w : AtWork m = at_work_by m (Feed s a p c) rest first at_work in
      let due_now : if_live m.state (due_item app m (Feed s a p c ∷ rest)) ≡ Some e = sym (due_at_work app m (Feed s a p c ∷ rest) w first) ∙ due_is in
      let found = fed_due app m.state c (fed_child m.state s a p) e due_now in
      let t : ℕ = found.0 in
      let b : Bool = keeps app m.state t c in
      (subst (λ (x : Entry). ReadyAt app lawful (change_by app m (Feed s a p c ∷ rest) x) → Runs ran x (change_by app m (Feed s a p c ∷ rest) x)) (sym found.2)
      (subst (λ (y : Machine K). ReadyAt app lawful y → Runs ran (if b then Kept t else Fed t) y) (sym (fed_change app m s a p c rest t b))
      (λ next_ready. feed_runs ran m rest s t a p c b refl alive first found.1 found.3 h ready next_ready))) after
  logged_runs ran m (Drop top parent a ∷ rest) e first alive at_work settled due_is plain goes_on h ready after =
      let w : AtWork m = at_work_by m (Drop top parent a) rest first at_work in
      let due_now : if_live m.state (due_item app m (Drop top parent a ∷ rest)) ≡ Some e = sym (due_at_work app m (Drop top parent a ∷ rest) w first) ∙ due_is in
      let l : ℕ = next_removed m.state top in
      let found = live_due app m.state (Removed l) e due_now in
      (subst (λ (x : Entry). ReadyAt app lawful (change_by app m (Drop top parent a ∷ rest) x) → Runs ran x (change_by app m (Drop top parent a ∷ rest) x)) (sym found.0)
      (λ next_ready. (drop_since app lawful ran m l (Drop top parent a) top rest h next_ready, λ t q r. none_runs q))) after
