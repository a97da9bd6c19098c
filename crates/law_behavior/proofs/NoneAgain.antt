-- Each move of a render keeps what holds of the scopes that ran since the last look, and runs none of them again.
use Rattle.std.proofs.Common.{ℕ, ◌+◌, ◌≤◌, ◌<◌, Bool, true, false, List, [], ◌∷◌, ◌++◌, ◌≡◌, ◌⊎◌, inl, inr, refl, sym, ap, ◌∙◌, subst, arith}
use Rattle.std.specs.Prelude.{Option, Some, None, is_some, if◌then◌else◌}
use Rattle.std.specs.List.{AllByRecursion}
pub use Rattle.rt_lemmas.proofs.Bools.{contrary as not_both}
use Rattle.rt_model.specs.Lists.{at, has, drop_number}
use Rattle.rt_model.specs.Tree.{Types, Place, Kind, VComponent}
use Rattle.rt_model.specs.World.{Elements, at_end, Application}
use Rattle.rt_model.specs.Laws.{IsLawful}
use Rattle.rt_model.specs.State.{SideName, FallbackSide, RowStep, PatchChildren, MadeChildren, RunFallback, ShowFallback, ShowChildren, DropFallback, Resolve, Fault, IdsExhausted, Scope, State, Item, Draw, Row, Feed, Make, Drop, Outcome, Done, Cut, side_of, with_side, empty_side, change, changed_scope, is_live, height_of}
use Rattle.rt_model.specs.Run.{child_at, with_next, run}
use Rattle.rt_model.specs.Boundary.{side_scopes, drop_items, row_step, boundary_step}
use Rattle.rt_model.specs.Replay.{Machine, ended_by, numbered, draw_number, outcome_of}
use Rattle.rt_model.proofs.Among.{Among}
use Rattle.rt_model.proofs.RunFrames.{Later, LaterO, run_later, step_later}
use Rattle.rt_model.proofs.MachineFrames.{numbered_later}
use Rattle.law_moves.specs.Moves.{is_silent}
use Rattle.law_moves.proofs.Twigs.{up, below, kids, by_scope}
use Rattle.law_moves.proofs.Woven.{owner, After, Woven}
use Rattle.law_moves.proofs.Opens.{Opens, run_opens, row_opens}
use Rattle.law_moves.proofs.Weaves.{Knows, knows_of, put_side, numbered_twigs}
use Rattle.law_moves.proofs.Everywhere.{ReadyAt}
use Rattle.law_behavior.proofs.Unlooked.{Sees, changes, run_sees, row_sees}
use Rattle.law_behavior.proofs.Lines.{turns, Line, OfTurn, Any, clear_others, clear_step, Lined, run_lined, row_lined}
use Rattle.law_behavior.proofs.Since.{Fades, Early, Since, Shift, put_shift, since_rest, fades_unseen, calm_since, opened_since, opens_shift}
use Rattle.rt_model.proofs.Members.{number_left, number_gone}

-- one more scope ran
abbrev pub OneMore : (ℕ → Type 0) → ℕ → ℕ → Type 0
OneMore ran t u = ran u ⊎ (u ≡ t)

module _ {K : Types} where
  pub fades_same : (w v : State K) → v.seen ≡ w.seen → Fades w v
  fades_same w v e x h = sym (ap (λ (xs : List ℕ). has xs x) e) ∙ h

  pub fades_left : (w v : State K) (s : ℕ) → v.seen ≡ drop_number w.seen s → Fades w v
  fades_left w v s e x h = (number_left w.seen s x (sym (ap (λ (xs : List ℕ). has xs x) e) ∙ h)).0

  drawn_is : (w u v : State K) (work : List (Item K)) (fault : Fault) (b : Bool) → (if b then Cut w fault else Done u []) ≡ Done v work → (u ≡ v) × ([] ≡ work)
  drawn_is w u v work fault true e = cc
  drawn_is w u v work fault false e = (cc, cc)

  more_unseen : (ran : ℕ → Type 0) (w v : State K) (s : ℕ) → v.seen ≡ drop_number w.seen s → ((u : ℕ) → ran u → has w.seen u ≡ false) → (u : ℕ) → OneMore ran s u → has v.seen u ≡ false
  more_unseen ran w v s e h u (inl r) = fades_unseen ran w v (fades_left w v s e) h u r
  more_unseen ran w v s e h u (inr same) = ap (λ (n : ℕ). has v.seen n) same ∙ ap (λ (xs : List ℕ). has xs s) e ∙ number_gone w.seen s

  -- what comes behind a feed is of other scopes than the child
  pub behind_feed : (w : State K) (s t : ℕ) (a : SideName) (p : Place) (c : VComponent K) (rest : List (Item K)) → height_of w.scopes t ≡ height_of w.scopes s + 1 → AllByRecursion (λ (j : Item K). After w (Feed s a p c) j) rest
      → AllByRecursion (λ (j : Item K). owner j ≡ t → ⊥) rest
  behind_feed w s t a p c [] step h = tt
  behind_feed w s t a p c (j ∷ rest) step h = (one h.0, behind_feed w s t a p c rest step h.1)
    where
      one : After w (Feed s a p c) j → owner j ≡ t → ⊥
      one (inl low) e = let same : height_of w.scopes (owner j) ≡ height_of w.scopes t = ap (λ (n : ℕ). height_of w.scopes n) e in omega (arith, low, same, step)
      one (inr own) e =
          let same : height_of w.scopes (owner j) ≡ height_of w.scopes t = ap (λ (n : ℕ). height_of w.scopes n) e in
          let here : height_of w.scopes (owner j) ≡ height_of w.scopes s = ap (λ (n : ℕ). height_of w.scopes n) own.0 in
          omega (arith, same, here, step)

  pub others_of : (n : ℕ) (rest : List (Item K)) → ((j : Item K) → Among rest j → owner j ≡ n → ⊥) → AllByRecursion (λ (j : Item K). owner j ≡ n → ⊥) rest
  others_of n [] h = tt
  others_of n (j ∷ rest) h = (h j (inl refl), others_of n rest (λ i e. h i (inr e)))

  module _ (app : Application K) (lawful : IsLawful K app) (ran : ℕ → Type 0) where
    abbrev pub SinceOn : (ℕ → Type 0) → Machine K → Type 0
    SinceOn some m = m.dead ≡ None → Since some m.state m.work

    -- a change that isn't cut
    pub ended_since : (some : ℕ → Type 0) (m : Machine K) (item : Option (Item K)) (rest : List (Item K)) (o : Outcome K) → ReadyAt app lawful (ended_by m item rest o)
        → ((v : State K) (work : List (Item K)) → o ≡ Done v work → Woven v (work ++ rest) → Knows v → Since some v (work ++ rest))
        → SinceOn some (ended_by m item rest o)
    ended_since some m item rest (Done v work) ready f = λ alive. f v work refl (ready.woven alive) (knows_of v (work ++ rest) (ready.sound.stands alive))
    ended_since some m item rest (Cut v fault) ready f = λ alive. let absurdity : Some fault ≡ None = alive in cc

    -- a number is drawn
    draw_since : (w v : State K) (rest work : List (Item K)) (s : ℕ) (a : SideName) (p : Place) (k : Kind) → Since ran w (Draw s a p k ∷ rest) → draw_number w s a p k ≡ Done v work → Since ran v (work ++ rest)
    draw_since w v rest work s a p k h e =
        let u : State K = numbered w s a p k in
        let is = drawn_is w u v work (IdsExhausted Elements) (at_end w.next.elements) e in
        let same : u.next_scope ≡ w.next_scope = (numbered_later w s a p k).next_scope in
        let seen : u.seen ≡ w.seen = changes (with_next w (record (w.next) { elements = w.next.elements + 1 })) s (λ x. with_side x a (record (side_of x a) { numbers = (side_of x a).numbers ++ (p, k, w.next.elements) ∷ [] })) in
        subst (λ (xs : List (Item K)). Since ran v (xs ++ rest)) is.1
        (subst (λ (y : State K). Since ran y rest) is.0
        (calm_since ran w u rest (numbered_twigs w s a p k) (fades_same w u seen) (omega (arith, same)) (since_rest ran w (Draw s a p k) rest h)))

    -- a step of a boundary's run
    row_shift : (w v : State K) (work : List (Item K)) (b : ℕ) (x : Scope K) (step : RowStep) → at w.scopes b ≡ Some x → row_step app w b x step ≡ Done v work → (step ≡ DropFallback → ⊥) ⊎ (step ≡ DropFallback) → Shift w v b
    row_shift w v work b x step found e (inl other) = opens_shift app w b v work (subst (λ (o : Outcome K). Opens app w b o) e (row_opens app lawful w b x step other))
    row_shift w v work b x step found e (inr same) =
        let u : State K = change w b (λ y. record y { fallback_side = empty_side }) in
        let now : Done u (drop_items b FallbackSide (side_scopes w x.fallback_side)) ≡ Done v work = sym (ap (λ (i : RowStep). row_step app w b x i) same) ∙ e in
        let is : u ≡ v = cc in
        let put : u ≡ put_side w b FallbackSide x empty_side found = ap (λ (o : Option (Scope K)). changed_scope w b (λ y. record y { fallback_side = empty_side }) o) found in
        subst (λ (y : State K). Shift w y b) (sym put ∙ is) (put_shift w b FallbackSide x empty_side found)

    which_step : (step : RowStep) → (step ≡ DropFallback → ⊥) ⊎ (step ≡ DropFallback)
    which_step PatchChildren = inl (λ e. cc)
    which_step MadeChildren = inl (λ e. cc)
    which_step RunFallback = inl (λ e. cc)
    which_step ShowFallback = inl (λ e. cc)
    which_step ShowChildren = inl (λ e. cc)
    which_step DropFallback = inr refl
    which_step Resolve = inl (λ e. cc)

    stepped_since : (w v : State K) (rest work : List (Item K)) (b : ℕ) (step : RowStep) (x : Scope K) → at w.scopes b ≡ Some x → Since ran w (Row b step ∷ rest) → Woven w (Row b step ∷ rest) → row_step app w b x step ≡ Done v work → v.next_scope ≡ w.next_scope
        → Woven v (work ++ rest) → Knows v → Since ran v (work ++ rest)
    stepped_since w v rest work b step x found h now e same woven knows =
        let seen : v.seen ≡ w.seen = subst (λ (o : Outcome K). Sees w.seen o) e (row_sees app w b x step) in
        let ok : SideName → Type 0 = λ (a : SideName). turns step ≡ Some a in
        let lined : Line work × AllByRecursion (λ (i : Item K). OfTurn b ok i) work = subst (λ (o : Outcome K). Lined b ok o) e (row_lined app w b x step) in
        let left : Since ran w rest = since_rest ran w (Row b step) rest h in
        opened_since ran w v b ok work rest (row_shift w v work b x step found e (which_step step)) (fades_same w v seen) (omega (arith, same)) (fades_unseen ran w v (fades_same w v seen) h.unseen)
        (h.owners (Row b step) (inl refl)) lined.0 lined.1 (clear_step w b step rest now.stack.2 h.line.0)
        (λ u a r i g turn. h.unturned u b step a r i g (inl refl) turn)
        (λ u p r i. elim (h.above u p r i) [ inl q ↦ inl q | inr q ↦ inr ((q.0, λ j g. q.1 j (inr g)), q.1 (Row b step) (inl refl)) ])
        left.unfed left.unturned left.owners left.drawn left.line woven.stack knows

    row_since : (w v : State K) (rest work : List (Item K)) (b : ℕ) (step : RowStep) → Since ran w (Row b step ∷ rest) → Woven w (Row b step ∷ rest) → boundary_step app w b step ≡ Done v work
        → Woven v (work ++ rest) → Knows v → Since ran v (work ++ rest)
    row_since w v rest work b step h now e woven knows =
        let later : Later w v = subst (λ (o : Outcome K). LaterO w o) e (step_later app lawful w b step) in
        by_scope (at w.scopes b)
        (λ none. not_both (is_live w b) now.stack.0 (ap (λ (o : Option (Scope K)). is_some o) none))
        (
        λ x found.
        let here : row_step app w b x step ≡ Done v work = sym (ap (λ (o : Option (Scope K)). elim o as (λ z. Outcome K) [ None ↦ Done w [] | Some y ↦ row_step app w b y step ]) found) ∙ e in
        stepped_since w v rest work b step x found h now here later.next_scope woven knows
        )

    pub silent_since : (m : Machine K) (item : Item K) (rest : List (Item K)) → is_silent item ≡ true → Since ran m.state (item ∷ rest) → Woven m.state (item ∷ rest) → ReadyAt app lawful (ended_by m (Some item) rest (outcome_of app m.state item))
        → SinceOn ran (ended_by m (Some item) rest (outcome_of app m.state item))
    silent_since m (Draw s a p k) rest silent h now ready =
        ended_since ran m (Some (Draw s a p k)) rest (draw_number m.state s a p k) ready (λ v work e woven knows. draw_since m.state v rest work s a p k h e)
    silent_since m (Row b step) rest silent h now ready =
        ended_since ran m (Some (Row b step)) rest (boundary_step app m.state b step) ready (λ v work e woven knows. row_since m.state v rest work b step h now e woven knows)
    silent_since m (Feed s a p c) rest silent h now ready = cc
    silent_since m (Make s a p c) rest silent h now ready = cc
    silent_since m (Drop t s a) rest silent h now ready = cc

    -- a run of a scope that hadn't run
    pub run_since : (w v : State K) (rest work : List (Item K)) (s : ℕ) → is_live w s ≡ true → run app w s ≡ Done v work → Since ran w rest → s < w.next_scope
        → AllByRecursion (λ (j : Item K). owner j ≡ s → ⊥) rest
        → ((u : ℕ) → OneMore ran s u → up w u ≡ Some s → ⊥)
        → ((u p : ℕ) → OneMore ran s u → up w u ≡ Some p → OneMore ran s p ⊎ (Early w rest u × (height_of w.scopes u ≤ height_of w.scopes s)))
        → ((t : ℕ) (a : SideName) (p : Place) (c : VComponent K) → Among rest (Feed t a p c) → child_at (kids w t a) p ≡ Some s → ⊥)
        → ((b : ℕ) (step : RowStep) (a : SideName) → up w s ≡ Some b → below w s ≡ Some a → Among rest (Row b step) → turns step ≡ Some a → ⊥)
        → Woven v (work ++ rest) → Knows v → Since (OneMore ran s) v (work ++ rest)
    run_since w v rest work s live e h low_number others childless low unfed unturned woven knows =
        by_scope (at w.scopes s)
        (λ none. not_both (is_live w s) live (ap (λ (o : Option (Scope K)). is_some o) none))
        (
        λ x found.
        let seen : v.seen ≡ drop_number w.seen s = subst (λ (o : Outcome K). Sees (drop_number w.seen s) o) e (run_sees app w s x found) in
        let later : Later w v = subst (λ (o : Outcome K). LaterO w o) e (run_later app lawful w s) in
        let same : v.next_scope ≡ w.next_scope = later.next_scope in
        let lined : Line work × AllByRecursion (λ (i : Item K). OfTurn s Any i) work = subst (λ (o : Outcome K). Lined s Any o) e (run_lined app w s) in
        let more : ℕ → Type 0 = λ (u : ℕ). OneMore ran s u in
        opened_since more w v s Any work rest (opens_shift app w s v work (subst (λ (o : Outcome K). Opens app w s o) e (run_opens app lawful w s))) (fades_left w v s seen) (omega (arith, same))
        (more_unseen ran w v s seen h.unseen) (inr refl) lined.0 lined.1 (clear_others s Any rest others)
        (λ u a r i g k. childless u r i) low
        (λ u t a p c r i kid. fed_either u t a p c r i kid)
        (λ u b step a r i g j turn. turned_either u b step a r i g j turn)
        (λ j i. inl (h.owners j i)) (λ u r. drawn_either u r) h.line woven.stack knows
        )
      where
        fed_either : (u t : ℕ) (a : SideName) (p : Place) (c : VComponent K) → OneMore ran s u → Among rest (Feed t a p c) → child_at (kids w t a) p ≡ Some u → ⊥
        fed_either u t a p c (inl r) i kid = h.unfed u t a p c r i kid
        fed_either u t a p c (inr own) i kid = unfed t a p c i (kid ∙ ap (λ (n : ℕ). Some n) own)

        turned_either : (u b : ℕ) (step : RowStep) (a : SideName) → OneMore ran s u → up w u ≡ Some b → below w u ≡ Some a → Among rest (Row b step) → turns step ≡ Some a → ⊥
        turned_either u b step a (inl r) i g j turn = h.unturned u b step a r i g j turn
        turned_either u b step a (inr own) i g j turn = unturned b step a (sym (ap (λ (n : ℕ). up w n) own) ∙ i) (sym (ap (λ (n : ℕ). below w n) own) ∙ g) j turn

        drawn_either : (u : ℕ) → OneMore ran s u → u < w.next_scope
        drawn_either u (inl r) = h.drawn u r
        drawn_either u (inr own) = omega (arith, own, low_number)
