-- An entry that runs the scope of a page, or hands it a component: it is that page still, and a call of its body was given its hooks.
use Rattle.std.proofs.Common.{ℕ, ◌+◌, Bool, true, false, List, [], ◌∷◌, ◌≡◌, refl, sym, ap, ◌∙◌, subst, nat_eq}
use Rattle.std.proofs.lemmas.Bool.{eqb-true}
use Rattle.std.specs.Prelude.{Option, Some, None, if◌then◌else◌, length, is_some}
use Rattle.rt_model.specs.Lists.{at, drop_number}
use Rattle.rt_model.specs.Tree.{Types, Place, VComponent, Own, Root, Fragment, ErrorBoundary, SuspenseBoundary}
use Rattle.rt_model.specs.World.{Scopes, at_end, Application}
use Rattle.rt_model.specs.State.{SideName, Fault, IdsExhausted, Scope, State, Item, Draw, Row, Feed, Make, Drop, Outcome, Done, Cut, changed_scope, is_live}
use Rattle.rt_model.specs.Laws.{IsLawful}
use Rattle.rt_model.specs.Next.{Work, RerunScope, PollTask, RunEffects, look, found, paused, drop_then, drops, looked, at_rest, next}
use Rattle.rt_model.specs.Run.{run}
use Rattle.rt_model.specs.Values.{keeps_output}
use Rattle.rt_model.specs.Removal.{next_removed}
use Rattle.rt_model.specs.Heard.{Listener}
use Rattle.rt_model.specs.Replay.{Entry, Build, Taken, Heard, Rerun, Poll, Effects, Made, Fed, Kept, Removed, Input, Machine, ended_by, if_live, waiting, one_more_unit, with_new_scope, with_props, fed_child, keeps, handed, due_item, due_heard, due_work, due, made_in, outcome_of, rested, change_by}
use Rattle.rt_model.specs.Reports.{is_opening}
use Rattle.rt_model.proofs.Conjunctions.{and-left, and-right}
use Rattle.rt_model.proofs.Maps.{eq_same, at_put_here}
use Rattle.law_moves.specs.Sorts.{own_sort, sort_of}
use Rattle.law_moves.proofs.Insides.{live_due, made_due, fed_due, fed_change}
use Rattle.law_behavior.specs.Owed.{runs_in}
use Rattle.law_behavior.proofs.Steadfast.{of_others}
use Rattle.law_lasting.specs.ComponentsLast.{fed_in, component_of}
use Rattle.law_lasting.proofs.Told.{look_same}
use Rattle.author_programs.specs.Cells.{Keeping}
use Rattle.author_programs.specs.Pages.{Pages, meaning_of_pages}
use Rattle.law_reduce.proofs.Calling.{IsPage, Page_is, Told, DoneSo, StillSo, page_frame, run_gives, run_leaves, given_page}

module _ {K : Types} where
  -- what comes to rest has its scopes

  drop_scopes : (go : State K → State K) (w : State K) (o : Option ℕ) → ((v : State K) → (go v).scopes ≡ v.scopes) → (drop_then go w o).scopes ≡ w.scopes
  drop_scopes go w None g = refl
  drop_scopes go w (Some t) g = g (record w { queued = drop_number w.queued t })

  drops_scopes : (qs : List ℕ) (w : State K) → (drops qs w).scopes ≡ w.scopes
  drops_scopes [] w = refl
  drops_scopes (q ∷ qs) w = drop_scopes (λ v. drops qs v) w (paused w (found w)) (λ v. drops_scopes qs v)

  looked_scopes : (w : State K) (o : Option Work) → (looked w o).scopes ≡ w.scopes
  looked_scopes w (Some x) = refl
  looked_scopes w None = drops_scopes (look w).queued (look w) ∙ (look_same w).scopes

  rest_scopes : (w : State K) → (at_rest w).scopes ≡ w.scopes
  rest_scopes w = let v : State K = drops w.queued w in looked_scopes v (found v) ∙ drops_scopes w.queued w

module _ {K : Types} where
  -- a component of the sort of a page is that page's
  own_of_sort : (c : K.Component) (d : VComponent K) → own_sort c ≡ sort_of d → (q : K.Props) × (d ≡ Own c q)
  own_of_sort c (Own e q) h = let same : c ≡ e = cc in (q, ap (λ (i : K.Component). Own i q) (sym same))
  own_of_sort c (Root e q) h = cc
  own_of_sort c (Fragment t) h = cc
  own_of_sort c (ErrorBoundary t f) h = cc
  own_of_sort c (SuspenseBoundary t f) h = cc

  -- what open work hands a scope is of the scope's sort
  abbrev pub Fits : Machine K → Type 0
  Fits m =
      (r t : ℕ) (y : Scope K) (side : SideName) (q : Place) (d : VComponent K) (later : List (Item K))
      → m.work ≡ Feed r side q d ∷ later
      → fed_child m.state r side q ≡ Some t
      → at m.state.scopes t ≡ Some y
      → sort_of y.component ≡ sort_of d

module _ {K : Types} (k : Keeping K.Value) (a : Pages K) (lawful : IsLawful K (meaning_of_pages k a)) (s : ℕ) (own : List ℕ) (c : K.Component) (same : (q : K.Props) → length (a.page c q).cells ≡ length own) where
  abbrev app : Application K
  app = meaning_of_pages k a

  abbrev Here : State K → Type 0
  Here w = Page_is k a s own c w

  abbrev So : State K → Type 0
  So w = Told k a s own c w

  abbrev Ran : Outcome K → Type 0
  Ran o = DoneSo k a s own c o

  abbrev Still : Outcome K → Type 0
  Still o = StillSo k a s own c o

  at_the_end : (m : Machine K) (item : Option (Item K)) (rest : List (Item K)) (o : Outcome K) → Ran o → (ended_by m item rest o).dead ≡ None → So (ended_by m item rest o).state
  at_the_end m item rest (Done v work) h alive = h
  at_the_end m item rest (Cut v fault) h alive = let absurdity : Some fault ≡ None = alive in cc

  left_there : (m : Machine K) (item : Option (Item K)) (rest : List (Item K)) (o : Outcome K) → Still o → Here (ended_by m item rest o).state
  left_there m item rest (Done v work) h = h
  left_there m item rest (Cut v fault) h = h

  -- the scope is of the page with these very props
  abbrev Exactly : K.Props → State K → Type 0
  Exactly p w = component_of w s ≡ Some (Own c p)

  -- what comes of an entry that runs the scope, or hands it a component; where that runs nothing it is the one that it had
  pub record Comes (m : Machine K) (e : Entry) (u : Machine K) : Type 0 where
    pub handed : fed_in s e ≡ true → Here u.state
    pub ran : runs_in s e ≡ true → u.dead ≡ None → So u.state
    pub kept : fed_in s e ≡ true → runs_in s e ≡ false → (p : K.Props) → Exactly p m.state → Exactly p u.state

  abbrev After : Machine K → Entry → Machine K → Type 0
  After m e u = is_opening e ≡ false → Fits m → Here m.state → Comes m e u

  unfed_comes : (m : Machine K) (e : Entry) (u : Machine K) → fed_in s e ≡ false → (runs_in s e ≡ true → u.dead ≡ None → So u.state) → Comes m e u
  unfed_comes m e u unfed ran =
      record {
        handed = λ fed. let absurdity : false ≡ true = sym unfed ∙ fed in cc;
        ran = ran;
        kept = λ fed unrun p h. let absurdity : false ≡ true = sym unfed ∙ fed in cc;
      }

  neither_comes : (m : Machine K) (e : Entry) (u : Machine K) → fed_in s e ≡ false → runs_in s e ≡ false → Comes m e u
  neither_comes m e u unfed unrun = unfed_comes m e u unfed (λ runs alive. let absurdity : false ≡ true = sym unrun ∙ runs in cc)

  owed_by : (m : Machine K) (work : Option Work) (e : Entry) → if_live m.state (due_work app m work m.inputs) ≡ Some e → After m e (change_by app m [] e)
  owed_by m (Some (RerunScope r)) e due_is =
      let is : e ≡ Rerun r = (live_due app m.state (Rerun r) e due_is).0 in
      subst (λ (x : Entry). After m x (change_by app m [] x)) (sym is)
      (
      λ opens fits h.
      unfed_comes m (Rerun r) (change_by app m [] (Rerun r)) refl
      (
      λ runs alive.
      let o : Outcome K = run app (at_rest m.state) r in
      let rests : Here (at_rest m.state) = of_others s (IsPage k a s own c) m.state (at_rest m.state) (rest_scopes m.state) h in
      let ran : Ran o = subst (λ (n : ℕ). Ran (run app (at_rest m.state) n)) (sym (eqb-true r s runs)) (run_gives k a s own c same (at_rest m.state) rests) in
      at_the_end (one_more_unit (rested app m)) None [] o ran alive
      )
      )
  owed_by m (Some (PollTask r)) e due_is =
      let is : e ≡ Poll r = (live_due app m.state (Poll r) e due_is).0 in
      subst (λ (x : Entry). After m x (change_by app m [] x)) (sym is) (λ opens fits h. neither_comes m (Poll r) (change_by app m [] (Poll r)) refl refl)
  owed_by m (Some (RunEffects r)) e due_is =
      let is : e ≡ Effects r = (live_due app m.state (Effects r) e due_is).0 in
      subst (λ (x : Entry). After m x (change_by app m [] x)) (sym is) (λ opens fits h. neither_comes m (Effects r) (change_by app m [] (Effects r)) refl refl)
  owed_by m None e due_is = on m.inputs refl
    where
      on : (inputs : List (Input K)) → m.inputs ≡ inputs → After m e (change_by app m [] e)
      on [] more =
          let none : None ≡ Some e = sym (ap (λ (ins : List (Input K)). if_live m.state (due_work app m None ins)) more) ∙ due_is in
          cc
      on (input ∷ inputs) more =
          let taken : if_live m.state (Some (Taken (m.taken + 1))) ≡ Some e = sym (ap (λ (ins : List (Input K)). if_live m.state (due_work app m None ins)) more) ∙ due_is in
          let is : e ≡ Taken (m.taken + 1) = (live_due app m.state (Taken (m.taken + 1)) e taken).0 in
          subst (λ (x : Entry). After m x (change_by app m [] x)) (sym is) (λ opens fits h. let absurdity : true ≡ false = opens in cc)

  heard_by_entry : (m : Machine K) (ls : List (Listener K)) (e : Entry) → if_live m.state (due_heard app m ls) ≡ Some e → After m e (change_by app m [] e)
  heard_by_entry m [] e due_is = owed_by m (next m.state) e due_is
  heard_by_entry m (l ∷ ls) e due_is =
      let is : e ≡ Heard l.origin = (live_due app m.state (Heard l.origin) e due_is).0 in
      subst (λ (x : Entry). After m x (change_by app m [] x)) (sym is)
      (λ opens fits h. neither_comes m (Heard l.origin) (change_by app m [] (Heard l.origin)) refl refl)

  made_ran : (w : State K) (r : ℕ) (side : SideName) (q : Place) (d : VComponent K) (o : Option (Scope K)) → at w.scopes r ≡ o → is_some o ≡ true → nat_eq w.next_scope s ≡ true → Here w
      → Ran (elim o as (λ z. Outcome K) [ None ↦ Done w [] | Some x ↦ made_in app w r side q d x ])
  made_ran w r side q d None e live runs h = cc
  made_ran w r side q d (Some x) e live runs h = by_end (at_end w.next_scope)
    where
      now : Here (with_new_scope w r side q d x)
      now = (page_frame k a s own c).makes w r side q d x e h

      by_end : (b : Bool) → Ran (if b then Cut w (IdsExhausted Scopes) else run app (with_new_scope w r side q d x) w.next_scope)
      by_end true = tt
      by_end false = subst (λ (n : ℕ). Ran (run app (with_new_scope w r side q d x) n)) (sym (eqb-true w.next_scope s runs)) (run_gives k a s own c same (with_new_scope w r side q d x) now)

  -- where the scope is handed a component

  fed_one : (t : ℕ) (b : Bool) → fed_in s (if b then Kept t else Fed t) ≡ true → nat_eq t s ≡ true
  fed_one t true h = h
  fed_one t false h = h

  abbrev SortFits : State K → ℕ → VComponent K → Type 0
  SortFits w t d = (y : Scope K) → at w.scopes t ≡ Some y → sort_of y.component ≡ sort_of d

  given_here : (w : State K) (t : ℕ) (d : VComponent K) → nat_eq t s ≡ true → SortFits w t d → Here w → Here (with_props app w t d)
  given_here w t d q fits h =
      let there : at w.scopes t ≡ Some h.row = ap (λ (n : ℕ). at w.scopes n) (eqb-true t s q) ∙ h.there in
      let sort : own_sort c ≡ sort_of d = sym (ap (λ (x : VComponent K). sort_of x) (h.holds).2) ∙ fits h.row there in
      let page = own_of_sort c d sort in
      given_page k a s own c w t d page.0 page.1 h

  still_handed : (w : State K) (t : ℕ) (d : VComponent K) (b : Bool) → nat_eq t s ≡ true → SortFits w t d → Here w → Still (if b then Done (with_props app w t d) [] else run app (with_props app w t d) t)
  still_handed w t d true q fits h = given_here w t d q fits h
  still_handed w t d false q fits h =
      subst (λ (n : ℕ). Still (run app (with_props app w t d) n)) (sym (eqb-true t s q)) (run_leaves k a s own c (with_props app w t d) (given_here w t d q fits h))

  ran_handed : (w : State K) (t : ℕ) (d : VComponent K) (b : Bool) → runs_in s (if b then Kept t else Fed t) ≡ true → SortFits w t d → Here w → Ran (if b then Done (with_props app w t d) [] else run app (with_props app w t d) t)
  ran_handed w t d true runs fits h = let absurdity : false ≡ true = runs in cc
  ran_handed w t d false runs fits h =
      subst (λ (n : ℕ). Ran (run app (with_props app w t d) n)) (sym (eqb-true t s runs)) (run_gives k a s own c same (with_props app w t d) (given_here w t d runs fits h))

  -- a page's scope keeps its output where it is handed the very same
  keeps_same : (p : K.Props) (d : VComponent K) → keeps_output app (Own c p) d ≡ true → d ≡ Own c p
  keeps_same p (Own e q) h =
      let component : c ≡ e = lawful.tests_components.0 c e (and-left (app.same_component c e) (app.memoize c p q) h) in
      let props : p ≡ q = lawful.tests_props.0 p q (and-right (app.same_component c e) (app.memoize c p q) h) in
      ap (λ (i : K.Component). Own i q) (sym component) ∙ ap (λ (j : K.Props). Own c j) (sym props)
  keeps_same p (Root e q) h = let absurdity : false ≡ true = h in cc
  keeps_same p (Fragment t) h = let absurdity : false ≡ true = h in cc
  keeps_same p (ErrorBoundary t f) h = let absurdity : false ≡ true = h in cc
  keeps_same p (SuspenseBoundary t f) h = let absurdity : false ≡ true = h in cc

  with_same : (w : State K) (p : K.Props) (d : VComponent K) (o : Option (Scope K)) → at w.scopes s ≡ o
      → elim o as (λ z. Option (VComponent K)) [ None ↦ None | Some x ↦ Some x.component ] ≡ Some (Own c p)
      → elim o as (λ z. Bool) [ None ↦ false | Some x ↦ keeps_output app x.component d ] ≡ true
      → component_of (changed_scope w s (λ x. record x { component = d }) o) s ≡ Some (Own c p)
  with_same w p d None e h kept = cc
  with_same w p d (Some x) e h kept =
      let component : x.component ≡ Own c p = cc in
      let given : d ≡ Own c p = keeps_same p d (ap (λ (i : VComponent K). keeps_output app i d) (sym component) ∙ kept) in
      ap (λ (z : Option (Scope K)). elim z as (λ y. Option (VComponent K)) [ None ↦ None | Some y ↦ Some y.component ]) (at_put_here w.scopes s (record x { component = d }) s (eq_same s))
      ∙ ap (λ (i : VComponent K). Some i) given

  exactly_there : (m : Machine K) (item : Option (Item K)) (rest : List (Item K)) (p : K.Props) (v : State K) → Exactly p v → Exactly p (ended_by m item rest (Done v [])).state
  exactly_there m item rest p v h = h

  kept_handed : (m : Machine K) (item : Option (Item K)) (rest : List (Item K)) (t : ℕ) (d : VComponent K) (b : Bool) (p : K.Props)
      → keeps app m.state t d ≡ b
      → fed_in s (if b then Kept t else Fed t) ≡ true
      → runs_in s (if b then Kept t else Fed t) ≡ false
      → Exactly p m.state
      → Exactly p (ended_by m item rest (if b then Done (with_props app m.state t d) [] else run app (with_props app m.state t d) t)).state
  kept_handed m item rest t d true p is fed unrun h =
      let scope : t ≡ s = eqb-true t s fed in
      let kept : keeps app m.state s d ≡ true = ap (λ (n : ℕ). keeps app m.state n d) (sym scope) ∙ is in
      exactly_there m item rest p (with_props app m.state t d)
      (subst (λ (n : ℕ). component_of (with_props app m.state n d) s ≡ Some (Own c p)) (sym scope) (with_same m.state p d (at m.state.scopes s) refl h kept))
  kept_handed m item rest t d false p is fed unrun h = let absurdity : true ≡ false = sym fed ∙ unrun in cc

  fed_after : (m : Machine K) (r t : ℕ) (side : SideName) (q : Place) (d : VComponent K) (rest : List (Item K)) (b : Bool)
      → keeps app m.state t d ≡ b
      → fed_child m.state r side q ≡ Some t
      → SortFits m.state t d
      → Here m.state
      → Comes m (if b then Kept t else Fed t) (ended_by m (Some (Feed r side q d)) rest (outcome_of app m.state (Feed r side q d)))
  fed_after m r t side q d rest b is child fits h =
      let item : Option (Item K) = Some (Feed r side q d) in
      let o : Outcome K = outcome_of app m.state (Feed r side q d) in
      let u : Outcome K = if b then Done (with_props app m.state t d) [] else run app (with_props app m.state t d) t in
      let same_outcome : u ≡ o =
      sym
      (
      ap (λ (z : Option ℕ). elim z as (λ i. Outcome K) [ None ↦ Done m.state [] | Some n ↦ handed app m.state n d ]) child
      ∙ ap (λ (i : Bool). if i then Done (with_props app m.state t d) [] else run app (with_props app m.state t d) t) is
      ) in
      subst (λ (z : Outcome K). Comes m (if b then Kept t else Fed t) (ended_by m item rest z)) same_outcome
      (record {
        handed = λ fed. left_there m item rest u (still_handed m.state t d b (fed_one t b fed) fits h);
        ran = λ runs alive. at_the_end m item rest u (ran_handed m.state t d b runs fits h) alive;
        kept = λ fed unrun p exactly. kept_handed m item rest t d b p is fed unrun exactly;
      })

  item_by : (m : Machine K) (work : List (Item K)) (e : Entry) → m.work ≡ work → if_live m.state (due_item app m work) ≡ Some e → After m e (change_by app m work e)
  item_by m [] e first due_is = heard_by_entry m (waiting m) e due_is
  item_by m (Draw r side q kind ∷ rest) e first due_is = cc
  item_by m (Row b step ∷ rest) e first due_is = cc
  item_by m (Make r side q d ∷ rest) e first due_is =
      let made = made_due app m.state (is_live m.state r) m.state.next_scope e due_is in
      let n : ℕ = m.state.next_scope in
      subst (λ (x : Entry). After m x (change_by app m (Make r side q d ∷ rest) x)) (sym made.1)
      (
      λ opens fits h.
      unfed_comes m (Made n) (change_by app m (Make r side q d ∷ rest) (Made n)) refl
      (
      λ runs alive.
      at_the_end m (Some (Make r side q d)) rest (outcome_of app m.state (Make r side q d)) (made_ran m.state r side q d (at m.state.scopes r) refl made.0 runs h) alive
      )
      )
  item_by m (Feed r side q d ∷ rest) e first due_is =
      let is = fed_due app m.state d (fed_child m.state r side q) e due_is in
      let t : ℕ = is.0 in
      let b : Bool = keeps app m.state t d in
      subst (λ (x : Entry). After m x (change_by app m (Feed r side q d ∷ rest) x)) (sym is.2)
      (subst (λ (y : Machine K). After m (if b then Kept t else Fed t) y) (sym (fed_change app m r side q d rest t b))
      (λ opens fits h. fed_after m r t side q d rest b refl is.1 (λ y there. fits r t y side q d rest first is.1 there) h))
  item_by m (Drop top parent side ∷ rest) e first due_is =
      let r : ℕ = next_removed m.state top in
      let is : e ≡ Removed r = (live_due app m.state (Removed r) e due_is).0 in
      subst (λ (x : Entry). After m x (change_by app m (Drop top parent side ∷ rest) x)) (sym is)
      (λ opens fits h. neither_comes m (Removed r) (change_by app m (Drop top parent side ∷ rest) (Removed r)) refl refl)

  -- once the build has begun
  abbrev AfterBuilt : Machine K → Entry → Machine K → Type 0
  AfterBuilt m e u = is_opening e ≡ false → (m.built ≡ true → Fits m) → Here m.state → Comes m e u

  pub logged_by : (m : Machine K) (e : Entry) → due app m ≡ Some e → AfterBuilt m e (change_by app m m.work e)
  logged_by m e due_is = on m.dead refl
    where
      built_by : (b : Bool) → m.built ≡ b → if_live m.state (if b then due_item app m m.work else Some Build) ≡ Some e → AfterBuilt m e (change_by app m m.work e)
      built_by true built h = λ opens fits here. item_by m m.work e refl h opens (fits built) here
      built_by false built h =
          let is : e ≡ Build = (live_due app m.state Build e h).0 in
          subst (λ (x : Entry). AfterBuilt m x (change_by app m m.work x)) (sym is) (λ opens fits q. let absurdity : true ≡ false = opens in cc)

      on : (o : Option Fault) → m.dead ≡ o → AfterBuilt m e (change_by app m m.work e)
      on None alive =
          built_by m.built refl
          (sym (ap (λ (o : Option Fault). if_live m.state (elim o as (λ z. Option Entry) [ None ↦ (if m.built then due_item app m m.work else Some Build) | Some fault ↦ None ])) alive) ∙ due_is)
      on (Some fault) dead =
          let none : None ≡ Some e =
          sym (ap (λ (o : Option Fault). if_live m.state (elim o as (λ z. Option Entry) [ None ↦ (if m.built then due_item app m m.work else Some Build) | Some f ↦ None ])) dead) ∙ due_is in
          cc
