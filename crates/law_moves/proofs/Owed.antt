-- What is owed to a scope, or what is current of it, with the steps of its run that are left; calm changes keep it.
use Rattle.std.proofs.Common.{ℕ, Bool, true, false, List, [], ◌∷◌, ◌++◌, ◌≡◌, ◌≤◌, ◌<◌, ◌⊎◌, refl, sym, ap, ◌∙◌, subst, nat_eq, nat_lt, arith, inl, inr}
use Rattle.std.specs.Prelude.{Option, Some, None, if◌then◌else◌}
use Rattle.rt_model.specs.Lists.{at}
use Rattle.rt_model.specs.Tree.{Types, Tree, VComponent, is_suspense_boundary, Element}
use Rattle.rt_model.specs.World.{Source, Cell, Error, Context, World, Application}
use Rattle.rt_model.specs.Laws.{SameAt}
use Rattle.rt_model.specs.State.{SideName, RowStep, Scope, LastCall, State, Item, Draw, Row, Feed, Make, Drop, is_held, values_of}
use Rattle.rt_model.specs.Commands.{names_source}
use Rattle.rt_model.specs.Run.{body_of, row_items}
use Rattle.rt_model.specs.Boundary.{tree_or_placeholder, children_of}
use Rattle.rt_model.specs.Current.{KeepsAnswer}
use Rattle.rt_model.proofs.Maps.{by_test, pick_true, pick_false, eq_same}
use Rattle.law_moves.specs.Heeds.{is_past, Leavings, leavings, Marked, SameOf, Heeds}
use Rattle.law_moves.specs.Fresh.{CallStands, Fresh}
use Rattle.law_moves.proofs.Marks.{all_named, named_of, each_or}
use Rattle.law_moves.proofs.Calm.{Pending, pending_on, Calm, reads_by}
use Rattle.law_moves.proofs.RunStages.{Stage, shows_at, steps_at, patched_at, held_at, called_at, unread_at}

rows_if : (b : Bool) (step : RowStep) (xs ys : List RowStep) → (if b then step ∷ (xs ++ ys) else xs ++ ys) ≡ (if b then step ∷ xs else xs) ++ ys
rows_if true step xs ys = refl
rows_if false step xs ys = refl

not_low : (m k n : ℕ) → m < k → k ≤ n → nat_lt m n ≡ false → ⊥
not_low m k n a b c = let here : m < n = omega (arith, a, b) in let there : nat_lt m n ≡ true = grind (arith, here) in let absurdity : true ≡ false = sym there ∙ c in cc

module _ {K : Types} where
  -- the steps of a scope's run among the open work, in order
  abbrev pub rows_of : ℕ → List (Item K) → List RowStep
  rows_of b [] = []
  rows_of b (Row c step ∷ rest) = if nat_eq c b then step ∷ rows_of b rest else rows_of b rest
  rows_of b (Draw s a p k ∷ rest) = rows_of b rest
  rows_of b (Feed s a p c ∷ rest) = rows_of b rest
  rows_of b (Make s a p c ∷ rest) = rows_of b rest
  rows_of b (Drop t s a ∷ rest) = rows_of b rest

  pub rows_join : (b : ℕ) (xs ys : List (Item K)) → rows_of b (xs ++ ys) ≡ rows_of b xs ++ rows_of b ys
  rows_join b [] ys = refl
  rows_join b (Row c step ∷ xs) ys =
      ap (λ (zs : List RowStep). if nat_eq c b then step ∷ zs else zs) (rows_join b xs ys) ∙ rows_if (nat_eq c b) step (rows_of b xs) (rows_of b ys)
  rows_join b (Draw s a p k ∷ xs) ys = rows_join b xs ys
  rows_join b (Feed s a p c ∷ xs) ys = rows_join b xs ys
  rows_join b (Make s a p c ∷ xs) ys = rows_join b xs ys
  rows_join b (Drop t s a ∷ xs) ys = rows_join b xs ys

  -- the first step of this scope
  pub rows_first : (b : ℕ) (step : RowStep) (rest : List (Item K)) → rows_of b (Row b step ∷ rest) ≡ step ∷ rows_of b rest
  rows_first b step rest = pick_true (step ∷ rows_of b rest) (rows_of b rest) (eq_same b)

  -- a step of another scope
  pub rows_other : (b c : ℕ) (step : RowStep) (rest : List (Item K)) → nat_eq c b ≡ false → rows_of b (Row c step ∷ rest) ≡ rows_of b rest
  rows_other b c step rest q = pick_false (step ∷ rows_of b rest) (rows_of b rest) q

  -- work without a step of any run
  abbrev pub NoRows : List (Item K) → Type 0
  NoRows work = (b : ℕ) → rows_of b work ≡ []

  pub after_none : (b : ℕ) (work rest : List (Item K)) → rows_of b work ≡ [] → rows_of b (work ++ rest) ≡ rows_of b rest
  after_none b work rest none = rows_join b work rest ∙ ap (λ (xs : List RowStep). xs ++ rows_of b rest) none

  component_by : (x y : Scope K) → leavings (Some y) ≡ leavings (Some x) → y.component ≡ x.component
  component_by x y h = ap (λ (o : Option (Leavings K)). elim o as (λ z. VComponent K) [ None ↦ x.component | Some f ↦ f.0 ]) h

  shows_by : (x y : Scope K) → leavings (Some y) ≡ leavings (Some x) → y.shows ≡ x.shows
  shows_by x y h = ap (λ (o : Option (Leavings K)). elim o as (λ z. Option SideName) [ None ↦ None | Some f ↦ f.2 ]) h

  main_by : (x y : Scope K) → leavings (Some y) ≡ leavings (Some x) → y.main_side.output ≡ x.main_side.output
  main_by x y h = ap (λ (o : Option (Leavings K)). elim o as (λ z. Option (Tree K)) [ None ↦ None | Some f ↦ f.3 ]) h

  children_by : (x y : Scope K) → leavings (Some y) ≡ leavings (Some x) → y.children_side.output ≡ x.children_side.output
  children_by x y h = ap (λ (o : Option (Leavings K)). elim o as (λ z. Option (Tree K)) [ None ↦ None | Some f ↦ f.4 ]) h

  fallback_by : (x y : Scope K) → leavings (Some y) ≡ leavings (Some x) → y.fallback_side.output ≡ x.fallback_side.output
  fallback_by x y h = ap (λ (o : Option (Leavings K)). elim o as (λ z. Option (Tree K)) [ None ↦ None | Some f ↦ f.5 ]) h

  -- what a run left of a scope, but for what it reads
  pub record Kept (x y : Scope K) : Type 0 where
    pub component : y.component ≡ x.component
    pub shows : y.shows ≡ x.shows
    pub main_output : y.main_side.output ≡ x.main_side.output
    pub children_output : y.children_side.output ≡ x.children_side.output
    pub fallback_output : y.fallback_side.output ≡ x.fallback_side.output

  pub kept_by : (x y : Scope K) → leavings (Some y) ≡ leavings (Some x) → Kept x y
  kept_by x y h =
      record { component = component_by x y h; shows = shows_by x y h; main_output = main_by x y h; children_output = children_by x y h; fallback_output = fallback_by x y h }

  pub kept_then : (x y z : Scope K) → Kept x y → Kept y z → Kept x z
  kept_then x y z f g =
      record {
        component = g.component ∙ f.component;
        shows = g.shows ∙ f.shows;
        main_output = g.main_output ∙ f.main_output;
        children_output = g.children_output ∙ f.children_output;
        fallback_output = g.fallback_output ∙ f.fallback_output;
      }

  -- the world of a call with the present values
  abbrev pub now_of : State K → LastCall K → World K
  now_of w last = record { given = last.given.given; values = values_of w }

  pub still_at : (w v : State K) (last : LastCall K) (i : Source) → SameAt last.given (now_of w last) i → SameOf w v i → SameAt last.given (now_of v last) i
  still_at w v last (Cell m) f same = λ low. f low ∙ same
  still_at w v last (Error t) f same = f ∙ same
  still_at w v last (Context k t) f same = f ∙ same

  -- what was read has its value still, or the reader is marked
  fresh_stays : (past : Option ℕ) (n : ℕ) (w v : State K) (s : ℕ) (x y : Scope K) (last : LastCall K) → Heeds past n w v → is_past past s ≡ false → at w.scopes s ≡ Some x
      → y.reads ≡ x.reads → last.given.given.next.cells ≤ n → Fresh w x last
      → Fresh v y last ⊎ Marked v s
  fresh_stays past n w v s x y last f p e same low fresh =
      let P : Source → Type 0 = λ (i : Source). SameAt last.given (now_of v last) i in
      let each : (i : Source) → names_source y.reads i ≡ true → P i ⊎ Marked v s = λ i q. one i (ap (λ (xs : List Source). names_source xs i) (sym same) ∙ q) in
      elim (each_or P y.reads (all_named (λ i. P i ⊎ Marked v s) y.reads each)) [ inl all ↦ inl (λ i q. named_of P y.reads all i q) | inr m ↦ inr m ]
    where
      still : (i : Source) → names_source x.reads i ≡ true → SameOf w v i ⊎ Marked v s → SameAt last.given (now_of v last) i ⊎ Marked v s
      still i q (inl h) = inl (still_at w v last i (fresh i q) h)
      still i q (inr m) = inr m

      one : (i : Source) → names_source x.reads i ≡ true → SameAt last.given (now_of v last) i ⊎ Marked v s
      one (Cell m) q =
          by_test (nat_lt m n)
          (λ l. let here : m < n = grind (arith, l) in still (Cell m) q (f.told s x (Cell m) p e q here))
          (λ l. inl (λ below. absurd (not_low m last.given.given.next.cells n below low l)))
      one (Error t) q = still (Error t) q (f.told s x (Error t) p e q tt)
      one (Context k t) q = still (Context k t) q (f.told s x (Context k t) p e q tt)

-- the steps of one run
pub rows_here : (K : Types) (b : ℕ) (steps : List RowStep) → rows_of {K = K} b (row_items b steps) ≡ steps
rows_here K b [] = refl
rows_here K b (step ∷ steps) = rows_first b step (row_items {K = K} b steps) ∙ ap (λ (xs : List RowStep). step ∷ xs) (rows_here K b steps)

pub rows_there : (K : Types) (b c : ℕ) (steps : List RowStep) → nat_eq c b ≡ false → rows_of {K = K} b (row_items c steps) ≡ []
rows_there K b c [] q = refl
rows_there K b c (step ∷ steps) q = rows_other b c step (row_items {K = K} c steps) q ∙ rows_there K b c steps q

module _ {K : Types} (app : Application K) where
  -- two bodies give the same answer and read the same in every world
  abbrev pub Alike : VComponent K → VComponent K → Type 0
  Alike c d = (u : World K) → ((body_of app c u).answer ≡ (body_of app d u).answer) × ((body_of app c u).reads ≡ (body_of app d u).reads)

  -- the last call stands, and nothing that it read has changed
  pub record Called (w : State K) (x : Scope K) (last : LastCall K) : Type 0 where
    -- the component that was called, or one that means the same
    pub caller : VComponent K
    pub alike : Alike caller x.component
    pub stands : CallStands x last (body_of app caller last.given)
    pub low : last.given.given.next.cells ≤ w.next.cells
    pub fresh : Fresh w x last

  -- another record of the scope with the same component and reads, or another one that means the same
  pub called_again : (w v : State K) (x y : Scope K) (last : LastCall K) (f : Called w x last) → Alike f.caller y.component → y.reads ≡ x.reads → last.given.given.next.cells ≤ v.next.cells → Fresh v y last → Called v y last
  called_again w v x y last f alike reads low fresh =
      record {
        caller = f.caller;
        alike = alike;
        stands = record { answer = f.stands.answer; reads = reads ∙ f.stands.reads; aside = f.stands.aside };
        low = low;
        fresh = fresh;
      }

  pub alike_by : (c d e : VComponent K) → Alike c d → e ≡ d → Alike c e
  alike_by c d e h same = subst (λ (z : VComponent K). Alike c z) (sym same) h

  pub called_stays : (past : Option ℕ) (n : ℕ) (w v : State K) (s : ℕ) (x y : Scope K) (last : LastCall K) → Calm past n w v → is_past past s ≡ false → at w.scopes s ≡ Some x
      → leavings (Some y) ≡ leavings (Some x) → last.given.given.next.cells ≤ n → Called w x last
      → Called v y last ⊎ Marked v s
  called_stays past n w v s x y last f p e same below c =
      elim (fresh_stays past n w v s x y last f.heeds p e (reads_by x y same) below c.fresh) [
        | inl fresh ↦
            inl
            (let first = c.low in
            let rises = f.rises in
            let low : last.given.given.next.cells ≤ v.next.cells = omega (arith, first, rises) in
            called_again w v x y last c (alike_by c.caller x.component y.component c.alike (component_by x y same)) (reads_by x y same) low fresh)
        | inr m ↦ inr m
      ]

  -- the body's call is current
  abbrev pub BodyCurrent : State K → ℕ → Scope K → Type 0
  BodyCurrent w s x = (last : LastCall K) × (at w.last_calls s ≡ Some last) × Called w x last × KeepsAnswer last last.answer x.main_side.output

  -- the fallback's call is current
  abbrev pub FallbackCurrent : State K → ℕ → Scope K → Type 0
  FallbackCurrent w s x = (last : LastCall K) × (at w.last_calls s ≡ Some last) × Called w x last × (x.fallback_side.output ≡ Some (tree_or_placeholder last.answer))

  -- what holds of a boundary at a stage of its run
  pub record StageHolds (w : State K) (b : ℕ) (x : Scope K) (g : Stage) : Type 0 where
    pub patched : patched_at g ≡ true → x.children_side.output ≡ Some (children_of x.component)
    pub held : (h : Bool) → held_at g ≡ Some h → is_held x ≡ h
    pub called : called_at g ≡ true → FallbackCurrent w b x

  -- a boundary's run is at a stage, and what is to hold there holds, or a run is pending
  pub record AtStage (w : State K) (rows : List RowStep) (b : ℕ) (x : Scope K) : Type 0 where
    pub stage : Stage
    pub shows : x.shows ≡ shows_at stage
    pub steps : rows ≡ steps_at stage
    pub unread : unread_at stage ≡ true → x.reads ≡ []
    pub owed : StageHolds w b x stage ⊎ Pending w b

  -- no step is left of another scope's run, and its output is current or a run is pending
  pub record AtBody (w : State K) (rows : List RowStep) (s : ℕ) (x : Scope K) : Type 0 where
    pub steps : rows ≡ []
    pub owed : BodyCurrent w s x ⊎ Pending w s

  abbrev pub OwesAs : Bool → State K → List RowStep → ℕ → Scope K → Type 0
  OwesAs true w rows s x = AtStage w rows s x
  OwesAs false w rows s x = AtBody w rows s x

  -- of a live scope, by the kind of its component
  abbrev pub ScopeOwes : State K → List RowStep → ℕ → Scope K → Type 0
  ScopeOwes w rows s x = OwesAs (is_suspense_boundary x.component) w rows s x

  -- of all live scopes
  abbrev pub Owes : State K → List (Item K) → Type 0
  Owes w work = (s : ℕ) (x : Scope K) → at w.scopes s ≡ Some x → ScopeOwes w (rows_of s work) s x

  keeps_by : (last : LastCall K) (a : Element K) (o p : Option (Tree K)) → p ≡ o → KeepsAnswer last a o → KeepsAnswer last a p
  keeps_by last a o p same h = subst (λ (z : Option (Tree K)). KeepsAnswer last a z) (sym same) h

  -- one scope under a calm change

  module _ (past : Option ℕ) (w v : State K) (f : Calm past w.next.cells w v) (s : ℕ) (x y : Scope K) (p : is_past past s ≡ false)
      (live : at w.scopes s ≡ Some x) (there : at v.scopes s ≡ Some y) (same : leavings (Some y) ≡ leavings (Some x)) where
    body_stays : BodyCurrent w s x ⊎ Pending w s → BodyCurrent v s y ⊎ Pending v s
    body_stays (inr m) = inr (pending_on past w.next.cells w v s x f p live m)
    body_stays (inl h) =
        elim (called_stays past w.next.cells w v s x y h.0 f p live same (h.2).low h.2) [
          | inl c ↦ inl (h.0, f.heeds.calls s p ∙ h.1, c, keeps_by h.0 (h.0).answer x.main_side.output y.main_side.output (main_by x y same) h.3)
          | inr m ↦ inr (inl m)
        ]

    fallback_stays : FallbackCurrent w s x → FallbackCurrent v s y ⊎ Marked v s
    fallback_stays h =
        elim (called_stays past w.next.cells w v s x y h.0 f p live same (h.2).low h.2) [
          | inl c ↦ inl (h.0, f.heeds.calls s p ∙ h.1, c, fallback_by x y same ∙ h.3)
          | inr m ↦ inr m
        ]

    patched_stays : x.children_side.output ≡ Some (children_of x.component) → y.children_side.output ≡ Some (children_of y.component)
    patched_stays h = children_by x y same ∙ h ∙ ap (λ (c : VComponent K). Some (children_of c)) (sym (component_by x y same))

    held_with : (g : Stage) → (is_held y ≡ is_held x) ⊎ Marked v s → (patched_at g ≡ true → y.children_side.output ≡ Some (children_of y.component)) → ((h : Bool) → held_at g ≡ Some h → is_held x ≡ h)
        → ((called_at g ≡ true → FallbackCurrent v s y) ⊎ Marked v s)
        → StageHolds v s y g ⊎ Pending v s
    held_with g (inr m) patched held called = inr (inl m)
    held_with g (inl e) patched held (inr m) = inr (inl m)
    held_with g (inl e) patched held (inl called) = inl (record { patched = patched; held = λ h q. e ∙ held h q; called = called })

    called_with : (b : Bool) → (b ≡ true → FallbackCurrent w s x) → (b ≡ true → FallbackCurrent v s y) ⊎ Marked v s
    called_with true h = elim (fallback_stays (h refl)) [ inl c ↦ inl (λ q. c) | inr m ↦ inr m ]
    called_with false h = inl (λ q. let absurdity : false ≡ true = q in cc)

    pub stage_stays : (g : Stage) → StageHolds w s x g ⊎ Pending w s → StageHolds v s y g ⊎ Pending v s
    stage_stays g (inr m) = inr (pending_on past w.next.cells w v s x f p live m)
    stage_stays g (inl h) = held_with g (f.heeds.held s x y p live there) (λ q. patched_stays (h.patched q)) h.held (called_with (called_at g) h.called)

    owes_as : (b : Bool) (rows : List RowStep) → OwesAs b w rows s x → OwesAs b v rows s y
    owes_as true rows h =
        record {
          stage = h.stage;
          shows = shows_by x y same ∙ h.shows;
          steps = h.steps;
          unread = λ q. reads_by x y same ∙ h.unread q;
          owed = stage_stays h.stage h.owed;
        }
    owes_as false rows h = record { steps = h.steps; owed = body_stays h.owed }

    kind_same : is_suspense_boundary y.component ≡ is_suspense_boundary x.component
    kind_same = ap (λ (c : VComponent K). is_suspense_boundary c) (component_by x y same)

    pub owes_stays : (rows : List RowStep) → ScopeOwes w rows s x → ScopeOwes v rows s y
    owes_stays rows h = subst (λ (b : Bool). OwesAs b v rows s y) (sym kind_same) (owes_as (is_suspense_boundary x.component) rows h)
