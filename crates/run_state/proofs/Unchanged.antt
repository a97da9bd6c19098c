-- What a refusal leaves as it was, and changes that want no memory.
use Rattle.std.proofs.Common.{◌≡◌, ℕ, Bool, true, false, List, [], ◌∷◌, refl, ap, sym, subst, ◌∙◌, nat_eq}
use Rattle.std.specs.Coded.{Coded-set, coded_bool}
use Rattle.std.specs.Prelude.{Option, Some, None, Result, Ok, Err, IfSome, IfNone, IsOk, OnErr, if◌then◌else◌}
use Rattle.std.proofs.lemmas.Bool.{eqb-true}
use Rattle.std.proofs.Math.Logic.{∥∥₁_prop}
use Rattle.rt_lemmas.proofs.Lists.{one_proof}
use Rattle.rt_model.specs.Lists.{at, put, or_else}
use Rattle.rt_model.specs.OneLog.{types}
use Rattle.rt_model.specs.Tree.{Types}
use Rattle.rt_model.specs.State as model
use Rattle.rt_model.specs.State.{change}
use Rattle.rt_model.specs.Commands.{names_source}
use Rattle.rt_cells.specs.declared.sources.Source.{Source}
use Rattle.rt_cells.specs.declared.numbered.Held.{Held}
use Rattle.rt_cells.specs.declared.sources.Target.{Target}
use Rattle.rt_cells.specs.declared.sources.Reader.{Reader}
use Rattle.rt_cells.specs.declared.sources.Reader.TheVariants.{Context}
use Rattle.rt_cells.specs.Reads.{is_read_by, has as has_source, reads_of}
use Rattle.run_records.specs.Records.{source_of}
use Rattle.run_records.specs.Kept.{each, scope_of}
use Rattle.run_records.specs.declared.rest.Scope.{Scope}
use Rattle.run_owed.specs.Lists.{values_of}
use Rattle.run_owed.specs.Owing.{Owing}
use Rattle.run_owed.proofs.Tables.{values_put}
use Rattle.run_named.specs.Standings.{IsPlaced}
use Rattle.run_state.specs.Heights.{heights_of, task_scopes}
use Rattle.run_state.specs.Mounts.{IsWaiting, ways_of}
use Rattle.run_state.specs.Effects.{AreListed, has_rank}
use Rattle.run_state.specs.Readers.{AreHeard, AreKnown, read_by, read_in}
use Rattle.run_state.specs.declared.read_order.Reading.{Reading}
use Rattle.run_state.specs.Mirror.{Unkept, task_of, change_task, state_of}
use Rattle.run_state.specs.declared.state.TaskRow.{TaskRow}
use Rattle.run_state.specs.declared.state.State.{State}
use Rattle.run_state.proofs.Changed.{scope_changed, task_changed}

-- a fact of every refusal, put through an inference
pub on_err : {U X : Type 0} {A B : Type 0} (r : Result U X) → OnErr r A → (A → B) → OnErr r B
on_err (Ok u) a f = tt
on_err (Err e) a f = f a

module _ {A : Type 0} where
  -- a value that stands there already is put there again
  pub put-same : (es : List (ℕ × A)) (n : ℕ) (x : A) → at es n ≡ Some x → put es n x ≡ es
  put-same [] n x is = absurd (cc is)
  put-same (e ∷ es) n x is = by (nat_eq e.0 n) refl is (put-same es n x)
    where
      by : (b : Bool) → nat_eq e.0 n ≡ b → (if b then Some e.1 else at es n) ≡ Some x → (at es n ≡ Some x → put es n x ≡ es)
          → (if b then (n, x) ∷ es else e ∷ put es n x) ≡ e ∷ es
      by true own here rest =
          ap (λ (m : ℕ). (m, x) ∷ es) (sym (eqb-true e.0 n own)) ∙ ap (λ (a : A). (e.0, a) ∷ es) (sym (ap (λ (o : Option A). or_else x o) here))
      by false own here rest = ap (λ fs. e ∷ fs) (rest here)

module _ {A U X : Type 0} where
  -- a table whose change was refused by what leaves all as it was
  pub table_stays : (r : Result U X) (R : A → A → Type 0) (old new : List (ℕ × A)) (n : ℕ) (found : Option A) → at old n ≡ found
      → (at old n ≡ None → new ≡ old)
      → ((x : A) → at old n ≡ Some x → (y : A) × R x y × (new ≡ put old n y))
      → ((x y : A) → R x y → OnErr r (y ≡ x))
      → OnErr r (new ≡ old)
  table_stays (Ok u) R old new n found stood absent changed step = tt
  table_stays (Err e) R old new n None stood absent changed step = absent stood
  table_stays (Err e) R old new n (Some x) stood absent changed step =
      let made = changed x stood in
      made.2 ∙ ap (λ (y : A). put old n y) (step x made.0 made.1) ∙ put-same old n x stood

-- what is never refused
pub never : {U X : Type 0} (A : Type 0) (r : Result U X) → IsOk r → OnErr r A
never A (Ok u) ok = tt
never A (Err e) ok = absurd (cc ok)

-- what is known of readers has one proof
pub one_known : {K : Types} (scopes : List (ℕ × model.Scope K)) (reads : List (Reader × List Source)) (p q : AreKnown scopes reads) → p ≡ q
one_known scopes reads p q = λ i. record { each = λ s x. Coded-set coded_bool (is_read_by s x reads) (names_source (read_by scopes s) (source_of x)) (p.each s x) (q.each s x) i }

-- and what is known of reactive contexts
pub one_heard : (kept : List (ℕ × Held Target)) (order : List Reading) (reads : List (Reader × List Source)) (p q : AreHeard kept order reads) → p ≡ q
one_heard kept order reads p q =
    λ i. record { each = λ n x. Coded-set coded_bool (has_source x (reads_of (Context n) reads)) (names_source (read_in kept order n) (source_of x)) (p.each n x) (q.each n x) i }

-- so has what is listed
pub one_listed : {K : Types} (scopes : List (ℕ × model.Scope K)) (effects held : List (ℕ × ℕ)) (p q : AreListed scopes effects held) → p ≡ q
one_listed scopes effects held p q =
    λ i.
    record {
      each = λ s h r. Coded-set coded_bool (has_rank effects h s) true (p.each s h r) (q.each s h r) i;
      pairs = λ s t h. Coded-set coded_bool (has_rank held t s) true (p.pairs s t h) (q.pairs s t h) i;
    }

module _ {P C Q V H T E L : Type 0} where
  -- the state with other scopes, whose numbers are those that are entered
  abbrev with_table : (d : State P C Q V H T E L) (es : List (ℕ × Scope P C Q V H T E L)) → heights_of es ≡ (d.owed).scopes → task_scopes d.tasks ≡ (d.owed).tasks
      → ∥ IsWaiting (ways_of es) d.fresh d.hidden d.next_scope ∥₁ → ∥ IsPlaced (each scope_of es) d.places ∥₁ → AreKnown (each scope_of es) (d.cells).reads
      → AreHeard (d.cells).contexts d.read_order (d.cells).reads → AreListed (each scope_of es) d.effects d.held → State P C Q V H T E L
  with_table d es h k w p r e z = record d { rows = record { table = es }; entered = h; known = k; waiting = w; placed = p; readers = r; heard = e; listed = z }

  -- scopes as they were are the state as it was
  pub rows_same : (d : State P C Q V H T E L) (es : List (ℕ × Scope P C Q V H T E L)) (h : heights_of es ≡ (d.owed).scopes) (k : task_scopes d.tasks ≡ (d.owed).tasks)
      (w : ∥ IsWaiting (ways_of es) d.fresh d.hidden d.next_scope ∥₁) (p : ∥ IsPlaced (each scope_of es) d.places ∥₁) (r : AreKnown (each scope_of es) (d.cells).reads)
      (e : AreHeard (d.cells).contexts d.read_order (d.cells).reads) (z : AreListed (each scope_of es) d.effects d.held) → es ≡ (d.rows).table → with_table d es h k w p r e z ≡ d
  rows_same d es h k w p r e z is =
      subst
      (
      λ (fs : List (ℕ × Scope P C Q V H T E L)). (m : heights_of fs ≡ (d.owed).scopes) (l : ∥ IsWaiting (ways_of fs) d.fresh d.hidden d.next_scope ∥₁) (n : ∥ IsPlaced (each scope_of fs) d.places ∥₁)
      (o : AreKnown (each scope_of fs) (d.cells).reads) (z : AreListed (each scope_of fs) d.effects d.held) → with_table d fs m k l n o e z ≡ d
      )
      (sym is)
      (
      λ m l n o z i.
      with_table d (d.rows).table (one_proof (heights_of (d.rows).table) (d.owed).scopes m d.entered i) (one_proof (task_scopes d.tasks) (d.owed).tasks k d.known i)
      (∥∥₁_prop l d.waiting i) (∥∥₁_prop n d.placed i) (one_known (each scope_of (d.rows).table) (d.cells).reads o d.readers i) (one_heard (d.cells).contexts d.read_order (d.cells).reads e d.heard i) (one_listed (each scope_of (d.rows).table) d.effects d.held z d.listed i)
      )
      h w p r z

  -- the state with other tasks and owed things
  abbrev with_tasks : (d : State P C Q V H T E L) (o : Owing) (ts : List (ℕ × TaskRow P C Q V H T E L)) → heights_of (d.rows).table ≡ o.scopes → task_scopes ts ≡ o.tasks
      → ∥ IsWaiting (ways_of (d.rows).table) d.fresh d.hidden d.next_scope ∥₁ → ∥ IsPlaced (each scope_of (d.rows).table) d.places ∥₁ → AreKnown (each scope_of (d.rows).table) (d.cells).reads
      → AreHeard (d.cells).contexts d.read_order (d.cells).reads → AreListed (each scope_of (d.rows).table) d.effects d.held → State P C Q V H T E L
  with_tasks d o ts h k w p r e z = record d { owed = o; tasks = ts; entered = h; known = k; waiting = w; placed = p; readers = r; heard = e; listed = z }

  pub tasks_same : (d : State P C Q V H T E L) (o : Owing) (ts : List (ℕ × TaskRow P C Q V H T E L)) (h : heights_of (d.rows).table ≡ o.scopes) (k : task_scopes ts ≡ o.tasks)
      (w : ∥ IsWaiting (ways_of (d.rows).table) d.fresh d.hidden d.next_scope ∥₁) (p : ∥ IsPlaced (each scope_of (d.rows).table) d.places ∥₁) (r : AreKnown (each scope_of (d.rows).table) (d.cells).reads)
      (e : AreHeard (d.cells).contexts d.read_order (d.cells).reads) (z : AreListed (each scope_of (d.rows).table) d.effects d.held) → o ≡ d.owed → ts ≡ d.tasks → with_tasks d o ts h k w p r e z ≡ d
  tasks_same d o ts h k w p r e z owed tasks =
      subst (λ (a : Owing). (h : heights_of (d.rows).table ≡ a.scopes) (k : task_scopes ts ≡ a.tasks) → with_tasks d a ts h k w p r e z ≡ d) (sym owed)
      (
      λ h k.
      subst (λ (us : List (ℕ × TaskRow P C Q V H T E L)). (k : task_scopes us ≡ (d.owed).tasks) → with_tasks d d.owed us h k w p r e z ≡ d) (sym tasks)
      (
      λ k i.
      with_tasks d d.owed d.tasks (one_proof (heights_of (d.rows).table) (d.owed).scopes h d.entered i) (one_proof (task_scopes d.tasks) (d.owed).tasks k d.known i)
      (∥∥₁_prop w d.waiting i) (∥∥₁_prop p d.placed i) (one_known (each scope_of (d.rows).table) (d.cells).reads r d.readers i) (one_heard (d.cells).contexts d.read_order (d.cells).reads e d.heard i) (one_listed (each scope_of (d.rows).table) d.effects d.held z d.listed i)
      )
      k
      )
      h k

module _ {P C Q V H T E L U X : Type 0} where
  -- tasks that were refused
  pub tasks_stay : (r : Result U X) (d : State P C Q V H T E L) (o : Owing) (ts : List (ℕ × TaskRow P C Q V H T E L)) (h : heights_of (d.rows).table ≡ o.scopes) (k : task_scopes ts ≡ o.tasks)
      (w : ∥ IsWaiting (ways_of (d.rows).table) d.fresh d.hidden d.next_scope ∥₁) (p : ∥ IsPlaced (each scope_of (d.rows).table) d.places ∥₁) (a : AreKnown (each scope_of (d.rows).table) (d.cells).reads)
      (e : AreHeard (d.cells).contexts d.read_order (d.cells).reads) (z : AreListed (each scope_of (d.rows).table) d.effects d.held) → o ≡ d.owed → ts ≡ d.tasks → OnErr r (with_tasks d o ts h k w p a e z ≡ d)
  tasks_stay (Ok u) d o ts h k w p a e z owed tasks = tt
  tasks_stay (Err x) d o ts h k w p a e z owed tasks = tasks_same d o ts h k w p a e z owed tasks

  -- scopes whose change was refused
  pub scope_stays : (r : Result U X) (R : Scope P C Q V H T E L → Scope P C Q V H T E L → Type 0) (d : State P C Q V H T E L) (new : List (ℕ × Scope P C Q V H T E L)) (h : heights_of new ≡ (d.owed).scopes) (k : task_scopes d.tasks ≡ (d.owed).tasks)
      (w : ∥ IsWaiting (ways_of new) d.fresh d.hidden d.next_scope ∥₁) (p : ∥ IsPlaced (each scope_of new) d.places ∥₁) (a : AreKnown (each scope_of new) (d.cells).reads) (e : AreHeard (d.cells).contexts d.read_order (d.cells).reads) (z : AreListed (each scope_of new) d.effects d.held) (s : ℕ)
      → (at (d.rows).table s ≡ None → new ≡ (d.rows).table)
      → ((x : Scope P C Q V H T E L) → at (d.rows).table s ≡ Some x → (y : Scope P C Q V H T E L) × R x y × (new ≡ put (d.rows).table s y))
      → ((x y : Scope P C Q V H T E L) → R x y → OnErr r (y ≡ x))
      → OnErr r (with_table d new h k w p a e z ≡ d)
  scope_stays r R d new h k w p a e z s absent changed step =
      on_err r (table_stays r R (d.rows).table new s (at (d.rows).table s) refl absent changed step) (λ is. rows_same d new h k w p a e z is)

module _ {A : Type 0} (value : A → ℕ) where
  -- a change of one row that keeps its value leaves the values of a table
  pub values_changed : (R : A → A → Type 0) (old new : List (ℕ × A)) (n : ℕ)
      → (at old n ≡ None → new ≡ old)
      → ((x : A) → at old n ≡ Some x → (y : A) × R x y × (new ≡ put old n y))
      → ((x y : A) → R x y → value y ≡ value x)
      → values_of value new ≡ values_of value old
  values_changed R old new n absent changed stay = by (at old n) refl
    where
      by : (o : Option A) → at old n ≡ o → values_of value new ≡ values_of value old
      by None e = ap (λ (es : List (ℕ × A)). values_of value es) (absent e)
      by (Some x) e =
          let made = changed x e in
          ap (λ (es : List (ℕ × A)). values_of value es) made.2 ∙ values_put value old n made.0 x e (stay x made.0 made.1)

  -- a row that is put in the place of one with its value, where there is one
  pub values_replaced : (found : Option A) (old new : List (ℕ × A)) (n : ℕ) (a b : A) → at old n ≡ Some b → value a ≡ value b
      → found ≡ at old n → IfSome found (λ _. new ≡ put old n a) → IfNone found (new ≡ old) → values_of value new ≡ values_of value old
  values_replaced None old new n a b stood stay is made same = ap (λ (es : List (ℕ × A)). values_of value es) same
  values_replaced (Some x) old new n a b stood stay is made same = ap (λ (es : List (ℕ × A)). values_of value es) made ∙ values_put value old n a b stood stay

module _ {P C Q V H T E L : Type 0} where
  -- a change of a task that is never refused
  pub task_surely : (R : TaskRow P C Q V H T E L → TaskRow P C Q V H T E L → Type 0) (d : State P C Q V H T E L) (new : List (ℕ × TaskRow P C Q V H T E L)) (t : ℕ)
      (k : TaskRow P C Q V H T E L → TaskRow P C Q V H T E L) (h : model.TaskRow (types C Q V H T E L) → model.TaskRow (types C Q V H T E L))
      → (at d.tasks t ≡ None → new ≡ d.tasks)
      → ((x : TaskRow P C Q V H T E L) → at d.tasks t ≡ Some x → (y : TaskRow P C Q V H T E L) × R x y × (new ≡ put d.tasks t y))
      → ((x y : TaskRow P C Q V H T E L) → R x y → y ≡ k x)
      → ((x : TaskRow P C Q V H T E L) → task_of (k x) ≡ h (task_of x))
      → (g : Unkept (types C Q V H T E L)) → record (state_of g d) { tasks = each task_of new } ≡ change_task (state_of g d) t h
  task_surely R d new t k h absent changed step law =
      let done : Result ℕ ℕ = Ok 0 in
      task_changed done R d new t k h absent changed step law

  -- a change of a scope that is never refused
  pub scope_surely : (R : Scope P C Q V H T E L → Scope P C Q V H T E L → Type 0) (d : State P C Q V H T E L) (new : List (ℕ × Scope P C Q V H T E L)) (s : ℕ)
      (k : Scope P C Q V H T E L → Scope P C Q V H T E L) (h : model.Scope (types C Q V H T E L) → model.Scope (types C Q V H T E L))
      → (at (d.rows).table s ≡ None → new ≡ (d.rows).table)
      → ((x : Scope P C Q V H T E L) → at (d.rows).table s ≡ Some x → (y : Scope P C Q V H T E L) × R x y × (new ≡ put (d.rows).table s y))
      → ((x y : Scope P C Q V H T E L) → R x y → y ≡ k x)
      → ((x : Scope P C Q V H T E L) → scope_of (k x) ≡ h (scope_of x))
      → (g : Unkept (types C Q V H T E L)) → record (state_of g d) { scopes = each scope_of new } ≡ change (state_of g d) s h
  scope_surely R d new s k h absent changed step law =
      let done : Result ℕ ℕ = Ok 0 in
      scope_changed done R d new s k h absent changed step law
