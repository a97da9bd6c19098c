-- What the commands of a poll leave: the emptied context read its sources, and the cell was written, or not.
use Rattle.std.proofs.Common.{ℕ, true, false, List, [], ◌∷◌, ◌++◌, ◌≡◌, inl, inr, refl, sym, ap, ◌∙◌, subst, nat_eq}
use Rattle.std.specs.Prelude.{Option, Some, ◌⊎◌, is_some}
use Rattle.std.proofs.lemmas.Bool.{eqb-true}
use Rattle.rt_model.specs.Lists.{at, put, has}
use Rattle.rt_model.specs.Laws.{SameAt}
use Rattle.rt_model.specs.Tree.{Types}
use Rattle.rt_model.specs.World.{Source, Cell, Error, Context, Command, Reset, Write, Target, TaskTarget, World, Application}
use Rattle.rt_model.specs.State.{Woken, Scope, CellRow, TaskRow, ContextRow, State}
use Rattle.rt_model.specs.Commands.{names_source, written_at, tell, command, commands}
use Rattle.rt_model.proofs.Maps.{by_test, eq_same, at_put_here, at_put_other}
use Rattle.law_behavior.specs.Marking.{Targets}
use Rattle.law_behavior.specs.Owed.{IsWoken, OwesPoll}
use Rattle.law_behavior.proofs.Readers.{Posts, tell_posts, tell_readers}
use Rattle.author_formulas.specs.Polls.{reads_into}
use Rattle.law_minding.specs.Minding.{polled_world}
use Rattle.law_minding.proofs.Named.{each_or, gathered}
use Rattle.law_minding.proofs.Polled.{cell_value, error_value, context_value, Gathers, emptied_gathers, one_by_one}
use Rattle.law_minding.proofs.Since.{sees, Minding, Here}

-- the last of several values, which come after another one
abbrev pub last_value : {V : Type 0} → V → List V → V
last_value d [] = d
last_value d (v ∷ vs) = last_value v vs

module _ {K : Types} where
  -- a cell is written several times
  abbrev pub writes : ℕ → List K.Value → List (Command K)
  writes cell [] = []
  writes cell (v ∷ vs) = Write cell v ∷ writes cell vs

  pub writes_both : (cell : ℕ) (vs us : List K.Value) → writes cell (vs ++ us) ≡ writes cell vs ++ writes cell us
  writes_both cell [] us = refl
  writes_both cell (v ∷ vs) us = ap (λ (cs : List (Command K)). Write cell v ∷ cs) (writes_both cell vs us)

module _ {K : Types} (app : Application K) (s : ℕ) (polled : Option ℕ) (t context cell : ℕ) (later : TaskRow K) (row : ContextRow K) (target : row.target ≡ TaskTarget t) where
  -- from y to z one cell was written, and where its context read it the task is woken
  record Wrote (y z : State K) (new : CellRow K) : Type 0 where
    scopes : z.scopes ≡ y.scopes
    tasks : z.tasks ≡ y.tasks
    contexts : z.contexts ≡ y.contexts
    holds : at z.cells cell ≡ Some new
    others : (m : ℕ) → nat_eq cell m ≡ false → cell_value (at z.cells m) ≡ cell_value (at y.cells m)
    keeps : IsWoken y t → IsWoken z t
    told : (z.cells ≡ y.cells) ⊎ (names_source row.sources (Cell cell) ≡ true → IsWoken z t)

  -- one more write comes first
  module _ (v : K.Value) (vs : List K.Value) (y : State K) (old : CellRow K)
      (there : at y.cells cell ≡ Some old) (read : at y.contexts context ≡ Some row) (task : at y.tasks t ≡ Some later) where
    abbrev other : CellRow K
    other = record old { value = v }

    abbrev written : State K
    written = record y { cells = put y.cells cell other }

    abbrev told_of : State K
    told_of = tell written (Cell cell)

    posts : Posts written told_of
    posts = tell_posts written (Cell cell)

    is_told : command app y s polled (Write cell v) ≡ told_of
    is_told = ap (λ (o : Option (CellRow K)). written_at y cell v o) there

    wakes : Targets written row.target (Woken t)
    wakes = subst (λ (r : Target). Targets written r (Woken t)) (sym target) (ap (λ (o : Option (TaskRow K)). is_some o) task, refl)

    holds_now : at told_of.cells cell ≡ Some other
    holds_now = ap (λ (x : State K). at x.cells cell) posts.alike ∙ at_put_here y.cells cell other cell (eq_same cell)

    reads_now : at told_of.contexts context ≡ Some row
    reads_now = ap (λ (x : State K). at x.contexts context) posts.alike ∙ read

    task_now : at told_of.tasks t ≡ Some later
    task_now = ap (λ (x : State K). at x.tasks t) posts.alike ∙ task

    wrote_before : (z : State K) (new : CellRow K) → Wrote told_of z new → Wrote y z new
    wrote_before z new r =
        record {
          scopes = r.scopes ∙ ap (λ (x : State K). x.scopes) posts.alike;
          tasks = r.tasks ∙ ap (λ (x : State K). x.tasks) posts.alike;
          contexts = r.contexts ∙ ap (λ (x : State K). x.contexts) posts.alike;
          holds = r.holds;
          others =
              λ m q.
              r.others m q
              ∙ ap (λ (x : State K). cell_value (at x.cells m)) posts.alike
              ∙ ap (λ (o : Option (CellRow K)). cell_value o) (at_put_other y.cells cell other m q);
          keeps =
              λ h.
              r.keeps
              (elim h as (λ q. IsWoken told_of t) [
                | inl posted ↦ inl (posts.keeps (Woken t) posted)
                | inr queued ↦ inr (ap (λ (x : State K). has x.queued t) posts.alike ∙ queued)
              ]);
          told = inr (λ named. r.keeps (inl ((tell_readers written (Cell cell)).contexts context row (Woken t) read named wakes)));
        }

  all_wrote : (vs : List K.Value) (y : State K) (old : CellRow K) → at y.cells cell ≡ Some old → at y.contexts context ≡ Some row → at y.tasks t ≡ Some later
      → Wrote y (commands app y s polled (writes cell vs)) (record old { value = last_value old.value vs })
  all_wrote [] y old there read task =
      record { scopes = refl; tasks = refl; contexts = refl; holds = there; others = λ m q. refl; keeps = λ h. h; told = inl refl }
  all_wrote (v ∷ vs) y old there read task =
      let u : State K = told_of v vs y old there read task in
      let z : State K = commands app u s polled (writes cell vs) in
      subst (λ (x : State K). Wrote y (commands app x s polled (writes cell vs)) (record old { value = last_value v vs })) (sym (is_told v vs y old there read task))
      (wrote_before v vs y old there read task z (record old { value = last_value v vs })
      (all_wrote vs u (other v vs y old there read task) (holds_now v vs y old there read task) (reads_now v vs y old there read task)
      (task_now v vs y old there read task)))

module _
    {K : Types} (app : Application K) (s : ℕ) (polled : Option ℕ) (t context cell : ℕ) (w z : State K) (x later : TaskRow K) (place : K.TaskState)
    (r : ContextRow K) (held : CellRow K) (sources : List Source) (vs : List K.Value) where
  -- the context's row, the state once the sources were read, and once the cell was written
  abbrev pub row : ContextRow K
  row = record r { sources = gathered [] sources }

  abbrev mid : State K
  mid = commands app z s polled (Reset context ∷ reads_into context sources)

  abbrev ending : State K
  ending = commands app z s polled (Reset context ∷ (reads_into context sources ++ writes cell vs))

  abbrev pub new : CellRow K
  new = record held { value = last_value held.value vs }

  module _
      (scopes : z.scopes ≡ w.scopes) (cells : z.cells ≡ w.cells) (task : at z.tasks t ≡ Some later) (there : at z.contexts context ≡ Some r)
      (target : r.target ≡ TaskTarget t) (home : r.scope ≡ later.scope) (state_is : later.state ≡ place)
      (lives : is_some (at w.scopes later.scope) ≡ true) (holds : at w.cells cell ≡ Some held) where
    gathers : Gathers app s polled context z mid row
    gathers = emptied_gathers app s polled context sources z r there

    wrote : Wrote app s polled t context cell later row target mid (commands app mid s polled (writes cell vs)) new
    wrote =
        all_wrote app s polled t context cell later row target vs mid held
        (ap (λ (y : State K). at y.cells cell) gathers.alike ∙ ap (λ (es : List (ℕ × CellRow K)). at es cell) cells ∙ holds)
        gathers.row
        (ap (λ (y : State K). at y.tasks t) gathers.alike ∙ task)

    abbrev done : State K
    done = commands app mid s polled (writes cell vs)

    now_scopes : done.scopes ≡ w.scopes
    now_scopes = wrote.scopes ∙ ap (λ (y : State K). y.scopes) gathers.alike ∙ scopes

    mid_cells : mid.cells ≡ w.cells
    mid_cells = ap (λ (y : State K). y.cells) gathers.alike ∙ cells

    abbrev last : World K
    last = polled_world w t x

    seen : (i : Source) → names_source row.sources i ≡ true
        → SameAt last (sees last t context cell later.scope new place true row target home done) i ⊎ OwesPoll done t
    seen (Cell m) e =
        by_test (nat_eq cell m)
        (
        λ q.
        elim wrote.told as (λ h. SameAt last (sees last t context cell later.scope new place true row target home done) (Cell m) ⊎ OwesPoll done t) [
          | inl same ↦ inl (λ low. ap (λ (es : List (ℕ × CellRow K)). cell_value (at es m)) (sym (same ∙ mid_cells)))
          | inr told ↦ inr (λ active. told (ap (λ (k : ℕ). names_source row.sources (Cell k)) (eqb-true cell m q) ∙ e))
        ]
        )
        (λ q. inl (λ low. sym (wrote.others m q ∙ ap (λ (es : List (ℕ × CellRow K)). cell_value (at es m)) mid_cells)))
    seen (Error u) e = inl (ap (λ (es : List (ℕ × Scope K)). error_value (at es u)) (sym now_scopes))
    seen (Context k u) e = inl (ap (λ (es : List (ℕ × Scope K)). context_value k (at es u)) (sym now_scopes))

    minds : Minding last t context cell later.scope new place true row target home done
    minds =
        elim
        (each_or (OwesPoll done t) (λ i. SameAt last (sees last t context cell later.scope new place true row target home done) i) row.sources
        (λ i e. seen i e)) as (λ h. Minding last t context cell later.scope new place true row target home done) [
          | inl owed ↦ inl owed
          | inr current ↦ inr (refl, current)
        ]

    -- after these commands the task stands since this poll
    pub stands_done : Here last t context cell later.scope new place true row target home ending
    stands_done =
        subst (λ (y : State K). Here last t context cell later.scope new place true row target home y)
        (sym (one_by_one app s polled context (Reset context ∷ reads_into context sources) (writes cell vs) z))
        (record {
          row = later;
          is = ap (λ (es : List (ℕ × TaskRow K)). at es t) wrote.tasks ∙ ap (λ (y : State K). at y.tasks t) gathers.alike ∙ task;
          scope_is = refl;
          state_is = state_is;
          lives = ap (λ (es : List (ℕ × Scope K)). is_some (at es later.scope)) now_scopes ∙ lives;
          holds = wrote.holds;
          context = λ once. ap (λ (es : List (ℕ × ContextRow K)). at es context) wrote.contexts ∙ gathers.row;
          minds = minds;
        })
