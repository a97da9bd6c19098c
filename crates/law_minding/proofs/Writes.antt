-- A write of another cell minds a memo.
use Rattle.std.proofs.Common.{ℕ, true, false, List, ◌≡◌, inl, inr, refl, sym, ap, ◌∙◌, subst, nat_eq}
use Rattle.std.specs.Prelude.{Option, Some, None, is_some}
use Rattle.rt_model.specs.Lists.{at, put, has}
use Rattle.rt_model.specs.Tree.{Types}
use Rattle.rt_model.specs.World.{Source, Cell, Error, Context, Target, same_source}
use Rattle.rt_model.specs.State.{Woken, Scope, CellRow, TaskRow, ContextRow, State, values_of}
use Rattle.rt_model.specs.Commands.{names_source, written_at, tell}
use Rattle.rt_model.specs.Next.{is_active}
use Rattle.rt_model.proofs.Maps.{by_test, at_put_other}
use Rattle.rt_model.proofs.Members.{turned_round}
use Rattle.rt_model.proofs.SameTrees.{source_tests}
use Rattle.law_moves.specs.Heeds.{SameOf}
use Rattle.law_behavior.specs.Marking.{Targets}
use Rattle.law_behavior.specs.Owed.{IsWoken, OwesPoll}
use Rattle.law_behavior.proofs.Readers.{Posts, tell_posts, tell_readers}
use Rattle.law_minding.specs.Minding.{HasContext, MindsMemo, WritesMind}
use Rattle.law_minding.proofs.Polled.{cell_value, error_value, context_value, alike_on}

module _ {K : Types} where
  -- what was posted stays, so a wake stays
  pub owes_on : (w v : State K) (t : ℕ) → Posts w v → OwesPoll w t → OwesPoll v t
  owes_on w v t posts h active =
      elim (h (sym (ap (λ (x : State K). is_active x t) posts.alike) ∙ active)) as (λ z. IsWoken v t) [
        | inl posted ↦ inl (posts.keeps (Woken t) posted)
        | inr queued ↦ inr (ap (λ (x : State K). has x.queued t) posts.alike ∙ queued)
      ]

  -- another cell than the one that was put has the value that it had
  other_cell : (w v : State K) (n m : ℕ) (new : CellRow K) → v.cells ≡ put w.cells n new → nat_eq n m ≡ false
      → (values_of w).cell m ≡ (values_of v).cell m
  other_cell w v n m new e q =
      sym
      (ap (λ (es : List (ℕ × CellRow K)). cell_value (at es m)) e
      ∙ ap (λ (o : Option (CellRow K)). cell_value o) (at_put_other w.cells n new m q))

  -- and so has each other source
  same_others : (w v : State K) (n : ℕ) (new : CellRow K) → v.scopes ≡ w.scopes → v.cells ≡ put w.cells n new → (i : Source)
      → same_source i (Cell n) ≡ false
      → SameOf w v i
  same_others w v n new sc e (Cell m) q =
      other_cell w v n m new e (turned_round m n q)
  same_others w v n new sc e (Error s) q = ap (λ (es : List (ℕ × Scope K)). error_value (at es s)) (sym sc)
  same_others w v n new sc e (Context k s) q = ap (λ (es : List (ℕ × Scope K)). context_value k (at es s)) (sym sc)

  -- a change that isn't one minds every memo
  still : (w : State K) (t cell context : ℕ) (task : TaskRow K) (reads : ContextRow K) → HasContext w t context task reads
      → MindsMemo w w t cell context task task reads
  still w t cell context task reads rows =
      record {
        rows = rows;
        alike = alike_on w w t task task refl refl;
        holds = λ x e. e;
        stays = λ h. h;
        told = λ i e. inl (same i);
      }
    where
      same : (i : Source) → SameOf w w i
      same (Cell m) = refl
      same (Error s) = refl
      same (Context k s) = refl

  by_row : (w : State K) (t cell context n : ℕ) (v : K.Value) (task : TaskRow K) (reads : ContextRow K)
      → HasContext w t context task reads
      → nat_eq n cell ≡ false
      → (o : Option (CellRow K))
      → MindsMemo w (written_at w n v o) t cell context task task reads
  by_row w t cell context n v task reads rows other None = still w t cell context task reads rows
  by_row w t cell context n v task reads rows other (Some old) =
      let new : CellRow K = record old { value = v } in
      let u : State K = record w { cells = put w.cells n new } in
      let z : State K = tell u (Cell n) in
      let posts = tell_posts u (Cell n) in
      let scopes : z.scopes ≡ w.scopes = ap (λ (x : State K). x.scopes) posts.alike in
      let cells : z.cells ≡ put w.cells n new = ap (λ (x : State K). x.cells) posts.alike in
      record {
        rows = record {
          task_is = ap (λ (x : State K). at x.tasks t) posts.alike ∙ rows.task_is;
          context_is = ap (λ (x : State K). at x.contexts context) posts.alike ∙ rows.context_is;
          target = rows.target;
        };
        alike = alike_on w z t task task scopes refl;
        holds = λ x e. other_cell w z n cell new cells other ∙ e;
        stays = λ h. owes_on u z t posts h;
        told =
            λ i e.
            by_test (same_source i (Cell n))
            (
            λ is.
            let named : names_source reads.sources (Cell n) ≡ true =
            ap (λ (j : Source). names_source reads.sources j) (sym (source_tests.0 i (Cell n) is)) ∙ e in
            inr (λ active. inl ((tell_readers u (Cell n)).contexts context reads (Woken t) rows.context_is named (wakes u rows.task_is)))
            )
            (λ q. inl (same_others w z n new scopes cells i q));
      }
    where
      wakes : (m : State K) → at m.tasks t ≡ Some task → Targets m reads.target (Woken t)
      wakes m e =
          subst (λ (r : Target). Targets m r (Woken t)) (sym rows.target) (ap (λ (o : Option (TaskRow K)). is_some o) e, refl)

-- a write of another cell minds a memo
pub writes_mind : (K : Types) → WritesMind K
writes_mind K w t cell context n v task reads rows other = by_row w t cell context n v task reads rows other (at w.cells n)
