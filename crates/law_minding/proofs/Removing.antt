-- What a removal of another scope leaves.
use Rattle.std.proofs.Common.{ℕ, Bool, true, false, List, [], ◌∷◌, ◌≡◌, inl, inr, refl, sym, ap, ◌∙◌, nat_eq}
use Rattle.std.specs.Prelude.{Option, Some, ◌⊎◌, is_some}
use Rattle.std.proofs.lemmas.Bool.{eqb-true}
use Rattle.rt_model.specs.Lists.{at}
use Rattle.rt_model.specs.Tree.{Types}
use Rattle.rt_model.specs.World.{Source, Cell, Error, Context, TaskTarget, World}
use Rattle.rt_model.specs.State.{Scope, CellRow, ContextRow, TaskRow, State, values_of}
use Rattle.rt_model.specs.Commands.{names_source}
use Rattle.rt_model.specs.Removal.{cell_sources, cells_in, kinds_of_scopes, kinds_of_contexts, read_contexts, without_scope, tell_all, gone}
use Rattle.rt_model.proofs.Maps.{by_test, at_without_other}
use Rattle.rt_model.proofs.Members.{or_left, or_right, turned_round}
use Rattle.law_behavior.specs.Owed.{OwesPoll}
use Rattle.law_behavior.proofs.Readers.{Posts}
use Rattle.law_minding.proofs.Polled.{error_value, context_value}
use Rattle.law_minding.proofs.ToldOf.{contexts_named, cells_named, rows_named, row_kept, cell_kept, cell_stays}
use Rattle.law_minding.proofs.Values.{equal_le, without_live}
use Rattle.law_minding.proofs.Since.{Low, Here, Passes, posts_pass}
use Rattle.law_minding.proofs.Tasked.{all_post, all_wake}

module _ {K : Types} (last : World K) (t n cell scope : ℕ) (held : CellRow K) (place : K.TaskState) (polled : Bool) (reads : ContextRow K) (target : reads.target ≡ TaskTarget t) (home : reads.scope ≡ scope) where
  -- another scope is removed, with what it owns
  module _ (w : State K) (s : ℕ) (other : nat_eq s scope ≡ false) (others : nat_eq s held.owner ≡ false) where
    abbrev bare : State K
    bare = without_scope w s

    abbrev cells : List Source
    cells = cell_sources (cells_in s w.cells)

    abbrev half : State K
    half = tell_all bare cells

    abbrev rest : List Source
    rest = Error s ∷ read_contexts half s

    first : Posts bare half
    first = all_post last t n cell scope held place polled reads target home cells bare

    second : Posts half (gone w s)
    second = all_post last t n cell scope held place polled reads target home rest half

    elsewhere : nat_eq reads.scope s ≡ false
    elsewhere = ap (λ (r : ℕ). nat_eq r s) home ∙ turned_round s scope other

    half_holds : at w.cells cell ≡ Some held → at half.cells cell ≡ Some held
    half_holds e = ap (λ (z : State K). at z.cells cell) first.alike ∙ cell_kept s cell held (turned_round s held.owner others) w.cells e

    half_lives : is_some (at w.scopes scope) ≡ true → is_some (at half.scopes scope) ≡ true
    half_lives e = ap (λ (z : State K). is_some (at z.scopes scope)) first.alike ∙ without_live w.scopes s scope other e

    kept : at w.contexts n ≡ Some reads → at bare.contexts n ≡ Some reads
    kept e = row_kept s n reads elsewhere w.contexts e

    half_context : at w.contexts n ≡ Some reads → at half.contexts n ≡ Some reads
    half_context e = ap (λ (z : State K). at z.contexts n) first.alike ∙ kept e

    half_task : (x : TaskRow K) → at w.tasks t ≡ Some x → at half.tasks t ≡ Some x
    half_task x e = ap (λ (z : State K). at z.tasks t) first.alike ∙ e

    -- the half of the removal that told of the cells, and then the other one
    from_half : OwesPoll half t → OwesPoll (gone w s) t
    from_half h = (posts_pass last t n cell scope held place polled reads target home half (gone w s) second).owes h

    bare_low : (i : Source) → Low last t n cell scope held place polled reads target home bare (gone w s) i
    bare_low (Cell m) = λ low. ap (λ (z : State K). (values_of z).cell m) (sym first.alike) ∙ ap (λ (z : State K). (values_of z).cell m) (sym second.alike)
    bare_low (Error r) = ap (λ (z : State K). (values_of z).error r) (sym first.alike) ∙ ap (λ (z : State K). (values_of z).error r) (sym second.alike)
    bare_low (Context k r) = ap (λ (z : State K). (values_of z).context k r) (sym first.alike) ∙ ap (λ (z : State K). (values_of z).context k r) (sym second.alike)

    told : Here last t n cell scope held place polled reads target home w → polled ≡ true → (i : Source) → names_source reads.sources i ≡ true
        → Low last t n cell scope held place polled reads target home w (gone w s) i ⊎ OwesPoll (gone w s) t
    told here once (Cell m) e =
        elim (cell_stays s w.cells m) as (λ z. Low last t n cell scope held place polled reads target home w (gone w s) (Cell m) ⊎ OwesPoll (gone w s) t) [
          | inl same ↦ inl (λ low. same ∙ bare_low (Cell m) low)
          | inr goes ↦
              inr (from_half (all_wake last t n cell scope held place polled reads target home cells bare here.row (Cell m) (kept (here.context once)) here.is e (cells_named (cells_in s w.cells) m goes)))
        ]
    told here once (Error r) e =
        by_test (nat_eq s r)
        (
        λ q.
        inr
        (all_wake last t n cell scope held place polled reads target home rest half here.row (Error r) (half_context (here.context once)) (half_task here.row here.is) e
        (or_left (nat_eq s r) (names_source (read_contexts half s) (Error r)) q))
        )
        (λ q. inl (sym (ap (λ (o : Option (Scope K)). error_value o) (at_without_other w.scopes s r q)) ∙ bare_low (Error r)))
    told here once (Context k r) e =
        by_test (nat_eq s r)
        (
        λ q.
        let own : names_source reads.sources (Context k s) ≡ true = ap (λ (x : ℕ). names_source reads.sources (Context k x)) (eqb-true s r q) ∙ e in
        let kinds : List ℕ = kinds_of_scopes s half.scopes [] in
        let told_of : names_source (read_contexts half s) (Context k s) ≡ true =
        contexts_named s k (kinds_of_contexts s half.contexts kinds) (rows_named s k n reads half.contexts kinds (half_context (here.context once)) own) in
        inr
        (all_wake last t n cell scope held place polled reads target home rest half here.row (Context k s) (half_context (here.context once)) (half_task here.row here.is) own
        (or_right false (names_source (read_contexts half s) (Context k s)) told_of))
        )
        (λ q. inl (sym (ap (λ (o : Option (Scope K)). context_value k o) (at_without_other w.scopes s r q)) ∙ bare_low (Context k r)))

    pub gone_passes : Passes last t n cell scope held place polled reads target home w (gone w s)
    gone_passes =
        record {
          low = equal_le w.next.tasks (gone w s).next.tasks (ap (λ (z : State K). z.next.tasks) second.alike ∙ ap (λ (z : State K). z.next.tasks) first.alike);
          none = λ e. ap (λ (z : State K). at z.tasks t) second.alike ∙ ap (λ (z : State K). at z.tasks t) first.alike ∙ e;
          row = λ x e. inr (x, ap (λ (z : State K). at z.tasks t) second.alike ∙ half_task x e, refl, refl);
          lives = λ e. ap (λ (z : State K). is_some (at z.scopes scope)) second.alike ∙ half_lives e;
          holds = λ e. ap (λ (z : State K). at z.cells cell) second.alike ∙ half_holds e;
          context = λ e once. ap (λ (z : State K). at z.contexts n) second.alike ∙ half_context (e once);
          owes = λ h. from_half ((posts_pass last t n cell scope held place polled reads target home bare half first).owes h);
          told = told;
        }
