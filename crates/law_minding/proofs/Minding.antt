-- A memo that stands goes on to stand, and is current where nothing is owed.
use Rattle.std.proofs.Common.{ℕ, true, false, List, [], ◌∷◌, ◌≡◌, inl, inr, refl, ◌∙◌}
use Rattle.std.specs.Prelude.{None, ◌⊎◌}
use Rattle.std.specs.List.{AllByRecursion}
use Rattle.rt_model.specs.Laws.{SameAt, Agree}
use Rattle.rt_model.specs.Program.{begun, Call}
use Rattle.rt_model.specs.Tree.{Types}
use Rattle.rt_model.specs.World.{Source, Cell, Error, Context, World, Firsts, Application}
use Rattle.rt_model.specs.State.{TaskRow, ContextRow, State}
use Rattle.rt_model.specs.Commands.{names_source}
use Rattle.rt_model.specs.Next.{is_active, next}
use Rattle.rt_model.specs.Replay.{Machine}
use Rattle.rt_model.specs.Causes.{usual}
use Rattle.rt_model.proofs.Maps.{by_test}
use Rattle.rt_model.proofs.Members.{clash}
use Rattle.law_moves.specs.Heeds.{SameOf}
use Rattle.law_behavior.specs.Owed.{OwesPoll, WakesArePolled}
use Rattle.author_formulas.specs.Looking.{MadeNothing, StandAlike}
use Rattle.author_formulas.specs.Formulas.{Formulas, FormulasLook, value_of}
use Rattle.author_formulas.specs.Polls.{computed}
use Rattle.author_formulas.proofs.Deciding.{looking_decides}
use Rattle.law_minding.specs.Minding.{polled_world, MemoStands, MemosGoOn, OwedOrKept}
use Rattle.law_minding.proofs.Named.{each_or}

module _ {K : Types} where
  -- a source of a world is that of the state
  seen_then : (last : World K) (w v : State K) (t : ℕ) (task later : TaskRow K) (i : Source)
      → SameOf w v i
      → SameAt last (polled_world w t task) i
      → SameAt last (polled_world v t later) i
  seen_then last w v t task later (Cell n) same h = λ low. h low ∙ same
  seen_then last w v t task later (Error s) same h = h ∙ same
  seen_then last w v t task later (Context k s) same h = h ∙ same

  pub alike_then : (u v w : World K) → StandAlike u v → StandAlike v w → StandAlike u w
  alike_then u v w f g = record { scope = f.scope ∙ g.scope; way = f.way ∙ g.way }

  -- worlds that agree on the sources of a context agree on those that it names
  pub agree : (v w : World K) (xs ys : List Source)
      → ((i : Source) → names_source xs i ≡ true → SameAt v w i)
      → AllByRecursion (λ i. names_source xs i ≡ true) ys
      → Agree v w ys
  agree v w xs [] h all = tt
  agree v w xs (y ∷ ys) h all = (h y all.0, agree v w xs ys h all.1)

  -- where nothing is owed no task that is active is owed a poll
  pub none_owes_poll : (app : Application K) → WakesArePolled app → (m : Machine K) (t : ℕ) → m.dead ≡ None → next m.state ≡ None
      → OwesPoll m.state t
      → is_active m.state t ≡ false
  none_owes_poll app polled m t alive none owes =
      by_test (is_active m.state t) (λ q. (polled usual m m [] t refl alive (owes q) tt).1 none) (λ q. q)

  pub begun_anew : (v : World K) (firsts : Firsts) → firsts.cells ≡ v.given.next.cells → MadeNothing v (begun false firsts)
  begun_anew v firsts e = record { outside = refl; cells = refl; provided = refl; next = e }

module _ {K : Types} {F : Type 0} (a : Formulas K F) where
  minded : (w v : State K) (t : ℕ) (last : World K) (task later : TaskRow K) (reads : ContextRow K)
      → (OwesPoll w t → OwesPoll v t)
      → ((i : Source) → names_source reads.sources i ≡ true → SameOf w v i ⊎ OwesPoll v t)
      → OwesPoll w t ⊎ ((i : Source) → names_source reads.sources i ≡ true → SameAt last (polled_world w t task) i)
      → OwesPoll v t ⊎ ((i : Source) → names_source reads.sources i ≡ true → SameAt last (polled_world v t later) i)
  minded w v t last task later reads stays told (inl owed) = inl (stays owed)
  minded w v t last task later reads stays told (inr current) =
      each_or (OwesPoll v t) (λ i. SameAt last (polled_world v t later) i) reads.sources
      (
      λ i e.
      elim (told i e) as (λ z. SameAt last (polled_world v t later) i ⊎ OwesPoll v t) [
        | inl same ↦ inl (seen_then last w v t task later i same (current i e))
        | inr owed ↦ inr owed
      ]
      )

  -- a change that minds a memo leaves it standing
  pub memos_go_on : MemosGoOn a
  memos_go_on w v t cell context f last call task later reads stands minds =
      record {
        outset = stands.outset;
        rows = minds.rows;
        read = stands.read;
        alike = alike_then last (polled_world w t task) (polled_world v t later) stands.alike minds.alike;
        holds = λ x e. stands.holds x (minds.holds x e);
        minds = minded w v t last task later reads minds.stays minds.told stands.minds;
      }

  -- where each source has the value that it had, what was computed is the formula's value now
  current_value : (w : State K) (t cell context : ℕ) (f : F) (last : World K) (call : Call K) (task : TaskRow K) (reads : ContextRow K)
      → FormulasLook a
      → MemoStands a w t cell context f last call task reads
      → ((i : Source) → names_source reads.sources i ≡ true → SameAt last (polled_world w t task) i)
      → (computed a last call f).answer ≡ value_of a (polled_world w t task) last.given.next.cells f
  current_value w t cell context f last call task reads looks stands current =
      let now : World K = polled_world w t task in
      let firsts : Firsts = record (now.given.next) { cells = last.given.next.cells } in
      looking_decides K K.Value last now (a.computes f) call (begun false firsts)
      (looks.looks f)
      stands.outset
      (begun_anew last firsts refl)
      stands.alike
      (agree last now reads.sources (computed a last call f).call.aside current stands.read)

  -- where nothing is owed the cell is the formula's value
  pub owed_or_kept : (app : Application K) → WakesArePolled app → OwedOrKept a app
  owed_or_kept app polled looks m t cell context f last call task reads stands alive none active v e =
      elim stands.minds as (λ z. v ≡ value_of a (polled_world m.state t task) last.given.next.cells f) [
        | inl owes ↦ clash active (none_owes_poll app polled m t alive none owes)
        | inr current ↦ stands.holds v e ∙ current_value m.state t cell context f last call task reads looks stands current
      ]
