-- Turns where the build or a unit is at work: none of their entries begins a unit, and none is refused for units.
use Rattle.std.proofs.Common.{inl, inr, false, List, [], ◌∷◌, ◌++◌, ◌≡◌, sym, ap, ◌∙◌, append_assoc, Err}
use Rattle.std.proofs.lemmas.List.{append-nil}
use Rattle.std.specs.Prelude.{Option, Some, None}
use Rattle.rt_edits.specs.declared.edit.Edit.{Edit}
use Rattle.rt_model.specs.Document as doc
use Rattle.rt_model.specs.OneLog.{types}
use Rattle.rt_model.specs.World.{Application}
use Rattle.rt_model.specs.State as model
use Rattle.rt_model.specs.Replay as replay
use Rattle.rt_model.specs.Causes as causes
use Rattle.rt_model.specs.Told.{opens}
use Rattle.rt_model.proofs.Maps.{by_test}
use Rattle.law_behavior.specs.Doms.{NoneOpens}
use Rattle.run_machine.specs.Keeps.{Logs, TurnKeeps}
use Rattle.run_machine.specs.Machines.{noted}
use Rattle.run_outside.specs.Ends.{fault_in}
use Rattle.run_machine.specs.Stands.{Going, CameTo}
use Rattle.run_outside.specs.declared.ended.Ended.{Ended}
use Rattle.run_machine.specs.declared.machine.Machine.{Machine}
use Rattle.run_rounds.specs.Going.{Inside, FinishCut}

-- one more
pub none_more : (log : List replay.Entry) (e : replay.Entry) → NoneOpens log → opens e ≡ false → NoneOpens (log ++ e ∷ [])
none_more [] e h shut = (shut, tt)
none_more (d ∷ log) e h shut = (h.0, none_more log e h.1 shut)

module _ {P C Q V H T E L : Type 0} where
  pub inside_none : (d : Machine P C Q V H T E L) → Inside d d
  inside_none d = record { more = []; logged = sym (append-nil (noted d)); shut = tt }

  -- one more turn while something is at work
  pub inside_on : (old mid new : Machine P C Q V H T E L) → Inside old mid → Logs mid new → (mid.work ≡ [] → mid.first ≡ None → ⊥) → Inside old new
  inside_on old mid new h (inl same) works = record { more = h.more; logged = same ∙ h.logged; shut = h.shut }
  inside_on old mid new h (inr one) works =
      record {
        more = h.more ++ one.entry ∷ [];
        logged = one.logged ∙ ap (λ (l : List replay.Entry). l ++ one.entry ∷ []) h.logged ∙ append_assoc (noted old) h.more (one.entry ∷ []);
        shut = none_more h.more one.entry h.shut (by_test (opens one.entry) (λ q. let both = one.alone q in absurd (works both.0 both.1)) (λ q. q));
      }

module _ {P C Q V H T E L : Type 0} (app : Application (types C Q V H T E L)) (limits : causes.Limits) (r : Going (types C Q V H T E L)) where
  -- and the last one came to a fault
  pub finish_cut : (edits : List doc.Edit) (before after : Option (List Edit)) (old mid new : Machine P C Q V H T E L) (ended : Ended) (fault : model.Fault)
      → fault_in ended ≡ Some fault
      → Inside old mid → (mid.work ≡ [] → mid.first ≡ None → ⊥)
      → TurnKeeps mid new (Err ended)
      → CameTo app limits r edits before after fault new
      → FinishCut app limits r edits before after fault old new
  finish_cut edits before after old mid new ended fault why inside works keeps came =
      record {
        came = came;
        inside = inside_on old mid new inside (keeps.logs fault why) works;
        never = λ units out. let p = keeps.spent units (why ∙ ap (λ (f : model.Fault). Some f) out) in works p.work p.over;
      }
