-- At most one log of each length is accepted.
use Rattle.std.proofs.Common.{Bool, true, false, List, [], ◌∷◌, ◌≡◌, refl, sym, ap, ◌∙◌, subst, arith}
use Rattle.std.specs.Prelude.{Option, Some, None, if◌then◌else◌}
use Rattle.std.proofs.lemmas.Bool.{eqb-true}
use Rattle.rt_model.specs.Tree.{Types}
use Rattle.rt_model.specs.World.{Application}
use Rattle.rt_model.specs.Replay.{Entry, Build, Taken, Heard, Made, Fed, Kept, Removed, Rerun, Poll, Effects, Machine, same_entry, due, step, is_due, replay_on}
use Rattle.rt_model.specs.OneLog.{OneLog}

pub same_entry-true : (a b : Entry) → same_entry a b ≡ true → a ≡ b
same_entry-true Build Build e = refl
same_entry-true (Taken a) (Taken b) e = ap Taken (eqb-true a b e)
same_entry-true (Heard a) (Heard b) e = ap Heard (eqb-true a b e)
same_entry-true (Made a) (Made b) e = ap Made (eqb-true a b e)
same_entry-true (Fed a) (Fed b) e = ap Fed (eqb-true a b e)
same_entry-true (Kept a) (Kept b) e = ap Kept (eqb-true a b e)
same_entry-true (Removed a) (Removed b) e = ap Removed (eqb-true a b e)
same_entry-true (Rerun a) (Rerun b) e = ap Rerun (eqb-true a b e)
same_entry-true (Poll a) (Poll b) e = ap Poll (eqb-true a b e)
same_entry-true (Effects a) (Effects b) e = ap Effects (eqb-true a b e)
same_entry-true _ _ e = cc

pub is_due-same : {K : Types} (app : Application K) (d : Option Entry) (e f : Entry) → is_due app d e ≡ true → is_due app d f ≡ true → e ≡ f
is_due-same app None e f p q = cc
is_due-same app (Some d) e f p q = sym (same_entry-true d e p) ∙ same_entry-true d f q

module _ {K : Types} (app : Application K) where
  -- an accepted log begins with an entry that is due
  pub fork : (b : Bool) (x : Machine K) (log : List Entry) (v : Machine K) → replay_on app (if b then Some x else None) log ≡ Some v → (b ≡ true) × (replay_on app (Some x) log ≡ Some v)
  fork true x log v h = (refl, h)
  fork false x log v h = cc

  pub one_log_only : OneLog app
  one_log_only m v u [] [] long first second = refl
  one_log_only m v u [] (f ∷ fs) long first second = absurd (omega arith)
  one_log_only m v u (e ∷ es) [] long first second = absurd (omega arith)
  one_log_only m v u (e ∷ es) (f ∷ fs) long first second =
      let a = fork (is_due app (due app m) e) (step app m e) es v first in
      let b = fork (is_due app (due app m) f) (step app m f) fs u second in
      let heads : e ≡ f = is_due-same app (due app m) e f a.0 b.0 in
      let rest : replay_on app (Some (step app m e)) fs ≡ Some u = subst (λ (x : Entry). replay_on app (Some (step app m x)) fs ≡ Some u) (sym heads) b.1 in
      ap (λ (x : Entry). x ∷ es) heads ∙ ap (λ (l : List Entry). f ∷ l) (one_log_only (step app m e) v u es fs (omega arith) a.1 rest)
