-- A spawn, a wake and a resume post a wake.
use Rattle.std.proofs.Common.{ℕ, Bool, true, false, [], ◌∷◌, ◌++◌, ◌≡◌, inl, not, refl, sym, ap, ◌∙◌, subst}
use Rattle.std.specs.Prelude.{Option, Some, if◌then◌else◌, is_some}
use Rattle.rt_model.specs.Lists.{at, put}
use Rattle.rt_model.specs.Tree.{Types}
use Rattle.rt_model.specs.State.{Woken, ClientOnly, Isomorphic, TaskRow, State, is_live}
use Rattle.rt_model.specs.Commands.{post, activated, spawned}
use Rattle.rt_model.proofs.Maps.{pick_true, eq_same, at_put_here}
use Rattle.law_behavior.specs.Marking.{IsPosted}
use Rattle.law_behavior.proofs.Readers.{posted_last}
use Rattle.law_behavior.specs.Wakes.{WakesArePosted}
use Rattle.law_behavior.proofs.Stays.{appended_there}

module _ {K : Types} where
  wake_posted : (w : State K) (t : ℕ) → is_some (at w.tasks t) ≡ true → IsPosted (post w (Woken t)).posted (Woken t)
  wake_posted w t live =
      subst (λ (v : State K). IsPosted v.posted (Woken t)) (sym (pick_true (record w { posted = w.posted ++ Woken t ∷ [] }) w live))
      (posted_last w.posted (Woken t ∷ []) (Woken t) (inl refl))

  spawn_posted : (w : State K) (polled : Option ℕ) (scope t : ℕ) (begins : K.TaskState) (isomorphic : Bool) → is_live w scope ≡ true → IsPosted (spawned w polled scope t begins isomorphic).posted (Woken t)
  spawn_posted w polled scope t begins isomorphic live =
      let row : TaskRow K = record { scope = scope; parent = polled; state = begins; active = true; kind = if isomorphic then Isomorphic else ClientOnly } in
      let v : State K = record w { tasks = w.tasks ++ (t, row) ∷ [] } in
      subst (λ (u : State K). IsPosted u.posted (Woken t)) (sym (pick_true (post v (Woken t)) w live)) (wake_posted v t (appended_there w.tasks t row))

  resume_posted : (w : State K) (t : ℕ) (x : TaskRow K) → at w.tasks t ≡ Some x → x.active ≡ false → IsPosted (activated w t true (at w.tasks t)).posted (Woken t)
  resume_posted w t x live paused_row =
      let row : TaskRow K = record x { active = true } in
      let v : State K = record w { tasks = put w.tasks t row } in
      let is : activated w t true (at w.tasks t) ≡ post v (Woken t) =
      ap (λ (o : Option (TaskRow K)). activated w t true o) live ∙ pick_true (post v (Woken t)) v (ap (λ (b : Bool). not b) paused_row) in
      subst (λ (u : State K). IsPosted u.posted (Woken t)) (sym is)
      (wake_posted v t (ap (λ (o : Option (TaskRow K)). is_some o) (at_put_here w.tasks t row t (eq_same t))))

pub wakes_are_posted : (K : Types) → WakesArePosted K
wakes_are_posted K w =
    record {
      woken = λ t live. wake_posted w t live;
      spawned_task = λ polled scope t begins isomorphic live. spawn_posted w polled scope t begins isomorphic live;
      resumed = λ t x live paused_row. resume_posted w t x live paused_row;
    }
