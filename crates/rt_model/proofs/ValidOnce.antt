-- A log that goes on within the limits to its end leaves no other one that comes to a refusal.
use Rattle.std.proofs.Common.{Bool, true, false, ◌&&◌, not, List, [], ◌∷◌, ◌≡◌, refl, sym, ap, ◌∙◌, subst, nat_eq, ℕ}
use Rattle.std.specs.Prelude.{Option, Some, None, is_some, if◌then◌else◌}
use Rattle.rt_lemmas.proofs.Bools.{not_true as is_false, and_none as ends_false}
use Rattle.rt_lemmas.proofs.Options.{not_some as none_of, none_of as none_next}
use Rattle.rt_model.specs.Lists.{first_of}
use Rattle.rt_model.specs.Tree.{Types}
use Rattle.rt_model.specs.World.{Application}
use Rattle.rt_model.specs.State.{Item, Fault}
use Rattle.rt_model.specs.Heard.{Listener}
use Rattle.rt_model.specs.Next.{Work, next, owes}
use Rattle.rt_model.specs.Replay.{Entry, Build, Input, Machine, due, due_any, due_item, due_heard, due_work, if_live, step, is_due, start, no_work, no_listener, waiting, is_quiet}
use Rattle.rt_model.specs.Causes.{Limits, refusal, replay_within, turns_refused, next_height, depth_refused}
use Rattle.rt_model.specs.Finished.{DoneIsValid}
use Rattle.rt_model.proofs.OneLogOnly.{is_due-same}
use Rattle.rt_model.proofs.Conjunctions.{and-left, and-right}
use Rattle.rt_model.proofs.FaultsOnce.{open_gate}

no_items : {K : Types} (work : List (Item K)) → no_work work ≡ true → work ≡ []
no_items [] h = refl
no_items (i ∷ rest) h = cc

no_ears : {K : Types} (ls : List (Listener K)) → no_listener ls ≡ true → ls ≡ []
no_ears [] h = refl
no_ears (l ∷ ls) h = cc

module _ {K : Types} (app : Application K) (limits : Limits) where
  only : (m v u : Machine K) (log other : List Entry)
      → replay_within app limits (Some m) log ≡ Some v
      → replay_within app limits (Some m) other ≡ Some u
      → due app v ≡ None
      → refusal limits v ≡ None
      → refusal limits u ≡ None
  only m v u [] [] p q d r =
      let a : v ≡ u = cc in
      ap (λ (x : Machine K). refusal limits x) (sym a) ∙ r
  only m v u [] (e ∷ es) p q d r =
      let o = open_gate app limits (refusal limits m) (is_due app (due app m) e) (step app m e) es u q in
      let a : m ≡ v = cc in
      let n : due app m ≡ None = ap (λ (x : Machine K). due app x) a ∙ d in
      let f : is_due app (due app m) e ≡ false = ap (λ x. is_due app x e) n in
      let t : is_due app (due app m) e ≡ true = o.1 in
      cc
  only m v u (e ∷ es) [] p q d r =
      let o = open_gate app limits (refusal limits m) (is_due app (due app m) e) (step app m e) es v p in
      let a : m ≡ u = cc in
      ap (λ (x : Machine K). refusal limits x) (sym a) ∙ o.0
  only m v u (e ∷ es) (f ∷ fs) p q d r =
      let o = open_gate app limits (refusal limits m) (is_due app (due app m) e) (step app m e) es v p in
      let c = open_gate app limits (refusal limits m) (is_due app (due app m) f) (step app m f) fs u q in
      let heads : e ≡ f = is_due-same app (due app m) e f o.1 c.1 in
      let rest : replay_within app limits (Some (step app m e)) fs ≡ Some u = subst (λ (x : Entry). replay_within app limits (Some (step app m x)) fs ≡ Some u) (sym heads) c.2 in
      only (step app m e) v u es fs o.2 rest d r

module _ {K : Types} (app : Application K) where
  any_of : (v : Machine K) (d : Option Fault) (b : Bool) → d ≡ None → b ≡ true
      → elim d as (λ x. Option Entry) [ None ↦ (if b then due_item app v v.work else Some Build) | Some fault ↦ None ] ≡ due_item app v v.work
  any_of v None true p q = refl
  any_of v None false p q = cc
  any_of v (Some f) b p q = cc

  nothing_due : (v : Machine K) → v.dead ≡ None → v.built ≡ true → v.work ≡ [] → waiting v ≡ [] → owes v.state ≡ false → v.inputs ≡ [] → due app v ≡ None
  nothing_due v dead built work ears owed left =
      let calm : next v.state ≡ None = none_next (next v.state) owed in
      let work_none : due_work app v (next v.state) v.inputs ≡ None = ap (λ (o : Option Work). due_work app v o v.inputs) calm ∙ ap (λ (is : List (Input K)). due_work app v None is) left in
      let heard_none : due_heard app v (waiting v) ≡ None = ap (λ (ls : List (Listener K)). due_heard app v ls) ears ∙ work_none in
      let item_none : due_item app v v.work ≡ None = ap (λ (items : List (Item K)). due_item app v items) work ∙ heard_none in
      let any_none : due_any app v ≡ None = any_of v v.dead v.built dead built ∙ item_none in
      ap (λ (o : Option Entry). if_live v.state o) any_none

  none_refused : (limits : Limits) (v : Machine K) → v.dead ≡ None → v.work ≡ [] → owes v.state ≡ false → refusal limits v ≡ None
  none_refused limits v dead work owed =
      let no_turn : (v.built && is_quiet v && nat_eq v.units limits.units && owes v.state) ≡ false = ends_false (v.built && is_quiet v && nat_eq v.units limits.units) (owes v.state) owed in
      let turns : turns_refused limits v ≡ None = rw no_turn refl in
      let high : next_height v ≡ None = rw work refl in
      ap (λ (d : Option Fault). first_of d (first_of (depth_refused limits (next_height v)) (turns_refused limits v))) dead
      ∙ ap (λ (h : Option ℕ). first_of (depth_refused limits h) (turns_refused limits v)) high
      ∙ turns

  pub done_is_valid : DoneIsValid app
  done_is_valid props inputs limits log v goes built settled left other u also =
      let quiet : is_quiet v ≡ true = and-left (is_quiet v) (not (owes v.state)) settled in
      let owed : owes v.state ≡ false = is_false (owes v.state) (and-right (is_quiet v) (not (owes v.state)) settled) in
      let steady : (not (is_some v.dead) && no_work v.work) ≡ true = and-left (not (is_some v.dead) && no_work v.work) (no_listener (waiting v)) quiet in
      let dead : v.dead ≡ None = none_of v.dead (and-left (not (is_some v.dead)) (no_work v.work) steady) in
      let work : v.work ≡ [] = no_items v.work (and-right (not (is_some v.dead)) (no_work v.work) steady) in
      let ears : waiting v ≡ [] = no_ears (waiting v) (and-right (not (is_some v.dead) && no_work v.work) (no_listener (waiting v)) quiet) in
      only app limits (start app props inputs) v u log other goes also (nothing_due v dead built work ears owed left) (none_refused limits v dead work owed)
