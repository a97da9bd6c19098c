-- At which marks nothing is done.
use Rattle.std.proofs.Common.{ℕ, List, [], ◌∷◌, ◌++◌, ◌≡◌, ◌≢◌, refl, sym, subst}
use Rattle.tree_nodes.specs.declared.vnode.VComponent.{VComponent}
use Rattle.rt_model.specs.Tree.{Types, Place}
use Rattle.tree_marks.specs.Marks.{Mark, stays, goes, comes, fed, left, made, given, worded, slot_goes, tree_goes, slot_way, tree_way, come_in, go_out, lone}
use Rattle.run_places.specs.declared.place.Kind.{Kind}
use Rattle.run_places.specs.declared.place.Step.{Step}
use Rattle.run_met.specs.declared.met.Met.{Met}
use Rattle.run_met.specs.declared.met.Met.TheVariants as mets
use Rattle.run_met.specs.Mets.{mark_of}
use Rattle.rt_tree.specs.Does.{AllQuiet, AllStill, IsQuiet, IsStill}

module _ {K : Types} (children : List (Place × ℕ)) where
  -- one mark more
  pub quiet_more : (ms : List (Mark K)) (m : Mark K) → AllQuiet children ms → IsQuiet children m → AllQuiet children (ms ++ m ∷ [])
  quiet_more [] m all one = (one, tt)
  quiet_more (n ∷ ms) m all one = (all.0, quiet_more ms m all.1 one)

  -- nothing new comes there
  quiet_still : (m : Mark K) → IsQuiet children m → IsStill m
  quiet_still (stays p k) h = tt
  quiet_still (goes p k) h = tt
  quiet_still (comes p k) h = absurd h
  quiet_still (fed p c d) h = tt
  quiet_still (left p c) h = tt
  quiet_still (made p d) h = absurd h
  quiet_still (given above whole new old) h = tt
  quiet_still (worded p new old) h = tt
  quiet_still (slot_goes p old) h = tt
  quiet_still (tree_goes above old) h = tt
  quiet_still (slot_way p new old) h = tt
  quiet_still (tree_way above new old) h = tt
  quiet_still (come_in p front i new) h = tt
  quiet_still (go_out p i old) h = tt
  quiet_still (lone p new) h = tt

  pub all_still : (ms : List (Mark K)) → AllQuiet children ms → AllStill ms
  all_still [] all = tt
  all_still (m ∷ ms) all = (quiet_still m all.0, all_still ms all.1)

module _ {P C Q V H T E L : Type 0} (children : List (Place × ℕ)) where
  -- the same of what was matched
  pub quiet_of : (met x : Met P C Q V H T E L) → met ≡ x → IsQuiet children (mark_of x) → IsQuiet children (mark_of met)
  quiet_of met x is h = subst (λ (y : Met P C Q V H T E L). IsQuiet children (mark_of y)) (sym is) h

  -- at what is only written nothing is done
  pub only_quiet : (met : Met P C Q V H T E L)
      → ((place : List Step) (kind : Kind) → met ≢ mets.Comes place kind)
      → ((place : List Step) (was next : VComponent P C Q V H T E L) → met ≢ mets.Fed place was next)
      → ((place : List Step) (next : VComponent P C Q V H T E L) → met ≢ mets.Made place next)
      → IsQuiet children (mark_of met)
  only_quiet (mets.Stays place kind) not_comes not_fed not_made = tt
  only_quiet (mets.Goes place kind) not_comes not_fed not_made = tt
  only_quiet (mets.Comes place kind) not_comes not_fed not_made = absurd (not_comes place kind refl)
  only_quiet (mets.Fed place was next) not_comes not_fed not_made = absurd (not_fed place was next refl)
  only_quiet (mets.Left place was) not_comes not_fed not_made = tt
  only_quiet (mets.Made place next) not_comes not_fed not_made = absurd (not_made place next refl)
  only_quiet (mets.Given above next was) not_comes not_fed not_made = tt
  only_quiet (mets.Worded place next was) not_comes not_fed not_made = tt
  only_quiet (mets.SlotGoes place was) not_comes not_fed not_made = tt
  only_quiet (mets.TreeGoes above was) not_comes not_fed not_made = tt
  only_quiet (mets.SlotWay place next was) not_comes not_fed not_made = tt
  only_quiet (mets.TreeWay above next was) not_comes not_fed not_made = tt
  only_quiet (mets.ComeIn place trees first) not_comes not_fed not_made = tt
  only_quiet (mets.GoOut place trees first) not_comes not_fed not_made = tt
  only_quiet (mets.Lone place next) not_comes not_fed not_made = tt
