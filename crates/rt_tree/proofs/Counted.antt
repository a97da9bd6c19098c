-- How many steps are left, once a mark was turned.
use Rattle.std.proofs.Common.{ℕ, suc, ◌+◌, List, [], ◌∷◌, ◌++◌, ◌≡◌, ◌≢◌, length, refl, sym, ap, ◌∙◌, arith}
use Rattle.tree_nodes.specs.declared.vnode.VComponent.{VComponent}
use Rattle.rt_values.specs.declared.element.ElementId.{ElementId}
use Rattle.rt_values.specs.declared.names.ScopeId.{ScopeId}
use Rattle.rt_model.specs.Tree.{Place}
use Rattle.run_places.specs.declared.place.Kind.{Kind}
use Rattle.run_places.specs.declared.place.Step.{Step}
use Rattle.run_places.specs.Places.{side_of}
use Rattle.run_met.specs.declared.met.Met.{Met}
use Rattle.run_met.specs.declared.met.Met.TheVariants as mets
use Rattle.run_met.specs.Mets.{mark_of, marks_of}
use Rattle.rt_tree.specs.declared.patch.Patch.{Patch}
use Rattle.rt_tree.specs.declared.step.PatchStep.{PatchStep}
use Rattle.rt_tree.specs.Counts.{all_deeds, at_end, deeds, other_in, others}
use Rattle.rt_tree.specs.Served.{marks_left}

-- one thing more behind the others
pub one_longer : {A : Type 0} (xs ys : List A) (x : A) → ys ≡ xs ++ x ∷ [] → length ys ≡ length xs + 1
one_longer {A = A} xs ys x is = ap length is ∙ by xs
  where
    by : (zs : List A) → length (zs ++ x ∷ []) ≡ length zs + 1
    by [] = omega arith
    by (z ∷ zs) = let h : length (zs ++ x ∷ []) ≡ length zs + 1 = by zs in omega (arith, h)

module _ {P C Q V H T E L : Type 0} where
  -- what is left by the marks alone
  abbrev deeds_left : Patch P C Q V H T E L → ℕ
  deeds_left p = all_deeds (side_of p.old).children (marks_left p)

  deeds_same : (before after : Patch P C Q V H T E L) → marks_left after ≡ marks_left before → after.old ≡ before.old → deeds_left after ≡ deeds_left before
  deeds_same before after left old t = all_deeds (side_of (old t)).children (left t)

  -- a mark that is worth as much as is told of it at once and at the end
  pub counted : (met x : Met P C Q V H T E L) (before after : Patch P C Q V H T E L) (now more : ℕ) → met ≡ x → deeds (side_of before.old).children (mark_of x) ≡ now + more
      → after.plan.items ≡ before.plan.items → after.old ≡ before.old → at_end after ≡ at_end before + more
      → deeds (side_of before.old).children (mark_of met) + others before ≡ now + others after
  counted met x before after now more is worth plan old behind =
      let mark : deeds (side_of before.old).children (mark_of met) ≡ now + more = ap (λ (y : Met P C Q V H T E L). deeds (side_of before.old).children (mark_of y)) is ∙ worth in
      let left : deeds_left after ≡ deeds_left before = deeds_same before after (ap (λ (xs : List (Met P C Q V H T E L)). marks_of xs) plan) old in
      omega (arith, mark, left, behind)

  -- a mark that stays in front
  pub counted_again : (met : Met P C Q V H T E L) (before after : Patch P C Q V H T E L) → marks_left after ≡ mark_of met ∷ marks_left before → after.old ≡ before.old → at_end after ≡ at_end before
      → deeds (side_of before.old).children (mark_of met) + others before ≡ 0 + others after
  counted_again met before after left old behind =
      let again : deeds_left after ≡ deeds (side_of before.old).children (mark_of met) + deeds_left before = (λ t. all_deeds (side_of (old t)).children (left t)) in
      omega (arith, again, behind)

  -- the mark that was taken off the plan
  pub taken_off : (now taken : Patch P C Q V H T E L) (met : Met P C Q V H T E L) → now.plan.items ≡ met ∷ taken.plan.items → taken.old ≡ now.old → at_end taken ≡ at_end now
      → others now ≡ deeds (side_of taken.old).children (mark_of met) + others taken
  taken_off now taken met front old behind =
      let first : deeds_left now ≡ deeds (side_of taken.old).children (mark_of met) + deeds_left taken =
      (λ t. all_deeds (side_of (sym old t)).children (marks_of (front t))) in
      omega (arith, first, behind)

  -- one mark more was turned, and led to no step
  pub turned_none : (before now taken after : Patch P C Q V H T E L) (met : Met P C Q V H T E L) → others before ≡ others now → now.plan.items ≡ met ∷ taken.plan.items
      → taken.old ≡ now.old → at_end taken ≡ at_end now
      → deeds (side_of taken.old).children (mark_of met) + others taken ≡ 0 + others after → others before ≡ others after
  turned_none before now taken after met so_far front old behind turned =
      let off : others now ≡ deeds (side_of taken.old).children (mark_of met) + others taken = taken_off now taken met front old behind in
      omega (arith, so_far, off, turned)

  -- one was, and led to a step
  pub turned_step : (before now taken after : Patch P C Q V H T E L) (met : Met P C Q V H T E L) (step : PatchStep P C Q V H T E L) → others before ≡ others now
      → now.plan.items ≡ met ∷ taken.plan.items → taken.old ≡ now.old → at_end taken ≡ at_end now
      → deeds (side_of taken.old).children (mark_of met) + others taken ≡ other_in step + others after → others before ≡ other_in step + others after
  turned_step before now taken after met step so_far front old behind turned =
      let off : others now ≡ deeds (side_of taken.old).children (mark_of met) + others taken = taken_off now taken met front old behind in
      omega (arith, so_far, off, turned)

  -- behind the plan a child scope is dropped, or a number is told
  pub one_dropped : (before now after : Patch P C Q V H T E L) (scope : ScopeId) → others before ≡ others now → after.plan.items ≡ now.plan.items → after.old ≡ now.old
      → now.drops.items ≡ scope ∷ after.drops.items → after.gone.items ≡ now.gone.items → others before ≡ 1 + others after
  one_dropped before now after scope so_far plan old first gone =
      let left : deeds_left after ≡ deeds_left now = deeds_same now after (ap (λ (xs : List (Met P C Q V H T E L)). marks_of xs) plan) old in
      let drops : length now.drops.items ≡ suc (length after.drops.items) = ap length first in
      let numbers : length after.gone.items ≡ length now.gone.items = ap length gone in
      omega (arith, so_far, left, drops, numbers)

  pub one_told : (before now after : Patch P C Q V H T E L) (id : ElementId) → others before ≡ others now → after.plan.items ≡ now.plan.items → after.old ≡ now.old
      → after.drops.items ≡ now.drops.items → now.gone.items ≡ id ∷ after.gone.items → others before ≡ 1 + others after
  one_told before now after id so_far plan old drops first =
      let left : deeds_left after ≡ deeds_left now = deeds_same now after (ap (λ (xs : List (Met P C Q V H T E L)). marks_of xs) plan) old in
      let scopes : length after.drops.items ≡ length now.drops.items = ap length drops in
      let numbers : length now.gone.items ≡ suc (length after.gone.items) = ap length first in
      omega (arith, so_far, left, scopes, numbers)

  -- and at the end none is left
  pub none_left : (before now after : Patch P C Q V H T E L) → others before ≡ others now → after.plan.items ≡ now.plan.items → after.old ≡ now.old → at_end after ≡ at_end now
      → others before ≡ 0 + others after
  none_left before now after so_far plan old behind =
      let left : deeds_left after ≡ deeds_left now = deeds_same now after (ap (λ (xs : List (Met P C Q V H T E L)). marks_of xs) plan) old in
      omega (arith, so_far, left, behind)

  -- a mark that is only written leads to no such step
  pub only_written : (children : List (Place × ℕ)) (met : Met P C Q V H T E L)
      → ((place : List Step) (kind : Kind) → met ≢ mets.Goes place kind)
      → ((place : List Step) (kind : Kind) → met ≢ mets.Comes place kind)
      → ((place : List Step) (was next : VComponent P C Q V H T E L) → met ≢ mets.Fed place was next)
      → ((place : List Step) (was : VComponent P C Q V H T E L) → met ≢ mets.Left place was)
      → ((place : List Step) (next : VComponent P C Q V H T E L) → met ≢ mets.Made place next)
      → deeds children (mark_of met) ≡ 0
  only_written children (mets.Stays place kind) goes comes fed left made = refl
  only_written children (mets.Goes place kind) goes comes fed left made = absurd (goes place kind refl)
  only_written children (mets.Comes place kind) goes comes fed left made = absurd (comes place kind refl)
  only_written children (mets.Fed place was next) goes comes fed left made = absurd (fed place was next refl)
  only_written children (mets.Left place was) goes comes fed left made = absurd (left place was refl)
  only_written children (mets.Made place next) goes comes fed left made = absurd (made place next refl)
  only_written children (mets.Given above next was) goes comes fed left made = refl
  only_written children (mets.Worded place next was) goes comes fed left made = refl
  only_written children (mets.SlotGoes place was) goes comes fed left made = refl
  only_written children (mets.TreeGoes above was) goes comes fed left made = refl
  only_written children (mets.SlotWay place next was) goes comes fed left made = refl
  only_written children (mets.TreeWay above next was) goes comes fed left made = refl
  only_written children (mets.ComeIn place trees first) goes comes fed left made = refl
  only_written children (mets.GoOut place trees first) goes comes fed left made = refl
  only_written children (mets.Lone place next) goes comes fed left made = refl
