-- What marks leave for the end stands behind what was left.
use Rattle.std.proofs.Common.{ℕ, List, [], ◌∷◌, ◌++◌, ◌≡◌, ◌≢◌, map, refl, sym, ap, subst, ◌∙◌, append-nil, append_assoc}
use Rattle.tree_nodes.specs.declared.vnode.VComponent.{VComponent}
use Rattle.rt_values.specs.declared.element.ElementId.{ElementId}
use Rattle.rt_values.specs.declared.names.ScopeId.{ScopeId}
use Rattle.rt_model.specs.Heard.{number_at}
use Rattle.rt_model.specs.Lists.{joined}
use Rattle.rt_model.specs.OneLog.{types}
use Rattle.rt_model.specs.Run.{child_at, drop_at}
use Rattle.rt_model.specs.State.{SideName, Item}
use Rattle.rt_model.specs.Tree as model
use Rattle.rt_model.specs.Tree.{Place, Kind}
use Rattle.tree_marks.specs.Deeds.{dropped_at, gone_at}
use Rattle.tree_marks.specs.Marks.{Mark, goes, left}
use Rattle.run_met.specs.declared.met.Met.{Met}
use Rattle.run_met.specs.declared.met.Met.TheVariants as mets
use Rattle.run_met.specs.Mets.{mark_of}
use Rattle.run_places.specs.declared.place.Kind as code
use Rattle.run_places.specs.declared.place.Step.{Step}
use Rattle.run_places.specs.Places.{side_of}
use Rattle.run_work.proofs.Joins.{joined_append}
use Rattle.rt_tree.specs.declared.patch.Patch.{Patch}
use Rattle.rt_tree.specs.declared.step.PatchStep.{PatchStep}
use Rattle.rt_tree.specs.declared.step.PatchStep.TheVariants as s
use Rattle.rt_tree.specs.Endings.{LeavesAt, LeavesNone, Tells, dropped_by, dropping, drops_left, gone_by, gone_left, removed_in, told_in}

-- one list behind another, and one more
behind_both : {A B : Type 0} (f : A → List B) (xs ys zs : List B) (ms : List A) (m : A) → xs ++ joined (map f ms) ≡ ys → zs ≡ ys ++ f m → xs ++ joined (map f (ms ++ m ∷ [])) ≡ zs
behind_both {B = B} f xs ys zs ms m so_far one =
    ap (λ (ws : List B). xs ++ ws) (joined_append f ms (m ∷ []) ∙ ap (λ (ws : List B). joined (map f ms) ++ ws) (append-nil (f m)))
    ∙ sym (append_assoc xs (joined (map f ms)) (f m))
    ∙ ap (λ (ws : List B). ws ++ f m) so_far
    ∙ sym one

module _ {P C Q V H T E L : Type 0} where
  -- a mark that leaves nothing
  pub leaves_nothing : (met x : Met P C Q V H T E L) (before after : Patch P C Q V H T E L) → met ≡ x
      → ((scope : ℕ) (side : SideName) → dropped_at scope side (side_of before.old).children (mark_of x) ≡ [])
      → gone_at (side_of before.old).numbers (mark_of x) ≡ []
      → after.drops.items ≡ before.drops.items → after.gone.items ≡ before.gone.items → LeavesAt (mark_of met) before after
  leaves_nothing met x before after is none no_number drops gone = record {
    drops = λ scope side.
        ap (λ (ts : List ScopeId). dropping scope side ts) drops
        ∙ sym (append-nil (drops_left scope side before))
        ∙ ap (λ (zs : List (Item (types C Q V H T E L))). drops_left scope side before ++ zs)
        (sym (ap (λ (y : Met P C Q V H T E L). dropped_at scope side (side_of before.old).children (mark_of y)) is ∙ none scope side));
    gone =
        ap (λ (ids : List ElementId). map (λ i. i.0) ids) gone
        ∙ sym (append-nil (gone_left before))
        ∙ ap (λ (ns : List ℕ). gone_left before ++ ns) (sym (ap (λ (y : Met P C Q V H T E L). gone_at (side_of before.old).numbers (mark_of y)) is ∙ no_number));
  }

  -- marks that were passed left theirs behind the others
  pub record Piles (over : List (Mark (types C Q V H T E L))) (before now : Patch P C Q V H T E L) : Type 0 where
    pub drops : (scope : ℕ) (side : SideName) → drops_left scope side before ++ dropped_by scope side before over ≡ drops_left scope side now
    pub gone : gone_left before ++ gone_by before over ≡ gone_left now

  -- none yet
  pub piles_none : (before now : Patch P C Q V H T E L) → LeavesNone before now → Piles [] before now
  piles_none before now none = record {
    drops = λ scope side. append-nil (drops_left scope side before) ∙ ap (λ (ts : List ScopeId). dropping scope side ts) (sym none.drops);
    gone = append-nil (gone_left before) ∙ ap (λ (ids : List ElementId). map (λ i. i.0) ids) (sym none.gone);
  }

  -- one mark more
  pub piles_more : (over : List (Mark (types C Q V H T E L))) (m : Mark (types C Q V H T E L)) (before now taken after : Patch P C Q V H T E L) → Piles over before now
      → LeavesNone now taken → taken.old ≡ before.old → LeavesAt m taken after → Piles (over ++ m ∷ []) before after
  piles_more over m before now taken after h none same one = record {
    drops = λ scope side.
        behind_both (λ n. dropped_at scope side (side_of before.old).children n) (drops_left scope side before) (drops_left scope side now) (drops_left scope side after) over m (h.drops scope side)
        (one.drops scope side ∙ (λ t. dropping scope side (none.drops t) ++ dropped_at scope side (side_of (same t)).children m));
    gone =
        behind_both (λ n. gone_at (side_of before.old).numbers n) (gone_left before) (gone_left now) (gone_left after) over m h.gone
        (one.gone ∙ (λ t. map (λ i. i.0) (none.gone t) ++ gone_at (side_of (same t)).numbers m));
  }

  -- a step that tells nothing of them
  pub tells_none : (over : List (Mark (types C Q V H T E L))) (before now after : Patch P C Q V H T E L) (step : PatchStep P C Q V H T E L) → Piles over before now → LeavesNone now after
      → ((scope : ℕ) (side : SideName) → removed_in scope side step ≡ []) → told_in step ≡ [] → Tells over before step after
  tells_none over before now after step h none drops gone = record {
    drops = λ scope side. h.drops scope side ∙ (λ t. sym (drops scope side) t ++ dropping scope side (sym none.drops t));
    gone = h.gone ∙ (λ t. sym gone t ++ map (λ i. i.0) (sym none.gone t));
  }

  -- one that tells the first child scope, or the first number
  pub tells_drop : (over : List (Mark (types C Q V H T E L))) (before now after : Patch P C Q V H T E L) (scope : ScopeId) → Piles over before now
      → now.drops.items ≡ scope ∷ after.drops.items → after.gone.items ≡ now.gone.items → Tells over before (s.Remove scope) after
  tells_drop over before now after scope h first gone = record {
    drops = λ of side. h.drops of side ∙ ap (λ (ts : List ScopeId). dropping of side ts) first;
    gone = h.gone ∙ ap (λ (ids : List ElementId). map (λ i. i.0) ids) (sym gone);
  }

  pub tells_gone : (over : List (Mark (types C Q V H T E L))) (before now after : Patch P C Q V H T E L) (id : ElementId) → Piles over before now
      → after.drops.items ≡ now.drops.items → now.gone.items ≡ id ∷ after.gone.items → Tells over before (s.Gone id) after
  tells_gone over before now after id h drops first = record {
    drops = λ scope side. h.drops scope side ∙ ap (λ (ts : List ScopeId). dropping scope side ts) (sym drops);
    gone = h.gone ∙ ap (λ (ids : List ElementId). map (λ i. i.0) ids) first;
  }

  -- what was matched leaves the same
  pub leaves_as : (met x : Met P C Q V H T E L) (before after : Patch P C Q V H T E L) → met ≡ x → LeavesAt (mark_of x) before after → LeavesAt (mark_of met) before after
  leaves_as met x before after is h = subst (λ (y : Met P C Q V H T E L). LeavesAt (mark_of y) before after) (sym is) h

  -- a node goes, and leaves its number
  pub goes_at : (place : Place) (kind : Kind) (before after : Patch P C Q V H T E L) → after.drops.items ≡ before.drops.items
      → gone_left after ≡ gone_left before ++ number_at (side_of before.old).numbers place kind ∷ [] → LeavesAt (goes place kind) before after
  goes_at place kind before after drops gone = record {
    drops = λ scope side. ap (λ (ts : List ScopeId). dropping scope side ts) drops ∙ sym (append-nil (drops_left scope side before));
    gone = gone;
  }

  -- a component goes, and leaves its child scope
  pub left_at : (place : Place) (c : model.VComponent (types C Q V H T E L)) (before after : Patch P C Q V H T E L)
      → ((scope : ℕ) (side : SideName) → drops_left scope side after ≡ drops_left scope side before ++ drop_at scope side (child_at (side_of before.old).children place))
      → after.gone.items ≡ before.gone.items → LeavesAt (left place c) before after
  left_at place c before after drops gone = record {
    drops = drops;
    gone = ap (λ (ids : List ElementId). map (λ i. i.0) ids) gone ∙ sym (append-nil (gone_left before));
  }

  -- no other mark leaves anything
  pub only_leaves : (met : Met P C Q V H T E L) (before after : Patch P C Q V H T E L)
      → ((place : List Step) (kind : code.Kind) → met ≢ mets.Goes place kind)
      → ((place : List Step) (was : VComponent P C Q V H T E L) → met ≢ mets.Left place was)
      → after.drops.items ≡ before.drops.items → after.gone.items ≡ before.gone.items → LeavesAt (mark_of met) before after
  only_leaves (mets.Stays place kind) before after not_goes not_left drops gone =
      leaves_nothing (mets.Stays place kind) (mets.Stays place kind) before after refl (λ scope side. refl) refl drops gone
  only_leaves (mets.Goes place kind) before after not_goes not_left drops gone = absurd (not_goes place kind refl)
  only_leaves (mets.Comes place kind) before after not_goes not_left drops gone =
      leaves_nothing (mets.Comes place kind) (mets.Comes place kind) before after refl (λ scope side. refl) refl drops gone
  only_leaves (mets.Fed place was next) before after not_goes not_left drops gone =
      leaves_nothing (mets.Fed place was next) (mets.Fed place was next) before after refl (λ scope side. refl) refl drops gone
  only_leaves (mets.Left place was) before after not_goes not_left drops gone = absurd (not_left place was refl)
  only_leaves (mets.Made place next) before after not_goes not_left drops gone =
      leaves_nothing (mets.Made place next) (mets.Made place next) before after refl (λ scope side. refl) refl drops gone
  only_leaves (mets.Given above next was) before after not_goes not_left drops gone =
      leaves_nothing (mets.Given above next was) (mets.Given above next was) before after refl (λ scope side. refl) refl drops gone
  only_leaves (mets.Worded place next was) before after not_goes not_left drops gone =
      leaves_nothing (mets.Worded place next was) (mets.Worded place next was) before after refl (λ scope side. refl) refl drops gone
  only_leaves (mets.SlotGoes place was) before after not_goes not_left drops gone =
      leaves_nothing (mets.SlotGoes place was) (mets.SlotGoes place was) before after refl (λ scope side. refl) refl drops gone
  only_leaves (mets.TreeGoes above was) before after not_goes not_left drops gone =
      leaves_nothing (mets.TreeGoes above was) (mets.TreeGoes above was) before after refl (λ scope side. refl) refl drops gone
  only_leaves (mets.SlotWay place next was) before after not_goes not_left drops gone =
      leaves_nothing (mets.SlotWay place next was) (mets.SlotWay place next was) before after refl (λ scope side. refl) refl drops gone
  only_leaves (mets.TreeWay above next was) before after not_goes not_left drops gone =
      leaves_nothing (mets.TreeWay above next was) (mets.TreeWay above next was) before after refl (λ scope side. refl) refl drops gone
  only_leaves (mets.ComeIn place trees first) before after not_goes not_left drops gone =
      leaves_nothing (mets.ComeIn place trees first) (mets.ComeIn place trees first) before after refl (λ scope side. refl) refl drops gone
  only_leaves (mets.GoOut place trees first) before after not_goes not_left drops gone =
      leaves_nothing (mets.GoOut place trees first) (mets.GoOut place trees first) before after refl (λ scope side. refl) refl drops gone
  only_leaves (mets.Lone place next) before after not_goes not_left drops gone =
      leaves_nothing (mets.Lone place next) (mets.Lone place next) before after refl (λ scope side. refl) refl drops gone
