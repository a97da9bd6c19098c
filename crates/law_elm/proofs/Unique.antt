-- Where no work is open there is one scope of the root's component in its place, so all cells are the root's, which its scope alone makes.
use Rattle.std.proofs.Common.{ℕ, true, nat_eq, List, [], ◌∷◌, ◌≡◌, refl, sym, ap, ◌∙◌, subst, inl, inr}
use Rattle.std.proofs.lemmas.Bool.{eqb-true}
use Rattle.std.specs.Prelude.{Option, Some, None, Contains, is_some}
use Rattle.rt_lemmas.proofs.Options.{some_same as some_number}
use Rattle.rt_model.specs.Lists.{at}
use Rattle.rt_model.specs.Tree.{Types, Tree, Place, VComponent, Own, Root, Spot, component_at, spots, rendered, component_slot, one_slot}
use Rattle.rt_model.specs.World.{Application}
use Rattle.rt_model.specs.Laws.{IsLawful}
use Rattle.rt_model.specs.State.{SideName, MainSide, ChildrenSide, FallbackSide, CellRow, Scope, State, side_of, is_live}
use Rattle.rt_model.specs.Run.{child_at, root_tree, children_tree}
use Rattle.rt_model.specs.Replay.{Input, Machine}
use Rattle.rt_model.specs.Causes.{Limits}
use Rattle.rt_model.proofs.Among.{Among, among_contained}
use Rattle.rt_model.proofs.Maps.{by_test, pick_true, pick_false}
use Rattle.law_moves.specs.Reached.{Reached}
use Rattle.law_moves.specs.Trees.{StandsOnce}
use Rattle.law_moves.specs.Sorts.{ChildrenFitSlots}
use Rattle.law_moves.proofs.Twigs.{found_live}
use Rattle.law_headline.proofs.Settled.{settled_stand_once, reached_have_one_root}
use Rattle.author_programs.specs.Cells.{Keeping}
use Rattle.author_programs.specs.Pages.{Pages, meaning_of_pages}
use Rattle.law_reduce.specs.RootStays.{only_place, error_boundary, suspense_boundary, boundary_tree}
use Rattle.law_reduce.proofs.Owners.{owners_in}
use Rattle.law_elm.specs.Roots.{root_place, RootStands}
use Rattle.law_elm.specs.Programs.{AllOwned}
use Rattle.law_elm.proofs.Tiers.{Tier, WrapperTier, SuspenseTier, CatcherTier, RootTier, PlainTier, next_tier, IsTier}
use Rattle.law_elm.proofs.Rules.{Rules}
use Rattle.law_elm.proofs.Well.{OwnAll}
use Rattle.law_elm.proofs.Standing.{kid_found, kids_of, Good}
use Rattle.law_elm.proofs.Sessions.{Safe}
use Rattle.law_elm.proofs.Staying.{shows_there}

-- what stands above a scope
root_above : (t : Tier) (side : SideName) → next_tier t side ≡ RootTier → (t ≡ CatcherTier) × (side ≡ MainSide)
root_above WrapperTier MainSide h = cc
root_above WrapperTier ChildrenSide h = cc
root_above WrapperTier FallbackSide h = cc
root_above SuspenseTier MainSide h = cc
root_above SuspenseTier ChildrenSide h = cc
root_above SuspenseTier FallbackSide h = cc
root_above CatcherTier MainSide h = (refl, refl)
root_above CatcherTier ChildrenSide h = cc
root_above CatcherTier FallbackSide h = cc
root_above RootTier side h = cc
root_above PlainTier side h = cc

catcher_above : (t : Tier) (side : SideName) → next_tier t side ≡ CatcherTier → (t ≡ SuspenseTier) × (side ≡ ChildrenSide)
catcher_above WrapperTier MainSide h = cc
catcher_above WrapperTier ChildrenSide h = cc
catcher_above WrapperTier FallbackSide h = cc
catcher_above SuspenseTier MainSide h = cc
catcher_above SuspenseTier ChildrenSide h = (refl, refl)
catcher_above SuspenseTier FallbackSide h = cc
catcher_above CatcherTier MainSide h = cc
catcher_above CatcherTier ChildrenSide h = cc
catcher_above CatcherTier FallbackSide h = cc
catcher_above RootTier side h = cc
catcher_above PlainTier side h = cc

suspense_above : (t : Tier) (side : SideName) → next_tier t side ≡ SuspenseTier → (t ≡ WrapperTier) × (side ≡ MainSide)
suspense_above WrapperTier MainSide h = (refl, refl)
suspense_above WrapperTier ChildrenSide h = cc
suspense_above WrapperTier FallbackSide h = cc
suspense_above SuspenseTier MainSide h = cc
suspense_above SuspenseTier ChildrenSide h = cc
suspense_above SuspenseTier FallbackSide h = cc
suspense_above CatcherTier MainSide h = cc
suspense_above CatcherTier ChildrenSide h = cc
suspense_above CatcherTier FallbackSide h = cc
suspense_above RootTier side h = cc
suspense_above PlainTier side h = cc

none_above : (t : Tier) (side : SideName) → next_tier t side ≡ WrapperTier → ⊥
none_above WrapperTier MainSide h = cc
none_above WrapperTier ChildrenSide h = cc
none_above WrapperTier FallbackSide h = cc
none_above SuspenseTier MainSide h = cc
none_above SuspenseTier ChildrenSide h = cc
none_above SuspenseTier FallbackSide h = cc
none_above CatcherTier MainSide h = cc
none_above CatcherTier ChildrenSide h = cc
none_above CatcherTier FallbackSide h = cc
none_above RootTier side h = cc
none_above PlainTier side h = cc

module _ (K : Types) (may : K.Component → Type 0) (c : K.Component) (p : K.Props) where
  -- the root wrapper is told by its component
  wrapper_is : (t : Tier) → IsTier {K = K} may c p t (Root c p) → t ≡ WrapperTier
  wrapper_is WrapperTier is = refl
  wrapper_is SuspenseTier is = let same : Root c p ≡ suspense_boundary c p = is in cc
  wrapper_is CatcherTier is = let same : Root c p ≡ error_boundary c p = is in cc
  wrapper_is RootTier is = let same : Root c p ≡ Own c is.0 = is.1 in cc
  wrapper_is PlainTier is = absurd is

module _ {K : Types} where
  -- in a tree that is one component nothing stands elsewhere
  one_place : (tree other : Tree K) (q : Place) (d : VComponent K) → spots [] other ≡ component_at q d ∷ [] → Some tree ≡ Some other → (p : Place) (c : VComponent K) → Contains (spots [] tree) (component_at p c) → p ≡ q
  one_place tree other q d is same p c h =
      let one : tree ≡ other = cc in
      let here : spots [] tree ≡ component_at q d ∷ [] = ap (λ (t : Tree K). spots [] t) one ∙ is in
      by (subst (λ (ss : List (Spot K)). Among ss (component_at p c)) here (among_contained (spots [] tree) (component_at p c) h))
    where
      by : Among (component_at q d ∷ []) (component_at p c) → p ≡ q
      by (inl e) = cc
      by (inr none) = absurd none

  some_scope : (x y : Scope K) → Some x ≡ Some y → x ≡ y
  some_scope x y h = cc

  some_row : (x y : CellRow K) → Some x ≡ Some y → x ≡ y
  some_row x y h = cc

  -- what stands on a side of which the tree and the child are known is that child
  below_is : (w : State K) (r n : ℕ) (y : Scope K) (side : SideName) (tree : Tree K) (q : Place) (d : VComponent K) → at w.scopes r ≡ Some y → (side_of y side).output ≡ Some tree
      → spots [] tree ≡ component_at q d ∷ []
      → child_at (side_of y side).children q ≡ Some n
      → (s t : ℕ) (x : Scope K) (a : SideName) → at w.scopes s ≡ Some x → s ≡ r → a ≡ side → StandsOnce w s x a t
      → t ≡ n
  below_is w r n y side tree q d there output is kid s t x a found same below h =
      let one : x ≡ y = some_scope x y (sym found ∙ ap (λ (i : ℕ). at w.scopes i) same ∙ there) in
      let here : StandsOnce w s y side t = subst (λ (b : SideName). StandsOnce w s y b t) below (subst (λ (z : Scope K). StandsOnce w s z a t) one h) in
      let place : here.place ≡ q = one_place here.tree tree q d is (sym here.output ∙ output) here.place here.component here.slot in
      some_number t n (sym here.kid ∙ ap (λ (p : Place). child_at (side_of y side).children p) place ∙ kid)

  -- what is said of a cell that is there
  pub own_found : (R : ℕ → Scope K → Type 0) (C : ℕ → ℕ → Type 0) (bound : ℕ) (w : State K) (es : List (ℕ × CellRow K)) (n : ℕ) (row : CellRow K) → at es n ≡ Some row
      → OwnAll R C bound w (owners_in es)
      → C n row.owner × (is_live w row.owner ≡ true)
  own_found R C bound w [] n row h g = cc
  own_found R C bound w (e ∷ es) n row h g =
      by_test (nat_eq e.0 n)
      (
      λ q.
      let same : e.1 ≡ row = some_row e.1 row (sym (pick_true (Some e.1) (at es n) q) ∙ h) in
      subst (λ (r : CellRow K). C n r.owner × (is_live w r.owner ≡ true)) same
      (subst (λ (m : ℕ). C m (e.1).owner × (is_live w (e.1).owner ≡ true)) (eqb-true e.0 n q) g.0)
      )
      (λ q. own_found R C bound w es n row (sym (pick_false (Some e.1) (at es n) q) ∙ h) g.1)

module _
    {K : Types} (k : Keeping K.Value) (a : Pages K) (props : K.Props) (law : Rules k a props) (lawful : IsLawful K (meaning_of_pages k a)) (fits : ChildrenFitSlots (meaning_of_pages k a))
    (inputs : List (Input K)) (limits : Limits) (m : Machine K) (reached : Reached (meaning_of_pages k a) limits props inputs m) (alive : m.dead ≡ None) (built : m.built ≡ true) (idle : m.work ≡ [])
    (safe : Safe k a props law m) (root : ℕ) (stands : RootStands a.root props m.state root)
  where
    abbrev app : Application K
    app = meaning_of_pages k a

    abbrev w : State K
    w = m.state

    abbrev tiers : ℕ → Tier
    tiers n = safe.holds.tiers n

    abbrev R : ℕ → Scope K → Type 0
    R n x = Good k a props law safe.holds.tiers safe.holds.bound n x

    -- a scope above another one, and where it stands there
    record Above (t : Tier) (o : ℕ) : Type 0 where
      above : ℕ
      row : Scope K
      there : at w.scopes above ≡ Some row
      side : SideName
      next : next_tier (tiers above) side ≡ t
      once : StandsOnce w above row side o

    first_tier : tiers 0 ≡ WrapperTier
    first_tier =
        let g : R 0 stands.wrapped.root = safe.holds.well.rows 0 stands.wrapped.root stands.wrapped.stands in
        wrapper_is K law.may a.root props (tiers 0) (subst (λ (d : VComponent K). IsTier law.may a.root props (tiers 0) d) stands.wrapped.is_root g.0.is)

    -- one without a parent is the root wrapper
    on_top : (o : ℕ) (y : Scope K) → at w.scopes o ≡ Some y → y.parent ≡ None → o ≡ 0
    on_top o y there none = reached_have_one_root app lawful limits props inputs m reached alive o y there none

    with_parent : (t : Tier) (o s : ℕ) (y : Scope K) → at w.scopes o ≡ Some y → y.parent ≡ Some s → tiers o ≡ t → Above t o
    with_parent t o s y there parent is =
        let stood = settled_stand_once app lawful limits props inputs m reached alive built idle o s y there parent in
        let x : Scope K = stood.0 in
        let g : R s x = safe.holds.well.rows s x stood.1 in
        let kid = kid_found safe.holds.tiers safe.holds.bound (next_tier (tiers s) y.below) (side_of x y.below).children (stood.2).place o (kids_of k a props law safe.holds.tiers safe.holds.bound s x y.below g.0) (stood.2).kid in
        record { above = s; row = x; there = stood.1; side = y.below; next = sym kid.0 ∙ is; once = stood.2 }

    above_it : (t : Tier) → (t ≡ WrapperTier → ⊥) → (o : ℕ) → is_live w o ≡ true → tiers o ≡ t → Above t o
    above_it t other o live is =
        let y = found_live (at w.scopes o) live in
        on y.0 y.1 (y.0).parent refl
      where
        on : (y : Scope K) → at w.scopes o ≡ Some y → (p : Option ℕ) → y.parent ≡ p → Above t o
        on y there None e = absurd (other (sym is ∙ ap (λ (n : ℕ). tiers n) (on_top o y there e) ∙ first_tier))
        on y there (Some s) e = with_parent t o s y there e is

    lives : (s : ℕ) (x : Scope K) → at w.scopes s ≡ Some x → is_live w s ≡ true
    lives s x e = ap (λ (o : Option (Scope K)). is_some o) e

    is_first : (b : ℕ) (x : Scope K) → at w.scopes b ≡ Some x → tiers b ≡ WrapperTier → b ≡ 0
    is_first b x there is = on x.parent refl
      where
        on : (p : Option ℕ) → x.parent ≡ p → b ≡ 0
        on None e = on_top b x there e
        on (Some s) e = let up : Above WrapperTier b = with_parent WrapperTier b s x there e is in absurd (none_above (tiers up.above) up.side up.next)

    -- so one of the root's component in its place is the root's
    pub one_root : (o : ℕ) → is_live w o ≡ true → tiers o ≡ RootTier → o ≡ root
    one_root o live is =
        let one : Above RootTier o = above_it RootTier (λ e. cc) o live is in
        let catcher = root_above (tiers one.above) one.side one.next in
        let two : Above CatcherTier one.above = above_it CatcherTier (λ e. cc) one.above (lives one.above one.row one.there) catcher.0 in
        let suspense = catcher_above (tiers two.above) two.side two.next in
        let three : Above SuspenseTier two.above = above_it SuspenseTier (λ e. cc) two.above (lives two.above two.row two.there) suspense.0 in
        let wrapper = suspense_above (tiers three.above) three.side three.next in
        let first : three.above ≡ 0 = is_first three.above three.row three.there wrapper.0 in
        let boundary : two.above ≡ stands.boundary =
        below_is w 0 stands.boundary stands.wrapped.root MainSide (root_tree a.root props) only_place (suspense_boundary a.root props) stands.wrapped.stands stands.wrapped.shows refl stands.wrapped.kid
        three.above two.above three.row three.side three.there first wrapper.1 three.once in
        let error : one.above ≡ stands.error =
        below_is w stands.boundary stands.error stands.wrapped.around ChildrenSide (boundary_tree a.root props) only_place (error_boundary a.root props) stands.wrapped.below stands.wrapped.holds refl stands.wrapped.held
        two.above one.above two.row two.side two.there boundary suspense.1 two.once in
        let y = found_live (at w.scopes stands.error) stands.wrapped.live in
        let shows = shows_there k a props law lawful fits inputs limits stands.boundary stands.error m reached built alive safe stands.wrapped y.0 y.1 in
        let kid : child_at (side_of y.0 MainSide).children root_place ≡ Some root =
        sym (ap (λ (z : Option (Scope K)). elim z as (λ i. Option ℕ) [ None ↦ None | Some x ↦ child_at (side_of x MainSide).children root_place ]) y.1) ∙ stands.child in
        below_is w stands.error root y.0 MainSide (children_tree (rendered (one_slot (component_slot (Own a.root props))))) root_place (Own a.root props) y.1 shows refl kid
        one.above o one.row one.side one.there error catcher.1 one.once

    -- and where such alone have cells all are the root's
    pub all_owned : ((t : Tier) (n o : ℕ) → law.cells t n o → t ≡ RootTier) → AllOwned w root
    all_owned roots = λ n row there.
        let g = own_found (λ i x. R i x) (λ i o. law.cells (tiers o) i o) safe.holds.bound w w.cells n row there safe.holds.well.cells in
        one_root row.owner g.1 (roots (tiers row.owner) n row.owner g.0)
