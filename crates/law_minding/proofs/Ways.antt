-- The scopes above a scope are the same as long as it is there.
use Rattle.std.proofs.Common.{ℕ, zero, suc, ◌+◌, ◌<◌, false, List, [], ◌∷◌, length, ◌≡◌, refl, sym, ap, ◌∙◌, subst, nat_eq, arith}
use Rattle.std.specs.Prelude.{Option, Some, None}
use Rattle.std.proofs.lemmas.Bool.{eqb-true}
use Rattle.rt_model.specs.Lists.{at}
use Rattle.rt_model.specs.Laws.{IsLawful}
use Rattle.rt_model.specs.Program.{parent_in}
use Rattle.rt_model.specs.Tree.{Types}
use Rattle.rt_model.specs.World.{Application}
use Rattle.rt_model.specs.State.{Scope, State, parents_of, world_of}
use Rattle.rt_model.specs.Replay.{Entry, Input, Machine}
use Rattle.rt_model.specs.Causes.{Limits}
use Rattle.rt_model.proofs.Maps.{by_test, at_here, at_there}
use Rattle.law_moves.specs.Moves.{Move, Silent, Closed, Logged, entries, Moves}
use Rattle.law_moves.specs.Reached.{Reached}
use Rattle.law_moves.specs.Trees.{IsTree}
use Rattle.law_headline.proofs.Heights.{height_low}
use Rattle.law_headline.proofs.Trees.{reached_are_trees}
use Rattle.law_behavior.specs.Along.{NoneRemoves, removed_in}
use Rattle.author_formulas.specs.Looking.{way_up, StandAlike}
use Rattle.law_minding.proofs.Entries.{removes}
use Rattle.law_minding.proofs.Ending.{scope_goes}
use Rattle.law_minding.proofs.Parents.{move_keeps}

-- the way from a parent on, where there is one
abbrev from : List (ℕ × Option ℕ) → ℕ → Option ℕ → List ℕ
from ps n o = elim o as (λ z. List ℕ) [ None ↦ [] | Some p ↦ way_up ps n p ]

module _ {K : Types} where
  parents_long : (es : List (ℕ × Scope K)) → length (parents_of es) ≡ length es
  parents_long [] = refl
  parents_long (e ∷ es) = let tail = parents_long es in omega (arith, tail)

  parent_is : (es : List (ℕ × Scope K)) (s : ℕ) (x : Scope K) → at es s ≡ Some x → parent_in (parents_of es) s ≡ x.parent
  parent_is [] s x e = cc
  parent_is (d ∷ es) s x e =
      by_test (nat_eq d.0 s)
      (
      λ q.
      let found : Some d.1 ≡ Some x = sym (at_here d.0 d.1 es s q) ∙ e in
      let same : d.1 ≡ x = cc in
      ap (λ (o : Option (Option ℕ)). elim o as (λ z. Option ℕ) [ None ↦ None | Some p ↦ p ]) (at_here d.0 (d.1).parent (parents_of es) s q)
      ∙ ap (λ (y : Scope K). y.parent) same
      )
      (
      λ q.
      ap (λ (o : Option (Option ℕ)). elim o as (λ z. Option ℕ) [ None ↦ None | Some p ↦ p ]) (at_there d.0 (d.1).parent (parents_of es) s q)
      ∙ parent_is es s x (sym (at_there d.0 d.1 es s q) ∙ e)
      )

  -- a way is whole once its fuel is greater than the height
  enough : (w : State K) → IsTree w → (n k s : ℕ) (x : Scope K) → at w.scopes s ≡ Some x → x.height < n → x.height < k
      → way_up (parents_of w.scopes) n s ≡ way_up (parents_of w.scopes) k s
  enough w tree zero k s x live low high = absurd (omega (arith, low))
  enough w tree (suc n) zero s x live low high = absurd (omega (arith, high))
  enough w tree (suc n) (suc k) s x live low high =
      ap (λ (ss : List ℕ). s ∷ ss)
      (ap (λ (o : Option ℕ). from (parents_of w.scopes) n o) (parent_is w.scopes s x live)
      ∙ up x.parent refl (λ p y l a b. enough w tree n k p y l a b)
      ∙ sym (ap (λ (o : Option ℕ). from (parents_of w.scopes) k o) (parent_is w.scopes s x live)))
    where
      up : (o : Option ℕ) → x.parent ≡ o
          → ((p : ℕ) (y : Scope K) → at w.scopes p ≡ Some y → y.height < n → y.height < k → way_up (parents_of w.scopes) n p ≡ way_up (parents_of w.scopes) k p)
          → from (parents_of w.scopes) n o ≡ from (parents_of w.scopes) k o
      up None q go = refl
      up (Some p) q go =
          let above = tree.parent s p x live q in
          go p above.0 above.1 (omega (arith, low, above.2)) (omega (arith, high, above.2))

  -- what is there in two states has one parent and one height in both
  abbrev Lasts : State K → State K → Type 0
  Lasts w v = (r : ℕ) (x y : Scope K) → at w.scopes r ≡ Some x → at v.scopes r ≡ Some y → (y.parent ≡ x.parent) × (y.height ≡ x.height)

  same_way : (w v : State K) → IsTree w → IsTree v → Lasts w v → (n s : ℕ) (x y : Scope K) → at w.scopes s ≡ Some x → at v.scopes s ≡ Some y
      → way_up (parents_of w.scopes) n s ≡ way_up (parents_of v.scopes) n s
  same_way w v tree other lasts zero s x y here there = refl
  same_way w v tree other lasts (suc n) s x y here there =
      ap (λ (ss : List ℕ). s ∷ ss)
      (ap (λ (o : Option ℕ). from (parents_of w.scopes) n o) (parent_is w.scopes s x here)
      ∙ up x.parent refl ((lasts s x y here there).0) (λ p a b f g. same_way w v tree other lasts n p a b f g)
      ∙ sym (ap (λ (o : Option ℕ). from (parents_of v.scopes) n o) (parent_is v.scopes s y there ∙ (lasts s x y here there).0)))
    where
      up : (o : Option ℕ) → x.parent ≡ o → y.parent ≡ x.parent
          → ((p : ℕ) (a b : Scope K) → at w.scopes p ≡ Some a → at v.scopes p ≡ Some b → way_up (parents_of w.scopes) n p ≡ way_up (parents_of v.scopes) n p)
          → from (parents_of w.scopes) n o ≡ from (parents_of v.scopes) n o
      up None q e go = refl
      up (Some p) q e go =
          let below = tree.parent s p x here q in
          let above = other.parent s p y there (e ∙ q) in
          go p below.0 above.0 below.1 above.1

  -- so the scope stands alike in both
  pub lasting_alike : (w v : State K) → IsTree w → IsTree v → Lasts w v → (t s : ℕ) (x y : Scope K) → at w.scopes s ≡ Some x → at v.scopes s ≡ Some y
      → StandAlike (world_of w s (Some t) false) (world_of v s (Some t) false)
  lasting_alike w v tree other lasts t s x y here there =
      record {
        scope = refl;
        way =
            enough w tree (length (parents_of w.scopes) + 1) (x.height + 1) s x here (omega (arith, height_low w tree s x here, parents_long w.scopes)) (omega arith)
            ∙ same_way w v tree other lasts (x.height + 1) s x y here there
            ∙ enough v other (x.height + 1) (length (parents_of v.scopes) + 1) s y there (omega (arith, height_is))
            (omega (arith, height_low v other s y there, parents_long v.scopes));
      }
    where
      height_is : y.height ≡ x.height
      height_is = (lasts s x y here there).1

module _ {K : Types} (app : Application K) (lawful : IsLawful K app) where
  module _ (limits : Limits) (m u : Machine K) (move : Move) (step : Moves app limits m move u) (alive : u.dead ≡ None) where
    -- what is there after a move wasn't removed at it
    unremoved : (d : Move) → Moves app limits m d u → (r : ℕ) (y : Scope K) → at u.state.scopes r ≡ Some y → NoneRemoves r (entries (d ∷ []))
    unremoved Silent s r y there = tt
    unremoved Closed s r y there = tt
    unremoved (Logged e) s r y there =
        by_test (removed_in r e)
        (
        λ q.
        let removal = removes r e q in
        let goes : at u.state.scopes removal.0 ≡ None =
        scope_goes 0 app lawful removal.0 m limits u (subst (λ (d : Entry). Moves app limits m (Logged d) u) removal.1 s) alive in
        let absurdity : None ≡ Some y = sym goes ∙ ap (λ (k : ℕ). at u.state.scopes k) (eqb-true removal.0 r removal.2) ∙ there in
        cc
        )
        (λ q. (q, tt))

    lasts : Lasts m.state u.state
    lasts r x y here there =
        let kept = move_keeps r x.parent x.height app limits m u move step (unremoved move step r y there) (record { row = x; there = here; holds = (refl, refl) }) in
        let found : Some kept.row ≡ Some y = sym kept.there ∙ there in
        let same : kept.row ≡ y = cc in
        (ap (λ (z : Scope K). z.parent) (sym same) ∙ (kept.holds).0, ap (λ (z : Scope K). z.height) (sym same) ∙ (kept.holds).1)

    -- a scope that is there on both sides of a move stands alike
    pub move_alike : (props : K.Props) (inputs : List (Input K)) → Reached app limits props inputs m → m.dead ≡ None → Reached app limits props inputs u
        → (t s : ℕ) (x y : Scope K)
        → at m.state.scopes s ≡ Some x
        → at u.state.scopes s ≡ Some y
        → StandAlike (world_of m.state s (Some t) false) (world_of u.state s (Some t) false)
    move_alike props inputs reached living after t s x y here there =
        lasting_alike m.state u.state (reached_are_trees app lawful limits props inputs m reached living)
        (reached_are_trees app lawful limits props inputs u after alive) lasts t s x y here there
