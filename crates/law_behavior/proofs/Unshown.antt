-- Hidden scopes write nothing, and effects come up of mounted scopes alone.
use Rattle.std.proofs.Common.{ℕ, zero, suc, Bool, true, false, ◌||◌, List, [], ◌∷◌, ◌++◌, length, ◌≡◌, inl, inr, refl, sym, ap, ◌∙◌, subst, nat_eq}
use Rattle.std.proofs.lemmas.Bool.{eqb-true}
use Rattle.std.specs.Prelude.{Some, if◌then◌else◌}
use Rattle.rt_model.specs.Lists.{at}
use Rattle.rt_model.specs.Tree.{Types}
use Rattle.rt_model.specs.World.{Application}
use Rattle.rt_model.specs.State.{Scope, State, is_shown}
use Rattle.rt_model.specs.Next.{RunEffects, is_before, at_rest, with_effects}
use Rattle.rt_model.specs.Replay.{mounted}
use Rattle.rt_model.specs.Caused.{Written, writes, then_on, scope_written, written_within}
use Rattle.rt_model.proofs.Maps.{by_test, pick_true, pick_false}
use Rattle.law_behavior.specs.Comes.{IsFirst, ComesToEffects}
use Rattle.law_behavior.specs.Hidden.{StandsIn, HiddenWritesNothing, EffectsAreMounted, ShownAreMounted}
use Rattle.law_behavior.proofs.Coming.{next_in_turn, rest_alike}

stands_between : (front back : List ℕ) (s : ℕ) → StandsIn (front ++ s ∷ back) s
stands_between [] back s = inl refl
stands_between (x ∷ front) back s = inr (stands_between front back s)

pub hidden_writes_nothing : {K : Types} (app : Application K) → HiddenWritesNothing app
hidden_writes_nothing {K = K} app w v s hidden = on (length w.scopes)
  where
    on : (n : ℕ) → (written_within app [] w v n s).edits ≡ []
    on zero = refl
    on (suc n) =
        ap (λ (x : Written). (then_on x (writes [])).edits)
        (pick_false (scope_written app w v [] (λ t. written_within app [] w v n t) s (at w.scopes s) (at v.scopes s)) (writes []) hidden)

module _ {K : Types} where
  abbrev Mounted : List (ℕ × Scope K) → ℕ → Type 0
  Mounted es s = (x : Scope K) × (first : K.Effect) × (others : List K.Effect) × StandsIn es (s, x) × (x.mounted ≡ true) × (x.effects ≡ first ∷ others)

  later_mounted : (e : ℕ × Scope K) (es : List (ℕ × Scope K)) (s : ℕ) → Mounted es s → Mounted (e ∷ es) s
  later_mounted e es s (x, first, others, stands, mounted_row, effects) = (x, first, others, inr stands, mounted_row, effects)

  -- whose number is among those with effects is mounted
  among_mounted : (es : List (ℕ × Scope K)) (s : ℕ) → StandsIn (with_effects es) s → Mounted es s
  among_mounted [] s h = absurd h
  among_mounted (e ∷ es) s h = on (e.1).mounted refl (e.1).effects refl (λ g. later_mounted e es s (among_mounted es s g)) h
    where
      on : (b : Bool) → (e.1).mounted ≡ b → (xs : List K.Effect) → (e.1).effects ≡ xs → (StandsIn (with_effects es) s → Mounted (e ∷ es) s)
          → StandsIn (if b then elim xs as (λ z. List ℕ) [ [] ↦ with_effects es | y ∷ ys ↦ e.0 ∷ with_effects es ] else with_effects es) s → Mounted (e ∷ es) s
      on false m xs q go g = go g
      on true m [] q go g = go g
      on true m (y ∷ ys) q go (inl same) = (e.1, y, ys, inl (ap (λ (n : ℕ). (n, e.1)) same), m, q)
      on true m (y ∷ ys) q go (inr g) = go g

  mounted_at : (w : State K) (es : List (ℕ × Scope K)) (s : ℕ) (x : Scope K) → at es s ≡ Some x → at (mounted w es) s ≡ Some (record x { mounted = x.mounted || is_shown w s })
  mounted_at w [] s x h = cc
  mounted_at w (e ∷ es) s x h =
      by_test (nat_eq e.0 s)
      (
      λ q.
      let found : Some e.1 ≡ Some x = sym (pick_true (Some e.1) (at es s) q) ∙ h in
      let same : e.1 ≡ x = cc in
      pick_true (Some (record (e.1) { mounted = (e.1).mounted || is_shown w e.0 })) (at (mounted w es) s) q
      ∙ ap (λ (y : Scope K). Some (record y { mounted = y.mounted || is_shown w e.0 })) same
      ∙ ap (λ (n : ℕ). Some (record x { mounted = x.mounted || is_shown w n })) (eqb-true e.0 s q)
      )
      (
      λ q.
      pick_false (Some (record (e.1) { mounted = (e.1).mounted || is_shown w e.0 })) (at (mounted w es) s) q
      ∙ mounted_at w es s x (sym (pick_false (Some e.1) (at es s) q) ∙ h)
      )

pub shown_are_mounted : (K : Types) → ShownAreMounted K
shown_are_mounted K w s x h = mounted_at w w.scopes s x h

pub effects_are_mounted : (K : Types) → EffectsAreMounted K
effects_are_mounted K w s h =
    let turn : ComesToEffects (at_rest w) s = next_in_turn K w (RunEffects s) h in
    let f : IsFirst (λ a b. is_before (at_rest w).scopes a b) s (with_effects (at_rest w).scopes) = turn.first in
    let scopes : (at_rest w).scopes ≡ w.scopes = ap (λ (x : State K). x.scopes) (rest_alike w) in
    let stands : StandsIn (with_effects w.scopes) s =
    subst (λ (es : List (ℕ × Scope K)). StandsIn (with_effects es) s) scopes (subst (λ (xs : List ℕ). StandsIn xs s) (sym f.stands) (stands_between f.front f.back s)) in
    let found : Mounted w.scopes s = among_mounted w.scopes s stands in
    record { row = found.0; first = found.1; others = found.2; stands = found.3; mounted = found.4; effects = found.5 }
