-- A look-up climbs from scope to scope.
use Rattle.std.proofs.Common.{ℕ, true, false, ◌+◌, ◌-◌, ◌<◌, ◌≡◌, refl, ap, ◌∙◌, cond}
use Rattle.std.specs.Prelude.{Option, Some, None}
use Rattle.rt_lemmas.proofs.Numbers.{fewer}
use Rattle.rt_model.specs.Lists.{has}
use Rattle.rt_model.specs.Program.{Call, Found, noted, found_at, no_further, further_up, own_context, looked_up, parent_in, boundary_above}
use Rattle.rt_model.specs.Tree.{Types}
use Rattle.rt_model.specs.World.{Context, Given, World}
use Rattle.author_programs.specs.Reads.{looked_at}

module _ {K : Types} where
  -- a value that is found ends the look-up there
  found-there : (w : World K) (k s : ℕ) (c : Call K) (further : Call K → Found K) (own present : Option K.Value) (v : K.Value)
      → (found_at w k s c no_further own present).value ≡ Some v → found_at w k s c further own present ≡ found_at w k s c no_further own present
  found-there w k s c further (Some a) present v h = refl
  found-there w k s c further None (Some a) v h = refl
  found-there w k s c further None None v h = absurd (cc)

  -- where none is, it goes on
  none-there : (w : World K) (k s : ℕ) (c : Call K) (further : Call K → Found K) (own present : Option K.Value)
      → (found_at w k s c no_further own present).value ≡ None → found_at w k s c further own present ≡ further (found_at w k s c no_further own present).call
  none-there w k s c further (Some a) present h = absurd (cc)
  none-there w k s c further None (Some a) h = absurd (cc)
  none-there w k s c further None None h = refl

  -- where none is and nothing is above, it ends with nothing
  bare : (f : Found K) → f.value ≡ None → f ≡ no_further f.call
  bare f h = λ i. record { value = h i; call = f.call }

  -- where the call itself provided nothing there, the read is noted
  pub found-call : (w : World K) (k s : ℕ) (c : Call K) (own present : Option K.Value) → own ≡ None → (found_at w k s c no_further own present).call ≡ noted c (Context k s)
  found-call w k s c None None h = refl
  found-call w k s c None (Some v) h = refl
  found-call w k s c (Some v) present h = absurd (cc)

  module _ (w : World K) (k n i s : ℕ) (c : Call K) (before : i < n) where
    abbrev here : Found K
    here = looked_at w k s c

    -- a value is found
    pub look-found : (v : K.Value) → here.value ≡ Some v → looked_up w k (n - i) s c ≡ here
    look-found v h =
        ap (λ m. looked_up w k m s c) (fewer n i before)
        ∙ found-there w k s c (λ d. further_up (λ p e. looked_up w k (n - (i + 1)) p e) (parent_in w.given.parents s) d) (own_context c.provided k s) (w.values.context k s) v h

    -- the look-up goes on at the parent
    pub look-on : (p : ℕ) → here.value ≡ None → parent_in w.given.parents s ≡ Some p → looked_up w k (n - i) s c ≡ looked_up w k (n - (i + 1)) p here.call
    look-on p h up =
        ap (λ m. looked_up w k m s c) (fewer n i before)
        ∙ none-there w k s c (λ d. further_up (λ p e. looked_up w k (n - (i + 1)) p e) (parent_in w.given.parents s) d) (own_context c.provided k s) (w.values.context k s) h
        ∙ ap (λ above. further_up (λ p e. looked_up w k (n - (i + 1)) p e) above here.call) up

    -- no scope is above
    pub look-ends : here.value ≡ None → parent_in w.given.parents s ≡ None → looked_up w k (n - i) s c ≡ no_further here.call
    look-ends h up =
        ap (λ m. looked_up w k m s c) (fewer n i before)
        ∙ none-there w k s c (λ d. further_up (λ p e. looked_up w k (n - (i + 1)) p e) (parent_in w.given.parents s) d) (own_context c.provided k s) (w.values.context k s) h
        ∙ ap (λ above. further_up (λ p e. looked_up w k (n - (i + 1)) p e) above here.call) up

  module _ (g : Given K) (n i s : ℕ) (before : i < n) where
    -- a boundary is found
    pub bound-here : has g.boundaries s ≡ true → boundary_above g (n - i) s ≡ Some s
    bound-here h =
        ap (λ m. boundary_above g m s) (fewer n i before)
        ∙ ap (λ b. cond b (Some s) (elim (parent_in g.parents s) [ None ↦ None | Some p ↦ boundary_above g (n - (i + 1)) p ])) h

    -- the climb goes on at the parent
    pub bound-on : (p : ℕ) → has g.boundaries s ≡ false → parent_in g.parents s ≡ Some p → boundary_above g (n - i) s ≡ boundary_above g (n - (i + 1)) p
    bound-on p h up =
        ap (λ m. boundary_above g m s) (fewer n i before)
        ∙ ap (λ b. cond b (Some s) (elim (parent_in g.parents s) [ None ↦ None | Some p ↦ boundary_above g (n - (i + 1)) p ])) h
        ∙ ap (λ (above : Option ℕ). elim above as (λ _. Option ℕ) [ None ↦ None | Some p ↦ boundary_above g (n - (i + 1)) p ]) up

    -- no scope is above
    pub bound-ends : has g.boundaries s ≡ false → parent_in g.parents s ≡ None → boundary_above g (n - i) s ≡ None
    bound-ends h up =
        ap (λ m. boundary_above g m s) (fewer n i before)
        ∙ ap (λ b. cond b (Some s) (elim (parent_in g.parents s) [ None ↦ None | Some p ↦ boundary_above g (n - (i + 1)) p ])) h
        ∙ ap (λ (above : Option ℕ). elim above as (λ _. Option ℕ) [ None ↦ None | Some p ↦ boundary_above g (n - (i + 1)) p ]) up

-- a look-up
pub ruleset looking = (look-found, look-on, look-ends)

-- a climb to a boundary
pub ruleset bounding = (bound-here, bound-on, bound-ends)
