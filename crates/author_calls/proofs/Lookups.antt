-- One step of a look-up, by what the code knows of it.
use Rattle.std.proofs.Common.{ℕ, ◌+◌, ◌-◌, ◌<◌, ◌≡◌, sym, ap, ◌∙◌}
use Rattle.std.specs.Prelude.{Option, Some, None}
use Rattle.rt_model.specs.Program.{Call, Found, looked_up, parent_in}
use Rattle.rt_model.specs.Tree.{Types}
use Rattle.rt_model.specs.World.{World}
use Rattle.author_programs.specs.Reads.{looked_at}
use Rattle.author_calls.proofs.Climbs.{look-found, look-on}

module _ {K : Types} (v w : World K) (k n i s from : ℕ) (c began d : Call K) (before : i < n) (same : v ≡ w)
    (rest : looked_up w k (n - i) s c ≡ looked_up w k n from began) (x : Option K.Value) (value : x ≡ (looked_at v k s c).value) (call : d ≡ (looked_at v k s c).call) where
  there : x ≡ (looked_at w k s c).value
  there = value ∙ ap (λ (u : World K). (looked_at u k s c).value) same

  left-call : d ≡ (looked_at w k s c).call
  left-call = call ∙ ap (λ (u : World K). (looked_at u k s c).call) same

  ends-here : (a : K.Value) → x ≡ Some a → looked_up w k n from began ≡ looked_at w k s c
  ends-here a is = sym rest ∙ look-found w k n i s c before a (sym there ∙ is)

  -- the value that is found
  pub look-value : (a : K.Value) → x ≡ Some a → Some a ≡ (looked_up w k n from began).value
  look-value a is = sym is ∙ there ∙ sym (ap (λ (f : Found K). f.value) (ends-here a is))

  -- the call that has found it
  pub look-call : (a : K.Value) → x ≡ Some a → d ≡ (looked_up w k n from began).call
  look-call a is = left-call ∙ sym (ap (λ (f : Found K). f.call) (ends-here a is))

  -- the look-up goes on at the parent
  pub look-goes : (p : ℕ) → x ≡ None → parent_in w.given.parents s ≡ Some p → looked_up w k (n - (i + 1)) p d ≡ looked_up w k n from began
  look-goes p is up =
      ap (λ (e : Call K). looked_up w k (n - (i + 1)) p e) left-call ∙ sym (look-on w k n i s c before p (sym there ∙ is) up) ∙ rest
