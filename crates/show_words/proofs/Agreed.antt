-- Two definitions of one thing agree.
use Rattle.std.proofs.Common.{ℕ, List, [], ◌∷◌, ◌≡◌, ◌+◌, if◌then◌else◌, refl, ap}
use Rattle.std.specs.Prelude.{nat_le}
use Rattle.rt_edits.specs.Sinks as sinks
use Rattle.rt_model.specs.Caused.{listens}
use Rattle.rt_model.specs.Heard.{is_listener}
use Rattle.rt_model.specs.Tree.{Types, AttributeValue, text_value, no_value, listener}
use Rattle.show_streams.specs.Failures as streams

pub same_listener : {K : Types} → (value : AttributeValue K) → listens value ≡ is_listener value
same_listener (text_value text) = refl
same_listener no_value = refl
same_listener (listener origin handler) = refl

pub same_failures : (calls : List ℕ) (made : ℕ) → sinks.failures calls made ≡ streams.failures calls made
same_failures [] made = refl
same_failures (call ∷ calls) made = ap (λ n. (if nat_le call made then 1 else 0) + n) (same_failures calls made)
