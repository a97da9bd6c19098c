-- The last index is led, and then those before it.
use Rattle.std.proofs.Common.{ℕ, ◌≡◌, ◌-◌, ◌∙◌, length, get_or, take, refl, ap}
use Rattle.run_places.specs.PlaceKeys.{led, path_key}
use Rattle.run_places.proofs.Lasts.{path_front}
use Rattle.run_places.proofs.place_keys.+path_key.Goals as goal

pub returns-in-len1-up : goal.returns-in-len1-up
returns-in-len1-up t c =
    let path = c.args.path.now in
    let last : ℕ = get_or path (length path - 1) 0 in
    let one : c.led.result ≡ led last c.args.rest = c.led.ensures ∙ ap (λ n. led n c.args.rest) c.from.ensures in
    c.path_key.ensures ∙ ap (λ n. path_key (take (length path - 1) path) n) one
    ∙ path_front path last 0 c.args.rest c.in-len1-up.len_at_least refl
