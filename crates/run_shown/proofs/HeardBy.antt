-- What is heard of the climb that a look finds is what the definitions hear of the state.
use Rattle.std.proofs.Common.{ℕ, Bool, length, List, [], ◌≡◌, ◌≢◌, sym, ap, ◌∙◌}
use Rattle.std.specs.Prelude.{Some, None, if◌then◌else◌}
use Rattle.rt_lemmas.proofs.Numbers.{not_zero}
use Rattle.tree_nodes.specs.declared.attribute.Attribute.{Attribute}
use Rattle.rt_model.specs.OneLog.{types}
use Rattle.rt_model.specs.Lists.{Text}
use Rattle.rt_model.specs.State as state
use Rattle.rt_model.specs.Heard as hears
use Rattle.run_shown.specs.declared.look.Look.{Look}
use Rattle.run_shown.specs.Look.{ShowsScopes}
use Rattle.run_shown.specs.Climbs.{climb_found, scope_climb}
use Rattle.run_shown.specs.Hearing.{event_heard}
use Rattle.run_shown.proofs.Agrees.{climbs_are}
use Rattle.run_shown.proofs.Hearings.{event_is}

module _ {C Q V H T E L : Type 0} where
  pub heard_nowhere : (w : state.State (types C Q V H T E L)) (event : Text) (element : ℕ) (bubbles : Bool) → element ≡ 0 → [] ≡ hears.heard w event element bubbles
  heard_nowhere w event element bubbles none = ap (λ n. hears.heard w event n bubbles) (sym none)

  heard_somewhere : (w : state.State (types C Q V H T E L)) (event : Text) (element : ℕ) (bubbles : Bool) → element ≢ 0
      → hears.heard w event element bubbles ≡ hears.heard_on event bubbles (hears.find_within w element (length w.scopes) 0)
  heard_somewhere w event element bubbles some =
      ap (λ b. hears.heard_on event bubbles (if b then None else hears.find_within w element (length w.scopes) 0)) (not_zero element some)

module _ {P C Q V H T E L : Type 0} where
  pub heard_absent : (look : Look P C Q V H T E L) (w : state.State (types C Q V H T E L)) → ShowsScopes look w → (event : Text) (element : ℕ) (bubbles : Bool)
      → element ≢ 0 → None ≡ scope_climb look element look.scopes 0 → [] ≡ hears.heard w event element bubbles
  heard_absent look w h event element bubbles some gone =
      ap (λ o. hears.heard_on event bubbles o) (gone ∙ climbs_are look w h element 0) ∙ sym (heard_somewhere w event element bubbles some)

  pub heard_there : (look : Look P C Q V H T E L) (w : state.State (types C Q V H T E L)) → ShowsScopes look w → (event : Text) (element : ℕ) (bubbles : Bool) (climb : List (List (List (Attribute P C Q V H T E L))))
      → element ≢ 0 → climb_found (Some climb) ≡ scope_climb look element look.scopes 0 → event_heard event bubbles climb ≡ hears.heard w event element bubbles
  heard_there look w h event element bubbles climb some found =
      event_is event bubbles climb ∙ ap (λ o. hears.heard_on event bubbles o) (found ∙ climbs_are look w h element 0) ∙ sym (heard_somewhere w event element bubbles some)
