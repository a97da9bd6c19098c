-- An event that one listener hears, or none.
use Rattle.std.proofs.Common.{Bool, true, false, ◌&&◌, not, List, ◌≡◌, refl, ap, ◌∙◌}
use Rattle.std.specs.Prelude.{if◌then◌else◌}
use Rattle.rt_model.specs.Tree.{Types}
use Rattle.rt_model.specs.World.{Event}
use Rattle.rt_model.specs.Heard.{Listener}
use Rattle.law_pages.specs.Updates.{model_of, update, updates}
use Rattle.law_reduce.specs.Reduces.{sent, OneHears}

either_way : {A : Type 0} (b : Bool) (x : A) → (if b then x else x) ≡ x
either_way true x = refl
either_way false x = refl

pub one_hears : (K : Types) → OneHears K
one_hears K a w name payload element bubbles =
    let e : Event K = sent payload bubbles in (
      λ l is.
          ap (λ (ls : List (Listener K)). updates a bubbles w.next.cells ls e (model_of w)) is
          ∙ either_way (bubbles && not (a.reply l.handler e).leaves.propagates) (update a l.handler e w.next.cells (model_of w)),
      λ is. ap (λ (ls : List (Listener K)). updates a bubbles w.next.cells ls e (model_of w)) is,
    )
