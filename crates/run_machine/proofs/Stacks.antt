-- A stack of open work, whose last item comes first.
use Rattle.std.proofs.Common.{List, [], ◌∷◌, ◌++◌, ◌≡◌, ap, ◌∙◌, reverse}
use Rattle.std.proofs.lemmas.List.{map-append, reverse-append, reverse-reverse}
use Rattle.run_work.specs.Items.{item_of, work_of}
use Rattle.run_work.specs.declared.item.Item.{Item}

module _ {P C Q V H T E L : Type 0} where
  -- items that were stacked come first, in their order
  pub stack_is : (old new items : List (Item P C Q V H T E L)) → new ≡ old ++ reverse items → work_of (reverse new) ≡ work_of items ++ work_of (reverse old)
  stack_is old new items h =
      ap (λ xs. work_of (reverse xs)) h
      ∙ ap (λ xs. work_of xs) (reverse-append old (reverse items) ∙ ap (λ xs. xs ++ reverse old) (reverse-reverse items))
      ∙ map-append item_of items (reverse old)

  -- the last one is taken off first
  pub pop_is : (old new : List (Item P C Q V H T E L)) (last : Item P C Q V H T E L) → old ≡ new ++ last ∷ [] → work_of (reverse old) ≡ item_of last ∷ work_of (reverse new)
  pop_is old new last h = ap (λ xs. work_of (reverse xs)) h ∙ ap (λ xs. work_of xs) (reverse-append new (last ∷ []))
