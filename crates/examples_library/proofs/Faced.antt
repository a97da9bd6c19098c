-- A field that has read its cell shows what it read.
use Rattle.std.proofs.Common.{ℕ, List, ◌≡◌, ◌∙◌, sym, ap}
use Rattle.std.specs.Prelude.{Option}
use Rattle.rt_author.proofs.Rules.{at_done, at_scope, one_after}
use Rattle.rt_author.specs.Words.{Carrying, Comes, VNode, call_of, done, reached, rendered, tree_of, types, world_of}
use Rattle.rt_author.specs.Carrying.{read_held}
use Rattle.rt_author.specs.Turn.{Call}
use Rattle.examples_library.specs.Meaning.{Library, field, faced, present}
use Rattle.examples_library.specs.declared.parts.FieldProps.{FieldProps}

module _ {P C Q V H T E L : Type 0} where
  pub faced_comes : (k : Carrying Library (types C Q V H T E L)) (props : FieldProps) (before after : Call P C Q V H T E L) (held : Option (List ℕ)) (scope : ℕ) (t : VNode P C Q V H T E L)
      → after.world ≡ before.world
      → Comes before after (read_held k props.cell) held
      → scope ≡ (world_of after.world).given.scope
      → t ≡ present k scope props held
      → Comes before after (field P k props) (rendered (tree_of t))
  faced_comes k props before after held scope t stays got is tree =
      let w = world_of after.world in
      one_after before after after (read_held k props.cell) (λ o. faced P k props o) held (rendered (tree_of t)) stays got
      (at_scope w (λ s. done (rendered (tree_of (present {P = P} k s props held)))) (call_of after)
      ∙ at_done w (rendered (tree_of (present {P = P} k w.given.scope props held))) (call_of after)
      ∙ ap (λ (x : VNode P C Q V H T E L). reached (rendered (tree_of x)) (call_of after)) (ap (λ n. present {P = P} k n props held) (sym is) ∙ sym tree))
