-- A set of reactive contexts, and what it makes of one more and of one less.
use Rattle.std.specs.Prelude.{Bool, cond, not, List}
use Rattle.std.specs.List.{filter}
use Rattle.std.specs.BTreeSet.{insert_key}
use Rattle.rt_cells.specs.declared.contexts.ReactiveContext.{ReactiveContext}
use Rattle.rt_cells.specs.Orders.{context_cmp, same_context}

-- The contexts, ascending, and whether the set takes any.
pub record Members : Type 0 where
  pub members : List ReactiveContext
  pub listens : Bool

-- The context is one of them, where the set takes any.
abbrev pub joined : ReactiveContext → Members → Members
joined context set =
    cond set.listens (record set { members = insert_key context_cmp set.members context }) set

-- The context is none of them.
abbrev pub parted : ReactiveContext → Members → Members
parted context set =
    record set { members = filter (λ member. not (same_context member context)) set.members }
