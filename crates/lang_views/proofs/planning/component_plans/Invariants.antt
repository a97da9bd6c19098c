-- The plans so far, and the components that are left, are all.
use Rattle.std.proofs.Common.{◌≡◌, ◌++◌, length, map}
use Rattle.std.specs.Vec.Iter.{into_iter_items, into_iter_len}
use Rattle.lang_syntax.specs.Mirror.{component_of}
use Rattle.lang_views.specs.Meant.{plan_meant, component_meant}
use Rattle.lang_views.proofs.planning.component_plans.Given as goal

abbrev pub invariant-loop-component : goal.invariant-loop-component
invariant-loop-component l = record {
  plans : map plan_meant l.plans ++ map component_meant (map component_of (into_iter_items l.component-iterator)) ≡ map component_meant (map component_of l.fn.components);
  count : into_iter_len l.component-iterator ≡ length (into_iter_items l.component-iterator);
}
