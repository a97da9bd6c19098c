-- A live context is cleared, and of a removed one nothing changes.
use Rattle.std.proofs.Common.{◌≡◌, ◌∙◌, sym, ap, Option, None, Some, true, false, refl}
use mathlib.Core.Bool.{true≢false}
use Rattle.std.specs.Option.{is_some, option_map}
use Rattle.rt_cells.specs.declared.sources.Reader.TheVariants as reader
use Rattle.rt_cells.specs.Cells.{reader_dropped}
use Rattle.rt_cells.specs.Held.{held_at}
use Rattle.rt_cells.proofs.contexts.ReactiveContext.clear_subscribers.Goals as goal

-- what is done where something is found
found : {X Y S : Type 0} (f : X → Y) (o : Option X) (same changed : S) → is_some (option_map f o) ≡ true → changed ≡ elim o [ None ↦ same | Some _ ↦ changed ]
found f None same changed some = absurd (true≢false (sym some))
found f (Some x) same changed some = refl

-- what is done where nothing is found
missed : {X Y S : Type 0} (f : X → Y) (o : Option X) (same changed : S) → is_some (option_map f o) ≡ false → same ≡ elim o [ None ↦ same | Some _ ↦ changed ]
missed f None same changed none = refl
missed f (Some x) same changed none = absurd (true≢false none)

pub returns-then-is_some : goal.returns-then-is_some
returns-then-is_some g c = record {
  cleared = c.drop_reader.ensures.dropped
      ∙ found (λ thing. thing.owner) (held_at c.args.self.now.0 c.args.cells.now.contexts) c.args.cells.now (reader_dropped (reader.Context c.args.self.now.0) c.args.cells.now)
      (ap is_some (sym c.context_scope.ensures.scope) ∙ sym c.if-is_some.ensures);
}

pub returns-else-is_some : goal.returns-else-is_some
returns-else-is_some g c = record {
  cleared = missed (λ thing. thing.owner) (held_at c.args.self.now.0 c.args.cells.now.contexts) c.args.cells.now (reader_dropped (reader.Context c.args.self.now.0) c.args.cells.now)
      (ap is_some (sym c.context_scope.ensures.scope) ∙ sym c.if-is_some.ensures);
}
