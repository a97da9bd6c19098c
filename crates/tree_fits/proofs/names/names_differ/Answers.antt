-- Names that ascend differ.
use Rattle.std.proofs.Common.{◌≡◌, ◌∙◌, [], true, sym, ap}
use Rattle.std.specs.Prelude.{is_some}
use Rattle.tree_nodes.specs.Names.{names_in, slot_names}
use Rattle.tree_fits.specs.Rising.{risen}
use Rattle.tree_fits.proofs.RisingLemmas.{risen-distinct, some_mapped}
use Rattle.tree_fits.proofs.names.names_differ.Goals as goal

pub returns-then-is_some : goal.returns-then-is_some
returns-then-is_some g c =
    let names = names_in (slot_names c.args.slots.now) c.args.attrs.now in
    let rising : is_some (risen [] names) ≡ true = sym (ap is_some c.last_name.ensures) ∙ some_mapped (λ last. last.now) c.last_name.result ∙ sym c.is_some.ensures ∙ c.if-is_some.true in
    sym (risen-distinct [] names rising)
