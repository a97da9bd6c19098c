-- What an entry gives joins the slots.
use Rattle.std.proofs.Common.{◌++◌, ◌∷◌, [], ◌∙◌, ap, map, sym}
use Rattle.std.proofs.lemmas.Result.{on_ok_weaker}
use Rattle.std.specs.List.{slice_index_or}
use Rattle.tree_mirror.specs.Mirror.{attribute_of}
use Rattle.run_shown.specs.Climbs.{entry_slots, slots_of}
use Rattle.run_shown.proofs.OneByOne.{nil-right}
use Rattle.run_shown.proofs.Climbing.{slots-append, slots_Dynamic, slots_Static}
use Rattle.run_shown.proofs.climb.add_slot.Goals as goal

pub returns-in-Static : goal.returns-in-Static
returns-in-Static g c =
    sym (ap (λ xs. slots_of c.args.slots.now ++ xs)
    (ap (λ e. entry_slots c.args.given.now e) c.in-Static.is ∙ slots_Static c.args.given.now c.in-Static.name c.in-Static.namespace c.in-Static.value) ∙
    nil-right (slots_of c.args.slots.now))

pub returns-in_ok-copied-in-Dynamic : goal.returns-in_ok-copied-in-Dynamic
returns-in_ok-copied-in-Dynamic g c =
    on_ok_weaker c.push.result
    (λ more. ap (λ xs. slots_of xs) more ∙ slots-append c.args.slots.now (c.in_ok-copied-in-Dynamic.field-0 ∷ []) ∙
    ap (λ xs. slots_of c.args.slots.now ++ map attribute_of xs ∷ [])
    (c.in_ok-copied-in-Dynamic.ensures ∙ c.attributes_in.ensures ∙ ap (λ given. slice_index_or given c.in-Dynamic.id []) c.as_slice.ensures.items) ∙
    ap (λ xs. slots_of c.args.slots.now ++ xs) (sym (ap (λ e. entry_slots c.args.given.now e) c.in-Dynamic.is ∙ slots_Dynamic c.args.given.now c.in-Dynamic.id)))
    c.push.ensures.ok
