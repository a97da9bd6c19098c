-- The line of a refusal.
use Rattle.std.proofs.Common.{◌≡◌, refl}
use Rattle.std.specs.Prelude.{codes}
use Rattle.json.specs.Print.{print_from, escape_byte}
use Rattle.show_answers.specs.Told.{ToldRefusal}
use Rattle.show_objects.specs.Objects.{object_form}

pub refused : codes "{\"refused\":true}\n" ≡ object_form ToldRefusal
unfolding print_from escape_byte
refused = refl

pub ruleset refusals = (refused)
