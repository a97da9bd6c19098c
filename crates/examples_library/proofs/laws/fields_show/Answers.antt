-- A field is a page without cells, which reads one.
use Rattle.std.proofs.Common.{[], refl}
use Rattle.examples_library.specs.Meaning.{field_page}
use Rattle.examples_library.proofs.laws.fields_show.Goals as goal

pub returns : goal.returns
returns g k =
    λ carrying keeping app props body w current s x last there called field.
    k.one_page_shows.ensures app keeping (field_page g.row.P.Denot carrying props) (carrying.component (record {})) (carrying.props props) body w current s x last [] there called field tt refl
