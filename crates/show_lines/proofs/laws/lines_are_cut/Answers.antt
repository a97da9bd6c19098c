use Rattle.show_lines.proofs.Cutting.{lines_cut}
use Rattle.show_lines.proofs.laws.lines_are_cut.Goals as goal

pub returns : goal.returns
returns c = record { cut = λ line all rest cut. lines_cut line all rest cut }
