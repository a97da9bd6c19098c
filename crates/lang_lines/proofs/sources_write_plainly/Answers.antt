use Rattle.lang_lines.proofs.Plainly.{sources_write_plainly}
use Rattle.lang_lines.proofs.sources_write_plainly.Goals as goal

pub returns : goal.returns
returns c = sources_write_plainly
