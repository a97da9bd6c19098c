use Rattle.lang_lines.proofs.ReadSources.{described_write_plainly}
use Rattle.lang_lines.proofs.described_write_plainly.Goals as goal

pub returns : goal.returns
returns c = described_write_plainly
