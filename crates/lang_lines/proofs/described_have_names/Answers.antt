use Rattle.lang_lines.proofs.ReadSources.{described_have_names}
use Rattle.lang_lines.proofs.described_have_names.Goals as goal

pub returns : goal.returns
returns c = described_have_names
