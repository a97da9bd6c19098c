use Rattle.show_streams.proofs.Bytes.{front_bytes, grown_bytes}
use Rattle.show_streams.proofs.laws.fronts_are_of_bytes.Goals as goal

pub returns : goal.returns
returns c = record { whole = grown_bytes; front = front_bytes }
