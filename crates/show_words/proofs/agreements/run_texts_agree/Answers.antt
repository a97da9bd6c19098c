use Rattle.rt_language.specs.Lines.{line, fault_text}
use Rattle.show_words.proofs.Puts.{run_text, ended_text}
use Rattle.show_words.proofs.agreements.run_texts_agree.Goals as goal

pub returns : goal.returns
returns c = record { done = run_text; ended = λ edits reports fault. ended_text edits reports (line (fault_text fault)) }
