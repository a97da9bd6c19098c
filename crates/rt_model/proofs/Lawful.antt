-- Applications of programs are lawful.
use Rattle.std.proofs.Common.{◌≡◌, ap}
use Rattle.rt_model.specs.World.{Meaning}
use Rattle.rt_model.specs.Tree.{Types}
use Rattle.rt_model.specs.Laws.{MeanAlike, ProgramsAreLawful}
use Rattle.rt_model.proofs.Decides.{body_decides, call_decides}
use Rattle.rt_model.proofs.Refusals.{body_refuses, call_refuses}
use Rattle.rt_model.proofs.Numbers.{body_numbers, call_numbers}

-- equal meanings give the same answer, reads and commands
pub mean_alike : {K : Types} {A : Type 0} (m n : Meaning K A) → m ≡ n → MeanAlike m n
mean_alike {K = K} {A = A} m n e =
    (ap (λ (x : Meaning K A). x.answer) e, ap (λ (x : Meaning K A). x.reads) e, ap (λ (x : Meaning K A). x.commands) e)

pub programs_are_lawful : (K : Types) → ProgramsAreLawful K
programs_are_lawful K a alike components props values handlers =
    record {
      bodies_read = λ c p. body_decides (a.body c p);
      polls_read = λ s. call_decides (a.poll s);
      effects_read = λ e. call_decides (a.effect e);
      handlers_read = λ h e. call_decides (a.handle h e);
      bodies_number = λ c p. body_numbers (a.body c p);
      polls_number = λ s. call_numbers (a.poll s);
      effects_number = λ e. call_numbers (a.effect e);
      handlers_number = λ h e. call_numbers (a.handle h e);
      bodies_refuse = λ c p. body_refuses (a.body c p);
      polls_refuse = λ s. call_refuses (a.poll s);
      effects_refuse = λ e. call_refuses (a.effect e);
      handlers_refuse = λ h e. call_refuses (a.handle h e);
      memoized_alike = alike;
      tests_components = components;
      tests_props = props;
      tests_values = values;
      tests_handlers = handlers;
    }
