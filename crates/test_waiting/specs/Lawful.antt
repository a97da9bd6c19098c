-- The application that waits is lawful.
use Rattle.std.proofs.Common.{ℕ, refl}
use Rattle.rt_model.specs.Laws.{IsLawful}
use Rattle.author_programs.proofs.Lawful.{memoized_are_lawful, plain_tests}
use Rattle.test_waiting.specs.declared.waiting.Waiting.{Waiting}
use Rattle.test_waiting.specs.Meaning.{WaitingTypes, programs, meaning}

pub lawful : (app : Waiting) → IsLawful WaitingTypes (meaning app)
lawful app =
    memoized_are_lawful
    WaitingTypes programs (λ c p q. refl) plain_tests.numbers plain_tests.numbers plain_tests.numbers plain_tests.numbers
