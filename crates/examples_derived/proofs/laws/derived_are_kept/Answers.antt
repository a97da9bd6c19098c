-- It is lawful, its formulas look, and its polls are those of memos.
use Rattle.std.proofs.Common.{ap}
use Rattle.rt_author.specs.Program.{application_of, call_means}
use Rattle.rt_author.specs.Words.{as_task}
use Rattle.examples_derived.specs.Meaning.{decides, formulas, looks, none, polls, programs}
use Rattle.examples_derived.proofs.laws.derived_are_kept.Goals as goal

pub returns : goal.returns
returns k =
    λ root inputs limits taken reports h.
    let tests = decides root in
    k.sessions_keep_memos.ensures (application_of (programs root)) formulas (λ task. as_task task)
    (k.memoized_are_lawful.ensures (programs root) tests.memoized tests.components tests.props tests.values tests.handlers)
    looks
    (λ m w. ap (λ body. call_means body w) (polls root m))
    none inputs limits taken reports h
