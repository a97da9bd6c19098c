-- What was put, and how often a put has failed.
use Rattle.std.proofs.Common.{rules, ◌≡◌, ◌∙◌, ◌++◌, List, ℕ, [], ◌∷◌, Some, Err, refl, ap, sym, subst}
use Rattle.std.specs.Prelude.{Result}
use Rattle.show_streams.specs.Failures.{failures}
use Rattle.show_streams.specs.Writes.{Writes}
use Rattle.show_streams.specs.declared.out.OutError.{OutError}
use Rattle.show_streams.specs.declared.out.OutError.TheVariants as errors
use Rattle.show_streams.proofs.OnePut.{all_put, none_kept, none_put}
use Rattle.show_streams.proofs.memory_out.BytesOutOut.put.Goals as goal

pub returns-then-fails_next : goal.returns-then-fails_next
returns-then-fails_next c = record {
  writes =
      none_put c.args.bytes.now (Some c.args.self.now.puts) (Some c.args.self.now.puts)
      (failures c.args.self.now.schedule.fails c.args.self.now.schedule.calls) (failures c.fails_next.new.self.fails c.fails_next.new.self.calls) refl
      (c.fails_next.ensures.cause c.if-fails_next.true);
}

pub returns-in_err-kept : goal.returns-in_err-kept
returns-in_err-kept c =
    let before = failures c.args.self.now.schedule.fails c.args.self.now.schedule.calls in
    let after = failures c.fails_next.new.self.fails c.fails_next.new.self.calls in
    let puts = Some c.args.self.now.puts in
    let stopped : c.from_residual.result ≡ Err errors.OutOfMemory = search rules in
    record {
      writes =
          subst (λ (r : Result (Unit {0}) OutError). Writes (c.args.bytes.now ∷ []) puts puts before after r) (sym stopped)
          (none_kept c.args.bytes.now puts puts before after refl c.fails_next.ensures.later);
    }

pub returns-in_err-push : goal.returns-in_err-push
returns-in_err-push c =
    let before = failures c.args.self.now.schedule.fails c.args.self.now.schedule.calls in
    let after = failures c.fails_next.new.self.fails c.fails_next.new.self.calls in
    let old = Some c.args.self.now.puts in
    let stopped : c.from_residual-in_err-push.result ≡ Err errors.OutOfMemory = search rules in
    record {
      writes =
          subst (λ (r : Result (Unit {0}) OutError). Writes (c.args.bytes.now ∷ []) old (Some c.push.new.self) before after r) (sym stopped)
          (none_kept c.args.bytes.now old (Some c.push.new.self) before after (ap Some c.in_err-push.ensures.err) c.fails_next.ensures.later);
    }

pub returns : goal.returns
returns c = record {
  writes =
      all_put c.args.bytes.now (Some c.args.self.now.puts) (Some c.push.new.self)
      (failures c.args.self.now.schedule.fails c.args.self.now.schedule.calls) (failures c.fails_next.new.self.fails c.fails_next.new.self.calls)
      (ap Some (c.in_ok-push.ensures.ok ∙ ap (λ (text : List ℕ). c.args.self.now.puts ++ text ∷ []) c.in_ok-kept.ensures.items)) c.fails_next.ensures.later;
}
