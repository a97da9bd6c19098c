-- Nothing was put where memory was wanting.
use Rattle.std.proofs.Common.{rules, ◌≡◌, ◌≤◌, [], ◌∷◌, Some, Err, refl, ap, sym, subst, arith}
use Rattle.std.specs.Prelude.{Result}
use Rattle.show_streams.specs.Writes.{Writes}
use Rattle.show_streams.specs.declared.out.OutError.{OutError}
use Rattle.show_streams.specs.declared.out.OutError.TheVariants as errors
use Rattle.show_streams.proofs.OnePut.{none_kept}
use Rattle.show_streams.proofs.memory_out.SureOutOut.put.Goals as goal

none_less : 0 ≤ 0
none_less = omega arith

pub returns-in_err-kept : goal.returns-in_err-kept
returns-in_err-kept c =
    let puts = Some c.args.self.now.puts in
    let stopped : c.from_residual.result ≡ Err errors.OutOfMemory = search rules in
    record {
      writes =
          subst (λ (r : Result (Unit {0}) OutError). Writes (c.args.bytes.now ∷ []) puts puts 0 0 r) (sym stopped)
          (none_kept c.args.bytes.now puts puts 0 0 refl none_less);
    }

pub returns-in_err-push : goal.returns-in_err-push
returns-in_err-push c =
    let old = Some c.args.self.now.puts in
    let stopped : c.from_residual-in_err-push.result ≡ Err errors.OutOfMemory = search rules in
    record {
      writes =
          subst (λ (r : Result (Unit {0}) OutError). Writes (c.args.bytes.now ∷ []) old (Some c.push.new.self) 0 0 r) (sym stopped)
          (none_kept c.args.bytes.now old (Some c.push.new.self) 0 0 (ap Some c.in_err-push.ensures.err) none_less);
    }
