-- What a sink took, one part after another.
use Rattle.std.proofs.Common.{◌≡◌, ℕ, ◌+◌, ◌<◌, ◌≤◌, List, [], ◌∷◌, ◌++◌, length, Option, Some, None, Ok, Err, refl, ap, sym, subst, ◌∙◌, append_assoc, append-nil, arith}
use Rattle.std.proofs.lemmas.List.{length-append}
use Rattle.rt_edits.specs.Sinks.{grown, Takes}
use Rattle.rt_edits.specs.declared.edit.Edit.{Edit}
use Rattle.rt_edits.specs.declared.sink.SinkError.TheVariants as errors
use Rattle.run_reports.specs.declared.limits.Limits.{Limits}
use Rattle.run_state.specs.declared.names.Stop.{Stop}
use Rattle.run_outside.specs.Ends.{Took, Ends, Explains}
use Rattle.run_outside.specs.Turns.{taken_by}
use Rattle.run_outside.specs.declared.ended.Ended.{Ended}
use Rattle.run_outside.specs.declared.ended.Ended.TheVariants as ends

pub grown-none : (old : Option (List Edit)) → old ≡ grown old []
grown-none None = refl
grown-none (Some edits) = ap Some (sym (append-nil edits))

pub grown-twice : (old : Option (List Edit)) (xs ys : List Edit) → grown (grown old xs) ys ≡ grown old (xs ++ ys)
grown-twice None xs ys = refl
grown-twice (Some edits) xs ys = ap Some (append_assoc edits xs ys)

pub grown-more : (a b c : Option (List Edit)) (xs ys : List Edit) → b ≡ grown a xs → c ≡ grown b ys → c ≡ grown a (xs ++ ys)
grown-more a b c xs ys first second = second ∙ ap (λ o. grown o ys) first ∙ grown-twice a xs ys

-- one edit, by the sink's answer
pub takes-one : (edit : Edit) (old new : Option (List Edit)) (f g : ℕ) → Takes edit old new f g (Ok tt) → Took old new f g 1
takes-one edit old new f g t = record { edits = edit ∷ []; told = t.taken; counted = refl; later = t.later }

pub takes-failed : (limits : Limits) (edit : Edit) (old new : Option (List Edit)) (f g : ℕ) → Takes edit old new f g (Err errors.Failed) → Ends limits 0 old new f g ends.Sink
takes-failed limits edit old new f g t = record { edits = []; told = t.taken; counted = omega arith; later = t.later; cause = t.cause refl }

pub takes-wanting : (limits : Limits) (edit : Edit) (old new : Option (List Edit)) (f g : ℕ) (stop : Stop) →
    Takes edit old new f g (Err errors.OutOfMemory) → Ends limits 0 old new f g (ends.Run stop)
takes-wanting limits edit old new f g stop t = record { edits = []; told = t.taken; counted = omega arith; later = t.later; cause = tt }

-- no edit
pub took-none : (old : Option (List Edit)) (f : ℕ) → Took old old f f 0
took-none old f = record { edits = []; told = grown-none old; counted = refl; later = omega arith }

-- some edits and then more
pub took-more : (a b c : Option (List Edit)) (f g h m n : ℕ) → Took a b f g m → Took b c g h n → Took a c f h (m + n)
took-more a b c f g h m n x y =
    let counted : length (x.edits ++ y.edits) ≡ m + n = length-append x.edits y.edits ∙ ap (λ k. k + length y.edits) x.counted ∙ ap (λ k. m + k) y.counted in
    let first = x.later in
    let second = y.later in
    record { edits = x.edits ++ y.edits; told = grown-more a b c x.edits y.edits x.told y.told; counted = counted; later = omega (arith, first, second) }

-- some edits and then more, in whole
pub took-to : (a b c : Option (List Edit)) (f g h m n k : ℕ) → m + n ≡ k → Took a b f g m → Took b c g h n → Took a c f h k
took-to a b c f g h m n k whole x y = subst (λ (all : ℕ). Took a c f h all) whole (took-more a b c f g h m n x y)

-- so many edits by another name
pub took-same : (a c : Option (List Edit)) (f h m k : ℕ) → m ≡ k → Took a c f h m → Took a c f h k
took-same a c f h m k same x = subst (λ (all : ℕ). Took a c f h all) same x

-- a turn that did nothing took none
pub none-taken : (m : ℕ) (turn : Option ℕ) → turn ≡ None → m + taken_by turn ≡ m
none-taken m turn none = let taken : taken_by turn ≡ 0 = ap taken_by none in omega (arith, taken)

-- a turn that wrote some took those
pub some-taken : (m n all : ℕ) (turn : Option ℕ) → turn ≡ Some n → all ≡ m + n → m + taken_by turn ≡ all
some-taken m n all turn some sum = let taken : taken_by turn ≡ n = ap taken_by some in omega (arith, taken, sum)

explains-earlier : (limits : Limits) (f g h : ℕ) (ended : Ended) → f ≤ g → Explains limits g h ended → Explains limits f h ended
explains-earlier limits f g h ends.Sink low cause = let counted : g < h = cause in omega (arith, low, counted)
explains-earlier limits f g h (ends.OutOfTurns units) low cause = cause
explains-earlier limits f g h (ends.TooDeep height) low cause = cause
explains-earlier limits f g h (ends.Run stop) low cause = tt

-- some edits and then an end
pub took-ends : (limits : Limits) (a b c : Option (List Edit)) (f g h m k : ℕ) (ended : Ended) → Took a b f g m → Ends limits k b c g h ended → Ends limits m a c f h ended
took-ends limits a b c f g h m k ended x y =
    let count : length (x.edits ++ y.edits) ≡ m + length y.edits = length-append x.edits y.edits ∙ ap (λ k. k + length y.edits) x.counted in
    let first = x.later in
    let second = y.later in
    record {
      edits = x.edits ++ y.edits;
      told = grown-more a b c x.edits y.edits x.told y.told;
      counted = omega (arith, count);
      later = omega (arith, first, second);
      cause = explains-earlier limits f g h ended first y.cause;
    }

-- the least number of edits is no matter
pub ends-low : (limits : Limits) (a c : Option (List Edit)) (f h m : ℕ) (ended : Ended) → Ends limits m a c f h ended → Ends limits 0 a c f h ended
ends-low limits a c f h m ended y = record { edits = y.edits; told = y.told; counted = omega arith; later = y.later; cause = y.cause }

-- an end for a cause that isn't the sink's, before any edit
pub ends-caused : (limits : Limits) (old : Option (List Edit)) (f : ℕ) (ended : Ended) → ((before after : ℕ) → Explains limits before after ended) → Ends limits 0 old old f f ended
ends-caused limits old f ended cause = record { edits = []; told = grown-none old; counted = omega arith; later = omega arith; cause = cause f f }

-- an end of the run itself, before any edit
pub ends-run : (limits : Limits) (old : Option (List Edit)) (f : ℕ) (stop : Stop) → Ends limits 0 old old f f (ends.Run stop)
ends-run limits old f stop = record { edits = []; told = grown-none old; counted = omega arith; later = omega arith; cause = tt }

-- an end for such a cause, after some edits
pub caused-after : (limits : Limits) (old new : Option (List Edit)) (f g m : ℕ) (ended : Ended) → Took old new f g m → ((before after : ℕ) → Explains limits before after ended) → Ends limits m old new f g ended
caused-after limits old new f g m ended x cause = took-ends limits old new new f g g m 0 ended x (ends-caused limits new g ended cause)

-- an end of the run itself, after some edits
pub run-after : (limits : Limits) (old new : Option (List Edit)) (f g m : ℕ) (stop : Stop) → Took old new f g m → Ends limits m old new f g (ends.Run stop)
run-after limits old new f g m stop x = took-ends limits old new new f g g m 0 (ends.Run stop) x (ends-run limits new g stop)

pub ruleset sinks = (takes-one, took-none, took-more, ends-run, ends-caused)
