-- Where the program stops, by what was put.
use Rattle.std.proofs.Common.{◌≡◌, ◌⊎◌, ℕ, ◌<◌, ◌≤◌, List, [], ◌++◌, refl, sym, ap, ◌∙◌, subst, inl, inr, append_assoc, append-nil, arith}
use Rattle.std.specs.Prelude.{Option, Some, None, Err}
use Rattle.rt_language.specs.Syntax.{InputSource, Source}
use Rattle.rt_model.specs.Lists.{Text}
use Rattle.rt_model.specs.State as model
use Rattle.show_answers.specs.Told.{Form}
use Rattle.show_stream.proofs.Asking.{says_front}
use Rattle.show_stream.proofs.Put.{put_none}
use Rattle.show_stream.specs.Put.{PutsFault, faulted}
use Rattle.show_stream.specs.Streams.{EachSays, IsFaulted, IsStreamedFault, IsStreamedPart, IsTold, own_asked}
use Rattle.show_stream.specs.UnderWay.{IsAmong, PutsBehind, PutsPart, StopsAmong, StopsAt}
use Rattle.lang_sources.specs.Describes.{Describes}
use Rattle.show_streams.specs.Writes.{AddsFront, Puts, Writes, grown}
use Rattle.show_streams.specs.declared.out.OutError.{OutError}
use Rattle.show_streams.specs.declared.out.OutError.TheVariants as errors
use Rattle.show_words.specs.Outs.{stop_of}
use Rattle.show_words.specs.declared.reason.Stop.{Stop}
use Rattle.show_words.specs.declared.reason.Stop.TheVariants as stops

-- what was put twice besides
pub grown_twice : (old : Puts) (xs ys : List Text) → grown (grown old xs) ys ≡ grown old (xs ++ ys)
grown_twice None xs ys = refl
grown_twice (Some puts) xs ys = ap Some (append_assoc puts xs ys)

no_front : (old new : Puts) → new ≡ old → AddsFront old new []
no_front old new same = record { front = []; part = []; rest = []; whole = refl; begun = tt; added = same ∙ put_none old }

-- nothing was put behind a text that is one of those
pub nothing_put : (Is : List Text → Type 0) (text : List Text) (old new : Puts) → Is text → new ≡ old → PutsPart Is text old new
nothing_put Is text old new is same =
    record { own = []; is = subst (λ t. Is t) (sym (append-nil text)) is; front = no_front old new same }

-- texts that were not put whole
pub cut_put : (Fault Is : List Text → Type 0) (text own : List Text) (old new : Puts) (before now : ℕ) (error : OutError)
    → Is (text ++ own) → Writes own old new before now (Err error) → StopsAt Fault Is text old new before now (stop_of error)
cut_put Fault Is text own old new before now errors.Failed is put = (put.cause refl, record { own = own; is = is; front = put.front })
cut_put Fault Is text own old new before now errors.OutOfMemory is put = record { own = own; is = is; front = put.front }

-- a fault that was put, or not
pub fault_put : (form : Form) → (Fault Is : List Text → Type 0) (text lines : List Text) (fault : Option model.Fault) (old new : Puts) (before now : ℕ) (stop : Stop)
    → PutsFault form lines fault old new before now stop
    → ((f : model.Fault) → fault ≡ Some f → Fault (text ++ faulted form lines f))
    → ((f : model.Fault) → fault ≡ Some f → Is (text ++ faulted form lines f))
    → Is text
    → StopsAt Fault Is text old new before now stop
fault_put form Fault Is text lines fault old new before now stops.Fault put came part is =
    record { own = faulted form lines put.0; is = came put.0 put.1; put = put.2 }
fault_put form Fault Is text lines fault old new before now stops.Out put came part is =
    (put.0, record { own = faulted form lines put.1.0; is = part put.1.0 put.1.1; front = put.1.2 })
fault_put form Fault Is text lines fault old new before now stops.OutOfMemory put came part is =
    elim put [
      | inl same ↦ nothing_put Is text old new is same
      | inr cut ↦ record { own = faulted form lines cut.0; is = part cut.0 cut.1; front = cut.2 }
    ]
fault_put form Fault Is text lines fault old new before now stops.Words put came part is = absurd put
fault_put form Fault Is text lines fault old new before now stops.Form put came part is = absurd put
fault_put form Fault Is text lines fault old new before now stops.Source put came part is = absurd put

-- what was put behind what had been put
pub behind : (Is : List Text → Type 0) (text first : List Text) (old mid new : Puts)
    → mid ≡ grown old first → PutsBehind Is (text ++ first) mid new → PutsBehind Is text old new
behind Is text first old mid new put next =
    record {
      own = first ++ next.own;
      is = subst (λ t. Is t) (append_assoc text first next.own) next.is;
      put = next.put ∙ ap (λ p. grown p next.own) put ∙ grown_twice old first next.own;
    }

-- a front of texts behind those that had been put is a front of them all
pub front_behind : (first own : List Text) (old mid new : Puts) → mid ≡ grown old first → AddsFront mid new own → AddsFront old new (first ++ own)
front_behind first own old mid new put next =
    record {
      front = first ++ next.front;
      part = next.part;
      rest = next.rest;
      whole = ap (λ texts. first ++ texts) next.whole ∙ sym (append_assoc first next.front next.rest);
      begun = next.begun;
      added =
          next.added ∙ ap (λ p. grown p (next.front ++ next.part)) put ∙ grown_twice old first (next.front ++ next.part)
          ∙ ap (λ texts. grown old texts) (sym (append_assoc first next.front next.part));
    }

part_behind : (Is : List Text → Type 0) (text first : List Text) (old mid new : Puts)
    → mid ≡ grown old first → PutsPart Is (text ++ first) mid new → PutsPart Is text old new
part_behind Is text first old mid new put next =
    record {
      own = first ++ next.own;
      is = subst (λ t. Is t) (append_assoc text first next.own) next.is;
      front = front_behind first next.own old mid new put next.front;
    }

pub stops_behind : (Fault Is : List Text → Type 0) (text first : List Text) (old mid new : Puts) (before between now : ℕ) (stop : Stop)
    → mid ≡ grown old first → before ≤ between
    → StopsAt Fault Is (text ++ first) mid new between now stop → StopsAt Fault Is text old new before now stop
stops_behind Fault Is text first old mid new before between now stops.Fault put later next = behind Fault text first old mid new put next
stops_behind Fault Is text first old mid new before between now stops.Out put later next =
    let failed : between < now = next.0 in
    let counted : before < now = omega (arith, later, failed) in
    (counted, part_behind Is text first old mid new put next.1)
stops_behind Fault Is text first old mid new before between now stops.OutOfMemory put later next = part_behind Is text first old mid new put next
stops_behind Fault Is text first old mid new before between now stops.Words put later next = absurd next
stops_behind Fault Is text first old mid new before between now stops.Form put later next = absurd next
stops_behind Fault Is text first old mid new before between now stops.Source put later next = absurd next

-- so it is of texts of which more is known
pub stops_as : (Fault Is Other More : List Text → Type 0) (text : List Text) (old new : Puts) (before now : ℕ) (stop : Stop)
    → ((t : List Text) → Fault t → Other t) → ((t : List Text) → Is t → More t)
    → StopsAt Fault Is text old new before now stop → StopsAt Other More text old new before now stop
stops_as Fault Is Other More text old new before now stops.Fault other more at =
    record { own = at.own; is = other (text ++ at.own) at.is; put = at.put }
stops_as Fault Is Other More text old new before now stops.Out other more at =
    (at.0, record { own = at.1.own; is = more (text ++ at.1.own) at.1.is; front = at.1.front })
stops_as Fault Is Other More text old new before now stops.OutOfMemory other more at =
    record { own = at.own; is = more (text ++ at.own) at.is; front = at.front }
stops_as Fault Is Other More text old new before now stops.Words other more at = absurd at
stops_as Fault Is Other More text old new before now stops.Form other more at = absurd at
stops_as Fault Is Other More text old new before now stops.Source other more at = absurd at

-- what is asked whole, or a front of it, is a front of more
pub among_all : (Is : List (Option InputSource) → List Text → Type 0) (whole : List (Option InputSource)) (text : List Text) → Is whole text
    → IsAmong whole Is text
among_all Is whole text is = record { asked = whole; rest = []; among = append-nil whole; is = is }

pub among_front : (Is : List (Option InputSource) → List Text → Type 0) (asked rest whole : List (Option InputSource)) (text : List Text)
    → asked ++ rest ≡ whole → Is asked text → IsAmong whole Is text
among_front Is asked rest whole text are is = record { asked = asked; rest = rest; among = are; is = is }

among_more : (Is : List (Option InputSource) → List Text → Type 0) (whole rest all : List (Option InputSource)) (text : List Text)
    → whole ++ rest ≡ all → IsAmong whole Is text → IsAmong all Is text
among_more Is whole rest all text are some =
    record {
      asked = some.asked;
      rest = some.rest ++ rest;
      among = sym (append_assoc some.asked some.rest rest) ∙ ap (λ asked. asked ++ rest) some.among ∙ are;
      is = some.is;
    }

pub stops_more : (form : Form) → (source : Source) (whole rest all : List (Option InputSource)) (text : List Text) (old new : Puts) (before now : ℕ) (stop : Stop)
    → whole ++ rest ≡ all → StopsAmong form source whole text old new before now stop → StopsAmong form source all text old new before now stop
stops_more form source whole rest all text old new before now stop are at =
    stops_as (IsAmong whole (λ asked own. IsFaulted form source asked own)) (IsAmong whole (λ asked own. IsTold form source asked own ⊎ IsFaulted form source asked own))
    (IsAmong all (λ asked own. IsFaulted form source asked own)) (IsAmong all (λ asked own. IsTold form source asked own ⊎ IsFaulted form source asked own))
    text old new before now stop
    (λ t is. among_more (λ asked own. IsFaulted form source asked own) whole rest all t are is)
    (λ t is. among_more (λ asked own. IsTold form source asked own ⊎ IsFaulted form source asked own) whole rest all t are is)
    at

module _ (form : Form) (first : List ℕ) (lines : List (List ℕ)) (source : Source) (described : Describes first source) (said : List (Option InputSource))
    (says : EachSays lines said) where
  -- of a source that the first line describes, and of what the others say
  pub streamed_fault : (text : List Text) → IsAmong (own_asked source ++ said) (λ asked own. IsFaulted form source asked own) text → IsStreamedFault form first lines text
  streamed_fault text some =
      record { source = source; described = described; said = said; says = says; asked = some.asked; rest = some.rest; among = some.among; faulted = some.is }

  pub streamed_part : (text : List Text) → IsAmong (own_asked source ++ said) (λ asked own. IsTold form source asked own ⊎ IsFaulted form source asked own) text
      → IsStreamedPart form first lines text
  streamed_part text some =
      record { source = source; described = described; said = said; says = says_front lines said says; asked = some.asked; rest = some.rest; among = some.among; told = some.is }

  pub stops_streamed : (text : List Text) (old new : Puts) (before now : ℕ) (stop : Stop)
      → StopsAmong form source (own_asked source ++ said) text old new before now stop
      → StopsAt (λ own. IsStreamedFault form first lines own) (λ own. IsStreamedPart form first lines own) text old new before now stop
  stops_streamed text old new before now stop at =
      stops_as (IsAmong (own_asked source ++ said) (λ asked own. IsFaulted form source asked own))
      (IsAmong (own_asked source ++ said) (λ asked own. IsTold form source asked own ⊎ IsFaulted form source asked own))
      (λ own. IsStreamedFault form first lines own) (λ own. IsStreamedPart form first lines own) text old new before now stop
      (λ t is. streamed_fault t is) (λ t is. streamed_part t is) at
