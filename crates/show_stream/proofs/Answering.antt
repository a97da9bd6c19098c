-- What is put of a line.
use Rattle.std.proofs.Common.{◌≡◌, ℕ, ◌≤◌, List, [], ◌∷◌, ◌++◌, map, Result, Ok, Err, refl, sym, ap, ◌∙◌, subst, inl, inr, append_assoc, append-nil}
use Rattle.std.specs.Prelude.{Option, Some, None, option_map}
use Rattle.lang_inputs.specs.Describes.{DescribesInput}
use Rattle.lang_sources.specs.Describes.{Describes}
use Rattle.lang_syntax.specs.Mirror.{input_of, source_of}
use Rattle.lang_syntax.specs.declared.source.InputSource as checked_input
use Rattle.lang_syntax.specs.declared.source.Source as checked
use Rattle.rt_language.specs.Syntax.{InputSource, Source}
use Rattle.rt_model.specs.Lists.{Text}
use Rattle.show_answers.specs.Streamed.{refusal}
use Rattle.show_answers.specs.Told.{Form}
use Rattle.show_stream.proofs.Asking.{front_more, says_front, says_more}
use Rattle.show_stream.proofs.Going.{none_more}
use Rattle.show_stream.proofs.Stopping.{behind, cut_put, nothing_put, stops_behind, stops_more, stops_streamed}
use Rattle.show_stream.proofs.Taking.{Told, told}
use Rattle.show_stream.specs.Streams.{IsFaulted, IsStreamedFault, IsStreamedPart, Says, own_asked}
use Rattle.show_stream.specs.UnderWay.{Answers, Begins, Builds, Holds, IsAmong, IsAt, IsUnderWay, Opens, PutsBehind, StopsAmong, TakesAll}
use Rattle.show_stream.specs.declared.streaming.Streaming.{Streaming}
use Rattle.show_streams.specs.Writes.{Puts, Writes, grown}
use Rattle.show_streams.specs.declared.out.OutError.{OutError}
use Rattle.show_words.specs.Asked.{SaysNone}
use Rattle.show_words.specs.Outs.{stop_of}
use Rattle.show_words.specs.declared.reason.Stop.{Stop}
use Rattle.show_words.specs.declared.reason.Stop.TheVariants as stops

-- bytes of which no input was read say none
pub says_none : (bytes : List ℕ) (read : Option checked_input.InputSource) → read ≡ None
    → ((said : InputSource) → DescribesInput bytes said → option_map input_of read ≡ Some said) → Says bytes None
says_none bytes read none answered said describes =
    let some : option_map input_of read ≡ Some said = answered said describes in
    let nothing : option_map input_of read ≡ None = ap (λ r. option_map input_of r) none in
    absurd (cc (sym nothing ∙ some))

-- bytes of which no source was read say none
pub no_source : (bytes : List ℕ) (read : Option checked.Source) → read ≡ None
    → ((said : Source) → Describes bytes said → option_map source_of read ≡ Some said) → SaysNone bytes
no_source bytes read none answered said describes =
    let some : option_map source_of read ≡ Some said = answered said describes in
    let nothing : option_map source_of read ≡ None = ap (λ r. option_map source_of r) none in
    absurd (cc (sym nothing ∙ some))

module _ (form : Form) (first : List ℕ) (lines : List (List ℕ)) (bytes : List ℕ) (text : List Text) (s : Streaming) (is : IsUnderWay form first lines text s) where
  abbrev asked : List (Option InputSource)
  asked = own_asked is.source ++ is.said

  more_asked : (said : Option InputSource) → asked ++ said ∷ [] ≡ own_asked is.source ++ (is.said ++ said ∷ [])
  more_asked said = append_assoc (own_asked is.source) is.said (said ∷ [])

  -- what was put so far, whatever the line says
  part_now : Holds s → IsStreamedPart form first (lines ++ bytes ∷ []) text
  part_now holds =
      record {
        source = is.source;
        described = is.described;
        said = is.said;
        says = front_more lines (bytes ∷ []) is.said is.says;
        asked = asked;
        rest = [];
        among = append-nil asked;
        told = inl (told form is.source asked text s is.at holds);
      }

  -- memory was wanting before anything was put
  pub wanting : (old new : Puts) (b n : ℕ) (t : Streaming) → Holds s → new ≡ old → Answers form first lines bytes text old new b n t (Err stops.OutOfMemory)
  wanting old new b n t holds same = nothing_put (λ own. IsStreamedPart form first (lines ++ bytes ∷ []) own) text old new (part_now holds) same

  under_way : (said : Option InputSource) (own : List Text) (t : Streaming) → Says bytes said → IsAt form is.source (asked ++ said ∷ []) own t
      → IsUnderWay form first (lines ++ bytes ∷ []) own t
  under_way said own t says at =
      record {
        source = is.source;
        described = is.described;
        said = is.said ++ said ∷ [];
        says = says_more lines is.said bytes said is.says says;
        at = subst (λ a. IsAt form is.source a own t) (more_asked said) at;
      }

  -- the input that it says was taken in
  pub answered : (said : InputSource) (old new : Puts) (b n : ℕ) (t : Streaming) (result : Result (Unit {0}) Stop)
      → DescribesInput bytes said → TakesAll form is.source asked (Some said ∷ []) text old new b n t result → Answers form first lines bytes text old new b n t result
  answered said old new b n t (Ok u) says takes =
      record { own = takes.own; is = under_way (Some said) (text ++ takes.own) t says takes.is; put = takes.put }
  answered said old new b n t (Err stop) says takes =
      stops_streamed form first (lines ++ bytes ∷ []) is.source is.described (is.said ++ Some said ∷ []) (says_more lines is.said bytes (Some said) is.says says) text old new b n stop
      (subst (λ a. StopsAmong form is.source a text old new b n stop) (more_asked (Some said)) takes)

  -- it says none
  pub refused_put : (old new : Puts) (b n : ℕ) → Says bytes None → new ≡ grown old (refusal form ∷ []) → Answers form first lines bytes text old new b n s (Ok tt)
  refused_put old new b n says put =
      record { own = refusal form ∷ []; is = under_way None (text ++ refusal form ∷ []) s says (none_more form is.source asked text s is.at); put = put }

  pub refused_cut : (old new : Puts) (b n : ℕ) (t : Streaming) (error : OutError) → Says bytes None → Holds s
      → Writes (refusal form ∷ []) old new b n (Err error) → Answers form first lines bytes text old new b n t (Err (stop_of error))
  refused_cut old new b n t error says holds put =
      cut_put (λ own. IsStreamedFault form first (lines ++ bytes ∷ []) own) (λ own. IsStreamedPart form first (lines ++ bytes ∷ []) own) text (refusal form ∷ []) old new b n error
      (record {
        source = is.source;
        described = is.described;
        said = is.said ++ None ∷ [];
        says = says_front (lines ++ bytes ∷ []) (is.said ++ None ∷ []) (says_more lines is.said bytes None is.says says);
        asked = asked ++ None ∷ [];
        rest = [];
        among = append-nil (asked ++ None ∷ []) ∙ more_asked None;
        told = inl (told form is.source (asked ++ None ∷ []) (text ++ refusal form ∷ []) s (none_more form is.source asked text s is.at) holds);
      }) put

-- by what is answered of the inputs that stand in a source
abbrev pub BeginsAll : (form : Form) → Source → Streaming → (old new : Puts) (b n : ℕ) → Result (Unit {0}) Stop → Type 0
BeginsAll form source t old new b n (Ok u) = Begins form source old new b n (Ok t)
BeginsAll form source t old new b n (Err stop) = StopsAmong form source (own_asked source) [] old new b n stop

-- the inputs that stand in a source are taken in once it was built
pub begins_all : (form : Form) → (source : Source) (s t : Streaming) (old mid new : Puts) (b m n : ℕ) (result : Result (Unit {0}) Stop)
    → PutsBehind (λ own. IsAt form source [] own s) [] old mid
    → b ≤ m
    → ((text : List Text) → IsAt form source [] text s → TakesAll form source [] (map Some source.inputs) text mid new m n t result)
    → BeginsAll form source t old new b n result
begins_all form source s t old mid new b m n (Ok u) built later takes =
    behind (λ own. IsAt form source (own_asked source) own t) [] built.own old mid new built.put (takes built.own built.is)
begins_all form source s t old mid new b m n (Err stop) built later takes =
    stops_behind (IsAmong (own_asked source) (λ a own. IsFaulted form source a own)) (IsAmong (own_asked source) (λ a t. Told form source a t)) [] built.own old mid new b m n stop built.put later
    (takes built.own built.is)

-- where the program stops among them
pub begins_stop : (form : Form) → (source : Source) (old new : Puts) (b n : ℕ) (stop : Stop) → StopsAmong form source (own_asked source) [] old new b n stop
    → Begins form source old new b n (Err stop)
begins_stop form source old new b n stops.Fault at = at
begins_stop form source old new b n stops.Out at = at
begins_stop form source old new b n stops.OutOfMemory at = inr at
begins_stop form source old new b n stops.Words at = absurd at
begins_stop form source old new b n stops.Form at = absurd at
begins_stop form source old new b n stops.Source at = absurd at

-- where it stops in the build, no input was asked
pub builds_stop : (form : Form) → (source : Source) (old new : Puts) (b n : ℕ) (stop : Stop) → Builds form source old new b n (Err stop) → Begins form source old new b n (Err stop)
builds_stop form source old new b n stops.Fault at = stops_more form source [] (own_asked source) (own_asked source) [] old new b n stops.Fault refl at
builds_stop form source old new b n stops.Out at = stops_more form source [] (own_asked source) (own_asked source) [] old new b n stops.Out refl at
builds_stop form source old new b n stops.OutOfMemory at =
    elim at [
      | inl same ↦ inl same
      | inr part ↦ inr (stops_more form source [] (own_asked source) (own_asked source) [] old new b n stops.OutOfMemory refl part)
    ]
builds_stop form source old new b n stops.Words at = absurd at
builds_stop form source old new b n stops.Form at = absurd at
builds_stop form source old new b n stops.Source at = absurd at

-- what is built of a first line that describes a source
pub opens_of : (form : Form) → (first : List ℕ) (source : Source) (old new : Puts) (b n : ℕ) (result : Result Streaming Stop) → Describes first source
    → Begins form source old new b n result → Opens form first old new b n result
opens_of form first source old new b n (Ok s) described begins =
    record {
      own = begins.own;
      is = record {
        source = source;
        described = described;
        said = [];
        says = tt;
        at = subst (λ a. IsAt form source a begins.own s) (sym (append-nil (own_asked source))) begins.is;
      };
      put = begins.put;
    }
opens_of form first source old new b n (Err stops.Fault) described begins =
    stops_streamed form first [] source described [] tt [] old new b n stops.Fault
    (subst (λ a. StopsAmong form source a [] old new b n stops.Fault) (sym (append-nil (own_asked source))) begins)
opens_of form first source old new b n (Err stops.Out) described begins =
    stops_streamed form first [] source described [] tt [] old new b n stops.Out
    (subst (λ a. StopsAmong form source a [] old new b n stops.Out) (sym (append-nil (own_asked source))) begins)
opens_of form first source old new b n (Err stops.OutOfMemory) described begins =
    elim begins [
      | inl same ↦ inl same
      | inr part ↦ inr (stops_streamed form first [] source described [] tt [] old new b n stops.OutOfMemory
          (subst (λ a. StopsAmong form source a [] old new b n stops.OutOfMemory) (sym (append-nil (own_asked source))) part))
    ]
opens_of form first source old new b n (Err stops.Words) described begins = absurd begins
opens_of form first source old new b n (Err stops.Form) described begins = absurd begins
opens_of form first source old new b n (Err stops.Source) described begins = absurd begins
