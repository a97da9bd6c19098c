-- What is asked, one after the other.
use Rattle.std.proofs.Common.{◌≡◌, ℕ, true, List, [], ◌∷◌, ◌++◌, map, refl, sym, ap, ◌∙◌, append_assoc}
use Rattle.std.specs.Prelude.{Option, Some, None, is_some}
use Rattle.rt_language.specs.Meaning.{input_of, inputs_of}
use Rattle.rt_language.specs.Syntax.{InputSource}
use Rattle.show_stream.specs.Streams.{EachSays, Says, SaysFront, inputs_in, marks_of}

-- one input more
pub inputs_more : (asked : List (Option InputSource)) (said : InputSource)
    → inputs_of (inputs_in (asked ++ Some said ∷ [])) ≡ inputs_of (inputs_in asked) ++ input_of said ∷ []
inputs_more [] said = refl
inputs_more (None ∷ asked) said = inputs_more asked said
inputs_more (Some first ∷ asked) said = ap (λ inputs. input_of first ∷ inputs) (inputs_more asked said)

-- a line more that is none
pub inputs_none : (asked : List (Option InputSource)) → inputs_of (inputs_in (asked ++ None ∷ [])) ≡ inputs_of (inputs_in asked)
inputs_none [] = refl
inputs_none (None ∷ asked) = inputs_none asked
inputs_none (Some first ∷ asked) = ap (λ inputs. input_of first ∷ inputs) (inputs_none asked)

some_of : (asked : List (Option InputSource)) (said : Option InputSource)
    → map (λ s. is_some s) (asked ++ said ∷ []) ≡ map (λ s. is_some s) asked ++ is_some said ∷ []
some_of [] said = refl
some_of (first ∷ asked) said = ap (λ marks. is_some first ∷ marks) (some_of asked said)

-- and its mark
pub marks_more : (asked : List (Option InputSource)) (said : Option InputSource) → marks_of (asked ++ said ∷ []) ≡ marks_of asked ++ is_some said ∷ []
marks_more asked said = ap (λ marks. true ∷ marks) (some_of asked said)

-- one line more, and what it says
pub says_more : (lines : List (List ℕ)) (asked : List (Option InputSource)) (bytes : List ℕ) (said : Option InputSource)
    → EachSays lines asked → Says bytes said → EachSays (lines ++ bytes ∷ []) (asked ++ said ∷ [])
says_more [] [] bytes said each one = (one, tt)
says_more [] (first ∷ asked) bytes said each one = absurd each
says_more (line ∷ lines) [] bytes said each one = absurd each
says_more (line ∷ lines) (first ∷ asked) bytes said each one = (each.0, says_more lines asked bytes said each.1 one)

-- what each says the first of them say, and more lines may follow
pub says_front : (lines : List (List ℕ)) (asked : List (Option InputSource)) → EachSays lines asked → SaysFront lines asked
says_front [] [] each = tt
says_front [] (first ∷ asked) each = absurd each
says_front (line ∷ lines) [] each = tt
says_front (line ∷ lines) (first ∷ asked) each = (each.0, says_front lines asked each.1)

pub front_more : (lines more : List (List ℕ)) (asked : List (Option InputSource)) → EachSays lines asked → SaysFront (lines ++ more) asked
front_more [] more [] each = tt
front_more [] more (first ∷ asked) each = absurd each
front_more (line ∷ lines) more [] each = tt
front_more (line ∷ lines) more (first ∷ asked) each = (each.0, front_more lines more asked each.1)

-- some inputs one by one
pub some_more : (done rest : List InputSource) (said : InputSource) → (done ++ said ∷ []) ++ rest ≡ done ++ said ∷ rest
some_more done rest said = append_assoc done (said ∷ []) rest

some_append : (xs ys : List InputSource) → map Some (xs ++ ys) ≡ map Some xs ++ map Some ys
some_append [] ys = refl
some_append (x ∷ xs) ys = ap (λ asked. Some x ∷ asked) (some_append xs ys)

-- what was asked with one input more
pub asked_more : (asked : List (Option InputSource)) (done : List InputSource) (said : InputSource)
    → asked ++ map Some (done ++ said ∷ []) ≡ (asked ++ map Some done) ++ Some said ∷ []
asked_more asked done said =
    ap (λ more. asked ++ more) (some_append done (said ∷ [])) ∙ sym (append_assoc asked (map Some done) (Some said ∷ []))

-- a front of what was asked and one input more, and the others
pub asked_all : (asked : List (Option InputSource)) (done rest all : List InputSource) (said : InputSource) → done ++ said ∷ rest ≡ all
    → ((asked ++ map Some done) ++ Some said ∷ []) ++ map Some rest ≡ asked ++ map Some all
asked_all asked done rest all said are =
    append_assoc (asked ++ map Some done) (Some said ∷ []) (map Some rest)
    ∙ append_assoc asked (map Some done) (Some said ∷ map Some rest)
    ∙ ap (λ more. asked ++ more) (sym (some_append done (said ∷ rest)) ∙ ap (map Some) are)
