-- What is appended step by step, as one row of tokens.
use Rattle.std.proofs.Common.{◌≡◌, ℕ, List, [], ◌∷◌, ◌++◌, Result, Ok, Err, ap, ◌∙◌, append_assoc}
use Rattle.std.specs.Prelude.{OnOk, Option, Bool, codes, decimal}
use Rattle.json.specs.Token.{Token, begin_object, end_object, key, string, number, boolean}
use Rattle.json.specs.Tree.{json_tokens}
use Rattle.rt_model.specs.Lists.{Text}
use Rattle.show_objects.specs.Objects.{maybe_json}

-- what was appended before, and then what is appended last
pub onward : {T E U : Type 0} (r : Result T E) (last middle first before behind : List U)
    → middle ≡ first ++ before → OnOk r (last ≡ middle ++ behind) → OnOk r (last ≡ first ++ (before ++ behind))
onward (Ok x) last middle first before behind was is = is ∙ ap (λ row. row ++ behind) was ∙ append_assoc first before behind
onward (Err e) last middle first before behind was is = tt

-- a member that is a number
abbrev pub counted_tokens : Text → ℕ → List Token
counted_tokens name n = key name ∷ number (decimal n) ∷ []

-- a member that is a text
abbrev pub worded_tokens : Text → Text → List Token
worded_tokens name text = key name ∷ string text ∷ []

-- a member that is a text or null
abbrev pub maybe_tokens : Text → Option Text → List Token
maybe_tokens name text = key name ∷ json_tokens (maybe_json text)

-- a member that is true or false
abbrev pub flag_tokens : Text → Bool → List Token
flag_tokens name so = key name ∷ boolean so ∷ []

-- an edit with its word and the number of the node that it names
abbrev pub edit_begun : Text → ℕ → List Token
edit_begun word id = begin_object ∷ (worded_tokens (codes "edit") word ++ counted_tokens (codes "id") id)

-- a fault with its number and name
abbrev pub fault_begun : ℕ → Text → List Token
fault_begun which name = begin_object ∷ (counted_tokens (codes "fault") which ++ worded_tokens (codes "name") name)

-- the end of an object
abbrev pub ended : List Token
ended = end_object ∷ []
