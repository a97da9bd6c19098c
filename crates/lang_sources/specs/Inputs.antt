-- Literals, messages, and what comes from outside.
use Rattle.std.specs.Prelude.{ℕ, ℤ, List, [], ◌∷◌, length, nat_lt, ◌&&◌, Option, Some, None, option_map, option_and_then, if◌then◌else◌, codes}
use Rattle.serde_json.specs.Data.{Data}
use Rattle.serde_json.specs.Find.{get, as_str, as_array}
use Rattle.lang_expressions.specs.Keys.{is_object_of}
use Rattle.lang_expressions.specs.Fields.{text_at, list_at, integer, whole_at, is_zero_at}
use Rattle.lang_expressions.specs.Lists.{read_each}
use Rattle.lang_syntax.specs.declared.expression.Literal.{Literal}
use Rattle.lang_syntax.specs.declared.expression.Literal.TheVariants as literals
use Rattle.lang_syntax.specs.declared.source.PostSource.{PostSource}
use Rattle.lang_syntax.specs.declared.source.PostSource.TheVariants as posts
use Rattle.lang_syntax.specs.declared.source.InputSource.{InputSource}
use Rattle.lang_syntax.specs.declared.source.InputSource.TheVariants as inputs
use Rattle.lang_sources.specs.declared.inputs.TheConstants.{POSTS_LIMIT}

-- a text where there is one, else something else
abbrev pub text_or : Option (List ℕ) → Option Literal → Option Literal
text_or (Some text) other = Some (literals.Text text)
text_or None other = other

-- a literal is a text or a whole number
abbrev pub literal_in : Data → Option Literal
literal_in d = text_or (as_str d) (option_map literals.Number (integer d))

-- a literal where one may stand
abbrev pub literal_there : Option Data → Option (Option Literal)
literal_there None = Some None
literal_there (Some d) = option_map Some (literal_in d)

-- the literal at a key, where something stands there
abbrev pub literal_at : List ℕ → Data → Option (Option Literal)
literal_at key d = literal_there (get key d)

-- a whole number where one may stand
abbrev pub number_there : Option Data → Option (Option ℤ)
number_there None = Some None
number_there (Some d) = option_map Some (integer d)

-- the whole number at a key, where something stands there
abbrev pub number_at : List ℕ → Data → Option (Option ℤ)
number_at key d = number_there (get key d)

-- a message: `mark` of a scope, `wake` of a task, or `all`
abbrev pub post_in : Data → Option PostSource
post_in d =
    if is_object_of (codes "mark" ∷ []) d then option_map posts.Mark (whole_at (codes "mark") d) else
    if is_object_of (codes "wake" ∷ []) d then option_map posts.Wake (whole_at (codes "wake") d) else
    if is_object_of (codes "all" ∷ []) d && is_zero_at (codes "all") d then Some posts.All else None

-- so many messages are not too many
abbrev pub within_posts : List PostSource → Option (List PostSource)
within_posts messages = if nat_lt POSTS_LIMIT (length messages) then None else Some messages

-- the messages of a poster
abbrev pub poster_in : Data → Option (List PostSource)
poster_in d = option_and_then within_posts (option_and_then (read_each post_in) (as_array d))

-- an event with its name, its element, and perhaps `bubbles` and `payload`
abbrev pub event_in : Data → Option InputSource
event_in d =
    option_and_then (λ name. option_and_then (λ element. option_and_then (λ bubbles.
    option_map (λ payload. inputs.Event name element payload bubbles) (literal_at (codes "payload") d))
    (number_at (codes "bubbles") d)) (whole_at (codes "element") d))
    (text_at (codes "event") d)

-- a literal that is written to a cell
abbrev pub write_in : Data → Option InputSource
write_in d =
    option_and_then (λ cell. option_map (λ value. inputs.Write cell value) (option_and_then literal_in (get (codes "be") d)))
    (whole_at (codes "write") d)

-- messages that come at once
abbrev pub drain_in : Data → Option InputSource
drain_in d = option_map inputs.Drain (option_and_then (read_each post_in) (list_at (codes "drain") d))

-- what comes from outside
abbrev pub input_in : Data → Option InputSource
input_in d =
    if is_object_of (codes "event" ∷ codes "element" ∷ codes "payload" ∷ codes "bubbles" ∷ []) d then event_in d else
    if is_object_of (codes "wake" ∷ []) d then option_map inputs.Wake (whole_at (codes "wake") d) else
    if is_object_of (codes "write" ∷ codes "be" ∷ []) d then write_in d else
    if is_object_of (codes "mark" ∷ []) d then option_map inputs.Mark (whole_at (codes "mark") d) else
    if is_object_of (codes "drain" ∷ []) d then drain_in d else None
