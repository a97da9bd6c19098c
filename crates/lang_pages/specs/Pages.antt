-- That the page of a source and its pieces have names that can be spelt, and that what shows is what is read of its spelling.
use Rattle.std.specs.Prelude.{◌≡◌, ◌⊎◌, ℕ, ◌-◌, Bool, true, ◌&&◌, ◌==◌, not, List}
use Rattle.lang_sources.specs.Describes.{Describes}
use Rattle.rt_html.specs.Reading.{IsSpelling}
use Rattle.rt_html.specs.Spelling.{are_namable, html}
use Rattle.rt_language.specs.Expressions.{SourceTypes}
use Rattle.rt_language.specs.Meaning.{meaning_of, props_of}
use Rattle.rt_language.specs.Syntax.{Source}
use Rattle.rt_model.specs.Causes.{Limits}
use Rattle.rt_model.specs.Commands.{post}
use Rattle.rt_model.specs.Document.{Forest, Empty, Node}
use Rattle.rt_model.specs.Lists.{Text}
use Rattle.rt_model.specs.State.{Fault, State, Woken}
use Rattle.rt_model.specs.Tree.{Types}
use Rattle.rt_model.specs.View.{nodes_of}
use Rattle.rt_model.specs.World.{Application}
use Rattle.rt_served.specs.Serving.{Answered, ComesTo, IsServable, IsUnspelt, Opened, Renders}

-- nodes of at most so many levels
abbrev pub has_levels : ℕ → Forest → Bool
has_levels levels Empty = true
has_levels levels (Node number content children rest) =
    (not (levels == 0) && has_levels (levels - 1) children) && has_levels levels rest

module _ {K : Types} (app : Application K) (limits : Limits) (props : K.Props) where
  -- a wake, after others that were answered, leads to a state, whose pieces are put then
  pub record Woke (w : State K) : Type 0 where
    pub first : State K
    pub opened : Opened app limits props first
    pub done : List ℕ
    pub text : List Text
    pub last : State K
    pub answered : Answered app limits first done text last
    pub task : ℕ
    pub turned : List ℕ
    pub renders : Renders app limits (post last (Woken task)) w turned

  -- the page of a state is put, or pieces of it are
  abbrev pub IsPut : State K → Type 0
  IsPut w = Opened app limits props w ⊎ Woke w

-- the nodes of a scope are just those that are read of their spelling, without numbers and listeners
abbrev pub ComesBack : {K : Types} → State K → ℕ → Type 0
ComesBack w scope = IsSpelling (html (nodes_of w scope)) (nodes_of w scope)

-- in every state nodes that can be spelt come back, up to 1,024 levels
abbrev pub SpeltComeBack : Types → Type 0
SpeltComeBack K =
    (w : State K) (scope : ℕ) → are_namable (nodes_of w scope) ≡ true → has_levels 1024 (nodes_of w scope) ≡ true
    → ComesBack w scope

-- the names in the page and in the pieces of each source that bytes describe can be spelt
abbrev pub NamesAreSpelt : Type 0
NamesAreSpelt =
    (bytes : List ℕ) (said : Source) (limits : Limits) (w : State SourceTypes) (scope : ℕ) → Describes bytes said
    → IsPut (meaning_of said) limits (props_of said) w
    → are_namable (nodes_of w scope) ≡ true

-- so serving it comes to no name that can't be spelt, whatever is woken
abbrev pub NoneIsUnspelt : Type 0
NoneIsUnspelt =
    (bytes : List ℕ) (said : Source) (limits : Limits) (tasks : List ℕ) → Describes bytes said
    → IsUnspelt (meaning_of said) limits (props_of said) tasks
    → ⊥

-- and where its run comes to no fault it can be served
abbrev pub SafeIsServable : Type 0
SafeIsServable =
    (bytes : List ℕ) (said : Source) (limits : Limits) (tasks : List ℕ) → Describes bytes said
    → ((fault : Fault) → ComesTo (meaning_of said) limits (props_of said) tasks fault → ⊥)
    → IsServable (meaning_of said) limits (props_of said) tasks

-- what stands in its page or in a piece comes back, up to 1,024 levels
abbrev pub PutComesBack : Type 0
PutComesBack =
    (bytes : List ℕ) (said : Source) (limits : Limits) (w : State SourceTypes) (scope : ℕ) → Describes bytes said
    → IsPut (meaning_of said) limits (props_of said) w
    → has_levels 1024 (nodes_of w scope) ≡ true
    → ComesBack w scope
