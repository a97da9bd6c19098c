-- Which form of statement a key names, and where it may stand.
use Rattle.std.specs.Prelude.{ℕ, List, Bool, true, false, not, Option, Some, None, option_map, if◌then◌else◌, bytes_eq, codes}
use Rattle.serde_json.specs.Data.{Data, null, boolean, number, string, array, object, Members, no_members, member}
use Rattle.lang_sources.specs.declared.forms.Place.{Place}
use Rattle.lang_sources.specs.declared.forms.Place.TheVariants.{Body, Action, Step}
use Rattle.lang_sources.specs.declared.forms.Binder.{Binder}
use Rattle.lang_sources.specs.declared.forms.Binder.TheVariants.{Let, Cell, Hook, Memo, Resource}
use Rattle.lang_sources.specs.declared.forms.Calling.{Calling}
use Rattle.lang_sources.specs.declared.forms.Calling.TheVariants.{AtRemoval, BeforeRender, AfterRender, AsEffect, OnceResolved}
use Rattle.lang_sources.specs.declared.forms.Word.{Word}
use Rattle.lang_sources.specs.declared.forms.Word.TheVariants.{Freeze, Clear, Stop, Prevent, Stay}
use Rattle.lang_sources.specs.declared.forms.Plain.{Plain}
use Rattle.lang_sources.specs.declared.forms.Plain.TheVariants.{Calls, Says, Mark, Throw, Fail, Forget, Suspend, Provide, Write, Act}
use Rattle.lang_sources.specs.declared.forms.StatementForm.{StatementForm}
use Rattle.lang_sources.specs.declared.forms.StatementForm.TheVariants.{Binds, Spawn, When, Does}

-- the keys that bind a name to what expressions give
unfoldable pub binder_of : List ℕ → Option Binder
binder_of key =
    if bytes_eq key (codes "let") then Some Let else
    if bytes_eq key (codes "cell") then Some Cell else
    if bytes_eq key (codes "hook") then Some Hook else
    if bytes_eq key (codes "memo") then Some Memo else
    if bytes_eq key (codes "resource") then Some Resource else None

-- the keys that call an action
unfoldable pub calling_of : List ℕ → Option Calling
calling_of key =
    if bytes_eq key (codes "drop") then Some AtRemoval else
    if bytes_eq key (codes "before") then Some BeforeRender else
    if bytes_eq key (codes "after") then Some AfterRender else
    if bytes_eq key (codes "effect") then Some AsEffect else
    if bytes_eq key (codes "resolved") then Some OnceResolved else None

-- the keys that stand with 0
unfoldable pub word_of : List ℕ → Option Word
word_of key =
    if bytes_eq key (codes "freeze") then Some Freeze else
    if bytes_eq key (codes "clear") then Some Clear else
    if bytes_eq key (codes "stop") then Some Stop else
    if bytes_eq key (codes "prevent") then Some Prevent else
    if bytes_eq key (codes "stay") then Some Stay else None

-- a call where there is one, else something else
abbrev pub calls_or : Option Calling → Option Plain → Option Plain
calls_or (Some calling) other = Some (Calls calling)
calls_or None other = other

-- the keys that bind no name and have no statements under them
unfoldable pub plain_of : List ℕ → Option Plain
plain_of key =
    if bytes_eq key (codes "mark") then Some Mark else
    if bytes_eq key (codes "throw") then Some Throw else
    if bytes_eq key (codes "fail") then Some Fail else
    if bytes_eq key (codes "forget") then Some Forget else
    if bytes_eq key (codes "suspend") then Some Suspend else
    if bytes_eq key (codes "provide") then Some Provide else
    if bytes_eq key (codes "write") then Some Write else
    if bytes_eq key (codes "act") then Some Act else
    calls_or (calling_of key) (option_map Says (word_of key))

-- a binding where there is one, else something else
abbrev pub binds_or : Option Binder → Option StatementForm → Option StatementForm
binds_or (Some binder) other = Some (Binds binder)
binds_or None other = other

-- the form that a key names
unfoldable pub form_of : List ℕ → Option StatementForm
form_of key =
    if bytes_eq key (codes "spawn") then Some Spawn else
    if bytes_eq key (codes "when") then Some When else
    binds_or (binder_of key) (option_map Does (plain_of key))

-- whether a place is a body
abbrev pub is_body : Place → Bool
is_body Body = true
is_body Action = false
is_body Step = false

-- whether a place is a step of a task
abbrev pub is_step : Place → Bool
is_step Body = false
is_step Action = false
is_step Step = true

-- whether a call of an action may stand in a place
abbrev pub calling_stands : Place → Calling → Bool
calling_stands place AtRemoval = is_body place
calling_stands place BeforeRender = is_body place
calling_stands place AfterRender = is_body place
calling_stands place AsEffect = true
calling_stands place OnceResolved = true

-- whether a word may stand in a place
abbrev pub word_stands : Place → Word → Bool
word_stands place Freeze = true
word_stands place Clear = true
word_stands place Stop = not (is_body place)
word_stands place Prevent = not (is_body place)
word_stands place Stay = is_step place

-- whether a plain statement may stand in a place
abbrev pub plain_stands : Place → Plain → Bool
plain_stands place (Calls calling) = calling_stands place calling
plain_stands place (Says word) = word_stands place word
plain_stands place Mark = true
plain_stands place Throw = true
plain_stands place Fail = is_body place
plain_stands place Forget = true
plain_stands place Suspend = is_body place
plain_stands place Provide = true
plain_stands place Write = true
plain_stands place Act = true

-- whether a statement of a form may stand in a place
abbrev pub stands : Place → StatementForm → Bool
stands place (Binds Let) = true
stands place (Binds Cell) = is_body place
stands place (Binds Hook) = is_body place
stands place (Binds Memo) = is_body place
stands place (Binds Resource) = is_body place
stands place Spawn = true
stands place When = true
stands place (Does plain) = plain_stands place plain

-- a key with its form where it names one, else something else
abbrev pub form_or : List ℕ → Option StatementForm → Option (List ℕ × StatementForm) → Option (List ℕ × StatementForm)
form_or key None other = other
form_or key (Some form) other = Some (key, form)

-- the first key of some members that names a form, and the form
unfoldable pub first_form : Members → Option (List ℕ × StatementForm)
first_form no_members = None
first_form (member key d rest) = form_or key (form_of key) (first_form rest)

-- the key of a statement that names its form, and the form
abbrev pub form_in : Data → Option (List ℕ × StatementForm)
form_in null = None
form_in (boolean b) = None
form_in (number n) = None
form_in (string s) = None
form_in (array items) = None
form_in (object members) = first_form members
