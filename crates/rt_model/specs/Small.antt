-- Small applications for worked rows: values, tasks and actions, and short ways to write programs and trees.
use Rattle.std.specs.Prelude.{ℕ, zero, suc, ◌+◌, Bool, true, false, ◌&&◌, nat_eq, List, [], ◌∷◌, ◌++◌, Option, Some, None, ◌≡◌, if◌then◌else◌, is_some}
use Rattle.rt_model.specs.Lists.{Text, joined, same_numbers, same_list}
use Rattle.rt_model.specs.Tree.{Types, TemplateNodes, no_nodes, text_node, template_with, Tree, block, no_slots, Slot, component_slot, Own, placeholder_tree, Element, rendered, suspended}
use Rattle.rt_model.specs.World.{TaskStep, pending, ready, Nothing, nothing, Application}
use Rattle.rt_model.specs.Program.{Program, done, current_scope, read, new_cell, write, spawn, wake, clear_errors, provide, hook_is_new, use_hook, Programs, application_of}
use Rattle.rt_model.specs.Laws.{IsLawful}
use Rattle.rt_model.specs.Replay.{Entry, Input, start}
use Rattle.rt_model.specs.Document.{Edit}
use Rattle.rt_model.specs.Told.{Told, tell_reports, edits_of, same_edits}
use Rattle.rt_model.specs.Openings.{one_each}
use Rattle.rt_model.specs.Causes.{usual, replay_within}
use Rattle.rt_model.specs.Finished.{is_finished}

-- a number or a text
pub data Val : Type 0 where
  Num : (number : ℕ) → Val
  Str : (text : Text) → Val

-- equal values
abbrev pub same_val : Val → Val → Bool
same_val (Num a) (Num b) = nat_eq a b
same_val (Str t) (Str u) = same_numbers t u
same_val _ _ = false

-- the names of an application's components
pub data Name : Type 0 where
  Main : Name
  Mid : Name
  Kid : Name
  Load : Name

-- equal names of components
abbrev pub same_name : Name → Name → Bool
same_name Main Main = true
same_name Mid Mid = true
same_name Kid Kid = true
same_name Load Load = true
same_name _ _ = false

-- a task by the steps that are left: the last one may write 1 to a cell
pub data Job : Type 0 where
  Idle : (steps : ℕ) → Job
  Fetch : (cell steps : ℕ) → Job

-- what an effect, a clean-up or a listener does
pub data Doing : Type 0 where
  Nought : Doing
  Rouse : (task : ℕ) → Doing
  Put : (cell : ℕ) (value : Val) → Doing
  Add : (cell : ℕ) (text : Text) → Doing
  More : (cell : ℕ) → Doing
  Give : (kind : ℕ) (value : Val) → Doing
  Forgive : Doing

-- listeners and effects that do the same
abbrev pub same_doing : Doing → Doing → Bool
same_doing Nought Nought = true
same_doing (Rouse t) (Rouse u) = nat_eq t u
same_doing (Put c v) (Put d u) = nat_eq c d && same_val v u
same_doing (Add c t) (Add d u) = nat_eq c d && same_numbers t u
same_doing (More c) (More d) = nat_eq c d
same_doing (Give k v) (Give j u) = nat_eq k j && same_val v u
same_doing Forgive Forgive = true
same_doing _ _ = false

-- the types of the small applications
abbrev pub R : Types
R = record { Component = Name; Props = List Val; Value = Val; Handler = Doing; TaskState = Job; Effect = Doing; Payload = Nothing }

-- what a component of a small application does
abbrev pub Body : Type 0
Body = Program R (Element R)

-- the one digit of a small number, the text of a value
abbrev pub text_of : Val → Text
text_of (Num n) = (48 + n) ∷ []
text_of (Str t) = t

-- a value that was read, the empty text where it is gone
abbrev pub val_or : Option Val → Val
val_or None = Str []
val_or (Some v) = v

-- a number that was read, 0 where it is none
abbrev pub number_of : Option Val → ℕ
number_of None = 0
number_of (Some (Num n)) = n
number_of (Some (Str t)) = 0

-- a number that was read, raised by one
abbrev pub one_more : Option Val → Val
one_more v = Num (number_of v + 1)

-- a text that was read, with more at its end
abbrev pub longer : Option Val → Text → Val
longer v t = Str (text_of (val_or v) ++ t)

-- what each kind of action does
abbrev pub does : {A : Type 0} → Doing → Program R A → Program R A
does Nought p = p
does (Rouse t) p = wake t p
does (Put c v) p = write c v p
does (Add c t) p = read c (λ v. write c (longer v t) p)
does (More c) p = read c (λ v. write c (one_more v) p)
does (Give k v) p = provide false k v p
does Forgive p = clear_errors p

-- what each kind of task does at a poll
abbrev pub polls : Job → Program R (TaskStep R)
polls (Idle zero) = done ready
polls (Idle (suc zero)) = done ready
polls (Idle (suc (suc n))) = done (pending (Idle (suc n)))
polls (Fetch c zero) = done ready
polls (Fetch c (suc zero)) = write c (Num 1) (done ready)
polls (Fetch c (suc (suc n))) = done (pending (Fetch c (suc n)))

-- the small application with these bodies
abbrev pub app_of : (Name → List Val → Body) → Programs R
app_of body =
    record {
      root = Main;
      same_component = same_name;
      same_props = λ p q. same_list same_val p q;
      same_value = same_val;
      same_handler = same_doing;
      memoize = λ c p q. same_list same_val p q;
      body = body;
      poll = polls;
      effect = λ e. does e (done nothing);
      handle = λ h event. does h (done event);
    }

-- the small applications obey the laws, whatever their bodies and polls
abbrev pub SmallAreLawful : Type 0
SmallAreLawful =
    (body : Name → List Val → Body) (poll : Job → Program R (TaskStep R))
    → IsLawful R (application_of (record (app_of body) { poll = poll }))

-- a body that gives up where a call was refused
abbrev pub gives_up : Body
gives_up = done (rendered placeholder_tree)

-- what follows a number that was drawn
abbrev pub or_give_up : Option ℕ → (ℕ → Body) → Body
or_give_up None rest = gives_up
or_give_up (Some n) rest = rest n

-- a cell that is made in the first run and kept as a hook
abbrev pub use_cell : Val → (ℕ → Body) → Body
use_cell first rest =
    hook_is_new
    (λ new.
    if new
    then new_cell first (λ o. or_give_up o (λ n. use_hook 3 (Num n) (λ v. rest n)))
    else use_hook 3 (Num 0) (λ v. rest (number_of v)))

-- a task that is spawned in the first run and kept as a hook
abbrev pub use_task : Job → (ℕ → Body) → Body
use_task job rest =
    hook_is_new
    (λ new.
    if new
    then spawn job false false (λ o. or_give_up o (λ t. use_hook 4 (Num t) (λ v. rest t)))
    else use_hook 4 (Num 0) (λ v. rest (number_of v)))

-- a body that suspends on a task
abbrev pub suspends : ℕ → Body
suspends t = current_scope (λ s. done (suspended s t))

-- a body that answers this tree
abbrev pub shows : Tree R → Body
shows tree = done (rendered tree)

-- trees: a text alone, an element without attributes, slots
abbrev pub only : TemplateNodes → Tree R
only nodes = block (template_with nodes) [] no_slots

-- a tree of one text
abbrev pub words : Text → Tree R
words text = only (text_node text no_nodes)

-- a component of the application as a slot
abbrev pub use_of : Name → List Val → Slot R
use_of name props = component_slot (Own name props)

-- replay tells reports that pass the test of what is finished, with these edits
abbrev pub told_with : Application R → List (List Edit) → Option (List (Told R)) → Bool
told_with app edits None = false
told_with app edits (Some told) = same_edits (edits_of told) edits && is_finished app told

-- the logs are one for the build and one for each input, no refusal comes before an entry of theirs
abbrev pub is_within : Programs R → List Val → List (Input R) → List (List Entry) → Bool
is_within a props inputs logs =
    one_each inputs logs && is_some (replay_within (application_of a) usual (Some (start (application_of a) props inputs)) (joined logs))

-- besides, replay accepts them, the edits are these, and all is as the headline says
abbrev pub RowOf : Programs R → List Val → List (Input R) → List (List Entry) → List (List Edit) → Type 0
RowOf a props inputs logs edits =
    is_within a props inputs logs
    &&
    told_with (application_of a) edits (tell_reports (application_of a) (start (application_of a) props inputs) logs)
    ≡
    true
