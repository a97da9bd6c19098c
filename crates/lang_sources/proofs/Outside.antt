-- What is read in an action or a step may stand outside of bodies.
use Rattle.std.proofs.Common.{◌≡◌, ℕ, zero, suc, true, false, List, [], ◌∷◌, ◌++◌, Option, Some, None, option_map, option_and_then, if◌then◌else◌, refl, sym, subst, ◌∙◌}
use Rattle.std.specs.Prelude.{◌&&◌, codes}
use Rattle.rt_lemmas.proofs.Bools.{contrary}
use Rattle.serde_json.specs.Data.{Data, Items, no_items, item}
use Rattle.lang_expressions.specs.Keys.{is_object_of}
use Rattle.lang_expressions.specs.Fields.{text_at, list_at, is_zero_at}
use Rattle.lang_expressions.specs.Lists.{steps}
use Rattle.lang_expressions.specs.Calls.{expression_at, variable_at, call_at}
use Rattle.lang_expressions.specs.declared.signatures.Names.{Names}
use Rattle.lang_syntax.specs.Outside.{stands_outside, stand_outside}
use Rattle.lang_syntax.specs.declared.expression.Expression.{Expression}
use Rattle.lang_syntax.specs.declared.statement.Simple.{Simple}
use Rattle.lang_syntax.specs.declared.statement.Simple.TheVariants as simple
use Rattle.lang_syntax.specs.declared.statement.SpawnKind.{SpawnKind}
use Rattle.lang_syntax.specs.declared.statement.TaskAct.{TaskAct}
use Rattle.lang_syntax.specs.declared.statement.Statement.{Statement}
use Rattle.lang_syntax.specs.declared.statement.Statement.TheVariants as s
use Rattle.lang_syntax.proofs.Stands.{o-Does, o-SpawnTask, o-When, o-ThrowText, outside-none, outside-more}
use Rattle.lang_sources.specs.Binding.{bound_by, spawn_kind, spawn_of, with_bound}
use Rattle.lang_sources.specs.Forms.{is_body, calling_stands, plain_stands, stands, form_in}
use Rattle.lang_sources.specs.Plain.{call_of, calling_of, word_said, word_at, given, named, provided, written, act_of, acted, plain_of}
use Rattle.lang_sources.specs.Readings.{binding_in, spawned_in, plain_in}
use Rattle.lang_sources.specs.Statements.{one_more, block_of, when_of, formed, statement_of, block_in}
use Rattle.lang_sources.specs.declared.forms.Binder.TheVariants.{Let, Cell, Hook, Memo, Resource}
use Rattle.lang_sources.specs.declared.forms.Calling.{Calling}
use Rattle.lang_sources.specs.declared.forms.Calling.TheVariants.{AtRemoval, BeforeRender, AfterRender, AsEffect, OnceResolved}
use Rattle.lang_sources.specs.declared.forms.StatementForm.{StatementForm}
use Rattle.lang_sources.specs.declared.forms.StatementForm.TheVariants.{Binds, Spawn, When, Does}
use Rattle.lang_sources.specs.declared.forms.Place.{Place}
use Rattle.lang_sources.specs.declared.forms.Plain.{Plain}
use Rattle.lang_sources.specs.declared.forms.Plain.TheVariants.{Calls, Says, Mark, Throw, Fail, Forget, Suspend, Provide, Write, Act}
use Rattle.lang_sources.specs.declared.forms.Word.{Word}
use Rattle.lang_sources.specs.declared.forms.Word.TheVariants as words
use Rattle.lang_sources.proofs.Origins.{none_is, same, mapped, first, held}

-- the names that a statement binds, and the statement
abbrev Bound : Type 0
Bound = Option (List ℕ) × Statement

-- the names in reach behind statements, and the statements
abbrev Block : Type 0
Block = List (List ℕ) × List Statement

-- a statement that was made of what was read
made : {A : Type 0} (f : A → Statement) (o : Option A) (x : Statement) → option_map f o ≡ Some x →
    ((a : A) → o ≡ Some a → stands_outside (f a) ≡ true) → stands_outside x ≡ true
made f o x h each = let m = mapped f o x h in subst (λ y. stands_outside y ≡ true) m.1.1 (each m.0 m.1.0)

-- a statement behind a name that was made of what was read
behind : {A X : Type 0} (f : A → X × Statement) (o : Option A) (r : X × Statement) → option_map f o ≡ Some r →
    ((a : A) → o ≡ Some a → stands_outside (f a).1 ≡ true) → stands_outside r.1 ≡ true
behind f o r h each = let m = mapped f o r h in subst (λ y. stands_outside y.1 ≡ true) m.1.1 (each m.0 m.1.0)

-- the next statement always follows
simple_is : {A : Type 0} (f : A → Simple) (o : Option A) (x : Statement) → option_map (λ a. s.Does (f a)) o ≡ Some x → stands_outside x ≡ true
simple_is f o x h = made (λ a. s.Does (f a)) o x h (λ a _. o-Does (f a))

call_outside : (place : Place) (calling : Calling) (call : ℕ × List Expression) → calling_stands place calling ≡ true → is_body place ≡ false → stands_outside (call_of calling call) ≡ true
call_outside place AtRemoval call h out = contrary (is_body place) h out
call_outside place BeforeRender call h out = contrary (is_body place) h out
call_outside place AfterRender call h out = contrary (is_body place) h out
call_outside place AsEffect call h out = o-Does (simple.EffectOf call.0 call.1)
call_outside place OnceResolved call h out = o-Does (simple.OnResolved call.0 call.1)

word_outside : (word : Word) → stands_outside (word_said word) ≡ true
word_outside words.Freeze = o-Does simple.FreezeBoundary
word_outside words.Clear = o-Does simple.ClearError
word_outside words.Stop = o-Does simple.Stop
word_outside words.Prevent = o-Does simple.Prevent
word_outside words.Stay = o-Does simple.Stay

acted_outside : (variables : List (List ℕ)) (d : Data) (x : Statement) → acted variables d ≡ Some x → stands_outside x ≡ true
acted_outside variables d x h =
    let does = option_and_then act_of (text_at (codes "act") d) in
    let inner = λ (act : TaskAct). option_map (λ variable. s.Does (simple.ActOn act variable)) (variable_at variables (codes "task") d) in
    let keyed = held (is_object_of (codes "act" ∷ codes "task" ∷ []) d) (option_and_then inner does) x h in
    let act = first inner does x keyed.1 in
    simple_is (λ variable. simple.ActOn act.0 variable) (variable_at variables (codes "task") d) x act.1.1

module _ (names : Names) (variables : List (List ℕ)) where
  provided_outside : (d : Data) (x : Statement) → provided names variables d ≡ Some x → stands_outside x ≡ true
  provided_outside d x h =
      let inner = λ (kind : ℕ). option_map (λ e. s.Does (simple.ProvideAs kind e)) (expression_at names variables (codes "be") d) in
      let keyed = held (is_object_of (codes "provide" ∷ codes "be" ∷ []) d) (option_and_then inner (variable_at names.kinds (codes "provide") d)) x h in
      let kind = first inner (variable_at names.kinds (codes "provide") d) x keyed.1 in
      simple_is (λ e. simple.ProvideAs kind.0 e) (expression_at names variables (codes "be") d) x kind.1.1

  written_outside : (d : Data) (x : Statement) → written names variables d ≡ Some x → stands_outside x ≡ true
  written_outside d x h =
      let inner = λ (variable : ℕ). option_map (λ e. s.Does (simple.WriteTo variable e)) (expression_at names variables (codes "be") d) in
      let keyed = held (is_object_of (codes "write" ∷ codes "be" ∷ []) d) (option_and_then inner (variable_at variables (codes "write") d)) x h in
      let variable = first inner (variable_at variables (codes "write") d) x keyed.1 in
      simple_is (λ e. simple.WriteTo variable.0 e) (expression_at names variables (codes "be") d) x variable.1.1

  plain_outside : (place : Place) → is_body place ≡ false → (key : List ℕ) (plain : Plain) → plain_stands place plain ≡ true →
      (d : Data) (x : Statement) → plain_of names variables key plain d ≡ Some x → stands_outside x ≡ true
  plain_outside place out key (Calls calling) h d x is =
      let keyed = held (is_object_of (key ∷ codes "args" ∷ []) d) (option_map (call_of calling) (call_at names variables names.actions key d)) x is in
      made (call_of calling) (call_at names variables names.actions key d) x keyed.1 (λ call _. call_outside place calling call h out)
  plain_outside place out key (Says word) h d x is =
      let keyed = held (is_object_of (key ∷ []) d && is_zero_at key d) (Some (word_said word)) x is in
      subst (λ y. stands_outside y ≡ true) (same (word_said word) x keyed.1) (word_outside word)
  plain_outside place out key Mark h d x is = simple_is simple.MarkScopeOf (given names variables key d) x is
  plain_outside place out key Throw h d x is = made s.ThrowText (given names variables key d) x is (λ e _. o-ThrowText e)
  plain_outside place out key Fail h d x is = contrary (is_body place) h out
  plain_outside place out key Forget h d x is = simple_is simple.Forget (named variables key d) x is
  plain_outside place out key Suspend h d x is = contrary (is_body place) h out
  plain_outside place out key Provide h d x is = provided_outside d x is
  plain_outside place out key Write h d x is = written_outside d x is
  plain_outside place out key Act h d x is = acted_outside variables d x is

  plain_in_outside : (place : Place) → is_body place ≡ false → (key : List ℕ) (plain : Plain) → plain_stands place plain ≡ true →
      (d : Data) (x : Statement) → plain_in names variables key plain d ≡ Some x → stands_outside x ≡ true
  unfolding plain_in
  plain_in_outside place out key plain h d x is = plain_outside place out key plain h d x is

  binding_outside : (d : Data) (b : List ℕ × Statement) → binding_in names variables Let d ≡ Some b → stands_outside b.1 ≡ true
  unfolding binding_in
  binding_outside d b is =
      behind (λ given. (given.0, s.Does (simple.Let given.1))) (bound_by names variables (codes "let") (codes "be") d) b is (λ given _. o-Does (simple.Let given.1))

  spawned_outside : (d : Data) (b : List ℕ × Statement) → spawned_in names variables d ≡ Some b → stands_outside b.1 ≡ true
  unfolding spawned_in
  spawned_outside d b is =
      let calls = call_at names variables names.tasks (codes "task") d in
      let as_kind = λ (name : List ℕ) (kind : SpawnKind). option_map (spawn_of name kind) calls in
      let by_name = λ (name : List ℕ). option_and_then (as_kind name) (spawn_kind d) in
      let keyed = held (is_object_of (codes "spawn" ∷ codes "task" ∷ codes "args" ∷ codes "as" ∷ []) d) (option_and_then by_name (text_at (codes "spawn") d)) b is in
      let name = first by_name (text_at (codes "spawn") d) b keyed.1 in
      let kind = first (as_kind name.0) (spawn_kind d) b name.1.1 in
      behind (spawn_of name.0 kind.0) calls b kind.1.1 (λ call _. o-SpawnTask call.0 call.1 kind.0)

  when_outside : (block : List (List ℕ) → Items → Option Block) →
      ((inner : List (List ℕ)) (items : Items) (b : Block) → block inner items ≡ Some b → stand_outside b.1 ≡ true) →
      (d : Data) (x : Statement) → when_of block names variables d ≡ Some x → stands_outside x ≡ true
  when_outside block blocks d x is =
      let statements = option_and_then (block variables) (list_at (codes "do") d) in
      let inner = λ (test : Expression). option_map (λ (b : Block). s.When test b.1) statements in
      let keyed = held (is_object_of (codes "when" ∷ codes "do" ∷ []) d) (option_and_then inner (expression_at names variables (codes "when") d)) x is in
      let test = first inner (expression_at names variables (codes "when") d) x keyed.1 in
      made (λ (b : Block). s.When test.0 b.1) statements x test.1.1
      (λ b given. let found = first (block variables) (list_at (codes "do") d) b given in o-When test.0 b.1 ∙ blocks variables found.0 b found.1.1)

  formed_outside : (place : Place) → is_body place ≡ false → (block : List (List ℕ) → Items → Option Block) →
      ((inner : List (List ℕ)) (items : Items) (b : Block) → block inner items ≡ Some b → stand_outside b.1 ≡ true) →
      (key : List ℕ) (form : StatementForm) → stands place form ≡ true → (d : Data) (r : Bound) → formed block names variables key form d ≡ Some r → stands_outside r.1 ≡ true
  formed_outside place out block blocks key (Binds Let) h d r is =
      behind (λ (b : List ℕ × Statement). (Some b.0, b.1)) (binding_in names variables Let d) r is (λ b given. binding_outside d b given)
  formed_outside place out block blocks key (Binds Cell) h d r is = contrary (is_body place) h out
  formed_outside place out block blocks key (Binds Hook) h d r is = contrary (is_body place) h out
  formed_outside place out block blocks key (Binds Memo) h d r is = contrary (is_body place) h out
  formed_outside place out block blocks key (Binds Resource) h d r is = contrary (is_body place) h out
  formed_outside place out block blocks key Spawn h d r is =
      behind (λ (b : List ℕ × Statement). (Some b.0, b.1)) (spawned_in names variables d) r is (λ b given. spawned_outside d b given)
  formed_outside place out block blocks key When h d r is =
      behind (λ (done : Statement). (None, done)) (when_of block names variables d) r is (λ done given. when_outside block blocks d done given)
  formed_outside place out block blocks key (Does plain) h d r is =
      behind (λ (done : Statement). (None, done)) (plain_in names variables key plain d) r is (λ done given. plain_in_outside place out key plain h d done given)

-- statements, one after another, each of which may
steps_outside : (reading : List (List ℕ) → Data → Option Bound) →
    ((variables : List (List ℕ)) (d : Data) (r : Bound) → reading variables d ≡ Some r → stands_outside r.1 ≡ true) →
    (so_far : Block) (items : Items) (b : Block) → stand_outside so_far.1 ≡ true → steps (one_more reading) so_far items ≡ Some b → stand_outside b.1 ≡ true
unfolding steps
steps_outside reading each so_far no_items b h is = subst (λ (x : Block). stand_outside x.1 ≡ true) (same so_far b is) h
steps_outside reading each so_far (item d rest) b h is =
    let next = first (λ (t : Block). steps (one_more reading) t rest) (one_more reading so_far d) b is in
    let read = mapped (λ (r : Bound). (with_bound so_far.0 r.0, so_far.1 ++ r.1 ∷ [])) (reading so_far.0 d) next.0 next.1.0 in
    let one : stands_outside read.0.1 ≡ true = each so_far.0 d read.0 read.1.0 in
    let all : stand_outside next.0.1 ≡ true = subst (λ (x : Block). stand_outside x.1 ≡ true) read.1.1 (outside-more so_far.1 read.0.1 h one) in
    steps_outside reading each next.0 rest b all next.1.1

statement_outside : (levels : ℕ) (names : Names) (place : Place) → is_body place ≡ false → (variables : List (List ℕ)) (d : Data) (r : Bound) →
    statement_of levels names place variables d ≡ Some r → stands_outside r.1 ≡ true
unfolding statement_of
statement_outside zero names place out variables d r is = none_is r is
statement_outside (suc levels) names place out variables d r is =
    let block = block_of (statement_of levels names place) in
    let of_form = λ (form : List ℕ × StatementForm). if stands place form.1 then formed block names variables form.0 form.1 d else None in
    let form = first of_form (form_in d) r is in
    let may = held (stands place form.0.1) (formed block names variables form.0.0 form.0.1 d) r form.1.1 in
    formed_outside names variables place out block
    (λ inner items b given. steps_outside (statement_of levels names place) (λ vs e q h. statement_outside levels names place out vs e q h) (inner, []) items b outside-none given)
    form.0.0 form.0.1 may.0 d r may.1

-- statements of a list in a place that is no body
pub block_outside : (names : Names) (place : Place) → is_body place ≡ false → (variables : List (List ℕ)) (items : Items) (b : Block) →
    block_in names place variables items ≡ Some b → stand_outside b.1 ≡ true
block_outside names place out variables items b is =
    steps_outside (statement_of 128 names place) (λ vs d r h. statement_outside 128 names place out vs d r h) (variables, []) items b outside-none is
