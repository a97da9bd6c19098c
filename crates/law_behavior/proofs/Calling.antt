-- What the calls of an application spawn, and facts of their lists.
use Rattle.std.proofs.Common.{ℕ, List, [], ◌∷◌, ◌++◌, ◌≤◌, arith}
use Rattle.std.specs.Prelude.{Option, Some, None}
use Rattle.std.specs.List.{AllByRecursion}
use Rattle.rt_model.specs.Tree.{Types, CapturedError, placeholder_tree, VComponent, Own, Root, Fragment, ErrorBoundary, SuspenseBoundary, Element, rendered}
use Rattle.rt_model.specs.World.{Source, Error, Firsts, Event, Command, World, Application}
use Rattle.rt_model.specs.Laws.{IsLawful}
use Rattle.rt_model.specs.Run.{plain, error_tree, children_tree, root_tree, caught, body_of}
use Rattle.rt_model.proofs.Tour.{AllFresh}

-- a fact of all items of two lists
pub all_first : {A : Type 0} (Q : A → Type 0) (xs ys : List A) → AllByRecursion Q (xs ++ ys) → AllByRecursion Q xs
all_first Q [] ys h = tt
all_first Q (x ∷ xs) ys h = (h.0, all_first Q xs ys h.1)

pub all_last : {A : Type 0} (Q : A → Type 0) (xs ys : List A) → AllByRecursion Q (xs ++ ys) → AllByRecursion Q ys
all_last Q [] ys h = h
all_last Q (x ∷ xs) ys h = all_last Q xs ys h.1

module _ {K : Types} (app : Application K) where
  -- numbers that a call leaves: tasks' are from a bound on, and where the application is lawful those of cells haven't fallen
  pub record Follows (bound : ℕ) (first next : Firsts) : Type 0 where
    pub low : bound ≤ next.tasks
    pub rises : IsLawful K app → first.cells ≤ next.cells

  -- a call whose first numbers are from a bound on spawns tasks from there on, and leaves such numbers
  abbrev pub Draws : ℕ → Firsts → List (Command K) → Firsts → Type 0
  Draws bound first cs next = bound ≤ first.tasks → AllFresh app bound cs × Follows bound first next

  -- so does each call of the application
  pub record AllDraw (bound : ℕ) : Type 0 where
    pub bodies : (c : K.Component) (p : K.Props) (w : World K) → Draws bound w.given.next (app.body c p w).commands (app.body c p w).next
    pub polls : (a : K.TaskState) (w : World K) → Draws bound w.given.next (app.poll a w).commands (app.poll a w).next
    pub effects : (e : K.Effect) (w : World K) → Draws bound w.given.next (app.effect e w).commands (app.effect e w).next
    pub handlers : (h : K.Handler) (e : Event K) (w : World K) → Draws bound w.given.next (app.handle h e w).commands (app.handle h e w).next

  pub fresh_both : (bound : ℕ) (cs ds : List (Command K)) → AllFresh app bound cs → AllFresh app bound ds → AllFresh app bound (cs ++ ds)
  fresh_both bound [] ds f g = g
  fresh_both bound (c ∷ cs) ds f g = (f.0, fresh_both bound cs ds f.1 g)

  plain_draws : (bound : ℕ) (w : World K) (reads : List Source) (answer : Element K) → Draws bound w.given.next (plain w reads answer).commands (plain w reads answer).next
  plain_draws bound w reads answer = λ low.
      let level : w.given.next.cells ≤ w.given.next.cells = omega arith in
      (tt, record { low = low; rises = λ lawful. level })

  caught_draws : (bound : ℕ) → AllDraw bound → (children : Element K) (handler : Option (K.Component × K.Props)) (w : World K) (o : Option CapturedError)
      → Draws bound w.given.next (caught app children handler w o).commands (caught app children handler w o).next
  caught_draws bound all children handler w None = plain_draws bound w (Error w.given.scope ∷ []) (rendered (children_tree children))
  caught_draws bound all children None w (Some e) = plain_draws bound w (Error w.given.scope ∷ []) (rendered (error_tree e.text))
  caught_draws bound all children (Some h) w (Some e) = all.bodies h.0 h.1 w

  pub body_draws : (bound : ℕ) → AllDraw bound → (c : VComponent K) (w : World K) → Draws bound w.given.next (body_of app c w).commands (body_of app c w).next
  body_draws bound all (Own component props) w = all.bodies component props w
  body_draws bound all (Root component props) w = plain_draws bound w [] (rendered (root_tree component props))
  body_draws bound all (Fragment children) w = plain_draws bound w [] children
  body_draws bound all (ErrorBoundary children handler) w = caught_draws bound all children handler w (w.values.error w.given.scope)
  body_draws bound all (SuspenseBoundary children None) w = plain_draws bound w [] (rendered placeholder_tree)
  body_draws bound all (SuspenseBoundary children (Some f)) w = all.bodies f.0 f.1 w
