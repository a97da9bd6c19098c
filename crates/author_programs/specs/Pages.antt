-- Applications of pure answers: what a component shows and what a listener writes are functions of the values that were read.
use Rattle.std.specs.Prelude.{ℕ, Bool, List, [], ◌∷◌, Option, Some, None, option_map}
use Rattle.rt_model.specs.Program.{Program, done, current_scope, Programs, application_of}
use Rattle.rt_model.specs.Tree.{Types, Tree, Element, rendered, placeholder_tree}
use Rattle.rt_model.specs.World.{Application, Event, nothing, ready}
use Rattle.author_programs.specs.Sequence.{go_on}
use Rattle.author_programs.specs.Cells.{Keeping, own_cell, all_read, all_written}

-- what a component is, with its props
pub record Page (K : Types) : Type 0 where
  -- the first values of the cells that are its own
  pub cells : List K.Value
  -- the cells that it reads, of the numbers of its own ones
  pub reads : List ℕ → List ℕ
  -- what it shows, of its scope, the numbers of its own cells and the values that it read
  pub shows : ℕ → List ℕ → List (Option K.Value) → Tree K

-- what a listener does
pub record Reply (K : Types) : Type 0 where
  -- the cells that it reads
  pub reads : List ℕ
  -- the cells that it writes, in order, of the values that it read
  pub writes : List (Option K.Value) → List (ℕ × K.Value)
  -- the event, as it leaves it
  pub leaves : Event K

-- an application of pure answers
pub record Pages (K : Types) : Type 0 where
  pub root : K.Component
  pub same_component : K.Component → K.Component → Bool
  pub same_props : K.Props → K.Props → Bool
  pub same_value : K.Value → K.Value → Bool
  pub same_handler : K.Handler → K.Handler → Bool
  pub page : K.Component → K.Props → Page K
  pub reply : K.Handler → Event K → Reply K

-- one more cell in front of the others
abbrev pub one_more : ℕ → Option (List ℕ) → Option (List ℕ)
one_more n o = option_map (λ ns. n ∷ ns) o

module _ {K : Types} where
  -- a cell, and those after it
  abbrev pub and_more : Program K (Option (List ℕ)) → Option ℕ → Program K (Option (List ℕ))
  and_more others None = done None
  and_more others (Some n) = go_on others (λ o. done (one_more n o))

  -- the cells of the scope, in order
  abbrev pub own_cells : Keeping K.Value → List K.Value → Program K (Option (List ℕ))
  own_cells k [] = done (Some [])
  own_cells k (v ∷ vs) = go_on (own_cell k v) (λ o. and_more (own_cells k vs) o)

  -- what a page shows of its own cells
  abbrev pub shown : Page K → Option (List ℕ) → Program K (Element K)
  shown page None = done (rendered placeholder_tree)
  shown page (Some own) =
      go_on (all_read (page.reads own)) (λ vs. current_scope (λ s. done (rendered (page.shows s own vs))))

  -- the body of a page
  abbrev pub page_body : Keeping K.Value → Page K → Program K (Element K)
  page_body k page = go_on (own_cells k page.cells) (λ own. shown page own)

  -- the call of a listener
  abbrev pub reply_call : Reply K → Program K (Event K)
  reply_call r = go_on (all_read r.reads) (λ vs. go_on (all_written (r.writes vs)) (λ _. done r.leaves))

  -- its calls as programs, where hooks keep the numbers of cells so; it has no tasks and no effects, and equal props mean the same
  abbrev pub programs_of_pages : Keeping K.Value → Pages K → Programs K
  programs_of_pages k a =
      record {
        root = a.root;
        same_component = a.same_component;
        same_props = a.same_props;
        same_value = a.same_value;
        same_handler = a.same_handler;
        memoize = λ c p q. a.same_props p q;
        body = λ c p. page_body k (a.page c p);
        poll = λ s. done ready;
        effect = λ e. done nothing;
        handle = λ h e. reply_call (a.reply h e);
      }

  -- what its calls mean
  abbrev pub meaning_of_pages : Keeping K.Value → Pages K → Application K
  meaning_of_pages k a = application_of (programs_of_pages k a)
