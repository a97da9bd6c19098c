-- A call under way, and what it leaves.
use Rattle.std.specs.Prelude.{◌≢◌, ℕ, Bool, List, [], Option, Some, None}
use Rattle.run_records.specs.World.{CallWorld}
use Rattle.run_records.specs.declared.world.Firsts.{Firsts}
use Rattle.rt_cells.specs.declared.contexts.ReactiveContext.{ReactiveContext}
use Rattle.rt_cells.specs.declared.sources.Source.{Source}
use Rattle.run_records.specs.declared.command.Command.{Command}
use Rattle.run_records.specs.declared.faults.CxFault.{CxFault}
use Rattle.run_records.specs.declared.faults.CxFault.TheVariants.{OutOfMemory}

module _ (P Component Props Value Handler TaskState Effect Payload : Type 0) where
  -- what a call answers, reads and asks for, the next numbers after it, and the first refusal that it met
  pub record Meaning (A : Type 0) : Type 0 where
    pub answer : A
    pub reads : List Source
    -- what was read into reactive contexts, or by a call that is no body
    pub aside : List Source
    pub commands : List (Command P Component Props Value Handler TaskState Effect Payload)
    pub next : Firsts
    pub fault : Option CxFault

  -- a call under way in its world
  pub record Call : Type 0 where
    pub world : CallWorld P Component Props Value Handler TaskState Effect Payload
    -- whether it is a body, whose reads are recorded
    pub in_body : Bool
    -- the index of the next hook
    pub index : ℕ
    -- the reactive contexts that reads go to, in the order in which they were entered
    pub into : List ReactiveContext
    pub reads : List Source
    pub aside : List Source
    pub commands : List (Command P Component Props Value Handler TaskState Effect Payload)
    pub next : Firsts
    pub fault : Option CxFault

  -- what a call leaves, with the world that it was made in
  pub record Left (A : Type 0) : Type 0 where
    pub world : CallWorld P Component Props Value Handler TaskState Effect Payload
    pub meaning : Meaning A

module _ {P Component Props Value Handler TaskState Effect Payload : Type 0} where
  -- no call on the `Cx` wanted memory
  abbrev pub HadMemory : {A : Type 0} → Meaning P Component Props Value Handler TaskState Effect Payload A → Type 0
  HadMemory m = m.fault ≢ Some OutOfMemory

  -- a call that was just begun, as a body or not
  abbrev pub begun : Bool → CallWorld P Component Props Value Handler TaskState Effect Payload
      → Call P Component Props Value Handler TaskState Effect Payload
  begun in_body w = record {
    world = w;
    in_body = in_body;
    index = 0;
    into = [];
    reads = [];
    aside = [];
    commands = [];
    next = w.next;
    fault = None;
  }

  -- a call that ends with an answer
  abbrev pub ended : {A : Type 0} → Call P Component Props Value Handler TaskState Effect Payload → A
      → Left P Component Props Value Handler TaskState Effect Payload A
  ended c a =
      record {
        world = c.world;
        meaning = record { answer = a; reads = c.reads; aside = c.aside; commands = c.commands; next = c.next; fault = c.fault };
      }
