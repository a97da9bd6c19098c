-- Keys of places.
use Rattle.std.specs.Prelude.{ℕ, ◌+◌, ◌*◌, ◌/◌, ◌%◌, List, [], ◌∷◌, if◌then◌else◌, nat_lt}
use Rattle.run_places.specs.declared.place.Kind.{Kind}
use Rattle.run_places.specs.declared.place.Kind.TheVariants as kinds
use Rattle.run_places.specs.declared.place.Step.{Step}
use Rattle.run_places.specs.declared.place.Step.TheVariants as steps
use Rattle.run_places.specs.declared.nodes.NodeAt.{NodeAt}

-- a number mixed into the last eight bits
abbrev pub mixed : ℕ → ℕ → ℕ
mixed i rest = (rest % 256 * 37 + i % 256 + 1) % 256

-- a tiny number in four bits before what a key stands for
abbrev pub tiny : ℕ → ℕ → ℕ
tiny i rest = ((i + 1) * 4503599627370496 + rest / 256 / 16) * 256 + mixed i rest

-- a small one in eight bits
abbrev pub small : ℕ → ℕ → ℕ
small i rest = ((i + 121) * 281474976710656 + rest / 256 / 256) * 256 + mixed i rest

-- a larger one in sixteen bits
abbrev pub middle : ℕ → ℕ → ℕ
middle i rest = ((i + 49081) * 1099511627776 + rest / 256 / 65536) * 256 + mixed i rest

-- any number in twenty-four bits
abbrev pub large : ℕ → ℕ → ℕ
large i rest = ((i % 1048576 + 14680064) * 4294967296 + rest / 256 / 16777216) * 256 + mixed i rest

-- a number before what a key stands for
abbrev pub led : ℕ → ℕ → ℕ
led i rest = if nat_lt i 7 then tiny i rest else if nat_lt i 71 then small i rest else if nat_lt i 8263 then middle i rest else large i rest

-- the key of a path before what another key stands for
abbrev pub path_key : List ℕ → ℕ → ℕ
path_key [] rest = rest
path_key (i ∷ is) rest = led i (path_key is rest)

-- the key of a step before what another key stands for
abbrev pub step_key : Step → ℕ → ℕ
step_key (steps.Inside template path) rest = path_key path rest
step_key (steps.Item position) rest = led position rest

-- the key of steps before what another key stands for
abbrev pub steps_key : List Step → ℕ → ℕ
steps_key [] rest = rest
steps_key (x ∷ xs) rest = step_key x (steps_key xs rest)

-- the key of a kind
abbrev pub kind_key : Kind → ℕ
kind_key kinds.Element = 1
kind_key kinds.StaticText = 2
kind_key kinds.Text = 3
kind_key kinds.Placeholder = 4
kind_key kinds.EmptyFragment = 5

-- the key of a place
abbrev pub place_key : List Step → Kind → ℕ
place_key place kind = steps_key place (kind_key kind)

-- the key of a node
abbrev pub node_key : NodeAt → ℕ
node_key n = place_key n.place n.kind

-- the key of a component
abbrev pub seat_key : List Step → ℕ
seat_key place = steps_key place 6
