-- Whose an entry is: a connection's, or a worker's.
use Rattle.std.specs.Prelude.{◌≡◌, ℕ, List, [], ◌∷◌, Option, Some, None}
use Rattle.poa_base.specs.declared.Entry.{Entry}
use Rattle.poa_base.specs.declared.Entry.TheVariants.{Entered, Arrive, Filled, Left, Collect, Admit, Tried, Incarnated, Run, Done, TakeOut, Etherealized, Abandon}

-- the connection that makes the entry
abbrev pub owner_of : Entry → Option ℕ
owner_of (Entered conn) = Some conn
owner_of (Arrive conn size call) = Some conn
owner_of (Filled conn size) = Some conn
owner_of (Left conn) = Some conn
owner_of (Collect conn r) = Some conn
owner_of e = None

-- the worker that makes it
abbrev pub worker_of : Entry → Option ℕ
worker_of (Admit w r verdict) = Some w
worker_of (Tried w answer) = Some w
worker_of (Incarnated w answer) = Some w
worker_of (Run w) = Some w
worker_of (Done w) = Some w
worker_of (TakeOut w n etherealize) = Some w
worker_of (Etherealized w cleanup remaining) = Some w
worker_of (Abandon w) = Some w
worker_of e = None

-- none of the entries is one of the connection
abbrev pub HasNone : ℕ → List Entry → Type 0
HasNone conn [] = Unit {0}
HasNone conn (e ∷ more) = (owner_of e ≡ Some conn → ⊥) × HasNone conn more
