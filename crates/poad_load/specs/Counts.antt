-- What is counted of a load, and how it is printed.
use Rattle.std.specs.Prelude.{◌≡◌, ℕ, ℤ, pos, suc, ◌+ℤ◌, Bool, true, false, if◌then◌else◌, List, [], ◌∷◌, ◌++◌, length, Option, Some, None, codes}
use Rattle.std.specs.Fmt.{signed_decimal}
use Rattle.poa_base.specs.declared.Config.{Config}
use Rattle.poa_base.specs.declared.Entry.{Entry}
use Rattle.poa_base.specs.declared.Entry.TheVariants.{Incarnated, Etherealized}
use Rattle.poa_base.specs.Store.{Place, Slots, states}
use Rattle.poa_base.specs.declared.servant.State.{State}
use Rattle.poa_base.specs.declared.servant.State.TheVariants.{Register}
use Rattle.poa_history.specs.Legal.{IsLegal}
use Rattle.poa_history.specs.Lifetime.{HasLifetime}
use Rattle.history_standing.specs.Stages.{brings}
use Rattle.poad_files.specs.Counts.{count_line}
use Rattle.poa_core.specs.Stored.{Stores}
use Rattle.replay_run.specs.World.{World}
use Rattle.poad_load.specs.Loading.{Loads}

-- how many entries are such
abbrev pub count : (Entry → Bool) → List Entry → ℕ
count is [] = 0
count is (e ∷ past) = if is e then suc (count is past) else count is past

-- an entry is such, where there is one
abbrev pub is_such : (Entry → Bool) → Option Entry → Bool
is_such is (Some e) = is e
is_such is None = false

-- an incarnation that brought a servant
abbrev pub has_brought : Entry → Bool
has_brought (Incarnated w answer) = brings answer
has_brought e = false

abbrev pub is_etherealized : Entry → Bool
is_etherealized (Etherealized w cleanup remaining) = true
is_etherealized e = false

-- the number in a register; another servant has none
abbrev pub register_in : State → ℤ
register_in (Register n) = n
register_in state = pos 0

-- a sum, and the registers in these rows of a store
abbrev pub sum_with : ℤ → List (Place × State) → ℤ
sum_with sum [] = sum
sum_with sum (row ∷ rows) = sum_with (sum +ℤ register_in row.1) rows

abbrev pub sum_of : List (Place × State) → ℤ
sum_of rows = sum_with (pos 0) rows

abbrev pub sum_line : ℤ → List ℕ
sum_line sum = codes "stored sum " ++ (signed_decimal sum ++ codes "\n")

-- the six lines
abbrev pub lines_of : (calls entries incarnations etherealized bytes : ℕ) → ℤ → List ℕ
lines_of calls entries incarnations etherealized bytes sum =
    count_line (codes "calls") calls
    ++ (count_line (codes "entries") entries
    ++ (count_line (codes "incarnations") incarnations
    ++ (count_line (codes "etherealized") etherealized
    ++ (count_line (codes "reply bytes") bytes
    ++ sum_line sum))))

-- of a run and its messages
abbrev pub load_text : ℕ → List Entry → List ℕ → Slots → List ℕ
load_text n history messages slots =
    lines_of n (length history) (count has_brought history) (count is_etherealized history) (length messages) (sum_of (states slots))

-- the lines that a load on this configuration prints: they count what was played, in a legal history that keeps the
-- lifetime of every activation
pub record IsLoaded (c : Config) (n start : ℕ) (text : List ℕ) : Type 0 where
  pub messages : List ℕ
  pub last : World
  pub slots : Slots
  pub loads : Loads c n start messages last
  pub stores : Stores last.life slots
  pub told : text ≡ load_text n last.life.history messages slots
  pub legal : IsLegal c c.run 4000000 last.life.history
  pub lifetime : HasLifetime c c.run last.life.history
