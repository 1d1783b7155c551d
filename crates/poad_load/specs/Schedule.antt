-- The calls and turns of `load N START`.
use Rattle.std.specs.Prelude.{ℕ, zero, suc, ◌+◌, ◌*◌, ◌/◌, ◌%◌, ◌^◌, ◌==◌, pos, Bool, if◌then◌else◌, List, [], ◌∷◌, ◌++◌, Some, codes, decimal, map}
use Rattle.poa_base.specs.declared.Datum.TheVariants.{Long}
use Rattle.replay_script.specs.declared.Step.{Step}
use Rattle.replay_script.specs.declared.Step.TheVariants as step

-- the number of the generator behind this one
abbrev pub next_number : ℕ → ℕ
next_number x = (x * 6364136223846793005 + 1442695040888963407) % 2 ^ 64

-- its number behind so many draws
abbrev pub number_behind : ℕ → ℕ → ℕ
number_behind start zero = start
number_behind start (suc i) = next_number (number_behind start i)

-- the draw behind so many: the upper 31 bits of its number
abbrev pub draw : ℕ → ℕ → ℕ
draw start i = number_behind start (suc i) / 2 ^ 33

-- what a draw says: which of sixteen objects, whether the administrator deactivates it, or else which of four clients asks it,
-- and which of four workers takes how many turns then
abbrev pub object : ℕ → ℕ
object d = d / 4 % 16

abbrev pub is_command : ℕ → Bool
is_command d = (d / 64 % 16) == 0

abbrev pub client : ℕ → ℕ
client d = d % 4

abbrev pub worker : ℕ → ℕ
worker d = d / 1024 % 4

abbrev pub turns : ℕ → ℕ
turns d = d / 4096 % 8 + 1

-- the connections: four of clients, and then the administrator's
abbrev pub names : List (List ℕ)
names = codes "a" ∷ codes "b" ∷ codes "c" ∷ codes "d" ∷ codes "m" ∷ []

abbrev pub administrator : ℕ
administrator = 4

abbrev pub path : List (List ℕ)
path = codes "load" ∷ []

abbrev pub object_id : ℕ → List ℕ
object_id d = codes "o" ++ decimal (object d)

-- the administrator's line
abbrev pub deactivation : ℕ → Step
deactivation d = step.Admin administrator (codes "deactivate /load t:o" ++ decimal (object d))

-- a client's request with this id
abbrev pub request : ℕ → ℕ → Step
request id d = step.Ask (client d) id path (object_id d) (codes "add") (Some (Long (pos 1)))

abbrev pub call_step : ℕ → ℕ → Step
call_step id d = if is_command d then deactivation d else request id d

-- the id of the next request behind so many draws: from 1 on, over all connections
abbrev pub next_id : ℕ → ℕ → ℕ
next_id start zero = 1
next_id start (suc i) = if is_command (draw start i) then next_id start i else next_id start i + 1

abbrev pub shutdown : Step
shutdown = step.Admin administrator (codes "shutdown")
