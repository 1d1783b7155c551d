-- What is printed of that by which a call is held or admitted, where it can be set: the state of a manager, a default servant,
-- or an endpoint.
use Rattle.std.specs.Prelude.{ℕ, List, [], ◌++◌, codes, decimal, Option, Some, None}
use Rattle.poa_base.specs.declared.Command.{Command}
use Rattle.poa_base.specs.declared.ManagerState.{ManagerState}
use Rattle.poa_base.specs.declared.ManagerState.TheVariants.{Holding, Active, Discarding, Inactive}
use Rattle.text_words.specs.Token.{spelled}
use Rattle.admin_line.specs.Command.{command_tokens}
use Rattle.journal_explain.specs.declared.Basis.{Basis}
use Rattle.journal_explain.specs.declared.Basis.TheVariants as basis
use Rattle.journal_explain.specs.declared.Since.{Since}
use Rattle.journal_explain.specs.declared.Tenure.{Tenure}

abbrev pub state_text : ManagerState → List ℕ
state_text Holding = codes "HOLDING"
state_text Active = codes "ACTIVE"
state_text Discarding = codes "DISCARDING"
state_text Inactive = codes "INACTIVE"

abbrev pub state_line : ℕ → ManagerState → List ℕ
state_line m state = codes ": manager " ++ (decimal m ++ (codes " is " ++ state_text state))

-- a manager and its state; of a default servant and of an endpoint that it is set
abbrev pub basis_text : Basis → List ℕ
basis_text (basis.Manager m state) = state_line m state
basis_text basis.DefaultServant = codes ": set"
basis_text basis.Endpoint = codes ": set"

-- the call, with its command
abbrev pub turner_text : ℕ → Option Command → List ℕ
turner_text r None = codes " (call " ++ (decimal r ++ codes ")")
turner_text r (Some command) = codes " (call " ++ (decimal r ++ (codes ", " ++ (spelled (command_tokens command) ++ codes ")")))

-- since when that is so, and by which call
abbrev pub since_text : Option Since → Option Command → List ℕ
since_text None command = codes " since the run began"
since_text (Some since) command = codes " since entry " ++ (decimal since.entry ++ turner_text since.arrival command)

-- behind what holds a call
abbrev pub held_since : Option Tenure → List ℕ
held_since None = []
held_since (Some t) = since_text t.since t.command

-- behind the words of the row that admits a call
abbrev pub ruler_text : Option Tenure → List ℕ
ruler_text None = []
ruler_text (Some t) = basis_text t.basis ++ since_text t.since t.command
