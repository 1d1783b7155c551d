-- The script of a text, or the number of its first line that is outside the grammar.
use Rattle.std.specs.Prelude.{◌≡◌, ℕ, zero, suc, ◌+◌, ⊤, map, List, [], ◌∷◌, ◌++◌, Option, Some, None, Result, Ok, Err, if◌then◌else◌}
use Rattle.poa_base.specs.declared.ScriptLine.{ScriptLine}
use Rattle.poa_base.specs.declared.ScriptLine.TheVariants as line
use Rattle.text_words.specs.Cuts.{lines_of}
use Rattle.replay_script.specs.declared.fault.ScriptFault.{ScriptFault}
use Rattle.replay_script.specs.declared.fault.ScriptFault.TheVariants.{BadLine, WantMemory}
use Rattle.replay_script.specs.declared.script.Script.{Script}
use Rattle.replay_script.specs.declared.step.Request.{Request}
use Rattle.replay_script.specs.declared.step.Step.{Step}
use Rattle.replay_script.specs.declared.step.Step.TheVariants as step
use Rattle.replay_script.specs.declared.step.ScriptStep.{ScriptStep}
use Rattle.replay_script.specs.Reading.{line_of}
use Rattle.replay_script.specs.Connections.{connections, may_stand, place_in}

-- the requests of a flood, with the ids from 1 on
abbrev pub asked : Request → ℕ → Step
asked r id = step.Ask r.connection id r.path r.oid r.operation r.argument

abbrev pub asks : Request → ℕ → List Step
asks r zero = []
asks r (suc n) = asks r n ++ asked r (suc n) ∷ []

-- the step of a line, where these are the connections; none of a line that is skipped, nor of one that stands for others
abbrev pub step_of : List (List ℕ) → ScriptLine → Option Step
step_of names line.Skipped = None
step_of names (line.Ask conn id path oid operation argument) = Some (step.Ask (place_in conn names) id path oid operation argument)
step_of names (line.Flood conn count path oid operation argument) = None
step_of names (line.Feed conn bytes) = Some (step.Feed (place_in conn names) bytes)
step_of names (line.End conn) = Some (step.End (place_in conn names))
step_of names (line.Admin conn words) = Some (step.Admin (place_in conn names) words)
step_of names (line.Step worker) = Some (step.Step worker)
step_of names (line.Run worker) = Some (step.Run worker)
step_of names (line.Collect conn) = Some (step.Collect (place_in conn names))
step_of names line.Store = Some step.Store
step_of names line.Journal = Some step.Journal

abbrev pub one_or_none : Option Step → List Step
one_or_none None = []
one_or_none (Some s) = s ∷ []

-- the steps of a line: a flood stands for its requests
abbrev pub steps_of : List (List ℕ) → ScriptLine → List Step
steps_of names (line.Flood conn count path oid operation argument) =
    asks (record { connection = place_in conn names; path = path; oid = oid; operation = operation; argument = argument }) count
steps_of names l = one_or_none (step_of names l)

-- steps with the number of their line
abbrev pub numbered : ℕ → List Step → List ScriptStep
numbered k steps = map (λ s. record { line = k; step = s }) steps

-- a script with steps in front
abbrev pub behind_steps : List ScriptStep → Result Script ℕ → Result Script ℕ
behind_steps steps (Err k) = Err k
behind_steps steps (Ok script) = Ok (record { connections = script.connections; steps = steps ++ script.steps })

-- the line that was read at k
abbrev pub line_at : ℕ → Option ScriptLine → Result ScriptLine ℕ
line_at k None = Err k
line_at k (Some l) = Ok l

-- the script from line k on, where the line at k was read, `past` are the lines before it and `more` are those behind it
abbrev pub with_line : List ScriptLine → ℕ → (ScriptLine → Result Script ℕ) → Result ScriptLine ℕ → Result Script ℕ
with_line past k more (Err j) = Err j
with_line past k more (Ok l) =
    if may_stand past l then behind_steps (numbered k (steps_of (connections (l ∷ past)) l)) (more l) else Err k

-- the script of lines that are numbered from k on, behind the lines `past`, which are listed newest first
abbrev pub script_from : List ScriptLine → ℕ → List (List ℕ) → Result Script ℕ
script_from past k [] = Ok (record { connections = connections past; steps = [] })
script_from past k (l ∷ ls) = with_line past k (λ line. script_from (line ∷ past) (k + 1) ls) (line_at k (line_of l))

-- the script of a text
abbrev pub script_of : List ℕ → Result Script ℕ
script_of text = script_from [] 1 (lines_of text)

-- what a reader's answer says: the value, or the number of the first line outside the grammar
abbrev pub ScriptReads : {X : Type 0} → Result X ScriptFault → Result X ℕ → Type 0
ScriptReads (Ok x) meant = meant ≡ Ok x
ScriptReads (Err (BadLine k)) meant = meant ≡ Err k
ScriptReads (Err WantMemory) meant = ⊤
