-- What each worker has begun, and which arrivals are admitted.
use Rattle.std.specs.Prelude.{ℕ, Bool, true, false, ◌||◌, ◌==◌, if◌then◌else◌, List, [], ◌∷◌, Option, Some, None, is_none}
use Rattle.poa_base.specs.declared.Entry.{Entry}
use Rattle.poa_base.specs.declared.Entry.TheVariants.{Admit, Tried, Incarnated, Run, Done, TakeOut, Etherealized, Abandon}
use Rattle.poa_base.specs.declared.Attempt.TheVariants.{Yes}
use Rattle.poa_base.specs.declared.Incarnation.{Incarnation}
use Rattle.poa_base.specs.declared.Incarnation.TheVariants.{Fresh, Named}
use Rattle.poa_base.specs.declared.Verdict.{Verdict}
use Rattle.poa_base.specs.declared.Verdict.TheVariants.{Serve, Preset, Locator, Incarnate, Try}
use Rattle.history_standing.specs.declared.stage.Stage.{Stage}
use Rattle.history_standing.specs.declared.stage.Stage.TheVariants.{Free, Trying, Incarnating, Serving, Ran, Removing}

-- the incarnation brought a servant
abbrev pub brings : Incarnation → Bool
brings (Fresh n) = true
brings (Named s) = true
brings a = false

-- what the Admit of an arrival begins
abbrev pub begun_by : ℕ → Verdict → Stage
begun_by r (Serve n) = Serving r
begun_by r (Preset s) = Serving r
begun_by r (Locator s) = Serving r
begun_by r (Incarnate n) = Incarnating r n
begun_by r Try = Trying r
begun_by r v = Free

-- the servant that an incarnation brought is to run
abbrev pub incarnated : Incarnation → Stage → Stage
incarnated a (Incarnating r n) = if brings a then Serving r else Free
incarnated a s = Free

abbrev pub ran : Stage → Stage
ran (Serving r) = Ran r
ran s = Free

-- what a worker has begun and not ended
abbrev pub stage : List Entry → ℕ → Stage
stage [] w = Free
stage (Admit v r verdict ∷ past) w = if v == w then begun_by r verdict else stage past w
stage (Tried v a ∷ past) w = if v == w then Free else stage past w
stage (Incarnated v a ∷ past) w = if v == w then incarnated a (stage past w) else stage past w
stage (Run v ∷ past) w = if v == w then ran (stage past w) else stage past w
stage (Done v ∷ past) w = if v == w then Free else stage past w
stage (TakeOut v n true ∷ past) w = if v == w then Removing n else stage past w
stage (TakeOut v n false ∷ past) w = if v == w then Free else stage past w
stage (Etherealized v c r ∷ past) w = if v == w then Free else stage past w
stage (e ∷ past) w = stage past w

-- the arrival that a worker is at
abbrev pub arrival_in : Stage → Option ℕ
arrival_in (Trying r) = Some r
arrival_in (Incarnating r n) = Some r
arrival_in (Serving r) = Some r
arrival_in (Ran r) = Some r
arrival_in (Removing n) = None
arrival_in Free = None

-- the activation that a worker takes down
abbrev pub removal_in : Stage → Option ℕ
removal_in (Removing n) = Some n
removal_in s = None

abbrev pub is_at : ℕ → Option ℕ → Bool
is_at r (Some x) = x == r
is_at r None = false

-- the verdict by which an arrival stands admitted; the one of a trial that made the child is taken back
abbrev pub admitted : List Entry → ℕ → Option Verdict
admitted [] r = None
admitted (Admit w a verdict ∷ past) r = if a == r then Some verdict else admitted past r
admitted (Tried w (Yes n) ∷ past) r = if is_at r (arrival_in (stage past w)) then None else admitted past r
admitted (e ∷ past) r = admitted past r

abbrev pub is_unadmitted : List Entry → ℕ → Bool
is_unadmitted past r = is_none (admitted past r)

-- an Abandon of the worker stands
abbrev pub is_abandoned : List Entry → ℕ → Bool
is_abandoned [] w = false
is_abandoned (Abandon v ∷ past) w = (v == w) || is_abandoned past w
is_abandoned (e ∷ past) w = is_abandoned past w
