-- The fixed words of the lines.
use Rattle.std.specs.Prelude.{ℕ, Bool, true, false, List, [], ◌∷◌, codes}
use Rattle.admin_line.specs.declared.fixed.Verb.{Verb}
use Rattle.admin_line.specs.declared.fixed.Verb.TheVariants as verb
use Rattle.admin_line.specs.declared.fixed.Shift.{Shift}
use Rattle.admin_line.specs.declared.fixed.Shift.TheVariants as shift
use Rattle.admin_line.specs.declared.fixed.Pace.{Pace}
use Rattle.admin_line.specs.declared.fixed.Pace.TheVariants.{Now, Wait}
use Rattle.admin_line.specs.declared.fixed.End.{End}
use Rattle.admin_line.specs.declared.fixed.End.TheVariants.{Keep, Etherealize}

-- the first word of each command; `bad` stands in journals alone
unfoldable pub verb_word : Verb → List ℕ
verb_word verb.Manager = codes "manager"
verb_word verb.Create = codes "create"
verb_word verb.Destroy = codes "destroy"
verb_word verb.Activate = codes "activate"
verb_word verb.ActivateId = codes "activate-id"
verb_word verb.Deactivate = codes "deactivate"
verb_word verb.Reference = codes "reference"
verb_word verb.Preset = codes "default"
verb_word verb.Forward = codes "forward"
verb_word verb.Unforward = codes "unforward"
verb_word verb.Shutdown = codes "shutdown"
verb_word verb.Bad = codes "bad"

-- what a manager is told
unfoldable pub shift_word : Shift → List ℕ
shift_word shift.Activate = codes "activate"
shift_word shift.Hold = codes "hold"
shift_word shift.Discard = codes "discard"
shift_word shift.Deactivate = codes "deactivate"

unfoldable pub pace_word : Pace → List ℕ
pace_word Now = codes "now"
pace_word Wait = codes "wait"

abbrev pub pace : Bool → Pace
pace true = Wait
pace false = Now

abbrev pub waits_of : Pace → Bool
waits_of Now = false
waits_of Wait = true

unfoldable pub end_word : End → List ℕ
end_word Keep = codes "keep"
end_word Etherealize = codes "etherealize"

abbrev pub ending : Bool → End
ending true = Etherealize
ending false = Keep

abbrev pub etherealizes_of : End → Bool
etherealizes_of Keep = false
etherealizes_of Etherealize = true

abbrev pub verbs : List Verb
verbs =
    verb.Manager ∷ verb.Create ∷ verb.Destroy ∷ verb.Activate ∷ verb.ActivateId ∷ verb.Deactivate ∷ verb.Reference ∷ verb.Preset
    ∷ verb.Forward ∷ verb.Unforward ∷ verb.Shutdown ∷ verb.Bad ∷ []

abbrev pub shifts : List Shift
shifts = shift.Activate ∷ shift.Hold ∷ shift.Discard ∷ shift.Deactivate ∷ []

abbrev pub paces : List Pace
paces = Now ∷ Wait ∷ []

abbrev pub ends : List End
ends = Keep ∷ Etherealize ∷ []
