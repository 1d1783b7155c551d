-- The fixed words of answers.
use Rattle.std.specs.Prelude.{ℕ, List, [], ◌∷◌, codes}
use Rattle.admin_line.specs.declared.fixed_answer.Success.{Success}
use Rattle.admin_line.specs.declared.fixed_answer.Success.TheVariants as success
use Rattle.admin_line.specs.declared.fixed_answer.Objection.{Objection}
use Rattle.admin_line.specs.declared.fixed_answer.Objection.TheVariants as objection

unfoldable pub success_word : Success → List ℕ
success_word success.Ok = codes "ok"
success_word success.No = codes "no"

-- the reasons against a command
unfoldable pub objection_word : Objection → List ℕ
objection_word objection.NoManager = codes "NoManager"
objection_word objection.AdapterInactive = codes "AdapterInactive"
objection_word objection.AdapterNonExistent = codes "AdapterNonExistent"
objection_word objection.NoTemplate = codes "NoTemplate"
objection_word objection.AdapterAlreadyExists = codes "AdapterAlreadyExists"
objection_word objection.TooMany = codes "TooMany"
objection_word objection.WrongPolicy = codes "WrongPolicy"
objection_word objection.NoServant = codes "NoServant"
objection_word objection.ServantAlreadyActive = codes "ServantAlreadyActive"
objection_word objection.BadId = codes "BadId"
objection_word objection.ObjectAlreadyActive = codes "ObjectAlreadyActive"
objection_word objection.ObjectNotActive = codes "ObjectNotActive"
objection_word objection.ServantNotActive = codes "ServantNotActive"
objection_word objection.NoForward = codes "NoForward"
objection_word objection.BadWord = codes "BadWord"

abbrev pub successes : List Success
successes = success.Ok ∷ success.No ∷ []

abbrev pub objections : List Objection
objections =
    objection.NoManager ∷ objection.AdapterInactive ∷ objection.AdapterNonExistent ∷ objection.NoTemplate ∷ objection.AdapterAlreadyExists
    ∷ objection.TooMany ∷ objection.WrongPolicy ∷ objection.NoServant ∷ objection.ServantAlreadyActive ∷ objection.BadId
    ∷ objection.ObjectAlreadyActive ∷ objection.ObjectNotActive ∷ objection.ServantNotActive ∷ objection.NoForward ∷ objection.BadWord ∷ []
