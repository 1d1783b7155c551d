-- What is printed of the activation that serves a call: its servant, and with which entry it began.
use Rattle.std.specs.Prelude.{ℕ, List, [], ◌++◌, codes, decimal, Option, Some, None}
use Rattle.journal_explain.specs.declared.Servant.{Servant}
use Rattle.journal_explain.specs.declared.Servant.TheVariants as servant
use Rattle.journal_explain.specs.declared.Service.{Service}

-- a configured servant has a name, and a fresh one has none
abbrev pub servant_text : Servant → List ℕ
servant_text (servant.Named name) = codes "the servant " ++ name
servant_text (servant.Fresh n) = codes "a fresh servant"

-- behind the number of the activation
abbrev pub of_servant : Option Servant → List ℕ
of_servant None = []
of_servant (Some s) = codes " of " ++ servant_text s

abbrev pub since_text : Option ℕ → List ℕ
since_text (Some entry) = codes ", begun with entry " ++ decimal entry
since_text None = codes ", one of the configuration's"

abbrev pub told_text : Service → List ℕ
told_text s = of_servant s.servant ++ since_text s.begun

abbrev pub service_text : Option Service → List ℕ
service_text None = []
service_text (Some s) = told_text s

-- what the servant activator brought
abbrev pub brought_text : Option Servant → List ℕ
brought_text None = codes "the servant activator brought none"
brought_text (Some s) = codes "the servant activator brought " ++ servant_text s
