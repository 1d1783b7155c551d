-- The fixed words of entries and of rows.
use Rattle.std.specs.Prelude.{ℕ, Bool, true, false, List, [], ◌∷◌, codes}
use Rattle.poa_journal.specs.declared.fixed.Kind.{Kind}
use Rattle.poa_journal.specs.declared.fixed.Kind.TheVariants as kind
use Rattle.poa_journal.specs.declared.fixed.Removal.{Removal}
use Rattle.poa_journal.specs.declared.fixed.Removal.TheVariants as removal
use Rattle.poa_journal.specs.declared.fixed.Flag.{Flag}
use Rattle.poa_journal.specs.declared.fixed.Flag.TheVariants as flag
use Rattle.poa_journal.specs.declared.fixed.Holding.{Holding}
use Rattle.poa_journal.specs.declared.fixed.Holding.TheVariants as holding

unfoldable pub kind_word : Kind → List ℕ
kind_word kind.Entered = codes "entered"
kind_word kind.Arrive = codes "arrive"
kind_word kind.Filled = codes "filled"
kind_word kind.Left = codes "left"
kind_word kind.Collect = codes "collect"
kind_word kind.Admit = codes "admit"
kind_word kind.Tried = codes "tried"
kind_word kind.Incarnated = codes "incarnated"
kind_word kind.Run = codes "run"
kind_word kind.Done = codes "done"
kind_word kind.TakeOut = codes "takeout"
kind_word kind.Etherealized = codes "etherealized"
kind_word kind.Abandon = codes "abandon"

abbrev pub kinds : List Kind
kinds = kind.Entered ∷ kind.Arrive ∷ kind.Filled ∷ kind.Left ∷ kind.Collect ∷ kind.Admit ∷ kind.Tried ∷ kind.Incarnated ∷ kind.Run ∷
    kind.Done ∷ kind.TakeOut ∷ kind.Etherealized ∷ kind.Abandon ∷ []

unfoldable pub removal_word : Removal → List ℕ
removal_word removal.Etherealize = codes "etherealize"
removal_word removal.Quiet = codes "quiet"

abbrev pub removals : List Removal
removals = removal.Etherealize ∷ removal.Quiet ∷ []

abbrev pub removal_for : Bool → Removal
removal_for true = removal.Etherealize
removal_for false = removal.Quiet

abbrev pub is_etherealizing : Removal → Bool
is_etherealizing removal.Etherealize = true
is_etherealizing removal.Quiet = false

unfoldable pub flag_word : Flag → List ℕ
flag_word flag.Yes = codes "yes"
flag_word flag.No = codes "no"

abbrev pub flags : List Flag
flags = flag.Yes ∷ flag.No ∷ []

abbrev pub flag_for : Bool → Flag
flag_for true = flag.Yes
flag_for false = flag.No

abbrev pub holds : Flag → Bool
holds flag.Yes = true
holds flag.No = false

unfoldable pub holding_word : Holding → List ℕ
holding_word holding.Register = codes "register"
holding_word holding.Log = codes "log"
holding_word holding.Echo = codes "echo"
holding_word holding.Fault = codes "fault"

abbrev pub holdings : List Holding
holdings = holding.Register ∷ holding.Log ∷ holding.Echo ∷ holding.Fault ∷ []
