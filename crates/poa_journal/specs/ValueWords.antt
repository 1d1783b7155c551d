-- The fixed words of calls, verdicts and outcomes, and those that stand alone at their place.
use Rattle.std.specs.Prelude.{ℕ, Bool, true, false, List, [], ◌∷◌, codes, Option, Some, None, if◌then◌else◌}
use Rattle.std.specs.Str.{bytes_eq}
use Rattle.poa_base.specs.declared.ExcName.{ExcName}
use Rattle.poa_journal.specs.declared.value_words.Raised.{Raised}
use Rattle.poa_base.specs.declared.ExcName.TheVariants as exception
use Rattle.poa_journal.specs.declared.value_words.CallKind.{CallKind}
use Rattle.poa_journal.specs.declared.value_words.CallKind.TheVariants as call
use Rattle.poa_journal.specs.declared.value_words.ByteOrder.{ByteOrder}
use Rattle.poa_journal.specs.declared.value_words.ByteOrder.TheVariants as order
use Rattle.poa_journal.specs.declared.value_words.Ruling.{Ruling}
use Rattle.poa_journal.specs.declared.value_words.Ruling.TheVariants as ruling
use Rattle.poa_journal.specs.declared.value_words.Trial.{Trial}
use Rattle.poa_journal.specs.declared.value_words.Trial.TheVariants as trial
use Rattle.poa_journal.specs.declared.value_words.Bringing.{Bringing}
use Rattle.poa_journal.specs.declared.value_words.Bringing.TheVariants as bringing
use Rattle.poa_journal.specs.declared.value_words.Mark.{Mark}
use Rattle.poa_journal.specs.declared.value_words.Mark.TheVariants as mark

unfoldable pub call_word : CallKind → List ℕ
call_word call.Request = codes "request"
call_word call.Locate = codes "locate"
call_word call.Line = codes "line"

abbrev pub calls : List CallKind
calls = call.Request ∷ call.Locate ∷ call.Line ∷ []

unfoldable pub order_word : ByteOrder → List ℕ
order_word order.Big = codes "big"
order_word order.Little = codes "little"

abbrev pub orders : List ByteOrder
orders = order.Big ∷ order.Little ∷ []

abbrev pub order_for : Bool → ByteOrder
order_for true = order.Little
order_for false = order.Big

abbrev pub is_little : ByteOrder → Bool
is_little order.Little = true
is_little order.Big = false

unfoldable pub ruling_word : Ruling → List ℕ
ruling_word ruling.Serve = codes "serve"
ruling_word ruling.Preset = codes "default"
ruling_word ruling.Locator = codes "locator"
ruling_word ruling.Incarnate = codes "incarnate"
ruling_word ruling.Try = codes "try"
ruling_word ruling.Refuse = codes "refuse"
ruling_word ruling.Forward = codes "forward"
ruling_word ruling.Addressing = codes "addressing"
ruling_word ruling.Here = codes "here"
ruling_word ruling.Unknown = codes "unknown"
ruling_word ruling.Answer = codes "answer"
ruling_word ruling.Wait = codes "wait"

abbrev pub rulings : List Ruling
rulings =
    ruling.Serve ∷ ruling.Preset ∷ ruling.Locator ∷ ruling.Incarnate ∷ ruling.Try ∷ ruling.Refuse ∷ ruling.Forward ∷ ruling.Addressing ∷
    ruling.Here ∷ ruling.Unknown ∷ ruling.Answer ∷ ruling.Wait ∷ []

unfoldable pub trial_word : Trial → List ℕ
trial_word trial.Yes = codes "yes"
trial_word trial.No = codes "no"
trial_word trial.Raised = codes "raised"
trial_word trial.Dying = codes "dying"

abbrev pub trials : List Trial
trials = trial.Yes ∷ trial.No ∷ trial.Raised ∷ trial.Dying ∷ []

unfoldable pub bringing_word : Bringing → List ℕ
bringing_word bringing.Fresh = codes "fresh"
bringing_word bringing.Named = codes "named"
bringing_word bringing.Double = codes "double"
bringing_word bringing.Forward = codes "forward"
bringing_word bringing.Raise = codes "raise"

abbrev pub bringings : List Bringing
bringings = bringing.Fresh ∷ bringing.Named ∷ bringing.Double ∷ bringing.Forward ∷ bringing.Raise ∷ []

unfoldable pub mark_word : Mark → List ℕ
mark_word mark.Journal = codes "journal"
mark_word mark.One = codes "1"
mark_word mark.Run = codes "run"
mark_word mark.Store = codes "store"
mark_word mark.Nothing = codes "-"

abbrev pub marks : List Mark
marks = mark.Journal ∷ mark.One ∷ mark.Run ∷ mark.Store ∷ mark.Nothing ∷ []

-- the standard names of system exceptions, CORBA 3.3 Part 1, Annex A
unfoldable pub exception_word : ExcName → List ℕ
exception_word exception.ObjectNotExist = codes "OBJECT_NOT_EXIST"
exception_word exception.Transient = codes "TRANSIENT"
exception_word exception.ObjAdapter = codes "OBJ_ADAPTER"
exception_word exception.BadOperation = codes "BAD_OPERATION"
exception_word exception.Marshal = codes "MARSHAL"
exception_word exception.Unknown = codes "UNKNOWN"

abbrev pub raised : ExcName → Raised
raised name = record { name = name }

abbrev pub exceptions : List Raised
exceptions =
    raised exception.ObjectNotExist ∷ raised exception.Transient ∷ raised exception.ObjAdapter ∷ raised exception.BadOperation ∷ raised
    exception.Marshal ∷ raised exception.Unknown ∷ []

-- the word that has to stand at a place
abbrev pub expected : Mark → List ℕ → Option (Unit {0})
expected m w = if bytes_eq (mark_word m) w then Some tt else None
