-- System exceptions: CORBA 3.3 Part 1, A.5, and Part 2, 9.4.3.2.
use Rattle.std.specs.Prelude.{ℕ, List, [], ◌∷◌, codes}
use Rattle.cdr_core.specs.Field.{Field, ulong, text}
use Rattle.poa_base.specs.declared.ExcName.{ExcName}
use Rattle.poa_base.specs.declared.ExcName.TheVariants.{ObjectNotExist, Transient, ObjAdapter, BadOperation, Marshal, Unknown}
use Rattle.poa_base.specs.declared.SysExc.{SysExc}
use Rattle.poa_base.specs.declared.Completion.{Completion}
use Rattle.poa_base.specs.declared.Completion.TheVariants.{Yes, No, Maybe}
use Rattle.poa_base.specs.Minors.{completion_of}
use Rattle.giop_answer.specs.declared.exception.TheConstants.{COMPLETED_YES, COMPLETED_NO, COMPLETED_MAYBE}

-- the repository id of an exception
abbrev pub exception_id : ExcName → List ℕ
exception_id ObjectNotExist = codes "IDL:omg.org/CORBA/OBJECT_NOT_EXIST:1.0"
exception_id Transient = codes "IDL:omg.org/CORBA/TRANSIENT:1.0"
exception_id ObjAdapter = codes "IDL:omg.org/CORBA/OBJ_ADAPTER:1.0"
exception_id BadOperation = codes "IDL:omg.org/CORBA/BAD_OPERATION:1.0"
exception_id Marshal = codes "IDL:omg.org/CORBA/MARSHAL:1.0"
exception_id Unknown = codes "IDL:omg.org/CORBA/UNKNOWN:1.0"

-- the number of a completion status
abbrev pub completion_number : Completion → ℕ
completion_number Yes = COMPLETED_YES
completion_number No = COMPLETED_NO
completion_number Maybe = COMPLETED_MAYBE

-- the body of a system exception: the completion that is told follows from the minor code alone
abbrev pub exception_fields : SysExc → List Field
exception_fields raised =
    text (exception_id raised.name) ∷ ulong raised.minor ∷ ulong (completion_number (completion_of raised.minor)) ∷ []
