-- Which replies fit a call.
use Rattle.std.specs.Prelude.{◌≡◌, Bool, true, false, Option, Some, None}
use Rattle.poa_base.specs.declared.Call.{Call}
use Rattle.poa_base.specs.declared.Call.TheVariants.{Request, Locate, Line}
use Rattle.poa_base.specs.declared.Reply.{Reply}
use Rattle.poa_base.specs.declared.Reply.TheVariants.{Outcome, Forward, Addressing, Here, UnknownObject, Answer}

-- how the operation ended, or that it is to be asked elsewhere or otherwise
abbrev pub fits_request : Reply → Bool
fits_request (Outcome outcome) = true
fits_request (Forward endpoint key) = true
fits_request Addressing = true
fits_request reply = false

-- whether the object is here, or that it is to be asked elsewhere or otherwise
abbrev pub fits_locate : Reply → Bool
fits_locate Here = true
fits_locate UnknownObject = true
fits_locate (Forward endpoint key) = true
fits_locate Addressing = true
fits_locate reply = false

abbrev pub fits_line : Reply → Bool
fits_line (Answer number answer) = true
fits_line reply = false

-- there is such a call, and the reply is one to a call of its kind
abbrev pub fits : Option Call → Reply → Bool
fits (Some (Request head target operation body)) reply = fits_request reply
fits (Some (Locate head target)) reply = fits_locate reply
fits (Some (Line number command)) reply = fits_line reply
fits None reply = false

abbrev pub FitsCall : Option Call → Reply → Type 0
FitsCall call reply = fits call reply ≡ true
