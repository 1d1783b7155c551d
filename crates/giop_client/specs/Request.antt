-- What a client asks.
use Rattle.std.specs.Prelude.{ℕ, true, false, List, Option}
use Rattle.poa_base.specs.declared.Ask.{Ask}
use Rattle.poa_base.specs.declared.Datum.{Datum}
use Rattle.giop_client.specs.declared.request.TheConstants.{WITH_TARGET}
use Rattle.giop_client.specs.declared.target.Target.{Target}

-- the request of this number to the target: little-endian, in the version that is spoken with it, and answered with all
-- that comes of it
abbrev pub ask_of : Target → List ℕ → Option Datum → ℕ → Ask
ask_of target operation argument number = record {
  head = record { id = number; minor = target.minor; little = true; flags = WITH_TARGET; locate = false };
  key = target.key;
  operation = operation;
  argument = argument;
}
