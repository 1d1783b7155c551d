-- What `call` does: a call of an object, and what is printed of its end.
use Rattle.std.specs.Prelude.{◌≡◌, ℕ, List, ◌++◌, Option, take, ◌⊎◌, ⊤}
use Rattle.poa_base.specs.declared.Ior.{Ior}
use Rattle.outside.specs.Cause.{Rose}
use Rattle.outside.specs.Connecting.{Calls, Tally}
use Rattle.outside.specs.Told.{IfTold}
use Rattle.command_words.specs.declared.result_kind.ResultKind.{ResultKind}
use Rattle.giop_client.specs.declared.call_end.CallEnd.{CallEnd}
use Rattle.giop_client.specs.declared.followed.Followed.{Followed}
use Rattle.giop_client.specs.Journey.{Follows}
use Rattle.poad_files.specs.Referring.{Refers, RefersNot}
use Rattle.poad_files.specs.Showing.{GainsNothing}
use Rattle.poad_files.specs.declared.status.Status.{Status}
use Rattle.poad_files.specs.declared.status.Status.TheVariants.{Ok, ReadFault, WriteFault, ConnectFault, NoAnswer}
use Rattle.poad_call.specs.Asking.{Asked}
use Rattle.poad_call.specs.Line.{IsLine, HasNoLine}

-- the end has a line, which the sink gained so
pub record PrintsLine (kind : ResultKind) (ended : CallEnd) (held_old held_new : Option (List ℕ))
    (Gains : List ℕ → List ℕ → List ℕ → Type 0) : Type 0 where
  pub line : List ℕ
  pub is_line : IsLine kind ended line
  pub gave : IfTold held_old held_new (Gains line)

-- the end's line is printed, or else nothing; a fault of the sink leaves a front of the line
abbrev pub Tells : ResultKind → CallEnd → Status → Option (List ℕ) → Option (List ℕ) → Type 0
Tells kind ended Ok held_old held_new = PrintsLine kind ended held_old held_new (λ line old new. new ≡ old ++ line)
Tells kind ended WriteFault held_old held_new =
    PrintsLine kind ended held_old held_new (λ line old new. (n : ℕ) × (new ≡ old ++ take n line))
    ⊎ (HasNoLine kind ended WriteFault × GainsNothing held_old held_new)
Tells kind ended other held_old held_new = HasNoLine kind ended other × GainsNothing held_old held_new

-- the text refers to an object, which was called along the forwards that it was answered with, and the end was told
pub record IsCalled (asked : Asked) (status : Status) (calls_old calls_new : Option Calls) (held_old held_new : Option (List ℕ)) : Type 0 where
  pub ior : Ior
  pub refers : Refers asked.call.reference ior
  pub followed : Followed
  pub follows : IfTold calls_old calls_new (Follows asked.call.operation asked.argument asked.call.hops ior followed)
  pub tells : Tells asked.call.kind followed.end status held_old held_new

-- or the text doesn't refer: then the connector stays as it was, and nothing is printed
pub record IsUncalled (asked : Asked) (status : Status) (IsStill : Type 0) (held_old held_new : Option (List ℕ)) : Type 0 where
  pub refers_not : RefersNot asked.call.reference status
  pub still : IsStill
  pub silent : GainsNothing held_old held_new

abbrev pub CallGives : Asked → Status → Type 0 → Option Calls → Option Calls → Option (List ℕ) → Option (List ℕ) → Type 0
CallGives asked status IsStill calls_old calls_new held_old held_new =
    IsUncalled asked status IsStill held_old held_new ⊎ IsCalled asked status calls_old calls_new held_old held_new

-- a fault is told only where the count of it rose: the connector's, or for a write that of the sink, whose counts are the last two
abbrev pub BlamesStatus : Status → Tally → Tally → ℕ → ℕ → Type 0
BlamesStatus ConnectFault old new sink_old sink_new = Rose old.dial_faults new.dial_faults
BlamesStatus ReadFault old new sink_old sink_new = Rose old.read_faults new.read_faults
BlamesStatus WriteFault old new sink_old sink_new = Rose old.write_faults new.write_faults ⊎ Rose sink_old sink_new
BlamesStatus (NoAnswer quiets) old new sink_old sink_new = Rose old.quiets new.quiets
BlamesStatus other old new sink_old sink_new = ⊤
