-- The numbers with which connections couldn't enter, and the least of them.
use Rattle.std.specs.Prelude.{ℕ, Bool, ◌&&◌, ◌||◌, ◌==◌, nat_lt, if◌then◌else◌, List, [], ◌∷◌, Option, Some, None}
use Rattle.poa_base.specs.declared.Session.{Session}
use Rattle.poa_base.specs.declared.SessionEnd.{SessionEnd}
use Rattle.poa_base.specs.declared.SessionEnd.TheVariants.{Limit}
use Rattle.poa_history.specs.declared.full.Full.{Full}
use Rattle.serve_run.specs.declared.received.Received.{Received}
use Rattle.serve_run.specs.declared.received.Received.TheVariants as received
use Rattle.serve_run.specs.Visits.{Visit}

abbrev pub refusal_by : Option ℕ → SessionEnd → Option Full
refusal_by None (Limit arrivals bytes) = Some (record { arrivals = arrivals; bytes = bytes })
refusal_by conn end = None

-- of a session without a connection that ended at a limit: the numbers that it told
abbrev pub refusal_of : Session → Option Full
refusal_of session = refusal_by session.conn session.end

-- fewer calls, or as many with fewer bytes
abbrev pub is_earlier : Full → Full → Bool
is_earlier one other = nat_lt one.arrivals other.arrivals || ((one.arrivals == other.arrivals) && nat_lt one.bytes other.bytes)

-- the less of two
abbrev pub earlier : Option Full → Option Full → Option Full
earlier (Some one) (Some other) = if is_earlier other one then Some other else Some one
earlier None other = other
earlier (Some one) None = Some one

-- the least of the sessions of these visits
abbrev pub least_refusal : {L : Type 0} → List (Visit L) → Option Full
least_refusal [] = None
least_refusal (x ∷ earlier_visits) = earlier (least_refusal earlier_visits) (refusal_of x.session)

abbrev pub noted : Option Full → Received → Option Full
noted so_far (received.Served session) = earlier so_far (refusal_of session)
noted so_far other = so_far
