-- A connection enters, or leaves.
use Rattle.std.proofs.Common.{◌≡◌, ℕ, ◌+◌, ◌<◌, ◌≤◌, true, false, refl, sym, ◌∙◌, length, arith}
use Rattle.poa_base.specs.declared.Entry.{Entry}
use Rattle.poa_base.specs.declared.Entry.TheVariants.{Entered, Left}
use Rattle.poa_history.specs.Legal.{IsOpen}
use Rattle.core_arrivals.specs.Placed.{arrives}
use Rattle.poa_history.specs.Waiting.{may_queue}
use Rattle.core_arrivals.specs.Tallies.{HasRoomFor as HasRoomForTally}
use Rattle.journal_entries.specs.Rows.{is_brief}
use Rattle.core_run.specs.declared.inside.Inside.{Inside}
use Rattle.core_run.specs.Agrees.{history}
use Rattle.core_run.specs.Noting.{HasRoomForEntry, IsNoted}
use Rattle.core_run.specs.ToCome.{stay}
use Rattle.core_run.specs.Kept.{IsKept, IsReady}
use Rattle.core_run.proofs.Space.{stay_entered, stay_left, stay_open}
use Rattle.core_run.proofs.Keeping.{kept_then}

entered_one : (s s' : ℕ) → s' ≤ s + 1 → s' + 1 ≤ s + 2
entered_one s s' more = omega (arith, more)

pub entered_kept : (conn : ℕ) (old new : Inside) → IsReady old → IsNoted (Entered conn) old new → IsKept new
entered_kept conn old new ready noted =
    kept_then 2 (Entered conn) old new noted refl
    (entered_one (stay old.tables) (stay new.tables) (stay_entered (history old) conn old.tables new.tables ready.agrees.tables noted.tables)) ready.space

pub some_room : (l many s room : ℕ) → 1 ≤ s → l + (many + s) + 0 ≤ room → l < room
some_room l many s room some fits = omega (arith, some, fits)

-- an entry that fits into a row, and of which calls and queues keep nothing, needs no other room
pub brief_room : (e : Entry) (i : Inside) → is_brief e ≡ true → arrives e ≡ false → may_queue e ≡ false → HasRoomForTally e i.tables.tally
    → length i.entries.items < i.entries.capacity → HasRoomForEntry e i
brief_room e i brief apart unqueued tally some =
    record {
      entries = record { row = some; whole = λ is. absurd (let x : true ≡ false = sym brief ∙ is in cc) };
      calls = λ is. absurd (let x : false ≡ true = sym apart ∙ is in cc);
      queue = λ is. absurd (let x : false ≡ true = sym unqueued ∙ is in cc);
      held = λ is. absurd (let x : false ≡ true = sym unqueued ∙ is in cc);
      tally = tally;
    }

pub left_room : (conn : ℕ) (i : Inside) → IsKept i → IsOpen (history i) conn → HasRoomForEntry (Left conn) i
left_room conn i kept open_ =
    brief_room (Left conn) i refl refl refl tt
    (some_room (length i.entries.items) i.desk.due (stay i.tables) (i.entries.capacity)
    (stay_open (history i) conn i.tables open_ kept.agrees.tables) kept.space)

pub less_one : (s s' : ℕ) → s' + 1 ≡ s → s' + 1 ≤ s + 0
less_one s s' is = omega (arith, is)

pub left_kept : (conn : ℕ) (old new : Inside) → IsKept old → IsOpen (history old) conn → IsNoted (Left conn) old new → IsKept new
left_kept conn old new kept open_ noted =
    kept_then 0 (Left conn) old new noted refl
    (less_one (stay old.tables) (stay new.tables) (stay_left (history old) conn old.tables new.tables open_ kept.agrees.tables noted.tables)) kept.space
