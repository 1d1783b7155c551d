-- What a connection is given.
use Rattle.std.specs.Prelude.{◌≡◌, ℕ, Option, Some, None}
use Rattle.poa_base.specs.declared.Entry.TheVariants.{Collect}
use Rattle.history_standing.specs.Arrivals.{call_of}
use Rattle.poa_history.specs.Fits.{FitsCall}
use Rattle.poa_history.specs.Life.{Life, with_entry, opened}
use Rattle.poa_history.specs.Replies.{next_reply}
use Rattle.core_outboxes.specs.declared.filed.Filed.{Filed}
use Rattle.core_outboxes.specs.Decided.{IsFiled}

-- a connection is given its next reply, which is one to a call of its kind, if it has one
abbrev pub Gives : ℕ → Life → Option Filed → Life → Type 0
Gives conn old (Some f) new =
    (next_reply old.config old.run old.history conn ≡ Some f.arrival) × IsFiled old.config old.run (opened old) old.history f
    × FitsCall (call_of old.history f.arrival) f.reply × (new ≡ with_entry (Collect conn f.arrival) old)
Gives conn old None new = (next_reply old.config old.run old.history conn ≡ None) × (new ≡ old)
