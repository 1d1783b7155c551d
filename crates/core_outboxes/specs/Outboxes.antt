-- What the outboxes of connections hold.
use Rattle.std.specs.Prelude.{ℕ, ◌+◌, ◌<◌, Bool, true, ◌&&◌, ◌==◌, List, [], Some, None, slice_get, if◌then◌else◌}
use Rattle.std.specs.Option.{IsSomeAnd}
use Rattle.std.specs.VecDeque.{deque_len, deque_capacity}
use Rattle.core_outboxes.specs.declared.filed.Filed.{Filed}
use Rattle.core_outboxes.specs.declared.outbox.Outbox.{Outbox}

-- the decided replies of a connection that aren't collected; of one that asked nothing there are none
abbrev pub replies_at : List Outbox → ℕ → List Filed
replies_at boxes conn = elim (slice_get boxes conn) [ Some box ↦ box.replies.items | None ↦ [] ]

-- how many of its calls await a reply
abbrev pub awaited_at : List Outbox → ℕ → ℕ
awaited_at boxes conn = elim (slice_get boxes conn) [ Some box ↦ box.awaited | None ↦ 0 ]

-- there is room for the reply of one more call
abbrev pub HasRoomForOne : Outbox → Type 0
HasRoomForOne box = deque_len box.replies + box.awaited < deque_capacity box.replies

-- of this connection
abbrev pub HasRoomAt : List Outbox → ℕ → Type 0
HasRoomAt boxes conn = IsSomeAnd (slice_get boxes conn) HasRoomForOne

-- for how many replies the outbox of a connection has room
abbrev pub room_at : List Outbox → ℕ → ℕ
room_at boxes conn = elim (slice_get boxes conn) [ Some box ↦ deque_capacity box.replies | None ↦ 0 ]

-- its connection is owed nothing
abbrev pub is_idle : Outbox → Bool
is_idle box = (box.awaited == 0) && (deque_len box.replies == 0)

-- this connection is owed nothing
abbrev pub is_idle_at : List Outbox → ℕ → Bool
is_idle_at boxes conn = elim (slice_get boxes conn) [ Some box ↦ is_idle box | None ↦ true ]

-- the room that is left once a connection has given back its own: it does so where it is owed nothing
abbrev pub room_left : ℕ → List Outbox → ℕ → ℕ
room_left conn boxes n = if (conn == n) && is_idle_at boxes n then 0 else room_at boxes n
