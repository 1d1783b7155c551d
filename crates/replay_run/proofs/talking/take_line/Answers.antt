-- What a line of a script meets at its channel.
use Rattle.std.proofs.Common.{◌≡◌, ◌<◌, ℕ, Option, Some, List, length, slice_get, get_or, refl, subst}
use Rattle.std.proofs.lemmas.Option.{slice_get_read}
use Rattle.replay_run.specs.Talking.{Talks}
use Rattle.replay_run.specs.Keeping.{Keeps, Meets, talk}
use Rattle.replay_run.specs.declared.channel.Channel.{Channel}
use Rattle.replay_run.specs.declared.player.Player.{Player}
use Rattle.replay_run.proofs.Seats.{Seat, seat_met, moves_talked, keeps_line}
use Rattle.replay_run.proofs.Meeting.{line_told, line_refused, keeps_refused}
use Rattle.replay_run.proofs.talking.take_line.Goals as goal

-- the channel at the place, as it was read
read_at : (channels : List Channel) (place : ℕ) (channel : Channel) → place < length channels → channel ≡ get_or channels place channel
    → slice_get channels place ≡ Some channel
read_at channels place channel less is = slice_get_read channels (length channels) place channel refl less is

-- the seat that it has, where it met one
seat_at : (conn : ℕ) (met_by : Option ℕ) (channels : List Channel) (place : ℕ) (old mid : Player) (channel met : Channel) → Keeps old channels
    → slice_get channels place ≡ Some channel → met_by ≡ Some conn → Meets met_by old mid channel met → Seat conn channels place old mid met
seat_at conn met_by channels place old mid channel met keeps at is meets =
    seat_met conn channels place old mid channel met keeps at (subst (λ (o : Option ℕ). Meets o old mid channel met) is meets)

pub returns-in_default-2-clause-shows : goal.returns-in_default-2-clause-shows
returns-in_default-2-clause-shows c =
    line_refused (Talks c.args.line) c.args.place c.args.player.now c.args.channels.now.items c.meet.new.player c.in-Some.channel.now c.meet.new.self
    (read_at c.args.channels.now.items c.args.place c.in-Some.channel.now c.in-Some.ensures.item.3.0 c.in-Some.ensures.value)
    (subst (λ (o : Option ℕ). Meets o c.args.player.now c.meet.new.player c.in-Some.channel.now c.meet.new.self) c.in_default-2.is c.in_ok-conn.ensures)

pub returns-in_default-2-clause-keeps : goal.returns-in_default-2-clause-keeps
returns-in_default-2-clause-keeps c =
    keeps_refused c.args.player.now c.meet.new.player c.args.channels.now.items c.args.place c.in-Some.channel.now c.meet.new.self c.requires
    (read_at c.args.channels.now.items c.args.place c.in-Some.channel.now c.in-Some.ensures.item.3.0 c.in-Some.ensures.value)
    (subst (λ (o : Option ℕ). Meets o c.args.player.now c.meet.new.player c.in-Some.channel.now c.meet.new.self) c.in_default-2.is c.in_ok-conn.ensures)

pub talk-requires-clause-entered : goal.talk-requires-clause-entered
talk-requires-clause-entered c =
    (seat_at c.in-Some-2.conn _ c.args.channels.now.items c.args.place c.args.player.now c.meet.new.player c.in-Some.channel.now c.meet.new.self
    c.requires (read_at c.args.channels.now.items c.args.place c.in-Some.channel.now c.in-Some.ensures.item.3.0 c.in-Some.ensures.value) c.in-Some-2.is
    c.in_ok-conn.ensures).mine

pub talk-requires-clause-said : goal.talk-requires-clause-said
talk-requires-clause-said c =
    (seat_at c.in-Some-2.conn _ c.args.channels.now.items c.args.place c.args.player.now c.meet.new.player c.in-Some.channel.now c.meet.new.self
    c.requires (read_at c.args.channels.now.items c.args.place c.in-Some.channel.now c.in-Some.ensures.item.3.0 c.in-Some.ensures.value) c.in-Some-2.is
    c.in_ok-conn.ensures).said

pub talk-requires-clause-open_ : goal.talk-requires-clause-open_
talk-requires-clause-open_ c =
    let seat =
    seat_at c.in-Some-2.conn _ c.args.channels.now.items c.args.place c.args.player.now c.meet.new.player c.in-Some.channel.now c.meet.new.self
    c.requires (read_at c.args.channels.now.items c.args.place c.in-Some.channel.now c.in-Some.ensures.item.3.0 c.in-Some.ensures.value) c.in-Some-2.is
    c.in_ok-conn.ensures in
    λ staying. record { entered = seat.mine; staying = seat.own staying }

pub returns-clause-shows : goal.returns-clause-shows
returns-clause-shows c =
    line_told (Talks c.args.line) c.args.place c.args.player.now c.args.channels.now.items c.in-Some-2.conn c.meet.new.player c.talk.new.player
    c.in-Some.channel.now c.meet.new.self c.talk.new.self
    (read_at c.args.channels.now.items c.args.place c.in-Some.channel.now c.in-Some.ensures.item.3.0 c.in-Some.ensures.value)
    (subst (λ (o : Option ℕ). Meets o c.args.player.now c.meet.new.player c.in-Some.channel.now c.meet.new.self) c.in-Some-2.is c.in_ok-conn.ensures)
    c.in_ok-talk.ensures

pub returns-clause-keeps : goal.returns-clause-keeps
returns-clause-keeps c =
    let seat =
    seat_at c.in-Some-2.conn _ c.args.channels.now.items c.args.place c.args.player.now c.meet.new.player c.in-Some.channel.now c.meet.new.self
    c.requires (read_at c.args.channels.now.items c.args.place c.in-Some.channel.now c.in-Some.ensures.item.3.0 c.in-Some.ensures.value) c.in-Some-2.is
    c.in_ok-conn.ensures in
    let told = c.in_ok-talk.ensures in
    keeps_line c.in-Some-2.conn c.args.channels.now.items c.args.place c.args.player.now c.meet.new.player c.talk.new.player c.meet.new.self
    c.talk.new.self c.requires seat
    (moves_talked c.args.line c.in-Some-2.conn (talk c.meet.new.player c.meet.new.self) told.text (talk c.talk.new.player c.talk.new.self) told.does)
    (told.filled (seat.filled c.requires.filled))
