-- What a view counts for, and the view after each step.
use Rattle.std.specs.Prelude.{ℕ, ◌+◌, ◌-◌, List, [], ◌++◌, length, cond, ltb, Some, None}
use Rattle.seat_lock.specs.declared.view.Stage.{Stage}
use Rattle.seat_lock.specs.declared.view.Stage.TheVariants.{Idle, Waiting, Turn, Spent}
use Rattle.seat_lock.specs.declared.view.View.{View}
use Rattle.seat_lock.specs.Histories.{made_by}

-- 1 but for a seat that was joined into another
abbrev pub in_use : Stage → ℕ
in_use Idle = 1
in_use Waiting = 1
in_use Turn = 1
in_use Spent = 0

-- 1 where the seat holds a ticket
abbrev pub holding : Stage → ℕ
holding Idle = 0
holding Waiting = 1
holding Turn = 1
holding Spent = 0

-- the longer of two histories, and the shorter one
abbrev pub longer : {E : Type 0} → List E → List E → List E
longer a b = cond (ltb (length a) (length b)) b a

abbrev pub shorter : {E : Type 0} → List E → List E → List E
shorter a b = cond (ltb (length a) (length b)) a b

module _ {G E : Type 0} where
  abbrev pub tickets : View G E → ℕ
  tickets v = holding v.stage

  -- the seats that the view stands for: itself, and those that it can still split off
  abbrev pub weight : View G E → ℕ
  weight v = in_use v.stage + v.room

  -- the first seat
  abbrev pub first_view : G → List E → View G E
  first_view g h = record { stage = Idle; ticket = 0; kept = []; givens = Some g; base = length h; seen = h; mine = []; room = 1024 }

  -- with the ticket n
  abbrev pub drawn : View G E → ℕ → View G E
  drawn v n =
      record { stage = Waiting; ticket = n; kept = v.kept; givens = v.givens; base = v.base; seen = v.seen; mine = v.mine; room = v.room }

  -- with the ticket n served, and the history h taken
  abbrev pub turned_to : View G E → ℕ → List E → View G E
  turned_to v n h =
      record { stage = Turn; ticket = n; kept = h; givens = v.givens; base = v.base; seen = v.seen; mine = v.mine; room = v.room }

  -- with the history h put back
  abbrev pub passed_on : View G E → List E → View G E
  passed_on v h =
      record {
        stage = Idle;
        ticket = 0;
        kept = [];
        givens = v.givens;
        base = v.base;
        seen = h;
        mine = made_by v.mine v.kept h;
        room = v.room;
      }

  -- with a seat split off, and that seat
  abbrev pub left_of : View G E → View G E
  left_of v =
      record {
        stage = v.stage;
        ticket = v.ticket;
        kept = v.kept;
        givens = v.givens;
        base = v.base;
        seen = v.seen;
        mine = v.mine;
        room = v.room - 1;
      }

  abbrev pub right_of : View G E → View G E
  right_of v = record { stage = Idle; ticket = 0; kept = []; givens = v.givens; base = v.base; seen = v.seen; mine = []; room = 0 }

  -- with another seat joined in; what is kept is the shorter history until the next step
  abbrev pub both_of : View G E → View G E → View G E
  both_of v w =
      record {
        stage = Idle;
        ticket = 0;
        kept = shorter v.seen w.seen;
        givens = v.givens;
        base = v.base;
        seen = longer v.seen w.seen;
        mine = v.mine ++ w.mine;
        room = v.room + w.room + 1;
      }

  -- with no history kept
  abbrev pub settled : View G E → View G E
  settled v =
      record {
        stage = v.stage;
        ticket = v.ticket;
        kept = [];
        givens = v.givens;
        base = v.base;
        seen = v.seen;
        mine = v.mine;
        room = v.room;
      }

  -- with another seat joined in
  abbrev pub joined_view : View G E → View G E → View G E
  joined_view v w =
      record {
        stage = Idle;
        ticket = 0;
        kept = [];
        givens = v.givens;
        base = v.base;
        seen = longer v.seen w.seen;
        mine = v.mine ++ w.mine;
        room = v.room + w.room + 1;
      }

  -- the seat that was joined into another
  abbrev pub spent_view : View G E
  spent_view = record { stage = Spent; ticket = 0; kept = []; givens = None; base = 0; seen = []; mine = []; room = 0 }
