-- The command of a line's words, or the number of the first that is wrong.
use Rattle.std.specs.Prelude.{ℕ, ◌+◌, ◌^◌, List, Option, Result, Ok, Err}
use Rattle.poa_base.specs.declared.Command.{Command}
use Rattle.poa_base.specs.declared.Command.TheVariants.{Manager, Create, Destroy, Activate, ActivateId, Deactivate, Reference, Preset, Forward, Unforward, Shutdown, Bad}
use Rattle.poa_base.specs.declared.Order.{Order}
use Rattle.poa_base.specs.declared.Order.TheVariants as order
use Rattle.text_words.specs.Number.{number_of, port_of}
use Rattle.text_words.specs.Name.{name_of, host_of}
use Rattle.text_words.specs.Path.{path_of}
use Rattle.text_words.specs.Identity.{id_of, printed_id_of}
use Rattle.text_words.specs.Keyword.{named_in}
use Rattle.text_words.specs.Cuts.{loose_words_of}
use Rattle.admin_line.specs.declared.reading.Source.{Source}
use Rattle.admin_line.specs.declared.reading.Source.TheVariants.{Link, Journal}
use Rattle.admin_line.specs.declared.fixed.Verb.{Verb}
use Rattle.admin_line.specs.declared.fixed.Verb.TheVariants as verb
use Rattle.admin_line.specs.declared.fixed.Shift.{Shift}
use Rattle.admin_line.specs.declared.fixed.Shift.TheVariants as shift
use Rattle.admin_line.specs.declared.fixed.Pace.{Pace}
use Rattle.admin_line.specs.declared.fixed.End.{End}
use Rattle.admin_line.specs.Fixed.{verb_word, verbs, shift_word, shifts, pace_word, paces, waits_of, end_word, ends, etherealizes_of}
use Rattle.admin_line.specs.Place.{◌>>=◌, at, end}

abbrev pub verb_of : List ℕ → Option Verb
verb_of w = named_in verb_word verbs w

abbrev pub shift_of : List ℕ → Option Shift
shift_of w = named_in shift_word shifts w

abbrev pub pace_of : List ℕ → Option Pace
pace_of w = named_in pace_word paces w

abbrev pub end_of : List ℕ → Option End
end_of w = named_in end_word ends w

-- an object id in any spelling, or only as it is printed
abbrev pub spelled_id_of : Source → List ℕ → Option (List ℕ)
spelled_id_of Link w = id_of w
spelled_id_of Journal w = printed_id_of w

-- `now` or `wait` as the last word, at k
abbrev pub last_pace_of : ℕ → List (List ℕ) → Result Pace ℕ
last_pace_of k ws = do
  p ← at k pace_of ws
  end (k + 1) p.1 p.0

abbrev pub order_behind : Shift → List (List ℕ) → Result Order ℕ
order_behind shift.Activate ws = end 4 ws order.Activate
order_behind shift.Hold ws = do
  p ← last_pace_of 4 ws
  Ok (order.Hold (waits_of p))
order_behind shift.Discard ws = do
  p ← last_pace_of 4 ws
  Ok (order.Discard (waits_of p))
order_behind shift.Deactivate ws = do
  e ← at 4 end_of ws
  p ← last_pace_of 5 e.1
  Ok (order.Deactivate (etherealizes_of e.0) (waits_of p))

abbrev pub manager_of : List (List ℕ) → Result Command ℕ
manager_of ws = do
  m ← at 2 name_of ws
  s ← at 3 shift_of m.1
  o ← order_behind s.0 s.1
  Ok (Manager m.0 o)

abbrev pub destroy_of : List (List ℕ) → Result Command ℕ
destroy_of ws = do
  a ← at 2 path_of ws
  e ← at 3 end_of a.1
  p ← last_pace_of 4 e.1
  Ok (Destroy a.0 (etherealizes_of e.0) (waits_of p))

abbrev pub activate_id_of : Source → List (List ℕ) → Result Command ℕ
activate_id_of source ws = do
  a ← at 2 path_of ws
  i ← at 3 (spelled_id_of source) a.1
  s ← at 4 name_of i.1
  end 5 s.1 (ActivateId a.0 i.0 s.0)

abbrev pub deactivate_of : Source → List (List ℕ) → Result Command ℕ
deactivate_of source ws = do
  a ← at 2 path_of ws
  i ← at 3 (spelled_id_of source) a.1
  end 4 i.1 (Deactivate a.0 i.0)

abbrev pub forward_of : List (List ℕ) → Result Command ℕ
forward_of ws = do
  a ← at 2 path_of ws
  h ← at 3 host_of a.1
  n ← at 4 port_of h.1
  end 5 n.1 (Forward a.0 (record { host = h.0; port = n.0 }))

-- a command of a path alone
abbrev pub adapter_of : List (List ℕ) → Result (List (List ℕ)) ℕ
adapter_of ws = do
  a ← at 2 path_of ws
  end 3 a.1 a.0

-- a command of a path and a servant
abbrev pub served_of : List (List ℕ) → Result (List (List ℕ) × List ℕ) ℕ
served_of ws = do
  a ← at 2 path_of ws
  s ← at 3 name_of a.1
  end 4 s.1 (a.0, s.0)

-- the place of a wrong word, which stands in journals alone
abbrev pub bad_of : Source → List (List ℕ) → Result Command ℕ
bad_of Link ws = Err 1
bad_of Journal ws = do
  n ← at 2 (number_of (2 ^ 32)) ws
  end 3 n.1 (Bad n.0)

abbrev pub behind_verb : Source → Verb → List (List ℕ) → Result Command ℕ
behind_verb source verb.Manager ws = manager_of ws
behind_verb source verb.Create ws = do
  a ← adapter_of ws
  Ok (Create a)
behind_verb source verb.Destroy ws = destroy_of ws
behind_verb source verb.Activate ws = do
  s ← served_of ws
  Ok (Activate s.0 s.1)
behind_verb source verb.ActivateId ws = activate_id_of source ws
behind_verb source verb.Deactivate ws = deactivate_of source ws
behind_verb source verb.Reference ws = do
  s ← served_of ws
  Ok (Reference s.0 s.1)
behind_verb source verb.Preset ws = do
  s ← served_of ws
  Ok (Preset s.0 s.1)
behind_verb source verb.Forward ws = forward_of ws
behind_verb source verb.Unforward ws = do
  a ← adapter_of ws
  Ok (Unforward a)
behind_verb source verb.Shutdown ws = end 2 ws Shutdown
behind_verb source verb.Bad ws = bad_of source ws

-- the command of words
abbrev pub command_of : Source → List (List ℕ) → Result Command ℕ
command_of source ws = do
  v ← at 1 verb_of ws
  behind_verb source v.0 v.1

abbrev pub command_or_bad : Result Command ℕ → Command
command_or_bad (Ok command) = command
command_or_bad (Err k) = Bad k

-- the command of a line, a bad one with its first wrong word
abbrev pub command_of_line : List ℕ → Command
command_of_line line = command_or_bad (command_of Link (loose_words_of line))
