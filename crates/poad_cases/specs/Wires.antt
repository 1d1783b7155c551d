-- What a connector in memory is seen as.
use Rattle.std.specs.Prelude.{ℕ, ◌-◌, List, length, map}
use Rattle.outside.specs.Connecting.{Calls, Dialed, Hung, Tally}
use Rattle.outside.specs.Link.{Shown}
use Rattle.poad_cases.specs.declared.next_link.Opening.{Opening}

pub record Wires : Type 0 where
  pub calls : Calls
  pub tally : Tally

-- the dial by which a link was opened, and how it came back
abbrev pub dialed : Opening → Dialed
dialed opening = record { endpoint = opening.dialed.value; text = opening.text.value.items }

abbrev pub hung : Shown → Hung
hung shown = record { left = shown.left; took = shown.held }

-- these links were opened, and these closed
abbrev pub calls_of : List Opening → List Shown → Calls
calls_of opened closed = record {
  opened = map dialed opened;
  closed = map hung closed;
  out = length opened - length closed;
}
