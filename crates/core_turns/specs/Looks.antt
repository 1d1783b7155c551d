-- What a look at a request or a locate gives.
use Rattle.std.specs.Prelude.{ℕ}
use Rattle.poa_choose.specs.Table.{first_row}
use Rattle.poa_choose.specs.declared.Facts.{Facts}
use Rattle.poa_choose.specs.declared.Choice.TheVariants as choices
use Rattle.held_queue.specs.Blocks.{hold_for}
use Rattle.core_turns.specs.declared.looks.Look.{Look}
use Rattle.core_turns.specs.declared.looks.Look.TheVariants.{Go, Held}

-- its verdict by the table, or what the table's cause stands for
abbrev pub looked : Facts → ℕ → Look
looked f w = elim (first_row f w) [ choices.Go verdict ↦ Go verdict | choices.Held cause ↦ Held (hold_for f cause) ]
