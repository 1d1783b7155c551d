-- When an activation is out of the active object map, in plain words.
use Rattle.std.specs.Prelude.{ℕ, Bool, false, not, ◌&&◌, ◌||◌, ◌==◌, List, [], ◌∷◌}
use Rattle.poa_base.specs.declared.Entry.{Entry}
use Rattle.poa_base.specs.declared.Entry.TheVariants.{TakeOut}
use Rattle.history_standing.specs.declared.activation.Activation.{Activation}
use Rattle.history_standing.specs.Standings.{Standing, is_complete, is_ending, is_used}

-- an entry took out the activation of this number
abbrev pub was_taken : List Entry → ℕ → Bool
was_taken [] n = false
was_taken (TakeOut w m etherealize ∷ past) n = (m == n) || was_taken past n
was_taken (e ∷ past) n = was_taken past n

-- it has a servant, is ending, and nothing is in flight in it
abbrev pub has_run_out : Standing → Activation → Bool
has_run_out s a = is_complete a && (is_ending a && not (is_used s.flights a.number))
