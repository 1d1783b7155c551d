-- When an activation is over, and when an adapter is gone.
use Rattle.std.specs.Prelude.{ℕ, Bool, true, not, ◌&&◌, ◌||◌, ◌==◌, nat_lt, if◌then◌else◌, List, map, filter, find, Some, None}
use Rattle.std.specs.List.{list_any}
use Rattle.poa_base.specs.declared.Config.{Config}
use Rattle.history_standing.specs.declared.node.Node.{Node}
use Rattle.history_standing.specs.declared.activation.Activation.{Activation}
use Rattle.history_standing.specs.Templates.{has_activator}
use Rattle.history_standing.specs.Standings.{Standing, is_complete, is_void, is_ending, is_used}
use Rattle.history_standing.specs.Nodes.{stands_under}
use Rattle.history_standing.specs.Paths.{is_root}

-- out of the map, and etherealized where that is due
abbrev pub is_finished : Config → Activation → Bool
is_finished c a = a.out && (a.quiet || (not (has_activator c a.path) || a.etherealized))

-- it holds its id no longer
abbrev pub is_over : Config → Activation → Bool
is_over c a = is_void a || is_finished c a

-- without a servant activator an activation is out as soon as it is complete and ending and nothing is in flight in it
abbrev pub is_left : Config → Standing → Activation → Bool
is_left c s a = not (has_activator c a.path) && (is_complete a && (is_ending a && not (is_used s.flights a.number)))

abbrev pub let_out : Config → Standing → Activation → Activation
let_out c s a = if is_left c s a then record a { out = true } else a

-- nothing is in flight at the path or below it, and its activations are over
abbrev pub is_clear : Config → Standing → List (List ℕ) → Bool
is_clear c s p =
    not (list_any (λ f. stands_under s.nodes p f.adapter) s.flights) && not
    (list_any (λ a. not (is_over c a) && stands_under s.nodes p a.adapter) s.activations)

-- being destroyed, with nothing left to end in it or below it
abbrev pub is_done_with : Config → Standing → Node → Bool
is_done_with c s n = n.dying && is_clear c s n.path

-- after each entry those that have ended go; the root alone stays
abbrev pub without_ended : Config → Standing → Standing
without_ended c s = record s { nodes = filter (λ n. is_root n.path || not (is_done_with c s n)) s.nodes }

abbrev pub settled : Config → Standing → Standing
settled c s = without_ended c (record s { activations = map (let_out c s) s.activations })

-- the adapter of this number was created and is gone
abbrev pub is_gone : Config → Standing → ℕ → Bool
is_gone c s k = nat_lt k s.count && (elim (find (λ n. n.number == k) s.nodes) [ Some n ↦ is_done_with c s n | None ↦ true ])
