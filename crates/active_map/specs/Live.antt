-- The activations that aren't over.
use Rattle.std.specs.Prelude.{Bool, not, List, filter}
use Rattle.poa_base.specs.declared.Config.{Config}
use Rattle.history_standing.specs.declared.activation.Activation.{Activation}
use Rattle.history_standing.specs.Ends.{is_over}

abbrev pub is_live : Config → Activation → Bool
is_live c a = not (is_over c a)

-- those that aren't over, in the order of their begin
abbrev pub live : Config → List Activation → List Activation
live c activations = filter (is_live c) activations
