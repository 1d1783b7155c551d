-- Only an activation that is ending and in the map is to be taken out.
use Rattle.std.specs.Prelude.{◌≡◌, true, not, ◌&&◌}
use Rattle.std.proofs.lemmas.Bool.{and_from, and_parts}
use Rattle.poa_base.specs.declared.Config.{Config}
use Rattle.history_standing.specs.declared.activation.Activation.{Activation}
use Rattle.history_standing.specs.Standings.{Standing, is_complete, is_ending, is_void}
use Rattle.history_standing.specs.Templates.{has_activator}
use Rattle.poa_history.specs.Turns.{is_due}
use Rattle.active_map.specs.Tables.{is_leaving}

pub due_leaves : (c : Config) (s : Standing) (a : Activation) → is_due c s a ≡ true → is_leaving a ≡ true
due_leaves c s a due =
    (let told = and_parts (is_complete a && (is_ending a && (has_activator c a.path && not a.out))) _ due in
    let parts = and_parts (is_ending a) (has_activator c a.path && not a.out) (and_parts (is_complete a) _ told.0).1 in
    and_from a.ending (not a.out) (and_parts a.ending (not (is_void a)) parts.0).0 (and_parts (has_activator c a.path) (not a.out) parts.1).1)
