-- The way along a key's path.
use Rattle.std.specs.Prelude.{◌≡◌, ℕ, List}
use Rattle.poa_base.specs.declared.Config.{Config}
use Rattle.history_standing.specs.Templates.{template_or_root}
use Rattle.history_standing.specs.Walks.{place_met}
use Rattle.history_standing.specs.declared.found.Found.{Found}
use Rattle.core_turns.specs.Templates.{IsTemplate}
use Rattle.core_turns.specs.declared.facts.Way.{Way}

-- it is that of the path, and has its template and that of the adapter that the walk meets
pub record IsWay (c : Config) (p : List (List ℕ)) (meets : Found) (way : Way) : Type 0 where
  pub path : way.path.now ≡ p
  pub found : way.found ≡ meets
  pub own : IsTemplate (template_or_root c p) way.own
  pub met : IsTemplate (template_or_root c (place_met meets p)) way.met
