-- What stands, as the definitions see it.
use Rattle.std.specs.Prelude.{ℕ, zero, suc, true, false, List, [], ◌∷◌}
use Rattle.history_standing.specs.declared.activation.Activation.{Activation}
use Rattle.history_standing.specs.declared.activation.Phase.TheVariants.{Void}
use Rattle.core_standing.specs.declared.standing.Standing.{Standing as Held}
use Rattle.history_standing.specs.Standings.{Standing}

-- an activation that is over, of which no more is known: no question finds it, no entry changes it, and no number is its
abbrev pub forgotten : Activation
forgotten =
    record {
      number = 4294967296;
      adapter = 0;
      path = [];
      oid = [];
      phase = Void;
      ending = true;
      quiet = true;
      out = true;
      cleanup = true;
      remaining = false;
      etherealized = true;
    }

-- so many that are forgotten, and those that are kept
abbrev pub behind : ℕ → List Activation → List Activation
behind zero kept = kept
behind (suc n) kept = forgotten ∷ behind n kept

abbrev pub seen : Held → Standing
seen s =
    record {
      nodes = s.nodes.items;
      count = s.count;
      made = s.made;
      flights = s.flights.items;
      activations = behind s.activations.forgotten s.activations.kept;
    }
