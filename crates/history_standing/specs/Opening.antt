-- What stands before the first entry: the root, the adapters created at opening and the configured objects.
use Rattle.std.specs.Prelude.{ℕ, suc, false, not, ◌&&◌, if◌then◌else◌, List, [], ◌∷◌, ◌++◌, length, Some, None}
use Rattle.std.specs.Int.{w32, to_be_bytes}
use Rattle.poa_base.specs.declared.Config.{Config}
use Rattle.poa_base.specs.declared.AdapterConf.{AdapterConf}
use Rattle.poa_base.specs.declared.ObjectConf.{ObjectConf}
use Rattle.poa_base.specs.declared.Sid.TheVariants.{Named}
use Rattle.history_standing.specs.declared.activation.Phase.{Phase}
use Rattle.history_standing.specs.declared.activation.Phase.TheVariants.{Complete}
use Rattle.history_standing.specs.Standings.{Standing}
use Rattle.history_standing.specs.Nodes.{node_at, created}
use Rattle.history_standing.specs.Paths.{is_root}

-- the adapter is created, and gets the next number
abbrev pub with_node : List (List ℕ) → Standing → Standing
with_node p s = record s { nodes = created s.count p s.nodes; count = suc s.count }

-- an activation is begun, and gets the next number
abbrev pub with_activation : ℕ → List (List ℕ) → List ℕ → Phase → Standing → Standing
with_activation k p oid phase s =
    record s {
      activations = s.activations ++ record {
        number = length s.activations;
        adapter = k;
        path = p;
        oid = oid;
        phase = phase;
        ending = false;
        quiet = false;
        out = false;
        cleanup = false;
        remaining = false;
        etherealized = false;
      } ∷ [];
    }

-- a system-made object id: the run and the next ordinal, from 1 on (CORBA 3.3 Part 1, section 15.2.1)
abbrev pub made_id : ℕ → ℕ → List ℕ
made_id run ordinal = to_be_bytes w32 run ++ to_be_bytes w32 ordinal

abbrev pub with_made : Standing → Standing
with_made s = record s { made = suc s.made }

-- the root alone
abbrev pub root_alone : Standing
root_alone = with_node [] (record { nodes = []; count = 0; made = 0; flights = []; activations = [] })

-- the adapters that are created at opening, in their configured order; the root's entry is none of them
abbrev pub with_boots : List AdapterConf → Standing → Standing
with_boots [] s = s
with_boots (a ∷ as') s = with_boots as' (if a.boot && not (is_root a.path) then with_node a.path s else s)

abbrev pub number_at : Standing → List (List ℕ) → ℕ
number_at s p = elim (node_at s.nodes p) [ Some n ↦ n.number | None ↦ 0 ]

-- the object is active by its configured servant, under its id or a system-made one
abbrev pub with_object : ℕ → ObjectConf → Standing → Standing
with_object run o s =
    elim o.oid [
      | Some oid ↦ with_activation (number_at s o.adapter) o.adapter oid (Complete (Named o.servant)) s
      | None ↦ with_activation (number_at s o.adapter) o.adapter (made_id run (suc s.made)) (Complete (Named o.servant)) (with_made s)
    ]

abbrev pub with_objects : ℕ → List ObjectConf → Standing → Standing
with_objects run [] s = s
with_objects run (o ∷ os) s = with_objects run os (with_object run o s)

abbrev pub opening : Config → ℕ → Standing
opening c run = with_objects run c.objects (with_boots c.adapters root_alone)
