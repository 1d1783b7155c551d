-- A request reaches the object of its key (CORBA 3.3 Part 1, section 15.2.6).
use Rattle.std.specs.Prelude.{◌≡◌, ◌<◌, ℕ, true, List, Some}
use Rattle.poa_base.specs.declared.Config.{Config}
use Rattle.poa_base.specs.declared.Entry.{Entry}
use Rattle.poa_base.specs.declared.Verdict.{Verdict}
use Rattle.poa_base.specs.declared.Verdict.TheVariants.{Serve, Incarnate}
use Rattle.poa_base.specs.declared.Key.{Key}
use Rattle.history_standing.specs.Trees.{In}
use Rattle.history_standing.specs.declared.activation.Activation.{Activation}
use Rattle.history_standing.specs.Arrivals.{arrivals, call_of}
use Rattle.history_standing.specs.Keys.{key_in}
use Rattle.history_standing.specs.Standings.{Standing}
use Rattle.history_standing.specs.Templates.{policies_at, retains, uses_servant_manager}
use Rattle.history_standing.specs.Changes.{standing}

-- the activation stands, with the path and the id of the key
pub record Reaches (s : Standing) (n : ℕ) (key : Key) : Type 0 where
  pub it : Activation
  pub there : In it s.activations
  pub number : it.number ≡ n
  pub path : it.path ≡ key.path
  pub oid : it.oid ≡ key.oid

-- it goes to the activation of its key, and to another servant only where the adapter has no servant activator
abbrev pub Fits : Config → Standing → Key → Verdict → Type 0
Fits c s key (Serve n) = Reaches s n key
Fits c s key (Incarnate n) = Reaches s n key
Fits c s key v = retains (policies_at c key.path) ≡ true → uses_servant_manager (policies_at c key.path) ≡ true → ⊥

-- a request that arrived has a key, and reaches its object
pub record IsKeyed (c : Config) (run : ℕ) (h : List Entry) (r : ℕ) (v : Verdict) : Type 0 where
  pub arrived : r < arrivals h
  pub key : Key
  pub has : key_in (call_of h r) ≡ Some key
  pub fits : Fits c (standing c run h) key v
