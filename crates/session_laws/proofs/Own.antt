-- What an entry of the connection changes of what a history says of it.
use Rattle.std.proofs.Common.{◌≡◌, ℕ, List, [], ◌∷◌, ◌++◌, length, Some, refl, eq-eqb}
use Rattle.poa_base.specs.declared.Call.{Call}
use Rattle.poa_base.specs.declared.Entry.{Entry}
use Rattle.poa_base.specs.declared.Entry.TheVariants.{Entered, Arrive, Filled, Collect}
use Rattle.poa_history.specs.declared.Givens.{Givens}
use Rattle.poa_history.specs.Owners.{owner_of}
use Rattle.poa_history.specs.Leaving.{is_shut}
use Rattle.session_laws.specs.Records.{arrived_by, joined_by, reply_told, places_by, filling_by, is_late_by}

module _ (c : ℕ) (past : List Entry) where
  pub arrived_own : (size : ℕ) (call : Call) → arrived_by (Arrive c size call ∷ past) c ≡ arrived_by past c ++ record { call = call; size = size } ∷ []
  arrived_own size call = rw (eq-eqb c c refl) refl

  pub joined_own : (g : Givens) (r : ℕ) → joined_by g (Collect c r ∷ past) c ≡ joined_by g past c ++ reply_told g past r
  joined_own g r = rw (eq-eqb c c refl) refl

  pub filling_own : (size : ℕ) → filling_by (Filled c size ∷ past) c ≡ Some size
  filling_own size = rw (eq-eqb c c refl) refl

  pub late_own : is_late_by (Entered c ∷ past) c ≡ is_shut past
  late_own = rw (eq-eqb c c refl) refl

  pub places_own : (e : Entry) → owner_of e ≡ Some c → places_by (e ∷ past) c ≡ places_by past c ++ length past ∷ []
  places_own e own = rw own (rw (eq-eqb c c refl) refl)
