-- Facts whose fields are equal are equal.
use Rattle.std.proofs.Common.{◌≡◌, ℕ, Bool, List, Option}
use Rattle.poa_base.specs.declared.Endpoint.{Endpoint}
use Rattle.poa_base.specs.declared.ManagerState.{ManagerState}
use Rattle.poa_base.specs.declared.PolicySet.{PolicySet}
use Rattle.poa_choose.specs.declared.Facts.{Facts}
use Rattle.poa_choose.specs.declared.KeyFact.{KeyFact}
use Rattle.poa_choose.specs.declared.Located.{Located}
use Rattle.poa_choose.specs.declared.MapFact.{MapFact}
use Rattle.poa_choose.specs.declared.WalkFact.{WalkFact}

abbrev facts_with : Bool → Bool → KeyFact → WalkFact → ℕ → ℕ → ManagerState → Bool → Bool → Option Endpoint → Bool → Bool → PolicySet → Bool → MapFact → Bool
    → Option (List ℕ) → Bool → Bool → ℕ → Located → Facts
facts_with locate crowded key walk adapter manager state trial tries entry differs other_tag policies running slot bad_id preset ruled busy next located =
    record {
      locate = locate;
      crowded = crowded;
      key = key;
      walk = walk;
      adapter = adapter;
      manager = manager;
      state = state;
      trial = trial;
      tries = tries;
      entry = entry;
      differs = differs;
      other_tag = other_tag;
      policies = policies;
      running = running;
      slot = slot;
      bad_id = bad_id;
      preset = preset;
      rules = ruled;
      busy = busy;
      next = next;
      located = located;
    }

pub facts_same : (locate crowded : Bool) (key : KeyFact) {walk walk' : WalkFact} {adapter adapter' manager manager' : ℕ} {state state' : ManagerState}
    {trial trial' tries tries' : Bool} {entry entry' : Option Endpoint} {differs differs' other_tag other_tag' : Bool} {policies policies' : PolicySet}
    {running running' : Bool} {slot slot' : MapFact} {bad_id bad_id' : Bool} {preset preset' : Option (List ℕ)} {ruled ruled' busy busy' : Bool}
    {next next' : ℕ} {located located' : Located} → walk ≡ walk' → adapter ≡ adapter' → manager ≡ manager' → state ≡ state' → trial ≡ trial'
    → tries ≡ tries' → entry ≡ entry' → differs ≡ differs' → other_tag ≡ other_tag' → policies ≡ policies' → running ≡ running' → slot ≡ slot'
    → bad_id ≡ bad_id' → preset ≡ preset' → ruled ≡ ruled' → busy ≡ busy' → next ≡ next' → located ≡ located'
    → facts_with locate crowded key walk adapter manager state trial tries entry differs other_tag policies running slot bad_id preset ruled busy next located
    ≡ facts_with locate crowded key walk' adapter' manager' state' trial' tries' entry' differs' other_tag' policies' running' slot' bad_id' preset' ruled'
    busy' next' located'
facts_same locate crowded key is_walk is_adapter is_manager is_state is_trial is_tries is_entry is_differs is_other is_policies is_running is_slot is_bad
    is_preset is_ruled is_busy is_next is_located = cc
