-- Which policy it is.
use Rattle.std.specs.Prelude.{Bool, true, false}
use Rattle.poa_base.specs.declared.policy.Policy.{Policy}
use Rattle.poa_base.specs.declared.policy.Policy.TheVariants.{SingleThread, MainThread, Persistent, UniqueId, MultipleId, SystemId, Implicit, Retain, MapOnly, DefaultServant, ServantManager}

abbrev pub is_single_thread : Policy → Bool
is_single_thread SingleThread = true
is_single_thread _ = false

abbrev pub is_main_thread : Policy → Bool
is_main_thread MainThread = true
is_main_thread _ = false

abbrev pub is_persistent : Policy → Bool
is_persistent Persistent = true
is_persistent _ = false

abbrev pub is_unique_id : Policy → Bool
is_unique_id UniqueId = true
is_unique_id _ = false

abbrev pub is_multiple_id : Policy → Bool
is_multiple_id MultipleId = true
is_multiple_id _ = false

abbrev pub is_system_id : Policy → Bool
is_system_id SystemId = true
is_system_id _ = false

abbrev pub is_implicit : Policy → Bool
is_implicit Implicit = true
is_implicit _ = false

abbrev pub is_retain : Policy → Bool
is_retain Retain = true
is_retain _ = false

abbrev pub is_map_only : Policy → Bool
is_map_only MapOnly = true
is_map_only _ = false

abbrev pub is_default_servant : Policy → Bool
is_default_servant DefaultServant = true
is_default_servant _ = false

abbrev pub is_servant_manager : Policy → Bool
is_servant_manager ServantManager = true
is_servant_manager _ = false
