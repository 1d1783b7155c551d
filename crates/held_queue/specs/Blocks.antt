-- What blocks a request or a locate (CORBA 3.3 Part 1, sections 15.2.3 and 15.3).
use Rattle.std.specs.Prelude.{◌≡◌, ℕ, Bool, true, false, if◌then◌else◌, Option, Some, None, ◌⊎◌}
use Rattle.poa_base.specs.Policies.{is_single_thread, is_main_thread, is_retain}
use Rattle.poa_base.specs.declared.ManagerState.TheVariants.{Holding, Active as IsActive}
use Rattle.poa_base.specs.declared.Policy.TheVariants.{ServantManager}
use Rattle.poa_base.specs.declared.Cause.{Cause}
use Rattle.poa_base.specs.declared.Cause.TheVariants as causes
use Rattle.poa_choose.specs.Table.{awaits_turn, is_transient, unmade}
use Rattle.poa_choose.specs.declared.Facts.{Facts}
use Rattle.poa_choose.specs.declared.KeyFact.{KeyFact}
use Rattle.poa_choose.specs.declared.KeyFact.TheVariants.{Transient, Persistent}
use Rattle.poa_choose.specs.declared.MapFact.TheVariants.{Active, Busy}
use Rattle.poa_choose.specs.declared.WalkFact.TheVariants.{Found, Missing}
use Rattle.held_queue.specs.declared.hold.Hold.{Hold}
use Rattle.held_queue.specs.declared.hold.Hold.TheVariants.{Manager, Trial, Turn, Main, Id, Change}

-- the key is one of this run, or a persistent one
abbrev pub is_ours : KeyFact → Bool
is_ours Transient = true
is_ours Persistent = true
is_ours key = false

-- the call meets the adapter of its key
pub record MeetsAdapter (f : Facts) : Type 0 where
  pub uncrowded : f.crowded ≡ false
  pub ours : is_ours f.key ≡ true
  pub met : f.walk ≡ Found
  pub same : f.differs ≡ false
  pub own_tag : f.other_tag ≡ false

-- the call meets an adapter whose child is missing
pub record LacksChild (f : Facts) : Type 0 where
  pub uncrowded : f.crowded ≡ false
  pub ours : is_ours f.key ≡ true
  pub met : f.walk ≡ Missing
  pub lasting : is_transient f.key ≡ false

-- a request that takes its turn in the adapter, under SINGLE_THREAD_MODEL (section 15.3.8: the thread policy)
pub record TakesTurn (k : ℕ) (f : Facts) : Type 0 where
  pub adapter : MeetsAdapter f
  pub active : f.state ≡ IsActive
  pub request : f.locate ≡ false
  pub single : is_single_thread f.policies.thread ≡ true
  pub numbered : f.adapter ≡ k

-- a request for the first worker, under MAIN_THREAD_MODEL
pub record IsForMain (f : Facts) : Type 0 where
  pub adapter : MeetsAdapter f
  pub active : f.state ≡ IsActive
  pub request : f.locate ≡ false
  pub main : is_main_thread f.policies.thread ≡ true

-- the id is on its way into the active object map or out of it, by this activation (section 15.3.6: ServantActivator)
pub record MeetsBusy (n : ℕ) (f : Facts) : Type 0 where
  pub adapter : MeetsAdapter f
  pub active : f.state ≡ IsActive
  pub retains : is_retain f.policies.retention ≡ true
  pub busy : f.slot ≡ Busy n

-- the servant activator is to incarnate the id, and is still at another one (section 15.3.6)
pub record AwaitsChange (k : ℕ) (f : Facts) : Type 0 where
  pub adapter : MeetsAdapter f
  pub active : f.state ≡ IsActive
  pub request : f.locate ≡ false
  pub retains : is_retain f.policies.retention ≡ true
  pub inactive : (n : ℕ) → f.slot ≡ Active n → ⊥
  pub managed : f.policies.processing ≡ ServantManager
  pub made : unmade f ≡ false
  pub ruled : f.rules ≡ true
  pub busy : f.busy ≡ true
  pub numbered : f.adapter ≡ k

-- what blocks a call: it stands, whatever else may come to stand in the way too
abbrev pub Blocks : Facts → Hold → Type 0
Blocks f (Manager m) = (MeetsAdapter f ⊎ LacksChild f) × (f.state ≡ Holding) × (f.manager ≡ m)
Blocks f (Trial k) = LacksChild f × (f.state ≡ IsActive) × (f.trial ≡ true) × (f.adapter ≡ k)
Blocks f (Turn k) = TakesTurn k f × (f.running ≡ true)
Blocks f Main = IsForMain f
Blocks f (Id n) = MeetsBusy n f
Blocks f (Change k) = AwaitsChange k f

-- what the table's cause stands for
abbrev pub hold_for : Facts → Option Cause → Hold
hold_for f None = Main
hold_for f (Some (causes.Manager m)) = Manager m
hold_for f (Some (causes.Adapter k)) = if awaits_turn f then Turn k else Change k
hold_for f (Some (causes.Id k n)) = Id n
hold_for f (Some (causes.Trial k)) = Trial k
