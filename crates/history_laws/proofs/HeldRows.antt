-- Where nothing is in flight or changing, the table of verdicts holds nothing but what a manager in the state HOLDING holds.
use Rattle.poa_base.specs.Policies.{is_main_thread, is_retain, is_single_thread}
use Rattle.poa_base.specs.declared.Cause.TheVariants.{Adapter, Manager as ManagerCause, Trial}
use Rattle.poa_base.specs.declared.Endpoint.{Endpoint}
use Rattle.poa_base.specs.declared.ExcName.{ExcName}
use Rattle.poa_base.specs.declared.ExcName.TheVariants.{ObjAdapter, ObjectNotExist, Transient as Transiently}
use Rattle.poa_base.specs.declared.ManagerState.{ManagerState}
use Rattle.poa_base.specs.declared.ManagerState.TheVariants.{Active, Discarding, Holding, Inactive}
use Rattle.poa_base.specs.declared.Policy.{Policy}
use Rattle.poa_base.specs.declared.Policy.TheVariants.{DefaultServant, ServantManager}
use Rattle.poa_base.specs.declared.Verdict.TheVariants.{Addressing, Here, Incarnate, Try}
use Rattle.poa_base.specs.declared.minors.TheConstants.{ADAPTER_DYING, BAD_KEY, DISCARDED, MANAGER_INACTIVE, NOT_ACTIVE, NO_ADAPTER, NO_SERVANT_MANAGER, OTHER_LIFESPAN, OTHER_TAG}
use Rattle.poa_choose.specs.Table.{activator_rows, awaits_main, awaits_turn, default_rows, first_row, forward_or, found_rows, inactive_rule, is_transient, key_rows, located_rows, locator_rows, manager_rows, map_rows, missing_rows, object_rows, processing_rows, refuse, state_rule, tag_rows, thread_rows, trial_rows, unmade, walk_rows}
use Rattle.poa_choose.specs.declared.Choice.{Choice}
use Rattle.poa_choose.specs.declared.Choice.TheVariants.{Go, Held}
use Rattle.poa_choose.specs.declared.Facts.{Facts}
use Rattle.poa_choose.specs.declared.KeyFact.{KeyFact}
use Rattle.poa_choose.specs.declared.KeyFact.TheVariants.{Absent, Bad as BadKey, OtherRun, Persistent, Transient}
use Rattle.poa_choose.specs.declared.Located.{Located}
use Rattle.poa_choose.specs.declared.Located.TheVariants.{Forward as ByForward, NoRule, Raise as ByRaise, Servant as ByServant}
use Rattle.poa_choose.specs.declared.MapFact.{MapFact}
use Rattle.poa_choose.specs.declared.MapFact.TheVariants.{Active as ActiveAs, Busy, Free as FreeSlot}
use Rattle.poa_choose.specs.declared.WalkFact.{WalkFact}
use Rattle.poa_choose.specs.declared.WalkFact.TheVariants.{Dying as MeetsDying, Found as MeetsAdapter, Missing as MeetsMissing}
use Rattle.std.proofs.Common.{◌∙◌, sym}
use Rattle.std.proofs.lemmas.Bool.{cond_both, true≢false}
use Rattle.std.specs.Prelude.{◌&&◌, ◌≡◌, Bool, List, None, Option, Some, false, if◌then◌else◌, not, refl, true, ℕ}

abbrev pub is_held : Choice → Bool
is_held (Held cause) = true
is_held (Go v) = false

abbrev pub is_busy_slot : MapFact → Bool
is_busy_slot (Busy n) = true
is_busy_slot slot = false

-- nothing is in flight or changing
pub record IsFreed (f : Facts) : Type 0 where
  pub untried : f.trial ≡ false
  pub still : f.running ≡ false
  pub settled_slot : is_busy_slot f.slot ≡ false
  pub idle : f.busy ≡ false

pub third_false : (x y z : Bool) → z ≡ false → (x && (y && z)) ≡ false
third_false true true z is = is
third_false true false z is = refl
third_false false y z is = refl

module _ (f : Facts) where
  abbrev Goes : Choice → Type 0
  Goes choice = is_held choice ≡ false

  pub forward_goes : (entry : Option Endpoint) (name : ExcName) (minor : ℕ) → Goes (forward_or entry (refuse f name minor))
  forward_goes None name minor = refl
  forward_goes (Some endpoint) name minor = refl

  pub inactive_goes : Goes (inactive_rule f)
  inactive_goes =
      cond_both (is_transient f.key) (refuse f ObjAdapter MANAGER_INACTIVE) (forward_or f.entry (refuse f ObjAdapter MANAGER_INACTIVE)) Goes (λ _. refl)
      (λ _. forward_goes f.entry ObjAdapter MANAGER_INACTIVE)

  module _ (freed : IsFreed f) where
    located_goes : (l : Located) → Goes (located_rows f l)
    located_goes (ByServant name) = refl
    located_goes (ByForward endpoint) = refl
    located_goes (ByRaise exception) = refl
    located_goes NoRule = refl

    default_goes : (preset : Option (List ℕ)) → Goes (default_rows f preset)
    default_goes None = refl
    default_goes (Some name) = refl

    activator_goes : Goes (activator_rows f)
    activator_goes =
        cond_both f.locate (Go Here) (if f.busy then Held (Some (Adapter f.adapter)) else Go (Incarnate f.next)) Goes (λ _. refl)
        (λ _. cond_both f.busy (Held (Some (Adapter f.adapter))) (Go (Incarnate f.next)) Goes (λ busy. absurd (true≢false (sym busy ∙ freed.idle))) (λ _. refl))

    manager_goes : Goes (manager_rows f)
    manager_goes =
        cond_both (not f.rules) (refuse f ObjAdapter NO_SERVANT_MANAGER) (if is_retain f.policies.retention then activator_rows f else locator_rows f) Goes
        (λ _. refl)
        (λ _. cond_both (is_retain f.policies.retention) (activator_rows f) (locator_rows f) Goes (λ _. activator_goes)
        (λ _. cond_both f.locate (Go Here) (located_rows f f.located) Goes (λ _. refl) (λ _. located_goes f.located)))

    processing_goes : (p : Policy) → Goes (processing_rows f p)
    processing_goes DefaultServant = default_goes f.preset
    processing_goes ServantManager = cond_both (unmade f) (refuse f ObjectNotExist NOT_ACTIVE) (manager_rows f) Goes (λ _. refl) (λ _. manager_goes)
    processing_goes _ = refl

    map_goes : (slot : MapFact) → is_busy_slot slot ≡ false → Goes (map_rows f slot)
    map_goes (ActiveAs n) free = refl
    map_goes (Busy n) free = absurd (let e : true ≡ false = free in cc)
    map_goes FreeSlot free = processing_goes f.policies.processing

    object_goes : Goes (object_rows f)
    object_goes =
        cond_both (is_retain f.policies.retention) (map_rows f f.slot) (processing_rows f f.policies.processing) Goes
        (λ _. map_goes f.slot freed.settled_slot) (λ _. processing_goes f.policies.processing)

    -- the first worker is asked, since MAIN_THREAD_MODEL makes the others wait for it
    thread_goes : Goes (thread_rows f 0)
    thread_goes =
        cond_both (awaits_turn f) (Held (Some (Adapter f.adapter))) (if awaits_main f 0 then Held None else object_rows f) Goes
        (λ waits. absurd (true≢false (sym waits ∙ third_false (not f.locate) (is_single_thread f.policies.thread) f.running freed.still)))
        (λ _. cond_both (awaits_main f 0) (Held None) (object_rows f) Goes
        (λ waits. absurd (true≢false (sym waits ∙ third_false (not f.locate) (is_main_thread f.policies.thread) false refl))) (λ _. object_goes))

    trial_goes : Goes (trial_rows f)
    trial_goes =
        cond_both f.trial (Held (Some (Trial f.adapter))) (if f.tries then Go Try else forward_or f.entry (refuse f ObjectNotExist NO_ADAPTER)) Goes
        (λ tried. absurd (true≢false (sym tried ∙ freed.untried)))
        (λ _. cond_both f.tries (Go Try) (forward_or f.entry (refuse f ObjectNotExist NO_ADAPTER)) Goes (λ _. refl)
        (λ _. forward_goes f.entry ObjectNotExist NO_ADAPTER))

    -- what it holds, a manager in the state HOLDING holds from every worker
    abbrev IsHeldAll : (ℕ → Choice) → Type 0
    IsHeldAll choices = is_held (choices 0) ≡ true → (f.state ≡ Holding) × ((w : ℕ) → choices w ≡ Held (Some (ManagerCause f.manager)))

    goes_on : (choices : ℕ → Choice) → Goes (choices 0) → IsHeldAll choices
    goes_on choices goes holds = absurd (true≢false (sym holds ∙ goes))

    by_state : (on : ℕ → Choice) → Goes (on 0) → (state : ManagerState) → f.state ≡ state → IsHeldAll (λ w. state_rule f state (on w))
    by_state on goes Holding at = λ _. (at, λ w. refl)
    by_state on goes Active at = goes_on on goes
    by_state on goes Discarding at = goes_on (λ w. refuse f Transiently DISCARDED) refl
    by_state on goes Inactive at = goes_on (λ w. inactive_rule f) inactive_goes

    by_missing : IsHeldAll (λ w. missing_rows f)
    by_missing =
        elim (is_transient f.key) as (λ b. IsHeldAll (λ w. if b then refuse f ObjectNotExist OTHER_LIFESPAN else state_rule f f.state (trial_rows f)))
        [ true ↦ goes_on (λ w. refuse f ObjectNotExist OTHER_LIFESPAN) refl | false ↦ by_state (λ w. trial_rows f) trial_goes f.state refl ]

    by_tag : IsHeldAll (tag_rows f)
    by_tag =
        elim f.other_tag as (λ b. IsHeldAll (λ w. if b then refuse f ObjectNotExist OTHER_TAG else state_rule f f.state (thread_rows f w)))
        [ true ↦ goes_on (λ w. refuse f ObjectNotExist OTHER_TAG) refl | false ↦ by_state (thread_rows f) thread_goes f.state refl ]

    by_found : IsHeldAll (found_rows f)
    by_found =
        elim f.differs as (λ b. IsHeldAll (λ w. if b then refuse f ObjectNotExist OTHER_LIFESPAN else tag_rows f w))
        [ true ↦ goes_on (λ w. refuse f ObjectNotExist OTHER_LIFESPAN) refl | false ↦ by_tag ]

    by_walk : (walk : WalkFact) → IsHeldAll (λ w. walk_rows f w walk)
    by_walk MeetsDying = goes_on (λ w. refuse f Transiently ADAPTER_DYING) refl
    by_walk MeetsMissing = by_missing
    by_walk MeetsAdapter = by_found

    by_key : (key : KeyFact) → IsHeldAll (λ w. key_rows f w key)
    by_key Absent = goes_on (λ w. Go Addressing) refl
    by_key BadKey = goes_on (λ w. refuse f ObjectNotExist BAD_KEY) refl
    by_key OtherRun = goes_on (λ w. refuse f ObjectNotExist OTHER_LIFESPAN) refl
    by_key Transient = by_walk f.walk
    by_key Persistent = by_walk f.walk

    pub held_rows : is_held (first_row f 0) ≡ true → (f.state ≡ Holding) × ((w : ℕ) → first_row f w ≡ Held (Some (ManagerCause f.manager)))
    unfolding first_row
    held_rows =
        elim f.crowded as (λ b. IsHeldAll (λ w. if b then refuse f Transiently DISCARDED else key_rows f w f.key))
        [ true ↦ goes_on (λ w. refuse f Transiently DISCARDED) refl | false ↦ by_key f.key ]
