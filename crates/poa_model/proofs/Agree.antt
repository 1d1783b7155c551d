-- The states that entries left are the states that the definitions give.
use Rattle.std.proofs.Common.{◌≡◌, ℕ, true, false, ◌&&◌, if◌then◌else◌, List, [], ◌∷◌, Option, Some, None, refl, sym, ◌∙◌, ap}
use Rattle.poa_base.specs.declared.Config.{Config}
use Rattle.poa_base.specs.declared.Call.{Call}
use Rattle.poa_base.specs.declared.Sid.{Sid}
use Rattle.poa_base.specs.declared.Sid.TheVariants.{Named as NamedServant, Fresh as FreshServant}
use Rattle.poa_base.specs.declared.State.{State}
use Rattle.poa_base.specs.declared.State.TheVariants.{Fault}
use Rattle.poa_base.specs.declared.Entry.{Entry}
use Rattle.poa_base.specs.declared.Entry.TheVariants.{Incarnated, Run, Etherealized}
use Rattle.poa_base.specs.declared.Incarnation.TheVariants.{Fresh}
use Rattle.history_standing.specs.declared.activation.Activation.{Activation}
use Rattle.history_standing.specs.declared.stage.Stage.{Stage}
use Rattle.history_standing.specs.declared.stage.Stage.TheVariants.{Free, Trying, Incarnating, Serving, Ran, Removing}
use Rattle.history_standing.specs.Paths.{same_bytes, same_path}
use Rattle.history_standing.specs.Stages.{stage}
use Rattle.history_standing.specs.Standings.{Standing, same_servant}
use Rattle.history_standing.specs.Changes.{standing}
use Rattle.poa_history.specs.Turns.{activation_numbered}
use Rattle.poa_history.specs.States.{Stored, servant_run, call_run, acted, restored, kind_brought, is_servant, is_stored_by, state_of, stored}
use Rattle.poa_model.specs.Kept.{Kept, state_in, stored_in, with_run, with_fresh, opens_with, removed, fresh_of, with_left, with_removed, kept}
use Rattle.std.proofs.lemmas.Bool.{eqb-true}

-- servants that are the same are equal
same_is : (s t : Sid) → same_servant s t ≡ true → s ≡ t
same_is (NamedServant j) (NamedServant k) same = ap NamedServant (eqb-true j k same)
same_is (FreshServant m) (FreshServant n) same = ap FreshServant (eqb-true m n same)
same_is (NamedServant j) (FreshServant n) same = (cc)
same_is (FreshServant m) (NamedServant k) same = (cc)

-- each servant's state, and each stored state, is the one of the definitions
pub record Agrees (c : Config) (run : ℕ) (opened : Stored) (h : List Entry) (k : Kept) : Type 0 where
  pub servants : (s : Sid) → state_in c k.servants s ≡ state_of c run opened h s
  pub places : (p : List (List ℕ)) (oid : List ℕ) → stored_in opened k.places p oid ≡ stored c run opened h p oid

-- where the servant acts, its state is the one after the act
run_agrees : (c : Config) (k : Kept) (call : Option Call) (before : Sid → State) → ((s : Sid) → state_in c k.servants s ≡ before s)
    → (who : Option Sid) (s : Sid)
    → state_in c (with_run c who call k).servants s ≡ (if is_servant s who then (acted (before s) call).0 else before s)
run_agrees c k call before agrees None s = agrees s
run_agrees c k call before agrees (Some t) s =
    let ran : same_servant s t ≡ true → (acted (state_in c k.servants t) call).0 ≡ (acted (before s) call).0 =
    λ same. ap (λ x. (acted (state_in c k.servants x) call).0) (sym (same_is s t same)) ∙ ap (λ x. (acted x call).0) (agrees s) in
    elim (same_servant s t) as (λ b. same_servant s t ≡ b
    → (if b then (acted (state_in c k.servants t) call).0 else state_in c k.servants s) ≡ (if b then (acted (before s) call).0 else before s)) [
      | true ↦ (λ same. ran same)
      | false ↦ (λ other. agrees s)
    ] refl

-- the act leaves what is stored as it is
run_leaves : (c : Config) (k : Kept) (call : Option Call) (who : Option Sid) → (with_run c who call k).places ≡ k.places
run_leaves c k call None = refl
run_leaves c k call (Some t) = refl

-- a fresh servant opens with what is stored
opens : (c : Config) (opened : Stored) (k : Kept) (before : List (List ℕ) → List ℕ → Option State)
    → ((p : List (List ℕ)) (oid : List ℕ) → stored_in opened k.places p oid ≡ before p oid) → (activation : Option Activation)
    → opens_with c opened k.places activation ≡ (elim activation [ Some a ↦ restored (kind_brought c a) (before a.path a.oid) | None ↦ Fault ])
opens c opened k before agrees None = refl
opens c opened k before agrees (Some a) = ap (restored (kind_brought c a)) (agrees a.path a.oid)

fresh_agrees : (c : Config) (opened : Stored) (k : Kept) (n : ℕ) (activation : Option Activation) (before : Sid → State) (state : State)
    → ((s : Sid) → state_in c k.servants s ≡ before s) → opens_with c opened k.places activation ≡ state → (s : Sid)
    → state_in c (with_fresh c opened n activation k).servants s ≡ (if same_servant s (FreshServant n) then state else before s)
fresh_agrees c opened k n activation before state agrees is s =
    ap (λ x. if same_servant s (FreshServant n) then x else state_in c k.servants s) is
    ∙ ap (λ x. if same_servant s (FreshServant n) then state else x) (agrees s)

-- the servant whose state a removed activation leaves for an id
abbrev left_for : Option Activation → List (List ℕ) → List ℕ → Option Sid
left_for None p oid = None
left_for (Some a) p oid = if same_path a.path p && same_bytes a.oid oid then fresh_of a else None

-- it is the one of the definition
stored_by : (s : Standing) (begun : Stage) (p : List (List ℕ)) (oid : List ℕ) → is_stored_by s begun p oid ≡ left_for (removed s begun) p oid
stored_by s (Removing n) p oid =
    elim (activation_numbered s n) as (λ found.
    (elim found [ None ↦ None | Some a ↦ (if same_path a.path p && same_bytes a.oid oid then fresh_of a else None) ]) ≡ left_for found p oid) [
      | None ↦ refl
      | Some a ↦ refl
    ]
stored_by s Free p oid = refl
stored_by s (Trying r) p oid = refl
stored_by s (Incarnating r n) p oid = refl
stored_by s (Serving r) p oid = refl
stored_by s (Ran r) p oid = refl

abbrev stored_else : Option Sid → (Sid → State) → Option State → Option State
stored_else None state before = before
stored_else (Some s) state before = Some (state s)

left_agrees : (c : Config) (opened : Stored) (k : Kept) (state : Sid → State) (before : List (List ℕ) → List ℕ → Option State)
    → ((s : Sid) → state_in c k.servants s ≡ state s) → ((p : List (List ℕ)) (oid : List ℕ) → stored_in opened k.places p oid ≡ before p oid)
    → (a : Activation) (who : Option Sid) (p : List (List ℕ)) (oid : List ℕ)
    → stored_in opened (with_left c a who k).places p oid ≡ stored_else (if same_path a.path p && same_bytes a.oid oid then who else None) state (before p oid)
left_agrees c opened k state before states agree a None p oid =
    elim (same_path a.path p && same_bytes a.oid oid) as (λ b. stored_in opened k.places p oid ≡ stored_else (if b then None else None) state (before p oid))
    [ true ↦ agree p oid | false ↦ agree p oid ]
left_agrees c opened k state before states agree a (Some t) p oid =
    elim (same_path a.path p && same_bytes a.oid oid) as (λ b. (if b then Some (state_in c k.servants t) else stored_in opened k.places p oid) ≡ stored_else
    (if b then Some t else None) state (before p oid)) [
      | true ↦ ap Some (states t)
      | false ↦ agree p oid
    ]

removed_agrees : (c : Config) (opened : Stored) (k : Kept) (state : Sid → State) (before : List (List ℕ) → List ℕ → Option State)
    → ((s : Sid) → state_in c k.servants s ≡ state s) → ((p : List (List ℕ)) (oid : List ℕ) → stored_in opened k.places p oid ≡ before p oid)
    → (activation : Option Activation) (p : List (List ℕ)) (oid : List ℕ)
    → stored_in opened (with_removed c activation k).places p oid ≡ stored_else (left_for activation p oid) state (before p oid)
removed_agrees c opened k state before states agree None p oid = agree p oid
removed_agrees c opened k state before states agree (Some a) p oid = left_agrees c opened k state before states agree a (fresh_of a) p oid

-- no servant's state changes by that
left_leaves : (c : Config) (k : Kept) (a : Activation) (who : Option Sid) → (with_left c a who k).servants ≡ k.servants
left_leaves c k a None = refl
left_leaves c k a (Some t) = refl

removed_leaves : (c : Config) (k : Kept) (activation : Option Activation) → (with_removed c activation k).servants ≡ k.servants
removed_leaves c k None = refl
removed_leaves c k (Some a) = left_leaves c k a (fresh_of a)

stored_as : (c : Config) (run : ℕ) (opened : Stored) (past : List Entry) (p : List (List ℕ)) (oid : List ℕ) (who : Option Sid)
    → stored_else who (state_of c run opened past) (stored c run opened past p oid) ≡
    (elim who [ Some s ↦ Some (state_of c run opened past s) | None ↦ stored c run opened past p oid ])
stored_as c run opened past p oid None = refl
stored_as c run opened past p oid (Some s) = refl

pub agrees : (c : Config) (run : ℕ) (opened : Stored) (h : List Entry) → Agrees c run opened h (kept c run opened h)
agrees c run opened [] = record { servants = λ s. refl; places = λ p oid. refl }
agrees c run opened (Run w ∷ past) =
    let before = agrees c run opened past in
    record {
      servants =
          λ s. run_agrees c (kept c run opened past) (call_run past (stage past w)) (state_of c run opened past) before.servants
          (servant_run c run past (stage past w)) s;
      places =
          λ p oid. ap (λ x. stored_in opened x p oid)
          (run_leaves c (kept c run opened past) (call_run past (stage past w)) (servant_run c run past (stage past w))) ∙ before.places p oid;
    }
agrees c run opened (Incarnated w (Fresh n) ∷ past) =
    let before = agrees c run opened past in
    let activation = activation_numbered (standing c run past) n in
    record {
      servants =
          λ s. fresh_agrees c opened (kept c run opened past) n activation (state_of c run opened past) _ before.servants
          (opens c opened (kept c run opened past) (stored c run opened past) before.places activation) s;
      places = before.places;
    }
agrees c run opened (Etherealized w cleanup remaining ∷ past) =
    let before = agrees c run opened past in
    let activation = removed (standing c run past) (stage past w) in
    record {
      servants = λ s. ap (λ x. state_in c x s) (removed_leaves c (kept c run opened past) activation) ∙ before.servants s;
      places = λ p oid.
          removed_agrees c opened (kept c run opened past) (state_of c run opened past)
          (stored c run opened past) before.servants before.places activation p oid
          ∙ ap (λ x. stored_else x (state_of c run opened past) (stored c run opened past p oid)) (sym (stored_by (standing c run past) (stage past w) p oid))
          ∙ stored_as c run opened past p oid (is_stored_by (standing c run past) (stage past w) p oid);
    }
agrees c run opened (e ∷ past) = let before = agrees c run opened past in record { servants = before.servants; places = before.places }
