-- A fresh servant that is brought is in the state of the longer history.
use Rattle.std.specs.Prelude.{◌≡◌, ℕ, true, false, not, ◌&&◌, ◌==◌, if◌then◌else◌, List, ◌∷◌, Option, Some, None, unwrap_or, slice_get, refl}
use Rattle.std.proofs.Common.{sym, subst, ap, ◌∙◌}
use Rattle.std.proofs.lemmas.Bool.{cond_both, true≢false, false_from_ne_true, eqb-true, eqb-false, eq-eqb}
use Rattle.poa_base.specs.declared.Config.{Config}
use Rattle.poa_base.specs.declared.Gives.{Gives}
use Rattle.poa_base.specs.declared.Gives.TheVariants.{Fresh as FreshKind, Servant, Forward as ForwardTo, Raise as RaiseThis}
use Rattle.poa_base.specs.declared.State.{State}
use Rattle.poa_base.specs.declared.State.TheVariants.{Fault}
use Rattle.poa_base.specs.declared.Sid.TheVariants.{Named as NamedServant, Fresh as FreshServant}
use Rattle.poa_base.specs.declared.Entry.{Entry}
use Rattle.poa_base.specs.declared.Entry.TheVariants.{Incarnated, Etherealized}
use Rattle.poa_base.specs.declared.Incarnation.TheVariants.{Fresh, Named, Double, Forward, Raise}
use Rattle.poa_base.specs.Store as slots
use Rattle.poa_base.specs.Store.{IsReserved, with_room}
use Rattle.poa_base.proofs.Stored.{stored-with_room, reserved-with_room, reserved-insert}
use Rattle.history_standing.specs.declared.activation.Activation.{Activation}
use Rattle.history_standing.specs.declared.activation.Phase.TheVariants.{Begun, Complete, Void}
use Rattle.history_standing.specs.declared.stage.Stage.TheVariants.{Incarnating}
use Rattle.history_standing.specs.Trees.{In}
use Rattle.poa_history.specs.Alone.{IsGivenAlone}
use Rattle.poa_history.specs.Bounds.{IsWithinLimits}
use Rattle.history_standing.specs.Changes.{standing, changed, with_incarnated, at_number, come_to}
use Rattle.history_standing.specs.Ends.{is_left, let_out}
use Rattle.poa_history.specs.InFlight as flying
use Rattle.poa_history.specs.Legal.{IsLegal}
use Rattle.history_standing.specs.Rules.{rule_for, brought, brought_by, named_or_double, not_active}
use Rattle.poa_history.specs.Sound.{IsGiven, IsSound}
use Rattle.history_standing.specs.Stages.{stage}
use Rattle.history_standing.specs.Standings.{Standing, is_begun, is_in_map}
use Rattle.poa_history.specs.States.{Stored, state_of, stored, restored, kind_brought}
use Rattle.history_standing.specs.Templates.{rules_at, policies_at, is_unique, servant_name}
use Rattle.poa_history.specs.Turns.{activation_numbered}
use Rattle.history_standing.proofs.Members.{image_in}
use Rattle.poa_history.proofs.LegalSound.{legal_sound}
use Rattle.poa_history.proofs.MannedKept.{all_manned}
use Rattle.poa_history.proofs.OutIs.{out_complete}
use Rattle.poa_history.proofs.TurnTells.{incarnation_is}
use Rattle.core_state.specs.Holds.{ServantsAgree, keeps_fresh, is_kept}
use Rattle.core_state.specs.Kept.{Kept, fresh_at, stored_in}
use Rattle.core_state.specs.Steps.{Brings, IsBrought}
use Rattle.core_state.proofs.FreshFrom.{kept, comes, fresh_from, found_activation, kept_by}
use Rattle.core_state.proofs.QuietHolds.{kept_where, room_later}

-- what leaves the map keeps its fresh servant
pub let_out_keeps : (c : Config) (s : Standing) (a : Activation) → (keeps_fresh (let_out c s a) ≡ keeps_fresh a) × ((let_out c s a).number ≡ a.number)
    × ((let_out c s a).etherealized ≡ a.etherealized)
let_out_keeps c s a =
    cond_both (is_left c s a) (record a { out = true }) a (λ x. (keeps_fresh x ≡ keeps_fresh a) × (x.number ≡ a.number) × (x.etherealized ≡ a.etherealized))
    (λ _. (refl, refl, refl)) (λ _. (refl, refl, refl))

module _ (c : Config) (s : Standing) (a : Activation) (m : ℕ) where
  no_fresh : (k : ℕ) → named_or_double c s a k ≡ Fresh m → ⊥
  no_fresh k =
      elim (is_unique (policies_at c a.path) && is_in_map s.activations a.adapter (NamedServant k)) as (λ b.
      (elim b [ true ↦ Double | false ↦ elim (servant_name c k) [ Some name ↦ Named name | None ↦ Raise not_active ] ]) ≡ Fresh m → ⊥) [
        | true ↦ λ is. (let e : Double ≡ Fresh m = is in cc)
        | false ↦ elim (servant_name c k) as (λ o. (elim o [ Some name ↦ Named name | None ↦ Raise not_active ]) ≡ Fresh m → ⊥) [
          | Some name ↦ λ is. (let e : Named name ≡ Fresh m = is in cc)
          | None ↦ λ is. (let e : Raise not_active ≡ Fresh m = is in cc)
        ]
      ]

  by_gives : (g : Gives)
      → (elim g [
        | FreshKind kind ↦ Fresh a.number
        | Servant k ↦ named_or_double c s a k
        | ForwardTo endpoint ↦ Forward endpoint
        | RaiseThis exception ↦ Raise exception
      ]) ≡ Fresh m → m ≡ a.number
  by_gives (FreshKind kind) is = (let e : Fresh a.number ≡ Fresh m = is in cc)
  by_gives (Servant k) is = absurd (no_fresh k is)
  by_gives (ForwardTo endpoint) is = absurd (let e : Forward endpoint ≡ Fresh m = is in cc)
  by_gives (RaiseThis exception) is = absurd (let e : Raise exception ≡ Fresh m = is in cc)

  -- a fresh servant has the number of its activation
  brought_number : brought c s a ≡ Fresh m → m ≡ a.number
  brought_number =
      elim (rule_for (rules_at c a.path) a.oid) as (λ o. brought_by c s a o ≡ Fresh m → m ≡ a.number) [
        | None ↦ λ is. absurd (let e : Raise not_active ≡ Fresh m = is in cc)
        | Some rule ↦ by_gives rule.gives
      ]

module _ (c : Config) (run limit : ℕ) (opened : Stored) (past : List Entry) (w m : ℕ) (given : IsGiven c run) (alone : IsGivenAlone c run)
    (within : IsWithinLimits c limit) (legal : IsLegal c run limit (Incarnated w (Fresh m) ∷ past)) where
  abbrev s : Standing
  s = standing c run past

  abbrev e : Entry
  e = Incarnated w (Fresh m)

  abbrev t : Standing
  t = standing c run (e ∷ past)

  sound : IsSound c run s
  sound = legal_sound c run limit past given within legal.1

  after : IsSound c run t
  after = legal_sound c run limit (e ∷ past) given within legal

  -- the activation that is incarnated, which is that of the servant's number
  pub record IsOf : Type 0 where
    pub it : Activation
    pub arrival : ℕ
    pub there : In it s.activations
    pub number : it.number ≡ m
    pub found : activation_numbered s m ≡ Some it
    pub begun_ : stage past w ≡ Incarnating arrival m
    pub was : it.phase ≡ Begun
    pub untold : it.etherealized ≡ false

  pub is_of_it : IsOf
  is_of_it =
      let turn = incarnation_is c run past w (Fresh m) legal.0 in
      let there = found_activation s turn.number turn.it turn.found in
      let own : turn.it.number ≡ m = sym (brought_number c s turn.it m turn.told) in
      let same : turn.number ≡ m = sym there.1 ∙ own in
      let holds : flying.Holds past s (Incarnating turn.arrival turn.number) =
      subst (λ b. flying.Holds past s b) turn.begun ((all_manned c run limit past given alone within legal.1).stages w) in
      let begun_activation = holds.2 in
      let is_it : begun_activation.0 ≡ turn.it =
      sound.activation_alone begun_activation.0 turn.it begun_activation.1 there.0 (begun_activation.2 ∙ sym there.1) in
      let phase : turn.it.phase ≡ Begun = ap (λ x. x.phase) (sym is_it) ∙ begun_activation.3 in
      record {
        it = turn.it;
        arrival = turn.arrival;
        there = there.0;
        number = own;
        found = ap (activation_numbered s) (sym same) ∙ turn.found;
        begun_ = turn.begun ∙ ap (λ n. Incarnating turn.arrival n) same;
        was = phase;
        untold =
            false_from_ne_true turn.it.etherealized
            (λ told. true≢false
            (sym (out_complete c run limit given alone within past legal.1 turn.it there.0
            ((all_manned c run limit past given alone within legal.1).told_out turn.it there.0 told))
            ∙ ap (λ p. elim p [ Complete u ↦ true | Begun ↦ false | Void ↦ false ]) phase));
      }

  abbrev comes_to : Activation → Activation
  comes_to = at_number m (come_to (Complete (FreshServant m)))

  -- it is kept then
  comes_kept : IsOf → is_kept t m ≡ true
  comes_kept of_it =
      let s1 : Standing = changed c run past e s in
      let y : Activation = comes_to of_it.it in
      let begun_is : is_begun of_it.it ≡ true = ap (λ p. elim p [ Begun ↦ true | Complete u ↦ false | Void ↦ false ]) of_it.was in
      let y_is : y ≡ record of_it.it { phase = Complete (FreshServant m) } =
      ap (λ b. if b then come_to (Complete (FreshServant m)) of_it.it else of_it.it) (eq-eqb of_it.it.number m of_it.number)
      ∙ ap (λ b. if b then record of_it.it { phase = Complete (FreshServant m) } else of_it.it) begun_is in
      let in_y : In y s1.activations =
      subst (λ b. In y (with_incarnated c b (Fresh m) s).activations) (sym of_it.begun_) (image_in comes_to of_it.it s.activations of_it.there) in
      let out = let_out_keeps c s1 y in
      kept_by c run t after m (let_out c s1 y) (image_in (let_out c s1) y s1.activations in_y) (out.1 ∙ (ap (λ x. x.number) y_is ∙ of_it.number))
      (out.0 ∙ (ap keeps_fresh y_is ∙ ap not of_it.untold))

  -- of another number the same holds as before
  others_kept : IsOf → (n : ℕ) → (n ≡ m → ⊥) → is_kept t n ≡ is_kept s n
  others_kept of_it n other =
      kept_where c run limit opened past e given within legal n
      (λ a there at coming.
      let same_worker : w ≡ coming.worker = (let f : Incarnated w (Fresh m) ≡ Incarnated coming.worker (Fresh coming.servant) = coming.same in cc) in
      let stages : Incarnating of_it.arrival m ≡ Incarnating coming.arrival a.number = sym of_it.begun_ ∙ (ap (stage past) same_worker ∙ coming.begun_) in
      other (sym at ∙ sym (let f : Incarnating of_it.arrival m ≡ Incarnating coming.arrival a.number = stages in let g : m ≡ a.number = cc in g)))
      (λ _ tells. (let f : Incarnated w (Fresh m) ≡ Etherealized tells.0 tells.1 tells.2 = tells.3 in cc))

  -- the state in which it is brought
  abbrev brought_in : Option Activation → State
  brought_in o = elim o [ Some a ↦ restored (kind_brought c a) (stored c run opened past a.path a.oid) | None ↦ Fault ]

  module _ (old new : Kept) (holds : ServantsAgree c run opened past old) (of_it : IsOf)
      (brings : IsBrought m of_it.it.path of_it.it.oid (restored (kind_brought c of_it.it) (stored_in old of_it.it.path of_it.it.oid)) old new) where
    fresh_after : (n : ℕ) → (if n == m then Some (restored (kind_brought c of_it.it) (stored_in old of_it.it.path of_it.it.oid)) else fresh_at old n) ≡
        (if is_kept t n then Some (if n == m then brought_in (activation_numbered s m) else state_of c run opened past (FreshServant n)) else None)
    fresh_after n =
        elim (n == m) as (λ b. (n == m) ≡ b
        → (if b then Some (restored (kind_brought c of_it.it) (stored_in old of_it.it.path of_it.it.oid)) else fresh_at old n) ≡
        (if is_kept t n then Some (if b then brought_in (activation_numbered s m) else state_of c run opened past (FreshServant n)) else None)) [
          | true ↦ λ same.
              (ap (λ x. Some x) (ap (restored (kind_brought c of_it.it)) (holds.stored of_it.it.path of_it.it.oid) ∙ ap brought_in (sym of_it.found))
              ∙ ap (λ b. if b then Some (brought_in (activation_numbered s m)) else None) (sym (ap (is_kept t) (eqb-true n m same) ∙ comes_kept of_it)))
          | false ↦
              λ other.
              (holds.fresh n ∙ ap (λ b. if b then Some (state_of c run opened past (FreshServant n)) else None)
              (sym (others_kept of_it n (eqb-false n m other))))
        ] refl

    room_after : (b : Activation) → In b t.activations → keeps_fresh b ≡ true → IsReserved new.store b.path b.oid
    room_after b there keeps =
        subst (λ x. IsReserved x b.path b.oid) (sym brings.store)
        (elim (fresh_from c run past e b there keeps) [
          | kept a was later kept_ ↦ room_later c (with_room old.store of_it.it.path of_it.it.oid) a b later
              (reserved-insert old.store of_it.it.path of_it.it.oid (slots.stored old.store of_it.it.path of_it.it.oid) a.path a.oid (holds.room a was kept_))
          | comes a was later coming ↦
              (let same_worker : w ≡ coming.worker = (let f : Incarnated w (Fresh m) ≡ Incarnated coming.worker (Fresh coming.servant) = coming.same in cc) in
              let stages : Incarnating of_it.arrival m ≡ Incarnating coming.arrival a.number = sym of_it.begun_
              ∙ (ap (stage past) same_worker ∙ coming.begun_) in
              let at : m ≡ a.number = cc in
              let same : a ≡ of_it.it = sound.activation_alone a of_it.it was of_it.there (sym at ∙ sym of_it.number) in
              room_later c (with_room old.store of_it.it.path of_it.it.oid) a b later
              (subst (λ x. IsReserved (with_room old.store of_it.it.path of_it.it.oid) x.path x.oid) (sym same)
              (reserved-with_room old.store of_it.it.path of_it.it.oid)))
        ])

    brought_then : ServantsAgree c run opened (e ∷ past) new
    brought_then = record {
      configured = λ k. ap (λ xs. unwrap_or (slice_get xs k) Fault) brings.configured ∙ holds.configured k;
      fresh = λ n. brings.fresh n ∙ fresh_after n;
      room = room_after;
      stored = λ p oid. ap (λ x. slots.stored x p oid) brings.store ∙ (stored-with_room old.store of_it.it.path of_it.it.oid p oid ∙ holds.stored p oid);
    }

  pub brought_holds : (old new : Kept) → ServantsAgree c run opened past old → Brings c m (activation_numbered s m) old new → ServantsAgree c run opened (e ∷ past) new
  brought_holds old new holds brings = brought_then old new holds is_of_it (subst (λ o. Brings c m o old new) is_of_it.found brings)
