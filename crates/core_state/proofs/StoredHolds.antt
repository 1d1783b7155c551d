-- What is stored when a fresh servant is etherealized is what the longer history stores.
use Rattle.std.specs.Prelude.{◌≡◌, ℕ, Bool, true, false, ◌&&◌, ◌==◌, if◌then◌else◌, List, ◌∷◌, Option, Some, None, option_map, unwrap_or, slice_get, refl}
use Rattle.std.proofs.Common.{sym, subst, ap, ap₂, ◌∙◌}
use Rattle.std.proofs.lemmas.Bool.{and_parts, and_from, true≢false, false_from_ne_true, eqb-true, eqb-false, eq-eqb}
use Rattle.std.specs.Cmp.{tied_itself}
use Rattle.std.specs.Ordering.{is_eq}
use Rattle.std.specs.declared.cmp.Ordering.{Ordering}
use Rattle.std.specs.declared.cmp.Ordering.TheVariants.{Less, Equal, Greater}
use Rattle.poa_base.specs.declared.Config.{Config}
use Rattle.poa_base.specs.declared.State.{State}
use Rattle.poa_base.specs.declared.State.TheVariants.{Fault}
use Rattle.poa_base.specs.declared.Sid.{Sid}
use Rattle.poa_base.specs.declared.Sid.TheVariants.{Named as NamedServant, Fresh as FreshServant}
use Rattle.poa_base.specs.declared.Entry.{Entry}
use Rattle.poa_base.specs.declared.Entry.TheVariants.{Incarnated, Etherealized}
use Rattle.poa_base.specs.declared.Incarnation.TheVariants.{Fresh}
use Rattle.poa_base.specs.Store as slots
use Rattle.poa_base.specs.Store.{IsReserved, place_cmp, with_state}
use Rattle.poa_base.proofs.Shelves.{place_total, same_place}
use Rattle.poa_base.proofs.Stored.{stored-with_state, reserved-insert}
use Rattle.history_standing.specs.declared.activation.Activation.{Activation}
use Rattle.history_standing.specs.declared.activation.Phase.{Phase}
use Rattle.history_standing.specs.declared.activation.Phase.TheVariants.{Begun, Complete, Void}
use Rattle.history_standing.specs.declared.stage.Stage.TheVariants.{Removing}
use Rattle.history_standing.specs.Paths.{same_bytes, same_path}
use Rattle.history_standing.specs.Trees.{In}
use Rattle.poa_history.specs.Alone.{IsGivenAlone}
use Rattle.poa_history.specs.Bounds.{IsWithinLimits}
use Rattle.history_standing.specs.Changes.{standing, changed, with_etherealized, at_number}
use Rattle.history_standing.specs.Ends.{let_out}
use Rattle.poa_history.specs.InFlight as flying
use Rattle.poa_history.specs.Legal.{IsLegal}
use Rattle.poa_history.specs.Sound.{IsGiven, IsSound}
use Rattle.history_standing.specs.Stages.{stage}
use Rattle.history_standing.specs.Standings.{Standing}
use Rattle.poa_history.specs.States.{Stored, state_of, stored, is_stored_by, fresh_only}
use Rattle.poa_history.specs.Turns.{activation_numbered}
use Rattle.history_standing.proofs.Finding.{path_same, same_path_self}
use Rattle.history_standing.proofs.Leading.{bytes_same, same_self}
use Rattle.history_standing.proofs.Members.{image_in}
use Rattle.poa_history.proofs.AloneKept.{stands_alone}
use Rattle.poa_history.proofs.LegalSound.{legal_sound}
use Rattle.poa_history.proofs.MannedKept.{all_manned}
use Rattle.poa_history.proofs.TurnTells.{removal_is}
use Rattle.core_state.specs.Holds.{ServantsAgree, is_fresh, keeps_fresh, is_kept}
use Rattle.core_state.specs.Kept.{Kept, fresh_at}
use Rattle.core_state.specs.Steps.{Etherealizes, HasRoom, IsStored, Stores, fresh_number, removed, removed_of}
use Rattle.core_state.proofs.FreshFrom.{kept, comes, fresh_from, found_activation, kept_is, kept_by, keeps_from, keeps_parts}
use Rattle.core_state.proofs.QuietHolds.{kept_where, room_later}
use Rattle.core_state.proofs.BroughtHolds.{let_out_keeps}
use Rattle.history_standing.proofs.Tests.{same_test}

equal_is : (r : Ordering) → is_eq r ≡ true → r ≡ Equal
equal_is Equal is = refl
equal_is Less is = absurd (let e : false ≡ true = is in cc)
equal_is Greater is = absurd (let e : false ≡ true = is in cc)

-- places are equal by their paths and their ids
place_is : (p : List (List ℕ)) (oid : List ℕ) (q : List (List ℕ)) (j : List ℕ) → is_eq (place_cmp (p, oid) (q, j)) ≡ (same_path q p && same_bytes j oid)
place_is p oid q j =
    same_test (is_eq (place_cmp (p, oid) (q, j))) (same_path q p && same_bytes j oid)
    (λ tied.
    let same = same_place (p, oid) (q, j) (equal_is (place_cmp (p, oid) (q, j)) tied) in
    and_from (same_path q p) (same_bytes j oid) (ap (λ x. same_path q x.0) same ∙ same_path_self q) (ap (λ x. same_bytes j x.1) same ∙ same_self j))
    (λ both.
    let parts = and_parts (same_path q p) (same_bytes j oid) both in
    ap₂ (λ x y. is_eq (place_cmp (x, y) (q, j))) (sym (path_same q p parts.0)) (sym (bytes_same j oid parts.1)) ∙ ap is_eq (tied_itself place_total (q, j)))

number_of : (p : Phase) (n : ℕ) → fresh_number p ≡ Some n → p ≡ Complete (FreshServant n)
number_of (Complete (FreshServant m)) n is = (let e : Some m ≡ Some n = is in ap (λ x. Complete (FreshServant x)) cc)
number_of (Complete (NamedServant k)) n is = absurd (let e : None ≡ Some n = is in cc)
number_of Begun n is = absurd (let e : None ≡ Some n = is in cc)
number_of Void n is = absurd (let e : None ≡ Some n = is in cc)

unfresh : (p : Phase) → fresh_number p ≡ None → is_fresh p ≡ false
unfresh (Complete (FreshServant m)) is = absurd (let e : Some m ≡ None = is in cc)
unfresh (Complete (NamedServant k)) is = refl
unfresh Begun is = refl
unfresh Void is = refl

-- the servant whose state an activation leaves
abbrev leaver : Phase → Option Sid
leaver p = elim p [ Complete t ↦ fresh_only t | Begun ↦ None | Void ↦ None ]

stores_none : (p : Phase) → fresh_number p ≡ None → leaver p ≡ None
stores_none (Complete (FreshServant m)) is = absurd (let e : Some m ≡ None = is in cc)
stores_none (Complete (NamedServant k)) is = refl
stores_none Begun is = refl
stores_none Void is = refl

module _ (c : Config) (run limit : ℕ) (opened : Stored) (past : List Entry) (w : ℕ) (cleanup remaining : Bool) (given : IsGiven c run)
    (alone : IsGivenAlone c run) (within : IsWithinLimits c limit) (legal : IsLegal c run limit (Etherealized w cleanup remaining ∷ past)) where
  abbrev s : Standing
  s = standing c run past

  abbrev e : Entry
  e = Etherealized w cleanup remaining

  abbrev t : Standing
  t = standing c run (e ∷ past)

  sound : IsSound c run s
  sound = legal_sound c run limit past given within legal.1

  after : IsSound c run t
  after = legal_sound c run limit (e ∷ past) given within legal

  -- the activation that is removed
  pub record IsOf : Type 0 where
    pub number : ℕ
    pub it : Activation
    pub there : In it s.activations
    pub numbered : it.number ≡ number
    pub found : activation_numbered s number ≡ Some it
    pub begun_ : stage past w ≡ Removing number
    pub untold : it.etherealized ≡ false

  pub is_of_it : IsOf
  is_of_it =
      let turn = removal_is c run past w cleanup remaining legal.0 in
      let there = found_activation s turn.number turn.it turn.found in
      let holds : flying.Holds past s (Removing turn.number) =
      subst (λ b. flying.Holds past s b) turn.begun ((all_manned c run limit past given alone within legal.1).stages w) in
      let is_it : holds.0 ≡ turn.it = sound.activation_alone holds.0 turn.it holds.1 there.0 (holds.2 ∙ sym there.1) in
      record {
        number = turn.number;
        it = turn.it;
        there = there.0;
        numbered = there.1;
        found = turn.found;
        begun_ = turn.begun;
        untold = ap (λ x. x.etherealized) (sym is_it) ∙ holds.5;
      }

  removed_is : (of_it : IsOf) → removed s (stage past w) ≡ removed_of (Some of_it.it)
  removed_is of_it = ap (removed s) of_it.begun_ ∙ ap removed_of of_it.found

  -- what the definition stores
  stores_is : (of_it : IsOf) (p : List (List ℕ)) (oid : List ℕ)
      → is_stored_by s (stage past w) p oid ≡ (if same_path of_it.it.path p && same_bytes of_it.it.oid oid then (leaver of_it.it.phase) else None)
  stores_is of_it p oid =
      ap (λ b. is_stored_by s b p oid) of_it.begun_
      ∙ ap (λ o. elim o [ None ↦ None | Some a ↦ (if same_path a.path p && same_bytes a.oid oid then (leaver a.phase) else None) ]) of_it.found

  abbrev told : Activation → Activation
  told = λ a. record a { etherealized = true }

  -- the entry tells that it was etherealized
  told_then : (of_it : IsOf) (b : Activation) → In b t.activations → b.number ≡ of_it.number → b.etherealized ≡ true
  told_then of_it b there at =
      let s1 : Standing = changed c run past e s in
      let y : Activation = at_number of_it.number told of_it.it in
      let y_is : y ≡ record of_it.it { etherealized = true } =
      ap (λ z. if z then record of_it.it { etherealized = true } else of_it.it) (eq-eqb of_it.it.number of_it.number of_it.numbered) in
      let in_y : In y s1.activations =
      subst (λ z. In y (with_etherealized z s).activations) (sym of_it.begun_) (image_in (at_number of_it.number told) of_it.it s.activations of_it.there) in
      let out = let_out_keeps c s1 y in
      let same : let_out c s1 y ≡ b =
      after.activation_alone (let_out c s1 y) b (image_in (let_out c s1) y s1.activations in_y) there
      (out.1 ∙ (ap (λ x. x.number) y_is ∙ (of_it.numbered ∙ sym at))) in
      ap (λ x. x.etherealized) (sym same) ∙ (out.2 ∙ ap (λ x. x.etherealized) y_is)

  -- so it is kept no longer
  gone_then : (of_it : IsOf) → is_kept t of_it.number ≡ false
  gone_then of_it = false_from_ne_true (is_kept t of_it.number) (λ is.
      let (b, there, at, keeps) = kept_is t of_it.number is in
      true≢false (sym (told_then of_it b there at) ∙ (keeps_parts b keeps).1))

  -- of another number the same holds as before
  others_kept : (of_it : IsOf) (n : ℕ) → (is_kept s n ≡ true → n ≡ of_it.number → ⊥) → is_kept t n ≡ is_kept s n
  others_kept of_it n other =
      kept_where c run limit opened past e given within legal n
      (λ a there at coming. (let f : Etherealized w cleanup remaining ≡ Incarnated coming.worker (Fresh coming.servant) = coming.same in cc))
      (λ keeps tells.
      let same_worker : w ≡ tells.0 = (let f : Etherealized w cleanup remaining ≡ Etherealized tells.0 tells.1 tells.2 = tells.3 in cc) in
      let stages : Removing of_it.number ≡ Removing n = sym of_it.begun_ ∙ (ap (stage past) same_worker ∙ tells.4) in
      other keeps (let f : Removing of_it.number ≡ Removing n = stages in let g : of_it.number ≡ n = cc in sym g))

  kept_room : (old : Kept) → ServantsAgree c run opened past old → (b : Activation) → In b t.activations → keeps_fresh b ≡ true → IsReserved old.store b.path b.oid
  kept_room old holds b there keeps =
      elim (fresh_from c run past e b there keeps) [
        | kept a was later kept_ ↦ room_later c old.store a b later (holds.room a was kept_)
        | comes a was later coming ↦ absurd (let f : Etherealized w cleanup remaining ≡ Incarnated coming.worker (Fresh coming.servant) = coming.same in cc)
      ]

  module _ (old : Kept) (holds : ServantsAgree c run opened past old) (of_it : IsOf) where
    -- a fresh servant is kept until then
    was_kept : (n : ℕ) → fresh_number of_it.it.phase ≡ Some n → (n ≡ of_it.number) × (is_kept s n ≡ true)
    was_kept n has =
        let phase = number_of of_it.it.phase n has in
        let own : n ≡ of_it.it.number = (stands_alone c run limit past given alone within legal.1).fresh of_it.it n of_it.there phase in
        (own ∙ of_it.numbered, kept_by c run s sound n of_it.it of_it.there (sym own) (keeps_from of_it.it (ap is_fresh phase) of_it.untold))

    -- and there is room for its state
    pub room_there : HasRoom (removed_of (Some of_it.it)) old
    room_there =
        elim (fresh_number of_it.it.phase) as (λ o. fresh_number of_it.it.phase ≡ o → HasRoom (option_map (λ n. (of_it.it, n)) o) old) [
          | None ↦ λ _. tt
          | Some n ↦ λ has. holds.room of_it.it of_it.there (keeps_from of_it.it (ap is_fresh (number_of of_it.it.phase n has)) of_it.untold)
        ] refl

    -- where it has none, nothing is stored
    none_then : fresh_number of_it.it.phase ≡ None → ServantsAgree c run opened (e ∷ past) old
    none_then none = record {
      configured = holds.configured;
      fresh = λ n. holds.fresh n ∙ ap (λ b. if b then Some (state_of c run opened past (FreshServant n)) else None) (sym (others_kept of_it n (unkept n)));
      room = kept_room old holds;
      stored =
          λ p oid. holds.stored p oid
          ∙ sym (ap (λ o. elim o [ Some u ↦ Some (state_of c run opened past u) | None ↦ stored c run opened past p oid ]) (nothing p oid));
    }
      where
        unkept : (n : ℕ) → is_kept s n ≡ true → n ≡ of_it.number → ⊥
        unkept n keeps at =
            let (a, there, numbered, kept_) = kept_is s n keeps in
            let same : a ≡ of_it.it = sound.activation_alone a of_it.it there of_it.there (numbered ∙ (at ∙ sym of_it.numbered)) in
            true≢false (sym (keeps_parts a kept_).0 ∙ (ap (λ x. is_fresh x.phase) same ∙ unfresh of_it.it.phase none))

        neither : (b : Bool) (o : Option Sid) → o ≡ None → (if b then o else None) ≡ None
        neither true o is = is
        neither false o is = refl

        nothing : (p : List (List ℕ)) (oid : List ℕ) → is_stored_by s (stage past w) p oid ≡ None
        nothing p oid =
            stores_is of_it p oid ∙ neither (same_path of_it.it.path p && same_bytes of_it.it.oid oid) (leaver of_it.it.phase) (stores_none of_it.it.phase none)

    -- else its state is stored
    stored_then : (n : ℕ) → fresh_number of_it.it.phase ≡ Some n → (new : Kept)
        → IsStored n of_it.it.path of_it.it.oid (state_of c run opened past (FreshServant n)) old new → ServantsAgree c run opened (e ∷ past) new
    stored_then n has new stores = record {
      configured = λ k. ap (λ xs. unwrap_or (slice_get xs k) Fault) stores.configured ∙ holds.configured k;
      fresh = λ m. stores.fresh m ∙ fresh_after m;
      room = λ b there keeps. subst (λ x. IsReserved x b.path b.oid) (sym stores.store)
          (reserved-insert old.store of_it.it.path of_it.it.oid (Some (state_of c run opened past (FreshServant n))) b.path b.oid
          (kept_room old holds b there keeps));
      stored = λ p oid. ap (λ x. slots.stored x p oid) stores.store
          ∙ (stored-with_state old.store of_it.it.path of_it.it.oid (state_of c run opened past (FreshServant n)) p oid ∙ stored_after p oid);
    }
      where
        was : (n ≡ of_it.number) × (is_kept s n ≡ true)
        was = was_kept n has

        fresh_after : (m : ℕ) → (if m == n then None else fresh_at old m) ≡ (if is_kept t m then Some (state_of c run opened past (FreshServant m)) else None)
        fresh_after m =
            elim (m == n) as (λ b. (m == n) ≡ b → (if b then None else fresh_at old m) ≡
            (if is_kept t m then Some (state_of c run opened past (FreshServant m)) else None)) [
              | true ↦
                  λ same. ap (λ b. if b then Some (state_of c run opened past (FreshServant m)) else None)
                  (sym (ap (is_kept t) (eqb-true m n same ∙ was.0) ∙ gone_then of_it))
              | false ↦
                  λ other.
                  (holds.fresh m ∙ ap (λ b. if b then Some (state_of c run opened past (FreshServant m)) else None)
                  (sym (others_kept of_it m (λ _ at. eqb-false m n other (at ∙ sym was.0)))))
            ] refl

        by_place : (b : Bool) (x : Option State)
            → (if b then Some (state_of c run opened past (FreshServant n)) else x) ≡
            (elim (if b then Some (FreshServant n) else None) [ Some u ↦ Some (state_of c run opened past u) | None ↦ x ])
        by_place true x = refl
        by_place false x = refl

        stored_after : (p : List (List ℕ)) (oid : List ℕ)
            → (if is_eq (place_cmp (p, oid) (of_it.it.path, of_it.it.oid)) then Some
            (state_of c run opened past (FreshServant n)) else slots.stored old.store p oid) ≡ stored c run opened (e ∷ past) p oid
        stored_after p oid =
            ap₂ (λ b x. if b then Some (state_of c run opened past (FreshServant n)) else x) (place_is p oid of_it.it.path of_it.it.oid) (holds.stored p oid)
            ∙ (by_place (same_path of_it.it.path p && same_bytes of_it.it.oid oid) (stored c run opened past p oid)
            ∙ sym (ap (λ o. elim o [ Some u ↦ Some (state_of c run opened past u) | None ↦ stored c run opened past p oid ])
            (stores_is of_it p oid ∙ ap (λ x. if same_path of_it.it.path p && same_bytes of_it.it.oid oid then (leaver x) else None)
            (number_of of_it.it.phase n has))))

    pub ended_then : (new : Kept) → Etherealizes (removed_of (Some of_it.it)) old new → ServantsAgree c run opened (e ∷ past) new
    ended_then new =
        elim (fresh_number of_it.it.phase) as (λ o. fresh_number of_it.it.phase ≡ o → Etherealizes (option_map (λ n. (of_it.it, n)) o) old new
        → ServantsAgree c run opened (e ∷ past) new) [
          | None ↦ λ none same. subst (ServantsAgree c run opened (e ∷ past)) (sym same) (none_then none)
          | Some n ↦
              λ has ends. stored_then n has new
              (subst (λ o. Stores n of_it.it.path of_it.it.oid o old new)
              (holds.fresh n ∙ ap (λ b. if b then Some (state_of c run opened past (FreshServant n)) else None) (was_kept n has).1) ends)
        ] refl

  pub ended_holds : (old new : Kept) → ServantsAgree c run opened past old → Etherealizes (removed s (stage past w)) old new → ServantsAgree c run opened (e ∷ past) new
  ended_holds old new holds ends = ended_then old holds is_of_it new (subst (λ o. Etherealizes o old new) (removed_is is_of_it) ends)

  pub room_held : (old : Kept) → ServantsAgree c run opened past old → HasRoom (removed s (stage past w)) old
  room_held old holds = subst (λ o. HasRoom o old) (sym (removed_is is_of_it)) (room_there old holds is_of_it)
