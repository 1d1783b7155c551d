-- An entry that brings no fresh servant and etherealizes none leaves those that are kept.
use Rattle.std.specs.Prelude.{◌≡◌, ℕ, Bool, true, false, if◌then◌else◌, List, ◌∷◌, Option, Some, None, option_map, ◌⊎◌, refl}
use Rattle.std.proofs.Common.{inl, inr, sym, subst, ap, ap₂, ◌∙◌}
use Rattle.std.proofs.lemmas.Bool.{true≢false}
use Rattle.poa_base.specs.declared.Config.{Config}
use Rattle.poa_base.specs.declared.State.{State}
use Rattle.poa_base.specs.declared.Sid.{Sid}
use Rattle.poa_base.specs.declared.Sid.TheVariants.{Named as NamedServant, Fresh as FreshServant}
use Rattle.poa_base.specs.declared.Entry.{Entry}
use Rattle.poa_base.specs.declared.Entry.TheVariants.{Entered, Arrive, Filled, Left, Collect, Admit, Tried, Incarnated, Run, Done, TakeOut, Etherealized, Abandon}
use Rattle.poa_base.specs.declared.Incarnation.TheVariants.{Fresh, Named, Double, Forward as ForwardTo, Raise}
use Rattle.poa_base.specs.Store.{Slots, IsReserved}
use Rattle.history_standing.specs.declared.activation.Activation.{Activation}
use Rattle.history_standing.specs.Trees.{In}
use Rattle.poa_history.specs.Bounds.{IsWithinLimits}
use Rattle.history_standing.specs.Changes.{standing}
use Rattle.poa_history.specs.Later.{IsLater}
use Rattle.poa_history.specs.Legal.{IsLegal}
use Rattle.poa_history.specs.Sound.{IsGiven, IsSound}
use Rattle.history_standing.specs.Standings.{Standing}
use Rattle.poa_history.specs.States.{Stored, state_of, stored}
use Rattle.poa_history.proofs.LegalSound.{legal_sound}
use Rattle.core_state.specs.Holds.{ServantsAgree, keeps_fresh, is_kept}
use Rattle.core_state.specs.Kept.{Kept, fresh_at, state_in, stored_in}
use Rattle.core_state.proofs.FreshFrom.{IsComing, Tells, kept, comes, fresh_from, fresh_to, kept_is, kept_by}
use Rattle.history_standing.proofs.Tests.{same_test}

abbrev pub leaves_fresh : Entry → Bool
leaves_fresh (Incarnated w (Fresh n)) = false
leaves_fresh (Etherealized w cleanup remaining) = false
leaves_fresh e = true

-- no servant acts either
abbrev pub is_quiet : Entry → Bool
is_quiet (Run w) = false
is_quiet e = leaves_fresh e

-- where there was room for an activation there is room for what it became
pub room_later : (c : Config) (store : Slots) (a b : Activation) → IsLater c a b → IsReserved store a.path a.oid → IsReserved store b.path b.oid
room_later c store a b later room = subst (λ p. IsReserved store p b.oid) (sym later.path) (subst (λ o. IsReserved store a.path o) (sym later.oid) room)

mapped_if : (b : Bool) (f : State → State) (x : State) → option_map f (if b then Some x else None) ≡ (if b then Some (f x) else None)
mapped_if true f x = refl
mapped_if false f x = refl

module _ (c : Config) (run limit : ℕ) (opened : Stored) (past : List Entry) (e : Entry) (given : IsGiven c run) (within : IsWithinLimits c limit)
    (legal : IsLegal c run limit (e ∷ past)) where
  abbrev s : Standing
  s = standing c run past

  abbrev t : Standing
  t = standing c run (e ∷ past)

  sound : IsSound c run s
  sound = legal_sound c run limit past given within legal.1

  after : IsSound c run t
  after = legal_sound c run limit (e ∷ past) given within legal

  pub kept_before : (n : ℕ) → is_kept t n ≡ true → (is_kept s n ≡ true) ⊎ ((a : Activation) × In a s.activations × (a.number ≡ n) × IsComing c run past e a)
  kept_before n is =
      let (b, there, at, keeps) = kept_is t n is in
      elim (fresh_from c run past e b there keeps) [
        | kept a was later kept_ ↦ inl (kept_by c run s sound n a was (sym later.number ∙ at) kept_)
        | comes a was later coming ↦ inr (a, was, sym later.number ∙ at, coming)
      ]

  pub kept_after : (n : ℕ) → is_kept s n ≡ true → (is_kept t n ≡ true) ⊎ Tells c run past e n
  kept_after n is =
      let (a, there, at, keeps) = kept_is s n is in
      elim (fresh_to c run past e sound a there keeps) [
        | inl stays ↦ inl (kept_by c run t after n stays.0 stays.1 (stays.2 ∙ at) stays.3)
        | inr tells ↦ inr (subst (λ m. Tells c run past e m) at tells)
      ]

  -- of one number the same holds before and after
  pub kept_where : (n : ℕ) → ((a : Activation) → In a s.activations → a.number ≡ n → IsComing c run past e a → ⊥)
      → (is_kept s n ≡ true → Tells c run past e n → ⊥) → is_kept t n ≡ is_kept s n
  kept_where n uncoming untold =
      same_test (is_kept t n) (is_kept s n)
      (λ is. elim (kept_before n is) [ inl was ↦ was | inr come ↦ absurd (uncoming come.0 come.1 come.2 come.3) ])
      (λ is. elim (kept_after n is) [ inl stays ↦ stays | inr tells ↦ absurd (untold is tells) ])

  module _ (leaves : leaves_fresh e ≡ true) where
    pub kept_same : (n : ℕ) → is_kept t n ≡ is_kept s n
    kept_same n =
        kept_where n (λ a there at coming. true≢false (sym leaves ∙ ap leaves_fresh coming.same)) (λ _ tells. true≢false (sym leaves ∙ ap leaves_fresh tells.3))

    room_same : (store : Slots) → ((a : Activation) → In a s.activations → keeps_fresh a ≡ true → IsReserved store a.path a.oid) → (b : Activation)
        → In b t.activations → keeps_fresh b ≡ true → IsReserved store b.path b.oid
    room_same store room b there keeps =
        elim (fresh_from c run past e b there keeps) [
          | kept a was later kept_ ↦ room_later c store a b later (room a was kept_)
          | comes a was later coming ↦ absurd (true≢false (sym leaves ∙ ap leaves_fresh coming.same))
        ]

    -- the states change by a function
    pub changed_holds : (f : Sid → State → State) → ((u : Sid) → state_of c run opened (e ∷ past) u ≡ f u (state_of c run opened past u))
        → ((p : List (List ℕ)) (oid : List ℕ) → stored c run opened (e ∷ past) p oid ≡ stored c run opened past p oid)
        → (old new : Kept) → ServantsAgree c run opened past old → ((k : ℕ) → state_in new (NamedServant k) ≡ f (NamedServant k) (state_in old (NamedServant k)))
        → ((n : ℕ) → fresh_at new n ≡ option_map (f (FreshServant n)) (fresh_at old n)) → new.store ≡ old.store
        → ServantsAgree c run opened (e ∷ past) new
    changed_holds f states_ stored_ old new holds configured fresh store = record {
      configured = λ k. configured k ∙ ap (f (NamedServant k)) (holds.configured k) ∙ sym (states_ (NamedServant k));
      fresh = λ n. fresh n ∙ ap (option_map (f (FreshServant n))) (holds.fresh n)
          ∙ mapped_if (is_kept s n) (f (FreshServant n)) (state_of c run opened past (FreshServant n))
          ∙ ap₂ (λ b x. if b then Some x else None) (sym (kept_same n)) (sym (states_ (FreshServant n)));
      room = room_same new.store (λ a there keeps. subst (λ x. IsReserved x a.path a.oid) (sym store) (holds.room a there keeps));
      stored = λ p oid. ap (λ x. stored_in (record old { store = x }) p oid) store ∙ holds.stored p oid ∙ sym (stored_ p oid);
    }

-- no servant acts, and nothing is stored
module _ (c : Config) (run : ℕ) (opened : Stored) (past : List Entry) where
  pub state_same : (e : Entry) → is_quiet e ≡ true → (u : Sid) → state_of c run opened (e ∷ past) u ≡ state_of c run opened past u
  state_same (Entered conn) quiet u = refl
  state_same (Arrive conn size call) quiet u = refl
  state_same (Filled conn size) quiet u = refl
  state_same (Left conn) quiet u = refl
  state_same (Collect conn a) quiet u = refl
  state_same (Admit w r v) quiet u = refl
  state_same (Tried w a) quiet u = refl
  state_same (Incarnated w (Fresh n)) quiet u = absurd (let f : false ≡ true = quiet in cc)
  state_same (Incarnated w (Named name)) quiet u = refl
  state_same (Incarnated w Double) quiet u = refl
  state_same (Incarnated w (ForwardTo x)) quiet u = refl
  state_same (Incarnated w (Raise x)) quiet u = refl
  state_same (Run w) quiet u = absurd (let f : false ≡ true = quiet in cc)
  state_same (Done w) quiet u = refl
  state_same (TakeOut w n x) quiet u = refl
  state_same (Etherealized w x y) quiet u = refl
  state_same (Abandon w) quiet u = refl

  pub stored_same : (e : Entry) → is_quiet e ≡ true → (p : List (List ℕ)) (oid : List ℕ) → stored c run opened (e ∷ past) p oid ≡ stored c run opened past p oid
  stored_same (Entered conn) quiet p oid = refl
  stored_same (Arrive conn size call) quiet p oid = refl
  stored_same (Filled conn size) quiet p oid = refl
  stored_same (Left conn) quiet p oid = refl
  stored_same (Collect conn a) quiet p oid = refl
  stored_same (Admit w r v) quiet p oid = refl
  stored_same (Tried w a) quiet p oid = refl
  stored_same (Incarnated w a) quiet p oid = refl
  stored_same (Run w) quiet p oid = refl
  stored_same (Done w) quiet p oid = refl
  stored_same (TakeOut w n x) quiet p oid = refl
  stored_same (Etherealized w x y) quiet p oid = absurd (let f : false ≡ true = quiet in cc)
  stored_same (Abandon w) quiet p oid = refl

quiet_leaves : (e : Entry) → is_quiet e ≡ true → leaves_fresh e ≡ true
quiet_leaves (Run w) quiet = refl
quiet_leaves (Entered conn) quiet = refl
quiet_leaves (Arrive conn size call) quiet = refl
quiet_leaves (Filled conn size) quiet = refl
quiet_leaves (Left conn) quiet = refl
quiet_leaves (Collect conn a) quiet = refl
quiet_leaves (Admit w r v) quiet = refl
quiet_leaves (Tried w a) quiet = refl
quiet_leaves (Incarnated w a) quiet = quiet
quiet_leaves (Done w) quiet = refl
quiet_leaves (TakeOut w n x) quiet = refl
quiet_leaves (Etherealized w x y) quiet = quiet
quiet_leaves (Abandon w) quiet = refl

itself : (o : Option State) → o ≡ option_map (λ x. x) o
itself None = refl
itself (Some x) = refl

pub quiet_holds : (c : Config) (run limit : ℕ) (opened : Stored) (past : List Entry) (e : Entry) → IsGiven c run → IsWithinLimits c limit
    → IsLegal c run limit (e ∷ past) → is_quiet e ≡ true → (old : Kept) → ServantsAgree c run opened past old → ServantsAgree c run opened (e ∷ past) old
quiet_holds c run limit opened past e given within legal quiet old holds =
    changed_holds c run limit opened past e given within legal (quiet_leaves e quiet) (λ u x. x) (state_same c run opened past e quiet)
    (stored_same c run opened past e quiet) old old holds (λ k. refl) (λ n. itself (fresh_at old n)) refl
