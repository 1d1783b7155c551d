-- What is asked of activations that are on their way in or out, where none is.
use Rattle.std.specs.Prelude.{◌≡◌, Bool, true, false, not, List, [], ◌∷◌, map, filter, refl}
use Rattle.std.specs.List.{list_any}
use Rattle.std.proofs.Common.{sym, ap, ap₂, ◌∙◌}
use Rattle.std.proofs.lemmas.Bool.{or_parts, or_from, and_parts, and_left, and_right, not-true, not-false, cond-true, cond-false}
use Rattle.poa_base.specs.declared.Config.{Config}
use Rattle.history_standing.specs.declared.activation.Activation.{Activation}
use Rattle.history_standing.specs.declared.activation.Phase.{Phase}
use Rattle.history_standing.specs.declared.activation.Phase.TheVariants.{Begun, Complete, Void}
use Rattle.history_standing.specs.Ends.{is_over, is_left, let_out}
use Rattle.history_standing.specs.Standings.{Standing, is_complete, is_void, is_begun, is_ending, is_active}
use Rattle.history_standing.specs.Templates.{has_activator}
use Rattle.active_map.specs.Tables.{is_moving}

-- one that doesn't move is complete, isn't ending and is in the map
module _ (a : Activation) (still : is_moving a ≡ false) where
  active : is_active a ≡ true
  active = not-false (is_active a) (or_parts (not (is_active a)) a.out still).0

  pub still_complete : is_complete a ≡ true
  still_complete = (and_parts (is_complete a) (not a.ending) active).0

  pub still_lasts : a.ending ≡ false
  still_lasts = not-true a.ending (and_parts (is_complete a) (not a.ending) active).1

  pub still_in : a.out ≡ false
  still_in = (or_parts (not (is_active a)) a.out still).1

  not_void : (p : Phase) → elim p [ Complete s ↦ true | Begun ↦ false | Void ↦ false ] ≡ true
      → elim p [ Void ↦ true | Begun ↦ false | Complete s ↦ false ] ≡ false
  not_void (Complete s) is = refl
  not_void Begun is = refl
  not_void Void is = sym is

  not_begun : (p : Phase) → elim p [ Complete s ↦ true | Begun ↦ false | Void ↦ false ] ≡ true
      → elim p [ Begun ↦ true | Complete s ↦ false | Void ↦ false ] ≡ false
  not_begun (Complete s) is = refl
  not_begun Begun is = sym is
  not_begun Void is = refl

  pub still_begun : is_begun a ≡ false
  still_begun = not_begun a.phase still_complete

  pub still_ending : is_ending a ≡ false
  still_ending = and_left a.ending (not (is_void a)) still_lasts

  -- it isn't over, and isn't to leave the map
  pub still_lives : (c : Config) → is_over c a ≡ false
  still_lives c = or_from (is_void a) _ (not_void a.phase still_complete) (and_left a.out _ still_in)

  pub still_stays : (c : Config) (s : Standing) → let_out c s a ≡ a
  still_stays c s =
      cond-false (is_left c s a) (record a { out = true }) a
      (and_right (not (has_activator c a.path)) _ (and_right (is_complete a) _ (and_left (is_ending a) _ still_ending)))

-- where none moves
pub any_still : (test : Activation → Bool) → ((a : Activation) → is_moving a ≡ false → test a ≡ false) → (as' : List Activation)
    → list_any is_moving as' ≡ false
    → list_any test as' ≡ false
any_still test fails [] none = refl
any_still test fails (a ∷ as') none =
    (let parts = or_parts (is_moving a) (list_any is_moving as') none in or_from (test a) (list_any test as') (fails a parts.0)
    (any_still test fails as' parts.1))

pub map_still : (f : Activation → Activation) → ((a : Activation) → is_moving a ≡ false → f a ≡ a) → (as' : List Activation) → list_any is_moving as' ≡ false
    → map f as' ≡ as'
map_still f same [] none = refl
map_still f same (a ∷ as') none =
    (let parts = or_parts (is_moving a) (list_any is_moving as') none in ap₂ (λ b bs. b ∷ bs) (same a parts.0) (map_still f same as' parts.1))

pub kept_still : (p : Activation → Bool) → ((a : Activation) → is_moving a ≡ false → p a ≡ true) → (as' : List Activation) → list_any is_moving as' ≡ false
    → filter p as' ≡ as'
kept_still p passes [] none = refl
kept_still p passes (a ∷ as') none =
    (let parts = or_parts (is_moving a) (list_any is_moving as') none in
    cond-true (p a) (a ∷ filter p as') (filter p as') (passes a parts.0) ∙ ap (λ bs. a ∷ bs) (kept_still p passes as' parts.1))

pub none_still : (p : Activation → Bool) → ((a : Activation) → is_moving a ≡ false → p a ≡ false) → (as' : List Activation) → list_any is_moving as' ≡ false
    → filter p as' ≡ []
none_still p fails [] none = refl
none_still p fails (a ∷ as') none =
    (let parts = or_parts (is_moving a) (list_any is_moving as') none in
    cond-false (p a) (a ∷ filter p as') (filter p as') (fails a parts.0) ∙ none_still p fails as' parts.1)
