-- Each ordinal of a system-made id is that of one id, and an id has the next one when it is made.
use Rattle.std.specs.Prelude.{◌≡◌, ℕ, zero, suc, ◌^◌, ◌<◌, ◌≤◌, Bool, true, false, ◌&&◌, nat_lt, if◌then◌else◌, List, [], ◌∷◌}
use Rattle.std.specs.Prelude.{◌++◌, length, take, drop, Option, Some, None, option_and_then, slice_get, is_some, refl, ◌⊎◌}
use Rattle.std.specs.Int.{w32, from_be_bytes}
use Rattle.std.proofs.Common.{inl, inr, sym, subst, ap, ap₂, ◌∙◌, arith, length-append}
use Rattle.std.proofs.lemmas.Bool.{cond_both, cases_Bool, and_parts, true≢false, lt-ltb, ltb-true, ltb-false, false_from_ne_true}
use Rattle.std.proofs.lemmas.List.{length-map}
use Rattle.std.proofs.lemmas.Nat.{from_be_bytes-to_be_bytes_4}
use Rattle.poa_base.specs.declared.Config.{Config}
use Rattle.poa_base.specs.declared.ObjectConf.{ObjectConf}
use Rattle.poa_base.specs.declared.Call.{Call}
use Rattle.poa_base.specs.declared.Call.TheVariants.{Request, Locate, Line}
use Rattle.poa_base.specs.declared.Command.{Command}
use Rattle.poa_base.specs.declared.Command.TheVariants.{Manager, Create, Destroy, Activate, ActivateId, Deactivate, Reference, Preset as PresetLine}
use Rattle.poa_base.specs.declared.Command.TheVariants.{Forward as ForwardLine, Unforward, Shutdown, Bad}
use Rattle.poa_base.specs.declared.Order.TheVariants.{Activate as ActivateAll, Hold, Discard, Deactivate as DeactivateAll}
use Rattle.poa_base.specs.declared.Attempt.{Attempt}
use Rattle.poa_base.specs.declared.Attempt.TheVariants.{Yes, No, Raised, Dying as ParentDying}
use Rattle.poa_base.specs.declared.Verdict.{Verdict}
use Rattle.poa_base.specs.declared.Entry.{Entry}
use Rattle.poa_base.specs.declared.Entry.TheVariants.{Entered, Arrive, Filled, Left, Collect, Admit, Tried, Incarnated}
use Rattle.poa_base.specs.declared.Entry.TheVariants.{Run, Done, TakeOut, Etherealized, Abandon}
use Rattle.history_standing.specs.Trees.{In}
use Rattle.history_standing.specs.declared.activation.Activation.{Activation}
use Rattle.history_standing.specs.Arrivals.{call_of}
use Rattle.poa_history.specs.Bounds.{IsWithinLimits}
use Rattle.history_standing.specs.Changes.{standing, changed, with_admitted, with_manager_off, servant_of, with_made_activation, with_reference, with_command, child_tried, with_child, without_flight, with_tried}
use Rattle.history_standing.specs.Commands.{is_implicit, live_at}
use Rattle.history_standing.specs.Ends.{let_out}
use Rattle.history_standing.specs.Keys.{key_in}
use Rattle.poa_history.specs.Legal.{IsLegal}
use Rattle.history_standing.specs.Logs.{is_accepted, command_in, command_done}
use Rattle.history_standing.specs.Opening.{made_id, number_at}
use Rattle.poa_history.specs.Sound.{IsGiven}
use Rattle.history_standing.specs.Stages.{stage, arrival_in}
use Rattle.history_standing.specs.Standings.{Standing}
use Rattle.history_standing.specs.Templates.{manager_number, servant_number}
use Rattle.poa_history.proofs.ActivationsFrom.{activation_from, begun as activation_begun, stood as activation_stood}
use Rattle.poa_history.proofs.ActivationsFrom.{BegunBy, incarnating, activating, activating_id, referring}
use Rattle.poa_history.proofs.IdsFew.{has_ordinal}
use Rattle.poa_history.proofs.LegalSound.{legal_sound}
use Rattle.poa_history.proofs.LivesKept.{as_many, one_more, changed_shape}
use Rattle.poa_history.proofs.Untouched.{made_in}
use Rattle.history_words.specs.Ordinals.{names_no_id, begins_one, makes_id, unnamed, ids_made, ordinal_of_object, ordinal_of}
use Rattle.history_words.proofs.Opened.{opened_is, opening_made}
use Rattle.history_words.proofs.Still.{done_by, still_admitted, still_fewer, still_incarnated, still_etherealized}

-- what a command makes of ids: none, none where nothing is begun, or one with the activation that it begins
pub data Makes (s t : Standing) (d : Option Command) : Type 0 where
  none : t.made ≡ s.made → names_no_id d ≡ false → Makes s t d
  still : t.made ≡ s.made → length t.activations ≡ length s.activations → Makes s t d
  one : t.made ≡ suc s.made → names_no_id d ≡ true → length t.activations ≡ suc (length s.activations) → Makes s t d

module _ (c : Config) (run : ℕ) where
  longer : (p : List (List ℕ)) (servant : List ℕ) (s : Standing) → length (with_made_activation c run p servant s).activations ≡ suc (length s.activations)
  longer p servant s =
      (let parts = length-append s.activations
      (record {
        number = length s.activations;
        adapter = number_at s p;
        path = p;
        oid = made_id run (suc s.made);
        phase = servant_of c servant;
        ending = false;
        quiet = false;
        out = false;
        cleanup = false;
        remaining = false;
        etherealized = false;
      } ∷ []) in omega (arith, parts))

  makes_off : (name : List ℕ) (wait : Bool) (s : Standing)
      → Makes s (elim (manager_number c name) [ Some m ↦ with_manager_off c m s | None ↦ s ]) (Some (Manager name (DeactivateAll true wait)))
  makes_off name wait s =
      none (elim (manager_number c name) as
      (λ o. made_in (elim o [ Some m ↦ with_manager_off c m s | None ↦ s ]) ≡ s.made) [ Some m ↦ refl | None ↦ refl ]) refl

  makes_reference : (p : List (List ℕ)) (servant : List ℕ) (s : Standing) → Makes s (with_reference c run p servant s) (Some (Reference p servant))
  makes_reference p servant s =
      elim (live_at s p) as
      (λ o. Makes s
      (elim o [
        | Some n ↦
            (elim (servant_number c servant)
            [ Some k ↦ (if is_implicit c s n k then with_made_activation c run p servant s else s) | None ↦ s ])
        | None ↦ s
      ]) (Some (Reference p servant))) [
        | Some n ↦ elim (servant_number c servant) as
            (λ o. Makes s (elim o [ Some k ↦ (if is_implicit c s n k then with_made_activation c run p servant s else s) | None ↦ s ])
            (Some (Reference p servant))) [
              | Some k ↦ cond_both (is_implicit c s n k) (with_made_activation c run p servant s) s (λ t. Makes s t (Some (Reference p servant)))
                  (λ _. one refl refl (longer p servant s)) (λ _. still refl refl)
              | None ↦ still refl refl
            ]
        | None ↦ still refl refl
      ]

  makes_command : (d : Option Command) (s : Standing) → Makes s (with_command c run d s) d
  makes_command None s = none refl refl
  makes_command (Some (Manager name ActivateAll)) s = none refl refl
  makes_command (Some (Manager name (Hold wait))) s = none refl refl
  makes_command (Some (Manager name (Discard wait))) s = none refl refl
  makes_command (Some (Manager name (DeactivateAll true wait))) s = makes_off name wait s
  makes_command (Some (Manager name (DeactivateAll false wait))) s = none refl refl
  makes_command (Some (Create p)) s = none refl refl
  makes_command (Some (Destroy p etherealize wait)) s = none refl refl
  makes_command (Some (Activate p servant)) s = one refl refl (longer p servant s)
  makes_command (Some (ActivateId p oid servant)) s = none refl refl
  makes_command (Some (Deactivate p oid)) s = none refl refl
  makes_command (Some (Reference p servant)) s = makes_reference p servant s
  makes_command (Some (PresetLine p servant)) s = none refl refl
  makes_command (Some (ForwardLine p endpoint)) s = none refl refl
  makes_command (Some (Unforward p)) s = none refl refl
  makes_command (Some Shutdown) s = none refl refl
  makes_command (Some (Bad word)) s = none refl refl

  made_child : (p : Option (List (List ℕ))) (s : Standing) → (with_child p s).made ≡ s.made
  made_child None s = refl
  made_child (Some p) s = refl

  made_tried : (r : Option ℕ) (answer : Attempt) (s : Standing) → (with_tried r answer s).made ≡ s.made
  made_tried r (Yes n) s = made_child (child_tried s.flights r) (without_flight r s) ∙ ap (λ k. k.2) (still_fewer r s)
  made_tried r No s = ap (λ k. k.2) (still_fewer r s)
  made_tried r Raised s = ap (λ k. k.2) (still_fewer r s)
  made_tried r ParentDying s = ap (λ k. k.2) (still_fewer r s)

  makes_entry : (past : List Entry) (e : Entry) (s : Standing) → Makes s (changed c run past e s) (command_done past e)
  makes_entry past (Entered conn) s = none refl refl
  makes_entry past (Arrive conn size call) s = none refl refl
  makes_entry past (Filled conn size) s = none refl refl
  makes_entry past (Left conn) s = none refl refl
  makes_entry past (Collect conn a) s = none refl refl
  makes_entry past (Admit w r v) s = by_call (call_of past r) refl
    where
      message : command_in (call_of past r) ≡ None
          → Makes s (with_command c run (command_done past (Admit w r v)) (with_admitted r (key_in (call_of past r)) v s)) (command_done past (Admit w r v))
      message none_ =
          subst (λ d. Makes s (with_command c run d (with_admitted r (key_in (call_of past r)) v s)) d)
          (sym (cond_both (is_accepted v) (command_in (call_of past r)) None (λ o. o ≡ None) (λ _. none_) (λ _. refl)))
          (none (ap (λ k. k.2) (still_admitted r (key_in (call_of past r)) v s)) refl)

      line : key_in (call_of past r) ≡ None
          → Makes s (with_command c run (command_done past (Admit w r v)) (with_admitted r (key_in (call_of past r)) v s)) (command_done past (Admit w r v))
      line none_ =
          subst (λ k. Makes s (with_command c run (command_done past (Admit w r v)) (with_admitted r k v s)) (command_done past (Admit w r v))) (sym none_)
          (makes_command (command_done past (Admit w r v)) s)

      by_call : (call : Option Call) → call_of past r ≡ call
          → Makes s (with_command c run (command_done past (Admit w r v)) (with_admitted r (key_in (call_of past r)) v s)) (command_done past (Admit w r v))
      by_call None at = message (ap command_in at)
      by_call (Some (Request head target operation body)) at = message (ap command_in at)
      by_call (Some (Locate head target)) at = message (ap command_in at)
      by_call (Some (Line number command)) at = line (ap key_in at)
  makes_entry past (Tried w answer) s = none (made_tried (arrival_in (stage past w)) answer s) refl
  makes_entry past (Incarnated w answer) s = none (ap (λ k. k.2) (still_incarnated c (stage past w) answer s)) refl
  makes_entry past (Run w) s = none refl refl
  makes_entry past (Done w) s = none (ap (λ k. k.2) (still_fewer (arrival_in (stage past w)) s)) refl
  makes_entry past (TakeOut w n x) s = none refl refl
  makes_entry past (Etherealized w x y) s = none (ap (λ k. k.2) (still_etherealized (stage past w) s)) refl
  makes_entry past (Abandon w) s = none refl refl

  module _ (past : List Entry) (e : Entry) where
    abbrev s : Standing
    s = standing c run past

    abbrev t : Standing
    t = standing c run (e ∷ past)

    pub settles_same : length t.activations ≡ length (changed c run past e s).activations
    settles_same = length-map (changed c run past e s).activations (let_out c (changed c run past e s))

    makes : Makes s t (command_done past e)
    makes =
        elim (makes_entry past e s) [
          | none made no_ ↦ none made no_
          | still made same ↦ still made (settles_same ∙ same)
          | one made yes_ more ↦ one made yes_ (settles_same ∙ more)
        ]

    -- as the sentence says it
    pub makes_is : ((makes_id c run past e ≡ false) × (t.made ≡ s.made)) ⊎ ((makes_id c run past e ≡ true) × (t.made ≡ suc s.made))
    makes_is =
        elim makes [
          | none made no_ ↦ inl (ap (λ b. b && begins_one c run past e) no_, made)
          | still made same ↦ inl (
            and_nothing (names_no_id (command_done past e)) (begins_one c run past e)
                (false_from_ne_true _ (λ is. let less = ltb-true (length s.activations) (length t.activations) is in omega (arith, less, same))),
            made,
          )
          | one made yes_ more ↦ inr (ap₂ (λ x y. x && y) yes_ (lt-ltb _ _ (omega (arith, more))), made)
        ]
      where
        and_nothing : (x y : Bool) → y ≡ false → (x && y) ≡ false
        and_nothing true y is = is
        and_nothing false y is = refl

    pub at_most_one : length t.activations ≤ suc (length s.activations)
    at_most_one =
        elim (changed_shape c run past s e) [
          | as_many equal ↦ (let same = settles_same in omega (arith, same, equal))
          | one_more b number grown ↦ (let same = settles_same in
              let all : length (changed c run past e s).activations ≡ length (s.activations ++ b ∷ []) = ap length grown in
              let parts = length-append s.activations (b ∷ []) in omega (arith, same, all, parts))
        ]

    -- an `activate` begins an activation
    activate_longer : (p : List (List ℕ)) (servant : List ℕ) → command_done past e ≡ Some (Activate p servant)
        → length t.activations ≡ suc (length s.activations)
    activate_longer p servant done =
        let (w, r, v, is) = done_by past e (Activate p servant) done in
        settles_same
        ∙ (ap (λ x. length (changed c run past x s).activations) is ∙ by_call w r v (call_of past r) refl (ap (command_done past) (sym is) ∙ done))
      where
        no_command : (w r : ℕ) (v : Verdict) (call : Option Call) → call_of past r ≡ call → command_in call ≡ None
            → command_done past (Admit w r v) ≡ Some (Activate p servant) → ⊥
        no_command w r v call at none_ done' =
            (let f : None ≡ Some (Activate p servant) = sym
            (cond_both (is_accepted v) (command_in (call_of past r)) None (λ o. o ≡ None) (λ _. ap command_in at ∙ none_) (λ _. refl)) ∙ done' in cc)

        by_call : (w r : ℕ) (v : Verdict) (call : Option Call) → call_of past r ≡ call → command_done past (Admit w r v) ≡ Some (Activate p servant)
            → length (changed c run past (Admit w r v) s).activations ≡ suc (length s.activations)
        by_call w r v None at done' = absurd (no_command w r v None at refl done')
        by_call w r v (Some (Request head target operation body)) at done' =
            absurd (no_command w r v (Some (Request head target operation body)) at refl done')
        by_call w r v (Some (Locate head target)) at done' = absurd (no_command w r v (Some (Locate head target)) at refl done')
        by_call w r v (Some (Line number command)) at done' =
            ap₂ (λ d k. length (with_command c run d (with_admitted r k v s)).activations) done' (ap key_in at) ∙ longer p servant s

    pub activate_makes : (p : List (List ℕ)) (servant : List ℕ) → command_done past e ≡ Some (Activate p servant) → makes_id c run past e ≡ true
    activate_makes p servant done =
        (let more = activate_longer p servant done in ap₂ (λ x y. x && y) (ap names_no_id done) (lt-ltb _ _ (omega (arith, more))))

    -- the activation that such an entry begins has the next id
    pub next_oid : (b : Activation) → makes_id c run past e ≡ true → BegunBy c run past s e b → b.oid ≡ made_id run (suc s.made)
    next_oid b makes_ (incarnating w r n key is has adapter path oid phase) =
        absurd (true≢false
        (sym (and_parts (names_no_id (command_done past e)) (begins_one c run past e) makes_).0 ∙ ap (λ x. names_no_id (command_done past x)) is))
    next_oid b makes_ (activating p servant done adapter path oid phase) = oid
    next_oid b makes_ (activating_id p oid' servant done adapter path oid phase) =
        absurd (true≢false (sym (and_parts (names_no_id (command_done past e)) (begins_one c run past e) makes_).0 ∙ ap names_no_id done))
    next_oid b makes_ (referring p servant n k done lives known implicit adapter path oid phase) = oid

    -- an ordinal was that of an activation begun before, or is the next one
    ordinal_step : (n k : ℕ) → ordinal_of c run (e ∷ past) n ≡ Some k
        → ((nat_lt n (length s.activations) ≡ true) × (ordinal_of c run past n ≡ Some k))
        ⊎ ((nat_lt n (length s.activations) ≡ false) × (makes_id c run past e ≡ true) × (k ≡ suc (ids_made c run past)))
    ordinal_step n k is =
        elim (cases_Bool (nat_lt n (length s.activations))) [
          | inl early ↦ inl (
            early,
            ap (λ b. if b then ordinal_of c run past n else if makes_id c run past e then Some (suc (ids_made c run past)) else None) (sym early)
                ∙ is,
          )
          | inr late ↦ (let now : (if makes_id c run past e then Some (suc (ids_made c run past)) else None) ≡ Some k =
              ap (λ b. if b then ordinal_of c run past n else if makes_id c run past e then Some (suc (ids_made c run past)) else None) (sym late) ∙ is in
              elim (cases_Bool (makes_id c run past e)) [
                | inl makes_ ↦
                    (let same : Some (suc (ids_made c run past)) ≡ Some k = ap (λ b. if b then Some (suc (ids_made c run past)) else None) (sym makes_)
                    ∙ now in inr (late, makes_, cc))
                | inr no_ ↦ absurd (let same : None ≡ Some k = ap (λ b. if b then Some (suc (ids_made c run past)) else None) (sym no_) ∙ now in cc)
              ])
        ]

    pub ids_step : ids_made c run past ≤ ids_made c run (e ∷ past)
    ids_step =
        cond_both (makes_id c run past e) (suc (ids_made c run past)) (ids_made c run past) (λ n. ids_made c run past ≤ n) (λ _. omega arith)
        (λ _. omega arith)

  pub made_is : (h : List Entry) → (standing c run h).made ≡ ids_made c run h
  made_is [] = opening_made c run
  made_is (e ∷ past) =
      elim (makes_is past e) [
        | inl no_ ↦ no_.1 ∙ (made_is past ∙ ap (λ b. if b then suc (ids_made c run past) else ids_made c run past) (sym no_.0))
        | inr yes_ ↦ yes_.1 ∙ (ap (λ n. suc n) (made_is past) ∙ ap (λ b. if b then suc (ids_made c run past) else ids_made c run past) (sym yes_.0))
      ]

-- two ordinals have two ids
pub made_alone : (run i j : ℕ) → i < 2 ^ 32 → j < 2 ^ 32 → made_id run i ≡ made_id run j → i ≡ j
made_alone run i j i_small j_small same =
    sym (from_be_bytes-to_be_bytes_4 i i_small) ∙ (ap (λ x. from_be_bytes w32 (drop 4 x)) same ∙ from_be_bytes-to_be_bytes_4 j j_small)

-- the ordinals of configured objects
record IsUnnamed (os : List ObjectConf) (n k : ℕ) : Type 0 where
  object : ObjectConf
  found : slice_get os n ≡ Some object
  unnamed_ : object.oid ≡ None
  ordinal : k ≡ suc (unnamed (take n os))

unnamed_is : (os : List ObjectConf) (n k : ℕ) → ordinal_of_object os n ≡ Some k → IsUnnamed os n k
unnamed_is os n k is = by_object (slice_get os n) refl is
  where
    by_oid : (o : ObjectConf) → slice_get os n ≡ Some o → (oid : Option (List ℕ)) → o.oid ≡ oid
        → (elim oid as (λ _. Option ℕ) [ None ↦ Some (suc (unnamed (take n os))) | Some i ↦ None ]) ≡ Some k → IsUnnamed os n k
    by_oid o found None at same =
        record { object = o; found = found; unnamed_ = at; ordinal = (let e : Some (suc (unnamed (take n os))) ≡ Some k = same in cc) }
    by_oid o found (Some i) at same = absurd (let e : None ≡ Some k = same in cc)

    by_object : (o : Option ObjectConf) → slice_get os n ≡ o
        → option_and_then (λ x. elim x.oid as (λ _. Option ℕ) [ None ↦ Some (suc (unnamed (take n os))) | Some i ↦ None ]) o ≡ Some k → IsUnnamed os n k
    by_object None found same = absurd (let e : None ≡ Some k = same in cc)
    by_object (Some o) found same = by_oid o found o.oid refl same

abbrev one_if_none : Option (List ℕ) → ℕ → ℕ
one_if_none oid n = elim oid as (λ _. ℕ) [ None ↦ suc n | Some i ↦ n ]

more_if : (oid : Option (List ℕ)) (n m : ℕ) → suc n ≤ m → suc (one_if_none oid n) ≤ one_if_none oid m
more_if None n m less = omega (arith, less)
more_if (Some i) n m less = less

-- an unnamed object is one more
unnamed_grow : (os : List ObjectConf) (n m : ℕ) (o : ObjectConf) → slice_get os n ≡ Some o → o.oid ≡ None → n < m
    → suc (unnamed (take n os)) ≤ unnamed (take m os)
unnamed_grow [] n m o found nameless less = absurd (let e : None ≡ Some o = found in cc)
unnamed_grow (x ∷ os) n zero o found nameless less = absurd (omega (arith, less))
unnamed_grow (x ∷ os) zero (suc m) o found nameless less =
    (let e : Some x ≡ Some o = found in let same : x ≡ o = cc in
    subst (λ oid. 1 ≤ one_if_none oid (unnamed (take m os))) (sym (ap (λ y. y.oid) same ∙ nameless)) (omega arith))
unnamed_grow (x ∷ os) (suc n) (suc m) o found nameless less =
    more_if x.oid (unnamed (take n os)) (unnamed (take m os)) (unnamed_grow os n m o found nameless (omega (arith, less)))

unnamed_low : (os : List ObjectConf) (n : ℕ) (o : ObjectConf) → slice_get os n ≡ Some o → o.oid ≡ None → suc (unnamed (take n os)) ≤ unnamed os
unnamed_low [] n o found nameless = absurd (let e : None ≡ Some o = found in cc)
unnamed_low (x ∷ os) zero o found nameless =
    (let e : Some x ≡ Some o = found in let same : x ≡ o = cc in
    subst (λ oid. 1 ≤ one_if_none oid (unnamed os)) (sym (ap (λ y. y.oid) same ∙ nameless)) (omega arith))
unnamed_low (x ∷ os) (suc n) o found nameless = more_if x.oid (unnamed (take n os)) (unnamed os) (unnamed_low os n o found nameless)

object_alone : (os : List ObjectConf) (n m k : ℕ) → ordinal_of_object os n ≡ Some k → ordinal_of_object os m ≡ Some k → n ≡ m
object_alone os n m k one_ two_ =
    let first = unnamed_is os n k one_ in
    let second = unnamed_is os m k two_ in
    let here = first.ordinal in
    let there = second.ordinal in
    elim (cases_Bool (nat_lt n m)) [
      | inl less ↦ absurd (let grows = unnamed_grow os n m first.object first.found first.unnamed_ (ltb-true n m less) in omega (arith, grows, here, there))
      | inr high ↦ elim (cases_Bool (nat_lt m n)) [
        | inl less ↦ absurd
            (let grows = unnamed_grow os m n second.object second.found second.unnamed_ (ltb-true m n less) in omega (arith, grows, here, there))
        | inr low ↦ (let above = ltb-false n m high in let below = ltb-false m n low in omega (arith, above, below))
      ]
    ]

module _ (c : Config) (run limit : ℕ) (given : IsGiven c run) (within : IsWithinLimits c limit) where
  -- no ordinal is above the count
  ordinal_low : (h : List Entry) (n k : ℕ) → ordinal_of c run h n ≡ Some k → k ≤ ids_made c run h
  ordinal_low [] n k is =
      (let object = unnamed_is c.objects n k is in let low = unnamed_low c.objects n object.object object.found object.unnamed_ in
      let at = object.ordinal in omega (arith, low, at))
  ordinal_low (e ∷ past) n k is =
      elim (ordinal_step c run past e n k is) [
        | inl before ↦ (let low = ordinal_low past n k before.1 in let more = ids_step c run past e in omega (arith, low, more))
        | inr now ↦
            (let made : ids_made c run (e ∷ past) ≡ suc (ids_made c run past) = ap
            (λ b. if b then suc (ids_made c run past) else ids_made c run past) now.1 in let at = now.2 in omega (arith, made, at))
      ]

  ordinal_alone : (h : List Entry) (n m k : ℕ) → n < length (standing c run h).activations → m < length (standing c run h).activations
      → ordinal_of c run h n ≡ Some k → ordinal_of c run h m ≡ Some k → n ≡ m
  ordinal_alone [] n m k n_low m_low one_ two_ = object_alone c.objects n m k one_ two_
  ordinal_alone (e ∷ past) n m k n_low m_low one_ two_ =
      elim (ordinal_step c run past e n k one_) [
        | inl first ↦ elim (ordinal_step c run past e m k two_) [
          | inl second ↦ ordinal_alone past n m k (ltb-true n (length (standing c run past).activations) first.0)
              (ltb-true m (length (standing c run past).activations) second.0) first.1 second.1
          | inr second ↦ absurd (let low = ordinal_low past n k first.1 in let at = second.2 in omega (arith, low, at))
        ]
        | inr first ↦ elim (ordinal_step c run past e m k two_) [
          | inl second ↦ absurd (let low = ordinal_low past m k second.1 in let at = first.2 in omega (arith, low, at))
          | inr second ↦ (let most = at_most_one c run past e in
              let n_high = ltb-false n (length (standing c run past).activations) first.0 in
              let m_high = ltb-false m (length (standing c run past).activations) second.0 in omega (arith, most, n_low, m_low, n_high, m_high))
        ]
      ]

  -- the id of an activation is that of its ordinal
  pub numbered_is : (h : List Entry) → IsLegal c run limit h → (a : Activation) → In a (standing c run h).activations → (k : ℕ)
      → ordinal_of c run h a.number ≡ Some k → a.oid ≡ made_id run k
  numbered_is [] legal a there k is =
      (let opened = opened_is c run a there in
      let object = unnamed_is c.objects a.number k is in
      let objects : Some opened.object ≡ Some object.object = sym opened.found ∙ object.found in
      let same : opened.object ≡ object.object = cc in
      opened.made (ap (λ o. o.oid) same ∙ object.unnamed_) ∙ ap (λ n. made_id run n) (sym object.ordinal))
  numbered_is (e ∷ past) legal b there k is =
      elim (activation_from c run past e b there) [
        | activation_stood a was step ↦ elim (ordinal_step c run past e b.number k is) [
          | inl before ↦ step.later.oid ∙ numbered_is past legal.1 a was k (ap (ordinal_of c run past) (sym step.later.number) ∙ before.1)
          | inr now ↦ absurd (let low = (legal_sound c run limit past given within legal.1).counted a was in
              let high = ltb-false b.number (length (standing c run past).activations) now.0 in let same =
              step.later.number in omega (arith, low, high, same))
        ]
        | activation_begun fresh ↦ elim (ordinal_step c run past e b.number k is) [
          | inl before ↦ absurd
              (let low = ltb-true b.number (length (standing c run past).activations) before.0 in let same = fresh.number in omega (arith, low, same))
          | inr now ↦ next_oid c run past e b now.1 fresh.how ∙ ap (λ n. made_id run n) (ap (λ n. suc n) (made_is c run past) ∙ sym now.2)
        ]
      ]

  -- and of one id there is one
  pub made_once : (h : List Entry) → IsLegal c run limit h → (a b : Activation) → In a (standing c run h).activations → In b (standing c run h).activations
      → is_some (ordinal_of c run h a.number) ≡ true → is_some (ordinal_of c run h b.number) ≡ true → a.oid ≡ b.oid → a ≡ b
  made_once h legal a b a_in b_in a_made b_made same = by_ordinals (ordinal_of c run h a.number) refl (ordinal_of c run h b.number) refl a_made b_made
    where
      small : (n k : ℕ) → ordinal_of c run h n ≡ Some k → k < 2 ^ 32
      small n k is =
          (let low = ordinal_low h n k is in let few = has_ordinal c run limit within h legal in
          let made = made_is c run h in omega (arith, low, few, made))

      by_ordinals : (o : Option ℕ) → ordinal_of c run h a.number ≡ o → (p : Option ℕ) → ordinal_of c run h b.number ≡ p → is_some o ≡ true
          → is_some p ≡ true → a ≡ b
      by_ordinals None a_is p b_is one_ two_ = absurd (let e : false ≡ true = one_ in cc)
      by_ordinals (Some i) a_is None b_is one_ two_ = absurd (let e : false ≡ true = two_ in cc)
      by_ordinals (Some i) a_is (Some j) b_is one_ two_ =
          let ids : made_id run i ≡ made_id run j = sym (numbered_is h legal a a_in i a_is) ∙ (same ∙ numbered_is h legal b b_in j b_is) in
          let ordinals : i ≡ j = made_alone run i j (small a.number i a_is) (small b.number j b_is) ids in
          let sound = legal_sound c run limit h given within legal in
          let numbers : a.number ≡ b.number =
          ordinal_alone h a.number b.number i (sound.counted a a_in) (sound.counted b b_in) a_is (b_is ∙ ap (λ n. Some n) (sym ordinals)) in
          sound.activation_alone a b a_in b_in numbers
