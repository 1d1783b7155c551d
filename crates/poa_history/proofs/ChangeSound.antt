-- What an entry changes keeps what stands sound, where the entry has what it needs.
use Rattle.std.specs.Prelude.{◌≡◌, ℕ, suc, Bool, true, false, not, ◌&&◌, ◌||◌, ◌==◌, if◌then◌else◌, List, [], take, drop, nat_lt, length, find, Option, Some, None, option_and_then, ◌⊎◌, refl}
use Rattle.std.proofs.Common.{inl, inr, sym, ap, ap₂, ◌∙◌, arith}
use Rattle.std.specs.Int.{w32, from_be_bytes}
use Rattle.std.proofs.lemmas.Bool.{cond_both, and_parts, or_cases, false_from_ne_true, true≢false, ltb-true, lt-ltb}
use Rattle.poa_base.specs.declared.Config.{Config}
use Rattle.poa_base.specs.declared.Key.{Key}
use Rattle.poa_base.specs.declared.Command.{Command}
use Rattle.poa_base.specs.declared.Command.TheVariants.{Manager, Create, Destroy, Activate, ActivateId, Deactivate, Reference, Preset as PresetLine, Forward as ForwardLine, Unforward, Shutdown, Bad}
use Rattle.poa_base.specs.declared.Order.TheVariants.{Activate as ActivateAll, Hold, Discard, Deactivate as DeactivateAll}
use Rattle.poa_base.specs.declared.Verdict.{Verdict}
use Rattle.poa_base.specs.declared.Verdict.TheVariants.{Serve, Preset, Locator, Incarnate, Try, Refuse, Forward, Addressing, Here, Unknown, Answer, Wait}
use Rattle.history_standing.specs.declared.node.Node.{Node}
use Rattle.history_standing.specs.declared.flight.Flight.{Flight}
use Rattle.history_standing.specs.declared.activation.Activation.{Activation}
use Rattle.history_standing.specs.declared.activation.Phase.TheVariants.{Begun, Complete, Void}
use Rattle.history_standing.specs.Templates.{policies_at, makes_ids, has_activator, manager_at, manager_number, servant_number}
use Rattle.history_standing.specs.Standings.{Standing, is_begun, is_of, is_void}
use Rattle.history_standing.specs.Nodes.{stands_under}
use Rattle.history_standing.specs.Ends.{is_finished, is_over}
use Rattle.history_standing.specs.Walks.{walk, adapter_met, child_met}
use Rattle.history_standing.specs.Opening.{with_made, made_id, number_at}
use Rattle.history_standing.specs.Commands.{is_bad_id, is_implicit, live_at}
use Rattle.history_standing.specs.declared.stage.Stage.{Stage}
use Rattle.history_standing.specs.declared.stage.Stage.TheVariants.{Free, Trying, Incarnating, Serving, Ran, Removing}
use Rattle.history_standing.specs.declared.activation.Phase.{Phase}
use Rattle.history_standing.specs.Arrivals.{call_of}
use Rattle.history_standing.specs.Stages.{stage, arrival_in}
use Rattle.history_standing.specs.Keys.{key_in}
use Rattle.history_standing.specs.Logs.{is_accepted, command_in, command_done}
use Rattle.history_standing.specs.Changes.{without_flight, child_tried, with_child, with_tried, at_number, come_to, with_incarnated, is_elsewhere, with_takeout, with_etherealized, changed, with_flight, with_activations, with_request, with_incarnation, with_admitted, ended_by_destroy, with_destroyed, with_manager_off, with_deactivated, servant_of, with_made_activation, with_reference, with_command}
use Rattle.history_standing.specs.Trees.{MayCreate}
use Rattle.poa_history.specs.Sound.{IsSound}
use Rattle.poa_history.proofs.SoundKept.{IsUntried, MayFly, MayLive, Follows, fewer_flights_sound, with_node_sound, with_dying_sound, with_flight_sound, with_activation_sound, with_activations_sound}
use Rattle.poa_history.proofs.SettledKept.{or_first, or_second}
use Rattle.history_standing.proofs.Members.{in_kept}
use Rattle.history_standing.proofs.Finding.{find_in}
use Rattle.history_standing.proofs.WalkStands.{met_stands}
use Rattle.poa_base.specs.declared.Entry.{Entry}
use Rattle.poa_base.specs.declared.Entry.TheVariants.{Entered, Arrive, Filled, Left, Collect, Admit, Tried, Incarnated, Run, Done, TakeOut, Etherealized, Abandon}
use Rattle.poa_base.specs.declared.Attempt.{Attempt}
use Rattle.poa_base.specs.declared.Attempt.TheVariants.{Yes, No, Raised, Dying as ParentDying}
use Rattle.poa_base.specs.declared.Incarnation.{Incarnation}
use Rattle.poa_base.specs.declared.Incarnation.TheVariants.{Fresh, Named, Double, Forward as ForwardTo, Raise}
use Rattle.poa_base.specs.declared.Call.{Call}
use Rattle.poa_base.specs.declared.Call.TheVariants.{Request, Locate, Line}
use Rattle.poa_base.specs.declared.Sid.TheVariants.{Fresh as FreshServant}

module _ (c : Config) (run : ℕ) (s : Standing) (sound : IsSound c run s) where
  -- a request is in flight in an adapter that stands, whatever the walk meets
  with_request_sound : (r : ℕ) (key : Key) (n : Option ℕ) → IsSound c run (with_request r key n s)
  with_request_sound r key n =
      with_flight_sound c run s sound (record { arrival = r; adapter = adapter_met (walk s.nodes key.path); activation = n; child = None })
      (record { home = met_stands s.nodes s.count key.path sound.tree; missing = λ p tries. absurd (cc); untried = λ p tries. absurd (cc) })

  -- what the admission of a request needs
  pub record MayAdmit (r : ℕ) (key : Key) (verdict : Verdict) : Type 0 where
    pub tries : verdict ≡ Try → MayFly c run s sound
        (record { arrival = r; adapter = adapter_met (walk s.nodes key.path); activation = None; child = Some (child_met (walk s.nodes key.path) key.path) })
    pub begins : (n : ℕ) → verdict ≡ Incarnate n → MayLive c run s sound (adapter_met (walk s.nodes key.path)) key.path key.oid

  -- the new flight changes no activation and no adapter
  live_beside : (k : ℕ) (p : List (List ℕ)) (oid : List ℕ) (f : Flight) (t : IsSound c run (with_flight f s)) → MayLive c run s sound k p oid
      → MayLive c run (with_flight f s) t k p oid
  live_beside k p oid f t may = record { node = may.node; stands = may.stands; numbered = may.numbered; placed = may.placed; over = may.over; made = may.made }

  with_incarnation_sound : (r : ℕ) (key : Key) → MayLive c run s sound (adapter_met (walk s.nodes key.path)) key.path key.oid
      → IsSound c run (with_incarnation r key s)
  with_incarnation_sound r key may =
      let flying = with_request_sound r key (Some (length s.activations)) in
      with_activation_sound c run (with_request r key (Some (length s.activations)) s) flying (adapter_met (walk s.nodes key.path)) key.path key.oid Begun
      (live_beside (adapter_met (walk s.nodes key.path)) key.path key.oid
      (record { arrival = r; adapter = adapter_met (walk s.nodes key.path); activation = Some (length s.activations); child = None }) flying may)

  pub with_admitted_sound : (r : ℕ) (key : Option Key) (verdict : Verdict) → ((k : Key) → key ≡ Some k → MayAdmit r k verdict)
      → IsSound c run (with_admitted r key verdict s)
  with_admitted_sound r (Some key) (Serve n) may = with_request_sound r key (Some n)
  with_admitted_sound r (Some key) (Preset servant) may = with_request_sound r key None
  with_admitted_sound r (Some key) (Locator servant) may = with_request_sound r key None
  with_admitted_sound r (Some key) (Incarnate n) may = with_incarnation_sound r key ((may key refl).begins n refl)
  with_admitted_sound r (Some key) Try may =
      with_flight_sound c run s sound
      (record { arrival = r; adapter = adapter_met (walk s.nodes key.path); activation = None; child = Some (child_met (walk s.nodes key.path) key.path) })
      ((may key refl).tries refl)
  with_admitted_sound r (Some key) (Refuse e) may = sound
  with_admitted_sound r (Some key) (Forward e) may = sound
  with_admitted_sound r (Some key) Addressing may = sound
  with_admitted_sound r (Some key) Here may = sound
  with_admitted_sound r (Some key) Unknown may = sound
  with_admitted_sound r (Some key) (Answer a) may = sound
  with_admitted_sound r (Some key) Wait may = sound
  with_admitted_sound r None verdict may = sound

  -- what changes only flags that no end depends on
  changes_flags : (f : Activation → Activation)
      → ((a : Activation) → ((f a).number ≡ a.number) × ((f a).adapter ≡ a.adapter) × ((f a).path ≡ a.path) × ((f a).oid ≡ a.oid)
      × (is_over c a ≡ true → is_over c (f a) ≡ true)) → Follows c run s sound f
  changes_flags f kept = record {
    number_kept = λ a. (kept a).0;
    adapter_kept = λ a. (kept a).1;
    path_kept = λ a. (kept a).2;
    oid_kept = λ a. (kept a).3;
    over_kept = λ a is over. (kept a).4 over;
  }

  -- where an activation is over it stays over when it is ended once more
  over_ended : (etherealize : Bool) (a : Activation) → is_over c a ≡ true → is_over c (ended_by_destroy etherealize a) ≡ true
  over_ended etherealize a over =
      elim (or_cases (is_void a) (is_finished c a) over) [
        | inl void ↦ or_first (is_void a) (is_finished c (ended_by_destroy etherealize a)) void
        | inr finished ↦ (let parts = and_parts a.out (a.quiet || (not (has_activator c a.path) || a.etherealized)) finished in
            or_second (is_void a) (is_finished c (ended_by_destroy etherealize a))
            (ap₂ (λ x y. x && y) parts.0
            (elim (or_cases a.quiet (not (has_activator c a.path) || a.etherealized) parts.1) [
              | inl quiet ↦
                  or_first (a.quiet || (not a.ending && not etherealize)) (not (has_activator c a.path) || a.etherealized)
                  (or_first a.quiet (not a.ending && not etherealize) quiet)
              | inr told ↦ or_second (a.quiet || (not a.ending && not etherealize)) (not (has_activator c a.path) || a.etherealized) told
            ])))
      ]

  -- what ends activations where a test passes
  ends_where : (etherealize : Bool) (test : Activation → Bool) → Follows c run s sound (λ a. if test a then ended_by_destroy etherealize a else a)
  ends_where etherealize test =
      changes_flags (λ a. if test a then ended_by_destroy etherealize a else a)
      (λ a. cond_both (test a) (ended_by_destroy etherealize a) a
      (λ b. (b.number ≡ a.number) × (b.adapter ≡ a.adapter) × (b.path ≡ a.path) × (b.oid ≡ a.oid) × (is_over c a ≡ true → is_over c b ≡ true))
      (λ _. (refl, refl, refl, refl, over_ended etherealize a))
      (λ _. (refl, refl, refl, refl, λ over. over)))

  with_destroyed_sound : (p : List (List ℕ)) (etherealize : Bool) → IsSound c run (with_destroyed p etherealize s)
  with_destroyed_sound p etherealize =
      with_dying_sound c run (with_activations (λ a. if stands_under s.nodes p a.adapter then ended_by_destroy etherealize a else a) s)
      (with_activations_sound c run s sound (λ a. if stands_under s.nodes p a.adapter then ended_by_destroy etherealize a else a)
      (ends_where etherealize (λ a. stands_under s.nodes p a.adapter))) p

  with_manager_off_sound : (m : ℕ) → IsSound c run (with_manager_off c m s)
  with_manager_off_sound m =
      with_activations_sound c run s sound (λ a. if has_activator c a.path && (manager_at c a.path == m) then ended_by_destroy true a else a)
      (ends_where true (λ a. has_activator c a.path && (manager_at c a.path == m)))

  with_deactivated_sound : (k : ℕ) (oid : List ℕ) → IsSound c run (with_deactivated k oid s)
  with_deactivated_sound k oid =
      with_activations_sound c run s sound (λ a. if is_of k oid a then record a { ending = true } else a)
      (changes_flags (λ a. if is_of k oid a then record a { ending = true } else a)
      (λ a. cond_both (is_of k oid a) (record a { ending = true }) a
      (λ b. (b.number ≡ a.number) × (b.adapter ≡ a.adapter) × (b.path ≡ a.path) × (b.oid ≡ a.oid) × (is_over c a ≡ true → is_over c b ≡ true))
      (λ _. (refl, refl, refl, refl, λ over. over))
      (λ _. (refl, refl, refl, refl, λ over. over))))

-- an id that the adapter has is one that it has when more are made
good_later : (c : Config) (run made : ℕ) (p : List (List ℕ)) (oid : List ℕ) → is_bad_id c run made p oid ≡ false → is_bad_id c run (suc made) p oid ≡ false
good_later c run made p oid good =
    false_from_ne_true (is_bad_id c run (suc made) p oid) (λ bad. true≢false (sym (bad_before bad) ∙ good))
  where
    earlier : nat_lt (suc made) (from_be_bytes w32 (drop 4 oid)) ≡ true → nat_lt made (from_be_bytes w32 (drop 4 oid)) ≡ true
    earlier later = (let less = ltb-true _ _ later in lt-ltb _ _ (omega arith))

    bad_before : is_bad_id c run (suc made) p oid ≡ true → is_bad_id c run made p oid ≡ true
    bad_before bad =
        let parts =
        and_parts (makes_ids (policies_at c p))
        (not (length oid == 8) ||
        ((from_be_bytes w32 (take 4 oid) == run) && ((from_be_bytes w32 (drop 4 oid) == 0) || nat_lt (suc made) (from_be_bytes w32 (drop 4 oid))))) bad in
        ap₂ (λ a b. a && b) parts.0
        (elim (or_cases (not (length oid == 8))
        ((from_be_bytes w32 (take 4 oid) == run) && ((from_be_bytes w32 (drop 4 oid) == 0) || nat_lt (suc made) (from_be_bytes w32 (drop 4 oid)))) parts.1) [
          | inl short ↦
              or_first (not (length oid == 8))
              ((from_be_bytes w32 (take 4 oid) == run) && ((from_be_bytes w32 (drop 4 oid) == 0) || nat_lt made (from_be_bytes w32 (drop 4 oid)))) short
          | inr both ↦
              (let inner =
              and_parts (from_be_bytes w32 (take 4 oid) == run)
              ((from_be_bytes w32 (drop 4 oid) == 0) || nat_lt (suc made) (from_be_bytes w32 (drop 4 oid))) both in
              or_second (not (length oid == 8))
              ((from_be_bytes w32 (take 4 oid) == run) && ((from_be_bytes w32 (drop 4 oid) == 0) || nat_lt made (from_be_bytes w32 (drop 4 oid))))
              (ap₂ (λ a b. a && b) inner.0
              (elim (or_cases (from_be_bytes w32 (drop 4 oid) == 0) (nat_lt (suc made) (from_be_bytes w32 (drop 4 oid))) inner.1) [
                | inl zero_th ↦ or_first (from_be_bytes w32 (drop 4 oid) == 0) (nat_lt made (from_be_bytes w32 (drop 4 oid))) zero_th
                | inr later ↦ or_second (from_be_bytes w32 (drop 4 oid) == 0) (nat_lt made (from_be_bytes w32 (drop 4 oid))) (earlier later)
              ])))
        ])

pub with_made_sound : (c : Config) (run : ℕ) (s : Standing) → IsSound c run s → IsSound c run (with_made s)
with_made_sound c run s sound = record {
  tree = sound.tree;
  homes = sound.homes;
  trials = sound.trials;
  trial_alone = sound.trial_alone;
  owners = sound.owners;
  counted = sound.counted;
  activation_alone = sound.activation_alone;
  life_alone = sound.life_alone;
  ids = λ a is. good_later c run s.made a.path a.oid (sound.ids a is);
}

module _ (c : Config) (run : ℕ) (s : Standing) (sound : IsSound c run s) where
  -- what a command that is done needs
  abbrev pub MayDo : Command → Type 0
  MayDo (Create p) = MayCreate s.nodes p × IsUntried c run s sound p
  MayDo (Activate p servant) = MayLive c run (with_made s) (with_made_sound c run s sound) (number_at s p) p (made_id run (suc s.made))
  MayDo (ActivateId p oid servant) = MayLive c run s sound (number_at s p) p oid
  MayDo (Reference p servant) =
      (n : Node) (k : ℕ) → live_at s p ≡ Some n → servant_number c servant ≡ Some k → is_implicit c s n k ≡ true
      → MayLive c run (with_made s) (with_made_sound c run s sound) (number_at s p) p (made_id run (suc s.made))
  MayDo command = Unit {0}

  with_made_activation_sound : (p : List (List ℕ)) (servant : List ℕ)
      → MayLive c run (with_made s) (with_made_sound c run s sound) (number_at s p) p (made_id run (suc s.made))
      → IsSound c run (with_made_activation c run p servant s)
  with_made_activation_sound p servant may =
      with_activation_sound c run (with_made s) (with_made_sound c run s sound) (number_at s p) p (made_id run (suc s.made)) (servant_of c servant) may

  with_reference_sound : (p : List (List ℕ)) (servant : List ℕ) → MayDo (Reference p servant) → IsSound c run (with_reference c run p servant s)
  with_reference_sound p servant may =
      elim (live_at s p) as (λ found. live_at s p ≡ found
      → IsSound c run
      (elim found [
        | Some n ↦ (elim (servant_number c servant) [ Some k ↦ (if is_implicit c s n k then with_made_activation c run p servant s else s) | None ↦ s ])
        | None ↦ s
      ])) [
        | Some n ↦ λ lives. elim (servant_number c servant) as (λ number. servant_number c servant ≡ number → IsSound c run (elim number [
          | Some k ↦ (if is_implicit c s n k then with_made_activation c run p servant s else s)
          | None ↦ s
        ])) [
          | Some k ↦
              λ known. cond_both (is_implicit c s n k) (with_made_activation c run p servant s) s (λ t. IsSound c run t)
              (λ implicit. with_made_activation_sound p servant (may n k lives known implicit)) (λ _. sound)
          | None ↦ λ _. sound
        ] refl
        | None ↦ λ _. sound
      ] refl

  manager_off_sound : (name : List ℕ) → IsSound c run (elim (manager_number c name) [ Some m ↦ with_manager_off c m s | None ↦ s ])
  manager_off_sound name =
      elim (manager_number c name) as (λ number. IsSound c run (elim number [ Some m ↦ with_manager_off c m s | None ↦ s ]))
      [ Some m ↦ with_manager_off_sound c run s sound m | None ↦ sound ]

  pub with_command_sound : (command : Option Command) → ((d : Command) → command ≡ Some d → MayDo d) → IsSound c run (with_command c run command s)
  with_command_sound None may = sound
  with_command_sound (Some (Manager name ActivateAll)) may = sound
  with_command_sound (Some (Manager name (Hold wait))) may = sound
  with_command_sound (Some (Manager name (Discard wait))) may = sound
  with_command_sound (Some (Manager name (DeactivateAll true wait))) may = manager_off_sound name
  with_command_sound (Some (Manager name (DeactivateAll false wait))) may = sound
  with_command_sound (Some (Create p)) may = (let needs = may (Create p) refl in with_node_sound c run s sound p needs.0 needs.1)
  with_command_sound (Some (Destroy p etherealize wait)) may = with_destroyed_sound c run s sound p etherealize
  with_command_sound (Some (Activate p servant)) may = with_made_activation_sound p servant (may (Activate p servant) refl)
  with_command_sound (Some (ActivateId p oid servant)) may =
      with_activation_sound c run s sound (number_at s p) p oid (servant_of c servant) (may (ActivateId p oid servant) refl)
  with_command_sound (Some (Deactivate p oid)) may = with_deactivated_sound c run s sound (number_at s p) oid
  with_command_sound (Some (Reference p servant)) may = with_reference_sound p servant (may (Reference p servant) refl)
  with_command_sound (Some (PresetLine p servant)) may = sound
  with_command_sound (Some (ForwardLine p endpoint)) may = sound
  with_command_sound (Some (Unforward p)) may = sound
  with_command_sound (Some Shutdown) may = with_destroyed_sound c run s sound [] true
  with_command_sound (Some (Bad word)) may = sound

module _ (c : Config) (run : ℕ) (s : Standing) (sound : IsSound c run s) where
  abbrev Kept : Activation → Activation → Type 0
  Kept a b = (b.number ≡ a.number) × (b.adapter ≡ a.adapter) × (b.path ≡ a.path) × (b.oid ≡ a.oid) × (is_over c a ≡ true → is_over c b ≡ true)

  same_kept : (a : Activation) → Kept a a
  same_kept a = (refl, refl, refl, refl, λ over. over)

  -- a change of the activation of one number
  at_number_sound : (n : ℕ) (f : Activation → Activation) → ((a : Activation) → Kept a (f a)) → IsSound c run (with_activations (at_number n f) s)
  at_number_sound n f kept =
      with_activations_sound c run s sound (at_number n f)
      (changes_flags c run s sound (at_number n f) (λ a. cond_both (a.number == n) (f a) a (Kept a) (λ _. kept a) (λ _. same_kept a)))

  -- being incarnated it isn't void, so what is over then is finished, whatever it comes to
  come_kept : (phase : Phase) (a : Activation) → Kept a (come_to phase a)
  come_kept phase a =
      cond_both (is_begun a) (record a { phase = phase }) a (Kept a)
      (λ begun. (
        refl,
        refl,
        refl,
        refl,
        λ over. elim (or_cases (is_void a) (is_finished c a) over) [
          | inl void ↦ absurd (begun_void a.phase begun void)
          | inr finished ↦ or_second (is_void (record a { phase = phase })) (is_finished c a) finished
        ],
      ))
      (λ _. same_kept a)
    where
      begun_void : (ph : Phase) → (elim ph [ Begun ↦ true | Complete t ↦ false | Void ↦ false ]) ≡ true
          → (elim ph [ Void ↦ true | Begun ↦ false | Complete t ↦ false ]) ≡ true → ⊥
      begun_void Begun one two = (let e : false ≡ true = two in cc)
      begun_void (Complete t) one two = (let e : false ≡ true = one in cc)
      begun_void Void one two = (let e : false ≡ true = one in cc)

  out_kept : (other : Bool) (a : Activation) → Kept a (record a { out = true; remaining = other })
  out_kept other a = (
    refl,
    refl,
    refl,
    refl,
    λ over. elim (or_cases (is_void a) (is_finished c a) over) [
      | inl void ↦ or_first (is_void a) (is_finished c (record a { out = true; remaining = other })) void
      | inr finished ↦
          or_second (is_void a) (is_finished c (record a { out = true; remaining = other }))
          (and_parts a.out (a.quiet || (not (has_activator c a.path) || a.etherealized)) finished).1
    ],
  )

  told_kept : (a : Activation) → Kept a (record a { etherealized = true })
  told_kept a = (
    refl,
    refl,
    refl,
    refl,
    λ over. elim (or_cases (is_void a) (is_finished c a) over) [
      | inl void ↦ or_first (is_void a) (is_finished c (record a { etherealized = true })) void
      | inr finished ↦ (let parts = and_parts a.out (a.quiet || (not (has_activator c a.path) || a.etherealized)) finished in
          or_second (is_void a) (is_finished c (record a { etherealized = true }))
          (ap₂ (λ x y. x && y) parts.0 (or_second a.quiet (not (has_activator c a.path) || true) (or_second (not (has_activator c a.path)) true refl))))
    ],
  )

  with_takeout_sound : (n : ℕ) → IsSound c run (with_takeout n s)
  with_takeout_sound n =
      at_number_sound n (λ a. record a { out = true; remaining = is_elsewhere s.activations a }) (λ a. out_kept (is_elsewhere s.activations a) a)

  without_flight_sound : (r : Option ℕ) → IsSound c run (without_flight r s)
  without_flight_sound None = sound
  without_flight_sound (Some r) = fewer_flights_sound c run s sound (λ f. not (f.arrival == r))

  with_etherealized_sound : (begun : Stage) → IsSound c run (with_etherealized begun s)
  with_etherealized_sound Free = sound
  with_etherealized_sound (Trying r) = sound
  with_etherealized_sound (Incarnating r n) = sound
  with_etherealized_sound (Serving r) = sound
  with_etherealized_sound (Ran r) = sound
  with_etherealized_sound (Removing n) = at_number_sound n (λ a. record a { etherealized = true }) told_kept

module _ (c : Config) (run : ℕ) (s : Standing) (sound : IsSound c run s) where
  come_sound : (n : ℕ) (phase : Phase) → IsSound c run (with_activations (at_number n (come_to phase)) s)
  come_sound n phase = at_number_sound c run s sound n (come_to phase) (come_kept c run s sound phase)

  void_sound : (r n : ℕ) → IsSound c run (without_flight (Some r) (with_activations (at_number n (come_to Void)) s))
  void_sound r n = without_flight_sound c run (with_activations (at_number n (come_to Void)) s) (come_sound n Void) (Some r)

  with_incarnated_sound : (begun : Stage) (answer : Incarnation) → IsSound c run (with_incarnated c begun answer s)
  with_incarnated_sound (Incarnating r n) (Fresh m) = come_sound n (Complete (FreshServant n))
  with_incarnated_sound (Incarnating r n) (Named name) = come_sound n (servant_of c name)
  with_incarnated_sound (Incarnating r n) Double = void_sound r n
  with_incarnated_sound (Incarnating r n) (ForwardTo endpoint) = void_sound r n
  with_incarnated_sound (Incarnating r n) (Raise exception) = void_sound r n
  with_incarnated_sound Free answer = sound
  with_incarnated_sound (Trying r) answer = sound
  with_incarnated_sound (Serving r) answer = sound
  with_incarnated_sound (Ran r) answer = sound
  with_incarnated_sound (Removing n) answer = sound

  -- the child that the activator made may be created: its parent lives
  abbrev pub MayMake : Option (List (List ℕ)) → Type 0
  MayMake child = (p : List (List ℕ)) → child ≡ Some p → MayCreate s.nodes p

  with_tried_sound : (r : Option ℕ) (answer : Attempt) → ((n : ℕ) → answer ≡ Yes n → MayMake (child_tried s.flights r)) → IsSound c run (with_tried r answer s)
  with_tried_sound r No may = without_flight_sound c run s sound r
  with_tried_sound r Raised may = without_flight_sound c run s sound r
  with_tried_sound r ParentDying may = without_flight_sound c run s sound r
  with_tried_sound r (Yes n) may = made (child_tried s.flights r) refl
    where
      untried : (q : ℕ) (p : List (List ℕ)) → option_and_then (λ f. f.child) (find (λ f. f.arrival == q) s.flights) ≡ Some p
          → IsUntried c run (without_flight (Some q) s) (without_flight_sound c run s sound (Some q)) p
      untried q p tries g is same =
          elim (find (λ f. f.arrival == q) s.flights) as (λ found. find (λ f. f.arrival == q) s.flights ≡ found → option_and_then (λ f. f.child) found ≡ Some p
          → ⊥) [
            | None ↦ λ _ none. (let e : None ≡ Some p = none in cc)
            | Some f ↦ λ found child.
                (let was = find_in (λ h. h.arrival == q) f s.flights found in
                let there = in_kept (λ h. not (h.arrival == q)) g s.flights is in
                let equal : g ≡ f = sound.trial_alone g f p there.0 was.0 same child in
                let e : true ≡ false = sym there.1 ∙ ap not (ap (λ h. h.arrival == q) equal ∙ was.1) in cc)
          ] refl tries

      made : (child : Option (List (List ℕ))) → child_tried s.flights r ≡ child → IsSound c run (with_child child (without_flight r s))
      made None is = without_flight_sound c run s sound r
      made (Some p) is = with_node_sound c run (without_flight r s) (without_flight_sound c run s sound r) p (still r p (may n refl p is)) (untried_of r p is)
        where
          still : (q : Option ℕ) (p : List (List ℕ)) → MayCreate s.nodes p → MayCreate (without_flight q s).nodes p
          still None p may' = may'
          still (Some q) p may' = may'

          untried_of : (q : Option ℕ) (p : List (List ℕ)) → child_tried s.flights q ≡ Some p
              → IsUntried c run (without_flight q s) (without_flight_sound c run s sound q) p
          untried_of None p none = absurd (let e : None ≡ Some p = none in cc)
          untried_of (Some q) p tries = untried q p tries

module _ (c : Config) (run : ℕ) (past : List Entry) (s : Standing) (sound : IsSound c run s) where
  -- what an entry needs so that what it changes stays sound
  pub record MayMove (e : Entry) : Type 0 where
    pub admits : (w r : ℕ) (verdict : Verdict) (key : Key) → e ≡ Admit w r verdict → key_in (call_of past r) ≡ Some key → MayAdmit c run s sound r key verdict
    pub does : (command : Command) → command_done past e ≡ Some command → MayDo c run s sound command
    pub makes : (w n : ℕ) → e ≡ Tried w (Yes n) → MayMake c run s sound (child_tried s.flights (arrival_in (stage past w)))

  -- a call is a command or has a key, and not both
  admit_sound : (w r : ℕ) (verdict : Verdict) (key : Option Key) (command : Option Command) → ((k : Key) → key ≡ Some k → MayAdmit c run s sound r k verdict)
      → ((d : Command) → command ≡ Some d → MayDo c run s sound d) → (key ≡ None) ⊎ (command ≡ None)
      → IsSound c run (with_command c run command (with_admitted r key verdict s))
  admit_sound w r verdict None command may_admit may_do one = with_command_sound c run s sound command may_do
  admit_sound w r verdict (Some key) None may_admit may_do one = with_admitted_sound c run s sound r (Some key) verdict may_admit
  admit_sound w r verdict (Some key) (Some command) may_admit may_do (inl none) = absurd (let e : Some key ≡ None = none in cc)
  admit_sound w r verdict (Some key) (Some command) may_admit may_do (inr none) = absurd (let e : Some command ≡ None = none in cc)

  one_for : (verdict : Verdict) (call : Option Call) → (key_in call ≡ None) ⊎ ((if is_accepted verdict then command_in call else None) ≡ None)
  one_for verdict None = inl refl
  one_for verdict (Some (Line number command)) = inl refl
  one_for verdict (Some (Request head target operation body)) = inr (cond_both (is_accepted verdict) None None (λ d. d ≡ None) (λ _. refl) (λ _. refl))
  one_for verdict (Some (Locate head target)) = inr (cond_both (is_accepted verdict) None None (λ d. d ≡ None) (λ _. refl) (λ _. refl))

  pub changed_sound : (e : Entry) → MayMove e → IsSound c run (changed c run past e s)
  changed_sound (Entered conn) may = sound
  changed_sound (Arrive conn size call) may = sound
  changed_sound (Filled conn size) may = sound
  changed_sound (Left conn) may = sound
  changed_sound (Collect conn a) may = sound
  changed_sound (Admit w r verdict) may =
      admit_sound w r verdict (key_in (call_of past r)) (command_done past (Admit w r verdict)) (λ k. may.admits w r verdict k refl) may.does
      (one_for verdict (call_of past r))
  changed_sound (Tried w answer) may = with_tried_sound c run s sound (arrival_in (stage past w)) answer (λ n is. may.makes w n (ap (λ a. Tried w a) is))
  changed_sound (Incarnated w answer) may = with_incarnated_sound c run s sound (stage past w) answer
  changed_sound (Run w) may = sound
  changed_sound (Done w) may = without_flight_sound c run s sound (arrival_in (stage past w))
  changed_sound (TakeOut w n etherealize) may = with_takeout_sound c run s sound n
  changed_sound (Etherealized w cleanup remaining) may = with_etherealized_sound c run s sound (stage past w)
  changed_sound (Abandon w) may = sound
