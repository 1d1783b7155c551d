-- The servant of an activation is the one that the entries say it was given.
use Rattle.std.specs.Prelude.{◌≡◌, ℕ, ◌<◌, Bool, true, false, not, ◌&&◌, ◌||◌, ◌==◌, nat_lt, if◌then◌else◌, List}
use Rattle.std.specs.Prelude.{[], ◌∷◌, map, length, Option, Some, None, option_map, option_and_then, refl, ◌⊎◌}
use Rattle.std.proofs.Common.{inl, inr, sym, subst, ap, ap₂, ◌∙◌, arith}
use Rattle.std.proofs.lemmas.Bool.{cond_both, cases_Bool, eq-eqb, eqb-true, lt-ltb, ltb-true, false_from_ne_true}
use Rattle.poa_base.specs.declared.Config.{Config}
use Rattle.poa_base.specs.declared.Command.{Command}
use Rattle.poa_base.specs.declared.Command.TheVariants.{Activate, ActivateId, Reference}
use Rattle.poa_base.specs.declared.Gives.{Gives}
use Rattle.poa_base.specs.declared.Gives.TheVariants.{Fresh as FreshKind, Servant, Forward as ForwardRule, Raise as RaiseRule}
use Rattle.poa_base.specs.declared.RuleConf.{RuleConf}
use Rattle.poa_base.specs.declared.Verdict.{Verdict}
use Rattle.poa_base.specs.declared.Verdict.TheVariants.{Incarnate}
use Rattle.poa_base.specs.declared.Entry.{Entry}
use Rattle.poa_base.specs.declared.Entry.TheVariants.{Entered, Arrive, Filled, Left, Collect, Admit, Tried, Incarnated}
use Rattle.poa_base.specs.declared.Entry.TheVariants.{Run, Done, TakeOut, Etherealized, Abandon}
use Rattle.poa_base.specs.declared.Incarnation.{Incarnation}
use Rattle.poa_base.specs.declared.Incarnation.TheVariants.{Fresh, Named, Double, Forward as ForwardTo, Raise}
use Rattle.poa_base.specs.declared.Sid.{Sid}
use Rattle.poa_base.specs.declared.Sid.TheVariants.{Named as NamedServant, Fresh as FreshServant}
use Rattle.history_standing.specs.declared.activation.Activation.{Activation}
use Rattle.history_standing.specs.declared.activation.Phase.{Phase}
use Rattle.history_standing.specs.declared.activation.Phase.TheVariants.{Begun, Complete, Void}
use Rattle.history_standing.specs.declared.stage.Stage.{Stage}
use Rattle.history_standing.specs.declared.stage.Stage.TheVariants.{Free, Trying, Incarnating, Serving, Ran, Removing}
use Rattle.history_standing.specs.Trees.{In}
use Rattle.history_standing.proofs.Finding.{find_in}
use Rattle.history_standing.proofs.Members.{in_image}
use Rattle.poa_history.specs.Alone.{IsGivenAlone}
use Rattle.poa_history.specs.Bounds.{IsWithinLimits}
use Rattle.history_standing.specs.Changes.{standing, changed, servant_of, at_number, come_to, with_incarnated}
use Rattle.history_standing.specs.Ends.{is_left, let_out}
use Rattle.poa_history.specs.InFlight.{Holds}
use Rattle.poa_history.specs.Legal.{IsLegal}
use Rattle.history_standing.specs.Logs.{command_done}
use Rattle.history_standing.specs.Rules.{rule_for, not_active, named_or_double, brought_by, brought}
use Rattle.poa_history.specs.Sound.{IsGiven}
use Rattle.history_standing.specs.Stages.{stage, brings}
use Rattle.history_standing.specs.Standings.{Standing, is_begun, is_void, is_in_map}
use Rattle.poa_history.specs.States.{servant_named, servant_of_activation}
use Rattle.history_standing.specs.Templates.{rules_at, policies_at, is_unique, servant_number, servant_name}
use Rattle.poa_history.proofs.ActivationsFrom.{phase_by, activation_from, begun as activation_begun, stood as activation_stood}
use Rattle.poa_history.proofs.ActivationsFrom.{BegunBy, incarnating, activating, activating_id, referring}
use Rattle.poa_history.proofs.AloneKept.{brought_named}
use Rattle.poa_history.proofs.CommandTells.{untaken_activate, untaken_activate_id}
use Rattle.poa_history.proofs.EndingsAre.{more_activations}
use Rattle.poa_history.proofs.LegalSound.{legal_sound}
use Rattle.poa_history.proofs.MannedKept.{all_manned}
use Rattle.poa_history.proofs.TurnTells.{IsIncarnation, incarnation_is}
use Rattle.history_words.specs.Servants.{servant_ordered, servant_brought, is_incarnating, servant_given, was_refused}
use Rattle.history_words.proofs.Opened.{opened_is}
use Rattle.history_words.proofs.Still.{done_by}

-- the servant in a phase, and whether it is void
abbrev servant_in : Phase → Option Sid
servant_in p = elim p [ Complete s ↦ Some s | Begun ↦ None | Void ↦ None ]

abbrev void_in : Phase → Bool
void_in p = elim p [ Void ↦ true | Begun ↦ false | Complete s ↦ false ]

-- by a name
named_in : (c : Config) (name : List ℕ) → servant_in (servant_of c name) ≡ servant_named c name
named_in c name =
    elim (servant_number c name) as
    (λ o. servant_in (elim o as (λ _. Phase) [ Some k ↦ Complete (NamedServant k) | None ↦ Void ]) ≡
    (elim o as (λ _. Option Sid) [ Some k ↦ Some (NamedServant k) | None ↦ None ]))
    [ Some k ↦ refl | None ↦ refl ]

known_unvoid : (c : Config) (name : List ℕ) (k : ℕ) → servant_number c name ≡ Some k → void_in (servant_of c name) ≡ false
known_unvoid c name k known = ap (λ o. void_in (elim o as (λ _. Phase) [ Some j ↦ Complete (NamedServant j) | None ↦ Void ])) known

-- a fresh servant has the number of its activation
fresh_number : (c : Config) (s : Standing) (a : Activation) (m : ℕ) → brought c s a ≡ Fresh m → a.number ≡ m
fresh_number c s a m is = by_rule (rule_for (rules_at c a.path) a.oid) is
  where
    by_named : (k : ℕ) → named_or_double c s a k ≡ Fresh m → a.number ≡ m
    by_named k is' = by_double (is_unique (policies_at c a.path) && is_in_map s.activations a.adapter (NamedServant k)) is'
      where
        by_name : (o : Option (List ℕ)) → (elim o [ Some x ↦ Named x | None ↦ Raise not_active ]) ≡ Fresh m → a.number ≡ m
        by_name (Some x) same = absurd (let e : Named x ≡ Fresh m = same in cc)
        by_name None same = absurd (let e : Raise not_active ≡ Fresh m = same in cc)

        by_double : (b : Bool) → (elim b [ true ↦ Double | false ↦ elim (servant_name c k) [ Some x ↦ Named x | None ↦ Raise not_active ] ]) ≡ Fresh m
            → a.number ≡ m
        by_double true same = absurd (let e : Double ≡ Fresh m = same in cc)
        by_double false same = by_name (servant_name c k) same

    by_gives : (g : Gives)
        → (elim g [
          | FreshKind kind ↦ Fresh a.number
          | Servant k ↦ named_or_double c s a k
          | ForwardRule endpoint ↦ ForwardTo endpoint
          | RaiseRule exception ↦ Raise exception
        ]) ≡ Fresh m → a.number ≡ m
    by_gives (FreshKind kind) same = (let e : Fresh a.number ≡ Fresh m = same in cc)
    by_gives (Servant k) same = by_named k same
    by_gives (ForwardRule endpoint) same = absurd (let e : ForwardTo endpoint ≡ Fresh m = same in cc)
    by_gives (RaiseRule exception) same = absurd (let e : Raise exception ≡ Fresh m = same in cc)

    by_rule : (rule : Option RuleConf) → brought_by c s a rule ≡ Fresh m → a.number ≡ m
    by_rule None same = absurd (let e : Raise not_active ≡ Fresh m = same in cc)
    by_rule (Some rule) same = by_gives rule.gives same

-- a worker's entry ends the incarnation of the activation of this number
pub record EndsIncarnation (past : List Entry) (e : Entry) (n : ℕ) : Type 0 where
  pub worker : ℕ
  pub arrival : ℕ
  pub answer : Incarnation
  pub is : e ≡ Incarnated worker answer
  pub at : stage past worker ≡ Incarnating arrival n

incarnating_is : (n : ℕ) (b : Stage) → is_incarnating n b ≡ true → (r : ℕ) × (b ≡ Incarnating r n)
incarnating_is n (Incarnating r m) is = (r, ap (λ k. Incarnating r k) (eqb-true m n is))
incarnating_is n Free is = absurd (let e : false ≡ true = is in cc)
incarnating_is n (Trying r) is = absurd (let e : false ≡ true = is in cc)
incarnating_is n (Serving r) is = absurd (let e : false ≡ true = is in cc)
incarnating_is n (Ran r) is = absurd (let e : false ≡ true = is in cc)
incarnating_is n (Removing m) is = absurd (let e : false ≡ true = is in cc)

is_incarnated : (n r : ℕ) (b : Stage) → b ≡ Incarnating r n → is_incarnating n b ≡ true
is_incarnated n r b at = ap (is_incarnating n) at ∙ eq-eqb n n refl

module _ (c : Config) (run : ℕ) (past : List Entry) where
  abbrev s : Standing
  s = standing c run past

  -- what the sentence says of an entry other than an answer
  abbrev otherwise : Entry → ℕ → Bool → Option Sid
  otherwise e n b = if b then servant_given c run past n else option_and_then (servant_named c) (servant_ordered (command_done past e))

  ended_incarnated : (w n : ℕ) (answer : Incarnation) → EndsIncarnation past (Incarnated w answer) n ⊎ ((is_incarnating n (stage past w)) ≡ false)
  ended_incarnated w n answer =
      elim (cases_Bool (is_incarnating n (stage past w))) [
        | inl now ↦ (let at = incarnating_is n (stage past w) now in inl (record { worker = w; arrival = at.0; answer = answer; is = refl; at = at.1 }))
        | inr other ↦ inr other
      ]

  -- an entry that ends no incarnation of what was begun leaves both as they were
  pub given_old : (e : Entry) (n : ℕ) → nat_lt n (length s.activations) ≡ true
      → EndsIncarnation past e n ⊎ ((servant_given c run (e ∷ past) n ≡ servant_given c run past n) × (was_refused (e ∷ past) n ≡ was_refused past n))
  given_old (Incarnated w answer) n early =
      elim (ended_incarnated w n answer) [
        | inl ends ↦ inl ends
        | inr other ↦ inr (
          ap (λ b. if b then servant_brought c answer else servant_given c run past n) other,
          ap
              (λ b. (b && not (brings answer)) || was_refused past n) other,
        )
      ]
  given_old (Entered conn) n early = inr (ap (otherwise (Entered conn) n) early, refl)
  given_old (Arrive conn size call) n early = inr (ap (otherwise (Arrive conn size call) n) early, refl)
  given_old (Filled conn size) n early = inr (ap (otherwise (Filled conn size) n) early, refl)
  given_old (Left conn) n early = inr (ap (otherwise (Left conn) n) early, refl)
  given_old (Collect conn r) n early = inr (ap (otherwise (Collect conn r) n) early, refl)
  given_old (Admit w r v) n early = inr (ap (otherwise (Admit w r v) n) early, refl)
  given_old (Tried w answer) n early = inr (ap (otherwise (Tried w answer) n) early, refl)
  given_old (Run w) n early = inr (ap (otherwise (Run w) n) early, refl)
  given_old (Done w) n early = inr (ap (otherwise (Done w) n) early, refl)
  given_old (TakeOut w m x) n early = inr (ap (otherwise (TakeOut w m x) n) early, refl)
  given_old (Etherealized w x y) n early = inr (ap (otherwise (Etherealized w x y) n) early, refl)
  given_old (Abandon w) n early = inr (ap (otherwise (Abandon w) n) early, refl)

  given_new : (w r n : ℕ) (v : Verdict) → nat_lt n (length s.activations) ≡ false
      → servant_given c run (Admit w r v ∷ past) n ≡ option_and_then (servant_named c) (servant_ordered (command_done past (Admit w r v)))
  given_new w r n v late = ap (otherwise (Admit w r v) n) late

  -- a command that is done gives the activation that it begins its servant
  given_done : (e : Entry) (d : Command) (n : ℕ) (name : List ℕ) → command_done past e ≡ Some d → servant_ordered (Some d) ≡ Some name
      → nat_lt n (length s.activations) ≡ false
      → (servant_given c run (e ∷ past) n ≡ servant_named c name) × (was_refused (e ∷ past) n ≡ was_refused past n)
  given_done e d n name done orders late =
      let (w, r, v, is) = done_by past e d done in (
        ap (λ x. servant_given c run (x ∷ past) n) is
            ∙ (given_new w r n v late
            ∙ (ap (λ x. option_and_then (servant_named c) (servant_ordered (command_done past x))) (sym is)
            ∙ (ap (λ o. option_and_then (servant_named c) (servant_ordered o)) done ∙ ap (option_and_then (servant_named c)) orders))),
        ap (λ x. was_refused (x ∷ past) n) is,
      )

incarnated_activations : (c : Config) (s : Standing) (r n : ℕ) (a : Incarnation)
    → (with_incarnated c (Incarnating r n) a s).activations ≡ map (at_number n (come_to (phase_by c n a))) s.activations
incarnated_activations c s r n (Fresh m) = refl
incarnated_activations c s r n (Named name) = refl
incarnated_activations c s r n Double = refl
incarnated_activations c s r n (ForwardTo x) = refl
incarnated_activations c s r n (Raise x) = refl

let_same : {B : Type 0} (c : Config) (s : Standing) (a : Activation) (f : Activation → B) → f (record a { out = true }) ≡ f a → f (let_out c s a) ≡ f a
let_same c s a f same = cond_both (is_left c s a) (record a { out = true }) a (λ b. f b ≡ f a) (λ _. same) (λ _. refl)

module _ (c : Config) (run limit : ℕ) (given : IsGiven c run) (alone : IsGivenAlone c run) (within : IsWithinLimits c limit) where
  -- the activation whose incarnation ends was being incarnated
  was_begun : (past : List Entry) (w r n : ℕ) → IsLegal c run limit past → stage past w ≡ Incarnating r n → (a : Activation)
      → In a (standing c run past).activations → a.number ≡ n → a.phase ≡ Begun
  was_begun past w r n legal at a there number =
      let holds : Holds past (standing c run past) (Incarnating r n) =
      subst (λ b. Holds past (standing c run past) b) at ((all_manned c run limit past given alone within legal).stages w) in
      let it = holds.2 in
      ap (λ x. x.phase) ((legal_sound c run limit past given within legal).activation_alone a it.0 there it.1 (number ∙ sym it.2)) ∙ it.3

  -- what it is after that is what the answer says
  phase_after : (past : List Entry) (w r n : ℕ) (answer : Incarnation) → IsLegal c run limit past → stage past w ≡ Incarnating r n → (b : Activation)
      → In b (standing c run (Incarnated w answer ∷ past)).activations → b.number ≡ n → b.phase ≡ phase_by c n answer
  phase_after past w r n answer legal at b there number =
      let s = standing c run past in
      let t = changed c run past (Incarnated w answer) s in
      let found = in_image (let_out c t) b t.activations there in
      let all : t.activations ≡ map (at_number n (come_to (phase_by c n answer))) s.activations =
      ap (λ g. (with_incarnated c g answer s).activations) at ∙ incarnated_activations c s r n answer in
      let before = in_image (at_number n (come_to (phase_by c n answer))) found.0 s.activations (subst (λ as'. In found.0 as') all found.1) in
      let x = before.0 in
      let comes : b.phase ≡ (at_number n (come_to (phase_by c n answer)) x).phase =
      ap (λ y. y.phase) found.2 ∙ (let_same c t found.0 (λ y. y.phase) refl ∙ ap (λ y. y.phase) before.2) in
      let same : b.number ≡ (at_number n (come_to (phase_by c n answer)) x).number =
      ap (λ y. y.number) found.2 ∙ (let_same c t found.0 (λ y. y.number) refl ∙ ap (λ y. y.number) before.2) in
      let stays : (at_number n (come_to (phase_by c n answer)) x).number ≡ x.number =
      cond_both (x.number == n) (come_to (phase_by c n answer) x) x (λ y. y.number ≡ x.number)
      (λ _. cond_both (is_begun x) (record x { phase = phase_by c n answer }) x (λ y. y.number ≡ x.number) (λ _. refl) (λ _. refl)) (λ _. refl) in
      let at_n : x.number ≡ n = sym stays ∙ (sym same ∙ number) in
      let begun : is_begun x ≡ true =
      ap (λ p. elim p as (λ _. Bool) [ Begun ↦ true | Complete u ↦ false | Void ↦ false ]) (was_begun past w r n legal at x before.1 at_n) in
      comes ∙ ap₂ (λ y z. (if y then (if z then record x { phase = phase_by c n answer } else x) else x).phase) (eq-eqb x.number n at_n) begun

  -- the servant that an answer brings, and whether it brings none
  brought_is : (past : List Entry) (w r n : ℕ) (answer : Incarnation) → IsLegal c run limit (Incarnated w answer ∷ past) → stage past w ≡ Incarnating r n
      → (servant_in (phase_by c n answer) ≡ servant_brought c answer) × (void_in (phase_by c n answer) ≡ not (brings answer))
  brought_is past w r n answer legal at = by_answer answer refl
    where
      turn' : IsIncarnation c run past w answer
      turn' = incarnation_is c run past w answer legal.0

      it_number : turn'.it.number ≡ n
      it_number =
          let stages : Incarnating turn'.arrival turn'.number ≡ Incarnating r n = sym turn'.begun ∙ at in
          let numbers : turn'.number ≡ n = cc in
          eqb-true turn'.it.number turn'.number (find_in (λ x. x.number == turn'.number) turn'.it (standing c run past).activations turn'.found).1 ∙ numbers

      by_answer : (which : Incarnation) → answer ≡ which
          → (servant_in (phase_by c n which) ≡ servant_brought c which) × (void_in (phase_by c n which) ≡ not (brings which))
      by_answer (Fresh m) is = (ap (λ k. Some (FreshServant k)) (sym it_number ∙ fresh_number c (standing c run past) turn'.it m (turn'.told ∙ is)), refl)
      by_answer (Named name) is = (
        named_in c name,
        (let (k, single, called) = brought_named c (standing c run past) turn'.it name (turn'.told ∙ is) in known_unvoid c name k
            (alone.named k name called)),
      )
      by_answer Double is = (refl, refl)
      by_answer (ForwardTo x) is = (refl, refl)
      by_answer (Raise x) is = (refl, refl)

  -- an incarnation is refused once at most, of what was begun
  refused_before : (e : Entry) (past : List Entry) (n : ℕ) → was_refused (e ∷ past) n ≡ true → (was_refused past n ≡ true) ⊎ EndsIncarnation past e n
  refused_before (Incarnated w answer) past n is =
      elim (ended_incarnated c run past w n answer)
      [ inl ends ↦ inr ends | inr other ↦ inl (ap (λ b. (b && not (brings answer)) || was_refused past n) (sym other) ∙ is) ]
  refused_before (Entered conn) past n is = inl is
  refused_before (Arrive conn size call) past n is = inl is
  refused_before (Filled conn size) past n is = inl is
  refused_before (Left conn) past n is = inl is
  refused_before (Collect conn r) past n is = inl is
  refused_before (Admit w r v) past n is = inl is
  refused_before (Tried w answer) past n is = inl is
  refused_before (Run w) past n is = inl is
  refused_before (Done w) past n is = inl is
  refused_before (TakeOut w m x) past n is = inl is
  refused_before (Etherealized w x y) past n is = inl is
  refused_before (Abandon w) past n is = inl is

  -- the activation whose incarnation ends was begun
  ends_begun : (past : List Entry) (e : Entry) (n : ℕ) → IsLegal c run limit past → EndsIncarnation past e n → n < length (standing c run past).activations
  ends_begun past e n legal ends =
      let holds : Holds past (standing c run past) (Incarnating ends.arrival n) =
      subst (λ b. Holds past (standing c run past) b) ends.at ((all_manned c run limit past given alone within legal).stages ends.worker) in
      let it = holds.2 in
      let low = (legal_sound c run limit past given within legal).counted it.0 it.1 in
      let same = it.2 in omega (arith, low, same)

  refused_begun : (h : List Entry) → IsLegal c run limit h → (n : ℕ) → was_refused h n ≡ true → n < length (standing c run h).activations
  refused_begun [] legal n is = absurd (let e : false ≡ true = is in cc)
  refused_begun (e ∷ past) legal n is =
      let more = more_activations c run past e in
      elim (refused_before e past n is) [
        | inl before ↦ (let low = refused_begun past legal.1 n before in omega (arith, low, more))
        | inr ends ↦ (let low = ends_begun past e n legal.1 ends in omega (arith, low, more))
      ]

  -- both, of an activation after a history
  abbrev IsAsGiven : List Entry → Activation → Type 0
  IsAsGiven h a = (servant_of_activation (Some a) ≡ servant_given c run h a.number) × (is_void a ≡ was_refused h a.number)

  by_order : (past : List Entry) (e : Entry) (b : Activation) (d : Command) (name : List ℕ) (k : ℕ) → IsLegal c run limit past
      → b.number ≡ length (standing c run past).activations → command_done past e ≡ Some d → servant_ordered (Some d) ≡ Some name
      → servant_number c name ≡ Some k → b.phase ≡ servant_of c name → IsAsGiven (e ∷ past) b
  by_order past e b d name k legal number done orders known phase =
      let late : nat_lt b.number (length (standing c run past).activations) ≡ false =
      false_from_ne_true _ (λ is. let less = ltb-true b.number (length (standing c run past).activations) is in omega (arith, less, number)) in
      let unrefused : was_refused past b.number ≡ false =
      false_from_ne_true _ (λ is. let low = refused_begun past legal b.number is in omega (arith, low, number)) in
      let given' = given_done c run past e d b.number name done orders late in (
        ap servant_in phase ∙ (named_in c name ∙ sym given'.0),
        ap void_in phase ∙ (known_unvoid c name k known ∙ (sym unrefused ∙ sym given'.1)),
      )

  by_begin : (past : List Entry) (e : Entry) (b : Activation) → IsLegal c run limit (e ∷ past) → b.number ≡ length (standing c run past).activations
      → BegunBy c run past (standing c run past) e b → IsAsGiven (e ∷ past) b
  by_begin past e b legal number (incarnating w r n key is has adapter path oid phase) =
      (let late : nat_lt b.number (length (standing c run past).activations) ≡ false = false_from_ne_true _
      (λ less_. let less = ltb-true b.number (length (standing c run past).activations) less_ in omega (arith, less, number)) in
      let unrefused : was_refused past b.number ≡ false =
      false_from_ne_true _ (λ was. let low = refused_begun past legal.1 b.number was in omega (arith, low, number)) in (
        ap servant_in phase ∙ (sym (given_new c run past w r b.number (Incarnate n) late) ∙ ap (λ x. servant_given c run (x ∷ past) b.number) (sym is)),
        ap void_in phase ∙ (sym unrefused ∙ ap (λ x. was_refused (x ∷ past) b.number) (sym is)),
      ))
  by_begin past e b legal number (activating p servant done adapter path oid phase) =
      (let free = untaken_activate c run past limit e p servant legal.0 done in by_order past e b
      (Activate p servant) servant free.number legal.1 number done refl free.known phase)
  by_begin past e b legal number (activating_id p oid' servant done adapter path oid phase) =
      (let free = untaken_activate_id c run past limit e p oid' servant legal.0 done in by_order past e b
      (ActivateId p oid' servant) servant free.number legal.1 number done refl free.known phase)
  by_begin past e b legal number (referring p servant n k done lives known implicit adapter path oid phase) =
      by_order past e b (Reference p servant) servant k legal.1 number done refl known phase

  by_answer : (past : List Entry) (e : Entry) (b : Activation) → IsLegal c run limit (e ∷ past) → In b (standing c run (e ∷ past)).activations
      → was_refused past b.number ≡ false → EndsIncarnation past e b.number → IsAsGiven (e ∷ past) b
  by_answer past e b legal there before ends =
      let e' = Incarnated ends.worker ends.answer in
      let legal' : IsLegal c run limit (e' ∷ past) = subst (λ x. IsLegal c run limit (x ∷ past)) ends.is legal in
      let phase =
      phase_after past ends.worker ends.arrival b.number ends.answer legal.1 ends.at b
      (subst (λ x. In b (standing c run (x ∷ past)).activations) ends.is there) refl in
      let told = brought_is past ends.worker ends.arrival b.number ends.answer legal' ends.at in
      let now = is_incarnated b.number ends.arrival (stage past ends.worker) ends.at in (
        ap servant_in phase
            ∙ (told.0
            ∙ (ap (λ x. if x then servant_brought c ends.answer else servant_given c run past b.number) (sym now)
            ∙ ap (λ x. servant_given c run (x ∷ past) b.number) (sym ends.is))),
        ap void_in phase
            ∙ (told.1
            ∙ (or_nothing_ (not (brings ends.answer))
            ∙ (ap₂ (λ x y. (x && not (brings ends.answer)) || y) (sym now) (sym before) ∙ ap (λ x. was_refused (x ∷ past) b.number) (sym ends.is)))),
      )
    where
      or_nothing_ : (x : Bool) → x ≡ (x || false)
      or_nothing_ true = refl
      or_nothing_ false = refl

  pub as_given : (h : List Entry) → IsLegal c run limit h → (a : Activation) → In a (standing c run h).activations → IsAsGiven h a
  as_given [] legal a there =
      (let opened = opened_is c run a there in (
        ap servant_in opened.phase ∙ ap (option_map (λ o. NamedServant o.servant)) (sym opened.found),
        ap void_in opened.phase,
      ))
  as_given (e ∷ past) legal b there =
      elim (activation_from c run past e b there) [
        | activation_begun fresh ↦ by_begin past e b legal fresh.number fresh.how
        | activation_stood a is step ↦ (let s = standing c run past in
            let before = as_given past legal.1 a is in
            let early : nat_lt b.number (length s.activations) ≡ true =
            ap (λ n. nat_lt n (length s.activations)) step.later.number
            ∙ lt-ltb _ _ ((legal_sound c run limit past given within legal.1).counted a is) in
            elim (given_old c run past e b.number early) [
              | inl ends ↦ (let phase = was_begun past ends.worker ends.arrival b.number legal.1 ends.at a is (sym step.later.number) in
                  by_answer past e b legal there (ap (was_refused past) step.later.number ∙ (sym before.1 ∙ ap void_in phase)) ends)
              | inr stays ↦ elim step.came [
                | inl same ↦ (
                  ap servant_in same ∙ (before.0 ∙ (ap (servant_given c run past) (sym step.later.number) ∙ sym stays.0)),
                  ap void_in same ∙ (before.1 ∙ (ap (was_refused past) (sym step.later.number) ∙ sym stays.1)),
                )
                | inr came ↦ by_answer past e b legal there (ap (was_refused past) step.later.number ∙ (sym before.1 ∙ ap void_in came.0)) (record {
                  worker = came.1.worker;
                  arrival = came.1.arrival;
                  answer = came.1.answer;
                  is = came.1.same;
                  at = came.1.begun ∙ ap (λ n. Incarnating came.1.arrival n) (sym step.later.number);
                })
              ]
            ])
      ]
