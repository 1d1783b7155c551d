-- A servant activator is told of a cleanup, and that activations remain, exactly where the entries say so.
use Rattle.std.specs.Prelude.{◌≡◌, ℕ, ◌<◌, ◌≤◌, Bool, true, false, not, ◌&&◌, ◌||◌, ◌==◌, nat_lt, if◌then◌else◌, List, [], ◌∷◌, length, Option, Some, None, refl, ◌⊎◌}
use Rattle.std.proofs.Common.{inl, inr, sym, subst, ap, ap₂, ◌∙◌, arith}
use Rattle.std.proofs.lemmas.Bool.{cases_Bool, and_parts, true≢false, eq-eqb, eqb-true, lt-ltb, ltb-true, false_from_ne_true}
use Rattle.poa_base.specs.declared.Config.{Config}
use Rattle.poa_base.specs.declared.Command.{Command}
use Rattle.poa_base.specs.declared.Command.TheVariants.{Manager, Create, Destroy, Activate, ActivateId, Deactivate, Reference, Preset as PresetLine, Forward as ForwardLine, Unforward, Shutdown, Bad}
use Rattle.poa_base.specs.declared.Order.TheVariants.{Activate as ActivateAll, Hold, Discard, Deactivate as DeactivateAll}
use Rattle.poa_base.specs.declared.Entry.{Entry}
use Rattle.poa_base.specs.declared.Entry.TheVariants.{Entered, Arrive, Filled, Left, Collect, Admit, Tried, Incarnated, Run, Done, TakeOut, Etherealized, Abandon}
use Rattle.poa_base.specs.declared.Sid.{Sid}
use Rattle.poa_base.specs.declared.Sid.TheVariants.{Named as NamedServant, Fresh as FreshServant}
use Rattle.history_standing.specs.declared.activation.Activation.{Activation}
use Rattle.history_standing.specs.declared.activation.Phase.{Phase}
use Rattle.history_standing.specs.declared.activation.Phase.TheVariants.{Begun, Complete, Void}
use Rattle.history_standing.specs.declared.stage.Stage.TheVariants.{Free, Removing}
use Rattle.history_standing.specs.Trees.{In}
use Rattle.history_standing.proofs.Finding.{find_in}
use Rattle.poa_history.specs.Alone.{IsGivenAlone}
use Rattle.poa_history.specs.Bounds.{IsWithinLimits}
use Rattle.history_standing.specs.Changes.{standing, is_elsewhere}
use Rattle.poa_history.specs.Endings.{ends}
use Rattle.poa_history.specs.InFlight.{Holds}
use Rattle.poa_history.specs.Legal.{EachEntry, IsLegal}
use Rattle.history_standing.specs.Logs.{command_done}
use Rattle.poa_history.specs.Out.{was_taken}
use Rattle.history_standing.specs.Situations.{is_changing}
use Rattle.poa_history.specs.Sound.{IsGiven, IsSound}
use Rattle.history_standing.specs.Stages.{stage}
use Rattle.history_standing.specs.Standings.{Standing, is_complete, is_ending, is_mapped, is_used, has_servant, same_servant}
use Rattle.history_standing.specs.Templates.{has_activator}
use Rattle.poa_history.specs.Turns.{activation_numbered}
use Rattle.poa_history.proofs.ActivationsFrom.{activation_from, begun as activation_begun, stood as activation_stood}
use Rattle.poa_history.proofs.EndingsAre.{more_activations}
use Rattle.history_standing.proofs.Members.{some_in, any_in}
use Rattle.poa_history.proofs.LegalSound.{legal_sound}
use Rattle.poa_history.proofs.MannedKept.{all_manned}
use Rattle.poa_history.proofs.OutIs.{out_taken}
use Rattle.poa_history.proofs.SettledKept.{or_second}
use Rattle.poa_history.proofs.StagesFrom.{removal_before}
use Rattle.poa_history.proofs.TurnTells.{takeout_is, removal_is}
use Rattle.history_words.specs.Flags.{etherealizes, was_cleaned, IsShared, WasShared, TellsShared, TellsTruly}
use Rattle.history_words.proofs.FlagsFrom.{bare, flags_from, was, fresh, remains_by}
use Rattle.history_words.proofs.Opened.{opened_is}
use Rattle.history_standing.proofs.Tests.{not_true, not_false}

-- what of an activation a command asks
abbrev named : Activation → Activation
named a = record (bare a) { cleanup = false; remaining = false }

ends_named : (c : Config) (s : Standing) (a : Activation) (d : Option Command) → ends c s a d ≡ ends c s (named a) d
ends_named c s a None = refl
ends_named c s a (Some (Manager name ActivateAll)) = refl
ends_named c s a (Some (Manager name (Hold wait))) = refl
ends_named c s a (Some (Manager name (Discard wait))) = refl
ends_named c s a (Some (Manager name (DeactivateAll true wait))) = refl
ends_named c s a (Some (Manager name (DeactivateAll false wait))) = refl
ends_named c s a (Some (Create p)) = refl
ends_named c s a (Some (Destroy p etherealize wait)) = refl
ends_named c s a (Some (Activate p servant)) = refl
ends_named c s a (Some (ActivateId p i servant)) = refl
ends_named c s a (Some (Deactivate p i)) = refl
ends_named c s a (Some (Reference p servant)) = refl
ends_named c s a (Some (PresetLine p servant)) = refl
ends_named c s a (Some (ForwardLine p endpoint)) = refl
ends_named c s a (Some (Unforward p)) = refl
ends_named c s a (Some Shutdown) = refl
ends_named c s a (Some (Bad word)) = refl

-- the test of an entry, in the order of the fold and of the sentence
in_turn : (n x y o : Bool) → n ≡ true → (x && (y && not o)) ≡ (not o && ((n && x) && y))
in_turn true true true true is = refl
in_turn true true true false is = refl
in_turn true true false o is = nothing o
  where
    nothing : (b : Bool) → false ≡ (not b && false)
    nothing true = refl
    nothing false = refl
in_turn true false y o is = nothing o
  where
    nothing : (b : Bool) → false ≡ (not b && false)
    nothing true = refl
    nothing false = refl
in_turn false x y o is = absurd (let e : false ≡ true = is in cc)

nothing_more : (o x : Bool) → (not o && (false && x)) ≡ false
nothing_more true x = refl
nothing_more false x = refl

-- servants are the same where the test passes
servants_same : (t u : Sid) → same_servant t u ≡ true → t ≡ u
servants_same (NamedServant j) (NamedServant k) is = ap (λ n. NamedServant n) (eqb-true j k is)
servants_same (FreshServant m) (FreshServant n) is = ap (λ k. FreshServant k) (eqb-true m n is)
servants_same (NamedServant j) (FreshServant n) is = absurd (let e : false ≡ true = is in cc)
servants_same (FreshServant m) (NamedServant k) is = absurd (let e : false ≡ true = is in cc)

servant_itself : (t : Sid) → same_servant t t ≡ true
servant_itself (NamedServant k) = eq-eqb k k refl
servant_itself (FreshServant n) = eq-eqb n n refl

module _ (c : Config) (run : ℕ) where
  cleaned_named : (h : List Entry) (a : Activation) → was_cleaned c run h a ≡ was_cleaned c run h (named a)
  cleaned_named [] a = refl
  cleaned_named (e ∷ past) a =
      ap₂ (λ x y.
      (not (was_taken past a.number) && ((nat_lt a.number (length (standing c run past).activations) && x) && etherealizes (command_done past e))) || y)
      (ends_named c (standing c run past) a (command_done past e)) (cleaned_named past a)

  cleaned_same : (h : List Entry) (a b : Activation) → named b ≡ named a → was_cleaned c run h a ≡ was_cleaned c run h b
  cleaned_same h a b same = cleaned_named h a ∙ (ap (was_cleaned c run h) (sym same) ∙ sym (cleaned_named h b))

  -- what wasn't begun yet was ended by nothing
  uncleaned_by : (past : List Entry) (e : Entry) (a : Activation) → length (standing c run past).activations ≤ a.number → was_cleaned c run past a ≡ false
      → was_cleaned c run (e ∷ past) a ≡ false
  uncleaned_by past e a above before =
      let early : nat_lt a.number (length (standing c run past).activations) ≡ false =
      false_from_ne_true _ (λ is. let less = ltb-true a.number (length (standing c run past).activations) is in omega (arith, less, above)) in
      ap₂ (λ x y.
      (not (was_taken past a.number) &&
      ((x && ends c (standing c run past) a (command_done past e)) && etherealizes (command_done past e))) || y) early before
      ∙ ap (λ x. x || false) (nothing_more (was_taken past a.number) (etherealizes (command_done past e)))

  uncleaned : (h : List Entry) (a : Activation) → length (standing c run h).activations ≤ a.number → was_cleaned c run h a ≡ false
  uncleaned [] a above = refl
  uncleaned (e ∷ past) a above =
      (let more = more_activations c run past e in
      let before : length (standing c run past).activations ≤ a.number = omega (arith, more, above) in
      uncleaned_by past e a before (uncleaned past a before))

-- what was shared when it was taken out was taken out
shared_taken : (c : Config) (run : ℕ) (h : List Entry) (n : ℕ) → WasShared c run h n → was_taken h n ≡ true
shared_taken c run [] n none = absurd none
shared_taken c run (TakeOut w m x ∷ past) n (inl now) = ap (λ b. b || was_taken past n) (eq-eqb m n now.0)
shared_taken c run (TakeOut w m x ∷ past) n (inr before) = or_second (m == n) (was_taken past n) (shared_taken c run past n before)
shared_taken c run (Entered conn ∷ past) n shared = shared_taken c run past n shared
shared_taken c run (Arrive conn size call ∷ past) n shared = shared_taken c run past n shared
shared_taken c run (Filled conn size ∷ past) n shared = shared_taken c run past n shared
shared_taken c run (Left conn ∷ past) n shared = shared_taken c run past n shared
shared_taken c run (Collect conn a ∷ past) n shared = shared_taken c run past n shared
shared_taken c run (Admit w r v ∷ past) n shared = shared_taken c run past n shared
shared_taken c run (Tried w a ∷ past) n shared = shared_taken c run past n shared
shared_taken c run (Incarnated w a ∷ past) n shared = shared_taken c run past n shared
shared_taken c run (Run w ∷ past) n shared = shared_taken c run past n shared
shared_taken c run (Done w ∷ past) n shared = shared_taken c run past n shared
shared_taken c run (Etherealized w x y ∷ past) n shared = shared_taken c run past n shared
shared_taken c run (Abandon w ∷ past) n shared = shared_taken c run past n shared

-- it was so before the entry, or is so at it
shared_before : (c : Config) (run : ℕ) (e : Entry) (past : List Entry) (n : ℕ) → WasShared c run (e ∷ past) n
    → WasShared c run past n ⊎ IsShared (standing c run past) n
shared_before c run (TakeOut w m x) past n (inl now) = inr now.1
shared_before c run (TakeOut w m x) past n (inr before) = inl before
shared_before c run (Entered conn) past n shared = inl shared
shared_before c run (Arrive conn size call) past n shared = inl shared
shared_before c run (Filled conn size) past n shared = inl shared
shared_before c run (Left conn) past n shared = inl shared
shared_before c run (Collect conn a) past n shared = inl shared
shared_before c run (Admit w r v) past n shared = inl shared
shared_before c run (Tried w a) past n shared = inl shared
shared_before c run (Incarnated w a) past n shared = inl shared
shared_before c run (Run w) past n shared = inl shared
shared_before c run (Done w) past n shared = inl shared
shared_before c run (Etherealized w x y) past n shared = inl shared
shared_before c run (Abandon w) past n shared = inl shared

-- another activation by which the servant is in the map, as the fold finds it
module _ (c : Config) (run : ℕ) (s : Standing) (sound : IsSound c run s) (a : Activation) (there : In a s.activations) where
  abbrev is_other : Activation → Bool
  is_other b =
      not (b.number == a.number) &&
      ((b.adapter == a.adapter) && (is_mapped b && (elim a.phase [ Complete t ↦ has_servant t b | Begun ↦ false | Void ↦ false ])))

  shared_by : (b : Activation) → In b s.activations → is_other b ≡ true → IsShared s a.number
  shared_by b is other =
      let one =
      and_parts (not (b.number == a.number))
      ((b.adapter == a.adapter) && (is_mapped b && (elim a.phase [ Complete t ↦ has_servant t b | Begun ↦ false | Void ↦ false ]))) other in
      let two = and_parts (b.adapter == a.adapter) (is_mapped b && (elim a.phase [ Complete t ↦ has_servant t b | Begun ↦ false | Void ↦ false ])) one.1 in
      let three = and_parts (is_mapped b) (elim a.phase [ Complete t ↦ has_servant t b | Begun ↦ false | Void ↦ false ]) two.1 in
      let mapped = and_parts (is_complete b) (not b.out) three.0 in
      let mine = by_mine a.phase refl three.1 in
      record {
        it = a;
        other = b;
        servant = mine.0;
        there = there;
        numbered = refl;
        has = mine.1;
        beside = is;
        another = λ same. true≢false (sym (eq-eqb b.number a.number same) ∙ not_true (b.number == a.number) one.0);
        placed = eqb-true b.adapter a.adapter two.0;
        same = by_its mine.0 b.phase mine.2;
        mapped = not_true b.out mapped.1;
      }
    where
      by_mine : (p : Phase) → a.phase ≡ p → (elim p [ Complete t ↦ has_servant t b | Begun ↦ false | Void ↦ false ]) ≡ true
          → (t : Sid) × (a.phase ≡ Complete t) × (has_servant t b ≡ true)
      by_mine (Complete t) at has = (t, at, has)
      by_mine Begun at has = absurd (let e : false ≡ true = has in cc)
      by_mine Void at has = absurd (let e : false ≡ true = has in cc)

      by_its : (t : Sid) (p : Phase) → (elim p [ Complete u ↦ same_servant u t | Begun ↦ false | Void ↦ false ]) ≡ true → p ≡ Complete t
      by_its t (Complete u) has = ap (λ x. Complete x) (servants_same u t has)
      by_its t Begun has = absurd (let e : false ≡ true = has in cc)
      by_its t Void has = absurd (let e : false ≡ true = has in cc)

  elsewhere_shared : is_elsewhere s.activations a ≡ true → IsShared s a.number
  elsewhere_shared is = (let found = some_in is_other s.activations is in shared_by found.0 found.1 found.2)

  shared_elsewhere : IsShared s a.number → is_elsewhere s.activations a ≡ true
  shared_elsewhere shared =
      let mine : a.phase ≡ Complete shared.servant =
      ap (λ x. x.phase) (sound.activation_alone a shared.it there shared.there (sym shared.numbered)) ∙ shared.has in
      let home : shared.other.adapter ≡ a.adapter =
      shared.placed ∙ ap (λ x. x.adapter) (sound.activation_alone shared.it a shared.there there shared.numbered) in
      any_in is_other shared.other s.activations shared.beside
      (ap₂ (λ x y. x && y)
      (not_false (shared.other.number == a.number) (false_from_ne_true _ (λ same. shared.another (eqb-true shared.other.number a.number same))))
      (ap₂ (λ x y. x && y) (eq-eqb shared.other.adapter a.adapter home)
      (ap₂ (λ x y. x && y) (ap₂ (λ p o. (elim p [ Complete u ↦ true | Begun ↦ false | Void ↦ false ]) && not o) shared.same shared.mapped)
      (ap (λ p. elim p [ Complete t ↦ has_servant t shared.other | Begun ↦ false | Void ↦ false ]) mine
      ∙ (ap (λ p. elim p [ Complete u ↦ same_servant u shared.servant | Begun ↦ false | Void ↦ false ]) shared.same ∙ servant_itself shared.servant)))))

module _ (c : Config) (run limit : ℕ) (given : IsGiven c run) (alone : IsGivenAlone c run) (within : IsWithinLimits c limit) where
  pub cleanup_is : (h : List Entry) → IsLegal c run limit h → (a : Activation) → In a (standing c run h).activations → has_activator c a.path ≡ true
      → a.cleanup ≡ was_cleaned c run h a
  cleanup_is [] legal a there activator = (opened_is c run a there).cleanup
  cleanup_is (e ∷ past) legal b there activator =
      elim (flags_from c run past e b there) [
        | was a is flags ↦ (let s = standing c run past in let d = command_done past e in
            let same : named b ≡ named a = ap named flags in
            let activator' : has_activator c a.path ≡ true = ap (λ x. has_activator c x.path) (sym same) ∙ activator in
            let out : a.out ≡ was_taken past a.number = out_taken c run limit given alone within past legal.1 a is activator' in
            let early : nat_lt a.number (length s.activations) ≡ true = lt-ltb _ _ ((legal_sound c run limit past given within legal.1).counted a is) in
            ap (λ x. x.cleanup) flags
            ∙ (ap₂ (λ o x. (ends c s a d && (etherealizes d && not o)) || x) out (cleanup_is past legal.1 a is activator')
            ∙ (ap (λ x. x || was_cleaned c run past a)
            (in_turn (nat_lt a.number (length s.activations)) (ends c s a d) (etherealizes d) (was_taken past a.number) early)
            ∙ cleaned_same c run (e ∷ past) a b same)))
        | fresh number cleanup remaining ↦ (let above : length (standing c run past).activations ≤ b.number = omega (arith, number) in
            cleanup ∙ sym (uncleaned_by c run past e b above (uncleaned c run past b above)))
      ]

  shared_begun : (h : List Entry) → IsLegal c run limit h → (n : ℕ) → WasShared c run h n → n < length (standing c run h).activations
  shared_begun [] legal n none = absurd none
  shared_begun (e ∷ past) legal n shared =
      let more = more_activations c run past e in
      elim (shared_before c run e past n shared) [
        | inl before ↦ (let low = shared_begun past legal.1 n before in omega (arith, low, more))
        | inr now ↦
            (let low = (legal_sound c run limit past given within legal.1).counted now.it now.there in
            let at = now.numbered in omega (arith, low, more, at))
      ]

  -- an activation that is taken out has an activator, and wasn't taken out before
  taken_first : (past : List Entry) (w n : ℕ) (x : Bool) → IsLegal c run limit (TakeOut w n x ∷ past) → (a : Activation)
      → In a (standing c run past).activations → a.number ≡ n → (has_activator c a.path ≡ true) × (was_taken past n ≡ false)
  taken_first past w n x legal a there at =
      let s = standing c run past in
      let it = takeout_is c run past w n x legal.0 in
      let same : it.it ≡ a = (legal_sound c run limit past given within legal.1).activation_alone it.it a it.there there (it.numbered ∙ sym at) in
      let due =
      and_parts (is_complete it.it && (is_ending it.it && (has_activator c it.it.path && not it.it.out)))
      (not (is_used s.flights it.it.number) && not (is_changing c s.activations it.it.adapter)) it.due in
      let ending = and_parts (is_complete it.it) (is_ending it.it && (has_activator c it.it.path && not it.it.out)) due.0 in
      let manager = and_parts (is_ending it.it) (has_activator c it.it.path && not it.it.out) ending.1 in
      let both = and_parts (has_activator c it.it.path) (not it.it.out) manager.1 in
      let activator : has_activator c a.path ≡ true = ap (λ y. has_activator c y.path) (sym same) ∙ both.0 in (
        activator,
        ap (was_taken past) (sym at)
            ∙ (sym (out_taken c run limit given alone within past legal.1 a there activator) ∙ (ap (λ y. y.out) (sym same) ∙ not_true it.it.out both.1)),
      )

  remaining_out : (past : List Entry) (w m : ℕ) (x : Bool) → IsLegal c run limit (TakeOut w m x ∷ past) → (a : Activation)
      → In a (standing c run past).activations → TellsShared c run past a.number a.remaining
      → TellsShared c run (TakeOut w m x ∷ past) a.number (remains_by c run (standing c run past) (TakeOut w m x) a)
  remaining_out past w m x legal a there before =
      elim (cases_Bool (a.number == m)) [
        | inl now ↦ subst (λ b. TellsShared c run (TakeOut w m x ∷ past) a.number (if b then is_elsewhere s.activations a else a.remaining)) (sym now) (
          (λ is. inl (sym (eqb-true a.number m now), elsewhere_shared c run s sound a there is)),
          (λ shared. elim shared [
            | inl here ↦ shared_elsewhere c run s sound a there here.1
            | inr before_ ↦ absurd
                (true≢false
                (sym (shared_taken c run past a.number before_)
                ∙ (ap (was_taken past) (eqb-true a.number m now) ∙ (taken_first past w m x legal a there (eqb-true a.number m now)).1)))
          ]),
        )
        | inr other ↦ subst (λ b. TellsShared c run (TakeOut w m x ∷ past) a.number (if b then is_elsewhere s.activations a else a.remaining)) (sym other) (
          (λ is. inr (before.0 is)),
          (λ shared. elim shared [
            | inl here ↦ absurd (true≢false (sym (eq-eqb a.number m (sym here.0)) ∙ other))
            | inr before_ ↦ before.1 before_
          ]),
        )
      ]
    where
      s : Standing
      s = standing c run past

      sound : IsSound c run s
      sound = legal_sound c run limit past given within legal.1

  remaining_by : (past : List Entry) (e : Entry) → IsLegal c run limit (e ∷ past) → (a : Activation) → In a (standing c run past).activations
      → TellsShared c run past a.number a.remaining → TellsShared c run (e ∷ past) a.number (remains_by c run (standing c run past) e a)
  remaining_by past (TakeOut w m x) legal a there before = remaining_out past w m x legal a there before
  remaining_by past (Entered conn) legal a there before = before
  remaining_by past (Arrive conn size call) legal a there before = before
  remaining_by past (Filled conn size) legal a there before = before
  remaining_by past (Left conn) legal a there before = before
  remaining_by past (Collect conn r) legal a there before = before
  remaining_by past (Admit w r v) legal a there before = before
  remaining_by past (Tried w answer) legal a there before = before
  remaining_by past (Incarnated w answer) legal a there before = before
  remaining_by past (Run w) legal a there before = before
  remaining_by past (Done w) legal a there before = before
  remaining_by past (Etherealized w x y) legal a there before = before
  remaining_by past (Abandon w) legal a there before = before

  pub remaining_is : (h : List Entry) → IsLegal c run limit h → (a : Activation) → In a (standing c run h).activations
      → TellsShared c run h a.number a.remaining
  remaining_is [] legal a there = ((λ is. absurd (true≢false (sym is ∙ (opened_is c run a there).remaining))), (λ none. absurd none))
  remaining_is (e ∷ past) legal b there =
      elim (flags_from c run past e b there) [
        | was a is flags ↦ subst (λ x. TellsShared c run (e ∷ past) x.number x.remaining) (sym flags)
            (remaining_by past e legal a is (remaining_is past legal.1 a is))
        | fresh number cleanup remaining ↦ (
          (λ is. absurd (true≢false (sym is ∙ remaining))),
          (λ shared. elim (shared_before c run e past b.number shared) [
            | inl before ↦ absurd (let low = shared_begun past legal.1 b.number before in omega (arith, low, number))
            | inr now ↦ absurd
                (let low = (legal_sound c run limit past given within legal.1).counted now.it now.there in
                let at = now.numbered in omega (arith, low, number, at))
          ]),
        )
      ]

  -- what is being taken down has an activator
  removing_activator : (h : List Entry) → IsLegal c run limit h → (w : ℕ) (a : Activation) → In a (standing c run h).activations
      → stage h w ≡ Removing a.number → has_activator c a.path ≡ true
  removing_activator [] legal w a there at = absurd (let e : Free ≡ Removing a.number = at in cc)
  removing_activator (e ∷ past) legal w b there at =
      elim (removal_before e past w b.number at) [
        | inl before ↦ elim (activation_from c run past e b there) [
          | activation_stood a is step ↦ ap (has_activator c) step.later.path
              ∙ removing_activator past legal.1 w a is (before ∙ ap (λ n. Removing n) step.later.number)
          | activation_begun fresh_ ↦ absurd
              (let holds : Holds past (standing c run past) (Removing b.number) = subst (λ g. Holds past (standing c run past) g) before
              ((all_manned c run limit past given alone within legal.1).stages w) in
              let low = (legal_sound c run limit past given within legal.1).counted holds.0 holds.1 in
              let same = holds.2 in let new = fresh_.number in omega (arith, low, same, new))
        ]
        | inr now ↦ (let legal' : IsLegal c run limit (TakeOut w b.number true ∷ past) = subst (λ x. IsLegal c run limit (x ∷ past)) now legal in
            elim (activation_from c run past e b there) [
              | activation_stood a is step ↦ ap (has_activator c) step.later.path ∙ (taken_first past w b.number true legal' a is (sym step.later.number)).0
              | activation_begun fresh_ ↦ absurd (let it = takeout_is c run past w b.number true legal'.0 in
                  let low = (legal_sound c run limit past given within legal.1).counted it.it it.there in
                  let same = it.numbered in let new = fresh_.number in omega (arith, low, same, new))
            ])
      ]

  tells : (past : List Entry) (e : Entry) → IsLegal c run limit (e ∷ past) → TellsTruly c run past e
  tells past (Etherealized w cleanup remaining) legal = λ a there at. (
    (let told = removal_is c run past w cleanup remaining legal.0 in
        let same = told_of told.number told.it told.begun told.found a there at in
        sym told.cleanup_is ∙ (ap (λ x. x.cleanup) same ∙ cleanup_is past legal.1 a there (removing_activator past legal.1 w a there at))),
    (let told = removal_is c run past w cleanup remaining legal.0 in
        let same = told_of told.number told.it told.begun told.found a there at in
        subst (λ flag. TellsShared c run past a.number flag) (ap (λ x. x.remaining) (sym same) ∙ told.remaining_is) (remaining_is past legal.1 a there)),
  )
    where
      told_of : (n : ℕ) (it : Activation) → stage past w ≡ Removing n → activation_numbered (standing c run past) n ≡ Some it → (a : Activation)
          → In a (standing c run past).activations → stage past w ≡ Removing a.number → it ≡ a
      told_of n it begun found a there at =
          let stages : Removing n ≡ Removing a.number = sym begun ∙ at in
          let numbers : n ≡ a.number = cc in
          let is = find_in (λ x. x.number == n) it (standing c run past).activations found in
          (legal_sound c run limit past given within legal.1).activation_alone it a is.0 there (eqb-true it.number n is.1 ∙ numbers)
  tells past (Entered conn) legal = tt
  tells past (Arrive conn size call) legal = tt
  tells past (Filled conn size) legal = tt
  tells past (Left conn) legal = tt
  tells past (Collect conn a) legal = tt
  tells past (Admit w r v) legal = tt
  tells past (Tried w a) legal = tt
  tells past (Incarnated w a) legal = tt
  tells past (Run w) legal = tt
  tells past (Done w) legal = tt
  tells past (TakeOut w n x) legal = tt
  tells past (Abandon w) legal = tt

  pub all_told : (h : List Entry) → IsLegal c run limit h → EachEntry (TellsTruly c run) h
  all_told [] legal = tt
  all_told (e ∷ past) legal = (tells past e legal, all_told past legal.1)
