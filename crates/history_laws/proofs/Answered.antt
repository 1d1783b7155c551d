-- Where no worker has a next entry, every call is decided or held back.
use Rattle.history_laws.proofs.Decided.{being_decided, is_deciding}
use Rattle.history_laws.proofs.Idle.{all_free, all_landed, dying_done, ended_over}
use Rattle.history_laws.proofs.Since.{IsSince, call_since, count_since, destroyed_since, ended_since, legal_before, node_since, since}
use Rattle.history_laws.proofs.Undone.{held_back}
use Rattle.history_laws.proofs.Waiting.{never_waits, waits_for}
use Rattle.history_laws.specs.Undone.{AreIdle, IsHeldBack}
use Rattle.poa_base.specs.declared.Call.{Call}
use Rattle.poa_base.specs.declared.Call.TheVariants.{Line, Locate, Request}
use Rattle.poa_base.specs.declared.Command.{Command}
use Rattle.poa_base.specs.declared.Command.TheVariants.{Destroy, Manager}
use Rattle.poa_base.specs.declared.Config.{Config}
use Rattle.poa_base.specs.declared.Entry.{Entry}
use Rattle.poa_base.specs.declared.Entry.TheVariants.{Admit}
use Rattle.poa_base.specs.declared.Order.{Order}
use Rattle.poa_base.specs.declared.Order.TheVariants.{Activate as ActivateAll, Deactivate as DeactivateAll, Discard, Hold}
use Rattle.poa_base.specs.declared.Verdict.{Verdict}
use Rattle.poa_base.specs.declared.Verdict.TheVariants.{Wait}
use Rattle.poa_choose.specs.Table.{first_row}
use Rattle.poa_history.proofs.CommandMoves.{live_tells, number_live}
use Rattle.poa_history.proofs.DyingIs.{dying_is}
use Rattle.poa_history.proofs.EndingsAre.{endings_are}
use Rattle.poa_history.proofs.LegalSound.{legal_sound}
use Rattle.poa_history.proofs.NodesFrom.{count_from, new as node_new, node_before, stood as node_stood}
use Rattle.poa_history.proofs.SettledKept.{or_first, or_second}
use Rattle.poa_history.proofs.StepMoves.{chosen_go}
use Rattle.poa_history.proofs.TurnTells.{IsAdmission, admission_is}
use Rattle.poa_history.specs.Alone.{IsGivenAlone}
use Rattle.history_standing.specs.Arrivals.{arrivals, call_of}
use Rattle.poa_history.specs.Bounds.{IsWithinLimits}
use Rattle.history_standing.specs.Changes.{standing}
use Rattle.history_standing.specs.Commands.{command_verdict, live_at, waits}
use Rattle.poa_history.specs.Destroyed.{destroys, was_destroyed}
use Rattle.poa_history.specs.Endings.{ends, is_ended_by, was_ended}
use Rattle.history_standing.specs.Ends.{is_done_with, is_gone, is_over}
use Rattle.poa_history.specs.Legal.{IsLegal}
use Rattle.history_standing.specs.Logs.{command_done, command_in}
use Rattle.history_standing.specs.Opening.{number_at}
use Rattle.poa_history.specs.Replies.{decided, is_decided_by, is_waiting}
use Rattle.poa_history.specs.Settling.{are_ended, before_admit, is_managed, is_overtaken, is_quiet, order_holds, settles, settles_by}
use Rattle.history_standing.specs.Situations.{facts_of}
use Rattle.poa_history.specs.Sound.{IsGiven}
use Rattle.history_standing.specs.Stages.{admitted}
use Rattle.history_standing.specs.Standings.{Standing}
use Rattle.history_standing.specs.Templates.{has_activator, manager_at, manager_number}
use Rattle.poa_history.specs.Verdicts.{verdict_on}
use Rattle.history_standing.proofs.Finding.{find_in}
use Rattle.history_standing.proofs.Leading.{leads_self}
use Rattle.history_standing.specs.Nodes.{node_at}
use Rattle.history_standing.specs.Paths.{leads_to}
use Rattle.history_standing.specs.Trees.{In}
use Rattle.history_standing.specs.declared.node.Node.{Node}
use Rattle.std.proofs.Common.{◌∙◌, ap, ap₂, arith, inl, inr, subst, sym}
use Rattle.std.proofs.lemmas.Bool.{cases_Bool, eqb-true, lt-ltb}
use Rattle.std.specs.List.{list_all, list_any}
use Rattle.std.specs.Prelude.{◌&&◌, ◌++◌, ◌<◌, ◌==◌, ◌||◌, ◌∷◌, ◌≡◌, ◌⊎◌, Bool, List, None, Option, Some, [], false, find, is_none, length, nat_lt, not, refl, true, ℕ}
use Rattle.history_laws.proofs.Waiting.{waits_order, waits_destroy}

module _ (c : Config) (run limit : ℕ) (given : IsGiven c run) (alone : IsGivenAlone c run) (within : IsWithinLimits c limit) (h : List Entry)
    (legal : IsLegal c run limit h) (idle : AreIdle c run h) where
  abbrev s : Standing
  s = standing c run h

  -- in an adapter of a manager nothing is in flight
  all_quiet : (m : ℕ) → is_quiet c s m ≡ true
  all_quiet m = ap (λ fs. not (list_any (λ f. is_managed c s m f.adapter) fs)) (all_landed c run limit given alone within h legal idle)

  all_by : {A : Type 0} (test : A → Bool) (xs : List A) → ((x : A) → In x xs → test x ≡ true) → list_all test xs ≡ true
  all_by test [] each = refl
  all_by test (x ∷ xs) each = ap₂ (λ a b. a && b) (each x (inl refl)) (all_by test xs (λ y there. each y (inr there)))

  module _ (r : ℕ) (it : IsSince c run limit given within h r) where
    abbrev past : List Entry
    past = it.past

    abbrev e : Entry
    e = Admit it.worker r Wait

    legal_then : IsLegal c run limit (e ∷ past)
    legal_then = legal_before c run limit given within it.more (e ∷ past) (subst (IsLegal c run limit) it.split legal)

    admission : IsAdmission c run past it.worker r Wait
    admission = admission_is c run past it.worker r Wait legal_then.0

    same_call : call_of h r ≡ call_of past r
    same_call =
        ap (λ x. call_of x r) it.split ∙ ((call_since c run limit given within it.more (e ∷ past) r admission.arrived).0)

    -- the activations that its deactivation ended are over
    ended_by_then : (number : ℕ) (name : List ℕ) (m : ℕ) (wait : Bool) → manager_number c name ≡ Some m
        → call_of past r ≡ Some (Line number (Manager name (DeactivateAll true wait)))
        → are_ended c s m (length (standing c run (before_admit h r)).activations) ≡ true
    ended_by_then number name m wait found at =
        ap (λ x. are_ended c s m (length (standing c run x).activations)) it.before
        ∙ all_by
        (λ a. is_over c a || (not (nat_lt a.number (length (standing c run past).activations)) || not (has_activator c a.path && (manager_at c a.path == m))))
        s.activations (λ a there.
        elim (cases_Bool (nat_lt a.number (length (standing c run past).activations))) [
          | inr late ↦ or_second (is_over c a) _ (or_first (not (nat_lt a.number (length (standing c run past).activations))) _ (ap not late))
          | inl early ↦ elim (cases_Bool (has_activator c a.path && (manager_at c a.path == m))) [
            | inr other ↦ or_second (is_over c a) _ (or_second (not (nat_lt a.number (length (standing c run past).activations))) _ (ap not other))
            | inl managed ↦ or_first (is_over c a) _ (ended_over c run limit given alone within h legal idle a there
                ((endings_are c run limit given within h legal a there).0
                ∙ (ap (λ x. was_ended c run x a) it.split ∙ ended_since c run limit given within it.more (e ∷ past) a
                (or_first (is_ended_by c run past e a) (was_ended c run past a) (ap₂ (λ x y. x && y) early
                (ap (λ o. ends c (standing c run past) a (command_in o)) at
                ∙ (ap (λ o. elim o as (λ _. Bool) [ Some k ↦ has_activator c a.path && (manager_at c a.path == k) | None ↦ false ]) found ∙ managed)))))))
          ]
        ])

    order_settles : (number : ℕ) (name : List ℕ) (m : ℕ) (order : Order) → manager_number c name ≡ Some m → waits order ≡ true
        → call_of past r ≡ Some (Line number (Manager name order)) → order_holds c run h r m order ≡ true
    order_settles number name m ActivateAll found waits_ at = refl
    order_settles number name m (Hold wait) found waits_ at = or_first (is_quiet c s m) (is_overtaken c m h r) (all_quiet m)
    order_settles number name m (Discard wait) found waits_ at = or_first (is_quiet c s m) (is_overtaken c m h r) (all_quiet m)
    order_settles number name m (DeactivateAll false wait) found waits_ at = ap (λ b. b && true) (all_quiet m)
    order_settles number name m (DeactivateAll true wait) found waits_ at = ap₂ (λ x y. x && y) (all_quiet m) (ended_by_then number name m wait found at)

    -- and the adapter that it destroyed is gone
    destroy_settles : (number : ℕ) (p : List (List ℕ)) (etherealize wait : Bool) (n : Node) → live_at (standing c run past) p ≡ Some n
        → call_of past r ≡ Some (Line number (Destroy p etherealize wait)) → is_gone c s (number_at (standing c run (before_admit h r)) p) ≡ true
    destroy_settles number p etherealize wait n lives at =
        ap (λ x. is_gone c s (number_at (standing c run x) p)) it.before
        ∙ (ap (is_gone c s) (sym (number_live (standing c run past) p n tells.3)) ∙ gone)
      where
        tells : (In n (standing c run past).nodes) × (n.path ≡ p) × (n.dying ≡ false) × (node_at (standing c run past).nodes p ≡ Some n)
        tells = live_tells (standing c run past) p n lives

        early : n.number < (standing c run past).count
        early = (legal_sound c run limit past given within legal_then.1).tree.numbered n tells.0

        made : n.number < s.count
        made = (let then_ = count_from c run past e (standing c run past) in let more = count_since c run limit given within it.more (e ∷ past) in
            let low = early in
            let same : s.count ≡ (standing c run (it.more ++ (e ∷ past))).count = ap (λ x. (standing c run x).count) it.split in
            omega (arith, then_, more, low, same))

        gone_if : (m : Node) → In m s.nodes → m.number ≡ n.number → is_done_with c s m ≡ true
        gone_if m there same =
            let there' : In m (standing c run (it.more ++ (e ∷ past))).nodes = subst (λ x. In m (standing c run x).nodes) it.split there in
            let low : m.number < (standing c run (e ∷ past)).count =
            (let then_ = count_from c run past e (standing c run past) in let less = early in omega (arith, then_, less, same)) in
            let d = node_since c run limit given within it.more (e ∷ past) m there' low in
            let m_path : m.path ≡ p = d.3 ∙ elim (node_before c run past e d.0 d.1) [
              | node_stood x was number' path dying ↦ path
                  ∙ (ap (λ y. y.path)
                  ((legal_sound c run limit past given within legal_then.1).tree.number_alone x n was tells.0 (sym number' ∙ (sym d.2 ∙ same))) ∙ tells.1)
              | node_new number' living ↦ absurd (let less = early in let at' = d.2 in omega (arith, number', less, at', same))
            ] in
            let dying : m.dying ≡ true = dying_is c run limit h given within legal m there
            ∙ (ap (λ x. was_destroyed c run x m.number m.path) it.split ∙ destroyed_since c run limit given within it.more (e ∷ past) m.number m.path
            (or_first (nat_lt m.number (standing c run past).count && destroys m.path (command_done past e)) (was_destroyed c run past m.number m.path)
            (ap₂ (λ x y. x && y) (lt-ltb m.number (standing c run past).count (let less = early in omega (arith, less, same)))
            (ap (λ o. destroys m.path (command_in o)) at ∙ (ap (leads_to p) m_path ∙ leads_self p))))) in
            dying_done c run limit given alone within h legal idle m there dying

        gone : is_gone c s n.number ≡ true
        gone =
            ap₂ (λ x y. x && y) (lt-ltb n.number s.count made)
            (elim (find (λ m. m.number == n.number) s.nodes) as (λ o. find (λ m. m.number == n.number) s.nodes ≡ o
            → (elim o [ Some m ↦ is_done_with c s m | None ↦ true ]) ≡ true) [
              | None ↦ λ _. refl
              | Some m ↦ λ found. (let there = find_in (λ x. x.number == n.number) m s.nodes found in gone_if m there.0 (eqb-true m.number n.number there.1))
            ] refl)

    command_settles : (number : ℕ) (d : Command) → call_of past r ≡ Some (Line number d) → command_verdict c run past (standing c run past) d ≡ Some Wait
        → settles c run h r ≡ true
    command_settles number d at verdict_is =
        ap (λ o. settles_by c run h r (command_in o)) (same_call ∙ at)
        ∙ elim (waits_for c run past (standing c run past) d verdict_is) [
          | waits_order name order m which found waits_ ↦ ap (λ x. settles_by c run h r (Some x)) which
              ∙ (ap (λ o. elim o as (λ _. Bool) [ Some k ↦ order_holds c run h r k order | None ↦ false ]) found
              ∙ order_settles number name m order found waits_ (at ∙ ap (λ x. Some (Line number x)) which))
          | waits_destroy p etherealize wait n which lives ↦ ap (λ x. settles_by c run h r (Some x)) which
              ∙ destroy_settles number p etherealize wait n lives (at ∙ ap (λ x. Some (Line number x)) which)
        ]

    waits_settle : settles c run h r ≡ true
    waits_settle = by_call (call_of past r) refl admission.told
      where
        by_call : (call : Option Call) → call_of past r ≡ call → verdict_on c run past r it.worker call ≡ Some Wait → settles c run h r ≡ true
        by_call None at told = absurd (let f : None ≡ Some Wait = told in cc)
        by_call (Some (Request head target operation body)) at told =
            absurd (never_waits (facts_of c run past r) it.worker (chosen_go (first_row (facts_of c run past r) it.worker) Wait told))
        by_call (Some (Locate head target)) at told =
            absurd (never_waits (facts_of c run past r) it.worker (chosen_go (first_row (facts_of c run past r) it.worker) Wait told))
        by_call (Some (Line number command)) at told = command_settles number command at told

  settled_decided : (past : List Entry) → h ≡ past → (r : ℕ) → admitted h r ≡ Some Wait → settles c run h r ≡ true → decided c run h r ≡ true
  settled_decided [] at r waits_ settles_ = absurd (let f : None ≡ Some Wait = ap (λ x. admitted x r) (sym at) ∙ waits_ in cc)
  settled_decided (e ∷ past) at r waits_ settles_ =
      subst (λ x. admitted x r ≡ Some Wait → settles c run x r ≡ true → decided c run x r ≡ true) (sym at)
      (λ w' s'. or_second (is_decided_by past e r) _ (or_second (decided c run past r) _ (ap₂ (λ o b. is_waiting o && b) w' s'))) waits_ settles_

  pub answered : (r : ℕ) → r < arrivals h → (decided c run h r ≡ true) ⊎ IsHeldBack c run h r
  answered r less = by_admitted (admitted h r) refl
    where
      by_admitted : (o : Option Verdict) → admitted h r ≡ o → (decided c run h r ≡ true) ⊎ IsHeldBack c run h r
      by_admitted None none = inr (held_back c run limit given alone within h legal idle r less (ap is_none none))
      by_admitted (Some v) is = inl (elim (being_decided c run limit h legal r v is) [
        | inl done ↦ done
        | inr open_ ↦ elim open_ [
          | inl waits_ ↦
              (let is' : admitted h r ≡ Some Wait = is
              ∙ ap (λ x. Some x) waits_ in settled_decided h refl r is' (waits_settle r (since c run limit given within h legal r is')))
          | inr at ↦ absurd (let f : false ≡ true = sym (ap (is_deciding r) (all_free c run limit given alone within h legal idle at.0)) ∙ at.1 in cc)
        ]
      ])
