-- What is gone stays gone.
use Rattle.std.specs.Prelude.{◌≡◌, ℕ, ◌<◌, true, false, ◌&&◌, ◌==◌, nat_lt, if◌then◌else◌, List, [], ◌∷◌, ◌++◌, length, find, Option, Some, None, refl}
use Rattle.std.proofs.Common.{inl, inr, sym, subst, ap, ap₂, ◌∙◌, arith}
use Rattle.std.proofs.lemmas.Bool.{cases_Bool, cond_both, and_parts, or_cases, true≢false, false_from_ne_true, eqb-true, eq-eqb, lt-ltb, ltb-true}
use Rattle.poa_base.specs.declared.Config.{Config}
use Rattle.poa_base.specs.declared.Key.{Key}
use Rattle.poa_base.specs.declared.Call.{Call}
use Rattle.poa_base.specs.declared.Call.TheVariants.{Request, Locate, Line}
use Rattle.poa_base.specs.declared.Verdict.{Verdict}
use Rattle.poa_base.specs.declared.Verdict.TheVariants.{Incarnate, Refuse}
use Rattle.poa_base.specs.declared.Entry.{Entry}
use Rattle.poa_base.specs.declared.Entry.TheVariants.{Admit}
use Rattle.poa_choose.specs.declared.Choice.TheVariants.{Go}
use Rattle.poa_choose.specs.declared.Facts.{Facts}
use Rattle.poa_choose.specs.declared.KeyFact.{KeyFact}
use Rattle.poa_choose.specs.declared.KeyFact.TheVariants.{Absent, Bad as BadKey, OtherRun, Transient, Persistent}
use Rattle.poa_choose.specs.declared.WalkFact.TheVariants.{Dying as MeetsDying}
use Rattle.poa_choose.specs.Table.{walk_rows, key_rows, first_row}
use Rattle.history_standing.specs.declared.node.Node.{Node}
use Rattle.history_standing.specs.declared.flight.Flight.{Flight}
use Rattle.history_standing.specs.declared.activation.Activation.{Activation}
use Rattle.history_standing.specs.declared.activation.Phase.{Phase}
use Rattle.history_standing.specs.declared.activation.Phase.TheVariants.{Begun, Complete, Void}
use Rattle.history_standing.specs.Arrivals.{call_of}
use Rattle.history_standing.specs.Paths.{leads_to, is_root}
use Rattle.history_standing.specs.Nodes.{node_at}
use Rattle.history_standing.specs.Trees.{In}
use Rattle.history_standing.specs.declared.found.Found.TheVariants.{Missing, Dying, Live}
use Rattle.history_standing.specs.Walks.{walk, walk_from}
use Rattle.history_standing.specs.Standings.{Standing, is_void, has_flights}
use Rattle.history_standing.specs.Ends.{is_finished, is_over, is_done_with, is_gone}
use Rattle.history_standing.specs.Keys.{key_in}
use Rattle.history_standing.specs.Logs.{command_done}
use Rattle.history_standing.specs.Commands.{live_at}
use Rattle.history_standing.specs.Changes.{standing}
use Rattle.history_standing.specs.Situations.{walk_fact, key_or_none, facts_of}
use Rattle.poa_history.specs.Verdicts.{verdict_on}
use Rattle.poa_history.specs.Legal.{MayFollow, IsLegal}
use Rattle.poa_history.specs.Sound.{IsGiven, IsSound}
use Rattle.poa_history.specs.Bounds.{IsWithinLimits}
use Rattle.poa_history.specs.Destroyed.{destroys, IsChildOf, IsEnded}
use Rattle.poa_history.specs.Later.{IsLater}
use Rattle.history_standing.proofs.Finding.{find_in, find_none}
use Rattle.history_standing.proofs.WalkStands.{node_found, node_missing}
use Rattle.poa_history.proofs.SettledKept.{or_first, or_second}
use Rattle.poa_history.proofs.CommandMoves.{live_tells}
use Rattle.poa_history.proofs.StepMoves.{chosen_go}
use Rattle.poa_history.proofs.TurnTells.{admission_is}
use Rattle.poa_history.proofs.FlightsFrom.{flew, begins, flight_from}
use Rattle.poa_history.proofs.NodesFrom.{stood, new, node_before, count_from}
use Rattle.poa_history.proofs.ActivationsFrom.{incarnating, activating, activating_id, referring, stood as activation_stood, begun as activation_begun, activation_from}
use Rattle.poa_history.proofs.CommandTells.{untaken_activate, untaken_activate_id}
use Rattle.poa_history.proofs.CommandAnswers.{is_begin, by_choice, refused_none}
use Rattle.poa_history.proofs.StagesFrom.{flight_says}
use Rattle.poa_history.proofs.GoneIs.{ends_where, stands_ungone, emptied_where}
use Rattle.history_standing.proofs.Members.{some_in}
use Rattle.poa_history.proofs.LegalSound.{legal_sound}

-- what is over stays so
over_later : (c : Config) (a b : Activation) → IsLater c a b → is_over c a ≡ true → is_over c b ≡ true
over_later c a b later over =
    elim (or_cases (is_void a) (is_finished c a) over) [
      | inl void ↦
          or_first (is_void b) (is_finished c b) (ap (λ p. elim p [ Void ↦ true | Begun ↦ false | Complete s ↦ false ]) (later.void (void_phase a.phase void)))
      | inr finished ↦ or_second (is_void b) (is_finished c b) (later.finished finished)
    ]
  where
    void_phase : (p : Phase) → (elim p [ Void ↦ true | Begun ↦ false | Complete s ↦ false ]) ≡ true → p ≡ Void
    void_phase Void is = refl
    void_phase Begun is = absurd (let e : false ≡ true = is in cc)
    void_phase (Complete s) is = absurd (let e : false ≡ true = is in cc)

-- where the walk meets an adapter that is being destroyed nothing begins
module _ (f : Facts) (worker : ℕ) (v : Verdict) (dying : f.walk ≡ MeetsDying) where
  by_walk : walk_rows f worker f.walk ≡ Go v → is_begin v ≡ false
  by_walk same = refused_none f worker v _ (Refuse _) refl refl (ap (λ x. walk_rows f worker x) (sym dying) ∙ same)

  by_key : (key : KeyFact) → key_rows f worker key ≡ Go v → is_begin v ≡ false
  by_key Absent = by_choice f worker v _ refl
  by_key BadKey = refused_none f worker v _ (Refuse _) refl refl
  by_key OtherRun = refused_none f worker v _ (Refuse _) refl refl
  by_key Transient = by_walk
  by_key Persistent = by_walk

  dying_none : first_row f worker ≡ Go v → is_begin v ≡ false
  unfolding first_row
  dying_none = cond_both f.crowded _ _ (λ c. c ≡ Go v → is_begin v ≡ false) (λ _. refused_none f worker v _ (Refuse _) refl refl) (λ _. by_key f.key)

module _ (c : Config) (run limit : ℕ) (past : List Entry) (e : Entry) (may : MayFollow c run limit past e) (sound : IsSound c run (standing c run past))
    (after : IsSound c run (standing c run (e ∷ past))) where
  abbrev s : Standing
  s = standing c run past

  abbrev t : Standing
  t = standing c run (e ∷ past)

  -- with the root each adapter is being destroyed
  module _ (root : Node) (stands : In root s.nodes) (at_root : root.path ≡ []) (dying : root.dying ≡ true) where
    all_dying : (n : Node) → In n s.nodes → n.dying ≡ true
    all_dying n there = sound.tree.below root n stands there (ap (λ p. leads_to p n.path) at_root) dying

    walk_dying : (p : List (List ℕ)) → walk_fact (walk s.nodes p) ≡ MeetsDying
    walk_dying p =
        elim (node_at s.nodes []) as (λ o. node_at s.nodes [] ≡ o → walk_fact (elim o [ Some n ↦ walk_from s.nodes n p | None ↦ Missing 0 0 ]) ≡ MeetsDying) [
          | None ↦ λ none. absurd (node_missing s.nodes [] none root stands at_root)
          | Some n ↦ λ found. from_dying n p (all_dying n (node_found s.nodes [] n found).0)
        ] refl
      where
        from_dying : (n : Node) (q : List (List ℕ)) → n.dying ≡ true → walk_fact (walk_from s.nodes n q) ≡ MeetsDying
        from_dying n [] is = ap (λ b. walk_fact (if b then Dying n.number else Live n.number)) is
        from_dying n (x ∷ q) is =
            ap (λ b. walk_fact
            (if b then Dying n.number else elim (node_at s.nodes (n.path ++ x ∷ []))
            [ Some m ↦ walk_from s.nodes m q | None ↦ Missing n.number (length n.path) ])) is

    no_begin : (w r : ℕ) (v : Verdict) (key : Key) → e ≡ Admit w r v → key_in (call_of past r) ≡ Some key → is_begin v ≡ true → ⊥
    no_begin w r v key is has begins_ =
        by_call (call_of past r) refl (admission_is c run past w r v (subst (λ x. MayFollow c run limit past x) is may)).told has
      where
        by_row : verdict_on c run past r w (call_of past r) ≡ Some v → (call : Option Call) → call_of past r ≡ call → first_row (facts_of c run past r) w ≡ Go v
            → ⊥
        by_row told call at row =
            true≢false (sym begins_ ∙ dying_none (facts_of c run past r) w v (walk_dying (key_or_none (key_in (call_of past r))).path) row)

        by_call : (call : Option Call) → call_of past r ≡ call → verdict_on c run past r w call ≡ Some v → key_in call ≡ Some key → ⊥
        by_call None at told has' = (let f : None ≡ Some key = has' in cc)
        by_call (Some (Line number command)) at told has' = (let f : None ≡ Some key = has' in cc)
        by_call (Some (Request head target operation body)) at told has' =
            by_row (ap (verdict_on c run past r w) at ∙ told) (Some (Request head target operation body)) at
            (chosen_go (first_row (facts_of c run past r) w) v told)
        by_call (Some (Locate head target)) at told has' =
            by_row (ap (verdict_on c run past r w) at ∙ told) (Some (Locate head target)) at (chosen_go (first_row (facts_of c run past r) w) v told)

    no_live : (p : List (List ℕ)) (n : Node) → live_at s p ≡ Some n → ⊥
    no_live p n lives = (let told = live_tells s p n lives in true≢false (sym (all_dying n told.0) ∙ told.2))

    -- the root has ended after the entry too
    root_ended : ((m : Node) → In m s.nodes → IsChildOf root m → ⊥) → ((f : Flight) → In f s.flights → f.adapter ≡ root.number → ⊥)
        → ((a : Activation) → In a s.activations → a.adapter ≡ root.number → is_over c a ≡ true) → (n : Node) → In n t.nodes → n.number ≡ root.number
        → IsEnded c t n
    root_ended childless idle over n there at = record {
      dying = dying_now;
      idle = false_from_ne_true (has_flights t.flights n.number)
          (λ busy. let f = some_in (λ g. g.adapter == n.number) t.flights busy in no_flight f.0 f.1 (eqb-true f.0.adapter n.number f.2 ∙ at));
      over = λ b is same. no_life b is (same ∙ at);
      children = λ m is child. absurd (no_child m is child);
    }
      where
        same_root : (m : Node) → In m s.nodes → n.number ≡ m.number → m ≡ root
        same_root m was number = sound.tree.number_alone m root was stands (sym number ∙ at)

        place : n.path ≡ root.path
        place =
            elim (node_before c run past e n there) [
              | stood m was number path dying' ↦ path ∙ ap (λ x. x.path) (same_root m was number)
              | new number living ↦ absurd (let low = sound.tree.numbered root stands in omega (arith, low, number, at))
            ]

        dying_now : n.dying ≡ true
        dying_now =
            elim (node_before c run past e n there) [
              | stood m was number path dying' ↦ dying'
                  ∙ or_second (destroys m.path (command_done past e)) m.dying (ap (λ x. x.dying) (same_root m was number) ∙ dying)
              | new number living ↦ absurd (let low = sound.tree.numbered root stands in omega (arith, low, number, at))
            ]

        no_flight : (f : Flight) → In f t.flights → f.adapter ≡ root.number → ⊥
        no_flight f is same =
            elim (flight_from past s c run e f is) [
              | flew was ↦ idle f was same
              | begins w r v key is' has for_ ↦ no_begin w r v key is' has (flight_says s r key v f for_).1
            ]

        no_life : (b : Activation) → In b t.activations → b.adapter ≡ root.number → is_over c b ≡ true
        no_life b is same =
            elim (activation_from c run past e b is) [
              | activation_stood a was step ↦ over_later c a b step.later (over a was (sym step.later.adapter ∙ same))
              | activation_begun fresh ↦ absurd (elim fresh.how [
                | incarnating w r n' key is' has adapter path oid phase ↦ no_begin w r (Incarnate n') key is' has refl
                | activating p servant done adapter path oid phase ↦
                    (let free = untaken_activate c run past limit e p servant may done in no_live p free.node free.lives)
                | activating_id p oid' servant done adapter path oid phase ↦
                    (let free = untaken_activate_id c run past limit e p oid' servant may done in no_live p free.node free.lives)
                | referring p servant n' k done lives known implicit adapter path oid phase ↦ no_live p n' lives
              ])
            ]

        no_child : (m : Node) → In m t.nodes → IsChildOf n m → ⊥
        no_child m is child =
            elim (node_before c run past e m is) [
              | stood m0 was number path dying' ↦ childless m0 was (child.0, sym path ∙ (child.1 ∙ ap (λ p. p ++ child.0 ∷ []) place))
              | new number living ↦ true≢false (sym (after.tree.below n m there is (ap (λ p. leads_to p m.path) (place ∙ at_root)) dying_now) ∙ living)
            ]

  gone_by_number : (k : ℕ) → k < s.count → ((n : Node) → In n t.nodes → n.number ≡ k → is_gone c t n.number ≡ true) → is_gone c t k ≡ true
  gone_by_number k low each =
      elim (find (λ n. n.number == k) t.nodes) as (λ o. find (λ n. n.number == k) t.nodes ≡ o → is_gone c t k ≡ true) [
        | None ↦ λ none. ap₂ (λ a o. a && (elim o [ Some n ↦ is_done_with c t n | None ↦ true ])) counted none
        | Some n ↦
            λ found.
            (let there = find_in (λ m. m.number == k) n t.nodes found in let at : n.number ≡ k = eqb-true n.number k there.1 in
            subst (λ x. is_gone c t x ≡ true) at (each n there.0 at))
      ] refl
    where
      counted : nat_lt k t.count ≡ true
      counted = lt-ltb _ _ (let more = count_from c run past e s in omega (arith, low, more))

  gone_step : ((n : Node) → In n s.nodes → is_root n.path ≡ false → is_gone c s n.number ≡ false)
      → ((k : ℕ) → is_gone c s k ≡ true → ((f : Flight) → In f s.flights → f.adapter ≡ k → ⊥)
      × ((a : Activation) → In a s.activations → a.adapter ≡ k → is_over c a ≡ true)) → (k : ℕ) → is_gone c s k ≡ true → is_gone c t k ≡ true
  gone_step ungone empty k gone =
      elim (find (λ n. n.number == k) s.nodes) as (λ o. find (λ n. n.number == k) s.nodes ≡ o → is_gone c t k ≡ true) [
        | None ↦ λ none. gone_by_number k low (λ n there at. absurd (elim (node_before c run past e n there) [
          | stood m was number path dying' ↦ find_none (λ x. x.number == k) m s.nodes none was (eq-eqb m.number k (sym number ∙ at))
          | new number living ↦ (let l = low in omega (arith, l, number, at))
        ]))
        | Some n ↦ λ found. by_node n (find_in (λ m. m.number == k) n s.nodes found).0 (eqb-true n.number k (find_in (λ m. m.number == k) n s.nodes found).1)
      ] refl
    where
      low : k < s.count
      low = ltb-true k s.count (and_parts (nat_lt k s.count) (elim (find (λ n. n.number == k) s.nodes) [ Some n ↦ is_done_with c s n | None ↦ true ]) gone).0

      by_root : (n : Node) → In n s.nodes → n.number ≡ k → n.path ≡ [] → is_gone c t k ≡ true
      by_root n there at at_root =
          let ended = (ends_where c run s sound n there).0 (subst (λ x. is_gone c s x ≡ true) (sym at) gone) in
          let left = empty k gone in
          gone_by_number k low (λ m is same. (ends_where c run t after m is).1
          (root_ended n there at_root ended.dying
          (λ d was child. true≢false (sym (ended.children d was child) ∙ ungone d was (below d child)))
          (λ f was same'. left.0 f was (same' ∙ at)) (λ a was same'. left.1 a was (same' ∙ at)) m is (same ∙ sym at)))
        where
          below : (d : Node) → IsChildOf n d → is_root d.path ≡ false
          below d child = ap is_root (child.1 ∙ ap (λ p. p ++ child.0 ∷ []) at_root)

      by_node : (n : Node) → In n s.nodes → n.number ≡ k → is_gone c t k ≡ true
      by_node n there at =
          elim (cases_Bool (is_root n.path)) [
            | inl root ↦ by_root n there at (root_path n.path root)
            | inr other ↦ absurd (true≢false (sym gone ∙ (ap (is_gone c s) (sym at) ∙ ungone n there other)))
          ]
        where
          root_path : (p : List (List ℕ)) → is_root p ≡ true → p ≡ []
          root_path [] is = refl
          root_path (x ∷ p) is = absurd (let f : false ≡ true = is in cc)

module _ (c : Config) (run limit : ℕ) (given : IsGiven c run) (within : IsWithinLimits c limit) where
  pub gone_stays : (past more : List Entry) → IsLegal c run limit (more ++ past) → (k : ℕ) → is_gone c (standing c run past) k ≡ true
      → is_gone c (standing c run (more ++ past)) k ≡ true
  gone_stays past [] legal k gone = gone
  gone_stays past (e ∷ more) legal k gone =
      gone_step c run limit (more ++ past) e legal.0 (legal_sound c run limit (more ++ past) given within legal.1)
      (legal_sound c run limit (e ∷ (more ++ past)) given within legal)
      (stands_ungone c run limit (more ++ past) given within legal.1)
      (λ j was. (let left = emptied_where c run limit (more ++ past) given within legal.1 j was in (left.idle, left.over)))
      k (gone_stays past more legal.1 k gone)
