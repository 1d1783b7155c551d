-- Where a `shutdown` was done and no worker has a next entry, all is over.
use Rattle.history_laws.proofs.Answered.{answered}
use Rattle.history_laws.proofs.Dying.{dying_ends}
use Rattle.history_laws.proofs.HeldRows.{is_held}
use Rattle.history_laws.proofs.Idle.{ended_over}
use Rattle.history_laws.proofs.RootStays.{root_since}
use Rattle.history_laws.proofs.Since.{destroyed_since, legal_before}
use Rattle.history_laws.specs.Undone.{AreIdle, IsAllOver, is_shutdown_done, was_shut}
use Rattle.poa_base.specs.declared.Command.{Command}
use Rattle.poa_base.specs.declared.Command.TheVariants.{Activate, ActivateId, Bad as BadLine, Create, Deactivate, Destroy, Forward as ForwardLine, Manager, Preset as PresetLine, Reference, Shutdown, Unforward}
use Rattle.poa_base.specs.declared.Config.{Config}
use Rattle.poa_base.specs.declared.Entry.{Entry}
use Rattle.poa_base.specs.declared.ExcName.TheVariants.{Transient as Transiently}
use Rattle.poa_base.specs.declared.minors.TheConstants.{DISCARDED}
use Rattle.poa_choose.specs.Table.{first_row, key_rows, refuse, walk_rows}
use Rattle.poa_choose.specs.declared.Facts.{Facts}
use Rattle.poa_choose.specs.declared.KeyFact.{KeyFact}
use Rattle.poa_choose.specs.declared.KeyFact.TheVariants.{Absent, Bad as BadKey, OtherRun, Persistent, Transient}
use Rattle.poa_choose.specs.declared.WalkFact.TheVariants.{Dying as MeetsDying}
use Rattle.poa_history.proofs.DyingIs.{dying_is}
use Rattle.poa_history.proofs.LegalSound.{legal_sound}
use Rattle.poa_history.proofs.SettledKept.{or_first}
use Rattle.poa_history.specs.Alone.{IsGivenAlone}
use Rattle.history_standing.specs.Arrivals.{arrivals, call_of}
use Rattle.poa_history.specs.Bounds.{IsWithinLimits}
use Rattle.history_standing.specs.Changes.{standing}
use Rattle.poa_history.specs.Destroyed.{destroys, was_destroyed}
use Rattle.history_standing.specs.Ends.{is_over}
use Rattle.history_standing.specs.Keys.{key_in}
use Rattle.poa_history.specs.Legal.{IsLegal}
use Rattle.history_standing.specs.Logs.{command_done}
use Rattle.poa_history.specs.Replies.{decided}
use Rattle.history_standing.specs.Situations.{facts_of, key_or_none, walk_fact}
use Rattle.poa_history.specs.Sound.{IsGiven, IsSound}
use Rattle.history_standing.specs.Standings.{Standing}
use Rattle.history_standing.specs.declared.activation.Activation.{Activation}
use Rattle.history_standing.proofs.WalkStands.{node_found, node_missing}
use Rattle.history_standing.specs.Nodes.{node_at}
use Rattle.history_standing.specs.Paths.{leads_to}
use Rattle.history_standing.specs.Trees.{In}
use Rattle.history_standing.specs.Walks.{walk, walk_from}
use Rattle.history_standing.specs.declared.found.Found.TheVariants.{Dying, Live, Missing}
use Rattle.history_standing.specs.declared.node.Node.{Node}
use Rattle.std.proofs.Common.{◌∙◌, ap, ap₂, arith, inl, inr, subst, sym}
use Rattle.std.proofs.lemmas.Bool.{cases_Bool, cond_both, lt-ltb, or_cases, true≢false}
use Rattle.std.specs.Prelude.{◌&&◌, ◌++◌, ◌<◌, ◌∷◌, ◌≡◌, List, None, Option, Some, [], false, if◌then◌else◌, length, nat_lt, refl, true, ℕ}
use Rattle.std.proofs.Math.Seq.{append_snoc}

shutdown_is : (o : Option Command) → is_shutdown_done o ≡ true → o ≡ Some Shutdown
shutdown_is (Some Shutdown) is = refl
shutdown_is None is = absurd (let e : false ≡ true = is in cc)
shutdown_is (Some (Manager name order)) is = absurd (let e : false ≡ true = is in cc)
shutdown_is (Some (Create p)) is = absurd (let e : false ≡ true = is in cc)
shutdown_is (Some (Destroy p etherealize wait)) is = absurd (let e : false ≡ true = is in cc)
shutdown_is (Some (Activate p servant)) is = absurd (let e : false ≡ true = is in cc)
shutdown_is (Some (ActivateId p oid servant)) is = absurd (let e : false ≡ true = is in cc)
shutdown_is (Some (Deactivate p oid)) is = absurd (let e : false ≡ true = is in cc)
shutdown_is (Some (Reference p servant)) is = absurd (let e : false ≡ true = is in cc)
shutdown_is (Some (PresetLine p servant)) is = absurd (let e : false ≡ true = is in cc)
shutdown_is (Some (ForwardLine p endpoint)) is = absurd (let e : false ≡ true = is in cc)
shutdown_is (Some (Unforward p)) is = absurd (let e : false ≡ true = is in cc)
shutdown_is (Some (BadLine word)) is = absurd (let e : false ≡ true = is in cc)

-- where the `shutdown` stands
record IsShut (h : List Entry) : Type 0 where
  more : List Entry
  past : List Entry
  entry : Entry
  split : h ≡ more ++ (entry ∷ past)
  done : command_done past entry ≡ Some Shutdown

shut_at : (h : List Entry) → was_shut h ≡ true → IsShut h
shut_at [] is = absurd (let e : false ≡ true = is in cc)
shut_at (e ∷ past) is =
    elim (or_cases (is_shutdown_done (command_done past e)) (was_shut past) is) [
      | inl now ↦ record { more = []; past = past; entry = e; split = refl; done = shutdown_is (command_done past e) now }
      | inr was ↦
          (let it = shut_at past was in record { more = e ∷ it.more; past = it.past; entry = it.entry; split = ap (λ x. e ∷ x) it.split; done = it.done })
    ]

-- where the walk meets an adapter that is being destroyed, nothing is held
module _ (f : Facts) (dying : f.walk ≡ MeetsDying) where
  by_key : (w : ℕ) (key : KeyFact) → is_held (key_rows f w key) ≡ false
  by_key w Absent = refl
  by_key w BadKey = refl
  by_key w OtherRun = refl
  by_key w Transient = ap (λ x. is_held (walk_rows f w x)) dying
  by_key w Persistent = ap (λ x. is_held (walk_rows f w x)) dying

  dying_goes : (w : ℕ) → is_held (first_row f w) ≡ false
  unfolding first_row
  dying_goes w = cond_both f.crowded (refuse f Transiently DISCARDED) (key_rows f w f.key) (λ x. is_held x ≡ false) (λ _. refl) (λ _. by_key w f.key)

-- where the root is being destroyed, all is over
module _ (c : Config) (run limit : ℕ) (given : IsGiven c run) (alone : IsGivenAlone c run) (within : IsWithinLimits c limit) (h : List Entry)
    (legal : IsLegal c run limit h) (idle : AreIdle c run h) (root_dying : (n : Node) → In n (standing c run h).nodes → n.path ≡ [] → n.dying ≡ true) where
  abbrev s : Standing
  s = standing c run h

  sound : IsSound c run s
  sound = legal_sound c run limit h given within legal

  all_dying : (n : Node) → In n s.nodes → n.dying ≡ true
  all_dying n there =
      (let root = sound.tree.rooted in sound.tree.below root.0 n root.1 there (ap (λ p. leads_to p n.path) root.2) (root_dying root.0 root.1 root.2))

  all_over : (a : Activation) → In a s.activations → is_over c a ≡ true
  all_over a there =
      elim (cases_Bool (is_over c a)) [
        | inl over ↦ over
        | inr lives ↦ (let home = sound.owners a there lives in
            ended_over c run limit given alone within h legal idle a there
            (dying_ends c run limit given within h legal a home.node there home.stands home.numbered (all_dying home.node home.stands)))
      ]

  walk_dying : (p : List (List ℕ)) → walk_fact (walk s.nodes p) ≡ MeetsDying
  walk_dying p =
      elim (node_at s.nodes []) as (λ o. node_at s.nodes [] ≡ o → walk_fact (elim o [ Some n ↦ walk_from s.nodes n p | None ↦ Missing 0 0 ]) ≡ MeetsDying) [
        | None ↦ λ none. absurd (let root = sound.tree.rooted in node_missing s.nodes [] none root.0 root.1 root.2)
        | Some n ↦ λ found. from_dying n p (all_dying n (node_found s.nodes [] n found).0)
      ] refl
    where
      from_dying : (n : Node) (q : List (List ℕ)) → n.dying ≡ true → walk_fact (walk_from s.nodes n q) ≡ MeetsDying
      from_dying n [] is = ap (λ b. walk_fact (if b then Dying n.number else Live n.number)) is
      from_dying n (x ∷ q) is =
          ap (λ b. walk_fact
          (if b then Dying n.number else elim (node_at s.nodes (n.path ++ x ∷ []))
          [ Some m ↦ walk_from s.nodes m q | None ↦ Missing n.number (length n.path) ])) is

  all_decided : (r : ℕ) → r < arrivals h → decided c run h r ≡ true
  all_decided r less =
      elim (answered c run limit given alone within h legal idle r less) [
        | inl done ↦ done
        | inr back ↦
            absurd (true≢false (sym (ap is_held (back.held 0)) ∙ dying_goes (facts_of c run h r) (walk_dying (key_or_none (key_in (call_of h r))).path) 0))
      ]

  pub dying_over : IsAllOver c run h
  dying_over = record { over = all_over; answered = all_decided }

module _ (c : Config) (run limit : ℕ) (given : IsGiven c run) (alone : IsGivenAlone c run) (within : IsWithinLimits c limit) (h : List Entry)
    (legal : IsLegal c run limit h) (idle : AreIdle c run h) (shut : was_shut h ≡ true) where
  abbrev it : IsShut h
  it = shut_at h shut

  -- the root is being destroyed
  root_dying : (n : Node) → In n (standing c run h).nodes → n.path ≡ [] → n.dying ≡ true
  root_dying n there at =
      let legal_then = legal_before c run limit given within it.more (it.entry ∷ it.past) (subst (IsLegal c run limit) it.split legal) in
      let before = (legal_sound c run limit it.past given within legal_then.1).tree in
      let root = before.rooted in
      let same_split : it.more ++ (it.entry ∷ it.past) ≡ (it.more ++ it.entry ∷ []) ++ it.past = sym (append_snoc it.more it.entry it.past) in
      let later = root_since c run (it.more ++ it.entry ∷ []) it.past root.0 root.1 root.2 in
      let there' : In later.0 (standing c run h).nodes = subst (λ x. In later.0 (standing c run x).nodes) (sym (it.split ∙ same_split)) later.1 in
      let number : n.number ≡ root.0.number =
      ap (λ x. x.number) ((legal_sound c run limit h given within legal).tree.path_alone n later.0 there there' (at ∙ sym later.2)) ∙ later.3 in
      let early = before.numbered root.0 root.1 in
      dying_is c run limit h given within legal n there ∙ (ap (λ x. was_destroyed c run x n.number n.path) it.split
      ∙ destroyed_since c run limit given within it.more (it.entry ∷ it.past) n.number n.path
      (or_first (nat_lt n.number (standing c run it.past).count && destroys n.path (command_done it.past it.entry))
      (was_destroyed c run it.past n.number n.path)
      (ap₂ (λ x y. x && y) (lt-ltb n.number (standing c run it.past).count (omega (arith, early, number))) (ap (destroys n.path) it.done))))

  pub shut_over : IsAllOver c run h
  shut_over = dying_over c run limit given alone within h legal idle root_dying
