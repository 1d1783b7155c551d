-- Where a `shutdown` was admitted, the root is being destroyed: by it, or by the command for which it was refused.
use Rattle.std.proofs.Common.{◌≡◌, ℕ, Bool, true, false, ◌&&◌, if◌then◌else◌, List, [], ◌∷◌, ◌++◌, Option, Some, None, nat_lt, refl, sym, ap, ap₂, ◌∙◌, subst, inl, inr}
use Rattle.std.proofs.lemmas.Bool.{lt-ltb, or_cases}
use Rattle.std.proofs.Math.Seq.{append_snoc}
use Rattle.poa_base.specs.declared.Call.{Call}
use Rattle.poa_base.specs.declared.Call.TheVariants.{Line, Locate, Request}
use Rattle.poa_base.specs.declared.Command.TheVariants.{Activate, ActivateId, Bad as BadLine, Create, Deactivate, Destroy, Forward as ForwardLine, Manager, Preset as PresetLine, Reference, Shutdown, Unforward}
use Rattle.poa_base.specs.declared.Entry.{Entry}
use Rattle.poa_base.specs.declared.Entry.TheVariants.{Entered, Arrive, Filled, Left, Collect, Admit, Tried, Incarnated, Run, Done, TakeOut, Etherealized, Abandon}
use Rattle.poa_base.specs.declared.Verdict.{Verdict}
use Rattle.poa_base.specs.declared.Verdict.TheVariants.{Answer}
use Rattle.poa_base.specs.declared.Answer.TheVariants.{Good}
use Rattle.poa_base.specs.declared.Reason.TheVariants.{AdapterNonExistent}
use Rattle.history_standing.specs.Arrivals.{call_of}
use Rattle.history_standing.specs.Changes.{standing}
use Rattle.history_standing.specs.Commands.{command_verdict, good, refusal, with_live}
use Rattle.poa_history.specs.Destroyed.{destroys, was_destroyed}
use Rattle.poa_history.specs.Legal.{IsLegal}
use Rattle.history_standing.specs.Logs.{command_done, command_in, is_accepted}
use Rattle.poa_history.specs.Sound.{IsSound}
use Rattle.history_standing.specs.Standings.{Standing}
use Rattle.poa_history.specs.Verdicts.{verdict_on}
use Rattle.poa_history.proofs.DyingIs.{dying_is}
use Rattle.poa_history.proofs.LegalSound.{legal_sound}
use Rattle.poa_history.proofs.SettledKept.{or_first, or_second}
use Rattle.poa_history.proofs.TurnTells.{admission_is}
use Rattle.history_standing.specs.Nodes.{node_at}
use Rattle.history_standing.specs.Trees.{In}
use Rattle.history_standing.specs.declared.node.Node.{Node}
use Rattle.history_standing.proofs.WalkStands.{node_found, node_missing}
use Rattle.history_laws.specs.Undone.{AreIdle, IsAllOver}
use Rattle.history_laws.proofs.RootStays.{root_since}
use Rattle.history_laws.proofs.Shut.{dying_over}
use Rattle.history_laws.proofs.Since.{destroyed_since, legal_before}
use Rattle.history_laws.proofs.Opened.{alone, given, within}
use Rattle.poa_history.specs.Leaving.{is_shut, is_shut_by}
use Rattle.poa_history.specs.declared.givens.Givens.{Givens}
use Rattle.poa_history.specs.GivenRuns.{IsHistory}

-- where the `shutdown` was admitted
record IsAdmitted (h : List Entry) : Type 0 where
  more : List Entry
  past : List Entry
  worker : ℕ
  arrival : ℕ
  number : ℕ
  verdict : Verdict
  split : h ≡ more ++ (Admit worker arrival verdict ∷ past)
  call : call_of past arrival ≡ Some (Line number Shutdown)

-- a call that is a `shutdown`
record IsShutdownLine (o : Option Call) : Type 0 where
  number : ℕ
  is : o ≡ Some (Line number Shutdown)

line_is : (o : Option Call) → is_shut_by o ≡ true → IsShutdownLine o
line_is (Some (Line number Shutdown)) is = record { number = number; is = refl }
line_is None is = absurd (let e : false ≡ true = is in cc)
line_is (Some (Request head target operation body)) is = absurd (let e : false ≡ true = is in cc)
line_is (Some (Locate head target)) is = absurd (let e : false ≡ true = is in cc)
line_is (Some (Line number (Manager name order))) is = absurd (let e : false ≡ true = is in cc)
line_is (Some (Line number (Create p))) is = absurd (let e : false ≡ true = is in cc)
line_is (Some (Line number (Destroy p etherealize wait))) is = absurd (let e : false ≡ true = is in cc)
line_is (Some (Line number (Activate p servant))) is = absurd (let e : false ≡ true = is in cc)
line_is (Some (Line number (ActivateId p oid servant))) is = absurd (let e : false ≡ true = is in cc)
line_is (Some (Line number (Deactivate p oid))) is = absurd (let e : false ≡ true = is in cc)
line_is (Some (Line number (Reference p servant))) is = absurd (let e : false ≡ true = is in cc)
line_is (Some (Line number (PresetLine p servant))) is = absurd (let e : false ≡ true = is in cc)
line_is (Some (Line number (ForwardLine p endpoint))) is = absurd (let e : false ≡ true = is in cc)
line_is (Some (Line number (Unforward p))) is = absurd (let e : false ≡ true = is in cc)
line_is (Some (Line number (BadLine word))) is = absurd (let e : false ≡ true = is in cc)

later : (e : Entry) (past : List Entry) → IsAdmitted past → IsAdmitted (e ∷ past)
later e past it =
    record {
      more = e ∷ it.more;
      past = it.past;
      worker = it.worker;
      arrival = it.arrival;
      number = it.number;
      verdict = it.verdict;
      split = ap (λ l. e ∷ l) it.split;
      call = it.call;
    }

admitted_at : (h : List Entry) → is_shut h ≡ true → IsAdmitted h
admitted_at [] is = absurd (let e : false ≡ true = is in cc)
admitted_at (Admit w r v ∷ past) is =
    elim (or_cases (is_shut_by (call_of past r)) (is_shut past) is) [
      | inl now ↦
          (let line = line_is (call_of past r) now in
          record { more = []; past = past; worker = w; arrival = r; number = line.number; verdict = v; split = refl; call = line.is })
      | inr was ↦ later (Admit w r v) past (admitted_at past was)
    ]
admitted_at (Entered conn ∷ past) is = later (Entered conn) past (admitted_at past is)
admitted_at (Arrive conn size call ∷ past) is = later (Arrive conn size call) past (admitted_at past is)
admitted_at (Filled conn size ∷ past) is = later (Filled conn size) past (admitted_at past is)
admitted_at (Left conn ∷ past) is = later (Left conn) past (admitted_at past is)
admitted_at (Collect conn a ∷ past) is = later (Collect conn a) past (admitted_at past is)
admitted_at (Tried w a ∷ past) is = later (Tried w a) past (admitted_at past is)
admitted_at (Incarnated w a ∷ past) is = later (Incarnated w a) past (admitted_at past is)
admitted_at (Run w ∷ past) is = later (Run w) past (admitted_at past is)
admitted_at (Done w ∷ past) is = later (Done w) past (admitted_at past is)
admitted_at (TakeOut w n x ∷ past) is = later (TakeOut w n x) past (admitted_at past is)
admitted_at (Etherealized w x y ∷ past) is = later (Etherealized w x y) past (admitted_at past is)
admitted_at (Abandon w ∷ past) is = later (Abandon w) past (admitted_at past is)

module _ (g : Givens) (h : List Entry) (is : IsHistory g h) (shut : is_shut h ≡ true) where
  abbrev it : IsAdmitted h
  it = admitted_at h shut

  abbrev e : Entry
  e = Admit it.worker it.arrival it.verdict

  legal_then : IsLegal g.config g.run g.limit (e ∷ it.past)
  legal_then =
      legal_before g.config g.run g.limit (given g.config g.run g.limit h is) (within g.config g.run g.limit h is) it.more (e ∷ it.past)
      (subst (IsLegal g.config g.run g.limit) it.split is.legal)

  abbrev s : Standing
  s = standing g.config g.run it.past

  sound_then : IsSound g.config g.run s
  sound_then = legal_sound g.config g.run g.limit it.past (given g.config g.run g.limit h is) (within g.config g.run g.limit h is) legal_then.1

  abbrev root : Node
  root = sound_then.tree.rooted.0

  root_there : In root s.nodes
  root_there = sound_then.tree.rooted.1

  root_path : root.path ≡ []
  root_path = sound_then.tree.rooted.2

  -- the table's row of a `shutdown`
  told : with_live s [] (λ n. good) ≡ Some it.verdict
  unfolding command_verdict
  told = ap (verdict_on g.config g.run it.past it.arrival it.worker) (sym it.call)
      ∙ (admission_is g.config g.run it.past it.worker it.arrival it.verdict legal_then.0).told

  -- it did destroy the root, or was refused since that was being destroyed
  abbrev IsDestroyed : Type 0
  IsDestroyed = was_destroyed g.config g.run (e ∷ it.past) root.number [] ≡ true

  by_this : it.verdict ≡ Answer Good → IsDestroyed
  by_this good_ =
      or_first (nat_lt root.number s.count && destroys [] (command_done it.past e)) (was_destroyed g.config g.run it.past root.number [])
      (ap₂ (λ x y. x && y) (lt-ltb root.number s.count (sound_then.tree.numbered root root_there))
      (ap (λ v. destroys [] (if is_accepted v then command_in (call_of it.past it.arrival) else None)) good_ ∙ ap (λ o. destroys [] (command_in o)) it.call))

  before_this : root.dying ≡ true → IsDestroyed
  before_this dying =
      or_second (nat_lt root.number s.count && destroys [] (command_done it.past e)) (was_destroyed g.config g.run it.past root.number [])
      (ap (was_destroyed g.config g.run it.past root.number) (sym root_path)
      ∙ (sym (dying_is g.config g.run g.limit it.past (given g.config g.run g.limit h is) (within g.config g.run g.limit h is) legal_then.1 root root_there)
      ∙ dying))

  by_dying : (n : Node) → node_at s.nodes [] ≡ Some n → (b : Bool) → n.dying ≡ b
      → (elim (if b then None else Some n) as (λ _. Option Verdict) [ Some m ↦ good | None ↦ refusal AdapterNonExistent ]) ≡ Some it.verdict → IsDestroyed
  by_dying n found true dying verdict_is =
      (let there = node_found s.nodes [] n found in
      before_this (ap (λ m. m.dying) (sound_then.tree.path_alone root n root_there there.0 (root_path ∙ sym there.1)) ∙ dying))
  by_dying n found false dying verdict_is = by_this (let same : Some (Answer Good) ≡ Some it.verdict = verdict_is in cc)

  by_node : (o : Option Node) → node_at s.nodes [] ≡ o
      → (elim (elim o as (λ _. Option Node) [ Some n ↦ (if n.dying then None else Some n) | None ↦ None ]) as (λ _. Option Verdict)
      [ Some m ↦ good | None ↦ refusal AdapterNonExistent ]) ≡ Some it.verdict → IsDestroyed
  by_node None none verdict_is = absurd (node_missing s.nodes [] none root root_there root_path)
  by_node (Some n) found verdict_is = by_dying n found n.dying refl verdict_is

  destroyed : IsDestroyed
  destroyed = by_node (node_at s.nodes []) refl told

  -- so the root that stands now is being destroyed
  root_dying : (n : Node) → In n (standing g.config g.run h).nodes → n.path ≡ [] → n.dying ≡ true
  root_dying n there at =
      let ever = root_since g.config g.run (it.more ++ e ∷ []) it.past root root_there root_path in
      let split : h ≡ (it.more ++ e ∷ []) ++ it.past = it.split ∙ sym (append_snoc it.more e it.past) in
      let there' : In ever.0 (standing g.config g.run h).nodes = subst (λ x. In ever.0 (standing g.config g.run x).nodes) (sym split) ever.1 in
      let sound = legal_sound g.config g.run g.limit h (given g.config g.run g.limit h is) (within g.config g.run g.limit h is) is.legal in
      let number : n.number ≡ root.number = ap (λ x. x.number) (sound.tree.path_alone n ever.0 there there' (at ∙ sym ever.2)) ∙ ever.3 in
      dying_is g.config g.run g.limit h (given g.config g.run g.limit h is) (within g.config g.run g.limit h is) is.legal n there
      ∙ (ap₂ (was_destroyed g.config g.run h) number at
      ∙ (ap (λ x. was_destroyed g.config g.run x root.number []) it.split
      ∙ destroyed_since g.config g.run g.limit (given g.config g.run g.limit h is) (within g.config g.run g.limit h is) it.more (e ∷ it.past) root.number
      [] destroyed))

  pub shut_ends : AreIdle g.config g.run h → IsAllOver g.config g.run h
  shut_ends idle =
      dying_over g.config g.run g.limit (given g.config g.run g.limit h is) (alone g.config g.run g.limit h is)
      (within g.config g.run g.limit h is) h is.legal idle root_dying
