-- The child of a trial in flight is the one that its activator was asked for when the arrival was admitted.
use Rattle.std.specs.Prelude.{◌≡◌, ℕ, ◌<◌, ◌==◌, if◌then◌else◌, List, [], ◌∷◌, Option, Some, None, option_map}
use Rattle.std.specs.Prelude.{option_and_then, is_none, is_some, nat_lt, ◌&&◌, false, refl}
use Rattle.std.proofs.Common.{sym, ap, ap₂, ◌∙◌, arith}
use Rattle.std.proofs.lemmas.Bool.{cond_both, eq-eqb, eqb-true, true≢false}
use Rattle.poa_base.specs.declared.Config.{Config}
use Rattle.poa_base.specs.declared.Children.{Children}
use Rattle.poa_base.specs.declared.Children.TheVariants.{Create, Refuse as RefuseChild, Raise as RaiseInstead}
use Rattle.poa_base.specs.declared.limits.TheConstants.{ADAPTERS}
use Rattle.poa_base.specs.declared.Key.{Key}
use Rattle.poa_base.specs.declared.Attempt.TheVariants.{Yes, No, Raised, Dying as ParentDying}
use Rattle.poa_base.specs.declared.Entry.{Entry}
use Rattle.poa_base.specs.declared.Entry.TheVariants.{Entered, Arrive, Filled, Left, Collect, Admit, Tried, Incarnated}
use Rattle.poa_base.specs.declared.Entry.TheVariants.{Run, Done, TakeOut, Etherealized, Abandon}
use Rattle.poa_base.specs.declared.Verdict.{Verdict}
use Rattle.poa_base.specs.declared.Verdict.TheVariants.{Serve, Preset, Locator, Incarnate, Try, Refuse, Forward, Addressing, Here, Unknown, Answer, Wait}
use Rattle.history_standing.specs.declared.node.Node.{Node}
use Rattle.history_standing.specs.Trees.{In}
use Rattle.history_standing.specs.Walks.{walk, child_met}
use Rattle.history_standing.proofs.Finding.{find_in}
use Rattle.history_standing.specs.declared.flight.Flight.{Flight}
use Rattle.poa_history.specs.Alone.{IsGivenAlone}
use Rattle.history_standing.specs.Arrivals.{arrivals}
use Rattle.poa_history.specs.Bounds.{IsWithinLimits}
use Rattle.history_standing.specs.Changes.{standing, child_tried}
use Rattle.history_standing.specs.Keys.{key_in}
use Rattle.poa_history.specs.Legal.{MayFollow, IsLegal}
use Rattle.poa_history.specs.Settling.{before_admit}
use Rattle.poa_history.specs.Sound.{IsGiven}
use Rattle.history_standing.specs.Stages.{stage, arrival_in, is_unadmitted}
use Rattle.history_standing.specs.Standings.{Standing}
use Rattle.history_standing.specs.Templates.{template, template_or_root}
use Rattle.poa_history.specs.Turns.{flight_of, node_of, attempt, attempt_at, attempt_by}
use Rattle.poa_history.proofs.FlightsFrom.{flew, begins, flight_from, flight_for}
use Rattle.poa_history.proofs.IdsFew.{messages}
use Rattle.poa_history.proofs.MannedKept.{all_manned}
use Rattle.poa_history.proofs.StagesFrom.{held_admitted, flight_says}
use Rattle.poa_history.proofs.TurnTells.{admission_is, trial_is}
use Rattle.history_words.specs.Creations.{child_asked}
use Rattle.history_words.proofs.Created.{KnowsChild}
use Rattle.history_standing.proofs.CallsKept.{call_kept}

-- a trial's flight tells the child that the walk misses
child_for : (s : Standing) (r : ℕ) (key : Key) (v : Verdict) (f : Flight) (p : List (List ℕ)) → flight_for s r key v ≡ Some f → f.child ≡ Some p
    → child_met (walk s.nodes key.path) key.path ≡ p
child_for s r key (Serve n) f p is has = absurd (let e : None ≡ Some p = ap (λ o. option_and_then (λ g. g.child) o) is ∙ has in cc)
child_for s r key (Preset n) f p is has = absurd (let e : None ≡ Some p = ap (λ o. option_and_then (λ g. g.child) o) is ∙ has in cc)
child_for s r key (Locator n) f p is has = absurd (let e : None ≡ Some p = ap (λ o. option_and_then (λ g. g.child) o) is ∙ has in cc)
child_for s r key (Incarnate n) f p is has = absurd (let e : None ≡ Some p = ap (λ o. option_and_then (λ g. g.child) o) is ∙ has in cc)
child_for s r key Try f p is has =
    (let e : Some (child_met (walk s.nodes key.path) key.path) ≡ Some p = ap (λ o. option_and_then (λ g. g.child) o) is ∙ has in cc)
child_for s r key (Refuse x) f p is has = absurd (let e : None ≡ Some f = is in cc)
child_for s r key (Forward x) f p is has = absurd (let e : None ≡ Some f = is in cc)
child_for s r key Addressing f p is has = absurd (let e : None ≡ Some f = is in cc)
child_for s r key Here f p is has = absurd (let e : None ≡ Some f = is in cc)
child_for s r key Unknown f p is has = absurd (let e : None ≡ Some f = is in cc)
child_for s r key (Answer x) f p is has = absurd (let e : None ≡ Some f = is in cc)
child_for s r key Wait f p is has = absurd (let e : None ≡ Some f = is in cc)

-- an activator that says yes was asked for the child of a flight, and says the next number
pub record SaysYes (s : Standing) (r k : ℕ) : Type 0 where
  pub flight : Flight
  pub child : List (List ℕ)
  pub found : flight_of s r ≡ Some flight
  pub asked : flight.child ≡ Some child
  pub number : k ≡ s.count

module _ (c : Config) (s : Standing) (k : ℕ) where
  yes_by : (children : Option Children) (child : List (List ℕ)) → attempt_by c s children child ≡ Yes k → k ≡ s.count
  yes_by (Some RaiseInstead) child is = absurd (let e : Raised ≡ Yes k = is in cc)
  yes_by (Some Create) child is =
      cond_both (is_some (template c child) && nat_lt s.count ADAPTERS) (Yes s.count) No (λ a. a ≡ Yes k → k ≡ s.count)
      (λ _ same. (let e : Yes s.count ≡ Yes k = same in cc)) (λ _ same. absurd (let e : No ≡ Yes k = same in cc)) is
  yes_by (Some RefuseChild) child is = absurd (let e : No ≡ Yes k = is in cc)
  yes_by None child is = absurd (let e : No ≡ Yes k = is in cc)

  yes_at : (parent : Option Node) (child : List (List ℕ)) → attempt_at c s parent child ≡ Yes k → k ≡ s.count
  yes_at None child is = absurd (let e : ParentDying ≡ Yes k = is in cc)
  yes_at (Some n) child is =
      cond_both n.dying ParentDying (attempt_by c s (template_or_root c n.path).children child) (λ a. a ≡ Yes k → k ≡ s.count)
      (λ _ same. absurd (let e : ParentDying ≡ Yes k = same in cc)) (λ _. yes_by (template_or_root c n.path).children child) is

  pub says_yes : (r : ℕ) → attempt c s r ≡ Yes k → SaysYes s r k
  says_yes r is = by_flight (flight_of s r) refl is
    where
      by_child : (f : Flight) → flight_of s r ≡ Some f → (o : Option (List (List ℕ))) → f.child ≡ o
          → (elim o [ None ↦ No | Some child ↦ attempt_at c s (node_of s f.adapter) child ]) ≡ Yes k → SaysYes s r k
      by_child f found None at same = absurd (let e : No ≡ Yes k = same in cc)
      by_child f found (Some child) at same =
          record { flight = f; child = child; found = found; asked = at; number = yes_at (node_of s f.adapter) child same }

      by_flight : (o : Option Flight) → flight_of s r ≡ o
          → (elim o [ None ↦ No | Some f ↦ elim f.child [ None ↦ No | Some child ↦ attempt_at c s (node_of s f.adapter) child ] ]) ≡ Yes k → SaysYes s r k
      by_flight None found same = absurd (let e : No ≡ Yes k = same in cc)
      by_flight (Some f) found same = by_child f found f.child refl same

module _ (c : Config) (run limit : ℕ) (given : IsGiven c run) (alone : IsGivenAlone c run) (within : IsWithinLimits c limit) where
  -- what stood when an arrival was admitted stays so
  before_kept : (past : List Entry) (e : Entry) (r : ℕ) → MayFollow c run limit past e → is_unadmitted past r ≡ false
      → before_admit (e ∷ past) r ≡ before_admit past r
  before_kept past (Admit w a v) r may was =
      cond_both (a == r) past (before_admit past r) (λ x. x ≡ before_admit past r)
      (λ same. absurd (true≢false (sym (admission_is c run past w a v may).unadmitted ∙ (ap (is_unadmitted past) (eqb-true a r same) ∙ was)))) (λ _. refl)
  before_kept past (Entered conn) r may was = refl
  before_kept past (Arrive conn size call) r may was = refl
  before_kept past (Filled conn size) r may was = refl
  before_kept past (Left conn) r may was = refl
  before_kept past (Collect conn a) r may was = refl
  before_kept past (Tried w a) r may was = refl
  before_kept past (Incarnated w a) r may was = refl
  before_kept past (Run w) r may was = refl
  before_kept past (Done w) r may was = refl
  before_kept past (TakeOut w n x) r may was = refl
  before_kept past (Etherealized w x y) r may was = refl
  before_kept past (Abandon w) r may was = refl

  asked_kept : (past : List Entry) (e : Entry) (r : ℕ) → MayFollow c run limit past e → r < arrivals past → is_unadmitted past r ≡ false
      → child_asked c run (e ∷ past) r ≡ child_asked c run past r
  asked_kept past e r may arrived was =
      ap₂ (λ call before. option_map (λ key. child_met (walk (standing c run before).nodes key.path) key.path) (key_in call)) (call_kept e past r arrived)
      (before_kept past e r may was)

  -- the child of what is in flight
  pub asked_is : (h : List Entry) → IsLegal c run limit h → (f : Flight) (p : List (List ℕ)) → In f (standing c run h).flights → f.child ≡ Some p
      → child_asked c run h f.arrival ≡ Some p
  asked_is [] legal f p there has = absurd (let arrived = (messages c run limit [] legal f there).arrived in omega (arith, arrived))
  asked_is (e ∷ past) legal f p there has =
      elim (flight_from past (standing c run past) c run e f there) [
        | flew was ↦ (let manned = all_manned c run limit past given alone within legal.1 in
            let worker = manned.manned f was in
            let stands = held_admitted past (standing c run past) (stage past worker.0) f.arrival (manned.stages worker.0) worker.1 in
            asked_kept past e f.arrival legal.0 (messages c run limit past legal.1 f was).arrived (ap is_none stands.1) ∙ asked_is past legal.1 f p was has)
        | begins w r v key is at for_ ↦ (let arrival = (flight_says (standing c run past) r key v f for_).0 in
            ap (λ x. child_asked c run (e ∷ past) x) arrival
            ∙ (ap (λ x. child_asked c run (x ∷ past) r) is
            ∙ (ap₂ (λ o b. option_map (λ k. child_met (walk (standing c run (if b then past else before_admit past r)).nodes k.path) k.path) o) at
            (eq-eqb r r refl)
            ∙ ap (λ x. Some x) (child_for (standing c run past) r key v f p for_ has))))
      ]

  -- so a yes creates the child that was asked for
  yes_knows : (past : List Entry) (w k : ℕ) → IsLegal c run limit (Tried w (Yes k) ∷ past)
      → KnowsChild c run past (Tried w (Yes k)) × (k ≡ (standing c run past).count)
  yes_knows past w k legal =
      let trial = trial_is c run past w (Yes k) legal.0 in
      let yes = says_yes c (standing c run past) k trial.arrival trial.told in
      let there = find_in (λ f. f.arrival == trial.arrival) yes.flight (standing c run past).flights yes.found in
      let at : arrival_in (stage past w) ≡ Some trial.arrival = ap arrival_in trial.begun in
      let tried : child_tried (standing c run past).flights (Some trial.arrival) ≡ Some yes.child =
      ap (option_and_then (λ f. f.child)) yes.found ∙ yes.asked in
      let asked : child_asked c run past trial.arrival ≡ Some yes.child =
      ap (child_asked c run past) (sym (eqb-true yes.flight.arrival trial.arrival there.1))
      ∙ asked_is past legal.1 yes.flight yes.child there.0 yes.asked in
      (ap (child_tried (standing c run past).flights) at ∙ (tried ∙ (sym asked ∙ ap (option_and_then (child_asked c run past)) (sym at))), yes.number)

  pub knows : (past : List Entry) (e : Entry) → IsLegal c run limit (e ∷ past) → KnowsChild c run past e
  knows past (Tried w (Yes k)) legal = (yes_knows past w k legal).0
  knows past (Tried w No) legal = tt
  knows past (Tried w Raised) legal = tt
  knows past (Tried w ParentDying) legal = tt
  knows past (Entered conn) legal = tt
  knows past (Arrive conn size call) legal = tt
  knows past (Filled conn size) legal = tt
  knows past (Left conn) legal = tt
  knows past (Collect conn a) legal = tt
  knows past (Admit w r v) legal = tt
  knows past (Incarnated w a) legal = tt
  knows past (Run w) legal = tt
  knows past (Done w) legal = tt
  knows past (TakeOut w n x) legal = tt
  knows past (Etherealized w x y) legal = tt
  knows past (Abandon w) legal = tt

  -- and says the next number
  pub yes_number : (past : List Entry) (w k : ℕ) → IsLegal c run limit (Tried w (Yes k) ∷ past) → k ≡ (standing c run past).count
  yes_number past w k legal = (yes_knows past w k legal).1
