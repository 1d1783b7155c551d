-- A run of the server where nothing outside fails and no limit is met ends well.
use Rattle.std.proofs.Common.{◌≡◌, ◌⊎◌, ⊎_elim, ℕ, ◌<◌, ◌≤◌, Bool, true, false, ◌||◌, List, [], ◌∷◌, ◌++◌, length, reverse, Option, None, Some, Ok, Err, inl, inr, refl, sym, ap₂, ◌∙◌, subst, arith}
use Rattle.std.specs.Prelude.{◌≢◌, IfSome, MatchOption}
use Rattle.std.specs.Option.{IsSomeAnd, is_some, option_or}
use Rattle.std.specs.Result.{is_err}
use Rattle.std.proofs.lemmas.Option.{same_Some}
use Rattle.command_words.specs.Serving.{Serve}
use Rattle.history_standing.specs.Arrivals.{connections}
use Rattle.outside.specs.Accepting.{Standing}
use Rattle.outside.specs.Cause.{Rose}
use Rattle.outside.specs.Keeping.{Contents}
use Rattle.outside.specs.Link.{Shown}
use Rattle.poa_base.specs.Store.{states}
use Rattle.poa_base.specs.declared.Entry.{Entry}
use Rattle.poa_base.specs.declared.SessionEnd.{SessionEnd}
use Rattle.poa_base.specs.declared.SessionEnd.TheVariants as end
use Rattle.poa_history.specs.Life.{Life, givens_of}
use Rattle.poa_history.specs.Limits.{filled_at}
use Rattle.poa_history.specs.declared.full.Full.{Full}
use Rattle.poa_history.specs.declared.givens.Givens.{Givens}
use Rattle.poad_cmd.specs.Beginning.{IsRefused, IsUnbegun, OpensWith}
use Rattle.poad_cmd.specs.Complete.{AreCalm, CanBegin, IsRoomy, IsState, MayOpen, NoneRose}
use Rattle.poad_cmd.specs.Ending.{AnyRose, IsLimit, is_unput, status_by, wants_memory}
use Rattle.poad_cmd.specs.Serving.{HasServed, ServesOn}
use Rattle.poad_cmd.proofs.Arriving.{entered_before}
use Rattle.poad_cmd.specs.Sending.{AreSent, FitsRun}
use Rattle.poad_cmd.proofs.Completed.{IsUntaken, config_untaken}
use Rattle.poad_cmd.proofs.Linked.{few_or_none, never_filled}
use Rattle.poad_files.specs.StateFile.{ReadsState, state_limit}
use Rattle.poad_files.specs.Taking.{OfContent}
use Rattle.poad_files.specs.declared.status.Status.{Status}
use Rattle.poad_files.specs.declared.status.Status.TheVariants.{Ok as Fine, FileFault, FileTooLong, Limit, ListenFault, NoThread, StateRefused, WantMemory}
use Rattle.serve_run.specs.Attending.{Attended}
use Rattle.serve_run.specs.Lanes.{closed_doors, served_doors}
use Rattle.serve_run.specs.Outcomes.{least_in}
use Rattle.serve_run.specs.Refusals.{earlier, least_refusal, refusal_by}
use Rattle.serve_run.specs.Served.{EachDoor, EachSession, IsTurnedAway}
use Rattle.serve_run.specs.Running.{IsKeptRun, IsWholeRun}
use Rattle.serve_run.specs.Tours.{Tour}
use Rattle.serve_run.specs.Visits.{Visit}
use Rattle.serve_run.specs.declared.doors.Doors.{Doors}
use Rattle.serve_run.specs.declared.outcome.Want.{Want}
use Rattle.session_laws.specs.Hearing.{Heard}
use Rattle.session_laws.specs.declared.peer.Peer.{Peer}

-- the status, where each cause of another is out
pub fine_or : (m s u d : Bool) (l : Option Full) (status : Status) → status ≡ status_by m s u d l → (status ≡ NoThread → ⊥) → (status ≡ FileFault → ⊥)
    → (status ≡ ListenFault → ⊥) → ((calls bytes : ℕ) → status ≡ Limit calls bytes → ⊥) → (status ≡ Fine) ⊎ (status ≡ WantMemory)
fine_or true s u d l status is thread file listen limit = inr is
fine_or false true u d l status is thread file listen limit = absurd (thread is)
fine_or false false true d l status is thread file listen limit = absurd (file is)
fine_or false false false true l status is thread file listen limit = absurd (listen is)
fine_or false false false false (Some f) status is thread file listen limit = absurd (limit f.arrivals f.bytes is)
fine_or false false false false None status is thread file listen limit = inl is

-- where no door counted a fault none of the tours did
module _ {A : Type 0} (faults : A → ℕ) where
  calm_last : (olds news : List A) (old new : A) → NoneRose faults (olds ++ old ∷ []) (news ++ new ∷ [])
      → NoneRose faults olds news × (Rose (faults old) (faults new) → ⊥)
  calm_last [] [] old new calm = (tt, calm.0)
  calm_last (a ∷ olds) (b ∷ news) old new calm = (let rest = calm_last olds news old new calm.1 in ((calm.0, rest.0), rest.1))
  calm_last [] (b ∷ []) old new calm = absurd calm.1
  calm_last [] (b ∷ c ∷ news) old new calm = absurd calm.1
  calm_last (a ∷ []) [] old new calm = absurd calm.1
  calm_last (a ∷ c ∷ olds) [] old new calm = absurd calm.1

  module _ {L : Type 0} where
    lanes_calm : (rest : List A) (lanes : List (Tour A L)) → NoneRose faults (closed_doors {A = A} {L = L} rest lanes) (served_doors {A = A} {L = L} rest lanes)
        → AnyRose {A = A} {L = L} faults lanes → ⊥
    lanes_calm rest [] calm rose = rose
    lanes_calm rest (t ∷ more) calm rose =
        let parts = calm_last (closed_doors {A = A} {L = L} rest more) (served_doors {A = A} {L = L} rest more) t.closed t.served calm in
        elim rose [ inl here ↦ parts.1 here | inr there ↦ lanes_calm rest more parts.0 there ]

    pub tours_calm : (tours : List (Tour A L)) (short : Option Want) (old new : Doors A) → AreCalm faults old new
        → Attended {A = A} {L = L} tours short old new → AnyRose {A = A} {L = L} faults tours → ⊥
    tours_calm tours short old new calm at rose =
        let lanes : AnyRose {A = A} {L = L} faults at.lanes → ⊥ =
        lanes_calm at.rest at.lanes
        (subst (λ (xs : List A). NoneRose faults xs (served_doors {A = A} {L = L} at.rest at.lanes)) at.before
        (subst (λ (ys : List A). NoneRose faults old.lanes.items ys) at.after calm.lanes)) in
        elim at.admin [
          | inl served ↦
              (let here : AnyRose {A = A} {L = L} faults (served.0 ∷ at.lanes) = subst (λ (ts : List (Tour A L)). AnyRose {A = A} {L = L} faults ts) served.1 rose in
              elim here [
                | inl admin ↦ calm.admin
                    (subst (λ (a : A). Rose (faults a) (faults new.admin)) served.3
                    (subst (λ (b : A). Rose (faults served.0.closed) (faults b)) served.4 admin))
                | inr there ↦ lanes there
              ])
          | inr left ↦ lanes (subst (λ (ts : List (Tour A L)). AnyRose {A = A} {L = L} faults ts) left.0 rose)
        ]

-- where fewer connections entered than a run may have, none was turned away
module _ {L : Type 0} (g : Givens) (shown : L → Shown) (h : List Entry) (few : connections h < 4000000) where
  taken_by : (conn : Option ℕ) (e : SessionEnd) (IsServed : ℕ → Type 0) → MatchOption conn (IsTurnedAway (reverse h) e) IsServed
      → refusal_by conn e ≡ None
  taken_by None (end.Limit calls bytes) IsServed away =
      let full : 4000000 ≤ connections (reverse away.0) = away.2.0 in
      let stood : connections (reverse away.0) ≤ connections h = entered_before away.0 away.1.0 h away.1.1 in
      absurd (omega (arith, few, full, stood))
  taken_by None _ IsServed away = refl
  taken_by (Some c) e IsServed is = refl

  visits_taken : (peer : Peer) (visits : List (Visit L)) → EachSession {L = L} g shown (reverse h) peer visits → least_refusal visits ≡ None
  visits_taken peer [] each = refl
  visits_taken peer (x ∷ earlier_visits) each =
      ap₂ earlier (visits_taken peer earlier_visits each.1) (taken_by x.session.conn x.session.end _ each.0)

  module _ {A : Type 0} where
    tours_taken : (tours : List (Tour A L)) → EachDoor {A = A} {L = L} g shown (reverse h) tours → least_in tours ≡ None
    tours_taken [] each = refl
    tours_taken (t ∷ more) each = ap₂ earlier (tours_taken more each.1) (visits_taken t.peer t.visits each.0)

no_limit : (filled : Option (ℕ × ℕ)) (refused : Option Full) (calls bytes : ℕ) → filled ≡ None → refused ≡ None → IsLimit filled refused calls bytes → ⊥
no_limit None None calls bytes unfilled unrefused is = is
no_limit (Some at) refused calls bytes unfilled unrefused is = let e : Some at ≡ None = unfilled in cc
no_limit None (Some full) calls bytes unfilled unrefused is = let e : Some full ≡ None = unrefused in cc

-- a run that was served
module _ {A L : Type 0} (shown : L → Shown) (standing : A → Option (Standing L)) (faults ends : A → ℕ) (serve : Serve) (begun : Life) (status : Status)
    (old new : Doors A) (files_old files_new : Option Contents) (no_thread : status ≡ NoThread → ⊥) (calm : AreCalm faults old new) where
  served_fine : (life : Life) → HasServed {A = A} {L = L} shown standing faults ends serve begun status old new life files_old files_new
      → (status ≡ FileFault → ⊥) → ((calls bytes : ℕ) → status ≡ Limit calls bytes → ⊥) → (status ≡ Fine) ⊎ (status ≡ WantMemory)
  served_fine life s no_file limit =
      fine_or (wants_memory s.outcome || is_err s.put) (is_some s.outcome.short) (is_unput s.put) s.outcome.failed
      (option_or s.filled s.outcome.refused) status s.status_is no_thread no_file
      (λ is. tours_calm faults s.ran.tours s.outcome.short old new calm s.ran.attended (s.tells.listen_fault is)) limit

  module _ (life : Life) (s : HasServed {A = A} {L = L} shown standing faults ends serve begun status old new life files_old files_new) (calls bytes : ℕ)
      (is : status ≡ Limit calls bytes) where
    kept : IsKeptRun {A = A} {L = L} (givens_of begun) shown serve.workers s.ran.tours s.ran.last (reverse life.history)
    kept = s.tells.sessions (λ memory. (let e : Limit calls bytes ≡ WantMemory = sym is ∙ memory in cc))

    whole : IsWholeRun {A = A} {L = L} (givens_of begun) standing faults ends s.ran.tours s.ran.last (reverse life.history)
    whole = s.tells.end (λ memory. (let e : Limit calls bytes ≡ WantMemory = sym is ∙ memory in cc))
        (λ thread. (let e : Limit calls bytes ≡ NoThread = sym is ∙ thread in cc))

    all_taken : filled_at life.history ≡ None → least_in s.ran.tours ≡ None → ⊥
    all_taken unfilled unrefused = no_limit (filled_at life.history) (least_in s.ran.tours) calls bytes unfilled unrefused (s.tells.limit calls bytes is)

    taken_few : connections life.history < 4000000 → least_in s.ran.tours ≡ None
    taken_few few = tours_taken {L = L} (givens_of begun) shown life.history few {A = A} s.ran.tours kept.sessions

    -- the run had room
    no_limit_met : IsRoomy life → ⊥
    no_limit_met roomy = all_taken roomy.unfilled (taken_few roomy.few)

    -- what the links send fits the run
    no_limit_sent : (sent : List (List Heard)) → AreSent {A = A} {L = L} shown standing old sent → FitsRun (givens_of begun).limit sent → ⊥
    no_limit_sent sent are fits =
        all_taken
        (never_filled {A = A} {L = L} (givens_of begun) shown standing faults life.history s.ran.tours s.outcome.short old new sent s.ran.attended are s.ran.passed
        kept.sessions (givens_of begun).config (givens_of begun).run (givens_of begun).limit s.ran.legal.legal kept.connections s.ran.last kept.first.word
        kept.first.own whole.last_word whole.behind fits)
        (⊎_elim taken_few (λ (none : least_in s.ran.tours ≡ None). none)
        (few_or_none {A = A} {L = L} (givens_of begun) shown standing faults life.history s.ran.tours s.outcome.short old new sent s.ran.attended are s.ran.passed
        kept.sessions kept.connections fits.links))

  some_core : (life : Life) → (status ≡ FileFault → Some life ≢ None → ⊥) → status ≡ FileFault → ⊥
  some_core life no_file is = no_file is (λ none. (let e : Some life ≡ None = none in cc))

  pub serves_fine : (core : Option Life)
      → ServesOn {A = A} {L = L} shown standing faults ends serve begun status old new core files_old files_new
      → (status ≡ FileFault → core ≢ None → ⊥) → IfSome core IsRoomy → (status ≡ Fine) ⊎ (status ≡ WantMemory)
  serves_fine None s no_file roomy = inr s.1
  serves_fine (Some life) s no_file roomy = served_fine life s (some_core life no_file) (λ calls bytes is. no_limit_met life s calls bytes is roomy)

  pub serves_sent : (core : Option Life)
      → ServesOn {A = A} {L = L} shown standing faults ends serve begun status old new core files_old files_new
      → (status ≡ FileFault → core ≢ None → ⊥) → (sent : List (List Heard)) → AreSent {A = A} {L = L} shown standing old sent
      → FitsRun (givens_of begun).limit sent → (status ≡ Fine) ⊎ (status ≡ WantMemory)
  serves_sent None s no_file sent are fits = inr s.1
  serves_sent (Some life) s no_file sent are fits =
      served_fine life s (some_core life no_file) (λ calls bytes is. no_limit_sent life s calls bytes is sent are fits)

-- a run that can begin begins, unless memory is wanting or a file can't be read
module _ (name : List ℕ) (IsSuch : List ℕ → Type 0) where
  if_held : (held : Option (List ℕ)) (content : List ℕ) → held ≡ Some content → IfSome held (λ it. (length it ≤ state_limit) × IsSuch it) → IsSuch content
  if_held (Some it) content is such = subst IsSuch (same_Some it content is) such.1
  if_held None content is such = let e : None ≡ Some content = is in cc

  never_long : (held : Option (List ℕ)) → IfSome held (λ it. (length it ≤ state_limit) × IsSuch it) → IsSomeAnd held (λ it. state_limit < length it) → ⊥
  never_long (Some it) such long = let within : length it ≤ state_limit = such.0 in omega (arith, long, within)
  never_long None such long = long

state_read : (name : List ℕ) (line : ℕ) (old new : Option Contents) → MayOpen (Some name) old
    → OfContent name state_limit (λ content. ReadsState content (Err (StateRefused line))) old new → ⊥
state_read name line None new may opens = may
state_read name line (Some before) None may opens = opens.held.held
state_read name line (Some before) (Some after) may opens =
    let is = if_held name IsState (before name) opens.content opens.held.held may in
    let e : Ok (states is.0) ≡ Err line = sym is.1 ∙ opens.reads in cc

state_untaken : (name : Option (List ℕ)) (s : Status) (old new : Option Contents) → MayOpen name old → OpensWith name (Err s) old new → IsUntaken s
state_untaken None s old new may opens = absurd opens
state_untaken (Some name) (StateRefused line) old new may opens = absurd (state_read name line old new may opens)
state_untaken (Some name) FileTooLong None new may opens = absurd may
state_untaken (Some name) FileTooLong (Some before) None may opens = absurd opens
state_untaken (Some name) FileTooLong (Some before) (Some after) may opens = absurd (never_long name IsState (before name) may opens)
state_untaken (Some name) FileFault old new may opens = tt
state_untaken (Some name) WantMemory old new may opens = tt
state_untaken (Some name) _ old new may opens = absurd opens

unbegun : (serve : Serve) (s : Status) (old new : Option Contents) → CanBegin serve old → IsUnbegun serve s old new → IsUntaken s
unbegun serve s old new can (inl refused) = config_untaken serve.file s old new can.config refused
unbegun serve s old new can (inr none) = state_untaken serve.state s old new can.state none.refused

only_memory : (s : Status) → IsUntaken s → (s ≡ FileFault → ⊥) → (s ≡ Fine) ⊎ (s ≡ WantMemory)
only_memory FileFault untaken no_file = absurd (no_file refl)
only_memory WantMemory untaken no_file = inr refl
only_memory _ untaken no_file = absurd untaken

pub unbegun_fine : (asked : Option Serve) (serve : Serve) (s : Status) (old new : Option Contents) → asked ≡ Some serve → CanBegin serve old
    → IsRefused asked s old new → (s ≡ FileFault → ⊥) → (s ≡ Fine) ⊎ (s ≡ WantMemory)
unbegun_fine asked serve s old new is can refused no_file =
    only_memory s (unbegun serve s old new can (subst (λ (a : Option Serve). IsRefused a s old new) is refused)) no_file
