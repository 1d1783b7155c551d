-- A round, by what it did on the shared core and on the link.
use Rattle.std.proofs.Common.{◌≡◌, ℕ, List, [], ◌++◌, false, true, refl, sym, subst, ⊎_elim}
use Rattle.std.specs.Prelude.{Some, None, Ok, Err}
use Rattle.std.specs.declared.alloc.AllocError.{AllocError}
use Rattle.poa_base.specs.declared.Entry.{Entry}
use Rattle.poa_base.specs.declared.SessionEnd.{SessionEnd}
use Rattle.poa_base.specs.declared.SessionEnd.TheVariants.{WantMemory, WriteFault}
use Rattle.seat_lock.specs.declared.view.View.{View}
use Rattle.outside.specs.Link.{Shown, Writes}
use Rattle.poa_history.specs.declared.Givens.{Givens}
use Rattle.poa_core.specs.declared.Collected.{Collected}
use Rattle.poa_shared.specs.Seen.{Owns}
use Rattle.session_laws.specs.declared.Peer.{Peer}
use Rattle.session_laws.specs.HearingPieces.{Intake, KnowsFirst}
use Rattle.poa_session.specs.Exchanging.{Exchanges, Holds, IsHeard, IsStopped}
use Rattle.poa_session.specs.Giving.{told_all}
use Rattle.poa_session.specs.Rounding.{Rounds}
use Rattle.poa_session.specs.Taking.{Takes}
use Rattle.poa_session.specs.declared.exchanged.Exchanged.{Exchanged}
use Rattle.poa_session.specs.declared.flow.Flow.{Flow}
use Rattle.poa_session.specs.declared.flow.Flow.TheVariants.{Broke, Ends, On}
use Rattle.poa_session.proofs.Collects.{gathers_lost, gathers_spelled}
use Rattle.poa_session.proofs.Owed.{pays_cut, pays_lost, pays_whole}
use Rattle.poa_session.proofs.Stepping.{rounds_broken, rounds_ended, rounds_heard, rounds_on, rounds_stopped}

-- the replies that were given are told by these bytes
module _ (g : Givens) (peer : Peer) (c : ℕ) (v : View Givens Entry) (i : Intake) (w : View Givens Entry) (j : Intake) (old new : List Collected)
    (none : old ≡ []) (bytes : List ℕ) where
  pub exchanges_spelled : (e : Exchanged) → Holds g peer c v i w j old new (Ok e) → (before : List ℕ) → before ≡ [] → bytes ≡ before ++ told_all new
      → Exchanges g peer c v i w j bytes (Ok e)
  exchanges_spelled e x before fresh spelled = record {
    between = x.between;
    looked = x.looked;
    arrived = x.arrived;
    listened = x.listened;
    gathered = gathers_spelled g c x.arrived w old new e.owed none x.given before bytes fresh spelled;
  }

  -- there was no memory for that
  pub exchanges_unspelled : (e : Exchanged) (fault : AllocError) → Holds g peer c v i w j old new (Ok e)
      → Exchanges g peer c v i w j bytes (Err (Broke WantMemory))
  exchanges_unspelled e fault x = (
    refl,
    (
      e.have,
      fault,
      record {
        between = x.between;
        looked = x.looked;
        arrived = x.arrived;
        listened = x.listened;
        gathered = gathers_lost g c x.arrived w old new (Ok e.owed) x.given bytes fault;
      },
    ),
  )

  -- the session didn't go on
  pub exchanges_ended : (flow : Flow) → Holds g peer c v i w j old new (Err flow) → Exchanges g peer c v i w j bytes (Err flow)
  exchanges_ended (Ends end) x = x
  exchanges_ended (Broke end) x = (
    x.0,
    (
      x.1.0,
      x.1.1,
      record {
        between = x.1.2.between;
        looked = x.1.2.looked;
        arrived = x.1.2.arrived;
        listened = x.1.2.listened;
        gathered = gathers_lost g c x.1.2.arrived w old new (Err x.1.1) x.1.2.given bytes x.1.1;
      },
    ),
  )
  exchanges_ended On x = absurd x

module _ (g : Givens) (peer : Peer) (c : ℕ) (v : View Givens Entry) (a : Shown) (i : Intake) (owns : Owns v c) (w : View Givens Entry) (j : Intake)
    (kept : (text : List ℕ) → KnowsFirst peer i.ear text → KnowsFirst peer j.ear text) (new : List ℕ) where
  -- the core ended the session
  pub exchange_over : (flow : Flow) → Exchanges g peer c v i w j new (Err flow) → Rounds g peer c v a i w a j flow
  exchange_over (Ends end) x = ⊎_elim
      (λ (s : IsStopped g peer c v i w j end). rounds_stopped g peer c v a i owns w j kept end s.looked)
      (λ (s : IsHeard g peer c v i w j end). rounds_heard g peer c v a i owns s.between s.looked w j kept end s.listened)
      x
  exchange_over (Broke end) x =
      (let s = x.1.2 in
      subst (λ e. Rounds g peer c v a i w a j (Broke e)) (sym x.0)
      (rounds_broken g peer c v a i owns s.between s.looked s.arrived j kept x.1.0 s.listened w a WantMemory
      (pays_lost g c s.arrived w new a x.1.1 s.gathered)))
  exchange_over On x = absurd x

  module _ (e : Exchanged) (x : Exchanges g peer c v i w j new (Ok e)) (bytes : List ℕ) (same : bytes ≡ new) (b : Shown) where
    -- or the link
    pub exchange_cut : Writes bytes a b false → Rounds g peer c v a i w b j (Broke WriteFault)
    exchange_cut y =
        (let s = x in
        rounds_broken g peer c v a i owns s.between s.looked s.arrived j kept e.have s.listened w b WriteFault
        (pays_cut g c s.arrived w new a e.owed s.gathered bytes same b y))

    -- or the input, or it goes on
    module _ (y : Writes bytes a b true) (k : Intake) (z : Shown) where
      pub exchange_ended : (end : SessionEnd) → Takes j k e.have b z (Some end) → Rounds g peer c v a i w z k (Ends end)
      exchange_ended end took =
          (let s = x in
          rounds_ended g peer c v a i owns s.between s.looked s.arrived j kept e.have s.listened w b e.owed
          (pays_whole g c s.arrived w new a e.owed s.gathered bytes same b y) k z end took)

      pub exchange_on : Takes j k e.have b z None → Rounds g peer c v a i w z k On
      exchange_on took =
          (let s = x in
          rounds_on g peer c v a i owns s.between s.looked s.arrived j kept e.have s.listened w b e.owed
          (pays_whole g c s.arrived w new a e.owed s.gathered bytes same b y) k z took)
