-- Two runs, of which the second opens with what the first stored for an object.
use Rattle.std.specs.Prelude.{◌≡◌, ◌⊎◌, ℕ, true, false, List, ◌++◌, Option, Some}
use Rattle.history_laws.specs.OneLine.{AreIncarnated, BringsFresh, calls_on, line_opening, replies_by, replies_on, state_after}
use Rattle.history_standing.specs.Ends.{is_over}
use Rattle.history_standing.specs.Trees.{In}
use Rattle.history_standing.specs.declared.activation.Activation.{Activation}
use Rattle.history_standing.specs.declared.activation.Phase.TheVariants.{Complete}
use Rattle.poa_base.specs.declared.Call.{Call}
use Rattle.poa_base.specs.declared.Config.{Config}
use Rattle.poa_base.specs.declared.Entry.{Entry}
use Rattle.poa_base.specs.declared.Kind.{Kind}
use Rattle.poa_base.specs.declared.Reply.{Reply}
use Rattle.poa_base.specs.declared.Sid.TheVariants.{Fresh as FreshServant}
use Rattle.poa_base.specs.declared.State.{State}
use Rattle.history_standing.specs.Changes.{standing}
use Rattle.poa_history.specs.Runs.{IsRun}
use Rattle.poa_history.specs.States.{Stored, state_of, stored}

module _ (kind : Kind) (p : List (List ℕ)) (oid : List ℕ) where
  -- a run in which the servants of the id are fresh ones of the kind, which requests had incarnated
  pub record OneRun : Type 0 where
    pub c : Config
    pub run : ℕ
    pub limit : ℕ
    -- what was stored when it began
    pub opened : Stored
    pub h : List Entry
    pub is_run : IsRun c run limit h
    pub brings : BringsFresh c p oid kind
    pub incarnated : AreIncarnated c run h p oid

  -- the calls that ran on the id, and the replies, the newest first
  abbrev pub calls : OneRun → List (Option Call)
  calls r = calls_on r.h p oid

  abbrev pub replies : OneRun → List (Option Reply)
  replies r = replies_on r.c r.run r.opened r.h p oid

  -- this is an activation of the id
  pub record IsOfId (r : OneRun) (a : Activation) : Type 0 where
    pub there : In a (standing r.c r.run r.h).activations
    pub on_path : a.path ≡ p
    pub on_oid : a.oid ≡ oid

  -- one was etherealized, and all of them are over
  pub record IsStoredAt (r : OneRun) : Type 0 where
    pub one : Activation
    pub of_id : IsOfId r one
    pub told : one.etherealized ≡ true
    pub over : (a : Activation) → IsOfId r a → is_over r.c a ≡ true

  -- none was begun
  abbrev pub IsUntouched : OneRun → Type 0
  IsUntouched r = (a : Activation) → IsOfId r a → ⊥

  -- the second run opens with what the first stored, which left the id at rest
  pub record GoesOn (first second : OneRun) : Type 0 where
    pub rests : IsStoredAt first ⊎ IsUntouched first
    pub opens : second.opened p oid ≡ stored first.c first.run first.opened first.h p oid

  -- the state in which the one servant of both runs opens, and what it comes to
  abbrev pub opening : OneRun → State
  opening first = line_opening first.opened kind p oid

  abbrev pub state_at : OneRun → OneRun → State
  state_at first second = state_after (opening first) (calls second ++ calls first)

  -- the replies of both runs are those of the one servant
  abbrev pub RepliesOn : OneRun → OneRun → Type 0
  RepliesOn first second = replies second ++ replies first ≡ replies_by (opening first) (calls second ++ calls first)

  -- the servant that the id has is in its state
  abbrev pub StandsOn : OneRun → OneRun → Type 0
  StandsOn first second =
      (a : Activation) → IsOfId second a → a.phase ≡ Complete (FreshServant a.number) → a.etherealized ≡ false
      → state_of second.c second.run second.opened second.h (FreshServant a.number) ≡ state_at first second

  -- and so is what is stored
  abbrev pub KeepsOn : OneRun → OneRun → Type 0
  KeepsOn first second = stored second.c second.run second.opened second.h p oid ≡ Some (state_at first second)
