-- The updates of an object that a servant activator incarnates: its requests act on one line of states, as on one servant
-- that is never taken down (CORBA 3.3 Part 1, section 15.3.6).
use Rattle.poa_base.specs.declared.Call.{Call}
use Rattle.poa_base.specs.declared.Config.{Config}
use Rattle.poa_base.specs.declared.Entry.{Entry}
use Rattle.poa_base.specs.declared.Entry.TheVariants.{Admit, Run}
use Rattle.poa_base.specs.declared.Gives.TheVariants.{Fresh as FreshKind}
use Rattle.poa_base.specs.declared.Key.{Key}
use Rattle.poa_base.specs.declared.Kind.{Kind}
use Rattle.poa_base.specs.declared.Reply.{Reply}
use Rattle.poa_base.specs.declared.Reply.TheVariants.{Outcome as Ended}
use Rattle.poa_base.specs.declared.RuleConf.{RuleConf}
use Rattle.poa_base.specs.declared.Sid.TheVariants.{Fresh as FreshServant}
use Rattle.poa_base.specs.declared.State.{State}
use Rattle.poa_base.specs.declared.Verdict.TheVariants.{Incarnate}
use Rattle.history_standing.specs.Arrivals.{call_of}
use Rattle.history_standing.specs.Changes.{standing}
use Rattle.history_standing.specs.Ends.{is_over}
use Rattle.history_standing.specs.Keys.{key_in}
use Rattle.poa_history.specs.Replies.{reply_run}
use Rattle.history_standing.specs.Rules.{rule_for}
use Rattle.history_standing.specs.Stages.{stage}
use Rattle.poa_history.specs.States.{Stored, acted, call_run, restored, servant_run, state_of, stored}
use Rattle.history_standing.specs.Templates.{policies_at, retains, rules_at, uses_servant_manager}
use Rattle.history_standing.specs.declared.activation.Activation.{Activation}
use Rattle.history_standing.specs.declared.activation.Phase.TheVariants.{Complete}
use Rattle.history_standing.specs.declared.stage.Stage.{Stage}
use Rattle.history_standing.specs.declared.stage.Stage.TheVariants.{Serving}
use Rattle.history_standing.specs.Paths.{same_bytes, same_path}
use Rattle.history_standing.specs.Trees.{In}
use Rattle.std.specs.Prelude.{◌&&◌, ◌==◌, ◌||◌, ◌∷◌, ◌≡◌, Bool, List, None, Option, Some, [], false, if◌then◌else◌, true, ℕ}

-- the call's key names this id of this path
abbrev pub is_call_on : Option Key → List (List ℕ) → List ℕ → Bool
is_call_on None p oid = false
is_call_on (Some key) p oid = same_path key.path p && same_bytes key.oid oid

-- the worker is to run a call on it
abbrev pub runs_on : List Entry → Stage → List (List ℕ) → List ℕ → Bool
runs_on past (Serving r) p oid = is_call_on (key_in (call_of past r)) p oid
runs_on past begun p oid = false

-- the calls that ran on it, the newest first
abbrev pub calls_on : List Entry → List (List ℕ) → List ℕ → List (Option Call)
calls_on [] p oid = []
calls_on (Run w ∷ past) p oid =
    if runs_on past (stage past w) p oid then call_run past (stage past w) ∷ calls_on past p oid else calls_on past p oid
calls_on (e ∷ past) p oid = calls_on past p oid

-- the replies that these runs fix, the newest first
abbrev pub replies_on : Config → ℕ → Stored → List Entry → List (List ℕ) → List ℕ → List (Option Reply)
replies_on c run opened [] p oid = []
replies_on c run opened (Run w ∷ past) p oid =
    if runs_on past (stage past w) p oid
    then reply_run c run opened past (servant_run c run past (stage past w))
    (call_run past (stage past w)) ∷ replies_on c run opened past p oid
    else replies_on c run opened past p oid
replies_on c run opened (e ∷ past) p oid = replies_on c run opened past p oid

-- what one servant has come to by these calls, and what it replied to each
abbrev pub state_after : State → List (Option Call) → State
state_after first [] = first
state_after first (call ∷ before) = (acted (state_after first before) call).0

abbrev pub replies_by : State → List (Option Call) → List (Option Reply)
replies_by first [] = []
replies_by first (call ∷ before) = Some (Ended (acted (state_after first before) call).1) ∷ replies_by first before

-- the path has a servant activator, whose first matching rule brings the id fresh servants of a kind
pub record BringsFresh (c : Config) (p : List (List ℕ)) (oid : List ℕ) (kind : Kind) : Type 0 where
  pub kept : retains (policies_at c p) ≡ true
  pub managed : uses_servant_manager (policies_at c p) ≡ true
  pub rule : RuleConf
  pub first : rule_for (rules_at c p) oid ≡ Some rule
  pub fresh : rule.gives ≡ FreshKind kind

-- the activation was begun by a request that had it incarnated
abbrev pub was_incarnated : List Entry → ℕ → Bool
was_incarnated [] n = false
was_incarnated (Admit w r (Incarnate m) ∷ past) n = (m == n) || was_incarnated past n
was_incarnated (e ∷ past) n = was_incarnated past n

-- each activation of the id was begun so, since a command would give it another servant; and none was ended first by a
-- destroy that etherealizes nothing, since its updates would be lost
abbrev pub AreIncarnated : Config → ℕ → List Entry → List (List ℕ) → List ℕ → Type 0
AreIncarnated c run h p oid =
    (a : Activation) → In a (standing c run h).activations → a.path ≡ p → a.oid ≡ oid
    → (was_incarnated h a.number ≡ true) × (a.quiet ≡ false)

-- the state in which the one servant opens: what was stored when the run began, where that is of the kind
abbrev pub line_opening : Stored → Kind → List (List ℕ) → List ℕ → State
line_opening opened kind p oid = restored kind (opened p oid)

-- what the one servant has come to
abbrev pub line_state : Stored → Kind → List Entry → List (List ℕ) → List ℕ → State
line_state opened kind h p oid = state_after (line_opening opened kind p oid) (calls_on h p oid)

-- the requests on the id were answered as by one servant that is never taken down
abbrev pub IsOneLine : Config → ℕ → Stored → Kind → List Entry → List (List ℕ) → List ℕ → Type 0
IsOneLine c run opened kind h p oid = replies_on c run opened h p oid ≡ replies_by (line_opening opened kind p oid) (calls_on h p oid)

-- the servant that the id has is in the state of the one servant
abbrev pub HasLineState : Config → ℕ → Stored → Kind → List Entry → List (List ℕ) → List ℕ → Type 0
HasLineState c run opened kind h p oid =
    (a : Activation) → In a (standing c run h).activations → a.path ≡ p → a.oid ≡ oid
    → a.phase ≡ Complete (FreshServant a.number) → a.etherealized ≡ false
    → state_of c run opened h (FreshServant a.number) ≡ line_state opened kind h p oid

-- where a servant of the id was etherealized, and each of its activations is over, the stored state is that of the one servant
abbrev pub KeepsLineState : Config → ℕ → Stored → Kind → List Entry → List (List ℕ) → List ℕ → Type 0
KeepsLineState c run opened kind h p oid =
    (a : Activation) → In a (standing c run h).activations → a.path ≡ p → a.oid ≡ oid → a.etherealized ≡ true
    → ((b : Activation) → In b (standing c run h).activations → b.path ≡ p → b.oid ≡ oid → is_over c b ≡ true)
    → stored c run opened h p oid ≡ Some (line_state opened kind h p oid)
