-- What is asked after a history, and answered as what stands after it answers.
use Rattle.std.specs.Prelude.{◌≡◌, ℕ, not, ◌&&◌, ◌==◌, List, length, find, Option, Some, None}
use Rattle.std.specs.List.{list_any}
use Rattle.poa_base.specs.declared.Config.{Config}
use Rattle.poa_base.specs.declared.Entry.{Entry}
use Rattle.poa_base.specs.declared.Sid.{Sid}
use Rattle.history_standing.specs.declared.stage.Stage.{Stage}
use Rattle.history_standing.specs.declared.stage.Stage.TheVariants.{Incarnating, Removing, Serving}
use Rattle.history_standing.specs.Changes.{standing}
use Rattle.history_standing.specs.Ends.{is_over, is_gone}
use Rattle.poa_history.specs.Settling.{are_ended}
use Rattle.history_standing.specs.Situations.{slot_of, is_changing}
use Rattle.history_standing.specs.Stages.{stage, admitted}
use Rattle.history_standing.specs.Standings.{Standing, is_active, is_mapped, has_servant, is_of, is_in_map}
use Rattle.poa_history.specs.States.{servant_by}
use Rattle.poa_history.specs.Turns.{activation_numbered, removal}

-- the activation whose servant is being brought or taken down
abbrev pub works_on : Stage → Option ℕ
works_on (Incarnating r n) = Some n
works_on (Removing n) = Some n
works_on begun = None

-- every question of the adapter has its answer
pub record AnswersAs (c : Config) (run : ℕ) (h : List Entry) (t : Standing) : Type 0 where
  pub same : t ≡ record (standing c run h) { activations = t.activations }
  -- the next activation has the same number
  pub begun : length t.activations ≡ length (standing c run h).activations
  -- of an id: its activation, whether one is active, and whether one isn't over
  pub slot : (k : ℕ) (oid : List ℕ) → slot_of c t.activations k oid ≡ slot_of c (standing c run h).activations k oid
  pub active : (k : ℕ) (oid : List ℕ) → list_any (λ a. is_of k oid a && is_active a) t.activations ≡ list_any
      (λ a. is_of k oid a && is_active a) (standing c run h).activations
  pub held : (k : ℕ) (oid : List ℕ) → list_any (λ a. is_of k oid a && not (is_over c a)) t.activations ≡ list_any
      (λ a. is_of k oid a && not (is_over c a)) (standing c run h).activations
  -- of an adapter and a servant
  pub changing : (k : ℕ) → is_changing c t.activations k ≡ is_changing c (standing c run h).activations k
  pub in_map : (k : ℕ) (s : Sid) → is_in_map t.activations k s ≡ is_in_map (standing c run h).activations k s
  pub mapped : (k : ℕ) (s : Sid) → find (λ a. (a.adapter == k) && (is_mapped a && has_servant s a)) t.activations ≡ find
      (λ a. (a.adapter == k) && (is_mapped a && has_servant s a)) (standing c run h).activations
  -- the removal that is due
  pub removal : (w : ℕ) → removal c t w ≡ removal c (standing c run h) w
  -- what commands wait for
  pub ended : (m begun : ℕ) → are_ended c t m begun ≡ are_ended c (standing c run h) m begun
  pub gone : (k : ℕ) → is_gone c t k ≡ is_gone c (standing c run h) k
  -- the activation that a worker is at, and the servant of what it serves
  pub worked : (w n : ℕ) → works_on (stage h w) ≡ Some n → activation_numbered t n ≡ activation_numbered (standing c run h) n
  pub served : (w r : ℕ) → stage h w ≡ Serving r → servant_by c t (admitted h r) ≡ servant_by c (standing c run h) (admitted h r)
