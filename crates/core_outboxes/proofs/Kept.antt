-- What is kept of calls and of replies, as entries follow.
use Rattle.std.proofs.Common.{◌≡◌, ℕ, true, false, List, [], ◌∷◌, Some, None, if◌then◌else◌, refl, ap, ◌∙◌}
use Rattle.poa_base.specs.declared.Config.{Config}
use Rattle.poa_base.specs.declared.Reply.{Reply}
use Rattle.poa_base.specs.declared.Entry.{Entry}
use Rattle.poa_history.specs.Replies.{decided, reply_by, reply_of}
use Rattle.poa_history.specs.States.{Stored}
use Rattle.core_outboxes.proofs.Deciding.{stays_decided}

-- what has a reply was decided
pub replied_decided : (c : Config) (run : ℕ) (opened : Stored) (h : List Entry) (r : ℕ) (reply : Reply) → reply_of c run opened h r ≡ Some reply
    → decided c run h r ≡ true
replied_decided c run opened [] r reply is = absurd (let e : None ≡ Some reply = is in cc)
replied_decided c run opened (e ∷ past) r reply is =
    elim (decided c run past r) as (λ b. decided c run past r ≡ b
    → (if b then reply_of c run opened past r else if decided c run (e ∷ past) r then reply_by c run opened past e r else None) ≡ Some reply
    → decided c run (e ∷ past) r ≡ true) [
      | true ↦ (λ was _. stays_decided c run past e r was)
      | false ↦ (λ _ is. elim (decided c run (e ∷ past) r) as (λ b. (if b then reply_by c run opened past e r else None) ≡ Some reply → b ≡ true)
          [ true ↦ (λ _. refl) | false ↦ (λ none. absurd (let x : None ≡ Some reply = none in cc)) ] is)
    ] refl is

-- a reply stays what it was
pub reply_kept : (c : Config) (run : ℕ) (opened : Stored) (past : List Entry) (e : Entry) (r : ℕ) → decided c run past r ≡ true
    → reply_of c run opened (e ∷ past) r ≡ reply_of c run opened past r
reply_kept c run opened past e r was =
    ap (λ b. if b then reply_of c run opened past r else if decided c run (e ∷ past) r then reply_by c run opened past e r else None) was

-- the entry that decides an arrival fixes its reply
pub reply_fixed : (c : Config) (run : ℕ) (opened : Stored) (past : List Entry) (e : Entry) (r : ℕ) → decided c run past r ≡ false
    → decided c run (e ∷ past) r ≡ true
    → reply_of c run opened (e ∷ past) r ≡ reply_by c run opened past e r
reply_fixed c run opened past e r fresh now =
    ap (λ b. if b then reply_of c run opened past r else if decided c run (e ∷ past) r then reply_by c run opened past e r else None) fresh
    ∙ ap (λ b. if b then reply_by c run opened past e r else None) now
