-- The next reply of a history that goes on by one entry.
use Rattle.std.proofs.Common.{◌≡◌, ℕ, ◌+◌, ◌<◌, ◌&&◌, not, zero, suc, List, [], ◌∷◌, length, take, reverse, get_or, refl, sym, subst, arith}
use Rattle.std.specs.Option.{option_or}
use Rattle.poa_base.specs.declared.Config.{Config}
use Rattle.poa_base.specs.declared.Entry.{Entry}
use Rattle.history_standing.specs.Arrivals.{arrivals}
use Rattle.history_standing.specs.Searches.{least}
use Rattle.poa_history.specs.Replies.{is_asked, is_collected, decided, next_within}
use Rattle.core_standing.proofs.Onward.{reversed_more}

-- an element stands below the length
some_at : {A : Type 0} (h : List A) (i : ℕ) → i < length h → (e : A) × (e ≡ get_or h i e)
some_at [] i below = absurd (omega arith)
some_at (x ∷ h) zero below = (x, refl)
some_at (x ∷ h) (suc i) below = some_at h i (omega arith)

next_more : (c : Config) (run : ℕ) (whole : List Entry) (conn : ℕ) (past : List Entry) (e : Entry) (now : List Entry) → now ≡ e ∷ past
    → next_within c run whole conn now ≡ option_or (next_within c run whole conn past)
    (least (λ r. is_asked whole conn r && (not (is_collected whole r) && (decided c run now r && not (decided c run past r)))) (arrivals past))
next_more c run whole conn past e now is =
    subst (λ n. next_within c run whole conn n ≡ option_or (next_within c run whole conn past)
    (least (λ r. is_asked whole conn r && (not (is_collected whole r) && (decided c run n r && not (decided c run past r)))) (arrivals past))) (sym is) refl

-- what was found before stays found; else it is what the entry at the place decided
pub next_at : (c : Config) (run : ℕ) (whole : List Entry) (conn : ℕ) (h : List Entry) (i : ℕ) → i < length h
    → next_within c run whole conn (reverse (take (i + 1) h)) ≡ option_or (next_within c run whole conn (reverse (take i h)))
    (least (λ r. is_asked whole conn r &&
    (not (is_collected whole r) && (decided c run (reverse (take (i + 1) h)) r && not (decided c run (reverse (take i h)) r)))) (arrivals (reverse (take i h))))
next_at c run whole conn h i below =
    let it = some_at h i below in
    next_more c run whole conn (reverse (take i h)) it.0 (reverse (take (i + 1) h)) (reversed_more h i it.0 below it.1)
