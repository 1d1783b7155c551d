-- Where everything that a connection asked is paid, no reply of it is decided, and none is owed.
use Rattle.std.proofs.Common.{◌≡◌, ℕ, zero, suc, ◌+◌, Bool, true, false, not, ◌&&◌, if◌then◌else◌, List, [], ◌∷◌, Option, Some, None, refl, sym, ap, ap₂, ◌∙◌}
use Rattle.std.specs.Option.{option_or}
use Rattle.poa_base.specs.declared.Config.{Config}
use Rattle.poa_base.specs.declared.Entry.{Entry}
use Rattle.history_standing.specs.Arrivals.{arrivals}
use Rattle.history_standing.specs.Searches.{least, count_below}
use Rattle.poa_history.specs.Legal.{IsLegal}
use Rattle.poa_history.specs.Replies.{decided, is_asked, is_collected, is_newly_decided, next_reply, next_within, owed}
use Rattle.core_outboxes.proofs.Arrived.{collected_decided}
use Rattle.session_laws.specs.Records.{IsPaidBy}

chosen_passes : (b : Bool) (n r : ℕ) → (if b then Some n else None) ≡ Some r → (b ≡ true) × (n ≡ r)
chosen_passes true n r is = (refl, (let e : Some n ≡ Some r = is in cc))
chosen_passes false n r is = absurd (let e : None ≡ Some r = is in cc)

-- what one of two searches finds passes, where what each finds does
by_either : (P : ℕ → Type 0) (a b : Option ℕ) (r : ℕ) → (a ≡ Some r → P r) → (b ≡ Some r → P r) → option_or a b ≡ Some r → P r
by_either P None b r first second is = second is
by_either P (Some x) b r first second is = first is

least_passes : (test : ℕ → Bool) (n r : ℕ) → least test n ≡ Some r → test r ≡ true
least_passes test zero r is = absurd (let e : None ≡ Some r = is in cc)
least_passes test (suc n) r is =
    by_either (λ x. test x ≡ true) (least test n) (if test n then Some n else None) r (least_passes test n r)
    (λ here. let it = chosen_passes (test n) n r here in ap test (sym it.1) ∙ it.0) is

none_passes : (test : ℕ → Bool) → ((r : ℕ) → test r ≡ false) → (n : ℕ) → count_below test n ≡ 0
none_passes test fails zero = refl
none_passes test fails (suc n) = ap₂ (λ (k : ℕ) (b : Bool). k + (if b then 1 else 0)) (none_passes test fails n) (fails n)

both : (a b : Bool) → (a && b) ≡ true → (a ≡ true) × (b ≡ true)
both true b is = (refl, is)
both false b is = absurd (let e : false ≡ true = is in cc)

-- a reply that is given next was asked, and isn't collected
abbrev IsLeft : List Entry → ℕ → ℕ → Type 0
IsLeft h conn r = (is_asked h conn r ≡ true) × (not (is_collected h r) ≡ true)

left_within : (c : Config) (run : ℕ) (whole : List Entry) (conn : ℕ) (h : List Entry) (r : ℕ) → next_within c run whole conn h ≡ Some r → IsLeft whole conn r
left_within c run whole conn [] r is = absurd (let e : None ≡ Some r = is in cc)
left_within c run whole conn (e ∷ past) r is =
    by_either (IsLeft whole conn) (next_within c run whole conn past) (least (is_newly_decided c run whole conn e past) (arrivals past)) r
    (left_within c run whole conn past r)
    (λ found.
    let it = both (is_asked whole conn r) (not (is_collected whole r) && (decided c run (e ∷ past) r && not (decided c run past r)))
    (least_passes (is_newly_decided c run whole conn e past) (arrivals past) r found) in
    (it.0, (both (not (is_collected whole r)) (decided c run (e ∷ past) r && not (decided c run past r)) it.1).0)) is

module _ (c : Config) (run limit : ℕ) (h : List Entry) (conn : ℕ) (paid : IsPaidBy h conn) where
  never_left : (r : ℕ) → IsLeft h conn r → ⊥
  never_left r it = (let e : false ≡ true = sym (ap not (paid r it.0)) ∙ it.1 in cc)

  -- none is decided
  none_next : (o : Option ℕ) → next_reply c run h conn ≡ o → o ≡ None
  none_next None is = refl
  none_next (Some r) is = absurd (never_left r (left_within c run h conn h r is))

  pub nothing_next : next_reply c run h conn ≡ None
  nothing_next = none_next (next_reply c run h conn) refl

  -- none is owed
  pub nothing_owed : IsLegal c run limit h → owed c run h conn ≡ 0
  nothing_owed legal = none_passes (λ r. is_asked h conn r && not (decided c run h r)) fails (arrivals h)
    where
      by_asked : (r : ℕ) (a : Bool) → is_asked h conn r ≡ a → (a && not (decided c run h r)) ≡ false
      by_asked r true asked = ap not (collected_decided c run limit h r legal (paid r asked))
      by_asked r false asked = refl

      fails : (r : ℕ) → (is_asked h conn r && not (decided c run h r)) ≡ false
      fails r = by_asked r (is_asked h conn r) refl
