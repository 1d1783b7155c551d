-- The settings tell the reply that the history fixes.
use Rattle.std.specs.Prelude.{◌≡◌, ℕ, List, [], ◌∷◌, ◌++◌, Option, Some, None, refl}
use Rattle.std.proofs.Common.{ap, ap₂}
use Rattle.core_settings.specs.Told.{SettingsAgree, endpoint_in}
use Rattle.core_settings.specs.declared.settings.Settings.{Settings}
use Rattle.poa_base.specs.declared.Attempt.{Attempt}
use Rattle.poa_base.specs.declared.Attempt.TheVariants.{Yes, No, Raised, Dying}
use Rattle.poa_base.specs.declared.Call.{Call}
use Rattle.poa_base.specs.declared.Config.{Config}
use Rattle.poa_base.specs.declared.Endpoint.{Endpoint}
use Rattle.poa_base.specs.declared.Entry.{Entry}
use Rattle.history_standing.specs.Keys.{key_in}
use Rattle.history_standing.specs.Logs.{endpoint_of, forward_from}
use Rattle.poa_history.specs.Replies as replies
use Rattle.history_standing.specs.Situations.{key_or_none}
use Rattle.core_outboxes.specs.Unmade.{reply_tried}

forward_same : (f g : List (List ℕ) → Option Endpoint) → ((p : List (List ℕ)) → f p ≡ g p) → (above p : List (List ℕ))
    → forward_from f above p ≡ forward_from g above p
forward_same f g same above [] = same above
forward_same f g same above (x ∷ p) =
    ap₂ (λ deep here. elim deep [ Some found ↦ Some found | None ↦ here ]) (forward_same f g same (above ++ x ∷ []) p) (same above)

pub tried_told : (c : Config) (s : Settings) (past : List Entry) → SettingsAgree c past s → (call : Option Call) (answer : Attempt)
    → reply_tried c s call answer ≡ replies.reply_tried c past call answer
tried_told c s past tells call answer = by_answer answer
  where
    by_path : (p : List (List ℕ)) → forward_from (endpoint_in c s) [] p ≡ forward_from (endpoint_of c past) [] p
    by_path p = forward_same (endpoint_in c s) (endpoint_of c past) tells.endpoints [] p

    by_answer : (a : Attempt) → reply_tried c s call a ≡ replies.reply_tried c past call a
    by_answer Raised = refl
    by_answer Dying = refl
    by_answer No =
        ap (λ found. elim found [ Some endpoint ↦ replies.forwarded_to call endpoint | None ↦ replies.raised_to call replies.not_exist_omg ])
        (by_path (key_or_none (key_in call)).path)
    by_answer (Yes n) =
        ap (λ found. elim found [ Some endpoint ↦ replies.forwarded_to call endpoint | None ↦ replies.raised_to call replies.not_exist_omg ])
        (by_path (key_or_none (key_in call)).path)
