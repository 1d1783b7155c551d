-- The replies that a desk has filed.
use Rattle.std.proofs.Common.{◌≡◌, ◌+◌, List, length, sym, ap, ◌∙◌}
use Rattle.core_outboxes.specs.declared.desk.Desk.{Desk}
use Rattle.core_outboxes.specs.declared.filed.Filed.{Filed}
use Rattle.core_outboxes.specs.Desk.{Files, HasFiled}

-- more is true of them
pub filed_as : {P Q : List Filed → Type 0} (d : Desk) → ((fs : List Filed) → P fs → Q fs) → HasFiled P d → HasFiled Q d
filed_as d more has = record { replies = has.replies; files = has.files; holds = more has.replies has.holds }

-- another desk has filed the same
pub filed_in : {P : List Filed → Type 0} (d d' : Desk) → ((fs : List Filed) → Files d fs → Files d' fs) → HasFiled P d → HasFiled P d'
filed_in d d' same has = record { replies = has.replies; files = same has.replies has.files; holds = has.holds }

-- as many are due then, where the same calls are owed one
pub due_same : {P : List Filed → Type 0} (d d' : Desk) → HasFiled P d → d'.owing.items ≡ d.owing.items
    → ((fs : List Filed) → Files d fs → Files d' fs) → d'.due ≡ d.due
due_same d d' has owing same =
    (same has.replies has.files).due ∙ ap (λ os. length os + length has.replies) owing ∙ sym has.files.due
