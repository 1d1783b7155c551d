-- A command that sets something changes nothing that stands.
use Rattle.std.proofs.Common.{◌≡◌, ℕ, true, false, List, ◌∷◌, Option, Some, None, if◌then◌else◌, refl, ap, ◌∙◌}
use Rattle.poa_base.specs.declared.Config.{Config}
use Rattle.poa_base.specs.declared.Call.{Call}
use Rattle.poa_base.specs.declared.Call.TheVariants.{Request, Locate, Line}
use Rattle.poa_base.specs.declared.Command.TheVariants.{Manager, Create, Destroy, Activate, ActivateId, Deactivate, Reference, Preset, Forward, Unforward, Shutdown, Bad}
use Rattle.poa_base.specs.declared.Verdict.{Verdict}
use Rattle.poa_base.specs.declared.Entry.{Entry}
use Rattle.poa_base.specs.declared.Entry.TheVariants.{Admit}
use Rattle.history_standing.specs.Arrivals.{call_of}
use Rattle.history_standing.specs.Changes.{standing, with_command, with_admitted}
use Rattle.history_standing.specs.Ends.{settled}
use Rattle.history_standing.specs.Keys.{key_in}
use Rattle.history_standing.specs.Logs.{is_accepted, command_in, command_done}
use Rattle.history_standing.specs.Standings.{Standing}
use Rattle.core_standing.proofs.Settled.{settled_still, standing_settled}
use Rattle.core_settings.specs.Told.{may_grow}

sets_only : (c : Config) (run r : ℕ) (v : Verdict) (s : Standing) (call : Option Call) → may_grow (command_in call) ≡ true
    → with_command c run (command_in call) (with_admitted r (key_in call) v s) ≡ s
sets_only c run r v s None grows = absurd (let e : false ≡ true = grows in cc)
sets_only c run r v s (Some (Request head target operation body)) grows = absurd (let e : false ≡ true = grows in cc)
sets_only c run r v s (Some (Locate head target)) grows = absurd (let e : false ≡ true = grows in cc)
sets_only c run r v s (Some (Line n (Preset p servant))) grows = refl
sets_only c run r v s (Some (Line n (Forward p endpoint))) grows = refl
sets_only c run r v s (Some (Line n (Unforward p))) grows = refl
sets_only c run r v s (Some (Line n (Manager name order))) grows = absurd (let e : false ≡ true = grows in cc)
sets_only c run r v s (Some (Line n (Create p))) grows = absurd (let e : false ≡ true = grows in cc)
sets_only c run r v s (Some (Line n (Destroy p etherealize wait))) grows = absurd (let e : false ≡ true = grows in cc)
sets_only c run r v s (Some (Line n (Activate p servant))) grows = absurd (let e : false ≡ true = grows in cc)
sets_only c run r v s (Some (Line n (ActivateId p oid servant))) grows = absurd (let e : false ≡ true = grows in cc)
sets_only c run r v s (Some (Line n (Deactivate p oid))) grows = absurd (let e : false ≡ true = grows in cc)
sets_only c run r v s (Some (Line n (Reference p servant))) grows = absurd (let e : false ≡ true = grows in cc)
sets_only c run r v s (Some (Line n Shutdown)) grows = absurd (let e : false ≡ true = grows in cc)
sets_only c run r v s (Some (Line n (Bad word))) grows = absurd (let e : false ≡ true = grows in cc)

pub growing_stands : (c : Config) (run : ℕ) (past : List Entry) (w r : ℕ) (v : Verdict) → may_grow (command_done past (Admit w r v)) ≡ true
    → standing c run (Admit w r v ∷ past) ≡ standing c run past
growing_stands c run past w r v grows =
    ap (settled c) (elim (is_accepted v) as (λ b. may_grow (if b then command_in (call_of past r) else None) ≡ true
    → with_command c run (if b then command_in (call_of past r) else None)
    (with_admitted r (key_in (call_of past r)) v (standing c run past)) ≡ standing c run past)
    [ true ↦ (λ grows. sets_only c run r v (standing c run past) (call_of past r) grows) | false ↦ (λ no_. absurd (let e : false ≡ true = no_ in cc)) ] grows)
    ∙ settled_still c (standing c run past) (standing_settled c run past)
