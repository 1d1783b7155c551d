-- Before the first entry each configured servant is in its configured state, and no fresh one is there.
use Rattle.std.specs.Prelude.{◌≡◌, ℕ, true, false, if◌then◌else◌, List, [], map, Option, Some, None, option_map, unwrap_or, slice_get, refl}
use Rattle.std.proofs.Common.{sym, ap, ◌∙◌}
use Rattle.std.proofs.lemmas.Bool.{true≢false, false_from_ne_true}
use Rattle.std.proofs.lemmas.Option.{slice_get-map}
use Rattle.std.specs.BTreeMap.{is_at}
use Rattle.std.specs.Map.{lookup}
use Rattle.std.specs.Ordering.{nat_cmp}
use Rattle.poa_base.specs.declared.Config.{Config}
use Rattle.poa_base.specs.declared.ServantConf.{ServantConf}
use Rattle.poa_base.specs.declared.State.TheVariants.{Fault}
use Rattle.poa_base.specs.declared.Sid.TheVariants.{Fresh as FreshServant}
use Rattle.poa_base.specs.Store as slots
use Rattle.poa_base.specs.Store.{Slots}
use Rattle.history_standing.specs.declared.activation.Activation.{Activation}
use Rattle.history_standing.specs.Trees.{In}
use Rattle.history_standing.specs.Changes.{standing}
use Rattle.poa_history.specs.States.{state_of}
use Rattle.poa_history.proofs.AloneKept.{all_open}
use Rattle.core_state.specs.Holds.{ServantsAgree, is_fresh, keeps_fresh, is_kept}
use Rattle.core_state.specs.Kept.{Kept}
use Rattle.core_state.proofs.FreshFrom.{kept_is, keeps_parts}

no_fresh : (c : Config) (run : ℕ) (a : Activation) → In a (standing c run []).activations → keeps_fresh a ≡ true → ⊥
no_fresh c run a there keeps = true≢false (sym (keeps_parts a keeps).0 ∙ ap is_fresh (all_open c run a there).1.1)

none_kept : (c : Config) (run n : ℕ) → is_kept (standing c run []) n ≡ false
none_kept c run n =
    false_from_ne_true (is_kept (standing c run []) n) (λ is. let (a, there, at, keeps) = kept_is (standing c run []) n is in no_fresh c run a there keeps)

state_or_fault : (o : Option ServantConf) → unwrap_or (option_map (λ s. s.state) o) Fault ≡ elim o [ Some conf ↦ conf.state | None ↦ Fault ]
state_or_fault None = refl
state_or_fault (Some conf) = refl

pub opening_holds : (c : Config) (run : ℕ) (store : Slots) (s : Kept) → s.configured ≡ map (λ x. x.state) c.servants → s.fresh ≡ []
    → ((p : List (List ℕ)) (oid : List ℕ) → slots.stored s.store p oid ≡ slots.stored store p oid) → ServantsAgree c run (slots.stored store) [] s
opening_holds c run store s configured fresh copied = record {
  configured = λ k. ap (λ xs. unwrap_or (slice_get xs k) Fault) configured
      ∙ (ap (λ o. unwrap_or o Fault) (slice_get-map (λ x. x.state) c.servants k) ∙ state_or_fault (slice_get c.servants k));
  fresh = λ n. ap (lookup (is_at (nat_cmp n))) fresh
      ∙ ap (λ b. if b then Some (state_of c run (slots.stored store) [] (FreshServant n)) else None) (sym (none_kept c run n));
  room = λ a there keeps. absurd (no_fresh c run a there keeps);
  stored = copied;
}
