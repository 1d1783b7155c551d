-- An accepted configuration gives each run what the laws of histories ask of it.
use Rattle.std.specs.Prelude.{◌≡◌, ℕ, ◌^◌, ◌<◌, true, List, [], cond, Option, Some, None, length, nat_lt, slice_get, option_map, refl}
use Rattle.std.specs.List.{position_or_len}
use Rattle.std.proofs.Common.{subst, ap, ◌∙◌, arith}
use Rattle.std.proofs.lemmas.Bool.{lt-ltb}
use Rattle.std.proofs.lemmas.Option.{slice_get_within}
use Rattle.poa_base.specs.declared.Config.{Config}
use Rattle.poa_base.specs.declared.Entry.{Entry}
use Rattle.poa_base.specs.declared.ServantConf.{ServantConf}
use Rattle.poa_policy.specs.Kept.{KeepsRules, IsServant}
use Rattle.poa_policy.proofs.Each.{each_at}
use Rattle.history_standing.specs.Paths.{same_bytes}
use Rattle.history_standing.specs.Trees.{In}
use Rattle.history_standing.specs.Templates.{servant_number, servant_name}
use Rattle.history_standing.specs.Opening.{root_alone, with_boots, opening}
use Rattle.poa_history.specs.Alone.{IsGivenAlone}
use Rattle.poa_history.specs.Bounds.{IsWithinLimits}
use Rattle.poa_history.specs.Sound.{IsGiven}
use Rattle.poa_history.specs.Runs.{IsRun}
use Rattle.history_laws.proofs.Entries.{place_first}
use Rattle.history_laws.proofs.Policies.{implicit_makes}
use Rattle.history_laws.proofs.Boots.{boot_stands, all_booted}
use Rattle.history_laws.proofs.Objects.{IsOpen, objects_open}

module _ (c : Config) (run : ℕ) (rules : KeepsRules c) (small : run < 2 ^ 32) where
  boots_open : IsOpen c run rules [] (length c.objects) (with_boots c.adapters root_alone)
  boots_open =
      let booted = all_booted c run rules in (
        booted.sound,
        record {
          stood = λ p is. boot_stands c run c.adapters (with_boots c.adapters root_alone) p booted is;
          housed = λ a there. absurd (subst (λ as'. In a as') booted.empty there);
          whose = λ a there. absurd (subst (λ as'. In a as') booted.empty there);
          mapped = λ a b t there. absurd (subst (λ as'. In a as') booted.empty there);
        },
        (let none = booted.unmade in let few = rules.few.objects in omega (arith, none, few)),
      )

  opens : IsOpen c run rules c.objects 0 (opening c run)
  opens = objects_open c run rules small [] c.objects (with_boots c.adapters root_alone) rules.objects boots_open

  -- a servant's number is its place, as its name is new there
  named : (k : ℕ) (name : List ℕ) → servant_name c k ≡ Some name → servant_number c name ≡ Some k
  named k name is = by_place (slice_get c.servants k) refl is
    where
      by_place : (o : Option ServantConf) → slice_get c.servants k ≡ o → option_map (λ s. s.name) o ≡ Some name → servant_number c name ≡ Some k
      by_place None at called = absurd (let e : None ≡ Some name = called in cc)
      by_place (Some s) at called =
          let same : s.name ≡ name = (let e : Some s.name ≡ Some name = called in cc) in
          let rule = each_at IsServant [] c.servants k s rules.servants at in
          let first = subst (λ x. position_or_len (λ y. same_bytes y.name x) c.servants ≡ k) same (place_first (λ x. x.name) c.servants k s at rule.new) in
          let inside : nat_lt k (length c.servants) ≡ true = lt-ltb _ _ (slice_get_within c.servants k s at) in
          ap (λ n. cond (nat_lt n (length c.servants)) (Some n) None) first ∙ ap (λ b. cond b (Some k) None) inside

  pub opening_given : IsGiven c run
  opening_given = record { opens = opens.0; numbered = small; implicit = implicit_makes c rules }

  pub opening_alone : IsGivenAlone c run
  opening_alone = record { mapped = opens.1.mapped; named = named }

module _ (c : Config) (run limit : ℕ) (h : List Entry) (is : IsRun c run limit h) where
  pub given : IsGiven c run
  given = opening_given c run is.accepted is.numbered

  pub alone : IsGivenAlone c run
  alone = opening_alone c run is.accepted is.numbered

  pub within : IsWithinLimits c limit
  within = record { objects = is.accepted.few.objects; arrivals = is.limited }
