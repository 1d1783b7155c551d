-- Entries whose names were noted keep their rules.
use Rattle.std.proofs.Common.{◌⊎◌, ◌≡◌, ℕ, ◌<◌, ◌≤◌, ◌==◌, ◌||◌, Bool, true, false, List, [], ◌∷◌, length, map, Option, Some, None, IfSome, codes, refl, ap, sym, ◌∙◌, inl, inr, arith}
use Rattle.std.proofs.lemmas.Bool.{false≢true, ne_eqb}
use Rattle.std.proofs.lemmas.Slice.Eq.{bytes_eq-Decides}
use Rattle.std.specs.Str.{bytes_eq}
use Rattle.std.specs.List.{AllByRecursion}
use Rattle.std.proofs.lemmas.List.{length-map}
use Rattle.poa_base.specs.declared.AdapterConf.{AdapterConf}
use Rattle.poa_base.specs.declared.Gives.{Gives}
use Rattle.poa_base.specs.declared.Gives.TheVariants as gives
use Rattle.poa_base.specs.declared.ManagerConf.{ManagerConf}
use Rattle.poa_base.specs.declared.PolicySet.{PolicySet}
use Rattle.poa_base.specs.declared.RuleConf.{RuleConf}
use Rattle.poa_base.specs.declared.ServantConf.{ServantConf}
use Rattle.poa_policy.specs.Kinds.{IsSet}
use Rattle.poa_policy.specs.Rules.{defaults, keeps}
use Rattle.poa_policy.specs.declared.PolicyKind.TheVariants as kind
use Rattle.poa_policy.specs.declared.Rule.{Rule}
use Rattle.poa_policy.specs.declared.Rule.TheVariants as rule
use Rattle.text_words.specs.Name.{is_name}
use Rattle.poa_policy.specs.Adapters.{AreTogether, GivesWithin, IsPreset, IsTemplate}
use Rattle.poa_policy.specs.Kept.{IsManager, IsServant}
use Rattle.conf_fields.specs.Numbers.{Find, IsNumber, place_of}
use Rattle.conf_fields.proofs.Finds.{none_new, not_here, place_within}
use Rattle.conf_toml.specs.Managers.{manager_names}
use Rattle.conf_toml.specs.Servants.{servant_names}
use Rattle.conf_toml.specs.FoundRows.{IsManagerNumber}

pub manager_keeps : (done : List ManagerConf) (m : ManagerConf) (f : Find) → f ≡ place_of (manager_names done) → f m.name ≡ None → is_name m.name ≡ true
    → IsManager done m
manager_keeps done m f noted fresh named =
    let root = codes "root" in
    let (other, rest) =
    not_here (bytes_eq root m.name) (place_of (map (λ (x : ManagerConf). x.name) done) m.name) (ap (λ (g : Find). g m.name) (sym noted) ∙ fresh) in
    record {
      named = named;
      other = λ same. absurd (false≢true (sym other ∙ (bytes_eq-Decides root m.name).1 (sym same)));
      new = none_new (λ (x : ManagerConf). x.name) done m.name rest;
    }

pub servant_keeps : (done : List ServantConf) (s : ServantConf) (f : Find) → f ≡ place_of (servant_names done) → f s.name ≡ None → is_name s.name ≡ true
    → IsServant done s
servant_keeps done s f noted fresh named =
    record { named = named; new = none_new (λ (x : ServantConf). x.name) done s.name (ap (λ (g : Find). g s.name) (sym noted) ∙ fresh) }

-- the defaults are a set, and keep the rules
defaults_set : IsSet defaults
defaults_set kind.Thread = refl
defaults_set kind.Lifespan = refl
defaults_set kind.Uniqueness = refl
defaults_set kind.Assignment = refl
defaults_set kind.Implicit = refl
defaults_set kind.Retention = refl
defaults_set kind.Processing = refl

defaults_keep : (r : Rule) → keeps r defaults ≡ true
defaults_keep rule.MapOnlyRetains = refl
defaults_keep rule.DefaultServantIsShared = refl
defaults_keep rule.ImplicitMakesIds = refl

pub defaults_together : AreTogether defaults
defaults_together = record { is_set = defaults_set; keeps_rules = defaults_keep }

-- rules that were read of an array: without USE_SERVANT_MANAGER it has none
pub rules_managed : (allowed : Bool) (n : ℕ) (rules : List RuleConf) → ((n == 0) || allowed) ≡ true → length rules ≡ n → (allowed ≡ true) ⊎ (rules ≡ [])
rules_managed allowed n [] holds count = inr refl
rules_managed allowed n (r ∷ rs) holds count =
    let some : (n == 0) ≡ false = ne_eqb n 0 (λ same. omega (arith, same, count)) in
    inl (ap (λ b. b || allowed) (sym some) ∙ holds)

gives_weaker : (P Q : ℕ → Type 0) → ((n : ℕ) → P n → Q n) → (set : PolicySet) (g : Gives) → GivesWithin P set g → GivesWithin Q set g
gives_weaker P Q weaker set (gives.Fresh k) h = h
gives_weaker P Q weaker set (gives.Servant n) h = weaker n h
gives_weaker P Q weaker set (gives.Forward e) h = h
gives_weaker P Q weaker set (gives.Raise e) h = h

each_gives : (P Q : ℕ → Type 0) → ((n : ℕ) → P n → Q n) → (set : PolicySet) (rs : List RuleConf) → AllByRecursion (λ r. GivesWithin P set r.gives) rs
    → AllByRecursion (λ r. GivesWithin Q set r.gives) rs
each_gives P Q weaker set [] h = tt
each_gives P Q weaker set (r ∷ rs) h = (gives_weaker P Q weaker set r.gives h.0, each_gives P Q weaker set rs h.1)

preset_weaker : (P Q : ℕ → Type 0) → ((n : ℕ) → P n → Q n) → (set : PolicySet) (preset : Option ℕ) → IfSome preset (IsPreset P set)
    → IfSome preset (IsPreset Q set)
preset_weaker P Q weaker set None h = tt
preset_weaker P Q weaker set (Some n) h = (h.0, weaker n h.1)

pub template_weaker : (P Q P' Q' : ℕ → Type 0) → ((n : ℕ) → P n → P' n) → ((n : ℕ) → Q n → Q' n) → (a : AdapterConf) → IsTemplate P Q a → IsTemplate P' Q' a
template_weaker P Q P' Q' managers servants a t = record {
  policies = t.policies;
  manager = managers a.manager t.manager;
  preset = preset_weaker Q Q' servants a.policies a.preset t.preset;
  rules = record { managed = t.rules.managed; each = each_gives Q Q' servants a.policies a.rules t.rules.each };
}

-- the number of a manager is at most their count, and that of a servant below it
pub manager_number_within : (ms : List ManagerConf) (f : Find) → f ≡ place_of (manager_names ms) → (n : ℕ) → IsManagerNumber f n → n ≤ length ms
manager_number_within ms f noted n (inl none) = omega (arith, none)
manager_number_within ms f noted n (inr number) =
    let below = place_within (manager_names ms) number.name n (ap (λ (g : Find). g number.name) (sym noted) ∙ number.is) in
    omega (arith, below, length-map ms (λ x. x.name))

pub servant_number_within : (ss : List ServantConf) (f : Find) → f ≡ place_of (servant_names ss) → (n : ℕ) → IsNumber f n → n < length ss
servant_number_within ss f noted n number =
    let below = place_within (servant_names ss) number.name n (ap (λ (g : Find). g number.name) (sym noted) ∙ number.is) in
    omega (arith, below, length-map ss (λ x. x.name))
