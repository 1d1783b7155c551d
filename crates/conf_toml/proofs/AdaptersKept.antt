-- Adapters that were read one after another keep their rules.
use Rattle.std.proofs.Common.{◌≡◌, ◌≢◌, ◌<◌, ◌≤◌, List, [], ◌∷◌, ◌++◌, length, ap}
use Rattle.std.specs.List.{AllByRecursion}
use Rattle.poa_base.specs.declared.AdapterConf.{AdapterConf}
use Rattle.poa_base.specs.declared.ManagerConf.{ManagerConf}
use Rattle.poa_base.specs.declared.ServantConf.{ServantConf}
use Rattle.text_words.specs.Path.{path_text}
use Rattle.conf_fields.specs.Numbers.{Find, IsNumber, place_of}
use Rattle.conf_fields.proofs.Finds.{none_new}
use Rattle.poa_policy.specs.Adapters.{IsAdapter}
use Rattle.poa_policy.specs.Entries.{EachAfter, IsNew}
use Rattle.conf_toml.specs.Managers.{manager_names}
use Rattle.conf_toml.specs.Servants.{servant_names}
use Rattle.conf_toml.specs.FoundRows.{IsManagerNumber, IsReadAfter}
use Rattle.conf_toml.proofs.Below.{IsWritten, has_parent_below}
use Rattle.conf_toml.proofs.KeptRows.{manager_number_within, servant_number_within, template_weaker}

new_path : (a : AdapterConf) (ds : List AdapterConf) → AllByRecursion (λ (d : AdapterConf). path_text d.path ≢ path_text a.path) ds
    → IsNew (λ (x : AdapterConf). x.path) ds a
new_path a [] all = tt
new_path a (d ∷ ds) all = (λ same. all.0 (ap path_text same), new_path a ds all.1)

pub all_push : {A : Type 0} (P : A → Type 0) (xs : List A) (x : A) → AllByRecursion P xs → P x → AllByRecursion P (xs ++ x ∷ [])
all_push P [] x all new = (new, tt)
all_push P (y ∷ ys) x all new = (all.0, all_push P ys x all.1 new)

pub all_written : (managers servants : Find) (done xs : List AdapterConf) → EachAfter (IsReadAfter managers servants) done xs
    → AllByRecursion (λ (a : AdapterConf). IsWritten a.path) xs
all_written managers servants done [] each = tt
all_written managers servants done (x ∷ xs) each = (record { few = each.0.few; named = each.0.named }, all_written managers servants (done ++ x ∷ []) xs each.1)

module _ (ms : List ManagerConf) (ss : List ServantConf) (managers servants : Find) (ms_noted : managers ≡ place_of (manager_names ms))
    (ss_noted : servants ≡ place_of (servant_names ss)) where
  adapter_keeps : (done : List AdapterConf) (a : AdapterConf) → AllByRecursion (λ (d : AdapterConf). IsWritten d.path) done
      → IsReadAfter managers servants done a → IsAdapter (length ms) (length ss) done a
  adapter_keeps done a written read = record {
    few = read.few;
    named = read.named;
    new = new_path a done (none_new (λ (x : AdapterConf). path_text x.path) done (path_text a.path) read.fresh);
    boot = λ boots. has_parent_below done a.path written (record { few = read.few; named = read.named }) (read.boot boots);
    template =
        template_weaker (IsManagerNumber managers) (IsNumber servants) (λ n. n ≤ length ms) (λ n. n < length ss) (manager_number_within ms managers ms_noted)
        (servant_number_within ss servants ss_noted) a read.template;
  }

  keep_after : (done xs : List AdapterConf) → AllByRecursion (λ (d : AdapterConf). IsWritten d.path) done → EachAfter (IsReadAfter managers servants) done xs
      → EachAfter (IsAdapter (length ms) (length ss)) done xs
  keep_after done [] written each = tt
  keep_after done (x ∷ xs) written each = (
    adapter_keeps done x written each.0,
    keep_after (done ++ x ∷ []) xs
        (all_push (λ (d : AdapterConf). IsWritten d.path) done x written (record { few = each.0.few; named = each.0.named })) each.1,
  )

  pub adapters_keep : (xs : List AdapterConf) → EachAfter (IsReadAfter managers servants) [] xs → EachAfter (IsAdapter (length ms) (length ss)) [] xs
  adapters_keep xs each = keep_after [] xs tt each
