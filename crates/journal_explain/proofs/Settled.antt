-- Since when all is set that commands set, as the next entry changes it.
use Rattle.std.proofs.Common.{◌≡◌, ℕ, Bool, true, false, if◌then◌else◌, List, length, Option, Some, None, option_map, refl, sym, ◌∙◌, ap}
use Rattle.poa_base.specs.declared.Command.{Command}
use Rattle.poa_base.specs.declared.Entry.{Entry}
use Rattle.poa_base.specs.declared.Entry.TheVariants.{Admit}
use Rattle.poa_base.specs.declared.Verdict.{Verdict}
use Rattle.history_standing.specs.Arrivals.{call_of}
use Rattle.history_standing.specs.Logs.{command_in, is_accepted}
use Rattle.poa_history.specs.Life.{Life, with_entry}
use Rattle.journal_explain.specs.declared.origin.Origin.{Origin}
use Rattle.journal_explain.specs.declared.setting.Setting.{Setting}
use Rattle.journal_explain.specs.declared.since.Since.{Since}
use Rattle.journal_explain.specs.Origins.{is_set, same_setting, set_by, since_of, since_with, tenure_by, tenure_of}
use Rattle.journal_explain.specs.Watching.{IsPut, KnowsOrigins, Settles, origin_in, since_in, told_in}

-- the call that is admitted with this verdict is the command
module _ (past : Life) (place r : ℕ) (verdict : Verdict) (done : Option Command)
    (is : done ≡ (if is_accepted verdict then command_in (call_of past.history r) else None)) (old new : List Origin) (w : ℕ) where
  abbrev now : Since
  now = record { entry = place; arrival = r }

  abbrev by : Option Setting → Setting → Option Since
  by found s = if is_set s found then Some now else since_in old s

  by_done : (found : Option Setting) → set_by past.config past.history done ≡ found → (s : Setting)
      → by found s ≡ since_with past.config past.history (Admit w r verdict) place s (since_in old s)
  by_done found so s = ap (λ o. by o s) (sym so) ∙ ap (λ d. by (set_by past.config past.history d) s) is

  since_put : (b : Bool) (row : Origin) (o : Option Origin)
      → option_map (λ (x : Origin). x.since) (if b then Some row else o) ≡ (if b then Some row.since else option_map (λ (x : Origin). x.since) o)
  since_put true row o = refl
  since_put false row o = refl

  pub settled : (t : Setting) → set_by past.config past.history done ≡ Some t
      → IsPut (record { setting = t; since = record { entry = place; arrival = r } }) old new → Settles past (Admit w r verdict) place old new
  settled t so put s =
      ap (option_map (λ (x : Origin). x.since)) (put s)
      ∙ (since_put (same_setting t s) (record { setting = t; since = now }) (origin_in old s) ∙ by_done (Some t) so s)

  pub unsettled : set_by past.config past.history done ≡ None → new ≡ old → Settles past (Admit w r verdict) place old new
  unsettled so same s = ap (λ rows. since_in rows s) same ∙ by_done None so s

-- what the rows say goes on with the entry
pub knows_next : (past : Life) (e : Entry) (place : ℕ) → place ≡ length past.history → (old new : List Origin) → KnowsOrigins past old
    → Settles past e place old new → KnowsOrigins (with_entry e past) new
knows_next past e place here old new knows settles s =
    settles s
    ∙ (ap (since_with past.config past.history e place s) (knows s)
    ∙ ap (λ k. since_with past.config past.history e k s (since_of past.config past.history s)) here)

-- what is told by them is what the history says
pub told_is : (life : Life) (rows : List Origin) → KnowsOrigins life rows → (setting : Option Setting)
    → told_in life rows setting ≡ option_map (tenure_of life.config life.history) setting
told_is life rows knows None = refl
told_is life rows knows (Some s) = ap (λ o. Some (tenure_by life.config life.history s o)) (knows s)
