-- A script in one file, played on the configuration in another: what is read of the files by the one take and by the other.
use Rattle.std.proofs.Common.{◌≡◌, ℕ, ◌<◌, List, length, Option, Ok, Err, sym, ◌∙◌, subst}
use Rattle.std.specs.Option.{IsSomeAnd}
use Rattle.outside.specs.Keeping.{Contents}
use Rattle.outside.specs.Told.{IfTold}
use Rattle.poa_base.specs.declared.Config.{Config}
use Rattle.replay_script.specs.declared.Script.{Script}
use Rattle.poad_files.specs.declared.status.Status.{Status}
use Rattle.poad_files.specs.declared.status.Status.TheVariants as status
use Rattle.poad_files.specs.Taking.{HoldsStill, script_limit, ReadsScript, TakesConfig, TakesScript}
use Rattle.poad_files.proofs.Told.{told_then}
use Rattle.poad_files.proofs.Files.{config_on, held_before, same_held}
use Rattle.poad_cmd.specs.Playing.{no_config, no_script, PlaysFiles, PlaysScript, PlaysTaken}

script_before : (name : List ℕ) (script : Script) (a b c : Option Contents) → IfTold a b HoldsStill → TakesScript name (Ok script) b c
    → TakesScript name (Ok script) a c
script_before name script a b c still t = held_before name script_limit (λ content. ReadsScript content (Ok script)) a b c still t

no_script_before : (name : List ℕ) (s : Status) (a b c : Option Contents) → IfTold a b HoldsStill → TakesScript name (Err s) b c → TakesScript name (Err s) a c
no_script_before name (status.ScriptRefused line) a b c still t =
    held_before name script_limit (λ content. ReadsScript content (Err (status.ScriptRefused line))) a b c still t
no_script_before name status.NoFile a b c still t = told_then a b c _ _ _ (λ x y z p q. sym (p name) ∙ q) still t
no_script_before name status.FileTooLong a b c still t =
    told_then a b c _ _ _ (λ x y z p q. subst (λ (o : Option (List ℕ)). IsSomeAnd o (λ content. script_limit < length content)) (p name) q) still t
no_script_before name status.FileFault a b c still t = tt
no_script_before name status.WantMemory a b c still t = tt
no_script_before name _ a b c still t = absurd t

-- the configuration isn't taken
pub plays_no_config : (file script : List ℕ) (s : Status) (a b : Option Contents) (h : Option (List ℕ)) → TakesConfig file (Err s) a b
    → PlaysFiles file script s a b h h
plays_no_config file script (status.ConfigRefused fault) a b h t = (no_config t, same_held h)
plays_no_config file script status.NoFile a b h t = (no_config t, same_held h)
plays_no_config file script status.FileTooLong a b h t = (no_config t, same_held h)
plays_no_config file script status.FileFault a b h t = same_held h
plays_no_config file script status.WantMemory a b h t = same_held h
plays_no_config file script _ a b h t = absurd t

-- the script isn't
pub plays_no_script : (file script : List ℕ) (config : Config) (s : Status) (a b c : Option Contents) (h : Option (List ℕ)) → TakesConfig file (Ok config) a b
    → IfTold a b HoldsStill → IfTold b c HoldsStill
    → TakesScript script (Err s) b c → PlaysFiles file script s a c h h
plays_no_script file script config (status.ScriptRefused line) a b c h t still more u = (
  no_script (record {
    config = config;
    takes_config = config_on file config a b c t more;
    refused = no_script_before script (status.ScriptRefused line) a b c still u;
  }),
  same_held h,
)
plays_no_script file script config status.NoFile a b c h t still more u = (
  no_script (record { config = config; takes_config = config_on file config a b c t more; refused = no_script_before script status.NoFile a b c still u }),
  same_held h,
)
plays_no_script file script config status.FileTooLong a b c h t still more u = (
  no_script (record { config = config; takes_config = config_on file config a b c t more; refused = no_script_before script status.FileTooLong a b c still u }),
  same_held h,
)
plays_no_script file script config status.FileFault a b c h t still more u = same_held h
plays_no_script file script config status.WantMemory a b c h t still more u = same_held h
plays_no_script file script config _ a b c h t still more u = absurd u

-- both are
module _ (file script : List ℕ) (config : Config) (lines : Script) (a b c : Option Contents) (h k : Option (List ℕ))
    (t : TakesConfig file (Ok config) a b) (still : IfTold a b HoldsStill) (more : IfTold b c HoldsStill) (u : TakesScript script (Ok lines) b c) where
  taken : (s : Status) → PlaysScript config lines s h k → PlaysTaken file script s a c h k
  taken s p =
      record {
        config = config;
        lines = lines;
        takes_config = config_on file config a b c t more;
        takes_script = script_before script lines a b c still u;
        plays = p;
      }

  pub plays_both : (s : Status) → PlaysScript config lines s h k → PlaysFiles file script s a c h k
  plays_both (status.ConfigRefused fault) p = absurd p.ends
  plays_both (status.ScriptRefused line) p = absurd p.ends
  plays_both status.NoFile p = absurd p.ends
  plays_both status.FileTooLong p = absurd p.ends
  plays_both status.FileFault p = absurd p.ends
  plays_both status.WantMemory p = p
  plays_both s p = taken s p

pub never_played : (config : Config) (lines : Script) (s t : Status) (h k : Option (List ℕ)) → (PlaysScript config lines t h k → ⊥)
    → PlaysScript config lines s h k → s ≡ t → ⊥
never_played config lines s t h k never p same = never (subst (λ (x : Status). PlaysScript config lines x h k) same p)
