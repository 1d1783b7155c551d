-- What is set before the first entry is what is configured.
use Rattle.std.proofs.Common.{◌≡◌, ℕ, zero, suc, List, [], ◌∷◌, map, length, refl, ap, arith}
use Rattle.std.proofs.lemmas.Bool.{cond_both, eqb-true}
use Rattle.std.specs.Prelude.{◌==◌, slice_index_or, slice_get, Some, None}
use Rattle.poa_base.specs.declared.Config.{Config}
use Rattle.poa_base.specs.declared.ManagerConf.{ManagerConf}
use Rattle.poa_base.specs.declared.ManagerState.TheVariants.{Holding}
use Rattle.core_settings.specs.States.{start_states, state_at}
use Rattle.history_standing.specs.Logs.{start_of}
use Rattle.core_settings.specs.Told.{SettingsAgree}

configured : (ms : List ManagerConf) (k : ℕ)
    → slice_index_or (map (λ m. m.start) ms) k Holding ≡ elim (slice_get ms k) [ Some conf ↦ conf.start | None ↦ Holding ]
configured [] k = refl
configured (m ∷ ms) zero = refl
configured (m ∷ ms) (suc k) = configured ms k

started : (c : Config) (m : ℕ) → state_at (start_states c) m ≡ start_of c m
started c zero = refl
started c (suc k) =
    cond_both (suc k == 0) c.root (elim (slice_get c.managers k) [ Some conf ↦ conf.start | None ↦ Holding ]) (λ s. state_at (start_states c) (suc k) ≡ s)
    (λ none. absurd (let is = eqb-true (suc k) 0 none in omega arith))
    (λ some. configured c.managers k)

counted : (ms : List ManagerConf) → length (map (λ m. m.start) ms) ≡ length ms
counted [] = refl
counted (m ∷ ms) = ap suc (counted ms)

pub opened : (c : Config) → SettingsAgree c [] (record { managers = start_states c; presets = []; endpoints = [] })
opened c = record { managed = ap suc (counted c.managers); states = started c; presets = λ p. refl; endpoints = λ p. refl }
