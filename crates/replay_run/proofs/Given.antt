-- A run with the givens of a configuration is one of it.
use Rattle.std.proofs.Common.{ℕ, subst}
use Rattle.poa_base.specs.declared.Config.{Config}
use Rattle.poa_history.specs.Legal.{IsLegal}
use Rattle.poa_base.specs.Store.{Slots, stored as stored_in}
use Rattle.poa_history.specs.Lifetime.{HasLifetime}
use Rattle.poa_history.specs.Runs.{IsRun}
use Rattle.history_laws.specs.Lasting.{KeepsUpdates, LeavesNothing}
use Rattle.poa_history.specs.Life.{Life, opened}
use Rattle.replay_run.specs.Opening.{life_at_first}
use Rattle.replay_run.proofs.Same.{Givens}

-- a run with these givens is one of the configuration
pub legal_for : (c : Config) (limit : ℕ) (last : Life) → Givens (life_at_first c limit) last → IsLegal last.config last.run last.limit last.history
    → IsLegal c c.run limit last.history
legal_for c limit last g legal =
    subst (λ (d : Config). IsLegal d c.run limit last.history) g.config
    (subst (λ (r : ℕ). IsLegal last.config r limit last.history) g.run
    (subst (λ (l : ℕ). IsLegal last.config last.run l last.history) g.limit legal))

pub run_for : (c : Config) (limit : ℕ) (last : Life) → Givens (life_at_first c limit) last → IsRun last.config last.run last.limit last.history
    → IsRun c c.run limit last.history
run_for c limit last g is =
    subst (λ (d : Config). IsRun d c.run limit last.history) g.config
    (subst (λ (r : ℕ). IsRun last.config r limit last.history) g.run
    (subst (λ (l : ℕ). IsRun last.config last.run l last.history) g.limit is))

pub undone_for : (c : Config) (limit : ℕ) (last : Life) → Givens (life_at_first c limit) last → LeavesNothing last.config last.run last.history
    → LeavesNothing c c.run last.history
undone_for c limit last g kept =
    subst (λ (d : Config). LeavesNothing d c.run last.history) g.config
    (subst (λ (r : ℕ). LeavesNothing last.config r last.history) g.run kept)

pub updates_for : (c : Config) (limit : ℕ) (last : Life) → Givens (life_at_first c limit) last → KeepsUpdates last.config last.run (opened last) last.history
    → KeepsUpdates c c.run (opened (life_at_first c limit)) last.history
updates_for c limit last g kept =
    subst (λ (o : Slots). KeepsUpdates c c.run (stored_in o) last.history) g.opening
    (subst (λ (d : Config). KeepsUpdates d c.run (opened last) last.history) g.config
    (subst (λ (r : ℕ). KeepsUpdates last.config r (opened last) last.history) g.run kept))

pub lifetime_for : (c : Config) (limit : ℕ) (last : Life) → Givens (life_at_first c limit) last → HasLifetime last.config last.run last.history
    → HasLifetime c c.run last.history
lifetime_for c limit last g kept =
    subst (λ (d : Config). HasLifetime d c.run last.history) g.config
    (subst (λ (r : ℕ). HasLifetime last.config r last.history) g.run kept)
