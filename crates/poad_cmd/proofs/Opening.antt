-- The configuration and the store of a run: what is read of the files by the one take and by the other.
use Rattle.std.proofs.Common.{◌≡◌, ℕ, ◌<◌, List, length, Option, Some, None, Result, Ok, Err, inl, inr, sym, ◌∙◌, subst}
use Rattle.std.specs.Prelude.{IfOk, IfErr}
use Rattle.std.specs.Option.{IsSomeAnd}
use Rattle.command_words.specs.Serving.{Serve, seen_serve}
use Rattle.command_words.specs.declared.server.ServeWords.{ServeWords}
use Rattle.outside.specs.Keeping.{Contents}
use Rattle.outside.specs.Told.{IfTold}
use Rattle.poa_base.specs.Store.{Slots}
use Rattle.poa_base.specs.declared.Config.{Config}
use Rattle.poa_history.specs.Life.{Life, begun}
use Rattle.poad_files.specs.StateFile.{state_limit, ReadsState}
use Rattle.poad_files.specs.Taking.{HoldsStill, TakesConfig}
use Rattle.poad_files.specs.declared.status.Status.{Status}
use Rattle.poad_files.specs.declared.status.Status.TheVariants as status
use Rattle.poad_files.proofs.Files.{config_on, held_before}
use Rattle.poad_files.proofs.Told.{told_then}
use Rattle.poad_cmd.specs.declared.beginning.Beginning.{Beginning}
use Rattle.poad_cmd.specs.Beginning.{BeginsBy, IsBegun, IsUnbegun, OpensWith}

state_before : (name : Option (List ℕ)) (slots : Slots) (a b c : Option Contents) → IfTold a b HoldsStill → OpensWith name (Ok slots) b c
    → OpensWith name (Ok slots) a c
state_before None slots a b c still opens = opens
state_before (Some name) slots a b c still (inl held) =
    inl (held_before name state_limit (λ content. ReadsState content (Ok slots)) a b c still held)
state_before (Some name) slots a b c still (inr absent) =
    inr (absent.0, told_then a b c _ _ _ (λ x y z p q. sym (p name) ∙ q) still absent.1)

no_state_before : (name : Option (List ℕ)) (s : Status) (a b c : Option Contents) → IfTold a b HoldsStill → OpensWith name (Err s) b c
    → OpensWith name (Err s) a c
no_state_before None s a b c still opens = opens
no_state_before (Some name) (status.StateRefused line) a b c still opens =
    held_before name state_limit (λ content. ReadsState content (Err (status.StateRefused line))) a b c still opens
no_state_before (Some name) status.NoFile a b c still opens = opens
no_state_before (Some name) status.FileTooLong a b c still opens =
    told_then a b c _ _ _ (λ x y z p q. subst (λ (o : Option (List ℕ)). IsSomeAnd o (λ content. state_limit < length content)) (p name) q) still opens
no_state_before (Some name) status.FileFault a b c still opens = tt
no_state_before (Some name) status.WantMemory a b c still opens = tt
no_state_before (Some name) _ a b c still opens = absurd opens

is_begun : (serve : Serve) (config : Config) (slots : Slots) (life : Life) (a b c : Option Contents) → TakesConfig serve.file (Ok config) a b
    → IfTold a b HoldsStill → IfTold b c HoldsStill → OpensWith serve.state (Ok slots) b c → life ≡ begun config serve.run serve.limit slots
    → IsBegun serve life a c
is_begun serve config slots life a b c taken still more opens is = record {
  config = config;
  slots = slots;
  taken = config_on serve.file config a b c taken more;
  opens = state_before serve.state slots a b c still opens;
  is = is;
}

-- a run that can't begin for its state
pub is_unbegun : (serve : Serve) (config : Config) (s : Status) (a b c : Option Contents) → TakesConfig serve.file (Ok config) a b
    → IfTold a b HoldsStill → IfTold b c HoldsStill → OpensWith serve.state (Err s) b c → IsUnbegun serve s a c
is_unbegun serve config s a b c taken still more opens = inr (record {
  config = config;
  taken = config_on serve.file config a b c taken more;
  refused = no_state_before serve.state s a b c still opens;
})

-- a run that begins, unless memory is wanting
pub begins_with : (words : ServeWords) (config : Config) (slots : Slots) (r : Result Beginning Status) (a b c : Option Contents)
    → TakesConfig words.file.now (Ok config) a b → IfTold a b HoldsStill → IfTold b c HoldsStill → OpensWith (seen_serve words).state (Ok slots) b c
    → IfOk r (λ it. it.words ≡ words) → IfOk r (λ it. it.core ≡ begun config words.run words.limit slots) → IfErr r (λ s. s ≡ status.WantMemory)
    → BeginsBy words r a c
begins_with words config slots (Ok it) a b c taken still more opens same core memory =
    (same, is_begun (seen_serve words) config slots it.core a b c taken still more opens core)
begins_with words config slots (Err s) a b c taken still more opens same core memory =
    subst (λ (x : Status). IsUnbegun (seen_serve words) x a c) (sym memory) (inl tt)

-- and with no other status
pub never_unbegun : (r : Result Beginning Status) (s : Status) → (s ≡ status.WantMemory → ⊥) → IfErr r (λ x. x ≡ status.WantMemory) → r ≡ Err s → ⊥
never_unbegun (Ok it) s never memory is = let e : Ok it ≡ Err s = is in cc
never_unbegun (Err x) s never memory is = let e : Err x ≡ Err s = is in let same : s ≡ x = cc in never (same ∙ memory)
