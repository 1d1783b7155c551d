-- What a command reads of its files, over several takes.
use Rattle.std.proofs.Common.{◌≡◌, ℕ, ◌≤◌, List, Option, Result, Ok, Err, refl, sym, ◌∙◌, subst, inl, arith}
use Rattle.std.specs.Prelude.{◌≢◌}
use Rattle.outside.specs.Cause.{HasCause}
use Rattle.outside.specs.Keeping.{Contents}
use Rattle.outside.specs.Told.{IfTold}
use Rattle.poa_base.specs.declared.Config.{Config}
use Rattle.poa_base.specs.Store.{Slots}
use Rattle.replay_script.specs.declared.Script.{Script}
use Rattle.poad_files.specs.declared.status.Status.{Status}
use Rattle.poad_files.specs.declared.status.Status.TheVariants as status
use Rattle.poad_files.specs.declared.printing.Asked.{Asked}
use Rattle.poad_files.specs.Filing.{Filed, Printed}
use Rattle.poad_files.specs.StateFile.{state_limit, ReadsState, TakesState}
use Rattle.poad_files.specs.Taking.{HoldsStill, OfContent, config_limit, script_limit, IsHeld, ReadsConfig, ReadsScript, Refused, TakesConfig, TakesScript}
use Rattle.poad_files.specs.Showing.{GainsNothing}
use Rattle.poad_files.proofs.Told.{told_then, told_here}
use Rattle.poad_files.proofs.Causes.{cause_still, cause_from}

-- the configuration of a content that was taken
pub config_taken : (name content : List ℕ) (r : Result Config Status) (old new : Option Contents) → IsHeld name config_limit content old new
    → ReadsConfig content r → TakesConfig name r old new
config_taken name content (Ok config) old new held reads = record { content = content; held = held; reads = reads }
config_taken name content (Err (status.ConfigRefused fault)) old new held reads = record { content = content; held = held; reads = reads }
config_taken name content (Err status.WantMemory) old new held reads = tt
config_taken name content (Err _) old new held reads = absurd reads

pub config_untaken : (name : List ℕ) (s : Status) (old new : Option Contents) → Refused name config_limit s old new → TakesConfig name (Err s) old new
config_untaken name (status.ConfigRefused fault) old new r = absurd r
config_untaken name _ old new r = r

pub script_taken : (name content : List ℕ) (r : Result Script Status) (old new : Option Contents) → IsHeld name script_limit content old new
    → ReadsScript content r → TakesScript name r old new
script_taken name content (Ok script) old new held reads = record { content = content; held = held; reads = reads }
script_taken name content (Err (status.ScriptRefused line)) old new held reads = record { content = content; held = held; reads = reads }
script_taken name content (Err status.WantMemory) old new held reads = tt
script_taken name content (Err _) old new held reads = absurd reads

pub script_untaken : (name : List ℕ) (s : Status) (old new : Option Contents) → Refused name script_limit s old new → TakesScript name (Err s) old new
script_untaken name (status.ScriptRefused line) old new r = absurd r
script_untaken name _ old new r = r

pub state_taken : (name content : List ℕ) (r : Result Slots Status) (old new : Option Contents) → IsHeld name state_limit content old new
    → ReadsState content r → TakesState name r old new
state_taken name content (Ok slots) old new held reads = inl (record { content = content; held = held; reads = reads })
state_taken name content (Err (status.StateRefused line)) old new held reads = record { content = content; held = held; reads = reads }
state_taken name content (Err status.WantMemory) old new held reads = tt
state_taken name content (Err _) old new held reads = absurd reads

pub state_untaken : (name : List ℕ) (s : Status) (old new : Option Contents) → s ≢ status.NoFile → Refused name state_limit s old new
    → TakesState name (Err s) old new
state_untaken name (status.StateRefused line) old new other r = absurd r
state_untaken name status.NoFile old new other r = absurd (other refl)
state_untaken name _ old new other r = r

pub never_state : (content : List ℕ) (r : Result Slots Status) (s : Status) → (ReadsState content (Err s) → ⊥) → ReadsState content r → r ≡ Err s → ⊥
never_state content r s never reads same = never (subst (λ (x : Result Slots Status). ReadsState content x) same reads)

-- a status that reading a text never gives
pub never_config : (content : List ℕ) (r : Result Config Status) (s : Status) → (ReadsConfig content (Err s) → ⊥) → ReadsConfig content r → r ≡ Err s → ⊥
never_config content r s never reads same = never (subst (λ (x : Result Config Status). ReadsConfig content x) same reads)

pub never_script : (content : List ℕ) (r : Result Script Status) (s : Status) → (ReadsScript content (Err s) → ⊥) → ReadsScript content r → r ≡ Err s → ⊥
never_script content r s never reads same = never (subst (λ (x : Result Script Status). ReadsScript content x) same reads)

pub same_held : (h : Option (List ℕ)) → GainsNothing h h
same_held h = told_here h (λ old new. new ≡ old) (λ x. refl)

-- what is printed of a file that isn't taken
pub filed_untaken : (asked : Asked) (name : List ℕ) (s : Status) (a b : Option Contents) (h : Option (List ℕ)) → Refused name config_limit s a b
    → Filed asked name s a b h h
filed_untaken asked name status.NoFile a b h r = (r, same_held h)
filed_untaken asked name status.FileTooLong a b h r = (r, same_held h)
filed_untaken asked name status.FileFault a b h r = same_held h
filed_untaken asked name status.WantMemory a b h r = same_held h
filed_untaken asked name _ a b h r = absurd r

-- and of one that is
filed_taken : (asked : Asked) (name content : List ℕ) (s : Status) (a b : Option Contents) (h k : Option (List ℕ)) → IsHeld name config_limit content a b
    → Printed asked content s h k → Filed asked name s a b h k
filed_taken asked name content status.NoFile a b h k held p = absurd p
filed_taken asked name content status.FileTooLong a b h k held p = absurd p
filed_taken asked name content status.FileFault a b h k held p = absurd p
filed_taken asked name content status.WantMemory a b h k held p = p
filed_taken asked name content _ a b h k held p = record { content = content; held = held; printed = p }

pub filed_read : (asked : Asked) (name content bytes : List ℕ) (s : Status) (a b : Option Contents) (h k : Option (List ℕ)) → bytes ≡ content
    → IsHeld name config_limit content a b → Printed asked bytes s h k → Filed asked name s a b h k
filed_read asked name content bytes s a b h k same held p = filed_taken asked name content s a b h k held (subst (λ (x : List ℕ). Printed asked x s h k) same p)

pub holds_on : (a b c : Option Contents) → IfTold a b HoldsStill → IfTold b c HoldsStill → IfTold a c HoldsStill
holds_on a b c p q = told_then a b c HoldsStill HoldsStill HoldsStill (λ x y z r s name. s name ∙ r name) p q

-- counts over two calls, the last of which may give the answer
pub cause_two : (a b c : ℕ) (First Last Answer : Type 0) → HasCause a b First → HasCause b c Last → (Answer → Last) → HasCause a c Answer
cause_two a b c First Last Answer p q so = cause_from a b c Last Answer p.later q so

pub cause_neither : (a b c : ℕ) (First Last Answer : Type 0) → HasCause a b First → HasCause b c Last → (Answer → ⊥) → HasCause a c Answer
cause_neither a b c First Last Answer p q never = cause_still a c Answer (let f : a ≤ b = p.later in let l : b ≤ c = q.later in omega arith) never

-- what was held before a take that left all is held before the next
pub held_on : (name : List ℕ) (limit : ℕ) (Reads : List ℕ → Type 0) (a b c : Option Contents) → OfContent name limit Reads a b → IfTold b c HoldsStill
    → OfContent name limit Reads a c
held_on name limit Reads a b c o still = record {
  content = o.content;
  held = record { within = o.held.within; held = told_then a b c _ _ _ (λ x y z p q. p) o.held.held still };
  reads = o.reads;
}

pub held_before : (name : List ℕ) (limit : ℕ) (Reads : List ℕ → Type 0) (a b c : Option Contents) → IfTold a b HoldsStill → OfContent name limit Reads b c
    → OfContent name limit Reads a c
held_before name limit Reads a b c still o = record {
  content = o.content;
  held = record { within = o.held.within; held = told_then a b c _ _ _ (λ x y z p q. sym (p name) ∙ q) still o.held.held };
  reads = o.reads;
}

pub config_on : (name : List ℕ) (config : Config) (a b c : Option Contents) → TakesConfig name (Ok config) a b → IfTold b c HoldsStill
    → TakesConfig name (Ok config) a c
config_on name config a b c t still = held_on name config_limit (λ content. ReadsConfig content (Ok config)) a b c t still
