-- The status of a run of naming contexts.
use Rattle.std.proofs.Common.{◌≡◌, ℕ, refl, sym, ◌∙◌}
use Rattle.outside.specs.Cause.{HasCause}
use Rattle.poad_files.specs.declared.status.Status.{Status}
use Rattle.poad_files.specs.declared.status.Status.TheVariants as status
use Rattle.poad_answer.specs.declared.names_end.NamesEnd.{NamesEnd}
use Rattle.poad_answer.specs.declared.names_end.NamesEnd.TheVariants.{Ended, InputLimit, Malformed, ReadFault, Truncated, WantMemory, WriteFault}
use Rattle.poad_answer.specs.NamesRun.{status_of}

read_told : (e : NamesEnd) → status_of e ≡ status.ReadFault → e ≡ ReadFault
read_told Ended is = absurd (let f : status.Ok ≡ status.ReadFault = is in cc)
read_told ReadFault is = refl
read_told WriteFault is = absurd (let f : status.WriteFault ≡ status.ReadFault = is in cc)
read_told (Malformed at) is = absurd (let f : status.Malformed at ≡ status.ReadFault = is in cc)
read_told (Truncated have) is = absurd (let f : status.Truncated have ≡ status.ReadFault = is in cc)
read_told (InputLimit taken) is = absurd (let f : status.InputLimit taken ≡ status.ReadFault = is in cc)
read_told WantMemory is = absurd (let f : status.WantMemory ≡ status.ReadFault = is in cc)

write_told : (e : NamesEnd) → status_of e ≡ status.WriteFault → e ≡ WriteFault
write_told Ended is = absurd (let f : status.Ok ≡ status.WriteFault = is in cc)
write_told ReadFault is = absurd (let f : status.ReadFault ≡ status.WriteFault = is in cc)
write_told WriteFault is = refl
write_told (Malformed at) is = absurd (let f : status.Malformed at ≡ status.WriteFault = is in cc)
write_told (Truncated have) is = absurd (let f : status.Truncated have ≡ status.WriteFault = is in cc)
write_told (InputLimit taken) is = absurd (let f : status.InputLimit taken ≡ status.WriteFault = is in cc)
write_told WantMemory is = absurd (let f : status.WantMemory ≡ status.WriteFault = is in cc)

pub read_cause : (before now : ℕ) (e : NamesEnd) (s : Status) → s ≡ status_of e → HasCause before now (e ≡ ReadFault)
    → HasCause before now (s ≡ status.ReadFault)
read_cause before now e s same cause = record { later = cause.later; rose = λ is. cause.rose (read_told e (sym same ∙ is)) }

pub write_cause : (before now : ℕ) (e : NamesEnd) (s : Status) → s ≡ status_of e → HasCause before now (e ≡ WriteFault)
    → HasCause before now (s ≡ status.WriteFault)
write_cause before now e s same cause = record { later = cause.later; rose = λ is. cause.rose (write_told e (sym same ∙ is)) }

-- none of those of the words and of the files
pub record IsOfNames (s : Status) : Type 0 where
  pub words : s ≡ status.BadWords → ⊥
  pub no_file : s ≡ status.NoFile → ⊥
  pub too_long : s ≡ status.FileTooLong → ⊥
  pub file : s ≡ status.FileFault → ⊥

of_names : (e : NamesEnd) → IsOfNames (status_of e)
of_names Ended = record { words = λ is. cc; no_file = λ is. cc; too_long = λ is. cc; file = λ is. cc }
of_names ReadFault = record { words = λ is. cc; no_file = λ is. cc; too_long = λ is. cc; file = λ is. cc }
of_names WriteFault = record { words = λ is. cc; no_file = λ is. cc; too_long = λ is. cc; file = λ is. cc }
of_names (Malformed at) = record { words = λ is. cc; no_file = λ is. cc; too_long = λ is. cc; file = λ is. cc }
of_names (Truncated have) = record { words = λ is. cc; no_file = λ is. cc; too_long = λ is. cc; file = λ is. cc }
of_names (InputLimit taken) = record { words = λ is. cc; no_file = λ is. cc; too_long = λ is. cc; file = λ is. cc }
of_names WantMemory = record { words = λ is. cc; no_file = λ is. cc; too_long = λ is. cc; file = λ is. cc }

pub is_of_names : (e : NamesEnd) (s : Status) → s ≡ status_of e → IsOfNames s
is_of_names e s same =
    let it = of_names e in
    record { words = λ is. it.words (sym same ∙ is); no_file = λ is. it.no_file (sym same ∙ is); too_long = λ is. it.too_long (sym same ∙ is); file = λ is. it.file (sym same ∙ is) }
