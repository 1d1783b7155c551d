-- What each status says of how a run came off.
use Rattle.std.proofs.Common.{◌≡◌, ℕ, Bool, true, false, ◌||◌, Option, Some, None, option_map, refl, sym, ap, ap₂, ◌∙◌}
use Rattle.std.specs.Prelude.{◌≢◌}
use Rattle.std.proofs.lemmas.Bool.{true≢false}
use Rattle.poad_files.specs.declared.status.Status.TheVariants.{Ok as Fine, WantMemory, NoThread, FileFault, ListenFault, Limit}
use Rattle.std.specs.Option.{is_some, option_or}
use Rattle.poad_cmd.specs.Ending.{IsLimit, is_for_memory, status_by}
use Rattle.poa_history.specs.declared.full.Full.{Full}
use Rattle.serve_run.specs.declared.outcome.Want.{Want}
use Rattle.serve_run.specs.declared.outcome.Want.TheVariants.{Memory, Thread}

pub no_memory_wanted : (m s u d : Bool) (l : Option Full) → status_by m s u d l ≢ WantMemory → m ≡ false
no_memory_wanted true s u d l other = absurd (other refl)
no_memory_wanted false s u d l other = refl

pub none_short : (m s u d : Bool) (l : Option Full) → status_by m s u d l ≢ WantMemory → status_by m s u d l ≢ NoThread → s ≡ false
none_short true s u d l other more = absurd (other refl)
none_short false true u d l other more = absurd (more refl)
none_short false false u d l other more = refl

-- which of them came
pub thread_told : (m s u d : Bool) (l : Option Full) → status_by m s u d l ≡ NoThread → (m ≡ false) × (s ≡ true)
thread_told true s u d l is = absurd (let e : WantMemory ≡ NoThread = is in cc)
thread_told false true u d l is = (refl, refl)
thread_told false false true d l is = absurd (let e : FileFault ≡ NoThread = is in cc)
thread_told false false false true l is = absurd (let e : ListenFault ≡ NoThread = is in cc)
thread_told false false false false None is = absurd (let e : Fine ≡ NoThread = is in cc)
thread_told false false false false (Some f) is = absurd (let e : Limit f.arrivals f.bytes ≡ NoThread = is in cc)

pub file_told : (m s u d : Bool) (l : Option Full) → status_by m s u d l ≡ FileFault → u ≡ true
file_told true s u d l is = absurd (let e : WantMemory ≡ FileFault = is in cc)
file_told false true u d l is = absurd (let e : NoThread ≡ FileFault = is in cc)
file_told false false true d l is = refl
file_told false false false true l is = absurd (let e : ListenFault ≡ FileFault = is in cc)
file_told false false false false None is = absurd (let e : Fine ≡ FileFault = is in cc)
file_told false false false false (Some f) is = absurd (let e : Limit f.arrivals f.bytes ≡ FileFault = is in cc)

pub listen_told : (m s u d : Bool) (l : Option Full) → status_by m s u d l ≡ ListenFault → (m ≡ false) × (s ≡ false) × (d ≡ true)
listen_told true s u d l is = absurd (let e : WantMemory ≡ ListenFault = is in cc)
listen_told false true u d l is = absurd (let e : NoThread ≡ ListenFault = is in cc)
listen_told false false true d l is = absurd (let e : FileFault ≡ ListenFault = is in cc)
listen_told false false false true l is = (refl, refl, refl)
listen_told false false false false None is = absurd (let e : Fine ≡ ListenFault = is in cc)
listen_told false false false false (Some f) is = absurd (let e : Limit f.arrivals f.bytes ≡ ListenFault = is in cc)

pub limit_told : (m s u d : Bool) (l : Option Full) (calls bytes : ℕ) → status_by m s u d l ≡ Limit calls bytes
    → (f : Full) × (l ≡ Some f) × (f.arrivals ≡ calls) × (f.bytes ≡ bytes)
limit_told true s u d l calls bytes is = absurd (let e : WantMemory ≡ Limit calls bytes = is in cc)
limit_told false true u d l calls bytes is = absurd (let e : NoThread ≡ Limit calls bytes = is in cc)
limit_told false false true d l calls bytes is = absurd (let e : FileFault ≡ Limit calls bytes = is in cc)
limit_told false false false true l calls bytes is = absurd (let e : ListenFault ≡ Limit calls bytes = is in cc)
limit_told false false false false None calls bytes is = absurd (let e : Fine ≡ Limit calls bytes = is in cc)
limit_told false false false false (Some f) calls bytes is = (let e : Limit f.arrivals f.bytes ≡ Limit calls bytes = is in (f, refl, cc, cc))

pub record IsWell (m s u d : Bool) (l : Option Full) : Type 0 where
  pub memory : m ≡ false
  pub started : s ≡ false
  pub put : u ≡ false
  pub doors : d ≡ false
  pub taken : l ≡ None

pub fine_told : (m s u d : Bool) (l : Option Full) → status_by m s u d l ≡ Fine → IsWell m s u d l
fine_told true s u d l is = absurd (let e : WantMemory ≡ Fine = is in cc)
fine_told false true u d l is = absurd (let e : NoThread ≡ Fine = is in cc)
fine_told false false true d l is = absurd (let e : FileFault ≡ Fine = is in cc)
fine_told false false false true l is = absurd (let e : ListenFault ≡ Fine = is in cc)
fine_told false false false false None is = record { memory = refl; started = refl; put = refl; doors = refl; taken = refl }
fine_told false false false false (Some f) is = absurd (let e : Limit f.arrivals f.bytes ≡ Fine = is in cc)

-- how it came off
pub not_lost : (lost : Bool) (short : Option Want) (textless : Bool) → (lost || is_for_memory short) || textless ≡ false → lost ≡ false
not_lost true short textless is = absurd (true≢false is)
not_lost false short textless is = refl

pub not_short : (short : Option Want) → is_some short ≡ false → short ≡ None
not_short None is = refl
not_short (Some want) is = absurd (true≢false is)

pub limit_is : (filled refused : Option Full) (f : Full) (calls bytes : ℕ) → option_or filled refused ≡ Some f → f.arrivals ≡ calls → f.bytes ≡ bytes
    → IsLimit (option_map (λ x. (x.arrivals, x.bytes)) filled) refused calls bytes
limit_is (Some x) refused f calls bytes is a b =
    (let e : Some x ≡ Some f = is in let same : x ≡ f = cc in ap₂ (λ m n. (m, n)) (ap (λ y. y.arrivals) same ∙ a) (ap (λ y. y.bytes) same ∙ b))
limit_is None (Some x) f calls bytes is a b =
    (let e : Some x ≡ Some f = is in let same : x ≡ f = cc in (ap (λ y. y.arrivals) same ∙ a, ap (λ y. y.bytes) same ∙ b))
limit_is None None f calls bytes is a b = absurd (let e : None ≡ Some f = is in cc)

pub none_full : (filled refused : Option Full) → option_or filled refused ≡ None → (filled ≡ None) × (refused ≡ None)
none_full (Some x) refused is = absurd (let e : Some x ≡ None = is in cc)
none_full None refused is = (refl, is)

pub thread_short : (lost : Bool) (short : Option Want) (textless : Bool) → (lost || is_for_memory short) || textless ≡ false → is_some short ≡ true
    → short ≡ Some Thread
thread_short lost None textless none is = absurd (true≢false (sym is))
thread_short true (Some Memory) textless none is = absurd (true≢false none)
thread_short false (Some Memory) textless none is = absurd (true≢false none)
thread_short lost (Some Thread) textless none is = refl
