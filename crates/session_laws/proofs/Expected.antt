-- What is heard of a peer so far, step by step.
use Rattle.std.proofs.Common.{ℕ, List, [], ◌∷◌, ◌++◌, sym, subst, append_assoc, append-nil}
use Rattle.poa_base.specs.declared.Call.{Call}
use Rattle.session_laws.specs.declared.peer.Peer.{Peer}
use Rattle.session_laws.specs.Hearing.{Heard, Stop}
use Rattle.session_laws.specs.Sessions.{Hears, Begins, IsNext}
use Rattle.session_laws.specs.Expecting.{Hearing, Expects, GoesOn}

module _ (peer : Peer) (P Q : Hearing) (text : List ℕ) (calls : List Heard) (expected : Expects peer P text calls) where
  -- a call is heard
  pub expects_call : (h : Heard) → ((next : List ℕ) (more : List Heard) (stop : Stop) → Q next more stop → P next (h ∷ more) stop)
      → Expects peer Q text (calls ++ h ∷ [])
  expects_call h step = λ next more stop heard.
      subst (λ cs. Hears peer (text ++ next) cs stop) (sym (append_assoc calls (h ∷ []) more)) (expected next (h ∷ more) stop (step next more stop heard))

  -- so many calls are heard, or none
  pub expects_calls : (hs : List Heard) → ((next : List ℕ) (more : List Heard) (stop : Stop) → Q next more stop → P next (hs ++ more) stop)
      → Expects peer Q text (calls ++ hs)
  expects_calls hs step = λ next more stop heard.
      subst (λ cs. Hears peer (text ++ next) cs stop) (sym (append_assoc calls hs more)) (expected next (hs ++ more) stop (step next more stop heard))

  -- nothing is heard
  pub expects_same : ((next : List ℕ) (more : List Heard) (stop : Stop) → Q next more stop → P next more stop) → Expects peer Q text calls
  expects_same step = λ next more stop heard. expected next more stop (step next more stop heard)

  -- more bytes come
  pub expects_fed : (piece : List ℕ) → ((next : List ℕ) (more : List Heard) (stop : Stop) → Q next more stop → P (piece ++ next) more stop)
      → Expects peer Q (text ++ piece) calls
  expects_fed piece step = λ next more stop heard.
      subst (λ t. Hears peer t (calls ++ more) stop) (sym (append_assoc text piece next)) (expected (piece ++ next) more stop (step next more stop heard))

module _ (peer : Peer) (P : Hearing) (text : List ℕ) (calls : List Heard) (expected : Expects peer P text calls) where
  -- the input stops here
  pub expects_stop : (stop : Stop) → P [] [] stop → Hears peer text calls stop
  expects_stop stop heard =
      subst (λ t. Hears peer t calls stop) (append-nil text) (subst (λ cs. Hears peer (text ++ []) cs stop) (append-nil calls) (expected [] [] stop heard))

  -- whatever still comes, these calls are the first
  pub expects_front : (next : List ℕ) → GoesOn P next → Begins peer (text ++ next) calls
  expects_front next on = record { more = on.calls; stop = on.stop; hears = expected next on.calls on.stop on.heard }

  pub expects_begins : GoesOn P [] → Begins peer text calls
  expects_begins on = subst (λ t. Begins peer t calls) (append-nil text) (expects_front [] on)

-- a call that is heard is the next behind those before it
pub expects_next : (peer : Peer) (P Q : Hearing) (text : List ℕ) (calls : List Heard) → Expects peer P text calls → (call : Call) (size : ℕ)
    → ((next : List ℕ) (more : List Heard) (stop : Stop) → Q next more stop → P next (record { call = call; size = size } ∷ more) stop)
    → GoesOn Q [] → IsNext peer text calls size
expects_next peer P Q text calls expected call size step on =
    let heard : Heard = record { call = call; size = size } in
    record { call = call; begins = expects_begins peer Q text (calls ++ heard ∷ []) (expects_call peer P Q text calls expected heard step) on }

-- all calls of a text are its first ones
pub hears_begins : (peer : Peer) (text : List ℕ) (calls : List Heard) (stop : Stop) → Hears peer text calls stop → Begins peer text calls
hears_begins peer text calls stop heard = record { more = []; stop = stop; hears = subst (λ cs. Hears peer text cs stop) (sym (append-nil calls)) heard }
