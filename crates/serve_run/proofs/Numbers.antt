-- Numbers in short lists, and whose an entry is.
use Rattle.std.proofs.Common.{◌≡◌, ℕ, [], ◌∷◌, Some, None, arith}
use mathlib.Core.Logic.{dite}
use native.Mathlib.Decide.{ℕ_discrete}
use Rattle.poa_base.specs.declared.Entry.{Entry}
use Rattle.poa_base.specs.declared.Entry.TheVariants.{Entered, Arrive, Filled, Left, Collect, Admit, Tried, Incarnated, Run, Done, TakeOut, Etherealized, Abandon}
use Rattle.poa_history.specs.Owners.{owner_of, worker_of}
use Rattle.seat_lock.specs.Histories.{In}
use Rattle.seat_lock.proofs.Totals.{times_else, times_here}

-- of a list of one number
pub one_in : (w k : ℕ) → In w (k ∷ []) → w ≡ k
one_in w k there = dite (ℕ_discrete w k) (λ (same : w ≡ k). same) (λ (other : w ≡ k → ⊥). absurd (let none = times_else w k other in omega arith))

pub here_in : (w : ℕ) → In w (w ∷ [])
here_in w = (let one = times_here w in omega arith)

-- an entry of a connection is none of a worker
pub no_worker : (e : Entry) (c w : ℕ) → owner_of e ≡ Some c → worker_of e ≡ Some w → ⊥
no_worker (Entered k) c w own works = (let f : None ≡ Some w = works in cc)
no_worker (Arrive k size call) c w own works = (let f : None ≡ Some w = works in cc)
no_worker (Filled k size) c w own works = (let f : None ≡ Some w = works in cc)
no_worker (Left k) c w own works = (let f : None ≡ Some w = works in cc)
no_worker (Collect k a) c w own works = (let f : None ≡ Some w = works in cc)
no_worker (Admit v r x) c w own works = (let f : None ≡ Some c = own in cc)
no_worker (Tried v a) c w own works = (let f : None ≡ Some c = own in cc)
no_worker (Incarnated v a) c w own works = (let f : None ≡ Some c = own in cc)
no_worker (Run v) c w own works = (let f : None ≡ Some c = own in cc)
no_worker (Done v) c w own works = (let f : None ≡ Some c = own in cc)
no_worker (TakeOut v n x) c w own works = (let f : None ≡ Some c = own in cc)
no_worker (Etherealized v x y) c w own works = (let f : None ≡ Some c = own in cc)
no_worker (Abandon v) c w own works = (let f : None ≡ Some c = own in cc)
