-- Replies that are given, and told later.
use Rattle.std.specs.Prelude.{◌≡◌, ℕ, List, [], ◌∷◌, ◌++◌, Option, Some, None, Result, Ok, Err}
use Rattle.std.specs.declared.alloc.AllocError.{AllocError}
use Rattle.poa_base.specs.declared.Entry.{Entry}
use Rattle.seat_lock.specs.declared.view.View.{View}
use Rattle.poa_history.specs.declared.Givens.{Givens}
use Rattle.poa_core.specs.declared.Collected.{Collected}
use Rattle.poa_core.specs.declared.Collected.TheVariants as collected
use Rattle.poa_shared.specs.Seen.{past}
use Rattle.session_laws.specs.Records.{filling_by, told, IsPaidBy}
use Rattle.poa_session.specs.Growing.{Adds}
use Rattle.poa_session.specs.Saying.{IsGiven}

-- the bytes that tell what was given
abbrev pub told_of : Collected → List ℕ
told_of (collected.Reply r head reply) = told head reply
told_of (collected.Nothing owes) = []

-- one behind the other
abbrev pub told_all : List Collected → List ℕ
told_all [] = []
told_all (it ∷ more) = told_of it ++ told_all more

-- each of them can be written
abbrev pub AreGiven : List Collected → Type 0
AreGiven [] = Unit {0}
AreGiven (it ∷ more) = IsGiven it × AreGiven more

-- what was collected stands behind the others, where it is a reply
abbrev pub IsKept : Collected → List Collected → List Collected → Result (Option ℕ) AllocError → Type 0
IsKept (collected.Reply r head reply) old new (Ok None) = new ≡ old ++ collected.Reply r head reply ∷ []
IsKept (collected.Reply r head reply) old new (Ok (Some owed)) = ⊥
IsKept (collected.Reply r head reply) old new (Err fault) = Unit {0}
IsKept (collected.Nothing owes) old new (Ok None) = ⊥
IsKept (collected.Nothing owes) old new (Ok (Some owed)) = (owed ≡ owes) × (new ≡ old)
IsKept (collected.Nothing owes) old new (Err fault) = ⊥

-- a reply was given, and stands behind the others; or none is decided
abbrev pub GivesNext : Givens → ℕ → View Givens Entry → View Givens Entry → List Collected → List Collected → Result (Option ℕ) AllocError → Type 0
GivesNext g c v w old new (Ok None) =
    (it : Collected) × (Adds g c v w [] (told_of it) × (filling_by (past w) c ≡ filling_by (past v) c)) × (new ≡ old ++ it ∷ [])
GivesNext g c v w old new (Ok (Some owed)) =
    (Adds g c v w [] [] × (filling_by (past w) c ≡ filling_by (past v) c) × (owed ≡ 0 → IsPaidBy (past w) c)) × (new ≡ old)
GivesNext g c v w old new (Err fault) = (bytes : List ℕ) × (Adds g c v w [] bytes × (filling_by (past w) c ≡ filling_by (past v) c))

-- the replies that are decided were given, and stand behind the others, and so many calls are owed one still
abbrev pub AsGiven : List Entry → ℕ → List Collected → List ℕ → List Collected → Result ℕ AllocError → Type 0
AsGiven h c old due new (Ok owed) = ((more : List Collected) × (new ≡ old ++ more) × (due ≡ told_all more)) × (owed ≡ 0 → IsPaidBy h c)
AsGiven h c old due new (Err fault) = Unit {0}

pub record Gives (g : Givens) (c : ℕ) (v w : View Givens Entry) (old new : List Collected) (result : Result ℕ AllocError) : Type 0 where
  pub due : List ℕ
  pub adds : Adds g c v w [] due
  pub same : filling_by (past w) c ≡ filling_by (past v) c
  pub given : AsGiven (past w) c old due new result
