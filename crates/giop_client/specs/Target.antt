-- By what a client asks an object: CORBA 3.3 Part 2, 9.7.2.
use Rattle.std.specs.Prelude.{◌≡◌, ℕ, min, List, [], ◌∷◌, Option, Some, None, MatchOption, ◌⊎◌}
use Rattle.poa_base.specs.declared.Ior.{Ior}
use Rattle.poa_base.specs.declared.Profile.{Profile}
use Rattle.ior_text.specs.declared.body.ProfileBody.{ProfileBody}
use Rattle.ior_text.specs.Body.{HasBody}
use Rattle.giop_answer.specs.declared.kind.TheConstants.{MINOR}
use Rattle.giop_client.specs.declared.target.Target.{Target}

-- the target that the data of a profile tell; of a version behind 1.2 as much is spoken as of 1.2
abbrev pub target_of_body : ProfileBody → Target
target_of_body body = record {
  endpoint = record { host = body.host; port = body.port };
  key = body.key;
  minor = min body.minor MINOR;
}

-- it is an IIOP profile of a version 1.x whose data can be read, and tells this target
pub record Reaches (profile : Profile) (target : Target) : Type 0 where
  pub body : ProfileBody
  pub has : HasBody profile body
  pub major : body.major ≡ 1
  pub is : target ≡ target_of_body body

-- the target that a profile tells, or none where it tells none
abbrev pub MayReach : Profile → Option Target → Type 0
MayReach profile found = MatchOption found ((target : Target) → Reaches profile target → ⊥) (Reaches profile)

-- of a list of profiles the first that tells one counts
abbrev pub IsAmong : List Profile → Option Target → Type 0
IsAmong [] found = found ≡ None
IsAmong (profile ∷ profiles) found =
    ((target : Target) × (found ≡ Some target) × Reaches profile target) ⊎ (MayReach profile None × IsAmong profiles found)

-- the target of a reference, or none where it has none
abbrev pub IsTarget : Ior → Option Target → Type 0
IsTarget reference found = IsAmong reference.profiles found
