-- What closing an open message leaves, and what it takes out.
use Rattle.std.proofs.Common.{◌≡◌, ℕ, Bool, true, false, Option, Some, None, List, [], ◌∷◌, refl, ⊎_elim, ap, ◌∙◌, sym, IsSome, IfSome, option_map}
use Rattle.std.proofs.lemmas.Bool.{cases_Bool}
use Rattle.std.specs.Map.{lookup, set_value, remove_entry}
use Rattle.giop_frame.specs.Open.{Open, Opens, at_id, find_open, joined}
use Rattle.giop_frame.specs.Stream.{Framed, closed_by}

-- a value that was put at a key is found there, and goes with it
pub lookup_put : (test : ℕ → Bool) (es : Opens) (o w : Open) → lookup test es ≡ Some o → lookup test (set_value test es w) ≡ Some w
lookup_put test [] o w e = cc
lookup_put test (x ∷ es) o w e =
    ⊎_elim (λ (t : test x.0 ≡ true). simp t) (λ (f : test x.0 ≡ false). simp f (lookup_put test es o w (simp f at e))) (cases_Bool (test x.0))

pub remove_put : (test : ℕ → Bool) (es : Opens) (w : Open) → remove_entry test (set_value test es w) ≡ remove_entry test es
remove_put test [] w = refl
remove_put test (x ∷ es) w =
    ⊎_elim (λ (t : test x.0 ≡ true). simp t) (λ (f : test x.0 ≡ false). simp f (ap (λ rest. x ∷ rest) (remove_put test es w))) (cases_Bool (test x.0))

-- an open message as it stands
abbrev pub framed : Open → Framed
framed o = record { at = o.at; bytes = o.bytes }

-- an open message that its last Fragment was joined to
pub record IsJoined (id : ℕ) (part : List ℕ) (old new : Opens) : Type 0 where
  pub found : option_map framed (find_open id new) ≡ option_map (λ o. closed_by o part) (find_open id old)
  pub others : remove_entry (at_id id) new ≡ remove_entry (at_id id) old

joined_at : (id : ℕ) (part : List ℕ) (old new : Opens) (o : Option Open) → find_open id old ≡ o → IsSome o
    → IfSome o (λ x. new ≡ set_value (at_id id) old (joined x part)) → IsJoined id part old new
joined_at id part old new None e some h = absurd (cc)
joined_at id part old new (Some x) e some h = record {
  found = ap (option_map framed) (ap (find_open id) h ∙ lookup_put (at_id id) old x (joined x part) e) ∙ ap (option_map (λ o. closed_by o part)) (sym e);
  others = ap (remove_entry (at_id id)) h ∙ remove_put (at_id id) old (joined x part);
}

pub joined_from : (id : ℕ) (part : List ℕ) (old new : Opens) → IsSome (find_open id old)
    → IfSome (find_open id old) (λ o. new ≡ set_value (at_id id) old (joined o part)) → IsJoined id part old new
joined_from id part old new some h = joined_at id part old new (find_open id old) refl some h
