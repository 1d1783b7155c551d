-- A text that goes on: its lines begin with the same calls.
use Rattle.std.proofs.Common.{◌≡◌, ℕ, suc, ◌==◌, true, false, List, [], ◌∷◌, ◌++◌, refl, sym, ap, ◌∙◌, append_assoc, if◌then◌else◌}
use Rattle.session_laws.proofs.Lines.{has_parts}
use Rattle.session_laws.specs.Hearing.{Heard}
use Rattle.session_laws.specs.Lines.{calls_in, is_long, spoken, without_return}
use Rattle.text_words.specs.Cuts.{onto, parts_of}

-- these calls begin with those
abbrev pub GoesOn : List Heard → List Heard → Type 0
GoesOn calls whole = (more : List Heard) × (whole ≡ calls ++ more)

-- the parts of a text, and of the text that goes on: they differ from the last part of the first on
record Joined (parts whole : List (List ℕ)) : Type 0 where
  pub front : List (List ℕ)
  pub last : List ℕ
  pub first : List ℕ
  pub rest : List (List ℕ)
  pub parts_are : parts ≡ front ++ last ∷ []
  pub whole_is : whole ≡ front ++ first ∷ rest

joined_onto : (b : ℕ) (front : List (List ℕ)) (last first : List ℕ) (rest parts whole : List (List ℕ)) → parts ≡ front ++ last ∷ []
    → whole ≡ front ++ first ∷ rest → Joined (onto b parts) (onto b whole)
joined_onto b [] last first rest parts whole is are =
    record { front = []; last = b ∷ last; first = b ∷ first; rest = rest; parts_are = ap (onto b) is; whole_is = ap (onto b) are }
joined_onto b (f ∷ fs) last first rest parts whole is are =
    record { front = (b ∷ f) ∷ fs; last = last; first = first; rest = rest; parts_are = ap (onto b) is; whole_is = ap (onto b) are }

joined : (text next : List ℕ) → Joined (parts_of 10 text) (parts_of 10 (text ++ next))
joined [] next =
    (let p = has_parts 10 next in record { front = []; last = []; first = p.first; rest = p.more; parts_are = refl; whole_is = p.parts })
joined (b ∷ bs) next =
    let j = joined bs next in
    elim (b == 10) as (λ c. Joined (if c then [] ∷ parts_of 10 bs else onto b (parts_of 10 bs))
    (if c then [] ∷ parts_of 10 (bs ++ next) else onto b (parts_of 10 (bs ++ next)))) [
      | true ↦ record {
        front = [] ∷ j.front;
        last = j.last;
        first = j.first;
        rest = j.rest;
        parts_are = ap (λ ps. [] ∷ ps) j.parts_are;
        whole_is = ap (λ ps. [] ∷ ps) j.whole_is;
      }
      | false ↦ joined_onto b j.front j.last j.first j.rest (parts_of 10 bs) (parts_of 10 (bs ++ next)) j.parts_are j.whole_is
    ]

-- one line in front of both
goes_on_line : (number : ℕ) (raw a b : List ℕ) (xs ys : List (List ℕ)) → GoesOn (calls_in (suc number) (a ∷ xs)) (calls_in (suc number) (b ∷ ys))
    → GoesOn (calls_in number (raw ∷ a ∷ xs)) (calls_in number (raw ∷ b ∷ ys))
goes_on_line number raw a b xs ys on =
    elim (is_long raw) as (λ long. GoesOn (if long then [] else spoken number (without_return raw) ++ calls_in (suc number) (a ∷ xs))
    (if long then [] else spoken number (without_return raw) ++ calls_in (suc number) (b ∷ ys))) [
      | true ↦ ([], refl)
      | false ↦ (
        on.0,
        ap (λ calls. spoken number (without_return raw) ++ calls) on.1
            ∙ sym (append_assoc (spoken number (without_return raw)) (calls_in (suc number) (a ∷ xs)) on.0),
      )
    ]

calls_go_on : (number : ℕ) (front : List (List ℕ)) (last first : List ℕ) (rest : List (List ℕ))
    → GoesOn (calls_in number (front ++ last ∷ [])) (calls_in number (front ++ first ∷ rest))
calls_go_on number [] last first rest = (calls_in number (first ∷ rest), refl)
calls_go_on number (raw ∷ []) last first rest = goes_on_line number raw last first [] rest (calls_go_on (suc number) [] last first rest)
calls_go_on number (raw ∷ f ∷ fs) last first rest =
    goes_on_line number raw f f (fs ++ last ∷ []) (fs ++ first ∷ rest) (calls_go_on (suc number) (f ∷ fs) last first rest)

pub lines_longer : (number : ℕ) (text next : List ℕ) → GoesOn (calls_in number (parts_of 10 text)) (calls_in number (parts_of 10 (text ++ next)))
lines_longer number text next =
    let j = joined text next in
    let on = calls_go_on number j.front j.last j.first j.rest in
    (on.0, ap (calls_in number) j.whole_is ∙ on.1 ∙ ap (λ ps. calls_in number ps ++ on.0) (sym j.parts_are))
