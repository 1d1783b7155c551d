-- What an administrator's lines say of what is still to be heard.
use Rattle.std.proofs.Common.{◌≡◌, ℕ, suc, ◌+◌, ◌≤◌, ◌==◌, true, false, not, List, [], ◌∷◌, ◌++◌, ◌-◌, length, length-append, refl, sym, ap, subst, ◌∙◌, append_assoc, append-nil, arith, lt-ltb, ltb-true, slice_index, take, length-take}
use Rattle.std.proofs.lemmas.Bool.{cond_both, and_parts, not-true}
use Rattle.text_words.specs.Cuts.{onto, lacks, parts_of}
use Rattle.text_words.proofs.Cutting.{cut-front, cut-alone}
use Rattle.session_laws.specs.declared.peer.Peer.TheVariants.{Administrator}
use Rattle.session_laws.specs.Hearing.{Heard, Stop, over, bad}
use Rattle.session_laws.specs.Lines.{calls_in, stop_in, is_long, spoken, without_return, HearsLinesFrom}
use Rattle.session_laws.specs.Expecting.{Cutting, Expects, GoesOn, OfLines}

-- a byte that isn't s stands in front of the first part
cut_other : (s c : ℕ) (cs : List ℕ) → (c == s) ≡ false → parts_of s (c ∷ cs) ≡ onto c (parts_of s cs)
cut_other s c cs other = rw other refl

front_lacks : (s c : ℕ) (cs : List ℕ) → lacks s (c ∷ cs) ≡ true → ((c == s) ≡ false) × (lacks s cs ≡ true)
front_lacks s c cs clear = let p = and_parts (not (c == s)) (lacks s cs) clear in (not-true (c == s) p.0, p.1)

-- a text has a part, its first
pub record HasParts (s : ℕ) (text : List ℕ) : Type 0 where
  pub first : List ℕ
  pub more : List (List ℕ)
  pub parts : parts_of s text ≡ first ∷ more

-- parts that aren't none
abbrev AreSome : List (List ℕ) → Type 0
AreSome parts = (first : List ℕ) × (more : List (List ℕ)) × (parts ≡ first ∷ more)

onto_some : (b : ℕ) (parts : List (List ℕ)) → AreSome (onto b parts)
onto_some b [] = (b ∷ [], [], refl)
onto_some b (w ∷ ws) = (b ∷ w, ws, refl)

some_parts : (s : ℕ) (text : List ℕ) → AreSome (parts_of s text)
some_parts s [] = ([], [], refl)
some_parts s (b ∷ bs) =
    cond_both (b == s) ([] ∷ parts_of s bs) (onto b (parts_of s bs)) AreSome (λ _. ([], parts_of s bs, refl)) (λ _. onto_some b (parts_of s bs))

pub has_parts : (s : ℕ) (text : List ℕ) → HasParts s text
has_parts s text = (let p = some_parts s text in record { first = p.0; more = p.1; parts = p.2 })

-- bytes in front that have no s belong to the first part
pub parts_behind : (s : ℕ) (a b : List ℕ) (first : List ℕ) (more : List (List ℕ)) → lacks s a ≡ true → parts_of s b ≡ first ∷ more
    → parts_of s (a ++ b) ≡ (a ++ first) ∷ more
parts_behind s [] b first more clear parts = parts
parts_behind s (c ∷ cs) b first more clear parts =
    let p = front_lacks s c cs clear in
    cut_other s c (cs ++ b) p.0 ∙ ap (onto c) (parts_behind s cs b first more p.1 parts)

-- the CR that may end a line is one byte
pub return_is_one : (raw : List ℕ) → length raw ≤ length (without_return raw) + 1
return_is_one raw =
    cond_both (slice_index raw (length raw - 1) == 13) (take (length raw - 1) raw) raw (λ x. length raw ≤ length x + 1)
    (λ _. (let short = length-take (length raw - 1) raw in omega (arith, short))) (λ _. omega arith)

pub return_drops : (raw : List ℕ) → length (without_return raw) ≤ length raw
return_drops raw =
    cond_both (slice_index raw (length raw - 1) == 13) (take (length raw - 1) raw) raw (λ x. length x ≤ length raw)
    (λ _. (let short = length-take (length raw - 1) raw in omega (arith, short))) (λ _. omega arith)

-- what is too long stays so, whatever follows
pub stays_long : (raw more : List ℕ) → is_long raw ≡ true → is_long (raw ++ more) ≡ true
stays_long raw [] long = subst (λ x. is_long x ≡ true) (sym (append-nil raw)) long
stays_long raw (b ∷ bs) long =
    let was = ltb-true 4096 (length (without_return raw)) long in
    let short = return_drops raw in
    let whole = return_is_one (raw ++ b ∷ bs) in
    let counted : length (raw ++ b ∷ bs) ≡ length raw + suc (length bs) = length-append raw (b ∷ bs) in
    lt-ltb 4096 (length (without_return (raw ++ b ∷ bs))) (omega (arith, was, short, whole, counted))

calls_long : (number : ℕ) (raw : List ℕ) (more : List (List ℕ)) → is_long raw ≡ true → calls_in number (raw ∷ more) ≡ []
calls_long number raw [] long = refl
calls_long number raw (m ∷ more) long = rw long refl

stop_long : (place : ℕ) (raw : List ℕ) (more : List (List ℕ)) → is_long raw ≡ true → stop_in place (raw ∷ more) ≡ bad place
stop_long place raw [] long = rw long refl
stop_long place raw (m ∷ more) long = rw long refl

calls_short : (number : ℕ) (raw m : List ℕ) (more : List (List ℕ)) → is_long raw ≡ false
    → calls_in number (raw ∷ m ∷ more) ≡ spoken number (without_return raw) ++ calls_in (suc number) (m ∷ more)
calls_short number raw m more short = rw short refl

stop_short : (place : ℕ) (raw m : List ℕ) (more : List (List ℕ)) → is_long raw ≡ false
    → stop_in place (raw ∷ m ∷ more) ≡ stop_in (place + length raw + 1) (m ∷ more)
stop_short place raw m more short = rw short refl

stop_over : (place : ℕ) (raw : List ℕ) → is_long raw ≡ false → stop_in place (raw ∷ []) ≡ over (length raw)
stop_over place raw short = rw short refl

-- nothing was read yet
pub lines_new : Expects Administrator (OfLines (record { place = 0; number = 1; unread = [] })) [] []
lines_new = λ text calls stop heard. heard

pub lines_fed : (l : Cutting) (piece text : List ℕ) (calls : List Heard) (stop : Stop) → OfLines (record l { unread = l.unread ++ piece }) text calls stop
    → OfLines l (piece ++ text) calls stop
lines_fed l piece text calls stop heard = subst (λ t. HearsLinesFrom l.place l.number t calls stop) (append_assoc l.unread piece text) heard

-- the cutting behind a line
abbrev pub behind_line : Cutting → List ℕ → List ℕ → Cutting
behind_line l raw rest = record { place = l.place + length raw + 1; number = suc l.number; unread = rest }

module _ (l : Cutting) (raw rest text : List ℕ) (stands : l.unread ≡ raw ++ 10 ∷ rest) (clear : lacks 10 raw ≡ true) where
  parted : parts_of 10 (l.unread ++ text) ≡ raw ∷ parts_of 10 (rest ++ text)
  parted =
      ap (λ u. parts_of 10 (u ++ text)) stands
      ∙ ap (parts_of 10) (append_assoc raw (10 ∷ rest) text)
      ∙ cut-front 10 ([] ∷ []) raw (rest ++ text) clear

  -- a whole line is read
  pub line_read : (calls : List Heard) (stop : Stop) → is_long raw ≡ false → OfLines (behind_line l raw rest) text calls stop
      → OfLines l text (spoken l.number (without_return raw) ++ calls) stop
  line_read calls stop short heard =
      let p = has_parts 10 (rest ++ text) in
      let whole : parts_of 10 (l.unread ++ text) ≡ raw ∷ p.first ∷ p.more = parted ∙ ap (λ ps. raw ∷ ps) p.parts in (
        ap (λ cs. spoken l.number (without_return raw) ++ cs) (heard.0 ∙ ap (calls_in (suc l.number)) p.parts)
            ∙ sym (ap (calls_in l.number) whole ∙ calls_short l.number raw p.first p.more short),
        heard.1 ∙ ap (stop_in (l.place + length raw + 1)) p.parts ∙ sym (ap (stop_in l.place) whole ∙ stop_short l.place raw p.first p.more short),
      )

  -- a whole line is too long
  pub line_long : is_long raw ≡ true → OfLines l text [] (bad l.place)
  line_long long = (
    sym (ap (calls_in l.number) parted ∙ calls_long l.number raw (parts_of 10 (rest ++ text)) long),
    sym (ap (stop_in l.place) parted ∙ stop_long l.place raw (parts_of 10 (rest ++ text)) long),
  )

-- a line that isn't whole yet is too long
pub front_long : (l : Cutting) (text : List ℕ) → lacks 10 l.unread ≡ true → is_long l.unread ≡ true → OfLines l text [] (bad l.place)
front_long l text clear long =
    let p = has_parts 10 text in
    let parted = parts_behind 10 l.unread text p.first p.more clear p.parts in
    let still = stays_long l.unread p.first long in (
      sym (ap (calls_in l.number) parted ∙ calls_long l.number (l.unread ++ p.first) p.more still),
      sym (ap (stop_in l.place) parted ∙ stop_long l.place (l.unread ++ p.first) p.more still),
    )

-- no whole line is left
pub lines_over : (l : Cutting) → lacks 10 l.unread ≡ true → is_long l.unread ≡ false → OfLines l [] [] (over (length l.unread))
lines_over l clear short =
    let alone : parts_of 10 (l.unread ++ []) ≡ l.unread ∷ [] = ap (parts_of 10) (append-nil l.unread) ∙ cut-alone 10 l.unread clear in
    (sym (ap (calls_in l.number) alone), sym (ap (stop_in l.place) alone ∙ stop_over l.place l.unread short))

-- whatever still comes, something is heard
pub lines_go_on : (l : Cutting) (text : List ℕ) → GoesOn (OfLines l) text
lines_go_on l text = record {
  calls = calls_in l.number (parts_of 10 (l.unread ++ text));
  stop = stop_in l.place (parts_of 10 (l.unread ++ text));
  heard = (refl, refl);
}
