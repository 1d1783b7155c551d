-- Trails that go on one by one.
use Rattle.std.proofs.Common.{◌≡◌, ℕ, zero, suc, ◌+◌, ◌<◌, ◌≤◌, List, [], ◌∷◌, length, map, slice_index_or, slice_set, take, drop, ◌++◌, refl, sym, ◌∙◌, ap, ap₂, subst, arith}
use Rattle.std.proofs.lemmas.List.{append-nil, drop_all, take_all}
use Rattle.std.specs.List.{AllZip}
use Rattle.journal_explain.specs.declared.call_name.CallName.{CallName}
use Rattle.journal_explain.specs.declared.trail.Trail.{Trail}

-- the first so many of them went on, and the others are as they were
abbrev pub GoneTo : (Trail → Trail → Type 0) → ℕ → List Trail → List Trail → Type 0
GoneTo Goes zero olds news = news ≡ olds
GoneTo Goes (suc i) [] news = ⊥
GoneTo Goes (suc i) (old ∷ olds) [] = ⊥
GoneTo Goes (suc i) (old ∷ olds) (new ∷ news) = Goes old new × GoneTo Goes i olds news

module _ (Goes : Trail → Trail → Type 0) where
  next : (i : ℕ) (olds news : List Trail) (d x : Trail) → i < length news → GoneTo Goes i olds news → Goes (slice_index_or news i d) x
      → GoneTo Goes (suc i) olds (slice_set news i x)
  next zero [] [] d x low so_far goes = absurd (omega (arith, low))
  next zero [] (new ∷ news) d x low so_far goes = absurd (let f : new ∷ news ≡ [] = so_far in cc)
  next zero (old ∷ olds) [] d x low so_far goes = absurd (omega (arith, low))
  next zero (old ∷ olds) (new ∷ news) d x low so_far goes =
      let same : new ∷ news ≡ old ∷ olds = so_far in
      let here : new ≡ old = cc in
      let others : news ≡ olds = cc in
      (subst (λ (t : Trail). Goes t x) here goes, others)
  next (suc i) [] news d x low so_far goes = absurd so_far
  next (suc i) (old ∷ olds) [] d x low so_far goes = absurd so_far
  next (suc i) (old ∷ olds) (new ∷ news) d x low so_far goes = (so_far.0, next i olds news d x (omega (arith, low)) so_far.1 goes)

  pub gone_one : (i : ℕ) (olds news : List Trail) (d x : Trail) → i < length news → GoneTo Goes i olds news → Goes (slice_index_or news i d) x
      → GoneTo Goes (i + 1) olds (slice_set news i x)
  gone_one i olds news d x low so_far goes =
      let one : suc i ≡ i + 1 = omega arith in
      subst (λ (k : ℕ). GoneTo Goes k olds (slice_set news i x)) one (next i olds news d x low so_far goes)

  pub gone_all : (i : ℕ) (olds news : List Trail) → length news ≤ i → GoneTo Goes i olds news → AllZip Goes olds news
  gone_all zero [] [] high so_far = tt
  gone_all zero (old ∷ olds) [] high so_far = absurd (let f : [] ≡ old ∷ olds = so_far in cc)
  gone_all zero olds (new ∷ news) high so_far = absurd (omega (arith, high))
  gone_all (suc i) [] news high so_far = absurd so_far
  gone_all (suc i) (old ∷ olds) [] high so_far = absurd so_far
  gone_all (suc i) (old ∷ olds) (new ∷ news) high so_far = (so_far.0, gone_all i olds news (omega (arith, high)) so_far.1)

  gone_length : (i : ℕ) (olds news : List Trail) → GoneTo Goes i olds news → length news ≡ length olds
  gone_length zero olds news so_far = ap length so_far
  gone_length (suc i) [] news so_far = absurd so_far
  gone_length (suc i) (old ∷ olds) [] so_far = absurd so_far
  gone_length (suc i) (old ∷ olds) (new ∷ news) so_far = ap suc (gone_length i olds news so_far.1)

  -- the list is as long as before
  pub gone_whole : (i : ℕ) (olds news : List Trail) (n : ℕ) → length news ≤ i → length olds ≡ n → GoneTo Goes i olds news
      → AllZip Goes olds (take n (news ++ drop (length news) olds))
  gone_whole i olds news n high long so_far =
      let same : length news ≡ length olds = gone_length i olds news so_far in
      let none : drop (length news) olds ≡ [] = drop_all (length news) olds (omega (arith, same)) in
      let all : take n (news ++ drop (length news) olds) ≡ news =
      ap (λ (rest : List Trail). take n (news ++ rest)) none
      ∙ (ap (take n) (append-nil news) ∙ take_all n news (omega (arith, same, long))) in
      subst (λ (ts : List Trail). AllZip Goes olds ts) (sym all) (gone_all i olds news high so_far)

-- they keep their names
pub named_still : (Goes : Trail → Trail → Type 0) → ((old new : Trail) → Goes old new → new.name ≡ old.name) → (olds news : List Trail)
    → AllZip Goes olds news → map (λ (t : Trail). t.name) news ≡ map (λ (t : Trail). t.name) olds
named_still Goes keeps [] [] go = refl
named_still Goes keeps [] (new ∷ news) go = absurd go
named_still Goes keeps (old ∷ olds) [] go = absurd go
named_still Goes keeps (old ∷ olds) (new ∷ news) go =
    ap₂ (λ (n : CallName) (ns : List CallName). n ∷ ns) (keeps old new go.0) (named_still Goes keeps olds news go.1)
