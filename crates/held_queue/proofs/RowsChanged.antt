-- Rows of which one is changed, or to which one is added.
use Rattle.std.specs.Prelude.{◌≡◌, ℕ, zero, suc, ◌<◌, ◌≤◌, Bool, true, false, ◌||◌, if◌then◌else◌, List, [], ◌∷◌, ◌++◌, length, map, slice_index_or, slice_set, ◌⊎◌, refl}
use Rattle.std.proofs.Common.{inl, inr, sym, subst, ap, ap₂, ◌∙◌, arith}
use Rattle.std.proofs.lemmas.Bool.{cond_both, cases_Bool, or_cases, or_left, or_right, true≢false, cases_lt}
use Rattle.poa_base.specs.declared.Config.{Config}
use Rattle.poa_base.specs.declared.Entry.{Entry}
use Rattle.history_standing.specs.declared.flight.Flight.{Flight}
use Rattle.history_standing.specs.Arrivals.{arrivals}
use Rattle.history_standing.specs.Changes.{standing}
use Rattle.history_standing.specs.Situations.{facts_of}
use Rattle.history_standing.specs.Standings.{is_running}
use Rattle.history_standing.specs.Trees.{In}
use Rattle.history_standing.proofs.Members.{in_either}
use Rattle.held_queue.specs.Blocks.{Blocks, TakesTurn}
use Rattle.held_queue.specs.declared.hold.Hold.{Hold}
use Rattle.held_queue.specs.declared.hold.Hold.TheVariants.{Turn as HeldTurn}
use Rattle.held_queue.specs.Held.{IsGripped, IsRow, RowsAgree, AreSettled}
use Rattle.held_queue.specs.Numbers.{Heap, has, IsLeast}
use Rattle.held_queue.specs.Rows.{in_rows, settled_grip, regripped, is_empty_row, GoesOver, IsSettledRow}
use Rattle.poa_history.specs.Waiting.{is_waiting}
use Rattle.held_queue.specs.declared.grip.Grip.{Grip}
use Rattle.held_queue.specs.declared.grip.Grip.TheVariants.{Held, Turn, Loose}
use Rattle.held_queue.specs.declared.row.Row.{Row}

-- a call that was in a row is in it still, or the changed row had it
set_other : (rows : List Row) (i : ℕ) (d y : Row) (r : ℕ) → i < length rows → in_rows rows r ≡ true → (has (slice_index_or rows i d).calls.heap r ≡ true)
    ⊎ (in_rows (slice_set rows i y) r ≡ true)
set_other [] i d y r low is = absurd (omega (arith, low))
set_other (x ∷ rows) zero d y r low is =
    elim (or_cases (has x.calls.heap r) (in_rows rows r) is) [ inl here ↦ inl here | inr more ↦ inr (or_right (has y.calls.heap r) (in_rows rows r) more) ]
set_other (x ∷ rows) (suc i) d y r low is =
    elim (or_cases (has x.calls.heap r) (in_rows rows r) is) [
      | inl here ↦ inr (or_left (has x.calls.heap r) (in_rows (slice_set rows i y) r) here)
      | inr more ↦
          elim (set_other rows i d y r (omega (arith, low)) more)
          [ inl at ↦ inl at | inr rest ↦ inr (or_right (has x.calls.heap r) (in_rows (slice_set rows i y) r) rest) ]
    ]

set_here : (rows : List Row) (i : ℕ) (y : Row) (r : ℕ) → i < length rows → has y.calls.heap r ≡ true → in_rows (slice_set rows i y) r ≡ true
set_here [] i y r low is = absurd (omega (arith, low))
set_here (x ∷ rows) zero y r low is = or_left (has y.calls.heap r) (in_rows rows r) is
set_here (x ∷ rows) (suc i) y r low is = or_right (has x.calls.heap r) (in_rows (slice_set rows i y) r) (set_here rows i y r (omega (arith, low)) is)

in_set : (rows : List Row) (i : ℕ) (x y : Row) → In x (slice_set rows i y) → In x rows ⊎ (x ≡ y)
in_set [] i x y is = absurd is
in_set (z ∷ rows) zero x y (inl same) = inr same
in_set (z ∷ rows) zero x y (inr more) = inl (inr more)
in_set (z ∷ rows) (suc i) x y (inl same) = inl (inl same)
in_set (z ∷ rows) (suc i) x y (inr more) = elim (in_set rows i x y more) [ inl was ↦ inl (inr was) | inr same ↦ inr same ]

pub got_in : (rows : List Row) (i : ℕ) (d : Row) → i < length rows → In (slice_index_or rows i d) rows
got_in [] i d low = absurd (omega (arith, low))
got_in (x ∷ rows) zero d low = inl refl
got_in (x ∷ rows) (suc i) d low = inr (got_in rows i d (omega (arith, low)))

pub in_got : (rows : List Row) (row d : Row) → In row rows → (i : ℕ) × (i < length rows) × (slice_index_or rows i d ≡ row)
in_got [] row d is = absurd is
in_got (x ∷ rows) row d (inl same) = (zero, omega arith, sym same)
in_got (x ∷ rows) row d (inr more) = (let found = in_got rows row d more in (suc found.0, (let low = found.1 in omega (arith, low)), found.2))

module _ (c : Config) (run : ℕ) (h : List Entry) where
  -- calls go between those that are ready and one row
  pub known_set : (ready ready' : Heap) (rows : List Row) (i : ℕ) (d y : Row) → i < length rows
      → ((r : ℕ) → has ready r ≡ true → (has ready' r ≡ true) ⊎ (has y.calls.heap r ≡ true))
      → ((r : ℕ) → has (slice_index_or rows i d).calls.heap r ≡ true → (has ready' r ≡ true) ⊎ (has y.calls.heap r ≡ true))
      → IsRow c run h y → RowsAgree c run h ready rows → RowsAgree c run h ready' (slice_set rows i y)
  known_set ready ready' rows i d y low from_ready from_row row known = record {
    covered = λ r less waits. elim (or_cases (has ready r) (in_rows rows r) (known.covered r less waits)) [
      | inl is ↦ either r (from_ready r is)
      | inr is ↦
          elim (set_other rows i d y r low is)
          [ inl here ↦ either r (from_row r here) | inr other ↦ or_right (has ready' r) (in_rows (slice_set rows i y) r) other ]
    ];
    held = λ x is. elim (in_set rows i x y is) [ inl was ↦ known.held x was | inr same ↦ subst (λ z. IsRow c run h z) (sym same) row ];
  }
    where
      either : (r : ℕ) → (has ready' r ≡ true) ⊎ (has y.calls.heap r ≡ true) → (has ready' r || in_rows (slice_set rows i y) r) ≡ true
      either r (inl is) = or_left (has ready' r) (in_rows (slice_set rows i y) r) is
      either r (inr is) = or_right (has ready' r) (in_rows (slice_set rows i y) r) (set_here rows i y r low is)

  -- where the turn is taken, each that takes its turn is held
  settled_gripped : (r : ℕ) (grip : Grip) → IsGripped c run h r grip → IsGripped c run h r (settled_grip (standing c run h).flights grip)
  settled_gripped r (Held hold) is = is
  settled_gripped r Loose is = is
  settled_gripped r (Turn k) takes =
      cond_both (is_running (standing c run h).flights k) (Held (HeldTurn k)) (Turn k) (λ g. IsGripped c run h r g)
      (λ running. (takes, ap (is_running (standing c run h).flights) takes.numbered ∙ running)) (λ _. takes)

  -- the first call of a row is made ready
  pub known_settled : (flights : List Flight) → flights ≡ (standing c run h).flights → (ready ready' : Heap) (rows : List Row) (i : ℕ) (d y : Row)
      → i < length rows
      → y.grip ≡ settled_grip flights (slice_index_or rows i d).grip → GoesOver (slice_index_or rows i d).calls.heap y.calls.heap ready ready'
      → RowsAgree c run h ready rows → RowsAgree c run h ready' (slice_set rows i y)
  known_settled flights same ready ready' rows i d y low grip goes known =
      known_set ready ready' rows i d y low (λ r is. inl (goes.more r is)) (λ r is. elim (goes.all r is) [ inl stays ↦ inr stays | inr went ↦ inl went ])
      (λ r is. (let was = known.held (slice_index_or rows i d) (got_in rows i d low) r (goes.fewer r is) in (
        was.0,
        subst (λ g. IsGripped c run h r g) (sym (grip
            ∙ ap (λ fs. settled_grip fs (slice_index_or rows i d).grip) same)) (settled_gripped r (slice_index_or rows i d).grip was.1),
      ))) known

  -- the least that is ready is put into the row of what holds it
  pub known_put : (ready ready' : Heap) (rows : List Row) (i : ℕ) (d y : Row) (arrival : ℕ) (hold : Hold) → i < length rows
      → y.grip ≡ (slice_index_or rows i d).grip → (slice_index_or rows i d).grip ≡ Held hold
      → GoesOver ready ready' (slice_index_or rows i d).calls.heap y.calls.heap → IsLeast ready arrival → arrival < arrivals h
      → Blocks (facts_of c run h arrival) hold
      → RowsAgree c run h ready rows → RowsAgree c run h ready' (slice_set rows i y)
  known_put ready ready' rows i d y arrival hold low grip held goes least less blocks known =
      known_set ready ready' rows i d y low goes.all (λ r is. inr (goes.more r is))
      (λ r is. subst (λ g. (r < arrivals h) × IsGripped c run h r g) (sym grip) (elim (goes.comes r is) [
        | inl was ↦ known.held (slice_index_or rows i d) (got_in rows i d low) r was
        | inr comes ↦ (let one = least.1 r comes.0 in let other = comes.1 arrival least.0 in let same : arrival ≡ r = omega (arith, one, other) in
            subst (λ x. (x < arrivals h) × IsGripped c run h x (slice_index_or rows i d).grip) same
            (less, subst (λ g. IsGripped c run h arrival g) (sym held) blocks))
      ])) known

  -- a row without calls is held otherwise, or comes to the others
  regripped_rows : (rows : List Row) (i : ℕ) (grip : Grip) (r : ℕ) → in_rows (regripped i grip rows) r ≡ in_rows rows r
  regripped_rows [] i grip r = refl
  regripped_rows (x ∷ rows) zero grip r = refl
  regripped_rows (x ∷ rows) (suc i) grip r = ap (λ b. has x.calls.heap r || b) (regripped_rows rows i grip r)

  in_regripped : (rows : List Row) (i : ℕ) (grip : Grip) (row : Row) → ((d : Row) → is_empty_row (slice_index_or rows i d)) → In row (regripped i grip rows)
      → In row rows ⊎ is_empty_row row
  in_regripped [] i grip row none is = absurd is
  in_regripped (x ∷ rows) zero grip row none (inl same) = inr (λ r. ap (λ z. has z.calls.heap r) same ∙ none x r)
  in_regripped (x ∷ rows) zero grip row none (inr more) = inl (inr more)
  in_regripped (x ∷ rows) (suc i) grip row none (inl same) = inl (inl same)
  in_regripped (x ∷ rows) (suc i) grip row none (inr more) = elim (in_regripped rows i grip row none more) [ inl was ↦ inl (inr was) | inr empty ↦ inr empty ]

  empty_row : (row : Row) → is_empty_row row → IsRow c run h row
  empty_row row none r is = absurd (true≢false (sym is ∙ none r))

  pub known_regripped : (ready : Heap) (rows : List Row) (i : ℕ) (grip : Grip) → ((d : Row) → is_empty_row (slice_index_or rows i d))
      → RowsAgree c run h ready rows → RowsAgree c run h ready (regripped i grip rows)
  known_regripped ready rows i grip none known = record {
    covered = λ r less waits. ap (λ b. has ready r || b) (regripped_rows rows i grip r) ∙ known.covered r less waits;
    held = λ row is. elim (in_regripped rows i grip row none is) [ inl was ↦ known.held row was | inr empty ↦ empty_row row empty ];
  }

  rows_added : (rows : List Row) (row : Row) (r : ℕ) → in_rows rows r ≡ true → in_rows (rows ++ row ∷ []) r ≡ true
  rows_added [] row r is = absurd (let e : false ≡ true = is in cc)
  rows_added (x ∷ rows) row r is =
      elim (or_cases (has x.calls.heap r) (in_rows rows r) is) [
        | inl here ↦ or_left (has x.calls.heap r) (in_rows (rows ++ row ∷ []) r) here
        | inr more ↦ or_right (has x.calls.heap r) (in_rows (rows ++ row ∷ []) r) (rows_added rows row r more)
      ]

  pub known_added : (ready : Heap) (rows : List Row) (row : Row) → is_empty_row row → RowsAgree c run h ready rows
      → RowsAgree c run h ready (rows ++ row ∷ [])
  known_added ready rows row none known = record {
    covered = λ r less waits. elim (or_cases (has ready r) (in_rows rows r) (known.covered r less waits)) [
      | inl is ↦ or_left (has ready r) (in_rows (rows ++ row ∷ []) r) is
      | inr is ↦ or_right (has ready r) (in_rows (rows ++ row ∷ []) r) (rows_added rows row r is)
    ];
    held = λ x is. elim (in_either x row rows is) [ inl was ↦ known.held x was | inr same ↦ subst (λ z. IsRow c run h z) (sym same) (empty_row row none) ];
  }

-- the row at the place is held so
pub regripped_set : (rows : List Row) (i : ℕ) (grip : Grip) (d : Row) → i < length rows
    → slice_set rows i (record (slice_index_or rows i d) { grip = grip }) ≡ regripped i grip rows
regripped_set [] i grip d low = absurd (omega (arith, low))
regripped_set (x ∷ rows) zero grip d low = refl
regripped_set (x ∷ rows) (suc i) grip d low = ap (λ ys. x ∷ ys) (regripped_set rows i grip d (omega (arith, low)))

pub regripped_past : (rows : List Row) (i : ℕ) (grip : Grip) → length rows ≤ i → rows ≡ regripped i grip rows
regripped_past [] i grip high = refl
regripped_past (x ∷ rows) zero grip high = absurd (omega (arith, high))
regripped_past (x ∷ rows) (suc i) grip high = ap (λ ys. x ∷ ys) (regripped_past rows i grip (omega (arith, high)))

pub regripped_at : (rows : List Row) (i : ℕ) (grip : Grip) → i < length rows → (i < length (regripped i grip rows))
    × ((d : Row) → (slice_index_or (regripped i grip rows) i d).grip ≡ grip)
regripped_at [] i grip low = absurd (omega (arith, low))
regripped_at (x ∷ rows) zero grip low = (omega arith, λ d. refl)
regripped_at (x ∷ rows) (suc i) grip low = (let more = regripped_at rows i grip (omega (arith, low)) in ((let less = more.0 in omega (arith, less)), more.1))

pub set_length : (rows : List Row) (i : ℕ) (y : Row) → length (slice_set rows i y) ≡ length rows
set_length [] i y = refl
set_length (x ∷ rows) zero y = refl
set_length (x ∷ rows) (suc i) y = ap suc (set_length rows i y)

set_same : (rows : List Row) (i : ℕ) (d y : Row) → i < length rows → slice_index_or (slice_set rows i y) i d ≡ y
set_same [] i d y low = absurd (omega (arith, low))
set_same (x ∷ rows) zero d y low = refl
set_same (x ∷ rows) (suc i) d y low = set_same rows i d y (omega (arith, low))

set_apart : (rows : List Row) (i j : ℕ) (d y : Row) → j < i → slice_index_or (slice_set rows i y) j d ≡ slice_index_or rows j d
set_apart [] i j d y less = refl
set_apart (x ∷ rows) zero j d y less = absurd (omega (arith, less))
set_apart (x ∷ rows) (suc i) zero d y less = refl
set_apart (x ∷ rows) (suc i) (suc j) d y less = set_apart rows i j d y (omega (arith, less))

-- a row that is settled stays so where more are ready
ready_more : (w : ℕ) (ready ready' : Heap) (row : Row) → ((r : ℕ) → has ready r ≡ true → has ready' r ≡ true) → IsSettledRow w ready row
    → IsSettledRow w ready' row
ready_more w ready ready' row more (inl unasked) = inl unasked
ready_more w ready ready' row more (inr ahead) = inr (λ r is. (let it = ahead r is in (it.0, more it.0 it.1, it.2)))

pub settled_more : (w : ℕ) (ready ready' : Heap) (rows : List Row) (i : ℕ) (y : Row) → i < length rows → ((r : ℕ) → has ready r ≡ true → has ready' r ≡ true)
    → IsSettledRow w ready' y
    → ((j : ℕ) (d : Row) → j < i → IsSettledRow w ready (slice_index_or rows j d)) → (j : ℕ) (d : Row) → j < suc i
    → IsSettledRow w ready' (slice_index_or (slice_set rows i y) j d)
settled_more w ready ready' rows i y low more here before j d less =
    elim (cases_lt j i) [
      | inl lower ↦
          subst (λ row. IsSettledRow w ready' row) (sym (set_apart rows i j d y lower))
          (ready_more w ready ready' (slice_index_or rows j d) more (before j d lower))
      | inr high ↦
          (let at : i ≡ j = omega (arith, high, less) in
          subst (λ k. IsSettledRow w ready' (slice_index_or (slice_set rows i y) k d)) at
          (subst (λ row. IsSettledRow w ready' row) (sym (set_same rows i d y low)) here))
    ]

pub settled_rows : (w : ℕ) (ready : Heap) (rows : List Row) (n : ℕ) → length rows ≤ n
    → ((j : ℕ) (d : Row) → j < n → IsSettledRow w ready (slice_index_or rows j d)) → AreSettled w ready rows
settled_rows w ready rows n high each row is =
    let found = in_got rows row row is in
    subst (λ x. IsSettledRow w ready x) found.2 (each found.0 row (let low = found.1 in omega (arith, low, high)))
