-- Where positions are closed in a history, they are closed in a longer one.
use Rattle.std.proofs.Common.{◌≡◌, ℕ, ◌<◌, List, length, sym, ap, ◌∙◌, subst, arith}
use Rattle.std.specs.Prelude.{Option}
use Rattle.seat_lock.specs.Histories.{Belongs, In, IsClosed, IsPrefix, entering}
use Rattle.seat_lock.proofs.Histories.{entering_least, entering_stays}
use Rattle.serve_run.proofs.Places.{stood_before}
use Rattle.poa_base.specs.declared.Entry.{Entry}

module _ (owner : Entry → Option ℕ) (short long : List Entry) (p : IsPrefix short long) where
  -- an entering entry that stood stays where it is
  pub entering_same : (c x : ℕ) → Belongs owner short x c → x < length short → entering owner c long ≡ entering owner c short
  entering_same c x b low = (let least = entering_least owner c short x b in ap (entering owner c) p.1 ∙ entering_stays owner c short p.0 (omega arith))

  pub belongs_before : (x c : ℕ) → x < length short → Belongs owner long x c → Belongs owner short x c
  belongs_before x c low b = (b.0, stood_before short long x b.0 p low b.1, b.2)

  pub closed_longer : (mine : List ℕ) → ((x : ℕ) → In x mine → x < length short) → IsClosed owner short mine → IsClosed owner long mine
  closed_longer mine within closed x c there b =
      let before = belongs_before x c (within x there) b in
      subst (λ k. In k mine) (sym (entering_same c x before (within x there))) (closed x c there before)
