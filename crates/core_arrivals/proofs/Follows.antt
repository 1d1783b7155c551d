-- The tally after an entry.
use Rattle.std.proofs.Common.{◌≡◌, ℕ, ◌+◌, ◌-◌, ◌^◌, ◌<◌, suc, min, Bool, true, false, not, ◌||◌, ◌==◌, if◌then◌else◌, List, [], ◌∷◌, ◌++◌, length, Option, Some, None, option_map, is_some, is_none, refl, sym, ap, subst, ◌∙◌, arith, slice_set}
use Rattle.std.proofs.lemmas.List.{length-append, length-set}
use Rattle.poa_base.specs.declared.Entry.{Entry}
use Rattle.poa_base.specs.declared.Entry.TheVariants.{Entered, Left}
use Rattle.history_standing.specs.Arrivals.{connections}
use Rattle.poa_history.specs.Legal.{IsOpen, is_filled, has_left}
use Rattle.core_arrivals.specs.declared.tally.Tally.{Tally}
use Rattle.poa_history.specs.declared.full.Full.{Full}
use Rattle.core_arrivals.specs.Tallies.{TallyAgrees, flag_of}
use Rattle.core_arrivals.proofs.Bounds.{filled_is}
use Rattle.core_arrivals.proofs.Flags.{flag_more, flag_set, flag_past}
use Rattle.core_arrivals.proofs.Staying.{staying_more, staying_less}

-- all but the connections is as it was
pub record IsSameBut (t u : Tally) : Type 0 where
  pub calls : u.arrivals ≡ t.arrivals
  pub sizes : u.bytes ≡ t.bytes
  pub full : u.filled ≡ t.filled
  pub order : u.ordered ≡ t.ordered
  pub end : u.shut ≡ t.shut
  pub gave : u.given_up ≡ t.given_up

abbrev full_pair : Option Full → Option (ℕ × ℕ)
full_pair o = option_map (λ f. (f.arrivals, f.bytes)) o

-- a connection that doesn't stand among the flags hasn't left
unmarked : (past : List Entry) (t : Tally) (conn : ℕ) → conn ≡ connections past → TallyAgrees past t → has_left past conn ≡ false
unmarked past t conn next is =
    let len = is.entered in
    sym (is.leavers conn) ∙ flag_past t.left.items conn (omega (arith, next, len))

pub entered_is : (past : List Entry) (t u : Tally) (conn : ℕ) → conn ≡ connections past → conn < 4000000 → IsSameBut t u
    → u.left.items ≡ t.left.items ++ false ∷ [] → u.staying ≡ (if conn == 0 then t.staying else min (t.staying + 1) (2 ^ 64 - 1))
    → TallyAgrees past t → TallyAgrees (Entered conn ∷ past) u
entered_is past t u conn next few same left staying_is is =
    record {
      entered = ap length left ∙ length-append t.left.items (false ∷ []) ∙ one_more (length t.left.items) (connections past) is.entered;
      leavers = λ k. ap (λ fs. flag_of fs k) left ∙ flag_more t.left.items k ∙ is.leavers k;
      stayers = staying_is ∙ staying_more past conn t.staying next few (unmarked past t conn next is) is.stayers;
      calls = same.calls ∙ is.calls;
      sizes = same.sizes ∙ is.sizes;
      full = ap full_pair same.full ∙ is.full;
      order = same.order ∙ is.order;
      end = same.end ∙ is.end;
      gave = same.gave ∙ is.gave;
    }
  where
    one_more : (a b : ℕ) → a ≡ b → a + 1 ≡ suc b
    one_more a b e = omega (arith, e)

pub left_is : (past : List Entry) (t u : Tally) (conn : ℕ) → IsOpen past conn → IsSameBut t u
    → (conn < length t.left.items → u.left.items ≡ slice_set t.left.items conn true) → u.staying ≡ (if conn == 0 then t.staying else t.staying - 1)
    → TallyAgrees past t → TallyAgrees (Left conn ∷ past) u
left_is past t u conn open_ same marked staying_is is =
    let below : conn < length t.left.items = subst (λ n. conn < n) (sym is.entered) open_.entered in
    let left : u.left.items ≡ slice_set t.left.items conn true = marked below in
    record {
      entered = ap length left ∙ length-set t.left.items conn true ∙ is.entered;
      leavers = λ k. ap (λ fs. flag_of fs k) left ∙ flag_set t.left.items conn k below ∙ ap (λ b. (conn == k) || b) (is.leavers k);
      stayers = staying_is ∙ staying_less past conn t.staying open_.entered open_.staying is.stayers;
      calls = same.calls ∙ is.calls;
      sizes = same.sizes ∙ is.sizes;
      full = ap full_pair same.full ∙ is.full;
      order = same.order ∙ is.order;
      end = same.end ∙ is.end;
      gave = same.gave ∙ is.gave;
    }

-- the run was never filled
pub unfilled_is : (h : List Entry) (t : Tally) → TallyAgrees h t → is_none t.filled ≡ not (is_filled h)
unfilled_is h t is = none_mapped t.filled ∙ ap is_none is.full ∙ filled_is h
  where
    none_mapped : (o : Option Full) → is_none o ≡ is_none (full_pair o)
    none_mapped None = refl
    none_mapped (Some f) = refl

pub told_none : (o : Option Full) (told b : Bool) → is_some o ≡ not told → is_none o ≡ b → told ≡ b
told_none o told b some none = twice told ∙ sym (ap not some) ∙ none
  where
    twice : (x : Bool) → x ≡ not (not x)
    twice true = refl
    twice false = refl
