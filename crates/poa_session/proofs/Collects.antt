-- The connection is given its replies.
use Rattle.std.proofs.Common.{◌≡◌, ◌<◌, ◌+◌, ℕ, List, [], ◌∷◌, ◌++◌, length, drop, get_or, refl, sym, ap, ap₂, subst, ◌∙◌, append_assoc, append-nil}
use Rattle.std.proofs.lemmas.List.{drop_more}
use Rattle.std.specs.Prelude.{Option, Result, Some, None, Ok, Err}
use Rattle.poa_base.specs.declared.Entry.{Entry}
use Rattle.poa_base.specs.declared.Entry.TheVariants.{Collect}
use Rattle.poa_base.specs.declared.Head.{Head}
use Rattle.poa_base.specs.declared.Reply.{Reply}
use Rattle.poa_history.specs.Replies.{next_reply, owed}
use Rattle.seat_lock.specs.declared.view.View.{View}
use Rattle.poa_history.specs.declared.Givens.{Givens}
use Rattle.poa_core.specs.Answers as answers
use Rattle.poa_history.specs.Life.{Life, life_at, with_entry}
use Rattle.poa_core.specs.declared.Collected.{Collected}
use Rattle.poa_core.specs.declared.Collected.TheVariants as collected
use Rattle.poa_shared.specs.Seen.{Owns, Turns, past}
use Rattle.session_laws.specs.Records.{arrived_by, joined_by, filling_by, reply_told, told, told_or_nothing, IsPaidBy}
use Rattle.session_laws.proofs.Own.{joined_own}
use Rattle.session_laws.proofs.Paying.{paid_when}
use Rattle.std.specs.declared.alloc.AllocError.{AllocError}
use Rattle.poa_session.specs.Growing.{Adds}
use Rattle.poa_session.specs.Giving.{AreGiven, Gives, GivesNext, IsKept, told_all, told_of}
use Rattle.poa_session.specs.Paying.{Gathers}
use Rattle.poa_session.specs.Saying.{IsGiven}
use Rattle.poa_session.proofs.Adding.{adds_both, adds_none, adds_one, adds_same, found_filling}

histories : (x : Life) (y : Life) → y ≡ x → y.history ≡ x.history
histories x y same = ap (λ (l : Life). l.history) same

module _ (g : Givens) (c : ℕ) (v : View Givens Entry) (h : List Entry) (w : View Givens Entry) (turns : Turns g v h w) (owns : Owns v c) where
  -- a reply was given
  pub collects_one : (r : ℕ) (head : Head) (reply : Reply) → answers.Collects c (life_at g h) (collected.Reply r head reply) (life_at g (past w))
      → Adds g c v w [] (told head reply) × (filling_by (past w) c ≡ filling_by (past v) c)
  collects_one r head reply answer =
      let is : past w ≡ Collect c r ∷ h = histories (with_entry (Collect c r) (life_at g h)) (life_at g (past w)) answer.3 in
      let bytes : reply_told g h r ≡ told head reply = ap₂ told_or_nothing (sym answer.1) answer.2 in (
        adds_one g c v h w turns owns (Collect c r) is refl [] (told head reply) (sym (append-nil (arrived_by h c)))
            (joined_own c h g r ∙ ap (λ bs. joined_by g h c ++ bs) bytes) refl,
        ap (λ k. filling_by k c) is ∙ found_filling g c v h w turns owns,
      )

  -- none is decided
  pub collects_none : (owes : ℕ) → answers.Collects c (life_at g h) (collected.Nothing owes) (life_at g (past w))
      → Adds g c v w [] [] × (filling_by (past w) c ≡ filling_by (past v) c) × (owes ≡ 0 → IsPaidBy (past w) c)
  collects_none owes answer =
      let same : past w ≡ h = histories (life_at g h) (life_at g (past w)) answer.2 in (
        adds_none g c v h w turns owns same,
        ap (λ k. filling_by k c) same ∙ found_filling g c v h w turns owns,
        λ nothing. paid_when g.config g.run g.limit (past w) c turns.runs.legal (ap (λ k. next_reply g.config g.run k c) same ∙ answer.0)
            (ap (λ k. owed g.config g.run k c) same ∙ (sym answer.1 ∙ nothing)),
      )

-- one more is told behind the others
told_behind : (more : List Collected) (it : Collected) → told_all (more ++ it ∷ []) ≡ told_all more ++ told_of it
told_behind [] it = append-nil (told_of it)
told_behind (other ∷ more) it = ap (λ bs. told_of other ++ bs) (told_behind more it) ∙ sym (append_assoc (told_of other) (told_all more) (told_of it))

-- and it can be written, where the others can
pub given_behind : (more : List Collected) (it : Collected) → AreGiven more → IsGiven it → AreGiven (more ++ it ∷ [])
given_behind [] it others one = (one, tt)
given_behind (other ∷ more) it others one = (others.0, given_behind more it others.1 one)

-- where those from a place on can be written, the one there can, and so can those behind it
pub given_here : (all : List Collected) (i : ℕ) (it : Collected) → i < length all → it ≡ get_or all i it → AreGiven (drop i all)
    → IsGiven it × AreGiven (drop (i + 1) all)
given_here all i it below is given =
    subst (λ x. IsGiven x × AreGiven (drop (i + 1) all)) (sym is) (subst AreGiven (drop_more all i it below) given)

-- once the one there is told, those behind it are left
pub spelled_here : (all : List Collected) (i : ℕ) (it : Collected) → i < length all → it ≡ get_or all i it
    → (bytes new whole : List ℕ) → new ≡ bytes ++ told_of it → bytes ++ told_all (drop i all) ≡ whole → new ++ told_all (drop (i + 1) all) ≡ whole
spelled_here all i it below is bytes new whole spelled so_far =
    ap (λ b. b ++ told_all (drop (i + 1) all)) spelled ∙ append_assoc bytes (told_of it) (told_all (drop (i + 1) all))
    ∙ ap (λ t. bytes ++ t) (ap (λ x. told_of x ++ told_all (drop (i + 1) all)) is ∙ sym (ap told_all (drop_more all i it below)))
    ∙ so_far

-- the replies that were given so far stand behind those that stood before
pub record GivesOn (g : Givens) (c : ℕ) (v w : View Givens Entry) (old new : List Collected) : Type 0 where
  pub due : List ℕ
  pub adds : Adds g c v w [] due
  pub same : filling_by (past w) c ≡ filling_by (past v) c
  pub more : List Collected
  pub put : new ≡ old ++ more
  pub told_is : due ≡ told_all more

pub gives_none : (g : Givens) (c : ℕ) (v : View Givens Entry) (old : List Collected) → GivesOn g c v v old old
gives_none g c v old = record { due = []; adds = adds_same g c v; same = refl; more = []; put = sym (append-nil old); told_is = refl }

module _ (g : Givens) (c : ℕ) (v w u : View Givens Entry) (old mid : List Collected) (x : GivesOn g c v w old mid) where
  pub gives_one : (it : Collected) (new : List Collected) → Adds g c w u [] (told_of it) × (filling_by (past u) c ≡ filling_by (past w) c)
      → new ≡ mid ++ it ∷ [] → GivesOn g c v u old new
  gives_one it new one put = record {
    due = x.due ++ told_of it;
    adds = adds_both g c v w u [] [] x.due (told_of it) x.adds one.0;
    same = one.1 ∙ x.same;
    more = x.more ++ it ∷ [];
    put = put ∙ (ap (λ cs. cs ++ it ∷ []) x.put ∙ append_assoc old x.more (it ∷ []));
    told_is = ap (λ bs. bs ++ told_of it) x.told_is ∙ sym (told_behind x.more it);
  }

  pub gives_lost : (bytes : List ℕ) (new : List Collected) (fault : AllocError)
      → Adds g c w u [] bytes × (filling_by (past u) c ≡ filling_by (past w) c) → Gives g c v u old new (Err fault)
  gives_lost bytes new fault one =
      record { due = x.due ++ bytes; adds = adds_both g c v w u [] [] x.due bytes x.adds one.0; same = one.1 ∙ x.same; given = tt }

  pub gives_all : (owed : ℕ) (new : List Collected)
      → Adds g c w u [] [] × (filling_by (past u) c ≡ filling_by (past w) c) × (owed ≡ 0 → IsPaidBy (past u) c) → new ≡ mid
      → Gives g c v u old new (Ok owed)
  gives_all owed new done kept = record {
    due = x.due ++ [];
    adds = adds_both g c v w u [] [] x.due [] x.adds done.0;
    same = done.1 ∙ x.same;
    given = ((x.more, kept ∙ x.put, append-nil x.due ∙ x.told_is), done.2);
  }

-- what was collected is kept behind the others
pub next_given : (g : Givens) (c : ℕ) (v : View Givens Entry) (h : List Entry) (w : View Givens Entry) → Turns g v h w → Owns v c
    → (it : Collected) (old new : List Collected) (r : Result (Option ℕ) AllocError)
    → answers.Collects c (life_at g h) it (life_at g (past w)) → IsKept it old new r → GivesNext g c v w old new r
next_given g c v h w turns owns (collected.Reply r head reply) old new (Ok None) answer kept =
    (collected.Reply r head reply, collects_one g c v h w turns owns r head reply answer, kept)
next_given g c v h w turns owns (collected.Reply r head reply) old new (Ok (Some owed)) answer kept = absurd kept
next_given g c v h w turns owns (collected.Reply r head reply) old new (Err fault) answer kept =
    (told head reply, collects_one g c v h w turns owns r head reply answer)
next_given g c v h w turns owns (collected.Nothing owes) old new (Ok None) answer kept = absurd kept
next_given g c v h w turns owns (collected.Nothing owes) old new (Ok (Some owed)) answer kept =
    (let none = collects_none g c v h w turns owns owes answer in ((none.0, none.1, λ nothing. none.2 (sym kept.0 ∙ nothing)), kept.1))
next_given g c v h w turns owns (collected.Nothing owes) old new (Err fault) answer kept = absurd kept

-- the replies that were given are told by these bytes, or there was no memory for that
module _ (g : Givens) (c : ℕ) (v w : View Givens Entry) (old new : List Collected) where
  pub gathers_spelled : (owed : ℕ) → old ≡ [] → Gives g c v w old new (Ok owed) → (before bytes : List ℕ) → before ≡ []
      → bytes ≡ before ++ told_all new → Gathers g c v w bytes (Ok owed)
  gathers_spelled owed none x before bytes fresh spelled = record {
    due = x.due;
    adds = x.adds;
    same = x.same;
    gathered = (
      spelled ∙ (ap (λ bs. bs ++ told_all new) fresh
          ∙ (ap told_all (x.given.0.1 ∙ ap (λ cs. cs ++ x.given.0.0) none) ∙ sym x.given.0.2)),
      x.given.1,
    );
  }

  pub gathers_lost : (r : Result ℕ AllocError) → Gives g c v w old new r → (bytes : List ℕ) (fault : AllocError) → Gathers g c v w bytes (Err fault)
  gathers_lost r x bytes fault = record { due = x.due; adds = x.adds; same = x.same; gathered = tt }
