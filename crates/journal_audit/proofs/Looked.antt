-- What an onlooker knows, entry by entry.
use Rattle.std.proofs.Common.{◌≡◌, ℕ, ◌==◌, ◌||◌, Bool, true, false, List, [], ◌∷◌, ◌++◌, is_some, Option, Some, refl, sym, ap, ◌∙◌, subst, eq-eqb}
use Rattle.std.proofs.lemmas.Bool.{eqb-true}
use Rattle.poa_base.specs.declared.Call.{Call}
use Rattle.poa_base.specs.declared.Entry.{Entry}
use Rattle.poa_base.specs.declared.Entry.TheVariants.{Arrive, Collect, Filled}
use Rattle.poa_base.specs.declared.Head.{Head}
use Rattle.poa_base.specs.declared.Reply.{Reply}
use Rattle.history_standing.specs.Arrivals.{call_of}
use Rattle.poa_history.specs.Heads.{head_of}
use Rattle.poa_history.specs.Life.{Life, givens_of, opened, with_entry}
use Rattle.poa_history.specs.Replies.{reply_of}
use Rattle.poa_history.specs.declared.Givens.{Givens}
use Rattle.core_outboxes.specs.Decided.{IsFiled}
use Rattle.core_outboxes.specs.declared.filed.Filed.{Filed}
use Rattle.session_laws.specs.Calls.{IsGivenTo}
use Rattle.session_laws.specs.Hearing.{AreSaid, Heard}
use Rattle.session_laws.specs.Records.{arrived_by, filling_by, has_line_by, is_line, joined_by, reply_told, told, told_or_nothing}
use Rattle.session_laws.specs.declared.peer.Peer.{Peer}
use Rattle.session_laws.specs.declared.peer.Peer.TheVariants.{Client, Administrator}
use Rattle.session_laws.proofs.Calls.{some_given}
use Rattle.session_laws.proofs.Own.{arrived_own, filling_own, joined_own}
use Rattle.session_laws.proofs.Said.{next_on, said_arrived}
use Rattle.journal_audit.specs.Judging.{IsReply}
use Rattle.journal_audit.specs.Listening.{HearsCall, HearsRest, Listening, Listens, MayBegin, Writes, WritesMore, Writing}
use Rattle.journal_audit.specs.Looking.{IsGivenIn, Looks, Sees, SeesBy, hears_any, is_given_to}
use Rattle.journal_audit.specs.declared.onlooker.Onlooker.{Onlooker}

-- whether the connection's calls, or its replies, are changed by the entry
abbrev pub concerns : ℕ → Entry → Bool
concerns c (Arrive conn size call) = conn == c
concerns c (Filled conn size) = conn == c
concerns c (Collect conn a) = conn == c
concerns c e = false

module _ (c : ℕ) (past : List Entry) where
  arrived_still : (e : Entry) → concerns c e ≡ false → arrived_by (e ∷ past) c ≡ arrived_by past c
  arrived_still (Arrive conn size call) other = rw other refl
  arrived_still e other = refl

  line_still : (e : Entry) → concerns c e ≡ false → has_line_by (e ∷ past) c ≡ has_line_by past c
  line_still (Arrive conn size call) other = rw other refl
  line_still e other = refl

  filling_still : (e : Entry) → concerns c e ≡ false → filling_by (e ∷ past) c ≡ filling_by past c
  filling_still (Filled conn size) other = rw other refl
  filling_still e other = refl

  joined_still : (g : Givens) (e : Entry) → concerns c e ≡ false → joined_by g (e ∷ past) c ≡ joined_by g past c
  joined_still g (Collect conn a) other = rw other refl
  joined_still g e other = refl

  line_own : (size : ℕ) (call : Call) → has_line_by (Arrive c size call ∷ past) c ≡ (is_line call || has_line_by past c)
  line_own size call = rw (eq-eqb c c refl) refl

pub or_right : (a b : Bool) → b ≡ true → (a || b) ≡ true
or_right true b is = refl
or_right false b is = is

-- one of two holds, where one did that follows from it
any_before : (a b x y : Bool) → (x ≡ true → a ≡ true) → (y ≡ true → b ≡ true) → (x || y) ≡ true → (a || b) ≡ true
any_before a b true y first second any = ap (λ (z : Bool). z || b) (first refl)
any_before a b false y first second any = or_right a b (second any)

-- who listens hears the same
same_listened : (peer : Peer) (input : List ℕ) (some calls : List Heard) (l : Listening) → calls ≡ some → Listens peer input some l → Listens peer input calls l
same_listened peer input some calls l same is = subst (λ (cs : List Heard). Listens peer input cs l) (sym same) is

module _ (life : Life) (o : Onlooker) (looks : Looks life o) where
  -- an entry comes that changes nothing of the connection
  pub looks_still : (e : Entry) → concerns o.link.conn e ≡ false → Looks (with_entry e life) o
  looks_still e other =
      let c = o.link.conn in
      let past = life.history in record {
        client = same_listened Client o.link.input _ _ o.client (arrived_still c past e other) looks.client;
        administrator = same_listened Administrator o.link.input _ _ o.administrator (arrived_still c past e other) looks.administrator;
        line = looks.line ∙ sym (line_still c past e other);
        filled = looks.filled ∙ ap is_some (sym (filling_still c past e other));
        written = λ hears. subst (λ (replies : List ℕ). Writes o.link.output replies o.written) (sym (joined_still c past (givens_of life) e other))
            (looks.written hears);
      }

  -- a call of the connection fills the run
  pub looks_filled : (size : ℕ) (p : Onlooker) → p ≡ record o { was_filled = true } → Looks (with_entry (Filled o.link.conn size) life) p
  looks_filled size p is =
      let c = o.link.conn in
      subst (Looks (with_entry (Filled c size) life)) (sym is) (record {
        client = looks.client;
        administrator = looks.administrator;
        line = looks.line;
        filled = sym (ap is_some (filling_own c life.history size));
        written = looks.written;
      })

  -- what is said arrived, as long as the calls fit
  said_by : (peer : Peer) (input : List ℕ) (calls : List Heard) (l : Listening) (fits : Bool) → l.fits ≡ fits → fits ≡ true → Listens peer input calls l
      → AreSaid calls
  said_by peer input calls l true is fits listens =
      (let begins = subst (λ (b : Bool). MayBegin peer input calls (HearsRest l) b) is listens in begins.said)
  said_by peer input calls l false is fits listens = absurd (let e : false ≡ true = fits in cc)

  said_any : (a b : Bool) → o.client.fits ≡ a → o.administrator.fits ≡ b → (a || b) ≡ true → AreSaid (arrived_by life.history o.link.conn)
  said_any true b client administrator any =
      said_by Client o.link.input (arrived_by life.history o.link.conn) o.client true client refl looks.client
  said_any false b client administrator any =
      said_by Administrator o.link.input (arrived_by life.history o.link.conn) o.administrator b administrator any looks.administrator

  -- so the reply that the connection is given can be written
  pub reply_is_given : (conn a : ℕ) (f : Filed) → (conn == o.link.conn) ≡ true → IsReply life conn a f → IsGivenIn o f
  reply_is_given conn a f own it any =
      let said = said_any o.client.fits o.administrator.fits refl refl any in
      let on = next_on life.config life.run life.history conn a it.due in
      let here = on ∙ ap (λ (n : ℕ). Some n) (eqb-true conn o.link.conn own) in
      let head_is : head_of (call_of life.history a) ≡ f.head = ap (λ (r : ℕ). head_of (call_of life.history r)) (sym it.named) ∙ it.filed.head in
      subst (λ (head : Head). IsGivenTo head f.reply) head_is
      (some_given (call_of life.history a) f.reply (λ call there. said_arrived o.link.conn life.history said a call here there) it.fits)

  filed_told : (f : Filed) → IsFiled life.config life.run (opened life) life.history f
      → reply_told (givens_of life) life.history f.arrival ≡ told f.head f.reply
  filed_told f it =
      ap (λ (head : Head). told_or_nothing head (reply_of life.config life.run (opened life) life.history f.arrival)) it.head
      ∙ ap (λ (reply : Option Reply). told_or_nothing f.head reply) it.reply

  -- the connection is given a reply
  pub looks_given : (f : Filed) (p : Onlooker) (w : Writing) → p ≡ record o { written = w } → IsFiled life.config life.run (opened life) life.history f
      → (hears_any o ≡ true → WritesMore (told f.head f.reply) o.written w)
      → Looks (with_entry (Collect o.link.conn f.arrival) life) p
  looks_given f p w is it more =
      let c = o.link.conn in
      let g = givens_of life in
      subst (Looks (with_entry (Collect c f.arrival) life)) (sym is) (record {
        client = looks.client;
        administrator = looks.administrator;
        line = looks.line;
        filled = looks.filled;
        written = λ any. subst (λ (replies : List ℕ). Writes o.link.output replies w)
            (sym (joined_own c life.history g f.arrival ∙ ap (λ (bytes : List ℕ). joined_by g life.history c ++ bytes) (filed_told f it)))
            (more any o.link.output (joined_by g life.history c) (looks.written any));
      })

  -- a call of the connection arrives
  pub looks_arrived : (size : ℕ) (call : Call) (x y : Listening) (p : Onlooker)
      → p ≡ record o { client = x; administrator = y; had_line = is_line call || o.had_line }
      → HearsCall call size o.client x → HearsCall call size o.administrator y
      → (x.fits ≡ true → o.client.fits ≡ true) → (y.fits ≡ true → o.administrator.fits ≡ true)
      → Looks (with_entry (Arrive o.link.conn size call) life) p
  looks_arrived size call x y p is first second before_first before_second =
      let c = o.link.conn in
      let past = life.history in
      let input = o.link.input in
      subst (Looks (with_entry (Arrive c size call) life)) (sym is) (record {
        client = same_listened Client input _ _ x (arrived_own c past size call) (first Client input (arrived_by past c) looks.client);
        administrator =
            same_listened Administrator input _ _ y (arrived_own c past size call) (second Administrator input (arrived_by past c) looks.administrator);
        line = ap (λ (b : Bool). is_line call || b) looks.line ∙ sym (line_own c past size call);
        filled = looks.filled;
        written = λ any. looks.written (any_before o.client.fits o.administrator.fits x.fits y.fits before_first before_second any);
      })

-- no entry was seen
pub looks_none : (life : Life) (o : Onlooker) → life.history ≡ [] → Listens Client o.link.input [] o.client
    → Listens Administrator o.link.input [] o.administrator → o.had_line ≡ false → o.was_filled ≡ false → Writes o.link.output [] o.written
    → Looks life o
looks_none life o none client administrator line filled written =
    let c = o.link.conn in record {
      client = same_listened Client o.link.input _ _ o.client (ap (λ (h : List Entry). arrived_by h c) none) client;
      administrator = same_listened Administrator o.link.input _ _ o.administrator (ap (λ (h : List Entry). arrived_by h c) none) administrator;
      line = line ∙ sym (ap (λ (h : List Entry). has_line_by h c) none);
      filled = filled ∙ sym (ap (λ (h : List Entry). is_some (filling_by h c)) none);
      written = λ any. subst (λ (replies : List ℕ). Writes o.link.output replies o.written)
          (sym (ap (λ (h : List Entry). joined_by (givens_of life) h c) none)) written;
    }

-- an entry comes that changes nothing
pub sees_still : (e : Entry) (o : Onlooker) → (is_given_to o.link.conn e ≡ false → concerns o.link.conn e ≡ false) → Sees e o o
sees_still e o other = by_given (is_given_to o.link.conn e) refl
  where
    by_given : (b : Bool) → is_given_to o.link.conn e ≡ b → SeesBy b e o o
    by_given true is = refl
    by_given false is = λ life looks. looks_still life o looks e (other is)

-- of one that is no call and fills nothing, where it gives the connection no reply
pub still_concerns : (e : Entry) (c : ℕ) → ((conn size : ℕ) (call : Call) → e ≡ Arrive conn size call → ⊥) → ((conn size : ℕ) → e ≡ Filled conn size → ⊥)
    → is_given_to c e ≡ false → concerns c e ≡ false
still_concerns (Arrive conn size call) c arrives fills other = absurd (arrives conn size call refl)
still_concerns (Filled conn size) c arrives fills other = absurd (fills conn size refl)
still_concerns (Collect conn a) c arrives fills other = other
still_concerns e c arrives fills other = refl

-- a call of the connection fills the run
pub sees_filled : (conn size : ℕ) (o : Onlooker) → conn ≡ o.link.conn → Sees (Filled conn size) o (record o { was_filled = true })
sees_filled conn size o same life looks =
    subst (λ (n : ℕ). Looks (with_entry (Filled n size) life) (record o { was_filled = true })) (sym same)
    (looks_filled life o looks size (record o { was_filled = true }) refl)
