-- How the player keeps what it knows of connections.
use Rattle.std.proofs.Common.{◌≡◌, ◌≢◌, ℕ, zero, suc, ◌+◌, ◌≤◌, ◌<◌, Bool, true, false, if◌then◌else◌, ◌||◌, not, List, [], ◌∷◌, length, Some, None, Ok, Err, Result, refl, sym, ap, ◌∙◌, subst, slice_get, slice_set, option_map, arith, ◌⊎◌, inl, inr}
use Rattle.std.proofs.lemmas.Bool.Decides.{nat_tests}
use Rattle.poa_base.specs.declared.Call.{Call}
use Rattle.poa_base.specs.declared.Call.TheVariants.{Line}
use Rattle.admin_line.specs.Reading.{command_of_line}
use Rattle.poa_base.specs.declared.Entry.{Entry}
use Rattle.poa_base.specs.declared.Entry.TheVariants.{Arrive, Entered, Filled, Left}
use Rattle.history_standing.specs.Arrivals.{connections}
use Rattle.poa_history.specs.Legal.{has_left, is_filled, IsOpen}
use Rattle.poa_history.specs.Life.{Life, with_entry}
use Rattle.poa_core.specs.Answers.{filled_at, filled_by, is_taken}
use Rattle.session_laws.specs.Calls.{Each, IsSaid}
use Rattle.session_laws.proofs.Calls.{each_more, each_same}
use Rattle.replay_run.specs.declared.channel.Channel.{Channel}
use Rattle.replay_run.specs.declared.line.Line.{Line as LineData}
use Rattle.replay_run.specs.declared.line.Line.TheVariants as line
use Rattle.replay_run.specs.declared.player.Player.{Player}
use Rattle.replay_run.specs.World.{Talk}
use Rattle.replay_run.specs.Lines.{reply_line}
use Rattle.replay_run.specs.Working.{Either, Stays}
use Rattle.replay_run.specs.Calling.{after_call}
use Rattle.replay_run.specs.Reading.{called, with_input, ReadsOn, waits, closes, fails, skips, comes, Feeds, ReadsBytes}
use Rattle.replay_run.specs.Talking.{Commands, TakesLine, is_sized, TalkEnds, Leaves, left, Collects, Talks, numbered}
use Rattle.replay_run.specs.Effects.{numbers, KnowsFilled}
use Rattle.replay_run.specs.Keeping.{Keeps, IsSeated, Meets, knows, enters, refuses, talk}
use Rattle.replay_run.proofs.Same.{Same, Still, Givens, same_givens, same_life, same_then, still_collects}
use Rattle.replay_run.proofs.Arrived.{same_call}

-- what lets no call arrive
pub said_still : (old new : Life) → Still old new → Each IsSaid old.history → Each IsSaid new.history
said_still old new s said = each_same IsSaid old.history new.history s.calls said

-- a call that is said arrives, or the run is full
said_filled : (b : Bool) (conn size : ℕ) (life : Life) → Each IsSaid life.history → Each IsSaid (if b then life else with_entry (Filled conn size) life).history
said_filled true conn size life said = said
said_filled false conn size life said = each_same IsSaid life.history (Filled conn size ∷ life.history) (λ r. refl) said

said_taken : (b : Bool) (conn : ℕ) (call : Call) (size : ℕ) (life : Life) → IsSaid call → Each IsSaid life.history
    → Each IsSaid (if b then with_entry (Arrive conn size call) life else filled_by conn size life).history
said_taken true conn call size life is said = each_more IsSaid conn size call life.history is said
said_taken false conn call size life is said = said_filled (is_filled life.history) conn size life said

said_called : (conn : ℕ) (call : Call) (size : ℕ) (life : Life) → IsSaid call → Each IsSaid life.history → Each IsSaid (after_call conn call size life).history
said_called conn call size life is said = said_taken (is_taken life.limit life.history size call) conn call size life is said

-- what a line of a connection may change: the connection, and whether it has left
pub record Moves (conn : ℕ) (before after : Talk) : Type 0 where
  pub givens : Givens before.life after.life
  pub number : after.channel.number ≡ before.channel.number
  pub entered : connections after.life.history ≡ connections before.life.history
  pub others : (n : ℕ) → n ≢ conn → has_left after.life.history n ≡ has_left before.life.history n
  pub own : after.channel.ended ≡ false → (before.channel.ended ≡ false) × (has_left after.life.history conn ≡ has_left before.life.history conn)
  pub said : Each IsSaid before.life.history → Each IsSaid after.life.history

-- a line by which the connection doesn't leave
pub record Rests (before after : Talk) : Type 0 where
  pub same : Same before.life after.life
  pub number : after.channel.number ≡ before.channel.number
  pub ended : after.channel.ended ≡ before.channel.ended
  pub said : Each IsSaid before.life.history → Each IsSaid after.life.history

rests_talk : (talk : Talk) → Rests talk talk
rests_talk talk = record { same = same_life talk.life; number = refl; ended = refl; said = λ s. s }

rests_then : (a b c : Talk) → Rests a b → Rests b c → Rests a c
rests_then a b c p q =
    record { same = same_then a.life b.life c.life p.same q.same; number = q.number ∙ p.number; ended = q.ended ∙ p.ended; said = λ s. q.said (p.said s) }

rests_at : (a b c : Talk) → c ≡ b → Rests a b → Rests a c
rests_at a b c e r = subst (λ (x : Talk). Rests a x) (sym e) r

pub rests_move : (conn : ℕ) (before after : Talk) → Rests before after → Moves conn before after
rests_move conn before after r = record {
  givens = same_givens before.life after.life r.same;
  number = r.number;
  entered = r.same.entered;
  others = λ n _. r.same.left n;
  own = λ staying. (sym r.ended ∙ staying, r.same.left conn);
  said = r.said;
}

rests_read : (conn : ℕ) (before : Talk) (text : List ℕ) (after : Talk) → ReadsOn conn before text after → Rests before after
rests_read conn before text after (waits b have input hears) = record { same = same_life b.life; number = refl; ended = refl; said = λ s. s }
rests_read conn before text after (closes b input hears) = record { same = same_life b.life; number = refl; ended = refl; said = λ s. s }
rests_read conn before text after (fails b at input hears) = record { same = same_life b.life; number = refl; ended = refl; said = λ s. s }
rests_read conn before text after (skips b last input said hears more) =
    (let r : Rests (with_input input b) last = rests_read conn (with_input input b) said last more in
    record { same = r.same; number = r.number; ended = r.ended; said = r.said })
rests_read conn before text after (comes b last call size input rest hears more) =
    rests_then b (called conn call size (with_input input b)) last
    (record {
      same = same_call conn call size b.life;
      number = refl;
      ended = refl;
      said = said_called conn call size b.life hears.2;
    })
    (rests_read conn (called conn call size (with_input input b)) rest last more)

rests_stay : (before : Talk) (text : List ℕ) (after : Talk) → Stays before text after → Rests before after
rests_stay before text after s = rests_at before before after s.1 (rests_talk before)

rests_fed : (b : Bool) (bytes : List ℕ) (conn : ℕ) (before : Talk) (text : List ℕ) (after : Talk)
    → Either b Stays (ReadsBytes conn bytes) before text after → Rests before after
rests_fed true bytes conn before text after s = rests_stay before text after s
rests_fed false bytes conn before text after f =
    (let r : Rests (with_input f.input before) after = rests_read conn (with_input f.input before) text after f.reads in
    record { same = r.same; number = r.number; ended = r.ended; said = r.said })

rests_commanded : (b : Bool) (words : List ℕ) (conn : ℕ) (before : Talk) (text : List ℕ) (after : Talk)
    → Either b Stays (TakesLine words conn) before text after → Rests before after
rests_commanded true words conn before text after s = rests_stay before text after s
rests_commanded false words conn before text after t = (let call : Call = Line (before.channel.lines + 1) (command_of_line words) in
    let next : Talk = record { life = after_call conn call (length words) before.life; channel = record before.channel { lines = before.channel.lines + 1 } } in
    rests_at before next after t.became
    (record { same = same_call conn call (length words) before.life; number = refl; ended = refl; said = said_called conn call (length words) before.life tt }))

rests_collected : (conn : ℕ) (before : Talk) (text : List ℕ) (after : Talk) → Collects conn before text after → Rests before after
rests_collected conn before text after c =
    rests_at before (record before { life = c.life }) after c.became
    (let still = still_collects (reply_line before.channel.name) conn before.life text c.life c.collects in
    record { same = still.same; number = refl; ended = refl; said = said_still before.life c.life still })

moves_at : (conn : ℕ) (a b c : Talk) → c ≡ b → Moves conn a b → Moves conn a c
moves_at conn a b c e m = subst (λ (x : Talk). Moves conn a x) (sym e) m

left_other : (conn n : ℕ) (past : List Entry) → n ≢ conn → has_left (Left conn ∷ past) n ≡ has_left past n
left_other conn n past other = grind (arith, nat_tests)

moves_ended : (b : Bool) (conn : ℕ) (before : Talk) (text : List ℕ) (after : Talk)
    → Either b Stays (Leaves conn) before text after → Moves conn before after
moves_ended true conn before text after s = rests_move conn before after (rests_stay before text after s)
moves_ended false conn before text after s = moves_at conn before (left conn before) after s.1 (record {
  givens = record { config = refl; run = refl; limit = refl; opening = refl; going = λ w. refl };
  number = refl;
  entered = refl;
  others = λ n other. left_other conn n before.life.history other;
  own = λ staying. absurd (let e : true ≡ false = staying in cc);
  said = λ s. each_same IsSaid before.life.history (left conn before).life.history (λ r. refl) s;
})

pub moves_talked : (l : LineData) (conn : ℕ) (before : Talk) (text : List ℕ) (after : Talk) → Talks l conn before text after → Moves conn before after
moves_talked (line.Bytes bytes) conn before text after f =
    rests_move conn before after (rests_fed (before.channel.dropped || before.channel.ended) bytes.now conn before text after f)
moves_talked (line.Words words) conn before text after t =
    rests_move conn before after (rests_commanded (before.channel.ended || not (is_sized words.now)) words.now conn before text after t)
moves_talked line.End conn before text after e = moves_ended before.channel.ended conn before text after e
moves_talked line.Collect conn before text after c = rests_move conn before after (rests_collected conn before text after c)

pub feeds_givens : (bytes : List ℕ) (conn : ℕ) (before : Talk) (text : List ℕ) (after : Talk) → Feeds bytes conn before text after
    → Givens before.life after.life
feeds_givens bytes conn before text after f =
    same_givens before.life after.life (rests_fed (before.channel.dropped || before.channel.ended) bytes conn before text after f).same

pub commands_givens : (words : List ℕ) (conn : ℕ) (before : Talk) (text : List ℕ) (after : Talk) → Commands words conn before text after
    → Givens before.life after.life
commands_givens words conn before text after t =
    same_givens before.life after.life (rests_commanded (before.channel.ended || not (is_sized words)) words conn before text after t).same

pub ends_givens : (conn : ℕ) (before : Talk) (text : List ℕ) (after : Talk) → TalkEnds conn before text after → Givens before.life after.life
ends_givens conn before text after e = (moves_ended before.channel.ended conn before text after e).givens

pub collects_givens : (conn : ℕ) (before : Talk) (text : List ℕ) (after : Talk) → Collects conn before text after → Givens before.life after.life
collects_givens conn before text after c = same_givens before.life after.life (rests_collected conn before text after c).same

-- an element of a list with one place changed
changed_by : (xs : List Channel) (i : ℕ) (a : Channel) (j : ℕ) (b : Channel) → slice_get (slice_set xs i a) j ≡ Some b → ((j ≡ i) × (b ≡ a))
    ⊎ ((j ≢ i) × (slice_get xs j ≡ Some b))
changed_by [] i a j b is = absurd (let e : None ≡ Some b = is in cc)
changed_by (x ∷ xs) zero a zero b is = inl (refl, (let e : Some a ≡ Some b = is in cc))
changed_by (x ∷ xs) zero a (suc j) b is = inr ((λ e. omega (arith, e)), is)
changed_by (x ∷ xs) (suc i) a zero b is = inr ((λ e. omega (arith, e)), is)
changed_by (x ∷ xs) (suc i) a (suc j) b is =
    elim (changed_by xs i a j b is) [
      | inl p ↦ inl (ap suc p.0, p.1)
      | inr p ↦ inr ((λ e. p.0 (omega (arith, e))), p.1)
    ]

-- a connection of this number to which a line comes, where things stand so
pub record Seat (conn : ℕ) (channels : List Channel) (place : ℕ) (old mid : Player) (channel : Channel) : Type 0 where
  pub number : channel.number ≡ Some conn
  pub more : connections old.core.history ≤ connections mid.core.history
  pub mine : conn < connections mid.core.history
  pub left : (n : ℕ) → has_left mid.core.history n ≡ has_left old.core.history n
  pub own : channel.ended ≡ false → has_left mid.core.history conn ≡ false
  pub other : (i n : ℕ) (a : Channel) → slice_get channels i ≡ Some a → i ≢ place → a.number ≡ Some n → n ≢ conn
  pub filled : KnowsFilled old → KnowsFilled mid
  pub said : Each IsSaid mid.core.history

some_is : (a b : ℕ) → Some a ≡ Some b → a ≡ b
some_is a b e = cc

-- one that entered before
seat_known : (conn : ℕ) (channels : List Channel) (place : ℕ) (old : Player) (channel : Channel) → Keeps old channels → slice_get channels place ≡ Some channel
    → channel.number ≡ Some conn → Seat conn channels place old old channel
seat_known conn channels place old channel k at number =
    let s : IsSeated channel old.core.history = k.seated place channel at in
    record {
      number = number;
      more = omega arith;
      mine = s.entered conn number;
      left = λ n. refl;
      own = s.staying conn number;
      other = λ i n a there away is same. away (k.alone i place n a channel there at is (subst (λ m. channel.number ≡ Some m) (sym same) number));
      filled = λ f. f;
      said = k.said;
    }

-- one that enters
seat_entered : (channels : List Channel) (place : ℕ) (old mid : Player) (channel : Channel) → Keeps old channels → slice_get channels place ≡ Some channel
    → mid.core ≡ with_entry (Entered (connections old.core.history)) old.core → mid.filled ≡ old.filled
    → Seat (connections old.core.history) channels place old mid (numbered (connections old.core.history) channel)
seat_entered channels place old mid channel k at life filled =
    let s : IsSeated channel old.core.history = k.seated place channel at in
    let conn : ℕ = connections old.core.history in
    let same : (n : ℕ) → has_left mid.core.history n ≡ has_left old.core.history n = λ n. ap (λ (l : Life). has_left l.history n) life in
    let count : connections mid.core.history ≡ suc conn = ap (λ (l : Life). connections l.history) life in
    record {
      number = refl;
      more = omega (arith, count);
      mine = omega (arith, count);
      left = same;
      own = λ _. same conn ∙ k.later conn (omega arith);
      other = λ i n a there away is same. (let less : n < conn = (k.seated i a there).entered n is in omega (arith, less, same));
      filled = λ f. ap (λ o. option_map numbers o) filled ∙ f ∙ sym (ap (λ (l : Life). filled_at l.history) life);
      said = subst (λ (l : Life). Each IsSaid l.history) (sym life) (each_same IsSaid old.core.history (Entered conn ∷ old.core.history) (λ r. refl) k.said);
    }

pub seat_met : (conn : ℕ) (channels : List Channel) (place : ℕ) (old mid : Player) (channel met : Channel) → Keeps old channels
    → slice_get channels place ≡ Some channel
    → Meets (Some conn) old mid channel met → Seat conn channels place old mid met
seat_met conn channels place old mid channel met k at (knows n is number new same) =
    let number_is : channel.number ≡ Some conn = number ∙ sym is in
    subst (λ (c : Channel). Seat conn channels place old mid c) (sym same)
    (subst (λ (p : Player). Seat conn channels place old p channel) (sym new) (seat_known conn channels place old channel k at number_is))
seat_met conn channels place old mid channel met k at (enters is none room life silent same) =
    subst (λ (c : Channel). Seat conn channels place old mid c) (sym same)
    (subst (λ (n : ℕ). Seat n channels place old mid (numbered (connections old.core.history) channel)) (sym (some_is conn (connections old.core.history) is))
    (seat_entered channels place old mid channel k at life silent.filled))
seat_met conn channels place old mid channel met k at (refuses is none room life filled told away same) = absurd (let e : Some conn ≡ None = is in cc)

module _ (conn : ℕ) (channels : List Channel) (place : ℕ) (old mid new : Player) (met last : Channel) (k : Keeps old channels)
    (s : Seat conn channels place old mid met)
    (m : Moves conn (talk mid met) (talk new last)) where
  last_number : (n : ℕ) → last.number ≡ Some n → n ≡ conn
  last_number n is = some_is n conn (sym is ∙ (m.number ∙ s.number))

  entered_still : (n : ℕ) → n < connections old.core.history → n < connections new.core.history
  entered_still n less = omega (arith, s.more, m.entered)

  left_still : (n : ℕ) → n ≢ conn → has_left new.core.history n ≡ has_left old.core.history n
  left_still n other = m.others n other ∙ s.left n

  seated_last : IsSeated last new.core.history
  seated_last = record {
    entered = λ n is. (let same : n ≡ conn = last_number n is in omega (arith, same, s.mine, m.entered));
    staying = λ n is staying. subst (λ x. has_left new.core.history x ≡ false) (sym (last_number n is))
        ((m.own staying).1 ∙ s.own (m.own staying).0);
  }

  seated_other : (i : ℕ) (a : Channel) → i ≢ place → slice_get channels i ≡ Some a → IsSeated a new.core.history
  seated_other i a away there =
      let was : IsSeated a old.core.history = k.seated i a there in
      record {
        entered = λ n is. entered_still n (was.entered n is);
        staying = λ n is staying. left_still n (s.other i n a there away is) ∙ was.staying n is staying;
      }

  apart_from_last : (i n : ℕ) (a : Channel) → i ≢ place → slice_get channels i ≡ Some a → a.number ≡ Some n → last.number ≡ Some n → ⊥
  apart_from_last i n a away there is also = s.other i n a there away is (last_number n also)

  number_of : (a : Channel) (n : ℕ) → a ≡ last → a.number ≡ Some n → last.number ≡ Some n
  number_of a n same is = subst (λ (c : Channel). c.number ≡ Some n) same is

  alone_by : (i j n : ℕ) (a b : Channel) → ((i ≡ place) × (a ≡ last)) ⊎ ((i ≢ place) × (slice_get channels i ≡ Some a))
      → ((j ≡ place) × (b ≡ last)) ⊎ ((j ≢ place) × (slice_get channels j ≡ Some b)) → a.number ≡ Some n → b.number ≡ Some n → i ≡ j
  alone_by i j n a b (inl p) (inl q) is also = p.0 ∙ sym q.0
  alone_by i j n a b (inl p) (inr q) is also = absurd (apart_from_last j n b q.0 q.1 also (number_of a n p.1 is))
  alone_by i j n a b (inr p) (inl q) is also = absurd (apart_from_last i n a p.0 p.1 is (number_of b n q.1 also))
  alone_by i j n a b (inr p) (inr q) is also = k.alone i j n a b p.1 q.1 is also

  pub keeps_line : KnowsFilled new → Keeps new (slice_set channels place last)
  keeps_line filled = record {
    filled = filled;
    seated = λ i a there. elim (changed_by channels place last i a there) [
      | inl p ↦ subst (λ (c : Channel). IsSeated c new.core.history) (sym p.1) seated_last
      | inr p ↦ seated_other i a p.0 p.1
    ];
    alone = λ i j n a b there also is same. alone_by i j n a b (changed_by channels place last i a there) (changed_by channels place last j b also) is same;
    later = λ n more. left_still n (λ same. omega (arith, same, s.mine, m.entered, more)) ∙ k.later n (omega (arith, s.more, m.entered, more));
    said = m.said s.said;
  }

-- what the workers do
pub keeps_still : (old new : Player) (channels : List Channel) → Keeps old channels → Still old.core new.core → new.filled ≡ old.filled → Keeps new channels
keeps_still old new channels k s filled = record {
  filled = ap (λ o. option_map numbers o) filled ∙ (k.filled ∙ sym s.filled);
  seated = λ i a there. (let was : IsSeated a old.core.history = k.seated i a there in record {
    entered = λ n is. (let less : n < connections old.core.history = was.entered n is in omega (arith, s.same.entered, less));
    staying = λ n is staying. s.same.left n ∙ was.staying n is staying;
  });
  alone = k.alone;
  later = λ n more. s.same.left n ∙ k.later n (omega (arith, s.same.entered, more));
  said = said_still old.core new.core s k.said;
}
