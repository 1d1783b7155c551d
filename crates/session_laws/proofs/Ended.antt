-- What the session of a connection is that ended by the end of its input or by a CloseConnection.
use Rattle.std.proofs.Common.{◌≡◌, ℕ, List, [], ◌∷◌, ◌++◌, length, Option, Some, None, IfSome, refl, sym, ap, ◌∙◌, subst, append_assoc, append-nil, ◌⊎◌, inl, inr}
use Rattle.giop_frame.specs.Stream.{End, Framed, first_minor, start}
use Rattle.giop_frame.proofs.Streams.{one_stream, some_stream}
use Rattle.poa_base.specs.declared.Entry.{Entry}
use Rattle.poa_base.specs.declared.SessionEnd.TheVariants.{Ended}
use Rattle.poa_history.specs.declared.Givens.{Givens}
use Rattle.session_laws.specs.declared.peer.Peer.{Peer}
use Rattle.session_laws.specs.declared.peer.Peer.TheVariants.{Client, Administrator}
use Rattle.session_laws.specs.Hearing.{Heard, Stop, closed, over, message_limit}
use Rattle.session_laws.specs.Records.{arrived_by, filling_by, joined_by, IsPaidBy}
use Rattle.session_laws.specs.Sessions.{ClosesIn, Hears, Input, IsNext, SessionBy, closing}
use Rattle.session_laws.proofs.OneHearing.{never_more}

-- each text of a peer has a minor version in which its connection is closed
abbrev pub Minor : Peer → List ℕ → Type 0
Minor peer text = (minor : ℕ) × ClosesIn peer text minor

pub some_minor : (peer : Peer) (text : List ℕ) → Minor peer text
some_minor Client text =
    let s = some_stream message_limit start text in (
      first_minor s.messages,
      λ messages end is. ap first_minor (one_stream message_limit start text messages s.messages end s.end is s.stream).messages_same,
    )
some_minor Administrator text = (0, tt)

-- no message closes it
unclosed : (peer : Peer) (minor : ℕ) → closing peer minor Ended ≡ []
unclosed Client minor = refl
unclosed Administrator minor = refl

-- all calls of the input arrived, the replies to them are what was written, and none is owed; and no call filled the run
pub record Ends (g : Givens) (peer : Peer) (h : List Entry) (c : ℕ) (text out : List ℕ) : Type 0 where
  pub input : Input peer text (arrived_by h c) Ended
  pub whole : out ≡ joined_by g h c
  pub paid : IsPaidBy h c
  pub unfilled : filling_by h c ≡ None

module _ (g : Givens) (peer : Peer) (h : List Entry) (c : ℕ) (text out : List ℕ) where
  -- a call that filled the run isn't among those that arrived, which are all
  never_next : (calls : List Heard) (size : ℕ) → Input peer text calls Ended → IsNext peer text calls size → ⊥
  never_next calls size input next =
      let heard : Heard = record { call = next.call; size = size } in
      let hears : Hears peer text (calls ++ heard ∷ next.begins.more) next.begins.stop =
      subst (λ cs. Hears peer text cs next.begins.stop) (append_assoc calls (heard ∷ []) next.begins.more) next.begins.hears in
      elim input [
        | inl all ↦ never_more peer text calls next.begins.more heard closed next.begins.stop all hears
        | inr all ↦ never_more peer text calls next.begins.more heard (over 0) next.begins.stop all hears
      ]

  none_filled : (o : Option ℕ) → Input peer text (arrived_by h c) Ended → IfSome o (IsNext peer text (arrived_by h c)) → o ≡ None
  none_filled None input filled = refl
  none_filled (Some size) input filled = absurd (never_next (arrived_by h c) size input filled)

  pub ends_of : SessionBy g peer h c text out Ended → Ends g peer h c text out
  ends_of s = record {
    input = s.input;
    whole = s.output.whole ∙ (ap (λ last. joined_by g h c ++ last) (unclosed peer s.output.minor) ∙ append-nil (joined_by g h c));
    paid = s.output.paid;
    unfilled = none_filled (filling_by h c) s.input s.filled;
  }

  pub session_of : Ends g peer h c text out → SessionBy g peer h c text out Ended
  session_of e =
      let m = some_minor peer text in record {
        input = e.input;
        output = record {
          minor = m.0;
          closes_in = m.1;
          paid = e.paid;
          whole = e.whole ∙ (sym (append-nil (joined_by g h c)) ∙ ap (λ last. joined_by g h c ++ last) (sym (unclosed peer m.0)));
        };
        filled = subst (λ (o : Option ℕ). IfSome o (IsNext peer text (arrived_by h c))) (sym e.unfilled) tt;
      }
