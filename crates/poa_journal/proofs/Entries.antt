-- The words of an entry give the entry.
use Rattle.std.proofs.Common.{◌≡◌, Bool, true, false, Some, refl}
use Rattle.poa_base.specs.declared.Entry.{Entry}
use Rattle.poa_base.specs.declared.Entry.TheVariants.{Entered, Arrive, Filled, Left, Collect, Admit, Tried, Incarnated, Run, Done, TakeOut, Etherealized, Abandon}
use Rattle.text_words.specs.Token.{texts}
use Rattle.text_words.proofs.Numbers.{back32, back64}
use Rattle.poa_journal.proofs.ReadBack.{attempt_back, call_back, incarnation_back, verdict_back}
use Rattle.poa_journal.specs.Fixed.{kind_word, removal_word, flag_word, flag_for}
use Rattle.poa_journal.specs.Entry.{entry_tokens, IsWritten}
use Rattle.poa_journal.specs.Reading.{entry_of, flag_of}

flag_back : (truth : Bool) → flag_of (flag_word (flag_for truth)) ≡ Some (flag_for truth)
unfolding flag_word
flag_back true = refl
flag_back false = refl

-- the words of an entry give the entry
pub entry_back : (e : Entry) → IsWritten e → entry_of (texts (entry_tokens e)) ≡ Some e
unfolding kind_word removal_word
entry_back (Entered c) w = rw (back32 c w.fits.1.0.0) refl
entry_back (Arrive c s call) w = rw (back32 c w.fits.1.0.0, back64 s w.fits.1.1.0.0, call_back call w.fits.1.1.1 w.told) refl
entry_back (Filled c s) w = rw (back32 c w.fits.1.0.0, back64 s w.fits.1.1.0.0) refl
entry_back (Left c) w = rw (back32 c w.fits.1.0.0) refl
entry_back (Collect c a) w = rw (back32 c w.fits.1.0.0, back64 a w.fits.1.1.0.0) refl
entry_back (Admit n a v) w = rw (back32 n w.fits.1.0.0, back64 a w.fits.1.1.0.0, verdict_back v w.fits.1.1.1 w.told) refl
entry_back (Tried n a) w = rw (back32 n w.fits.1.0.0, attempt_back a w.fits.1.1) refl
entry_back (Incarnated n i) w = rw (back32 n w.fits.1.0.0, incarnation_back i w.fits.1.1 w.told) refl
entry_back (Run n) w = rw (back32 n w.fits.1.0.0) refl
entry_back (Done n) w = rw (back32 n w.fits.1.0.0) refl
entry_back (TakeOut n a true) w = rw (back32 n w.fits.1.0.0, back32 a w.fits.1.1.0.0) refl
entry_back (TakeOut n a false) w = rw (back32 n w.fits.1.0.0, back32 a w.fits.1.1.0.0) refl
entry_back (Etherealized n true true) w = rw (back32 n w.fits.1.0.0, flag_back true) refl
entry_back (Etherealized n true false) w = rw (back32 n w.fits.1.0.0, flag_back true, flag_back false) refl
entry_back (Etherealized n false true) w = rw (back32 n w.fits.1.0.0, flag_back true, flag_back false) refl
entry_back (Etherealized n false false) w = rw (back32 n w.fits.1.0.0, flag_back false) refl
entry_back (Abandon n) w = rw (back32 n w.fits.1.0.0) refl
