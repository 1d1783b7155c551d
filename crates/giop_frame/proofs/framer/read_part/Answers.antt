use Rattle.std.proofs.Common.{◌≡◌, true, false, length, ap, sym, subst, ◌∙◌, arith}
use Rattle.giop_frame.specs.Part.{header_of, continues}
use Rattle.giop_frame.specs.Open.{find_open}
use Rattle.giop_frame.specs.Message.{IsMessage}
use Rattle.giop_frame.proofs.Looking.{whole_from_look}
use Rattle.giop_frame.proofs.Messages.{message_from_whole}
use Rattle.giop_frame.proofs.Bounds.{starts}
use Rattle.giop_frame.proofs.framer.read_part.Goals as goal

pub open-requires-clause-message : goal.open-requires-clause-message
open-requires-clause-message c =
    let part = c.args.part.now in
    let first : continues (header_of part) ≡ false = cc in
    message_from_whole c.requires.good.0 c.args.pending.now part (length part)
    (whole_from_look c.requires.good.0 c.args.pending.now part (length part) c.requires.good.1) first

pub new-requires : goal.new-requires
new-requires c =
    let part = c.args.part.now in
    let first : continues (header_of part) ≡ false = cc in
    let same : part ≡ c.from_vec.result = sym (c.from_vec.ensures ∙ c.in_ok-bytes.ensures.items) in
    subst IsMessage same
    (message_from_whole c.requires.good.0 c.args.pending.now part (length part)
    (whole_from_look c.requires.good.0 c.args.pending.now part (length part) c.requires.good.1) first)

pub id_of-requires-then-header : goal.id_of-requires-then-header
id_of-requires-then-header c =
    let part = c.args.part.now in
    let first : continues (header_of part) ≡ false = cc in
    let more : (header_of part).more ≡ true = cc in
    (starts c.args.pending.now part c.requires.good more first).id

pub open-requires-clause-absent : goal.open-requires-clause-absent
open-requires-clause-absent c =
    let part = c.args.part.now in
    let first : continues (header_of part) ≡ false = cc in
    let more : (header_of part).more ≡ true = cc in
    let begins = starts c.args.pending.now part c.requires.good more first in
    ap (λ n. find_open n c.args.pending.now) c.id_of-then-header.ensures ∙ begins.absent

pub open-requires-clause-bytes_fit : goal.open-requires-clause-bytes_fit
open-requires-clause-bytes_fit c =
    let part = c.args.part.now in
    let first : continues (header_of part) ≡ false = cc in
    let more : (header_of part).more ≡ true = cc in
    let begins = starts c.args.pending.now part c.requires.good more first in
    omega (arith, begins.fits)
