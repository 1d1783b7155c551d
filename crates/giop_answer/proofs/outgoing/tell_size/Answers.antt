-- The message behind the front is the one that tells its size.
use Rattle.std.proofs.Common.{◌++◌, List, [], ℕ, take, drop, ap, ap₂, sym, ◌∙◌}
use Rattle.std.proofs.Math.Seq.{drop-append_seam, take-append_seam}
use Rattle.giop_answer.specs.Outgoing.{framed}
use Rattle.giop_answer.proofs.Replies.{on_ok}
use Rattle.giop_answer.proofs.outgoing.tell_size.Goals as goal

pub returns-clause-ok : goal.returns-clause-ok
returns-clause-ok c = λ front content minor kind begins stands.
    (let rest : List ℕ = framed minor kind c.args.little [] ++ content in
    let first = ap (take c.args.start) stands ∙ (ap (λ n. take n (front ++ rest)) (sym begins) ∙ take-append_seam front rest) in
    let last = ap (drop c.args.start) stands ∙ (ap (λ n. drop n (front ++ rest)) (sym begins) ∙ drop-append_seam front rest) in
    on_ok c.put_size.result _ _
    (λ put. ap₂ (λ (x y : List ℕ). x ++ y) (c.split_at_mut-message.ensures.front ∙ first) put)
    (c.put_size.ensures.ok minor kind content (c.split_at_mut-message.ensures.back ∙ last)))
