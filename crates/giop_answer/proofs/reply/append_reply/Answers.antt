-- The header and the fields follow what stood there, and the header tells their size.
use Rattle.std.proofs.Common.{◌++◌, [], List, ℕ, length, ap, sym, ◌∙◌, arith, length-append}
use Rattle.giop_answer.specs.Outgoing.{framed}
use Rattle.giop_answer.specs.Reply.{content_draft, reply_kind}
use Rattle.giop_answer.proofs.Replies.{headed, header_len, on_ok, reply_framed, written_back}
use Rattle.giop_answer.proofs.reply.append_reply.Goals as goal

pub tell_size-requires : goal.tell_size-requires
tell_size-requires c =
    (let head = c.args.head.now in
    let stands =
    headed head.minor (reply_kind head) c.reply_kind.result head.little c.args.out.now.items c.put_header.new.out.items c.put_content.new.out.items
    (content_draft head c.args.reply.now).bytes
    c.in_ok-put_header.ensures.ok c.reply_kind.ensures c.in_ok-put_content.ensures.ok in
    let header : List ℕ = framed head.minor (reply_kind head) head.little [] in
    omega (
      arith,
      ap (λ (x : List ℕ). length x) (c.deref_mut.ensures.value ∙ stands),
      length-append c.args.out.now.items (header ++ (content_draft head c.args.reply.now).bytes),
      length-append header (content_draft head c.args.reply.now).bytes,
      header_len head.minor (reply_kind head) head.little,
      c.len-start.ensures,
      c.args.out.now.ok.0,
    ))

pub returns-clause-ok : goal.returns-clause-ok
returns-clause-ok c =
    (let head = c.args.head.now in
    let content : List ℕ = (content_draft head c.args.reply.now).bytes in
    let stands =
    headed head.minor (reply_kind head) c.reply_kind.result head.little c.args.out.now.items c.put_header.new.out.items c.put_content.new.out.items content
    c.in_ok-put_header.ensures.ok c.reply_kind.ensures c.in_ok-put_content.ensures.ok in
    on_ok c.tell_size.result _ _
    (λ told. written_back _ c.tell_size.new.out _ (c.tell_size.ensures.len ∙ c.deref_mut.ensures.len)
    ∙ (told ∙ ap (λ (x : List ℕ). c.args.out.now.items ++ x) (reply_framed head c.args.reply.now)))
    (c.tell_size.ensures.ok c.args.out.now.items content head.minor (reply_kind head) (sym c.args.out.now.ok.0 ∙ sym c.len-start.ensures)
    (c.deref_mut.ensures.value ∙ stands)))
