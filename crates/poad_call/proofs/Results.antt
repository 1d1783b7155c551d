-- A body in which no sequence of octets stands is no result of that kind.
use Rattle.std.proofs.Common.{◌≡◌, ◌≢◌, Option, subst, sym, ◌⊎◌, inl, inr}
use Rattle.cdr_core.specs.declared.CdrFault.{CdrFault}
use Rattle.cdr_core.specs.declared.CdrFault.TheVariants.{WantMemory}
use Rattle.cdr_core.specs.Kind.{Octets}
use Rattle.cdr_core.specs.Field.{octets}
use Rattle.cdr_core.specs.Cursor.{Cursor, Reads}
use Rattle.cdr_core.specs.Refusal.{Refuses}
use Rattle.cdr_core.proofs.Refusals.{none_where_refused}
use Rattle.poa_base.specs.declared.Body.{Body}
use Rattle.poa_base.specs.declared.Datum.{Datum}
use Rattle.command_words.specs.declared.result_kind.ResultKind.TheVariants as kind
use Rattle.giop_client.specs.Reply.{body_start}
use Rattle.poad_call.specs.Result.{IsResult}

pub no_octets : (body : Body) (start : Cursor) (fault : CdrFault) → start ≡ body_start body
    → ((fault ≡ WantMemory) ⊎ Refuses Octets start fault) → fault ≢ WantMemory
    → (value : Option Datum) → IsResult kind.Octets body value → ⊥
no_octets body start fault is (inl memory) other value result = other memory
no_octets body start fault is (inr refused) other value result =
    let read = result.1 in
    none_where_refused (octets result.0) start read.0 fault refused
    (subst (λ (x : Cursor). Reads (octets result.0) x read.0) (sym is) read.1)
