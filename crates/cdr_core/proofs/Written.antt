-- What is written of a field is a spelling of it, and is read back.
use Rattle.std.proofs.Common.{replicate, refl, inl}
use Rattle.std.proofs.lemmas.List.{length-replicate}
use Rattle.cdr_core.specs.Kind.{unit_of}
use Rattle.cdr_core.specs.Field.{kind_of}
use Rattle.cdr_core.specs.Spelling.{gap, body_of, written}
use Rattle.cdr_core.specs.Laws.{WrittenSpells, WrittenReadsBack}

pub written_spells : WrittenSpells
written_spells little place f fits =
    record {
      padding = replicate (gap (unit_of (kind_of f)) place) 0;
      body = body_of little f;
      fits = fits;
      aligned = length-replicate (gap (unit_of (kind_of f)) place) 0;
      stands = inl refl;
      parts = refl;
    }

pub written_reads_back : WrittenReadsBack
written_reads_back f c more fits stands =
    record {
      bytes = written c.little c.place f;
      spelled = written_spells c.little c.place f fits;
      passed = record { order = refl; moved = refl; split = stands };
    }
