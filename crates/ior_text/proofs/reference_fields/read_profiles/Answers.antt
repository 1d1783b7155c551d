use Rattle.std.proofs.Common.{arith, length-append, subst, sym, List}
use Rattle.poa_base.specs.declared.Profile.{Profile}
use Rattle.ior_text.specs.Tagged.{ReadsProfiles}
use Rattle.ior_text.proofs.PushingFields.{reads_push}
use Rattle.ior_text.proofs.reference_fields.read_profiles.Goals as goal

pub loop-preserved : goal.loop-preserved
loop-preserved c = record {
  read = subst (λ (l : List Profile). ReadsProfiles l c.args.reader.now c.read_profile.new.reader) (sym c.in_ok-push.ensures.ok)
      (reads_push _ _ _ _ _ c.loop.invariant.read c.in_ok-profile.ensures.profile);
  count = grind (arith, c.in_ok-push.ensures.ok, c.loop.invariant.count, length-append);
}
