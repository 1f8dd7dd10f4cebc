use Rattle.std.proofs.Common.{sym, subst, arith}
use Rattle.std.proofs.lemmas.Grind.{common_steps}
use Rattle.rv_parcel.specs.Parcel.{StandsFor}
use Rattle.rv_compress.proofs.front.parcel_inst.Goals as goal

pub returns-else-bytes-lt2-clause-exact : goal.returns-else-bytes-lt2-clause-exact
returns-else-bytes-lt2-clause-exact c inst =
    let is = c.first_parcel.ensures in
    let stands = c.expand.ensures.exact inst in (
      λ h. record {
        begins = c.requires.begins;
        room = grind (arith, common_steps);
        stands = subst (λ p. StandsFor p inst) is (stands.0 h);
      },
      λ front. stands.1 (subst (λ p. StandsFor p inst) (sym is) front.stands),
    )
