-- The map of the worked source with constants, places and data of each kind fits it.

use Rattle.std.proofs.Common.{[], ◌∷◌, refl, arith}
use Rattle.std.specs.List.{AllByRecursion}
use Rattle.rv_expression_laws.specs.Bytes.{digit}
use Rattle.rv_examples.specs.Data.{figures, figures_map}
use Rattle.rv_source_laws.specs.Program.{program}
use Rattle.rv_source_laws.specs.Fits.{Fits, SizeFits}

sizes : AllByRecursion (SizeFits (program (figures ∷ []) figures_map)) (program (figures ∷ []) figures_map).mapped
unfolding digit
sizes = ((tt, refl, omega arith, omega arith, refl), (record { valued = refl; paired = tt; taken = (tt, tt); row = ((tt, tt), refl, omega arith, omega arith, refl); whole = λ e. absurd (cc) }, ((tt, refl, omega arith, omega arith, refl), ((refl, refl, refl), ((refl, refl, refl), ((tt, refl, omega arith, omega arith, refl), ((refl, refl, refl), ((tt, refl, omega arith, omega arith, refl), ((refl, refl, refl), ((refl, refl, refl), ((refl, refl, refl), ((tt, refl, omega arith, omega arith, refl), ((refl, refl, refl), tt)))))))))))))

pub fits : Fits (figures ∷ []) figures_map 0x10000
unfolding digit
fits = record {
  good = (refl, tt);
  rows = refl;
  sizes = sizes;
  text = (refl, ((refl, (refl, tt)), tt), refl);
  gaps = refl;
  rodata = (refl, tt, refl);
  «data» = (refl, ((refl, (refl, (refl, (refl, (refl, (refl, (refl, (refl, tt)))))))), tt), refl);
  bss = (refl, ((refl, (refl, (refl, tt))), tt), refl);
}
