-- The program of the two files.

use Rattle.std.proofs.Common.{[], ◌∷◌, refl, arith}
use Rattle.std.specs.Int.{int_wrap}
use Rattle.rv_link_laws.specs.Ground.{usual}
use Rattle.rv_link_laws.specs.IsLinkOf.{IsLinkOf}
use Rattle.rv_sources_link_theorems.specs.TwoFiles.{first_object, second_object, two_files, starts}

pub linked : IsLinkOf (first_object ∷ second_object ∷ []) (usual 0x10000) two_files
unfolding int_wrap
linked = record {
  few = omega arith;
  page = refl;
  low = omega arith;
  free = omega arith;
  starts = starts;
  text = (refl, (refl, (refl, tt)), refl);
  gaps = refl;
  rodata = (refl, tt, refl);
  «data» = (refl, (refl, (refl, tt)), refl);
  bss = (refl, tt, refl);
  below = omega arith;
  memory = omega arith;
  room = (refl, (refl, tt));
  once = (refl, (refl, (refl, (refl, tt))));
  globals = refl;
  entry = refl;
  even = refl;
  rows = refl;
  readable = record {
    text = (omega arith, omega arith);
    rodata = (omega arith, omega arith);
    «data» = (omega arith, omega arith);
    bss = (omega arith, omega arith);
    entry = omega arith;
    gaps = ((omega arith, omega arith), tt);
    globals = ((refl, omega arith), ((refl, omega arith), ((refl, omega arith), ((refl, omega arith), ((refl, omega arith), ((refl, omega arith), ((refl, omega arith), ((refl, omega arith), ((refl, omega arith), tt)))))))));
    drops = tt;
    rows = ((omega arith, omega arith, omega arith, omega arith, omega arith, omega arith), ((omega arith, omega arith, omega arith, omega arith, omega arith, omega arith), ((omega arith, omega arith, omega arith, omega arith, omega arith, omega arith), ((omega arith, omega arith, omega arith, omega arith, omega arith, omega arith), ((omega arith, omega arith, omega arith, omega arith, omega arith, omega arith), ((omega arith, omega arith, omega arith, omega arith, omega arith, omega arith), ((omega arith, omega arith, omega arith, omega arith, omega arith, omega arith), ((omega arith, omega arith, omega arith, omega arith, omega arith, omega arith), ((omega arith, omega arith, omega arith, omega arith, omega arith, omega arith), ((omega arith, omega arith, omega arith, omega arith, omega arith, omega arith), ((omega arith, omega arith, omega arith, omega arith, omega arith, omega arith), ((omega arith, omega arith, omega arith, omega arith, omega arith, omega arith), ((omega arith, omega arith, omega arith, omega arith, omega arith, omega arith), ((omega arith, omega arith, omega arith, omega arith, omega arith, omega arith), ((omega arith, omega arith, omega arith, omega arith, omega arith, omega arith), tt)))))))))))))));
  };
  relocated = (tt, ((record { resolved = refl; found = refl; alone = λ e. absurd (cc); takes = record { range = (omega arith, omega arith); even = λ e. absurd (cc) } }, (record { resolved = refl; found = refl; alone = λ e. absurd (cc); takes = record { range = tt; even = λ e. absurd (cc) } }, (record { resolved = refl; found = refl; alone = λ e. absurd (cc); takes = record { range = tt; even = λ e. absurd (cc) } }, (record { resolved = refl; found = refl; alone = λ e. absurd (cc); takes = record { range = tt; even = λ e. absurd (cc) } }, (record { resolved = refl; found = refl; alone = λ e. absurd (cc); takes = record { range = tt; even = λ e. absurd (cc) } }, tt))))), (((record { resolved = refl; found = refl; alone = λ e. absurd (cc); takes = record { range = tt; even = λ e. absurd (cc) } }), tt), ((record { resolved = refl; found = refl; alone = λ e. absurd (cc); takes = record { range = (omega arith, omega arith); even = λ e. absurd (cc) } }, tt), tt))));
  text_bytes = refl;
  rodata_bytes = refl;
  data_bytes = refl;
  rvc = refl;
}
