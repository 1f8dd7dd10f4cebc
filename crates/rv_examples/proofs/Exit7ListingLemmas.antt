-- The listing of the worked program, by its statements.

use Rattle.std.proofs.Common.{[], ◌∷◌, filter, is_lt, refl, pos}
use Rattle.std.specs.Prelude.{codes}
use Rattle.std.specs.Fmt.{digits}
use Rattle.rv_isa.specs.declared.instruction.Inst.TheVariants.{Ecall}
use Rattle.rv_isa.specs.RegisterNames.{abi_names}
use Rattle.rv_examples.specs.Exit7.{exit7, exit7_map, exit7_listing}
use Rattle.rv_pseudo_laws.specs.Li.{addi}
use Rattle.rv_pseudo_laws.specs.Code.{Closed}
use Rattle.rv_source_laws.specs.Program.{Program, program}
use Rattle.rv_chain_laws.specs.SourceListing.{is_listed, by_row, IsSourceListing}
use Rattle.rv_runs_theorems.proofs.AscendingLemmas.{sorted_from}

abbrev p : Program
p = program (exit7 ∷ []) exit7_map

pub lists : IsSourceListing p exit7_listing
unfolding digits abi_names
lists = record {
  statements = filter is_listed p.mapped;
  order = record {
    sorted = sorted_from (λ s t. is_lt (by_row s t)) (filter is_listed p.mapped) ((refl, (refl, tt)), ((refl, tt), (tt, tt)));
    stable = λ s. refl;
  };
  entries = (
    codes "@ 1 3 4\n10000: addi a0,zero,7\n",
    (
      codes "@ 1 4 5\n10004: addi a7,zero,93\n@ 1 5 6\n10008: ecall\n",
      refl,
      record {
        ps = Closed (addi 10 0 (pos 7)) ∷ [];
        are_parts = refl;
        lines = record { address = 0x10000; bytes = 4; instruction = addi 10 0 (pos 7) } ∷ [];
        are_lines = (refl, (refl, refl));
        sizes = (refl, tt);
        shows = refl;
      },
      (
        codes "@ 1 4 5\n10004: addi a7,zero,93\n",
        (
          codes "@ 1 5 6\n10008: ecall\n",
          refl,
          record {
            ps = Closed (addi 17 0 (pos 93)) ∷ [];
            are_parts = refl;
            lines = record { address = 0x10004; bytes = 4; instruction = addi 17 0 (pos 93) } ∷ [];
            are_lines = (refl, (refl, refl));
            sizes = (refl, tt);
            shows = refl;
          },
          (
            codes "@ 1 5 6\n10008: ecall\n",
            (
              [],
              refl,
              record {
                ps = Closed Ecall ∷ [];
                are_parts = refl;
                lines = record { address = 0x10008; bytes = 4; instruction = Ecall } ∷ [];
                are_lines = (refl, (refl, refl));
                sizes = (refl, tt);
                shows = refl;
              },
              refl,
            ),
          ),
        ),
      ),
    ),
  );
}
