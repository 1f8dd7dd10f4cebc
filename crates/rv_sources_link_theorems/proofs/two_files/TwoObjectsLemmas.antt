-- The objects of the two files.

use Rattle.std.proofs.Common.{ℕ, false, List, [], ◌∷◌, refl, arith, inl, inr, slice_index_or, map}
use Rattle.std.specs.Int.{int_wrap}
use Rattle.rv_expression_laws.specs.Values.{Value}
use Rattle.rv_statement_laws.specs.Statement.{Label, Expression}
use Rattle.rv_unit_laws.specs.Tables.{at_start, tables}
use Rattle.rv_source_laws.specs.Located.{located_now, located_from}
use Rattle.rv_assemble_laws.specs.LaidStatements.{LaidStatement, expression_value}
use Rattle.rv_isa.specs.declared.instruction.Inst.TheVariants as inst
use Rattle.rv_statement_laws.specs.declared.mnemonic.Mnemonic.TheVariants.{Ecall}
use Rattle.rv_pseudo_laws.specs.Code.{Closed}
use Rattle.rv_assemble_laws.specs.Coded.{IsCode}
use Rattle.rv_assemble_laws.specs.IsObjectOf.{IsObjectOf}
use Rattle.rv_source_laws.proofs.SettlingLemmas.{settled_least}
use Rattle.rv_sources_link_theorems.specs.TwoFiles.{first_source, second_source, first_object, second_object, first_laid, second_laid, first_number, second_number}

no_laid : LaidStatement
no_laid = record { located = located_now 1 1 (at_start []) (record { line = 1; kind = Label [] }); offset = 0; bytes = 0; instructions = 0; coded = [] }

abbrev nth : List LaidStatement → ℕ → LaidStatement
nth laid n = slice_index_or laid n no_laid

-- the one instruction of each, with compressed code off
ecall : (v : Expression → Value) → IsCode v false Ecall [] 4 ((0x73 ∷ 0 ∷ 0 ∷ 0 ∷ []) ∷ []) 1
ecall v = record {
  ps = Closed inst.Ecall ∷ [];
  parts = refl;
  coded_as = ((tt, refl, inl (refl, refl)), tt);
  size = refl;
  count = refl;
}

pub first_is : IsObjectOf first_source first_object
unfolding int_wrap
first_is = record {
  good = refl;
  laid = first_laid;
  located = refl;
  places = tt;
  least = settled_least (located_from 1 1 (at_start first_source) first_source) (map (λ s. s.bytes) first_laid) refl;
  number = first_number;
  sections = (
    record {
      name = refl;
      loaded = refl;
      executable = refl;
      writable = refl;
      alignment = refl;
      some = omega arith;
      code = λ e f. absurd (cc);
      tile = (refl, refl, (refl, refl, (refl, refl, (refl, refl, tt))));
      contents = refl;
      relocations = refl;
      numbered = λ e. (tt, tt);
      sizes = ((λ e. (refl, refl)), ((λ e. (refl, refl)), ((λ e. (refl, refl)), ((λ e. ecall (expression_value (tables first_source) (nth first_laid 3).located)), tt))));
      fields = (tt, tt);
      short = λ e. omega arith;
    },
    (
      record {
        name = refl;
        loaded = refl;
        executable = refl;
        writable = refl;
        alignment = refl;
        some = omega arith;
        code = λ e f. absurd (cc);
        tile = (refl, refl, (refl, refl, (refl, refl, (refl, refl, (refl, refl, (refl, refl, tt))))));
        contents = refl;
        relocations = refl;
        numbered = λ e. (((refl, refl, refl), tt), (((refl, refl, (nth first_laid 5, refl, refl, refl)), tt), (((refl, refl, refl), ((refl, refl, refl), tt)), (((refl, refl, (nth first_laid 9, refl, refl, refl)), tt), tt))));
        sizes = ((λ e. (refl, refl)), ((λ e. (refl, refl)), ((λ e. (refl, refl)), ((λ e. (refl, refl)), ((λ e. (refl, refl)), ((λ e. (refl, refl)), tt))))));
        fields = (inl refl, (inr refl, (inr (inr (inl refl)), (inr refl, tt))));
        short = λ e. omega arith;
      },
      tt,
    ),
  );
  symbols = refl;
  rows = refl;
  rvc = refl;
}

pub second_is : IsObjectOf second_source second_object
unfolding int_wrap
second_is = record {
  good = refl;
  laid = second_laid;
  located = refl;
  places = ((λ e. absurd (cc)), tt);
  least = settled_least (located_from 1 1 (at_start second_source) second_source) (map (λ s. s.bytes) second_laid) refl;
  number = second_number;
  sections = (
    record {
      name = refl;
      loaded = refl;
      executable = refl;
      writable = refl;
      alignment = refl;
      some = omega arith;
      code = λ e f. absurd (cc);
      tile = (refl, refl, (refl, refl, (refl, refl, (refl, refl, (refl, refl, tt)))));
      contents = refl;
      relocations = refl;
      numbered = λ e. (tt, (tt, tt));
      sizes = ((λ e. (refl, refl)), ((λ e. (refl, refl)), ((λ e. (refl, refl)), ((λ e. ecall (expression_value (tables second_source) (nth second_laid 13).located)), ((λ e. (refl, (omega arith, refl), (refl, refl))), tt)))));
      fields = (tt, (tt, tt));
      short = λ e. omega arith;
    },
    (
      record {
        name = refl;
        loaded = refl;
        executable = refl;
        writable = refl;
        alignment = refl;
        some = omega arith;
        code = λ e f. absurd (cc);
        tile = (refl, refl, (refl, refl, (refl, refl, (refl, refl, (refl, refl, (refl, refl, (refl, refl, (refl, refl, tt))))))));
        contents = refl;
        relocations = refl;
        numbered = λ e. (tt, (tt, (((refl, refl, (nth second_laid 2, refl, refl, refl)), tt), tt)));
        sizes = ((λ e. (refl, refl)), ((λ e. (refl, refl)), ((λ e. (refl, refl)), ((λ e. (refl, refl)), ((λ e. (refl, refl)), ((λ e. (refl, refl)), ((λ e. (refl, refl)), ((λ e. (refl, refl)), tt))))))));
        fields = (tt, (tt, (inl refl, tt)));
        short = λ e. omega arith;
      },
      (
        record {
          name = refl;
          loaded = refl;
          executable = refl;
          writable = refl;
          alignment = refl;
          some = omega arith;
          code = λ e f. absurd (cc);
          tile = (refl, refl, (refl, refl, tt));
          contents = refl;
          relocations = refl;
          numbered = λ e. absurd (cc);
          sizes = ((λ e. (refl, refl)), ((λ e. (refl, refl)), tt));
          fields = (tt, tt);
          short = λ e. omega arith;
        },
        tt,
      ),
    ),
  );
  symbols = refl;
  rows = refl;
  rvc = refl;
}
