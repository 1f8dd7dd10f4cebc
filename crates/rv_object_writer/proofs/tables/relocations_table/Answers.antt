use Rattle.std.proofs.Common.{ℕ, List, map, refl}
use Rattle.std.proofs.lemmas.List.Elements.{All-more}
use Rattle.rv_list_laws.proofs.EachLemmas.{each_map_passed}
use Rattle.rv_elf_laws.specs.Records.{rela_bytes}
use Rattle.rv_object_types.specs.declared.relocation.Relocation.{Relocation}
use Rattle.rv_object_types.specs.Parts.{relocation_of}
use Rattle.rv_object_file_laws.specs.Known.{IsRelocation}
use Rattle.rv_object_file_laws.specs.Written.{rela_of, relocations_bytes}
use Rattle.rv_object_writer.proofs.StepsLemmas.{step}
use Rattle.rv_object_writer.proofs.tables.relocations_table.Goals as goal

abbrev IsKnown : Relocation → Type 0
IsKnown r = IsRelocation (relocation_of r)

abbrev written : Relocation → List ℕ
written r = rela_bytes (rela_of (relocation_of r))

pub loop-relocation-preserved : goal.loop-relocation-preserved
loop-relocation-preserved c = (
  step (λ l. relocations_bytes (map relocation_of l)) written (λ y ys. refl) c.args.relocations.now c.loop-relocation.relocation-index _ _
      c.loop-relocation-test.true refl _ _ _ c.in_ok-put_relocation.ensures.written c.loop-relocation.invariant.0,
  All-more IsKnown c.args.relocations.now c.loop-relocation.relocation-index _ c.loop-relocation-test.true c.loop-relocation.invariant.1
      c.in_ok-put_relocation.ensures.known,
)

pub returns-clause-known : goal.returns-clause-known
returns-clause-known c =
    each_map_passed IsRelocation relocation_of c.args.relocations.now c.loop-relocation.relocation-index c.loop-relocation-test.false
    c.loop-relocation.invariant.1
