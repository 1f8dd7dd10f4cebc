use Rattle.std.proofs.Common.{List, subst}
use Rattle.std.proofs.lemmas.List.Elements.{All-more}
use Rattle.std.specs.List.{AllByRecursion}
use Rattle.rv_list_laws.proofs.EachLemmas.{each_map_passed}
use Rattle.rv_object_laws.specs.Object.{Section as PlainSection}
use Rattle.rv_object_types.specs.declared.section.Section.{Section}
use Rattle.rv_object_types.specs.Sections.{section_of}
use Rattle.rv_object_file_laws.specs.Known.{IsRelocation}
use Rattle.rv_object_writer.proofs.StepsLemmas.{relas_step}
use Rattle.rv_object_writer.proofs.tables.rela_tables.Goals as goal

abbrev AreKnown : PlainSection → Type 0
AreKnown s = AllByRecursion IsRelocation s.relocations

abbrev IsKnown : Section → Type 0
IsKnown s = AreKnown (section_of s)

pub loop-i-preserved : goal.loop-i-preserved
loop-i-preserved c =
    let xs : List Section = c.args.sections.now in
    let x : Section = c.index-sections-i.result in (
      λ symtab. relas_step symtab c.loop-i.i xs x c.loop-i-test.true c.index-sections-i.is _ _ _ (c.in_ok-put_rela_table.ensures.added symtab)
          (c.loop-i.invariant.0 symtab),
      All-more IsKnown xs c.loop-i.i x c.loop-i-test.true c.loop-i.invariant.1 (subst IsKnown c.index-sections-i.is c.in_ok-put_rela_table.ensures.known),
    )

pub returns-clause-known : goal.returns-clause-known
returns-clause-known c = each_map_passed AreKnown section_of c.args.sections.now c.loop-i.i c.loop-i-test.false c.loop-i.invariant.1
