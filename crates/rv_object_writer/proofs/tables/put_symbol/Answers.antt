use Rattle.std.proofs.Common.{◌≡◌, ◌++◌, ◌∙◌, ◌*◌, ◌%◌, ◌^◌, ap}
use Rattle.rv_elf_laws.specs.Records.{symbol_bytes}
use Rattle.rv_object_laws.specs.Object.{Symbol}
use Rattle.rv_object_types.specs.Parts.{symbol_of}
use Rattle.rv_object_file_laws.specs.Written.{strings_of, name_offset, section_index_of, symbol_record}
use Rattle.rv_object_writer.proofs.CutLemmas.{symbol_cut}
use Rattle.rv_object_writer.proofs.tables.put_symbol.Goals as goal

pub returns-clause-written : goal.returns-clause-written
returns-clause-written c = λ ns table.
    let s : Symbol = symbol_of c.args.symbol.now in
    let last = c.args.last in
    let name : c.offset-name.result ≡ name_offset ns s.name = c.offset-name.ensures (strings_of ns) table in
    c.in_ok-symbol.ensures.ok ∙ ap (λ l. c.args.out.now ++ l) (
    (λ i. symbol_bytes (record {
      st_name = name i % 2 ^ 32;
      st_info = c.binding.ensures i * 16;
      st_other = 0;
      st_shndx = c.section_index.ensures i;
      st_value = c.value.ensures.is i;
      st_size = 0;
    })) ∙ symbol_cut (symbol_record ns last s) (name_offset ns s.name) (section_index_of last s.definition))

pub returns-clause-known : goal.returns-clause-known
returns-clause-known c = record { shown = c.args.symbol.now.shown; value = c.value.ensures.small }
