use Rattle.std.proofs.Common.{◌≡◌, ◌++◌, ◌∙◌, ◌%◌, ◌^◌, ap}
use Rattle.rv_elf_laws.specs.Records.{section_header_bytes}
use Rattle.rv_object_file_laws.specs.Written.{UnplacedSection, strings_of, name_offset, header_of}
use Rattle.rv_object_writer.specs.Pieces.{piece_of}
use Rattle.rv_object_writer.proofs.CutLemmas.{section_cut}
use Rattle.rv_object_writer.proofs.writing.put_section_header.Goals as goal

pub returns : goal.returns
returns c = λ ns at table here.
    let p : UnplacedSection = piece_of c.args.piece.now in
    let name : c.offset-name.result ≡ name_offset ns p.name = c.offset-name.ensures (strings_of ns) table in
    c.in_ok-section_header.ensures.ok ∙ ap (λ l. c.args.out.now ++ l) (
    (λ i. section_header_bytes (record {
      sh_name = name i % 2 ^ 32;
      sh_type = p.kind;
      sh_flags = p.flags;
      sh_addr = 0;
      sh_offset = here i;
      sh_size = p.size % 2 ^ 64;
      sh_link = p.link % 2 ^ 32;
      sh_info = p.info % 2 ^ 32;
      sh_addralign = p.alignment;
      sh_entsize = p.entry_size;
    })) ∙ section_cut (header_of ns at p) (name_offset ns p.name) p.size p.link p.info)
