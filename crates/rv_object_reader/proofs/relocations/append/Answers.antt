use Rattle.std.proofs.Common.{◌+◌, ◌*◌, ◌-◌, ◌/◌, ◌∷◌, ◌++◌, length, map, ap, sym, ◌∙◌, arith}
use Rattle.rv_elf_laws.specs.Records.{rela_at}
use Rattle.rv_elf_laws.specs.Sections.{records, relas_in}
use Rattle.rv_object_types.specs.Parts.{relocation_of}
use Rattle.rv_object_file_laws.specs.Parts.{relocations_in}
use Rattle.rv_object_reader.proofs.MadeLemmas.{records_next}
use Rattle.rv_object_reader.proofs.RelasLemmas.{relas_some, relas_none}
use Rattle.rv_object_reader.proofs.relocations.append.Goals as goal

pub loop-index-preserved-in_default : goal.loop-index-preserved-in_default
loop-index-preserved-in_default c =
    let bytes = c.args.bytes.now in let count = length bytes / 24 in let i = c.loop-index.index in
    let rest = records rela_at 24 (count - (i + 1)) (24 * (i + 1)) bytes in
    relas_none (map relocation_of c.args.list.now.items ++ relocations_in (relas_in bytes)) c.loop-index.list.items c.rela_from.result _ rest
    c.loop-index.invariant
    (records_next rela_at 24 count i (24 * i) (24 * (i + 1)) bytes (omega arith) (omega arith) ∙ ap (λ r. r ∷ rest) (sym c.rela_from.ensures))
    c.in_default.ensures

pub loop-index-preserved : goal.loop-index-preserved
loop-index-preserved c =
    let bytes = c.args.bytes.now in let count = length bytes / 24 in let i = c.loop-index.index in
    let rest = records rela_at 24 (count - (i + 1)) (24 * (i + 1)) bytes in
    relas_some (map relocation_of c.args.list.now.items ++ relocations_in (relas_in bytes)) c.loop-index.list.items c.push.new.self.items c.rela_from.result c.in-Some.relocation _ rest
    c.loop-index.invariant
    (records_next rela_at 24 count i (24 * i) (24 * (i + 1)) bytes (omega arith) (omega arith) ∙ ap (λ r. r ∷ rest) (sym c.rela_from.ensures))
    c.in-Some.ensures c.in_ok-push.ensures.items
