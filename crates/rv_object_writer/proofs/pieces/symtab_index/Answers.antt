use Rattle.std.proofs.Common.{◌≡◌, ◌+◌, ◌∙◌, ◌==◌, not, sym, ap, map, filter, length, arith}
use Rattle.std.proofs.lemmas.List.{length-map}
use mir.Val.{bool_byte}
use Rattle.rv_object_types.specs.Sections.{section_of}
use Rattle.rv_object_file_laws.specs.Written.{row_pieces, has_relocations}
use Rattle.rv_object_file_laws.proofs.GroupsLemmas.{length-relas}
use Rattle.rv_object_writer.specs.Pieces.{rela_piece}
use Rattle.rv_object_writer.proofs.StepsLemmas.{rows_count}
use Rattle.rv_object_writer.proofs.pieces.symtab_index.Goals as goal

pub returns-clause-at : goal.returns-clause-at
returns-clause-at c =
    let o = c.args.object.now in
    let ts = c.args.relocations.now in
    let long : length (map section_of o.sections.items) ≡ length o.sections.items = length-map o.sections.items section_of in
    let sections : c.len.result ≡ length (map section_of o.sections.items) = omega (arith, long, c.len.ensures, o.sections.ok.0) in
    let tables : length ts ≡ length (filter has_relocations (map section_of o.sections.items)) =
    sym (length-map ts (rela_piece 0)) ∙ ap length c.requires ∙ length-relas 0 1 (map section_of o.sections.items) in
    let count : o.rows.len ≡ length o.rows.items = omega (arith, o.rows.ok.0) in
    let rows : c.from-rows.result ≡ length (row_pieces o.rows.items) =
    c.from-rows.ensures ∙ ap (λ b. bool_byte (not b)) c.is_empty.ensures ∙ ap (λ n. bool_byte (not (n == 0))) count ∙ rows_count o.rows.items in
    λ i. 1 + sections i + tables i + rows i
