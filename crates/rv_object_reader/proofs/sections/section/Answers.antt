use Rattle.std.proofs.Common.{◌≡◌, [], max, unwrap_or, map, ap, ◌∙◌, arith}
use Rattle.rv_elf_laws.specs.Sections.{section_header_of}
use Rattle.rv_object_types.specs.Parts.{contents_of, relocation_of}
use Rattle.rv_object_file_laws.specs.Parts.{name_of, contents_in, is_loaded, is_executable, is_writable}
use Rattle.rv_object_reader.proofs.ValidSectionsLemmas.{valid_by}
use Rattle.rv_object_reader.proofs.sections.section.Goals as goal

pub invariant_of-result : goal.invariant_of-result
invariant_of-result c =
    let checked = c.args.checked.now in
    let file = checked.view.file.now in
    let at = c.section_header-header.ensures in
    let name = c.name.ensures ∙ ap (λ h. unwrap_or (name_of file h) []) at in
    let loaded = c.is_loaded.ensures ∙ ap is_loaded at in
    let executable = c.is_executable.ensures ∙ ap is_executable at in
    let writable = c.is_writable.ensures ∙ ap is_writable at in
    let contents = c.contents.ensures ∙ ap (contents_in file) at in
    let alignment : c.max.result ≡ max 1 (section_header_of file c.args.index.0).sh_addralign = omega (arith, c.max.ensures, ap (λ h. h.sh_addralign) at) in
    let valid = valid_by file checked.good c.args.index.0 c.requires.some c.requires.within c.requires.kept
    (record {
      name = c.name.result.now;
      loaded = c.is_loaded.result;
      executable = c.is_executable.result;
      writable = c.is_writable.result;
      contents = contents_of c.contents.result;
      alignment = c.max.result;
      relocations = map relocation_of c.args.relocations.items;
    })
    (λ i. record {
      name = name i;
      loaded = loaded i;
      executable = executable i;
      writable = writable i;
      contents = contents i;
      alignment = alignment i;
      relocations = c.requires.own i;
    }) in
    record {
      named = valid.ends;
      kept = valid.keeps;
      aligned = valid.aligned;
      even = valid.even;
      alone = valid.alone;
      inside = valid.inside;
      paddings = valid.paddings;
    }
