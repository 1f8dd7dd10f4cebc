use Rattle.std.proofs.Common.{◌≡◌, ℕ, ◌<◌, ◌==◌, ◌++◌, List, None, Some, true, false, map, sym, subst, ap, ◌∙◌, arith, eq-eqb}
use Rattle.std.proofs.lemmas.Result.{on_ok_weaker}
use Rattle.rv_elf_laws.specs.declared.section_header.SectionHeader.{SectionHeader}
use Rattle.rv_elf_laws.specs.Sections.{file_contents, relas_in, section_count, section_header_of}
use Rattle.rv_object_types.specs.Parts.{relocation_of}
use Rattle.rv_object_reader.specs.Found.{place_at, section_at}
use Rattle.rv_object_file_laws.specs.FirstFault.{is_linked, first_fault}
use Rattle.rv_object_file_laws.specs.Parts.{is_loaded, relocations_in}
use Rattle.rv_object_reader.proofs.CollectingLemmas.{linked, rela_within, lists_unloaded, lists_unkept, lists_here, place_below}
use Rattle.rv_object_reader.proofs.TablesLemmas.{few_sections}
use Rattle.rv_object_reader.proofs.relocations.collect.Goals as goal

-- the section that relocations name is one of the file's
within : (file : List ℕ) (i : ℕ) (h : SectionHeader) → first_fault file ≡ None → 0 < i → i < section_count file → h ≡ section_header_of file i → h.sh_type ≡ 4 → h.sh_info < section_count file
within file i h none low high at rela =
    rela_within file h (subst (λ g. is_linked file g ≡ true) (sym at) (linked file none i low high)) (eq-eqb h.sh_type 4 rela)

pub overflow_cast-target : goal.overflow_cast-target
overflow_cast-target c =
    let checked = c.args.checked.now in
    let file = checked.view.file.now in
    let below = within file c.args.index.0 c.section_header-header.result checked.good c.requires.some c.requires.within c.section_header-header.ensures (omega arith) in
    record { fits = omega (arith, below, few_sections file checked.good) }

pub section_header-requires : goal.section_header-requires
section_header-requires c =
    let checked = c.args.checked.now in
    within checked.view.file.now c.args.index.0 c.section_header-header.result checked.good c.requires.some c.requires.within c.section_header-header.ensures (omega arith)

pub returns-then-not-is_loaded : goal.returns-then-not-is_loaded
returns-then-not-is_loaded c = λ before was.
    let file = c.args.checked.now.view.file.now in
    let i = c.args.index.0 in
    let out : is_loaded (section_header_of file c.section_header-header.result.sh_info) ≡ false =
    ap is_loaded (sym c.section_header.ensures) ∙ sym c.is_loaded.ensures ∙ c.if-not-is_loaded.true in
    was ∙ lists_unloaded file before (section_at file i) (subst (λ h. is_loaded (section_header_of file h.sh_info) ≡ false) c.section_header-header.ensures out)

pub place-requires : goal.place-requires
place-requires c =
    let checked = c.args.checked.now in
    within checked.view.file.now c.args.index.0 c.section_header-header.result checked.good c.requires.some c.requires.within c.section_header-header.ensures (omega arith)

pub index_mut-requires : goal.index_mut-requires
index_mut-requires c =
    let below = place_below c.args.checked.now.view.file.now c.section_header-header.result.sh_info c.in-Some.place (sym c.in-Some.ensures.place) in
    omega (arith, below, c.requires.long)

pub returns-in-Some : goal.returns-in-Some
returns-in-Some c =
    let file = c.args.checked.now.view.file.now in
    let i = c.args.index.0 in
    let at = c.section_header-header.ensures in
    let lists = c.args.lists.now.items in
    let old = c.index_mut.result.now in
    let rela = eq-eqb c.section_header-header.result.sh_type 4 (omega arith) in
    let loaded : is_loaded (section_header_of file c.section_header-header.result.sh_info) ≡ true =
    ap is_loaded (sym c.section_header.ensures) ∙ sym c.is_loaded.ensures ∙ c.if-not-is_loaded.false in
    on_ok_weaker c.append.result
    (λ told. λ before was. lists_here file before (section_at file i) c.in-Some.place lists old c.append.new.list
    (subst (λ h. (h.sh_type == 4) ≡ true) at rela)
    (subst (λ h. is_loaded (section_header_of file h.sh_info) ≡ true) at loaded)
    (subst (λ h. place_at file h.sh_info ≡ Some c.in-Some.place) at (sym c.in-Some.ensures.place))
    c.index_mut.ensures.value
    (told ∙ ap (λ bytes. map relocation_of old.items ++ relocations_in (relas_in bytes)) (c.contents.ensures ∙ ap (file_contents file) at))
    was)
    c.append.ensures

pub returns-in-None : goal.returns-in-None
returns-in-None c = λ before was.
    let file = c.args.checked.now.view.file.now in
    was ∙ lists_unkept file before (section_at file c.args.index.0) (subst (λ h. place_at file h.sh_info ≡ None) c.section_header-header.ensures (sym c.in-None.ensures.place))
