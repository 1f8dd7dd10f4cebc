use Rattle.std.proofs.Common.{rules, ◌≡◌, Some, sym, ap, ◌∙◌, w64, FitsSigned, to_z, of_z}
use Rattle.std.proofs.lemmas.Int.{to_z-of_z}
use Rattle.std.proofs.lemmas.Result.{err_from_is_err_and}
use Rattle.rv_object_types.specs.Parts.{relocation_of}
use Rattle.rv_shorten.specs.Sections.{short_section_of}
use Rattle.rv_placement.specs.Placement.{starts_of, layout_of}
use Rattle.rv_link_laws.specs.Untaken.{IsValueOf}
use Rattle.rv_link_laws.specs.Layout.{outer_in}
use Rattle.rv_link.specs.Filled.{objects_of, input_of}
use Rattle.rv_link.proofs.GrowingLemmas.{found_section}
use Rattle.rv_link.proofs.fixed.Fixed.value.Goals as goal

pub returns : goal.returns
returns c =
    let f = c.args.self.now in
    let x = c.args.input.now in
    let v = c.in_ok-value.value in
    let told : IsValueOf (outer_in (objects_of f) (layout_of f.placement.now)) (starts_of f.placement.now) (objects_of f) (input_of f x) (relocation_of c.args.relocation.now) v =
    c.in_ok-value.ensures.value (objects_of f) f.placement.now (input_of f x) c.requires.fixed.valued (found_section (objects_of f) x.file.0 x.index.0 (short_section_of x.section.now) c.requires.input.stands) in
    let fits : FitsSigned w64 v = search rules in
    let same : to_z w64 (of_z w64 v) ≡ v = to_z-of_z w64 v fits in
    record { found = told.0 ∙ ap (λ n. Some n) (sym same); alone = told.1; refuses = tt }

pub returns-in_err-value-clause-refuses : goal.returns-in_err-value-clause-refuses
returns-in_err-value-clause-refuses c =
    let f = c.args.self.now in
    let x = c.args.input.now in
    let found = err_from_is_err_and c.from_residual.result c.from_residual.ensures.1 in
    rw (found.1, found.2) (c.in_err-value.ensures.refuses (objects_of f) f.placement.now (input_of f x) c.requires.fixed.valued (found_section (objects_of f) x.file.0 x.index.0 (short_section_of x.section.now) c.requires.input.stands))
