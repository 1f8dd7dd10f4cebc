use Rattle.std.proofs.Common.{◌≡◌, Some, None, Option, option_map, ap, sym, ◌∙◌}
use Rattle.std.specs.Prelude.{unwrap_or}
use Rattle.std.specs.List.{slice_get}
use Rattle.rv_object_laws.specs.Object.{Object}
use Rattle.rv_object_types.specs.Parts.{symbol_of}
use Rattle.rv_cut_laws.specs.Cutting.{cut_definition}
use Rattle.rv_shorten.specs.View.{moves_by_section, whole_object_of}
use Rattle.rv_addresses.specs.Extents.{sizes_in, definition_end}
use Rattle.rv_addresses.proofs.EndsLemmas.{ended_is, ended_past, end_there, end_past}
use Rattle.rv_addresses.proofs.extents.end_at.Goals as goal

pub returns-in_err-object : goal.returns-in_err-object
returns-in_err-object c = λ e at.
    absurd (let none : ◌≡◌ {A = Option Object} None (Some e) = sym (ended_past (sizes_in c.args.sizes.now) c.args.objects.now c.args.file.0 c.in_err-object.ensures.lookup.3) ∙ at in cc)

pub returns-in_err-symbol : goal.returns-in_err-symbol
returns-in_err-symbol c = λ e at.
    let sizes = sizes_in c.args.sizes.now in
    let x = c.in_ok-object.object.now in
    let file = c.in_ok-object.ensures.lookup in
    let own = ended_is sizes c.args.objects.now c.args.file.0 x e file.3.0 file.1 at in
    ap (option_map _) c.from_residual-in_err-symbol.ensures
    ∙ sym (end_past (sizes c.args.file.0) x c.deref.result.now c.args.index.0 c.deref.ensures.value c.in_err-symbol.ensures.lookup.3)
    ∙ ap (λ (p : Object). slice_get p.symbols c.args.index.0) own

pub returns : goal.returns
returns c = λ e at.
    let sizes = sizes_in c.args.sizes.now in
    let x = c.in_ok-object.object.now in
    let y = c.in_ok-symbol.symbol.now in
    let file = c.in_ok-object.ensures.lookup in
    let symbol = c.in_ok-symbol.ensures.lookup in
    let own = ended_is sizes c.args.objects.now c.args.file.0 x e file.3.0 file.1 at in
    let size = c.unwrap_or-size.ensures ∙ ap (λ f. unwrap_or f 0) c.size_at.ensures in
    let end = c.definition.ensures ∙ ap (cut_definition (moves_by_section x)) (c.definition_end.ensures ∙ ap (λ n. definition_end (whole_object_of x) n y.definition) size) in
    ap (λ d. Some (record (symbol_of y) { definition = d })) end
    ∙ sym (end_there (sizes c.args.file.0) x c.deref.result.now c.args.index.0 c.deref.ensures.value y symbol.3.0 symbol.1)
    ∙ ap (λ (p : Object). slice_get p.symbols c.args.index.0) own
