use Rattle.std.proofs.Common.{length, ap, ◌∙◌, sym, subst, arith}
use Rattle.std.specs.Prelude.{flat_map}
use Rattle.rv_unit_laws.specs.Tables.{tables}
use Rattle.rv_unit.specs.Unit.{said}
use Rattle.rv_assemble_laws.specs.ShownNames.{used_names, AreShown}
use Rattle.rv_symbols.specs.SymbolUse.{AreMeant, uses_of}
use Rattle.rv_assemble.specs.Tabled.{open_field_use}
use Rattle.rv_assemble.proofs.UsesLemmas.{uses_shown, uses_meant, items_count, few_symbols}
use Rattle.rv_assemble.proofs.symbols.table.Goals as goal

pub symbols-requires-clause-shown : goal.symbols-requires-clause-shown
symbols-requires-clause-shown c =
    subst AreShown (sym (ap uses_of c.as_slice-3.ensures.value ∙ c.in_ok-uses.ensures ∙ ap (flat_map open_field_use) c.as_slice.ensures.value))
    (uses_shown (said c.args.unit.now) c.args.draft.now c.requires.draft c.requires.names)

pub symbols-requires-clause-meant : goal.symbols-requires-clause-meant
symbols-requires-clause-meant c =
    subst (AreMeant (tables (said c.args.unit.now))) (sym (ap uses_of c.as_slice-3.ensures.value ∙ c.in_ok-uses.ensures ∙ ap (flat_map open_field_use) c.as_slice.ensures.value))
    (uses_meant (said c.args.unit.now) c.args.draft.now c.requires.draft c.requires.names)

pub symbols-requires-clause-each : goal.symbols-requires-clause-each
symbols-requires-clause-each c =
    ap length c.as_slice-2.ensures.value ∙ items_count (said c.args.unit.now) c.args.draft.now c.requires.draft

pub symbols-requires-clause-few : goal.symbols-requires-clause-few
symbols-requires-clause-few c =
    let d = c.args.draft.now in
    let stand = ap length c.as_slice-2.ensures.value in
    let named = ap (λ l. length (used_names l)) (ap uses_of c.as_slice-3.ensures.value ∙ c.in_ok-uses.ensures ∙ ap (flat_map open_field_use) c.as_slice.ensures.value) in
    let few = few_symbols (said c.args.unit.now) d c.requires.draft c.requires.small in
    omega (arith, stand, named, few)
