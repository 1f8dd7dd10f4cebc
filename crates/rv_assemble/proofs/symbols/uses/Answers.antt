use Rattle.std.proofs.Common.{◌≡◌, ◌++◌, subst}
use Rattle.rv_draft.specs.declared.field.OpenField.{OpenField}
use Rattle.rv_symbols.specs.SymbolUse.{uses_of}
use Rattle.rv_assemble.specs.Tabled.{open_field_use}
use Rattle.rv_assemble.proofs.UsesLemmas.{uses_more}
use Rattle.rv_assemble.proofs.symbols.uses.Goals as goal

pub loop-index-preserved : goal.loop-index-preserved
loop-index-preserved c =
    let before = uses_of c.loop-index.uses.items in
    let after = uses_of c.put_use.new.uses.items in
    uses_more c.loop-index.uses.items c.put_use.new.uses.items c.args.fields.now c.loop-index.index c.index-fields-index.result c.loop-index-test.true
    (subst (λ (field : OpenField). after ≡ before ++ open_field_use field) c.index-fields-index.is c.in_ok-put_use.ensures) c.loop-index.invariant
