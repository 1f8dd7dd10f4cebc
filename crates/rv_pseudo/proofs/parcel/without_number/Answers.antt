use Rattle.std.proofs.Common.{refl, ap, ◌∙◌, ◌∷◌, []}
use Rattle.rv_fault.specs.declared.source_fault.SourceCode.TheVariants.{UnsupportedHere}
use Rattle.rv_statement.specs.declared.statement.Plain.TheVariants as plains
use Rattle.rv_pseudo.specs.Templates.{plain}
use Rattle.rv_pseudo.proofs.ParcelRowsLemmas.{bare_templates, bare_none}
use Rattle.rv_pseudo.proofs.TableLemmas.{bare_found, bare_unplaced}
use Rattle.rv_pseudo.proofs.parcel.without_number.Goals as goal

pub returns-in-Some : goal.returns-in-Some
returns-in-Some c = λ rvc.
    bare_found (plains.Parcel c.args.operation c.args.a c.args.b) rvc c.one.result
    (bare_templates c.args.operation c.args.a c.args.b c.form_bare.result c.in-Some.form c.one.result.items c.form_bare.ensures.is c.in-Some.is
    (c.one.ensures ∙ ap (λ t. t ∷ []) (c.plain.ensures ∙ ap plain c.expanded.ensures.same)) rvc)

pub returns-in-None : goal.returns-in-None
returns-in-None c = λ rvc.
    bare_unplaced (plains.Parcel c.args.operation c.args.a c.args.b) rvc UnsupportedHere refl
    (bare_none c.args.operation c.args.a c.args.b c.form_bare.result c.form_bare.ensures.is c.in-None.is)
