use Rattle.std.proofs.Common.{rules, ◌≡◌, ◌++◌, ◌∙◌, true, false, map, [], List, sym, ap, if◌then◌else◌}
use Rattle.std.proofs.lemmas.Result.{on_ok_weaker}
use Rattle.rv_statement.specs.View.{statement_kind}
use Rattle.rv_unit_laws.specs.Tables.{tables}
use Rattle.rv_unit.specs.Unit.{said}
use Rattle.rv_assemble_laws.specs.Fields.{Field, fields_from}
use Rattle.rv_draft.specs.DataParts.{is_alignment, padding_said, code_said}
use Rattle.rv_draft.specs.Draft.{field_of}
use Rattle.rv_draft.specs.Seated.{laid_of}
use Rattle.rv_draft.proofs.CodeFieldsLemmas.{aligned_said}
use Rattle.rv_draft.proofs.fields.put_code.Goals as goal

pub returns-then-is_alignment : goal.returns-then-is_alignment
returns-then-is_alignment c = λ index f s l coded at size is.
    let spot = c.args.spot.now in
    let says = statement_kind c.args.statement.now.kind in
    let x = c.args.item in
    let loaded : spot.loaded ≡ true = search rules in
    let aligned : is_alignment says ≡ true = search rules in
    let all : List Field = fields_from spot.place.section x.offset (code_said (tables (said spot.scope.now.unit.now)) (laid_of l x coded) l.kind) in
    c.in_ok-put_padding.ensures
    ∙ ap (λ g. map field_of c.args.fields.now.items ++ g)
    (ap (λ o. fields_from spot.place.section x.offset (padding_said o x.bytes)) (at.ordinal ∙ sym at.own)
    ∙ ap (fields_from spot.place.section x.offset) (sym (aligned_said (tables (said spot.scope.now.unit.now)) (laid_of l x coded) l.kind (ap is_alignment at.kind ∙ aligned)))
    ∙ ap (λ b. if b then all else []) (sym loaded))

pub returns : goal.returns
returns c =
    let spot = c.args.spot.now in
    let says = statement_kind c.args.statement.now.kind in
    let x = c.args.item in
    let loaded : spot.loaded ≡ true = search rules in
    let plain : is_alignment says ≡ false = search rules in
    on_ok_weaker c.put_instruction.result
    (λ told index f s l coded at size is.
    let all : List Field = fields_from spot.place.section x.offset (code_said (tables (said spot.scope.now.unit.now)) (laid_of l x coded) l.kind) in
    told index f s l coded at (ap is_alignment at.kind ∙ plain) size is
    ∙ ap (λ g. map field_of c.args.fields.now.items ++ g) (ap (λ b. if b then all else []) (sym loaded)))
    c.put_instruction.ensures
