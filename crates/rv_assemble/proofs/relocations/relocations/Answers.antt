use Rattle.std.proofs.Common.{length, map, ◌∙◌, ◌<◌, None, get_or, subst, sym}
use Rattle.rv_draft.specs.declared.field.OpenField.{OpenField}
use Rattle.rv_draft.specs.Draft.{field_of}
use Rattle.rv_assemble.specs.Lists.{GainsOne}
use Rattle.rv_assemble.specs.Making.{relocations_in}
use Rattle.rv_assemble.proofs.ListsSoFarLemmas.{next_inside, next_one}
use Rattle.rv_assemble.proofs.relocations.relocations.Goals as goal

pub put_relocation-requires : goal.put_relocation-requires
put_relocation-requires c =
    subst (λ (f : OpenField). f.section < length c.loop-index.lists.items) (sym c.index-fields-index.is)
    (next_inside c.args.fields.now c.loop-index.index c.index-fields-index.result c.args.count (length c.loop-index.lists.items) c.loop-index.invariant.0 c.loop-index-test.true c.requires.inside)

pub loop-index-preserved : goal.loop-index-preserved
loop-index-preserved c =
    let fields = c.args.fields.now in
    let numbers = c.args.numbers.now in
    let i = c.loop-index.index in
    let old = c.loop-index.lists.items in
    let new = c.put_relocation.new.lists.items in
    let gains = subst (λ (f : OpenField). GainsOne old new (field_of f) (get_or numbers i None)) c.index-fields-index.is c.in_ok-put_relocation.ensures in (
      c.in_ok-put_relocation.ensures.0 ∙ c.loop-index.invariant.0,
      next_one old new fields numbers i c.index-fields-index.result (λ j. relocations_in j (map field_of fields) numbers)
          c.loop-index-test.true c.requires.each gains c.loop-index.invariant.1,
    )
