use Rattle.std.proofs.Common.{rules, ◌<◌, ◌+◌, ◌∙◌, length, drop, ap}
use Rattle.std.proofs.lemmas.List.{drop_more}
use Rattle.rv_list_laws.proofs.MapLemmas.{drop_map_or}
use Rattle.rv_statement.specs.View.{statement_kind}
use Rattle.rv_assemble_laws.specs.CodeFields.{relax_fields}
use Rattle.rv_instruction.specs.declared.encoded.Coded.{Coded}
use Rattle.rv_instruction.specs.Code.{encoded_bytes, coded_by}
use Rattle.rv_draft.specs.Spots.{own_opens}
use Rattle.rv_draft.proofs.LeftLemmas.{long_more}
use Rattle.rv_draft.proofs.CodeFieldsLemmas.{coded_more}
use Rattle.rv_draft.proofs.fields.put_parts.Goals as goal

pub loop-part-preserved : goal.loop-part-preserved
loop-part-preserved c =
    let i = c.loop-part.part-index in
    let xs = c.args.code.now in
    let spot = c.args.spot.now in
    let place = c.loop-part.place in
    let inside : i < length xs = search rules in
    let long = c.from-place.ensures ∙ c.width.ensures.size in
    record {
      place = long_more (drop i (coded_by xs)) (drop (i + 1) (coded_by xs)) _ place c.from-place.result _
          (drop_map_or (λ (c : Coded). encoded_bytes c.encoded) xs i _ inside) long c.loop-part.invariant.place;
      fields = λ index f s own.
          coded_more (own_opens spot index (statement_kind c.args.statement.now.kind)) (relax_fields c.args.relax spot.ordinal) spot.place.section place (place + c.from-place.result) _
          (drop i xs) (drop (i + 1) xs) _ _ _ (drop_more xs i _ inside) (ap (λ n. place + n) long) (c.in_ok-put_part.ensures index f s own) (c.loop-part.invariant.fields index f s own);
    }
