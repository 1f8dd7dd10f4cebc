use Rattle.std.proofs.Common.{rules, arith, ◌≡◌, ◌+◌, sym, subst, take, map, None, ap, ◌∙◌}
use Rattle.std.specs.Prelude.{suc}
use Rattle.rv_assemble_laws.specs.Coded.{AreCodedParts}
use Rattle.rv_instruction.specs.Code.{coded_by, shape_in, shape_of, part_of}
use Rattle.rv_instruction.proofs.EncodingLemmas.{coded_more, shapes_more, shape_is}
use Rattle.rv_instruction.proofs.encoded.encode_each.Goals as goal

pub loop-template-preserved : goal.loop-template-preserved
loop-template-preserved c =
    let i = c.loop-template.template-index in
    let ts = c.args.templates.now in
    let t = c.template-item.result in
    let next : suc i ≡ i + 1 = omega arith in
    let so = coded_more c.args.compressed i ts t t c.loop-template.code.items _ c.loop-template-test.true c.template-item.is c.loop-template.invariant.made c.in_form-encoded.ensures.is in
    let shaped = shapes_more i ts t c.loop-template.code.items _ c.loop-template-test.true c.template-item.is c.loop-template.invariant.shapes (shape_is t.inst t.reloc c.in_form-encoded.result c.in_form-encoded.ensures.one) in
    record {
      made = subst (λ n. AreCodedParts None c.args.compressed (map part_of (take n ts)) (coded_by c.push.new.self.items)) next
          (subst (λ found. AreCodedParts None c.args.compressed (map part_of (take (suc i) ts)) (coded_by found)) (sym c.push.ensures.items) so);
      shapes = ap (map shape_in) c.push.ensures.items ∙ shaped ∙ ap (λ n. map (λ t. shape_of (part_of t)) (take n ts)) next;
      count = search rules;
    }
