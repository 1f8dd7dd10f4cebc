use Rattle.std.proofs.Common.{sym, subst, ap, ◌∙◌, ◌≡◌, true, false, map, None}
use Rattle.std.specs.Prelude.{◌&&◌}
use Rattle.rv_pseudo_laws.specs.Filled.{are_closed}
use Rattle.rv_assemble_laws.specs.Coded.{AreCodedParts}
use Rattle.rv_instruction.specs.Code.{coded_by, parts_in, part_of, shape_of, is_pair, AreCodable}
use Rattle.rv_instruction.proofs.EncodingLemmas.{pair_coded, pair_shapes, each_coded, each_codable, each_parts, each_shapes}
use Rattle.rv_instruction.proofs.encoded.encode_all.Goals as goal

pub returns-then-is_pair-clause-parts : goal.returns-then-is_pair-clause-parts
returns-then-is_pair-clause-parts c =
    let ts = c.as_slice-all.result.now in
    let pair : is_pair ts ≡ true = sym c.is_pair.ensures ∙ c.if-is_pair.true in
    subst (λ all. AreCodedParts None (c.args.compressed && are_closed (parts_in all)) (parts_in all) (coded_by c.encode_pair.result.items)) c.as_slice-all.ensures.value
    (pair_coded (c.args.compressed && are_closed (parts_in ts)) ts c.index-all-0.result c.index-all-1.result (coded_by c.encode_pair.result.items) pair (c.encode_pair.ensures.parts (c.args.compressed && are_closed (parts_in ts))))

pub returns-then-is_pair-clause-shapes : goal.returns-then-is_pair-clause-shapes
returns-then-is_pair-clause-shapes c =
    let ts = c.as_slice-all.result.now in
    let pair : is_pair ts ≡ true = sym c.is_pair.ensures ∙ c.if-is_pair.true in
    c.encode_pair.ensures.shapes ∙ sym (pair_shapes ts c.index-all-0.result c.index-all-1.result pair c.index-all-0.is c.index-all-1.is)
    ∙ ap (λ all. map shape_of (parts_in all)) c.as_slice-all.ensures.value

pub encode_each-requires-clause-codable : goal.encode_each-requires-clause-codable
encode_each-requires-clause-codable c =
    let ts = c.as_slice-all.result.now in
    let none : is_pair ts ≡ false = sym c.is_pair.ensures ∙ c.if-is_pair.false in
    each_codable ts none (subst AreCodable (sym c.as_slice-all.ensures.value) c.requires)

pub returns-clause-parts : goal.returns-clause-parts
returns-clause-parts c =
    let ts = c.as_slice-all.result.now in
    let none : is_pair ts ≡ false = sym c.is_pair.ensures ∙ c.if-is_pair.false in
    subst (λ all. AreCodedParts None (c.args.compressed && are_closed (parts_in all)) (parts_in all) (coded_by c.encode_each.result.items)) c.as_slice-all.ensures.value
    (each_coded c.args.compressed ts (coded_by c.encode_each.result.items) none
    (subst (λ b. AreCodedParts None b (map part_of ts) (coded_by c.encode_each.result.items)) c.may_compress.ensures c.encode_each.ensures.parts))

pub returns-clause-shapes : goal.returns-clause-shapes
returns-clause-shapes c =
    let ts = c.as_slice-all.result.now in
    let none : is_pair ts ≡ false = sym c.is_pair.ensures ∙ c.if-is_pair.false in
    c.encode_each.ensures.shapes ∙ each_shapes ts ∙ ap (map shape_of) (sym (each_parts ts none)) ∙ ap (λ all. map shape_of (parts_in all)) c.as_slice-all.ensures.value
