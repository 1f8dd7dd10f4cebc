use Rattle.std.proofs.Common.{◌≡◌, ◌∙◌, inl, inr, ◌<◌, Option, None, length, take, arith}
use Rattle.std.proofs.lemmas.List.{length-map, length-set}
use Rattle.std.proofs.lemmas.Result.{err_from_is_err_and}
use Rattle.rv_debug_laws.specs.Carried.{merged_part_of}
use Rattle.rv_debug_sections.specs.Refused.{HasNone}
use Rattle.rv_debug_sections.specs.Views.{all_merged, plain_merged, plain_part, plain_source}
use Rattle.rv_debug_sections.specs.declared.fault.CarryFault.{CarryFault}
use Rattle.rv_debug_sections.proofs.StepLemmas.{as_long, part_read, left_more, parts_more, parts_none}
use Rattle.rv_debug_sections.proofs.merged.put_parts.Goals as goal

-- where a step is refused, the whole is
refused : {X Y : Type 0} (x : Option X) (y : Option Y) (fault : CarryFault) → (x ≡ None → y ≡ None) → HasNone x fault → HasNone y fault
refused x y fault so (inl memory) = inl memory
refused x y fault so (inr none) = inr (so none)

pub put_part-requires : goal.put_part-requires
put_part-requires c =
    let h : c.loop-index.index < length c.loop-index.merged.items =
    omega (arith, c.loop-index-test.true, c.len-index-end.ensures, c.loop-index.invariant.same_length) in
    part_read plain_part (merged_part_of c.args.source.now.view.file.now) plain_merged c.args.source.now.parts.now
    c.args.merged.now.items c.loop-index.merged.items c.loop-index.index (record { index = 0; place = 0 }) c.index_mut.result.now
    c.requires c.loop-index.invariant.same_length c.loop-index.invariant.left h c.index_mut.ensures.value

pub returns-in_err-put_part-clause-refuses : goal.returns-in_err-put_part-clause-refuses
returns-in_err-put_part-clause-refuses c =
    let parts = c.args.source.now.parts.now in
    let start = c.args.merged.now.items in
    let now = c.loop-index.merged.items in
    let h : c.loop-index.index < length now =
    omega (arith, c.loop-index-test.true, c.len-index-end.ensures, c.loop-index.invariant.same_length) in
    let many : length parts ≡ length start = as_long plain_part (merged_part_of c.args.source.now.view.file.now) parts (all_merged start) c.requires ∙ length-map start plain_merged in
    let p = err_from_is_err_and c.from_residual.result c.from_residual.ensures.1 in
    rw (p.1, p.2) (refused _ _ c.in_err-put_part.field-0.0
    (λ none. c.loop-index.invariant.grown
    ∙ parts_none (plain_source c.args.source.now) plain_part plain_merged (all_merged (take c.loop-index.index now)) parts now
    c.loop-index.index (record { index = 0; place = 0 }) c.index_mut.result.now
    (omega (arith, h, many, c.loop-index.invariant.same_length)) h c.index_mut.ensures.value none)
    c.in_err-put_part.ensures.refuses)

pub loop-index-preserved : goal.loop-index-preserved
loop-index-preserved c =
    let parts = c.args.source.now.parts.now in
    let start = c.args.merged.now.items in
    let now = c.loop-index.merged.items in
    let h : c.loop-index.index < length now =
    omega (arith, c.loop-index-test.true, c.len-index-end.ensures, c.loop-index.invariant.same_length) in
    let many : length parts ≡ length start = as_long plain_part (merged_part_of c.args.source.now.view.file.now) parts (all_merged start) c.requires ∙ length-map start plain_merged in
    record {
      same_length = length-set now c.loop-index.index c.put_part.new.merged ∙ c.loop-index.invariant.same_length;
      left = left_more now start c.loop-index.index c.put_part.new.merged c.loop-index.invariant.left;
      grown = c.loop-index.invariant.grown
          ∙ parts_more (plain_source c.args.source.now) plain_part plain_merged parts now
          c.loop-index.index (record { index = 0; place = 0 }) c.index_mut.result.now c.put_part.new.merged
          (omega (arith, h, many, c.loop-index.invariant.same_length)) h c.index_mut.ensures.value c.in_ok-put_part.ensures.grown;
    }
