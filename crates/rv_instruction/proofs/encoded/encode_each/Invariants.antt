use Rattle.std.proofs.Common.{◌≡◌, take, length, map, None}
use Rattle.rv_assemble_laws.specs.Coded.{AreCodedParts}
use Rattle.rv_instruction.specs.Code.{coded_by, shape_in, shape_of, part_of}
use Rattle.rv_instruction.proofs.encoded.encode_each.Given as goal

abbrev pub invariant-loop-template : goal.invariant-loop-template
invariant-loop-template l = record {
  made : AreCodedParts None l.fn.compressed (map part_of (take l.template-index l.templates)) (coded_by l.code.items);
  shapes : map shape_in l.code.items ≡ map (λ t. shape_of (part_of t)) (take l.template-index l.templates);
  count : length l.code.items ≡ l.template-index;
}
