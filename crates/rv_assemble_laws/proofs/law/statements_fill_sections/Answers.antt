use Rattle.std.proofs.Common.{◌≡◌, ◌∙◌, ◌+◌, arith, length, flat_map}
use Rattle.rv_assemble_laws.specs.LaidStatements.{part_bytes, parts}
use Rattle.rv_assemble_laws.proofs.FilledLemmas.{filled}
use Rattle.rv_assemble_laws.proofs.law.statements_fill_sections.Goals as goal

-- src/law.rt:8:1
pub returns : goal.returns
returns c = λ t laid h. filled t 0 laid h ∙ (let n = length (flat_map part_bytes (parts t laid)) in let e : 0 + n ≡ n = omega arith in e)
