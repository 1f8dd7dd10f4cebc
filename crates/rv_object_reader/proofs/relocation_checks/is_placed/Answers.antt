use Rattle.std.proofs.Common.{sym, ap, ◌∙◌}
use Rattle.rv_object_laws.specs.Valid.{is_padding}
use Rattle.rv_object_file_laws.specs.Parts.{extent_of}
use Rattle.rv_object_reader.specs.Stretches.{placed}
use Rattle.rv_object_reader.proofs.RelocationStepsLemmas.{held_inside}
use Rattle.rv_object_reader.proofs.relocation_checks.is_placed.Goals as goal

pub put-requires : goal.put-requires
put-requires c = record {
  inside = held_inside c.args.header.now (placed c.args.rela.now c.in-Some.kind) (sym c.fits.ensures ∙ c.if-not-fits.false)
      (ap (λ b. is_padding b (extent_of c.args.header.now) (placed c.args.rela.now c.in-Some.kind)) (sym c.if-not-is_code.false ∙ c.is_code.ensures)
      ∙ (sym c.is_padding.ensures ∙ c.if-not-is_padding.false));
}
