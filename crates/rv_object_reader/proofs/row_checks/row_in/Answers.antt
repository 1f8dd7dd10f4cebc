use Rattle.std.proofs.Common.{◌*◌, ◌∙◌, arith}
use Rattle.rv_object_file_laws.specs.Rows as at
use Rattle.rv_object_reader.proofs.NumbersLemmas.{number_cut}
use Rattle.rv_object_reader.proofs.row_checks.row_in.Goals as goal

pub returns : goal.returns
returns c =
    let bytes = c.args.bytes.now in
    let p = 32 * c.args.index in
    λ i. record {
      r_line = (c.word.ensures ∙ number_cut at.line p _ bytes (omega arith)) i;
      r_ordinal = (c.word-2.ensures ∙ number_cut at.ordinal p _ bytes (omega arith)) i;
      r_section = (c.word-3.ensures ∙ number_cut at.section p _ bytes (omega arith)) i;
      r_instructions = (c.word-4.ensures ∙ number_cut at.instructions p _ bytes (omega arith)) i;
      r_offset = (c.double.ensures ∙ number_cut at.offset p _ bytes (omega arith)) i;
      r_bytes = (c.word-5.ensures ∙ number_cut at.bytes p _ bytes (omega arith)) i;
      r_reserved = (c.word-6.ensures ∙ number_cut at.reserved p _ bytes (omega arith)) i;
    }
