use Rattle.std.proofs.Common.{◌≡◌, drop, map}
use Rattle.rv_isa_laws.specs.Reader.{Reader}
use Rattle.rv_isa_laws.specs.Word.{Spells}
use Rattle.rv_parcel.specs.Parcel.{StandsFor}
use Rattle.rv_image.specs.SegmentView.{segment_of}
use Rattle.rv_disasm.specs.Fitting as fitting
use Rattle.rv_disasm.proofs.fitting.rows_fit.Given as goal

abbrev pub invariant-loop-row : goal.invariant-loop-row
invariant-loop-row l =
    (reader : Reader Spells StandsFor) →
    fitting.rows_fit reader (map segment_of l.segments) l.remaining (drop l.row-index l.rows) ≡ fitting.rows_fit reader (map segment_of l.segments) l.room l.rows
