use Rattle.std.proofs.Common.{◌≡◌, ◌^◌, ◌<◌, drop}
use Rattle.rv_archive_laws.specs.Decimal.{decimal_from}
use Rattle.rv_archive.proofs.decimal.decimal.Given as goal

-- the number so far, read on, is that of the field
abbrev pub invariant-loop-i : goal.invariant-loop-i
invariant-loop-i l = record {
  read : decimal_from l.number (drop l.i l.field) ≡ decimal_from 0 l.field;
  small : l.number < 10 ^ l.i;
}
