use Rattle.std.proofs.Common.{◌≡◌, ◌<◌, ◌^◌, drop}
use Rattle.std.specs.List.{list_all}
use Rattle.std.specs.Str.Parse.{digits_value, digits_value_after}
use Rattle.rv_map.specs.Numeral.{is_digit}
use Rattle.rv_map.proofs.numeral.number_of.Given as goal

abbrev pub invariant-loop-byte : goal.invariant-loop-byte
invariant-loop-byte l = record {
  passes : list_all (is_digit l.base) (drop l.byte-index l.field) ≡ list_all (is_digit l.base) l.field;
  value : digits_value_after l.base l.number (drop l.byte-index l.field) ≡ digits_value l.base l.field;
  fits : l.number < 2 ^ 64;
}
