use Rattle.std.proofs.Common.{map, take}
use Rattle.std.specs.Prelude.{reverse}
use Rattle.rv_unit.specs.Tables.{assignment_of}
use Rattle.rv_symbols.specs.Settings.{AreFirsts}
use Rattle.rv_symbols.proofs.settings.FirstSettings.of.Given as goal

abbrev pub invariant-loop-setting : goal.invariant-loop-setting
invariant-loop-setting l = AreFirsts l.firsts.ordinals (reverse (map assignment_of (take l.setting-index l.assignments)))
