use Rattle.std.proofs.Common.{◌≡◌, ◌++◌, take}
use Rattle.std.specs.List.{flat_map}
use Rattle.rv_debug_laws.specs.LineUnit.{file_entry}
use Rattle.rv_debug.proofs.unit.put_files.Given as goal

abbrev pub invariant-loop-file : goal.invariant-loop-file
invariant-loop-file l = l.out.items ≡ l.initial.out.items ++ flat_map file_entry (take l.file-index l.files)
