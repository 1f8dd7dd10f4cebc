-- The texts so far, and those of the bytes that are left, are all of them.
use Rattle.std.proofs.Common.{◌≡◌, ◌++◌, drop, map}
use Rattle.std.specs.Prelude.{option_map}
use Rattle.rv_statement.specs.View.{now_of}
use Rattle.rv_library.specs.Texts.{texts_by_lengths}
use Rattle.rv_library.proofs.texts.texts_of.Given as goal

abbrev pub invariant-loop-count : goal.invariant-loop-count
invariant-loop-count l = option_map (λ rest. map now_of l.texts.items ++ rest) (texts_by_lengths (drop l.count-index l.lengths) l.left) ≡ texts_by_lengths l.lengths l.bytes
