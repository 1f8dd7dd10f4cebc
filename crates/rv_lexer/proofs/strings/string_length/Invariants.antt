-- The atoms of the rest end where those of the whole do.
use Rattle.std.proofs.Common.{◌≡◌, ◌≤◌, length}
use Rattle.rv_expression_laws.specs.Cut.{cut}
use Rattle.rv_expression_laws.specs.Front.{atom_at}
use Rattle.rv_lexer.proofs.strings.string_length.Given as goal

abbrev pub invariant-loop-length : goal.invariant-loop-length
invariant-loop-length l = ((cut atom_at l.bytes).1 ≡ (cut atom_at l.rest).1) × (length l.rest ≤ length l.bytes)

abbrev pub decreases-loop-length : goal.decreases-loop-length
decreases-loop-length l = length l.rest
