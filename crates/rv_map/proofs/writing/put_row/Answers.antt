use Rattle.std.proofs.Common.{append_assoc, refl}
use Rattle.rv_map_laws.specs.Text.{line_text}
use Rattle.rv_map.proofs.writing.put_row.Goals as goal

pub returns-clause-written : goal.returns-clause-written
unfolding line_text
returns-clause-written c = simp (c.in_ok-put_decimal-2.ensures, c.in_ok-put_decimal.ensures, c.in_ok-put_address.ensures, c.in_ok-put_statement.ensures, append_assoc) refl
