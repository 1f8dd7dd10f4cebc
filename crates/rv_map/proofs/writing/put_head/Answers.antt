use Rattle.std.proofs.Common.{append_assoc, refl}
use Rattle.rv_map_laws.specs.Text.{line_text, head_lines}
use Rattle.rv_map.proofs.writing.put_head.Goals as goal

pub returns-clause-written : goal.returns-clause-written
unfolding line_text head_lines
returns-clause-written c = simp (c.in_ok-put_entry.ensures.written, c.in_ok-put_regions.ensures.written, c.in_ok-extend_from_slice.ensures.items, append_assoc) refl
