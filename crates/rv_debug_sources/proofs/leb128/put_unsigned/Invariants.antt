use Rattle.std.proofs.Common.{◌≡◌, ◌++◌}
use Rattle.rv_debug_sources.specs.Leb128.{unsigned_text}
use Rattle.rv_debug_sources.proofs.leb128.put_unsigned.Given as goal

-- the text so far, with that of what is left
abbrev pub invariant-loop-most : goal.invariant-loop-most
invariant-loop-most l = l.text.items ++ unsigned_text l.most l.rest ≡ l.fn.text.items ++ unsigned_text 10 l.number

abbrev pub decreases-loop-most : goal.decreases-loop-most
decreases-loop-most l = l.most
