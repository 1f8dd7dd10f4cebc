use Rattle.std.proofs.Common.{◌≡◌, ◌++◌}
use Rattle.rv_debug_sources.specs.Leb128.{signed_text}
use Rattle.rv_debug_sources.proofs.leb128.put_signed.Given as goal

-- the text so far, with that of what is left
abbrev pub invariant-loop-most : goal.invariant-loop-most
invariant-loop-most l = l.text.items ++ signed_text l.most l.negative l.rest ≡ l.fn.text.items ++ signed_text 10 l.negative l.size

abbrev pub decreases-loop-most : goal.decreases-loop-most
decreases-loop-most l = l.most
