use Rattle.std.proofs.Common.{◌+◌, ◌++◌, ◌∙◌, ap}
use Rattle.rv_debug_sources.specs.Leb128.{part_text}
use Rattle.rv_debug_sources.proofs.leb128.put_next.Goals as goal

pub returns : goal.returns
returns c = c.in_ok-put_part.ensures ∙ ap (λ b. c.args.text.now.items ++ part_text (b + 128)) c.seven_bits.ensures.is
