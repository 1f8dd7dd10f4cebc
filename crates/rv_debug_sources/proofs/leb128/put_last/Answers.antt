use Rattle.std.proofs.Common.{◌++◌, ◌∙◌, ap}
use Rattle.rv_debug_sources.specs.Leb128.{byte_text}
use Rattle.rv_debug_sources.proofs.leb128.put_last.Goals as goal

pub returns : goal.returns
returns c = c.in_ok-put_byte.ensures ∙ ap (λ b. c.args.text.now.items ++ byte_text b) c.seven_bits.ensures.is
