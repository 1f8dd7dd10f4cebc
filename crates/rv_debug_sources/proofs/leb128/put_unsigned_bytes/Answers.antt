use Rattle.std.proofs.Common.{◌++◌, ◌∙◌, ap, append_assoc}
use Rattle.std.specs.Prelude.{codes}
use Rattle.rv_debug_sources.specs.Leb128.{unsigned_text}
use Rattle.rv_debug_sources.proofs.leb128.put_unsigned_bytes.Goals as goal

pub returns : goal.returns
returns c =
    c.in_ok-put_unsigned.ensures ∙ ap (λ t. t ++ unsigned_text 10 c.args.number) c.in_ok-extend_from_slice.ensures.items ∙ append_assoc c.args.text.now.items (codes ".byte ") (unsigned_text 10 c.args.number)
