use Rattle.std.proofs.Common.{◌++◌, ◌∙◌, ap, append_assoc}
use Rattle.std.specs.Prelude.{codes}
use Rattle.rv_debug_sources.specs.Leb128.{signed_text}
use Rattle.rv_debug_sources.proofs.leb128.put_signed_bytes.Goals as goal

pub returns : goal.returns
returns c =
    c.in_ok-put_signed.ensures ∙ ap (λ t. t ++ signed_text 10 c.args.negative c.args.size) c.in_ok-extend_from_slice.ensures.items ∙ append_assoc c.args.text.now.items (codes ".byte ") (signed_text 10 c.args.negative c.args.size)
