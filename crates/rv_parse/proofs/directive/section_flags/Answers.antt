use Rattle.std.proofs.Common.{◌∙◌, sym}
use Rattle.rv_parse_laws.specs.Syntax.{Some_flags}
use Rattle.rv_parse.proofs.OpeningsLemmas.{flags_typed}
use Rattle.rv_parse.proofs.directive.section_flags.Goals as goal

pub returns-then-begins_comma : goal.returns-then-begins_comma
returns-then-begins_comma c =
    rw (flags_typed _ _ _ _ c.args.name.now _ c.in_ok-flags.ensures (sym (c.begins_comma.ensures Some_flags) ∙ c.if-begins_comma.true) c.in_ok-comma.ensures c.in_ok-at_sign.ensures) c.section_type.ensures
