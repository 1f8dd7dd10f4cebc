use Rattle.std.proofs.Common.{◌∙◌, sym}
use Rattle.rv_parse_laws.specs.Syntax.{A_section}
use Rattle.rv_parse.proofs.OpeningsLemmas.{name_flagged}
use Rattle.rv_parse.proofs.directive.section.Goals as goal

pub returns-then-begins_comma : goal.returns-then-begins_comma
returns-then-begins_comma c =
    rw (name_flagged _ _ _ _ c.in_ok-name.ensures (sym (c.begins_comma.ensures A_section) ∙ c.if-begins_comma.true) c.in_ok-comma.ensures) c.section_flags.ensures
