use Rattle.std.proofs.Common.{◌∙◌, sym}
use Rattle.rv_parse_laws.specs.Syntax.{A_register}
use Rattle.rv_parse.proofs.JumpsLemmas.{jalr_linked}
use Rattle.rv_parse.proofs.jump.jalr.Goals as goal

pub returns-then-begins_comma : goal.returns-then-begins_comma
returns-then-begins_comma c =
    rw (jalr_linked _ _ _ _ (sym c.begins_register.ensures ∙ c.if-not-begins_register.false) c.in_ok-first.ensures
    (sym (c.begins_comma.ensures A_register) ∙ c.if-begins_comma.true) c.in_ok-comma.ensures) c.jump_target.ensures
