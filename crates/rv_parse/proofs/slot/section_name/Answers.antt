use Rattle.std.proofs.Common.{◌∙◌, sym, ap, Err}
use Rattle.rv_expression_laws.specs.SyntaxError.{SyntaxError}
use Rattle.rv_lexer.specs.Cursor.{remaining}
use Rattle.rv_parse.proofs.OpeningsLemmas.{name_read, name_too_long, name_left_out}
use Rattle.rv_parse.proofs.slot.section_name.Goals as goal

pub returns-then-is_section_name : goal.returns-then-is_section_name
returns-then-is_section_name c = name_read _ _ _ c.in-Some.ensures (sym c.is_section_name.ensures ∙ c.if-is_section_name.true)

pub returns-then-name-gt-LONGEST_NAME : goal.returns-then-name-gt-LONGEST_NAME
returns-then-name-gt-LONGEST_NAME c =
    name_too_long _ _ _ c.in-Some.ensures (sym c.is_section_name.ensures ∙ c.if-is_section_name.false) c.if-name-gt-LONGEST_NAME.true
    ∙ ap (λ (w : SyntaxError). Err w) (sym c.too_long.ensures)

pub returns-else-name-gt-LONGEST_NAME : goal.returns-else-name-gt-LONGEST_NAME
unfolding remaining
returns-else-name-gt-LONGEST_NAME c =
    name_left_out _ _ _ c.in-Some.ensures (sym c.is_section_name.ensures ∙ c.if-is_section_name.false) c.if-name-gt-LONGEST_NAME.false
    ∙ ap (λ (w : SyntaxError). Err w) (sym c.wrong.ensures)
