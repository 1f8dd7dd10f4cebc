-- A reference is its digits and the letter.
use Rattle.std.proofs.Common.{◌∙◌, ap, sym}
use Rattle.rv_lexer.proofs.DirectionsLemmas.{spelled_reference}
use Rattle.rv_expression.specs.declared.node.Symbol.{Symbol}
use Rattle.rv_expression.specs.Nodes.{symbol_of, spelling_of}
use Rattle.rv_expression.proofs.node.Symbol.spelling.Goals as goal

pub returns-in-Reference : goal.returns-in-Reference
returns-in-Reference c =
    c.word.ensures ∙ sym (spelled_reference c.in-Reference.reference.word.now c.in-Reference.reference.refers) ∙ sym (ap (λ (s : Symbol). spelling_of (symbol_of s)) c.in-Reference.is)
