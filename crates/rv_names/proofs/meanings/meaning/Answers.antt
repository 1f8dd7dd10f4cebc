use Rattle.std.proofs.Common.{sym, ◌∙◌}
use Rattle.rv_object_types.specs.Parts.{symbol_of}
use Rattle.rv_names.specs.Chosen.{seen}
use Rattle.rv_names.proofs.RememberedLemmas.{outside_free}
use Rattle.rv_names.proofs.meanings.meaning.Goals as goal

pub returns-in-Some : goal.returns-in-Some
returns-in-Some c = λ ds h has. outside_free ds (seen (symbol_of c.args.symbol.now)) c.in-Some.meaning
    (sym c.is_sure.ensures ∙ c.if-is_sure.false) (c.in-Some.ensures ds has)
