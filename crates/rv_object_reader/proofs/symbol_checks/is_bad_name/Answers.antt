use Rattle.std.proofs.Common.{not, sym, ap, ◌∙◌, arith}
use Rattle.rv_object_reader.proofs.SymbolFieldsLemmas.{bad_shared, bad_local}
use Rattle.rv_object_reader.proofs.symbol_checks.is_bad_name.Goals as goal

pub returns-then-is_shared : goal.returns-then-is_shared
returns-then-is_shared c =
    ap not c.is_shown.ensures ∙ bad_shared c.args.names.now.table.now c.args.symbol.now (λ e. omega (arith, e)) (sym c.is_shared-2.ensures ∙ c.if-is_shared.true)

pub returns : goal.returns
returns c =
    ap not c.has_end.ensures ∙ bad_local c.args.names.now.table.now c.args.symbol.now (λ e. omega (arith, e)) (sym c.is_shared-2.ensures ∙ c.if-is_shared.false)
