use Rattle.std.proofs.Common.{sym, ap, ◌∙◌}
use Rattle.rv_elf_laws.specs.Sections.{before_zero}
use Rattle.rv_elf.proofs.StringsLemmas.{no_string, string_there, rest_is}
use Rattle.rv_elf.proofs.string.string_in.Goals as goal

pub returns-in_err-end : goal.returns-in_err-end
returns-in_err-end c =
    let rest = c.in_ok-rest.ensures.lookup.0 in
    rw c.from_residual-in_err-end.ensures (ap before_zero (sym (rest.2 ∙ rest_is c.args.table.now c.args.offset rest.0)) ∙ no_string _ c.in_err-end.ensures)

pub returns : goal.returns
returns c =
    let rest = c.in_ok-rest.ensures.lookup.0 in
    ap before_zero (sym (rest.2 ∙ rest_is c.args.table.now c.args.offset rest.0)) ∙ string_there _ c.in_ok-end.end c.in_ok-end.ensures
