use Rattle.std.proofs.Common.{◌∙◌, sym, ap}
use Rattle.std.specs.Option.{option_and_then}
use Rattle.rv_debug_laws.specs.Carried.{filled_at}
use Rattle.rv_debug_sections.proofs.fill.relocate.Goals as goal

pub returns-in-Some-clause-yes : goal.returns-in-Some-clause-yes
returns-in-Some-clause-yes c =
    λ yes. ap (option_and_then (filled_at c.args.rela.now.r_offset c.args.bytes.now)) (sym c.in-Some.ensures.value) ∙ c.put_fill.ensures.yes yes

pub returns-in-Some-clause-no : goal.returns-in-Some-clause-no
returns-in-Some-clause-no c =
    λ no. ap (option_and_then (filled_at c.args.rela.now.r_offset c.args.bytes.now)) (sym c.in-Some.ensures.value) ∙ c.put_fill.ensures.no no

pub returns-in-None-clause-no : goal.returns-in-None-clause-no
returns-in-None-clause-no c = λ no. ap (option_and_then (filled_at c.args.rela.now.r_offset c.args.bytes.now)) (sym c.in-None.ensures.value)
