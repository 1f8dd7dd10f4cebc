use Rattle.std.proofs.Common.{◌∙◌, sym}
use Rattle.rv_memory.proofs.PageLemmas.{last-tells}
use Rattle.rv_memory.proofs.page.reaches.Goals as goal

pub returns-in-Some : goal.returns-in-Some
returns-in-Some c = last-tells c.args.pages.now c.args.number c.in-Some.last c.requires (sym (c.copied.ensures ∙ c.last.ensures.value) ∙ c.in-Some.is)
