use Rattle.std.proofs.Common.{◌≡◌, ◌/◌, false, List, subst}
use Rattle.rv_memory.specs.Pages.{is_listed}
use Rattle.rv_memory.specs.declared.page.Page.{Page}
use Rattle.rv_memory.proofs.paged.Paged.find_listed.Goals as goal

pub returns-in-None-clause-found : goal.returns-in-None-clause-found
returns-in-None-clause-found c =
    c.args.self.now.known.listed.all c.args.address
    (subst (λ (l : List Page). is_listed (c.args.address / 4096) l ≡ false) c.deref.ensures.value c.in-None.ensures)
