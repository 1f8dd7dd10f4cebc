use Rattle.std.proofs.Common.{Ok, Err, rules}
use Rattle.std.proofs.lemmas.List.Sorted.{answers_always}
use Rattle.rv_memory.specs.declared.page.Page.{Page}
use Rattle.rv_memory.proofs.PageLemmas.{page-searched}
use Rattle.rv_memory.proofs.page.page_of.Goals as goal

pub returns-in-Ok : goal.returns-in-Ok
returns-in-Ok c =
    page-searched c.args.pages.now _ (Ok c.in-Ok.i) c.requires c.in-Ok.ensures.bound
    (c.in-Ok.ensures.position (λ (page : Page). page.number) (answers_always _ _ _ (λ f a r g called. search rules)))

pub returns-in-Err : goal.returns-in-Err
returns-in-Err c =
    page-searched c.args.pages.now _ (Err c.in-Err.field-0) c.requires c.in-Err.ensures.bound
    (c.in-Err.ensures.position (λ (page : Page). page.number) (answers_always _ _ _ (λ f a r g called. search rules)))
