use Rattle.rv_image.proofs.LoadedAgainLemmas.{near_by}
use Rattle.rv_image.proofs.writing.lie_near.Goals as goal

pub returns : goal.returns
returns c = near_by c.args.linked.now.map.text.start c.args.linked.now.map.bss.end c.args.linked.now.in_free
