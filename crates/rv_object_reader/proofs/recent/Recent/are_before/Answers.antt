use Rattle.std.proofs.lemmas.Bool.{leb-true}
use Rattle.rv_object_reader.proofs.EntriesLemmas.{none_after}
use Rattle.rv_object_reader.proofs.recent.Recent.are_before.Goals as goal

pub returns : goal.returns
returns c = λ before end. none_after c.args.self.now.spans.items c.args.self.now.furthest c.args.start end c.args.self.now.within (leb-true c.args.self.now.furthest c.args.start before)
