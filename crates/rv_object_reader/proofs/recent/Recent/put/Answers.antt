use Rattle.std.proofs.Common.{◌≤◌, arith}
use Rattle.rv_object_reader.proofs.EntriesLemmas.{short_late, within_late}
use Rattle.rv_object_reader.proofs.recent.Recent.put.Goals as goal

pub invariant_of-self-2 : goal.invariant_of-self-2
invariant_of-self-2 c =
    let es = c.args.self.now.spans.items in
    let old : c.args.self.now.furthest ≤ c.max-self.result = grind (arith, c.max-self.ensures) in
    let last : c.args.end ≤ c.max-self.result = grind (arith, c.max-self.ensures) in
    record {
      short = rw c.in_ok-push.ensures.items (short_late es c.args.start c.args.end c.args.self.now.short c.requires);
      within = rw c.in_ok-push.ensures.items (within_late es c.args.self.now.furthest c.args.start c.args.end c.max-self.result c.args.self.now.within old last);
    }
