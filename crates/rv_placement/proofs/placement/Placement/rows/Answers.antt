use Rattle.std.proofs.Common.{map}
use Rattle.rv_shorten.specs.View.{short_object_of}
use Rattle.rv_placement.proofs.MapRowsLemmas.{file_more, object_here}
use Rattle.rv_placement.proofs.placement.Placement.rows.Goals as goal

pub loop-i-preserved : goal.loop-i-preserved
loop-i-preserved c = record {
  known = c.in_ok-put_object.ensures.known c.loop-i.invariant.known;
  rows = λ bounds is.
      let objects = c.args.objects.now in
      let i = c.loop-i.i in
      let o = c.index-objects-i.result in
      let at = object_here objects i o c.loop-i-test.true c.index-objects-i.is in
      file_more c.args.self.now objects i o c.loop-i.rows.items _ _ c.loop-i-test.true c.index-objects-i.is (c.in_ok-put_object.ensures.added (map short_object_of objects) bounds is at) (c.loop-i.invariant.rows bounds is);
}
