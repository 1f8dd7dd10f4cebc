use Rattle.std.proofs.Common.{◌+◌, ◌∷◌, [], length, length-append, ap, sym, subst, ◌∙◌, arith}
use Rattle.rv_object_reader.specs.Walk.{AreEmpty}
use Rattle.rv_object_reader.proofs.WalkingLemmas.{empty_more, hold_first}
use Rattle.rv_object_reader.proofs.walk.no_places.Goals as goal

pub loop-preserved : goal.loop-preserved
loop-preserved c =
    let more = c.in_ok-push.ensures.items in record {
      long = ap length more ∙ length-append c.loop.all.items (c.new.result ∷ []) ∙ ap (λ n. n + 1) c.loop.invariant.long;
      empty = subst AreEmpty (sym more) (empty_more c.loop.all.items c.new.result c.loop.invariant.empty c.new.ensures);
    }

pub returns : goal.returns
returns c file count = hold_first file c.loop.all.items (omega (arith, c.loop.invariant.long, count)) c.loop.invariant.empty
