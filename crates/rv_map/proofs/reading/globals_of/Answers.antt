use Rattle.rv_map_laws.specs.Text.{global_line}
use Rattle.rv_map.proofs.WholeLemmas.{globals_more, globals_fit, line_shorter}
use Rattle.rv_map.proofs.reading.globals_of.Goals as goal

pub loop-name-preserved : goal.loop-name-preserved
loop-name-preserved c =
    record {
      text = rw c.in_ok-push.ensures.items
          (globals_more c.args.bytes.now c.loop-name.globals.items _ c.in-Some.name.now c.loop-name.rest.now c.in-Some.after.now c.loop-name.invariant.text c.in-Some.ensures.found c.in_ok-name.ensures.items);
      fit = rw c.in_ok-push.ensures.items
          (globals_fit c.loop-name.globals.items _ c.in-Some.name.now c.loop-name.invariant.fit c.in-Some.ensures.named c.in-Some.ensures.fits c.in_ok-name.ensures.items);
    }

pub loop-name-smaller : goal.loop-name-smaller
loop-name-smaller c = line_shorter (global_line (record { name = c.in-Some.name.now; address = c.in-Some.address })) c.loop-name.rest.now c.in-Some.after.now c.in-Some.ensures.found
