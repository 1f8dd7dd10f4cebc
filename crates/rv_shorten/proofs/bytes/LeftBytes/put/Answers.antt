use Rattle.std.proofs.Common.{◌-◌, ◌≤◌, ◌++◌, take, ap, ◌∙◌, arith}
use Rattle.rv_shorten.specs.Bytes.{left_bytes, run_bytes}
use Rattle.rv_shorten.proofs.RunningLemmas.{put_more, skip_more}
use Rattle.rv_shorten.proofs.bytes.LeftBytes.put.Goals as goal

pub loop-run-preserved : goal.loop-run-preserved
loop-run-preserved c =
    let wanted = c.loop-run.wanted in
    let n = c.len-wanted.result in
    let run = run_bytes c.in-Some.run' in
    let left = left_bytes c.next.new.self in
    let all = left_bytes c.loop-run.self in
    let few : n ≤ wanted = omega (arith, c.in-Some.ensures.few) in
    record {
      added = ap (λ l. l ++ take (wanted - n) left) c.in_ok-put.ensures
          ∙ put_more wanted n c.loop-run.out.items run left all c.in-Some.ensures.parts c.len-wanted.ensures few
          ∙ c.loop-run.invariant.added;
      left = skip_more wanted n run left all c.in-Some.ensures.parts c.len-wanted.ensures few ∙ c.loop-run.invariant.left;
    }
