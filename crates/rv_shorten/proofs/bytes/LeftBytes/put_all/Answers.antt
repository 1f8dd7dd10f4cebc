use Rattle.std.proofs.Common.{◌≡◌, ◌++◌, ◌-◌, ◌^◌, OnOk, subst, arith}
use Rattle.std.proofs.lemmas.List.{take_all}
use Rattle.rv_shorten.specs.Bytes.{left_bytes}
use Rattle.rv_shorten.proofs.RunningLemmas.{left_low}
use Rattle.rv_shorten.proofs.bytes.LeftBytes.put_all.Goals as goal

pub returns : goal.returns
unfolding left_bytes
returns c =
    let s = c.args.self in
    let few = left_low s.at s.bytes s.word s.cuts.now s.rest.now s.within in
    subst (λ l. OnOk c.put.result (c.put.new.out.items ≡ c.args.out.now.items ++ l)) (take_all (2 ^ 64 - 1) (left_bytes s) (omega (arith, few, s.low, s.few))) c.put.ensures.added
