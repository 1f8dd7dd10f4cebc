use Rattle.std.proofs.Common.{◌≡◌, ◌<◌, ◌+◌, ◌%◌, ◌^◌, ℕ, [], ◌∷◌, ◌++◌, take, set, length-set, length, refl, sym, ap, suc, List, ◌∙◌, arith, below_more}
use Rattle.std.proofs.Math.Seq.{take-suc-set}
use Rattle.rv_isa_laws.specs.Memory.{Mem}
use Rattle.rv_memory.proofs.MemoryLemmas.{load-at, bytes-more}
use Rattle.rv_memory.proofs.pieces.load_across.Goals as goal

pub byte-requires : goal.byte-requires
byte-requires g c =
    let m : Mem = g.P.Pieces.mem c.args.memory.now in
    load-at m c.args.address c.args.bytes c.loop-k.k _ c.loop-k-test.true refl c.requires.may

pub loop-k-preserved : goal.loop-k-preserved
loop-k-preserved g c =
    let m : Mem = g.P.Pieces.mem c.args.memory.now in
    let long : length c.loop-k.gathered ≡ 8 = c.loop-k.invariant.long in
    let within : c.loop-k.k < length c.loop-k.gathered = omega (arith, c.requires.width) in
    let more = bytes-more m c.args.address c.loop-k.k in
    let put = take-suc-set c.loop-k.gathered c.loop-k.k c.byte.result within in
    let next : c.loop-k.k + 1 ≡ suc c.loop-k.k = omega arith in
    let last : m.byte ((c.args.address + c.loop-k.k) % 2 ^ 64) ≡ c.byte.result = sym c.byte.ensures in
    record {
      bytes = more ∙ ap (λ (bs : List ℕ). bs ++ (m.byte ((c.args.address + c.loop-k.k) % 2 ^ 64) ∷ [])) c.loop-k.invariant.bytes
          ∙ ap (λ (b : ℕ). take c.loop-k.k c.loop-k.gathered ++ (b ∷ [])) last ∙ sym put ∙ ap (λ (n : ℕ). take n (set c.loop-k.gathered c.loop-k.k c.byte.result)) (sym next);
      long = length-set {A = ℕ} c.loop-k.gathered c.loop-k.k c.byte.result ∙ long;
      small = below_more _ _ c.loop-k.invariant.small (omega (arith, c.byte.ensures));
    }

pub returns-clause-bytes : goal.returns-clause-bytes
returns-clause-bytes g c = λ k low. c.loop-k.invariant.small k (omega arith)
