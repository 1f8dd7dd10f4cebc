use Rattle.std.proofs.Common.{◌≡◌, ◌-◌, true, map, sym, subst, arith}
use Rattle.rv_isa_laws.specs.Memory.{Mem, Right, Read, Write, may}
use Rattle.rv_image.specs.SegmentView.{segment_of}
use Rattle.rv_memory.specs.Flat.{memory_of}
use Rattle.rv_memory.specs.Rights.{right_of}
use Rattle.rv_memory.specs.Unmade.{with_unmade}
use Rattle.rv_memory.proofs.UnmadeLemmas.{run-unmade, unmade-range}
use Rattle.rv_memory.proofs.paged.Paged.run_unmade.Goals as goal

pub returns-in-Read-clause-all : goal.returns-in-Read-clause-all
returns-in-Read-clause-all c =
    let a = c.args.address in
    let base = c.args.self.now.base in
    let m : Mem = memory_of (map segment_of c.args.self.now.flat.segments.items) in
    let range = unmade-range base a c.requires in
    let is : right_of c.args.right ≡ Read = cc in
    subst (λ (r : Right). may (with_unmade base m) a (base - a) r ≡ true) (sym is)
    (run-unmade m base a (base - a) Read (λ x e. e) c.requires (omega (arith, range.1)) (omega (arith, c.args.self.now.unmade.top.ends)))

pub returns-in-Write-clause-all : goal.returns-in-Write-clause-all
returns-in-Write-clause-all c =
    let a = c.args.address in
    let base = c.args.self.now.base in
    let m : Mem = memory_of (map segment_of c.args.self.now.flat.segments.items) in
    let range = unmade-range base a c.requires in
    let is : right_of c.args.right ≡ Write = cc in
    subst (λ (r : Right). may (with_unmade base m) a (base - a) r ≡ true) (sym is)
    (run-unmade m base a (base - a) Write (λ x e. e) c.requires (omega (arith, range.1)) (omega (arith, c.args.self.now.unmade.top.ends)))

pub returns-in-Read-clause-none : goal.returns-in-Read-clause-none
returns-in-Read-clause-none c = λ none.
    let range = unmade-range c.args.self.now.base c.args.address c.requires in
    absurd (omega (arith, none, range.1))

pub returns-in-Write-clause-none : goal.returns-in-Write-clause-none
returns-in-Write-clause-none c = λ none.
    let range = unmade-range c.args.self.now.base c.args.address c.requires in
    absurd (omega (arith, none, range.1))
