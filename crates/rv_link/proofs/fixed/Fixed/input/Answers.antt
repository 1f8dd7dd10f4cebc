use Rattle.std.proofs.Common.{refl, arith}
use Rattle.rv_link.proofs.StandingLemmas.{index_low, places_long, input_is}
use Rattle.rv_link.proofs.fixed.Fixed.input.Goals as goal

pub index-requires-3 : goal.index-requires-3
index-requires-3 c =
    let f = c.requires.fixed in
    let p = c.args.self.now.placement.now in
    let objects = c.args.self.now.objects.now in
    let low = index_low objects f.first p f.placed f.roomy c.args.file.0 c.args.index.0 c.requires.section c.index-self-file.result c.index-self-file.is in
    let long = places_long objects f.first p f.placed f.roomy c.args.file.0 c.args.index.0 c.requires.section c.index-self-file.result c.index-self-file.is c.index-2.result.now c.index-2.ensures in
    omega (arith, low, long, c.index-2.result.now.ok.0)

pub returns-clause-input : goal.returns-clause-input
returns-clause-input c =
    let f = c.requires.fixed in
    input_is c.args.self.now.objects.now f.first c.args.self.now.placement.now f.placed f.roomy c.args.file.0 c.args.index.0 c.requires.section c.index-self-file.result c.index-self-file.is
    c.index-2.result.now c.index-2.ensures (record { file = c.args.file; index = c.args.index; section = c.index.result; placed = c.index-3.result }) refl refl c.index.ensures c.index-3.ensures
