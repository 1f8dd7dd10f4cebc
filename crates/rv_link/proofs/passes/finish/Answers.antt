use Rattle.std.proofs.Common.{arith, map}
use Rattle.std.proofs.lemmas.List.Elements.{recursion_from_All}
use Rattle.std.proofs.lemmas.List.{length-map}
use Rattle.rv_map_laws.specs.Limits.{IsDrop}
use Rattle.rv_shorten.specs.View.{short_object_of}
use Rattle.rv_link.proofs.KnownLemmas.{regions_known, gaps_known}
use Rattle.rv_link.proofs.NamedLemmas.{globals_known}
use Rattle.rv_link.proofs.NumberedLemmas.{rows_known}
use Rattle.rv_link.proofs.passes.finish.Goals as goal

pub returns-clause-readable : goal.returns-clause-readable
returns-clause-readable c =
    let os = map short_object_of c.args.resolution.now.objects.now in
    let p = c.args.placement in
    let stands = c.requires.placed in
    let regions = regions_known os stands.first p stands.placed in
    record {
      text = regions.0;
      rodata = regions.1;
      «data» = regions.2;
      bss = regions.3;
      entry = omega arith;
      gaps = gaps_known os stands.first p stands.placed;
      globals = globals_known c.args.resolution.now.objects.now stands.first p stands.placed;
      drops = recursion_from_All IsDrop c.args.drops.items c.requires.drops;
      rows = rows_known c.args.resolution.now.objects.now stands.first p stands.placed (omega (arith, c.requires.few, length-map c.args.resolution.now.objects.now short_object_of));
    }
