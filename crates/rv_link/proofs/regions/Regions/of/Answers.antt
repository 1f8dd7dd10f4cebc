use Rattle.std.proofs.Common.{◌≡◌, [], length, subst, arith}
use Rattle.std.proofs.lemmas.List.{length-map}
use Rattle.rv_shorten.specs.View.{short_object_of}
use Rattle.rv_link.specs.Filled.{objects_of}
use Rattle.rv_link.specs.Regions.{left_files, AreGrown}
use Rattle.rv_link.proofs.TurnsLemmas.{opens, grown_along, files_close}
use Rattle.rv_link.proofs.regions.Regions.of.Goals as goal

pub loop-file-init : goal.loop-file-init
loop-file-init c =
    opens (objects_of c.args.fixed.now) c.args.fixed.now.placement.now c.requires.first (record { text = c.new.result; rodata = c.new-2.result; «data» = c.new-3.result })
    c.requires.placed c.new.ensures.items c.new-2.ensures.items c.new-3.ensures.items

pub returns-clause-grown : goal.returns-clause-grown
returns-clause-grown c =
    let os = objects_of c.args.fixed.now in
    let p = c.args.fixed.now.placement.now in
    let last : c.loop-file.file ≡ length os = omega (arith, length-map c.args.fixed.now.objects.now short_object_of) in
    grown_along os p (left_files os (length os)) (λ goes. []) c.loop-file.regions (λ goes. files_close os goes)
    (subst (λ n. AreGrown os p (left_files os n) c.loop-file.regions) last c.loop-file.invariant)
