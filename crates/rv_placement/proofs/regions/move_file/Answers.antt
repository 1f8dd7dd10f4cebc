use Rattle.std.proofs.Common.{rules, ◌<◌, length, map}
use Rattle.rv_list_laws.proofs.OptionsLemmas.{if_none}
use Rattle.rv_shorten.specs.Sections.{short_section_of}
use Rattle.rv_placement.specs.Walk.{goes, ended}
use Rattle.rv_placement.proofs.WalksLemmas.{file_far}
use Rattle.rv_placement.proofs.regions.move_file.Goals as goal

pub returns-in_err-stop-clause-far : goal.returns-in_err-stop-clause-far
returns-in_err-stop-clause-far c =
    let inside : c.loop-i.i < length c.args.sections.now = search rules in
    if_none c.from_residual.result
    (file_far (goes c.args.destination) c.args.ceiling c.loop-i.stop (ended (goes c.args.destination) c.args.first (map short_section_of c.args.sections.now)) c.args.sections.now c.loop-i.i c.index-sections-i.result inside c.index-sections-i.is
    c.in_err-stop.ensures.far c.loop-i.invariant.1)
