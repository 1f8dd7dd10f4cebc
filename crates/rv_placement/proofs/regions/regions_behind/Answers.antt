use Rattle.std.proofs.Common.{◌∙◌, ap, map, length}
use Rattle.rv_list_laws.proofs.OptionsLemmas.{if_none}
use Rattle.rv_shorten.specs.View.{short_object_of}
use Rattle.rv_placement.specs.declared.destination.Destination.TheVariants.{Rodata, Data}
use Rattle.rv_placement.specs.Walk.{goes, lists_of}
use Rattle.rv_placement.proofs.BehindLemmas.{rodata_far, data_far, length-files}
use Rattle.rv_placement.proofs.regions.regions_behind.Goals as goal

pub returns-in_err-rodata-clause-far : goal.returns-in_err-rodata-clause-far
returns-in_err-rodata-clause-far c =
    if_none c.from_residual.result (rodata_far (map short_object_of c.args.objects.now) c.args.text_end c.next_multiple.result c.args.ceiling c.next_multiple.ensures c.in_err-rodata.ensures.far)

pub region-requires-2-clause-each : goal.region-requires-2-clause-each
region-requires-2-clause-each c =
    ap (map length) c.in_ok-rodata.ensures.moved.1 ∙ length-files (goes Rodata) c.next_multiple.result (lists_of c.args.files.now) (map short_object_of c.args.objects.now) ∙ c.requires.each

pub returns-in_err-data-clause-far : goal.returns-in_err-data-clause-far
returns-in_err-data-clause-far c =
    if_none c.from_residual-in_err-data.result
    (data_far (map short_object_of c.args.objects.now) c.args.text_end c.next_multiple.result c.next_multiple-2.result c.in_ok-rodata.rodata.end c.args.ceiling c.next_multiple.ensures c.in_ok-rodata.ensures.moved.2 c.next_multiple-2.ensures
    c.in_err-data.ensures.far)

pub region-requires-3-clause-each : goal.region-requires-3-clause-each
region-requires-3-clause-each c =
    ap (map length) c.in_ok-data.ensures.moved.1 ∙ length-files (goes Data) c.next_multiple-2.result (lists_of c.region.new.files) (map short_object_of c.args.objects.now)
    ∙ ap (map length) c.in_ok-rodata.ensures.moved.1 ∙ length-files (goes Rodata) c.next_multiple.result (lists_of c.args.files.now) (map short_object_of c.args.objects.now) ∙ c.requires.each
