use Rattle.std.proofs.Common.{map, length, sym}
use Rattle.std.proofs.lemmas.List.{length-map}
use Rattle.rv_inputs.specs.Plain.{plain_offer}
use Rattle.rv_inputs.proofs.CutLemmas.{meets_rest, meets_file, meets_group_rest, meets_group, meets_left}
use Rattle.rv_inputs.proofs.stretches.stretches.Goals as goal

pub returns-clause-met : goal.returns-clause-met
returns-clause-met c = λ filed.
    let os = map plain_offer c.args.offers.now in
    let fs = c.files_below-file_start.result in let fe = c.files_up_to-file_end.result in
    let gs = c.groups_below-group_start.result in let ge = c.groups_up_to-group_end.result in
    let a = c.files_below-file_start.ensures.cut filed in let b = c.files_up_to-file_end.ensures.cut filed in
    let d = c.groups_below-group_start.ensures.cut filed in let e = c.groups_up_to-group_end.ensures.cut filed in (
      meets_rest os c.args.place c.args.file c.args.group fs fe gs ge a b d e c.max.result c.max.ensures,
      (
        meets_file os c.args.place c.args.file c.args.group fs fe gs ge a b d e,
        (
          meets_group_rest os c.args.place c.args.file c.args.group fs fe gs ge a b d e c.max-2.result c.max-2.ensures,
          (
            meets_group os c.args.place c.args.file c.args.group fs fe gs ge a b d e,
            (meets_left os c.args.place c.args.file c.args.group fs fe gs ge a b d e (length c.args.offers.now) (sym (length-map c.args.offers.now plain_offer)), tt),
          ),
        ),
      ),
    )
