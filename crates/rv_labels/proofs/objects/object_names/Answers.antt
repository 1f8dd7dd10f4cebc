use Rattle.std.proofs.Common.{◌+◌, List, map, refl, rules}
use Rattle.rv_list_laws.proofs.TakeDropLemmas.{drop_read, joined_done}
use Rattle.rv_debug_laws.specs.Labels.{names_from}
use Rattle.rv_labels.specs.declared.described.Described.{Described as DeclaredDescribed}
use Rattle.rv_labels.specs.Known.{described_of}
use Rattle.rv_labels.proofs.LabelsLemmas.{object_more}
use Rattle.rv_labels.proofs.objects.object_names.Goals as goal

pub loop-object-preserved : goal.loop-object-preserved
loop-object-preserved c =
    let os = c.args.objects.now in
    let i = c.loop-object.object-index in
    let o = c.object-item.result in
    record {
      counted = search rules;
      whole = λ known are.
          object_more c.args.shared known (c.loop-object.file + 1) _ _ _ os i o (drop_read os i o c.loop-object-test.true c.object-item.is)
          (c.in_ok-put_object.ensures known are) (c.loop-object.invariant.whole known are);
    }

pub returns : goal.returns
returns c = λ known are.
    joined_done (λ (os : List DeclaredDescribed). names_from c.args.shared known (c.loop-object.file + 1) (map described_of os)) refl
    c.args.objects.now c.loop-object.object-index c.loop-object-test.false _ _ (c.loop-object.invariant.whole known are)
