use Rattle.std.proofs.Common.{List, map, refl}
use Rattle.rv_list_laws.proofs.TakeDropLemmas.{drop_read, joined_done}
use Rattle.rv_table_names.specs.declared.tabled.Tabled.{Tabled as DeclaredTabled}
use Rattle.rv_table_names.specs.Tables.{wanted_names}
use Rattle.rv_table_names.specs.Views.{tabled_of}
use Rattle.rv_table_names.proofs.TablesLemmas.{object_more}
use Rattle.rv_table_names.proofs.names.put_names.Goals as goal

pub loop-object-preserved : goal.loop-object-preserved
loop-object-preserved c =
    let os = c.args.objects.now in
    let i = c.loop-object.object-index in
    let o = c.object-item.result in
    object_more c.args.binding _ _ _ os i o (drop_read os i o c.loop-object-test.true c.object-item.is) c.in_ok-put_object.ensures c.loop-object.invariant

pub returns : goal.returns
returns c =
    joined_done (λ (os : List DeclaredTabled). wanted_names c.args.binding (map tabled_of os)) refl
    c.args.objects.now c.loop-object.object-index c.loop-object-test.false _ _ c.loop-object.invariant
