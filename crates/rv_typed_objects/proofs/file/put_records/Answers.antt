use Rattle.std.proofs.Common.{List, flat_map, refl}
use Rattle.rv_list_laws.proofs.TakeDropLemmas.{joined_done}
use Rattle.rv_elf_laws.specs.declared.symbol.Symbol.{Symbol as SymbolRecord}
use Rattle.rv_elf_laws.specs.Records.{symbol_bytes}
use Rattle.rv_object_types.specs.View.{object_of}
use Rattle.rv_typed_objects.specs.Typed.{typed_records}
use Rattle.rv_typed_objects.proofs.TypedLemmas.{record_more}
use Rattle.rv_typed_objects.proofs.file.put_records.Goals as goal

pub loop-index-preserved : goal.loop-index-preserved
loop-index-preserved c = λ marks are.
    record_more (object_of c.args.object.now) marks _ _ _ c.args.records.now c.loop-index.index _ c.typed_record.result c.loop-index-test.true
    (c.typed_record.ensures marks are) c.in_ok-symbol.ensures.ok (c.loop-index.invariant marks are)

pub returns : goal.returns
returns c = λ marks are.
    joined_done (λ (xs : List SymbolRecord). flat_map symbol_bytes (typed_records (object_of c.args.object.now) marks c.loop-index.index xs)) refl
    c.args.records.now c.loop-index.index c.loop-index-test.false _ _ (c.loop-index.invariant marks are)
