use Rattle.std.proofs.Common.{◌≡◌, Some, refl, rules, w64}
use Rattle.std.proofs.lemmas.Int.{to_z-of_z}
use Rattle.std.specs.Prelude.{slice_get}
use Rattle.std.proofs.lemmas.Option.{slice_get_read}
use Rattle.rv_draft.specs.Draft.{field_of}
use Rattle.rv_assemble.proofs.ListsSoFarLemmas.{gains_one, same_relocation}
use Rattle.rv_assemble.proofs.relocations.put_relocation.Goals as goal

pub returns : goal.returns
returns c =
    let xs = c.args.lists.now.items in
    let i = c.args.field.now.section in
    let x = c.index_mut.result.now in
    let got : slice_get xs i ≡ Some x = slice_get_read xs _ i x refl c.requires c.index_mut.ensures.value in
    gains_one xs i x c.push.new.self _ (field_of c.args.field.now) c.args.number got c.in_ok-push.ensures.items
    (same_relocation _ c.args.field.now.place c.args.number c.args.field.now.kind _ c.args.field.now.addend c.from.ensures (to_z-of_z w64 c.args.field.now.addend (search rules))) refl
