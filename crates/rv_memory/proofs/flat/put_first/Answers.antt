use Rattle.std.proofs.Common.{◌≡◌, ◌∷◌, ◌∙◌}
use Rattle.std.specs.List.{remove}
use Rattle.rv_memory.proofs.OrderLemmas.{moved-first}
use Rattle.rv_memory.proofs.flat.put_first.Goals as goal

pub returns : goal.returns
returns c =
    let xs = c.args.segments.now.items in
    let x = c.remove-segment.result in
    let rest : c.remove-segment.new.self.items ≡ remove xs c.args.i = c.remove-segment.ensures.items in
    let new : c.insert.new.self.items ≡ x ∷ c.remove-segment.new.self.items = rw c.unwrap.ensures at c.insert.ensures.items in
    moved-first xs c.insert.new.self.items c.args.i x c.requires c.remove-segment.ensures.value (rw rest at new)
