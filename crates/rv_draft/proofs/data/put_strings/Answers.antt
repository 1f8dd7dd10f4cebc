use Rattle.std.proofs.Common.{rules, ◌++◌, ◌+◌, ◌<◌, length, map, drop, if◌then◌else◌, [], ◌∷◌, get_or, Bor, List, ℕ}
use Rattle.rv_list_laws.proofs.MapLemmas.{flat_more, drop_map_or}
use Rattle.rv_statement.specs.View.{quoted}
use Rattle.rv_draft.proofs.data.put_strings.Goals as goal

pub loop-text-preserved : goal.loop-text-preserved
loop-text-preserved c =
    let i = c.loop-text.text-index in
    let xs = c.args.strings.now in
    let inside : i < length xs = search rules in
    let none : Bor (List ℕ) = record { ref_ptr = (0, 0); now = [] } in
    flat_more (λ s. s ++ (if c.args.ended then 0 ∷ [] else [])) (drop i (map quoted xs)) (drop (i + 1) (map quoted xs)) (quoted (get_or xs i none)) c.loop-text.bytes.items c.put_string.new.bytes.items _
    (drop_map_or quoted xs i none inside) c.in_ok-put_string.ensures c.loop-text.invariant
