use Rattle.std.proofs.Common.{◌<◌, ◌∷◌, ◌+◌, [], Bool, not, length, map, filter, drop, get_or}
use Rattle.std.proofs.lemmas.List.{get_or_default}
use Rattle.std.specs.Prelude.{if◌then◌else◌}
use Rattle.rv_list_laws.proofs.ElementsLemmas.{append_some_more}
use Rattle.rv_object_laws.specs.declared.row.Row.{Row}
use Rattle.rv_object_types.specs.Sections.{section_of}
use Rattle.rv_collect.specs.Drops.{drops_in}
use Rattle.rv_collect.proofs.LeftLemmas.{rows_left}
use Rattle.rv_collect.proofs.left.left_rows.Goals as goal

abbrev no_row : Row
no_row = record { line = 0; ordinal = 0; section = 0; offset = 0; bytes = 0; instructions = 0 }

pub loop-row-preserved : goal.loop-row-preserved
loop-row-preserved c =
    let i = c.loop-row.row-index in
    let xs = c.args.rows.now in
    let x = get_or xs i no_row in
    let inside : i < length xs = c.loop-row-test.true in
    let keeps : Row → Bool = λ r. not (drops_in (map section_of c.args.sections.now) c.args.marks.now r.section) in
    append_some_more c.loop-row.left.items c.put_row.new.left.items (if keeps x then x ∷ [] else []) (filter keeps (drop (i + 1) xs)) (filter keeps (drop i xs)) (filter keeps xs) c.in_ok-put_row.ensures
    (rows_left keeps xs i x inside (get_or_default xs i no_row x inside)) c.loop-row.invariant
