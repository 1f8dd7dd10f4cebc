use Rattle.std.proofs.Common.{◌-◌, length, drop, ap, ◌∙◌, le_of_eq}
use Rattle.std.proofs.lemmas.List.{length-drop, take_all}
use Rattle.byteorder.specs.Endian.{little_number}
use Rattle.rv_object_reader.proofs.NumbersLemmas.{number_here}
use Rattle.rv_object_reader.proofs.row_checks.word.Goals as goal

pub returns : goal.returns
returns c =
    let table = c.args.record.now in
    let p = c.args.offset in
    let all = take_all (length table - p) (drop p table) (le_of_eq (length-drop p table)) in
    c.read_u32.ensures ∙ ap (little_number 4) all ∙ number_here p 4 table
