use Rattle.std.proofs.Common.{ap, ◌∙◌, unwrap_or, arith, rules}
use Rattle.rv_object_reader.specs.Rows.{record_of}
use Rattle.rv_object_laws.proofs.CountedLemmas.{row_counted}
use Rattle.rv_object_reader.proofs.MadeLemmas.{home_of}
use Rattle.rv_object_reader.proofs.TablesLemmas.{few_sections}
use Rattle.rv_object_reader.proofs.rows.row.Goals as goal

pub overflow_cast-entry : goal.overflow_cast-entry
overflow_cast-entry c =
    let checked = c.args.checked.now in
    let home = home_of checked.view.file.now (record_of c.args.entry) c.requires in
    record { fits = omega (arith, home.within, few_sections checked.view.file.now checked.good) }

pub place-requires : goal.place-requires
place-requires c = (home_of c.args.checked.now.view.file.now (record_of c.args.entry) c.requires).within

pub returns-clause-made : goal.returns-clause-made
returns-clause-made c =
    let row = c.args.entry in
    let home = home_of c.args.checked.now.view.file.now (record_of row) c.requires in
    let place = c.from.ensures ∙ c.unwrap_or-place.ensures ∙ ap (λ o. unwrap_or o 0) (c.place.ensures.place ∙ home.place) in
    λ i. record {
      line = row.r_line;
      ordinal = row.r_ordinal;
      section = place i;
      offset = row.r_offset;
      bytes = row.r_bytes;
      instructions = row.r_instructions;
    }

pub returns-clause-counted : goal.returns-clause-counted
returns-clause-counted c = search (rules, row_counted)
