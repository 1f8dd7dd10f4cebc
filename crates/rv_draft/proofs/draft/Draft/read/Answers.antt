use Rattle.std.proofs.Common.{◌≤◌, ◌^◌, List, [], ◌∷◌, length, sym, ap, subst, ◌∙◌, arith}
use Rattle.std.proofs.lemmas.Result.{err_from_is_err_and}
use Rattle.std.proofs.lemmas.List.{length-map}
use Rattle.rv_unit.specs.Sections.{extent_section}
use Rattle.rv_unit.proofs.LookupsLemmas.{sections_are}
use Rattle.rv_unit_laws.proofs.FewLemmas.{few as few_of}
use Rattle.rv_unit_laws.specs.Tables.{Tables, at_start, tables, opened_of}
use Rattle.rv_source_laws.specs.Located.{located, located_from}
use Rattle.rv_unit.specs.Unit.{said}
use Rattle.rv_instruction.specs.declared.encoded.Coded.{Coded}
use Rattle.rv_draft.specs.declared.draft.Draft.{Draft}
use Rattle.rv_draft.specs.DataParts.{AreMade, HaveCode, IsData}
use Rattle.rv_draft.specs.Lengths.{code_lengths}
use Rattle.rv_draft.specs.Draft.{IsRefusedSource}
use Rattle.rv_draft.proofs.CodeLengthsLemmas.{least_lengths, lengths_of_sizes}
use Rattle.rv_draft.proofs.DraftedLemmas.{is_draft}
use Rattle.rv_draft.proofs.MadeLemmas.{made_all}
use Rattle.rv_draft.proofs.SoFarLemmas.{sizes_count, sizes_short}
use Rattle.rv_draft.proofs.StandingLemmas.{stated_length}
use Rattle.rv_draft.proofs.WholeLemmas.{one_file}
use Rattle.rv_draft.proofs.WidthsLemmas.{all_wide}
use Rattle.rv_draft.proofs.draft.Draft.read.Goals as goal

pub code-requires-clause-least : goal.code-requires-clause-least
code-requires-clause-least c =
    let sizes = c.in_ok-layout.layout.sizes.items in
    least_lengths (said c.args.unit.now) sizes c.requires.good c.in_ok-layout.ensures.sizes c.in_ok-layout.ensures.least

pub data-requires-clause-few : goal.data-requires-clause-few
data-requires-clause-few c =
    let u = c.args.unit.now in
    let few : length (said u) ≤ 2 ^ 22 = few_of (said u) c.requires.good in
    omega (arith, few)

pub items-requires : goal.items-requires
items-requires c = record {
  sizes =
      let u = c.args.unit.now in
      let ss = said u in
      let code = c.in_ok-code.code in
      sizes_count (tables ss) (located (ss ∷ [])) _ code.sections.items code.sizes.items c.in_ok-code.ensures.code
      ∙ ap length (one_file ss) ∙ stated_length 1 1 (at_start ss) ss;
}

pub returns-in_err-items-clause-refuses : goal.returns-in_err-items-clause-refuses
returns-in_err-items-clause-refuses c =
    let ss = said c.args.unit.now in
    let code = c.in_ok-code.code in
    let whole = c.in_ok-code.ensures.code in
    let short = sizes_short (tables ss) (located (ss ∷ [])) _ code.sections.items code.sizes.items whole in
    let memory = c.in_err-items.ensures.refuses c.requires.good short in
    let found = err_from_is_err_and c.from_residual-in_err-items.result c.from_residual-in_err-items.ensures.1 in
    rw (found.1, found.2) (subst (λ e. IsRefusedSource ss e) (sym memory) tt)

pub data-requires-clause-made : goal.data-requires-clause-made
data-requires-clause-made c =
    let ss = said c.args.unit.now in
    let t = tables ss in
    let all = located_from 1 1 (at_start ss) ss in
    let code = c.in_ok-code.code in
    subst (AreMade t all) (sym c.as_slice.ensures.value)
    (made_all ss (code_lengths t all c.in_ok-layout.layout.sizes.items) code.sections.items code.sizes.items c.in_ok-items.items.items c.in_ok-code.ensures.code c.in_ok-items.ensures.sized
    (lengths_of_sizes t all c.in_ok-layout.layout.sizes.items c.in_ok-layout.ensures.sizes))

pub returns-clause-draft : goal.returns-clause-draft
returns-clause-draft c =
    let u = c.args.unit.now in
    let ss = said u in
    let found = c.in_ok-filled.filled in
    let d : Draft = record { items = c.in_ok-items.items; sections = found.sections; ends = c.in_ok-items.ends; fields = found.fields; rvc = c.has_compressed.result } in
    let sections = sym (length-map u.tables.extents.items extent_section) ∙ ap length (sections_are u.tables.extents.items ∙ ap (λ (t : Tables). (opened_of t).sections) c.args.unit.now.filled.tables) in
    let few : length ss ≤ 2 ^ 22 = few_of ss c.requires.good in
    is_draft ss _ c.in_ok-code.code.sections.items c.in_ok-code.code.sizes.items d
    (record {
      good = c.requires.good;
      wide = all_wide u.statements;
      whole = c.in_ok-code.ensures.code;
      items = c.in_ok-items.ensures.items;
      sized = c.in_ok-items.ensures.sized;
      low = c.in_ok-items.ensures.low;
      figures = subst (λ is. (codes : List (List Coded)) → HaveCode ss is codes → IsData ss is codes c.in_ok-code.code.sections.items found.sections.items found.fields.items) c.as_slice.ensures.value c.in_ok-filled.ensures.data;
      least = least_lengths ss c.in_ok-layout.layout.sizes.items c.requires.good c.in_ok-layout.ensures.sizes c.in_ok-layout.ensures.least;
      counted = c.in_ok-filled.ensures.count ∙ c.in_ok-code.ensures.count ∙ sections;
      ended = c.in_ok-items.ensures.sections ∙ sections;
      few = omega (arith, few);
      compressed = c.has_compressed.ensures;
    })
