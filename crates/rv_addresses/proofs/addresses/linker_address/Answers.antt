use Rattle.std.proofs.Common.{◌+◌, false, [], ◌∷◌, List, sym, ◌∙◌}
use Rattle.std.specs.Prelude.{codes}
use Rattle.rv_map_laws.specs.Map.{Global}
use Rattle.rv_map_laws.specs.Globals.{global}
use Rattle.rv_link_laws.proofs.LinkerNamesLemmas.{tested, passed_over}
use Rattle.rv_addresses.proofs.addresses.linker_address.Goals as goal

pub returns-else-eq-5 : goal.returns-else-eq-5
returns-else-eq-5 c = λ os bounds h.
    let p = c.args.placement.now in
    let name = c.args.name.now in
    let text = tested name c.as_slice.result.now (codes "_etext") c.eq.result false c.as_slice.ensures c.eq.ensures c.if-eq.false in
    let bss = tested name c.as_slice-else-eq.result.now (codes "__bss_start") c.eq-else-eq.result false c.as_slice-else-eq.ensures c.eq-else-eq.ensures c.if-eq-2.false in
    let variables = tested name c.as_slice-else-eq-2.result.now (codes "_edata") c.eq-else-eq-2.result false c.as_slice-else-eq-2.ensures c.eq-else-eq-2.ensures c.if-eq-3.false in
    let end = tested name c.as_slice-else-eq-3.result.now (codes "_end") c.eq-else-eq-3.result false c.as_slice-else-eq-3.ensures c.eq-else-eq-3.ensures c.if-eq-4.false in
    let pointer = tested name c.as_slice-else-eq-4.result.now (codes "__global_pointer$") c.eq-else-eq-4.result false c.as_slice-else-eq-4.ensures c.eq-else-eq-4.ensures c.if-eq-5.false in
    let last : List Global = global (codes "__global_pointer$") (p.data.start + 0x800) ∷ [] in
    let ends = global (codes "_end") p.bss.end ∷ last in
    let behind = global (codes "_edata") p.data.end ∷ ends in
    sym
    (passed_over (global (codes "_etext") p.text.end) (global (codes "__bss_start") p.bss.start ∷ behind) name text
    ∙ passed_over (global (codes "__bss_start") p.bss.start) behind name bss
    ∙ passed_over (global (codes "_edata") p.data.end) ends name variables
    ∙ passed_over (global (codes "_end") p.bss.end) last name end
    ∙ passed_over (global (codes "__global_pointer$") (p.data.start + 0x800)) [] name pointer)
