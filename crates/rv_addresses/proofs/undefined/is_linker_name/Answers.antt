use Rattle.std.proofs.Common.{◌≡◌, true, false, [], ◌∷◌, List, ℕ, refl, sym, ◌∙◌}
use Rattle.std.specs.Prelude.{codes}
use Rattle.rv_link_laws.proofs.LinkerNamesLemmas.{tested, other, only}
use Rattle.rv_addresses.proofs.undefined.is_linker_name.Goals as goal
use Rattle.rv_addresses.proofs.undefined.is_linker_name.Goals.{then-eq, else-eq, then-eq-2, else-eq-2, then-eq-3, else-eq-3}

pub returns-else-eq-4 : goal.returns-else-eq-4
returns-else-eq-4 c = elim c.if-eq-3.branch [
  | then-eq-3 w ↦ absurd (let e : true ≡ false = sym w.if-eq-3.true ∙ sym w.value-is ∙ c.if-eq-4.false in cc)
  | else-eq-3 x ↦ elim c.if-eq-2.branch [
    | then-eq-2 w ↦ absurd (let e : true ≡ false = sym w.if-eq-2.true ∙ sym w.value-is ∙ x.if-eq-3.false in cc)
    | else-eq-2 y ↦ elim c.if-eq.branch [
      | then-eq w ↦ absurd (let e : true ≡ false = sym w.if-eq.true ∙ sym w.value-is ∙ y.if-eq-2.false in cc)
      | else-eq z ↦ (let name = c.args.name.now in
          let text = tested name c.as_slice.result.now (codes "_etext") c.eq.result false c.as_slice.ensures c.eq.ensures z.if-eq.false in
          let bss = tested name z.as_slice-else-eq.result.now (codes "__bss_start") z.eq-else-eq.result false z.as_slice-else-eq.ensures z.eq-else-eq.ensures (sym z.value-is ∙ y.if-eq-2.false) in
          let variables = tested name y.as_slice-else-eq-2.result.now (codes "_edata") y.eq-else-eq-2.result false y.as_slice-else-eq-2.ensures y.eq-else-eq-2.ensures (sym y.value-is ∙ x.if-eq-3.false) in
          let end = tested name x.as_slice-else-eq-3.result.now (codes "_end") x.eq-else-eq-3.result false x.as_slice-else-eq-3.ensures x.eq-else-eq-3.ensures (sym x.value-is ∙ c.if-eq-4.false) in
          let pointer = tested name c.as_slice-else-eq-4.result.now (codes "__global_pointer$") c.eq-else-eq-4.result c.eq-else-eq-4.result c.as_slice-else-eq-4.ensures c.eq-else-eq-4.ensures refl in
          let last : List (List ℕ) = codes "__global_pointer$" ∷ [] in
          sym
          (other (codes "_etext") (codes "__bss_start" ∷ codes "_edata" ∷ codes "_end" ∷ last) name text ∙ other (codes "__bss_start") (codes "_edata" ∷ codes "_end" ∷ last) name bss
          ∙ other (codes "_edata") (codes "_end" ∷ last) name variables ∙ other (codes "_end") last name end ∙ only (codes "__global_pointer$") name ∙ pointer))
    ]
  ]
]
