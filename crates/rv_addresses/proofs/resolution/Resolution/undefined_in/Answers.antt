use Rattle.std.proofs.Common.{◌≡◌, ◌<◌, ◌∙◌, Option, Some, None, List, ℕ, length, map, option_map, get_or, rules, ap, sym, subst}
use Rattle.std.specs.Prelude.{if◌then◌else◌}
use Rattle.rv_object_laws.specs.Object.{Relocation}
use Rattle.rv_object_types.specs.Parts.{relocation_of}
use Rattle.rv_shorten.specs.Sections.{moves_in, short_section_of}
use Rattle.rv_shorten.specs.View.{short_object_of}
use Rattle.rv_addresses.specs.Meant.{name_bytes}
use Rattle.rv_link_laws.specs.Undefined.{first_some, undefined_in, undefined_name}
use Rattle.rv_addresses.proofs.CutsLemmas.{same_symbols}
use Rattle.rv_link_laws.proofs.FirstSomeLemmas.{none_here, one_here}
use Rattle.rv_addresses.proofs.resolution.Resolution.undefined_in.Goals as goal

pub loop-section-preserved : goal.loop-section-preserved
loop-section-preserved c = λ at.
    let i = c.loop-section.section-index in
    let os = map short_object_of c.args.self.now.objects.now in
    let o = short_object_of c.args.object.now in
    let xs = c.args.object.now.sections.items in
    let x = c.section-item.result in
    let same = c.deref-section-items.ensures.value in
    let inside : i < length xs = subst (λ l. i < length l) same (search rules) in
    let one : List Relocation → Option (List ℕ) = first_some (λ r. undefined_name os o r.symbol) in
    let found = ap (λ l. one (map relocation_of l)) c.as_slice-relocations.ensures.value in
    let none : undefined_in os o (short_section_of x) ≡ None =
    ap (λ b. if b then one (short_section_of x).relocations else None) c.if-not-section.false
    ∙ same_symbols (undefined_name os o) (moves_in x) (map relocation_of x.whole.now.relocations.items)
    ∙ sym found ∙ sym (c.undefined_among.ensures at) ∙ ap (option_map name_bytes) c.in-None.is in
    none_here (undefined_in os o) short_section_of xs i x inside (c.section-item.is ∙ ap (λ l. get_or l i x) same) none ∙ c.loop-section.invariant at

pub returns-in-Some : goal.returns-in-Some
returns-in-Some c = λ at.
    let i = c.loop-section.section-index in
    let os = map short_object_of c.args.self.now.objects.now in
    let o = short_object_of c.args.object.now in
    let xs = c.args.object.now.sections.items in
    let x = c.section-item.result in
    let same = c.deref-section-items.ensures.value in
    let inside : i < length xs = subst (λ l. i < length l) same (search rules) in
    let one : List Relocation → Option (List ℕ) = first_some (λ r. undefined_name os o r.symbol) in
    let found = ap (λ l. one (map relocation_of l)) c.as_slice-relocations.ensures.value in
    let some : undefined_in os o (short_section_of x) ≡ Some c.in-Some.name.now =
    ap (λ b. if b then one (short_section_of x).relocations else None) c.if-not-section.false
    ∙ same_symbols (undefined_name os o) (moves_in x) (map relocation_of x.whole.now.relocations.items)
    ∙ sym found ∙ sym (c.undefined_among.ensures at) ∙ ap (option_map name_bytes) c.in-Some.is in
    one_here (undefined_in os o) short_section_of xs i x _ inside (c.section-item.is ∙ ap (λ l. get_or l i x) same) some ∙ c.loop-section.invariant at
