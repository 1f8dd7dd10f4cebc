use Rattle.std.proofs.Common.{◌≡◌, ◌<◌, ◌≤◌, ◌++◌, true, length, slice_index_or, get_or, sym, ap, subst, ◌∙◌}
use Rattle.std.specs.List.{slice_get}
use Rattle.rv_list_laws.proofs.ElementsLemmas.{index_or_read}
use Rattle.rv_object_types.specs.Parts.{relocation_of, zeros_relocation}
use Rattle.rv_object_types.specs.Sections.{section_of}
use Rattle.rv_link_laws.specs.Inputs.{goes_to_text}
use Rattle.rv_shorten.specs.Sections.{moves_in}
use Rattle.rv_relax.specs.Kept.{kept_in}
use Rattle.rv_relax.specs.Told.{as_list, told_at}
use Rattle.rv_relax.proofs.ToldLemmas.{told_by, section_told, found_one, passed_all}
use Rattle.rv_relax.proofs.told.found_in.Goals as goal

pub returns-in-Some : goal.returns-in-Some
returns-in-Some c = λ more.
    let s = c.args.section.now in
    let own = told_by c.args.counted s in
    let xs = s.whole.now.relocations.items in
    let i = c.loop-relocation.relocation-index in
    let rs = c.deref-relocation-items.result.now in
    let x = slice_index_or rs i zeros_relocation in
    let same = c.deref-relocation-items.ensures.value in
    let inside : i < length xs = subst (λ l. i < length l) same c.loop-relocation-test.true in
    let is : x ≡ get_or xs i x = index_or_read rs i zeros_relocation c.loop-relocation-test.true ∙ ap (λ l. get_or l i x) same in
    let told : c.bytes_at.result ≡ told_at c.args.counted (moves_in s) (kept_in s) (relocation_of x) = c.bytes_at.ensures ∙ ap (λ ms. told_at c.args.counted (moves_in s) ms (relocation_of x)) c.requires in
    let text : goes_to_text (section_of s.whole.now) ≡ true = sym c.is_text.ensures ∙ c.if-not-is_text.false in
    ap (λ l. slice_get (l ++ more) c.args.left.now) (sym (section_told c.args.counted s text))
    ∙ found_one own xs i x inside is c.args.left.now c.loop-relocation.left c.loop-relocation.invariant c.in-Some.bytes (λ m. ap (λ o. slice_get (as_list o ++ m) c.loop-relocation.left) (sym told) ∙ c.in-Some.ensures m) more

pub returns : goal.returns
returns c = λ more.
    let s = c.args.section.now in
    let own = told_by c.args.counted s in
    let xs = s.whole.now.relocations.items in
    let i = c.loop-relocation.relocation-index in
    let past : length xs ≤ i = subst (λ l. length l ≤ i) c.deref-relocation-items.ensures.value c.loop-relocation-test.false in
    let text : goes_to_text (section_of s.whole.now) ≡ true = sym c.is_text.ensures ∙ c.if-not-is_text.false in
    ap (λ l. slice_get (l ++ more) c.args.left.now) (sym (section_told c.args.counted s text))
    ∙ passed_all own xs i c.args.left.now c.loop-relocation.left past c.loop-relocation.invariant more
