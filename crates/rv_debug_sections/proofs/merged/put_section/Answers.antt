use Rattle.std.proofs.Common.{rules, ◌≡◌, ◌∙◌, inr, pos, ℕ, ◌-◌, ◌++◌, List, [], Some, None, length, take, drop, replicate, ap, sym, subst, arith}
use Rattle.std.proofs.lemmas.List.{drop_all, length-drop}
use borrow.Rule.Slice.PartMut.{post_of}
use Rattle.rv_elf_laws.specs.Sections.{section_count}
use Rattle.rv_debug_laws.specs.Carried as laws
use Rattle.rv_debug_sections.specs.Views.{plain_part, plain_source}
use Rattle.rv_debug_sections.proofs.PaddedLemmas.{padded_part, padded_new}
use Rattle.rv_debug_sections.proofs.merged.put_section.Goals as goal

pub returns-then-relocate_all-clause-grown : goal.returns-then-relocate_all-clause-grown
returns-then-relocate_all-clause-grown c =
    let old = c.args.bytes.now.items in
    let k = c.args.contents.now in
    let all = c.deref_mut.result.now in
    let n = c.args.part.place in
    let new = c.relocate_all.new.bytes in
    let whole = c.deref_mut.ensures.value ∙ c.in_ok-put_contents.ensures in
    let part : take (length all - n) (drop n all) ≡ k = padded_part old k all n c.requires whole in
    let same : length new ≡ length k = search rules ∙ ap length part in
    let past : List ℕ = post_of n (length all - n) all in
    let none : past ≡ [] = drop_all (length all - n) (drop n all) (omega (arith, length-drop n all)) in
    let total : c.put_contents.new.bytes.len ≡ length all = search rules in
    let written = padded_new old k all n c.requires whole new past c.put_contents.new.bytes.len same none total in (
      new,
      sym (ap (laws.relocated_from (plain_source c.args.source.now) (plain_part c.args.part) (pos c.args.lost) 1 (section_count c.args.source.now.view.file.now - 1)) part) ∙ c.relocate_all.ensures.yes c.if-relocate_all.true,
      subst (λ l. take c.put_contents.new.bytes.len (take n all ++ (new ++ past) ++ drop (length (take n all ++ (new ++ past))) l) ≡ old ++ (replicate {A = ℕ} (n - length old) 0 ++ new)) c.deref_mut.ensures.value written,
    )

pub returns-else-relocate_all-clause-refuses : goal.returns-else-relocate_all-clause-refuses
returns-else-relocate_all-clause-refuses c =
    let old = c.args.bytes.now.items in
    let k = c.args.contents.now in
    let all = c.deref_mut.result.now in
    let n = c.args.part.place in
    let whole = c.deref_mut.ensures.value ∙ c.in_ok-put_contents.ensures in
    let part : take (length all - n) (drop n all) ≡ k = padded_part old k all n c.requires whole in
    inr (sym (ap (laws.relocated_from (plain_source c.args.source.now) (plain_part c.args.part) (pos c.args.lost) 1 (section_count c.args.source.now.view.file.now - 1)) part) ∙ c.relocate_all.ensures.no c.if-relocate_all.false)
