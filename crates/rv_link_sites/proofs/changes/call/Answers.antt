use Rattle.std.proofs.Common.{FitsSigned, subst, pos, ◌+ℤ◌, ◌≡◌, true, Some, ◌&&◌, sym, ap, ◌∙◌, refl, rules}
use Rattle.std.specs.Prelude.{◌==◌}
use Rattle.std.specs.Int.{w64, int_wrap}
use Rattle.std.proofs.lemmas.Int.{to_z-of_z, SFits-int_wrap}
use Rattle.std.proofs.lemmas.Option.{slice_get_within}
use Rattle.rv_object_laws.specs.Object.{stored}
use Rattle.rv_object_types.specs.Parts.{relocation_of}
use Rattle.rv_object_types.specs.Sections.{section_of}
use Rattle.rv_object_types.specs.View.{object_of}
use Rattle.rv_link_laws.specs.CallSites as laws
use Rattle.rv_link_sites.specs.Text.{objects_of, input_of}
use Rattle.rv_link_sites.proofs.ChangedLemmas.{one_call}
use Rattle.rv_link_sites.proofs.changes.call.Goals as goal

pub returns-then-input : goal.returns-then-input
returns-then-input c =
    let os = objects_of c.args.text.now in
    let i = input_of c.args.input.now in
    let r = relocation_of c.args.relocation.now in
    let words : laws.are_call_words (stored i.section.contents) r.place ≡ true =
    ap (λ l. laws.are_call_words l r.place) (sym c.stored-bytes.ensures) ∙ sym c.are_call_words.ensures ∙ c.if-not-are_call_words.false in
    let target = c.in_ok-target.ensures i refl c.requires.given.among.at in
    let inside = slice_get_within (object_of c.args.input.now.object.now).sections c.args.input.now.index.0 (section_of c.args.input.now.section.now) c.requires.given.among.there in
    let entered = sym (c.is_entered.ensures (object_of c.args.input.now.object.now) c.requires.given.among.entries inside) ∙ c.if-is_entered.false in
    let link = c.link_register.ensures.value ∙ ap (λ l. laws.link_register l r.place) c.stored-bytes.ensures in
    let short = ap (λ n. n == 0) link ∙ sym (ap (λ b. b && (laws.link_register (stored i.section.contents) r.place == 0)) c.if-input.true) in
    let added = c.constant.ensures ∙ ap (λ a. int_wrap w64 (a +ℤ pos c.in_ok-target.target.past_end)) (to_z-of_z w64 c.args.relocation.now.addend (search rules)) in
    let fits = subst (FitsSigned w64) (sym added) (SFits-int_wrap w64 (c.args.relocation.now.addend +ℤ pos c.in_ok-target.target.past_end)) in
    ap (λ a. Some (record { target = c.in_ok-target.target.offset; addend = a; compressed = c.link_register.result == 0 })) (to_z-of_z w64 c.constant.result fits)
    ∙ one_call os i r c.in_ok-target.target c.constant.result (c.link_register.result == 0) words target entered added short

pub returns-else-input : goal.returns-else-input
returns-else-input c =
    let os = objects_of c.args.text.now in
    let i = input_of c.args.input.now in
    let r = relocation_of c.args.relocation.now in
    let words : laws.are_call_words (stored i.section.contents) r.place ≡ true =
    ap (λ l. laws.are_call_words l r.place) (sym c.stored-bytes.ensures) ∙ sym c.are_call_words.ensures ∙ c.if-not-are_call_words.false in
    let target = c.in_ok-target.ensures i refl c.requires.given.among.at in
    let inside = slice_get_within (object_of c.args.input.now.object.now).sections c.args.input.now.index.0 (section_of c.args.input.now.section.now) c.requires.given.among.there in
    let entered = sym (c.is_entered.ensures (object_of c.args.input.now.object.now) c.requires.given.among.entries inside) ∙ c.if-is_entered.false in
    let rvc = c.args.input.now.object.now.rvc in
    let short = c.if-input.false ∙ sym (ap (λ b. b && (laws.link_register (stored i.section.contents) r.place == 0)) c.if-input.false) in
    let added = c.constant.ensures ∙ ap (λ a. int_wrap w64 (a +ℤ pos c.in_ok-target.target.past_end)) (to_z-of_z w64 c.args.relocation.now.addend (search rules)) in
    let fits = subst (FitsSigned w64) (sym added) (SFits-int_wrap w64 (c.args.relocation.now.addend +ℤ pos c.in_ok-target.target.past_end)) in
    ap (λ a. Some (record { target = c.in_ok-target.target.offset; addend = a; compressed = rvc })) (to_z-of_z w64 c.constant.result fits)
    ∙ one_call os i r c.in_ok-target.target c.constant.result rvc words target entered added short
