use Rattle.std.proofs.Common.{◌≡◌, ◌∙◌, ◌+◌, ap, sym, rules, Some, None}
use Rattle.rv_object_types.specs.Parts.{relocation_of}
use Rattle.rv_link_sites.specs.Text.{objects_of, text_target}
use Rattle.rv_link_sites.proofs.TargetsLemmas.{target_none, target_is}
use Rattle.rv_link_sites.proofs.text.Text.target.Goals as goal

pub returns-in_err-index : goal.returns-in_err-index
returns-in_err-index c = λ i file at.
    let none : c.args.relocation.now.symbol ≡ None = search rules in
    c.from_residual.ensures ∙ sym (target_none (objects_of c.args.self.now) i (relocation_of c.args.relocation.now) none)

pub returns-in_err-place : goal.returns-in_err-place
returns-in_err-place c = λ i file at.
    let os = objects_of c.args.self.now in
    let is : c.args.relocation.now.symbol ≡ Some c.in_ok-index.index = search rules in
    c.from_residual-in_err-place.ensures
    ∙ ap (text_target os) (c.in_err-place.ensures i.object at ∙ sym (target_is os i (relocation_of c.args.relocation.now) (c.args.file.0 + 1) c.in_ok-index.index file is))

pub returns : goal.returns
returns c = λ i file at.
    let os = objects_of c.args.self.now in
    let is : c.args.relocation.now.symbol ≡ Some c.in_ok-index.index = search rules in
    c.offset.ensures
    ∙ ap (text_target os) (c.in_ok-place.ensures i.object at ∙ sym (target_is os i (relocation_of c.args.relocation.now) (c.args.file.0 + 1) c.in_ok-index.index file is))
