use Rattle.std.proofs.Common.{◌∷◌, ◌++◌, map, sym, ◌∙◌, arith}
use Rattle.rv_object_types.specs.Parts.{relocation_of}
use Rattle.rv_link_sites.specs.Text.{objects_of, input_of}
use Rattle.rv_link_sites.proofs.ChangedLemmas.{may_not, may_if, none_added, call_added}
use Rattle.rv_link_sites.proofs.changes.put_change.Goals as goal

pub returns-then-not-is_allowed : goal.returns-then-not-is_allowed
returns-then-not-is_allowed c = λ rs before rise same.
    let os = objects_of c.args.text.now in
    let i = input_of c.args.input.now in
    let r = relocation_of c.args.relocation.now in
    let other = sym c.has_padding.ensures ∙ c.if-has_padding.false in
    none_added os i r c.args.first c.args.sites.now.items
    (may_not os i r (rs ++ r ∷ map relocation_of c.args.after.now) other same (sym (c.is_allowed.ensures.allows rs before rise) ∙ c.if-not-is_allowed.true))

pub put_call-requires-clause-low : goal.put_call-requires-clause-low
put_call-requires-clause-low c =
    let call = c.if-not-is_allowed.ensures.call in
    let within = (c.requires.lying.call call).1 in
    let low = c.requires.low in
    omega (arith, within, low)

pub put_call-requires-clause-within : goal.put_call-requires-clause-within
put_call-requires-clause-within c = (c.requires.lying.call c.if-not-is_allowed.ensures.call).0

pub returns : goal.returns
returns c = λ rs before rise same.
    let os = objects_of c.args.text.now in
    let i = input_of c.args.input.now in
    let r = relocation_of c.args.relocation.now in
    let other = sym c.has_padding.ensures ∙ c.if-has_padding.false in
    call_added os i r c.args.first c.args.sites.now.items c.put_call.new.sites.items other
    (may_if os i r (rs ++ r ∷ map relocation_of c.args.after.now) other same (sym (c.is_allowed.ensures.allows rs before rise) ∙ c.if-not-is_allowed.false)) c.in_ok-put_call.ensures
