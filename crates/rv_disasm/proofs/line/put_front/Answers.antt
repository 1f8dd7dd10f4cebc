use Rattle.std.proofs.Common.{◌++◌, Some, None, refl, sym, ap, ◌∙◌}
use Rattle.rv_listing_laws.specs.Lines.{shown, length_read}
use Rattle.rv_listing_laws.proofs.FrontsLemmas.{front_is, front_count}
use Rattle.rv_disasm.proofs.line.put_front.Goals as goal

pub returns-in_ok-put_instruction-in-Some-clause-text : goal.returns-in_ok-put_instruction-in-Some-clause-text
returns-in_ok-put_instruction-in-Some-clause-text c reader =
    c.in_ok-put_instruction-in-Some.ensures
    ∙ ap (λ found. c.args.text.now.items ++ shown c.args.address found)
    (sym (front_is reader c.args.bytes.now (Some (c.in-Some.inst, c.in-Some.count)) c.in-Some.ensures.exact))

pub returns-in_ok-put_instruction-in-Some-clause-count : goal.returns-in_ok-put_instruction-in-Some-clause-count
returns-in_ok-put_instruction-in-Some-clause-count c reader = ap length_read (sym (front_is reader c.args.bytes.now (Some (c.in-Some.inst, c.in-Some.count)) c.in-Some.ensures.exact))

pub returns-in_ok-put_instruction-in-Some-clause-some : goal.returns-in_ok-put_instruction-in-Some-clause-some
returns-in_ok-put_instruction-in-Some-clause-some c = front_count c.args.bytes.now c.in-Some.inst c.in-Some.count ((c.in-Some.ensures.exact c.in-Some.inst c.in-Some.count).0 refl)

pub returns-in_ok-extend_from_slice-in-None-clause-text : goal.returns-in_ok-extend_from_slice-in-None-clause-text
returns-in_ok-extend_from_slice-in-None-clause-text c reader =
    c.in_ok-extend_from_slice-in-None.ensures.items
    ∙ ap (λ found. c.args.text.now.items ++ shown c.args.address found) (sym (front_is reader c.args.bytes.now None c.in-None.ensures.exact))

pub returns-in_ok-extend_from_slice-in-None-clause-count : goal.returns-in_ok-extend_from_slice-in-None-clause-count
returns-in_ok-extend_from_slice-in-None-clause-count c reader = ap length_read (sym (front_is reader c.args.bytes.now None c.in-None.ensures.exact))
