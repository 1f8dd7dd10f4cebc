use Rattle.std.proofs.Common.{rules, ◌++◌, ◌+◌, ◌<◌, ◌∙◌, length, drop, sym, ap, append-nil}
use Rattle.rv_list_laws.proofs.MapLemmas.{flat_more, drop_map_or}
use Rattle.rv_instruction.specs.declared.encoded.Coded.{Coded}
use Rattle.rv_instruction.specs.Code.{encoded_bytes, coded_by}
use Rattle.rv_draft.proofs.code.put_all.Goals as goal

pub loop-coded-preserved : goal.loop-coded-preserved
loop-coded-preserved c =
    let i = c.loop-coded.coded-index in
    let xs = c.args.code.now in
    let inside : i < length xs = search rules in
    let old = c.loop-coded.bytes.items in
    flat_more (λ b. b) (drop i (coded_by xs)) (drop (i + 1) (coded_by xs)) _ old c.put.new.bytes.items _
    (drop_map_or (λ (c : Coded). encoded_bytes c.encoded) xs i _ inside) (c.in_ok-put.ensures ∙ ap (λ l. old ++ l) (sym (append-nil _))) c.loop-coded.invariant
