-- The plain bytes, and then one by one.
use Rattle.std.proofs.Common.{◌≡◌, [], ◌++◌, refl, sym, ◌∙◌, ap, append_assoc}
use Rattle.std.proofs.lemmas.List.{append-nil}
use Rattle.rv_lexer.specs.Token.{string_bytes}
use Rattle.rv_lexer.proofs.PlainBytesLemmas.{on_err, in_two}
use Rattle.rv_lexer.proofs.strings.append_string.Goals as goal

pub returns-clause-ok : goal.returns-clause-ok
returns-clause-ok c =
    let plain = c.split_at.result.0.now in
    let behind = c.split_at.result.1.now in
    let whole : string_bytes c.args.text.now ≡ plain ++ string_bytes behind =
    in_two c.args.text.now plain behind _ c.plain_length.ensures.count c.split_at.ensures.front c.split_at.ensures.back in
    c.in_ok-append_each.ensures.ok
    ∙ ap (λ l. l ++ string_bytes behind) c.in_ok-extend_from_slice.ensures.items
    ∙ append_assoc c.args.bytes.now.items plain (string_bytes behind)
    ∙ ap (λ l. c.args.bytes.now.items ++ l) (sym whole)

pub returns-in_err-extend_from_slice-clause-err : goal.returns-in_err-extend_from_slice-clause-err
returns-in_err-extend_from_slice-clause-err c =
    on_err c.from_residual.result ([], string_bytes c.args.text.now, c.in_err-extend_from_slice.ensures.items ∙ sym (append-nil _), refl)

pub returns-in_err-append_each-clause-err : goal.returns-in_err-append_each-clause-err
returns-in_err-append_each-clause-err c =
    let plain = c.split_at.result.0.now in
    let behind = c.split_at.result.1.now in
    let whole : string_bytes c.args.text.now ≡ plain ++ string_bytes behind =
    in_two c.args.text.now plain behind _ c.plain_length.ensures.count c.split_at.ensures.front c.split_at.ensures.back in
    let so = c.in_err-append_each.ensures.err in
    on_err c.from_residual-in_err-append_each.result (
      plain ++ so.0,
      so.1,
      so.2 ∙ ap (λ l. l ++ so.0) c.in_ok-extend_from_slice.ensures.items ∙ append_assoc c.args.bytes.now.items plain so.0,
      whole ∙ ap (λ l. plain ++ l) so.3 ∙ sym (append_assoc plain so.0 so.1),
    )
