-- Atom by atom, with the plain bytes behind it.
use Rattle.std.proofs.Common.{◌≡◌, [], ◌∷◌, ◌++◌, refl, sym, ◌∙◌, ap, append_assoc, arith}
use Rattle.std.proofs.lemmas.List.{append-nil}
use Rattle.rv_lexer.specs.Token.{string_bytes}
use Rattle.rv_lexer.proofs.InsideLemmas.{atom_within, string_more, string_none}
use Rattle.rv_lexer.proofs.PlainBytesLemmas.{on_err, atom_and_plain}
use Rattle.rv_lexer.proofs.strings.append_each.Goals as goal

pub loop-byte-init : goal.loop-byte-init
loop-byte-init c = ([], sym (append-nil _), refl)

pub split_at-requires : goal.split_at-requires
split_at-requires c = (atom_within c.loop-byte.rest.now c.in-Some.byte c.in-Some.length c.in-Some.ensures).1

pub loop-byte-smaller : goal.loop-byte-smaller
loop-byte-smaller c =
    let w = atom_within c.loop-byte.rest.now c.in-Some.byte c.in-Some.length c.in-Some.ensures in
    omega (arith, w.0, w.1, c.split_at.ensures.back_len, c.split_at-in-Some.ensures.back_len)

pub loop-byte-preserved : goal.loop-byte-preserved
loop-byte-preserved c =
    let so = c.loop-byte.invariant in
    let byte = c.in-Some.byte in
    let plain = c.split_at-in-Some.result.0.now in
    let behind = c.split_at-in-Some.result.1.now in
    let rest : string_bytes c.loop-byte.rest.now ≡ byte ∷ (plain ++ string_bytes behind) =
    atom_and_plain c.loop-byte.rest.now _ plain behind byte _ _ c.in-Some.ensures c.split_at.ensures.back c.plain_length.ensures.count c.split_at-in-Some.ensures.front c.split_at-in-Some.ensures.back in (
      (so.0 ++ byte ∷ []) ++ plain,
      c.in_ok-extend_from_slice.ensures.items
          ∙ ap (λ l. l ++ plain) (c.in_ok-push.ensures.items ∙ ap (λ l. l ++ byte ∷ []) so.1 ∙ append_assoc _ so.0 (byte ∷ []))
          ∙ append_assoc _ (so.0 ++ byte ∷ []) plain,
      so.2
          ∙ ap (λ l. so.0 ++ l) rest
          ∙ sym (append_assoc so.0 (byte ∷ []) (plain ++ string_bytes behind))
          ∙ sym (append_assoc (so.0 ++ byte ∷ []) plain (string_bytes behind)),
    )

pub returns-clause-ok : goal.returns-clause-ok
returns-clause-ok c =
    let so = c.loop-byte.invariant in
    so.1 ∙ ap (λ l. c.args.bytes.now.items ++ l) (sym (so.2 ∙ ap (λ l. so.0 ++ l) (string_none c.loop-byte.rest.now c.in_default.ensures) ∙ append-nil so.0))

pub returns-in_err-push-clause-err : goal.returns-in_err-push-clause-err
returns-in_err-push-clause-err c =
    let so = c.loop-byte.invariant in
    on_err c.from_residual.result (so.0, string_bytes c.loop-byte.rest.now, c.in_err-push.ensures.items ∙ so.1, so.2)

pub returns-in_err-extend_from_slice-clause-err : goal.returns-in_err-extend_from_slice-clause-err
returns-in_err-extend_from_slice-clause-err c =
    let so = c.loop-byte.invariant in
    let byte = c.in-Some.byte in
    on_err c.from_residual-in_err-extend_from_slice.result (
      so.0 ++ byte ∷ [],
      string_bytes c.split_at.result.1.now,
      c.in_err-extend_from_slice.ensures.items ∙ c.in_ok-push.ensures.items ∙ ap (λ l. l ++ byte ∷ []) so.1 ∙ append_assoc _ so.0 (byte ∷ []),
      so.2
          ∙ ap (λ l. so.0 ++ l) (string_more c.loop-byte.rest.now byte c.in-Some.length c.in-Some.ensures ∙ ap (λ r. byte ∷ string_bytes r) (sym c.split_at.ensures.back))
          ∙ sym (append_assoc so.0 (byte ∷ []) _),
    )
