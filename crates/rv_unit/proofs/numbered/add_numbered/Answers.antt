use Rattle.std.proofs.Common.{◌≡◌, ◌∙◌, ◌==◌, ◌<◌, ◌^◌, ◌++◌, length, ap, sym, subst, cond, Some, [], ◌∷◌}
use Rattle.std.specs.Prelude.{unwrap_or}
use Rattle.std.proofs.lemmas.Bool.{eqb-true}
use Rattle.indexmap.specs.IndexMap.{get_by, insert_entry}
use Rattle.rv_expression_laws.specs.Bytes.{digits_value}
use Rattle.rv_unit.specs.declared.number.Number.{Number}
use Rattle.rv_unit.specs.Tables.{numbered_at, numeric_labels_in}
use Rattle.rv_unit.proofs.NumberedLemmas.{same, added, added_to}
use Rattle.rv_unit.proofs.numbered.add_numbered.Goals as goal

pub returns-clause-each : goal.returns-clause-each
returns-clause-each c = λ few digits.
    let number = digits_value 10 c.args.number.digits.now in
    let x = c.args.label in
    let wanted : Number = record { digits = record { ref_ptr = (0, 0); now = digits } } in
    let before : c.or_none-labels.result ≡ numbered_at c.args.numbered.now number = c.or_none-labels.ensures ∙ ap (λ o. unwrap_or o []) c.in_ok-insert.ensures.old in
    ap (λ o. unwrap_or o []) (c.in_ok-insert-2.ensures.updates.0 wanted ∙ ap (λ o. cond (number == digits_value 10 digits) (Some c.push.new.self) o) (c.in_ok-insert.ensures.updates.0 wanted))
    ∙ added_to (number == digits_value 10 digits) c.push.new.self _ (numbered_at c.args.numbered.now (digits_value 10 digits)) x
    (λ alike. c.in_ok-push.ensures.ok (subst (λ l. length l < 2 ^ 32) (sym before) few)
    ∙ ap (λ l. l ++ x ∷ []) (before ∙ ap (numbered_at c.args.numbered.now) (eqb-true number (digits_value 10 digits) alike)))
    (λ apart. ap (λ b. unwrap_or (cond b (Some c.new.result) (get_by (λ (k : Number). digits_value 10 digits == digits_value 10 k.digits.now) c.args.numbered.now)) []) apart)

pub returns-clause-all : goal.returns-clause-all
returns-clause-all c = λ few low.
    let x = c.args.label in
    let before : c.or_none-labels.result ≡ numbered_at c.args.numbered.now (digits_value 10 c.args.number.digits.now) = c.or_none-labels.ensures ∙ ap (λ o. unwrap_or o []) c.in_ok-insert.ensures.old in
    ap numeric_labels_in (c.in_ok-insert-2.ensures.entries ∙ ap (λ es. insert_entry same es c.args.number c.push.new.self) c.in_ok-insert.ensures.entries)
    ∙ added c.args.numbered.now.entries c.args.number x c.new.result c.push.new.self
    (c.in_ok-push.ensures.ok (subst (λ l. length l < 2 ^ 32) (sym before) few) ∙ ap (λ l. l ++ x ∷ []) before)
    low
