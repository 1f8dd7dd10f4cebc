use Rattle.std.proofs.Common.{◌∙◌, ◌-◌, ◌==◌, ap, [], length, option_map}
use Rattle.std.specs.Prelude.{slice_get, unwrap_or}
use Rattle.std.specs.Option.{option_copied}
use Rattle.rv_list_laws.proofs.FindLemmas.{latest_kept}
use Rattle.rv_expression_laws.specs.Bytes.{digits_value}
use Rattle.rv_unit_laws.specs.Tables as laws
use Rattle.rv_unit.specs.Tables.{numbered_at, numeric_label_at, numeric_labels_in}
use Rattle.rv_unit.proofs.NumberedLemmas.{numbered_with}
use Rattle.rv_unit.proofs.tables.Tables.latest_numeric_label.Goals as goal

pub returns-in-Some : goal.returns-in-Some
returns-in-Some c = λ i.
    let n = digits_value 10 c.args.digits.now in
    let b = c.args.self.now in
    let kept = numbered_with c.get.result _ c.in-Some.numeric_labels.now c.get.ensures.value (ap (λ o. unwrap_or (option_copied o) []) c.in-Some.is) in
    ap (option_map (numeric_label_at n)) (c.last.ensures ∙ ap (λ l. slice_get l (length l - 1)) kept)
    ∙ latest_kept (numeric_label_at n) (λ (m : laws.NumericLabel). m.number == n) (numbered_at b.numbered n) (numeric_labels_in b.numbered.entries) (i.numbered c.args.digits.now)

pub returns-in-None : goal.returns-in-None
returns-in-None c = λ i.
    let n = digits_value 10 c.args.digits.now in
    let b = c.args.self.now in
    let kept = numbered_with c.get.result _ [] c.get.ensures.value (ap (λ o. unwrap_or (option_copied o) []) c.in-None.is) in
    ap (λ l. option_map (numeric_label_at n) (slice_get l (length l - 1))) kept
    ∙ latest_kept (numeric_label_at n) (λ (m : laws.NumericLabel). m.number == n) (numbered_at b.numbered n) (numeric_labels_in b.numbered.entries) (i.numbered c.args.digits.now)
