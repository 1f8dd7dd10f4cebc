use Rattle.std.proofs.Common.{◌∙◌, ◌==◌, ap, subst, sym, [], nat_lt, option_map}
use Rattle.std.specs.List.{find}
use Rattle.std.specs.List.Sorted.{IsNonDecreasingBy}
use Rattle.std.specs.Prelude.{reverse, unwrap_or}
use Rattle.std.specs.Option.{option_copied}
use Rattle.rv_list_laws.proofs.FindLemmas.{before_kept}
use Rattle.rv_expression_laws.specs.Bytes.{digits_value}
use Rattle.rv_unit_laws.specs.Tables as laws
use Rattle.rv_unit.specs.declared.tables.NumericLabel.{NumericLabel}
use Rattle.rv_unit.specs.Tables.{numbered_at, numeric_label_at, numeric_labels_in}
use Rattle.rv_unit.proofs.NumberedLemmas.{kept_rise, numbered_with}
use Rattle.rv_unit.proofs.tables.Tables.numeric_label_before.Goals as goal

pub returns-in-Some : goal.returns-in-Some
returns-in-Some c = λ i o h.
    let n = digits_value 10 c.args.digits.now in
    let b = c.args.self.now in
    let q = λ (m : laws.NumericLabel). m.number == n in
    let found = numbered_at b.numbered n in
    let all = numeric_labels_in b.numbered.entries in
    let kept = numbered_with c.get.result _ c.in-Some.numeric_labels.now c.get.ensures.value (ap (λ o. unwrap_or (option_copied o) []) c.in-Some.is) in
    let rise = kept_rise (numeric_label_at n) (λ (m : laws.NumericLabel). m.ordinal) q found all h.numeric_labels_fall (i.numbered c.args.digits.now) in
    ap (option_map (numeric_label_at n))
    (c.last_before.ensures (subst (λ l. IsNonDecreasingBy (λ (m : NumericLabel). m.ordinal) l) (sym kept) rise)
    ∙ ap (λ l. find (λ (m : NumericLabel). nat_lt m.ordinal c.args.ordinal) (reverse l)) kept)
    ∙ before_kept (numeric_label_at n) (λ (m : laws.NumericLabel). nat_lt m.ordinal c.args.ordinal) q found all (i.numbered c.args.digits.now)

pub returns-in-None : goal.returns-in-None
returns-in-None c = λ i o h.
    let n = digits_value 10 c.args.digits.now in
    let b = c.args.self.now in
    let q = λ (m : laws.NumericLabel). m.number == n in
    let found = numbered_at b.numbered n in
    let all = numeric_labels_in b.numbered.entries in
    let kept = numbered_with c.get.result _ [] c.get.ensures.value (ap (λ o. unwrap_or (option_copied o) []) c.in-None.is) in
    ap (λ l. option_map (numeric_label_at n) (find (λ (m : NumericLabel). nat_lt m.ordinal c.args.ordinal) (reverse l))) kept
    ∙ before_kept (numeric_label_at n) (λ (m : laws.NumericLabel). nat_lt m.ordinal c.args.ordinal) q found all (i.numbered c.args.digits.now)
