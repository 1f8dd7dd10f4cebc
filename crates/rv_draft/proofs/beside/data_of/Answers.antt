use Rattle.std.proofs.Common.{rules, ◌≡◌, ◌*◌, ◌∙◌, false, true, sym, ap, length, map, vec_len}
use Rattle.std.proofs.lemmas.List.{length-map}
use Rattle.rv_expression.specs.Expr.{tree_of_expr}
use Rattle.rv_statement_laws.specs.Widths.{width_bytes}
use Rattle.rv_statement.specs.View.{quoted, statement_kind}
use Rattle.rv_unit_laws.specs.Tables.{padding, string_bytes, within}
use Rattle.rv_unit.proofs.LookupsLemmas.{within_cut}
use Rattle.rv_instruction.specs.Scoped.{values_at}
use Rattle.rv_draft.specs.Contents.{data_of}
use Rattle.rv_draft.proofs.beside.data_of.Goals as goal

pub returns-in-Value-clause-is : goal.returns-in-Value-clause-is
returns-in-Value-clause-is c = λ index filled stands.
    let offset = c.args.place.offset in
    c.within.ensures.is ∙ within_cut offset c.values_size.result _ c.values_size.ensures
    ∙ ap (λ k. data_of (values_at c.args.scope.now index c.args.place) offset (statement_kind k)) (sym c.in-Value.is)

pub returns-in-Values-clause-is : goal.returns-in-Values-clause-is
returns-in-Values-clause-is c = λ index filled stands.
    let offset = c.args.place.offset in
    let width = width_bytes c.in-Values.width in
    let long : vec_len c.in-Values.values ≡ length c.in-Values.values.items = search rules in
    let count : c.len.result ≡ length (map tree_of_expr c.in-Values.values.items) = c.len.ensures ∙ long ∙ sym (length-map c.in-Values.values.items tree_of_expr) in
    c.within-in-Values.ensures.is ∙ within_cut offset c.values_size-in-Values.result _ c.values_size-in-Values.ensures ∙ ap (λ n. within offset (width * n)) count
    ∙ ap (λ k. data_of (values_at c.args.scope.now index c.args.place) offset (statement_kind k)) (sym c.in-Values.is)

pub returns-in-Ascii-clause-is : goal.returns-in-Ascii-clause-is
returns-in-Ascii-clause-is c = λ index filled stands.
    let offset = c.args.place.offset in
    c.within-in-Ascii.ensures.is ∙ within_cut offset c.strings_size.result _ c.strings_size.ensures ∙ ap (λ l. within offset (length (string_bytes false (map quoted l)))) c.deref.ensures.value
    ∙ ap (λ k. data_of (values_at c.args.scope.now index c.args.place) offset (statement_kind k)) (sym c.in-Ascii.is)

pub returns-in-Asciz-clause-is : goal.returns-in-Asciz-clause-is
returns-in-Asciz-clause-is c = λ index filled stands.
    let offset = c.args.place.offset in
    c.within-in-Asciz.ensures.is ∙ within_cut offset c.strings_size-in-Asciz.result _ c.strings_size-in-Asciz.ensures
    ∙ ap (λ l. within offset (length (string_bytes true (map quoted l)))) c.deref-in-Asciz.ensures.value
    ∙ ap (λ k. data_of (values_at c.args.scope.now index c.args.place) offset (statement_kind k)) (sym c.in-Asciz.is)

pub returns-in-Zeros-clause-is : goal.returns-in-Zeros-clause-is
returns-in-Zeros-clause-is c = λ index filled stands.
    let offset = c.args.place.offset in
    let v = values_at c.args.scope.now index c.args.place in
    c.within-in-Zeros.ensures.is ∙ ap (within offset) (c.counted.ensures (v (tree_of_expr c.in-Zeros.count)) (c.value.ensures index filled stands))
    ∙ ap (λ k. data_of v offset (statement_kind k)) (sym c.in-Zeros.is)

pub returns-in-AlignsToPower-clause-is : goal.returns-in-AlignsToPower-clause-is
returns-in-AlignsToPower-clause-is c = λ index filled stands.
    let offset = c.args.place.offset in
    let v = values_at c.args.scope.now index c.args.place in
    let alignment = c.power_alignment-alignment.ensures (v (tree_of_expr c.in-AlignsToPower.power)) (c.value-in-AlignsToPower.ensures index filled stands) in
    c.within-in-AlignsToPower.ensures.is ∙ ap (within offset) c.padding.ensures ∙ ap (λ a. within offset (padding a offset)) alignment
    ∙ ap (λ k. data_of v offset (statement_kind k)) (sym c.in-AlignsToPower.is)

pub returns-in-AlignsToBytes-clause-is : goal.returns-in-AlignsToBytes-clause-is
returns-in-AlignsToBytes-clause-is c = λ index filled stands.
    let offset = c.args.place.offset in
    let v = values_at c.args.scope.now index c.args.place in
    let alignment = c.byte_alignment-alignment.ensures (v (tree_of_expr c.in-AlignsToBytes.bytes)) (c.value-in-AlignsToBytes.ensures index filled stands) in
    c.within-in-AlignsToBytes.ensures.is ∙ ap (within offset) c.padding-in-AlignsToBytes.ensures ∙ ap (λ a. within offset (padding a offset)) alignment
    ∙ ap (λ k. data_of v offset (statement_kind k)) (sym c.in-AlignsToBytes.is)
