-- What a `.set` gives, by the value of its expression.

use Rattle.std.proofs.Common.{◌≡◌, ℕ, List, refl, sym, ap, ◌∙◌, subst, Result, Ok, Err}
use Rattle.std.specs.Prelude.{OnOk}
use Rattle.rv_expression_laws.specs.Expression.{Primary, Literal, Symbol as Name, Here, Reference, Tree}
use Rattle.rv_expression_laws.specs.Values as values
use Rattle.rv_expression.specs.declared.evaluation.Value.{Value}
use Rattle.rv_expression.specs.declared.evaluation.Value.TheVariants as results
use Rattle.rv_expression.specs.declared.node.Symbol.{Symbol}
use Rattle.rv_expression.specs.Nodes.{symbol_of}
use Rattle.rv_expression.specs.Eval.{value_told}
use Rattle.rv_unit_laws.specs.Tables as laws
use Rattle.rv_unit_laws.proofs.MeantLemmas.{HasMeaning, value_meant}

pub on_ok : {A E : Type 0} (r : Result A E) (P Q : Type 0) → (P → Q) → OnOk r P → OnOk r Q
on_ok (Ok a) P Q f h = f h
on_ok (Err e) P Q f h = h

pub both_ok : {A E : Type 0} (r : Result A E) (P Q : Type 0) → OnOk r P → OnOk r Q → OnOk r (P × Q)
both_ok (Ok a) P Q p q = (p, q)
both_ok (Err e) P Q p q = p

-- where the symbol of a value is `.`, it means what `.` does
assigned_symbol : (means : Primary → values.Meaning) (name : List ℕ) (o : ℕ) (p : Primary) (at here : values.Meaning) (plus : ℕ) → at ≡ means p → here ≡ means Here → laws.assigned name o (values.Symbolic p at plus) ≡ laws.assigned name o (values.Symbolic p here plus)
assigned_symbol means name o Here at here plus is same = ap (λ m. laws.assigned name o (values.Symbolic Here m plus)) (is ∙ sym same)
assigned_symbol means name o (Literal n) at here plus is same = refl
assigned_symbol means name o (Name n) at here plus is same = refl
assigned_symbol means name o (Reference d f) at here plus is same = refl

pub assigned_told : (means : Primary → values.Meaning) (name : List ℕ) (o : ℕ) (e : Tree) (v : Value) (symbol : Symbol) (here : values.Meaning) (plus : ℕ) → here ≡ means Here → value_told v (values.value_of means e) → v ≡ results.Symbolic symbol plus
    → laws.assigned name o (values.Symbolic (symbol_of symbol) here plus) ≡ laws.assigned name o (values.value_of means e)
assigned_told means name o e v symbol here plus same told is =
    let at = subst (λ x. value_told x (values.value_of means e)) is told in
    let known : at.0 ≡ means (symbol_of symbol) = subst (HasMeaning means) at.1 (value_meant means e) in
    sym (assigned_symbol means name o (symbol_of symbol) at.0 here plus known same) ∙ ap (laws.assigned name o) (sym at.1)
