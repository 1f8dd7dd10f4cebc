-- A constant by what a whole source says before a statement is the same constant by the statements before it.

use Rattle.std.proofs.Common.{◌≡◌, ℕ, ◌<◌, Bool, true, false, ◌&&◌, ◌==◌, nat_lt, List, length, refl, sym, ap, ◌∙◌, Option, Some, None}
use Rattle.std.specs.Str.{bytes_eq}
use Rattle.std.proofs.lemmas.Bool.{ltb-true}
use Rattle.rv_list_laws.proofs.FindLemmas.{find_passes}
use Rattle.rv_expression_laws.specs.Bytes.{digits_value}
use Rattle.rv_expression_laws.specs.Expression.{Primary, Literal, Symbol, Here, Reference}
use Rattle.rv_expression_laws.specs.Values.{Meaning, Open, Constant}
use Rattle.rv_statement_laws.specs.Statement.{Statement, Expression}
use Rattle.rv_unit_laws.specs.Tables.{Tables, SectionOffset, Labelled, NumericLabel, after_all, stands, label_of, labelled, assigned_before, assigned_first, own_named, weakened, numeric_label_before, numeric_label_after, forward_in, backward_in, meaning, value_by_tables, opened_of}
use Rattle.rv_unit_laws.proofs.BoundLemmas.{bound_all}
use Rattle.rv_unit_laws.proofs.LaterLemmas.{Keeps, keeps_all}
use Rattle.rv_unit_laws.proofs.OpenedLemmas.{IsStood, stands_same}
use Rattle.rv_unit_laws.proofs.SettledLemmas.{Agree, is_settled, constant_same}

module _ (t : Tables) (o : ℕ) (ss : List Statement) (whole : IsStood t) where
  abbrev all : Tables
  all = after_all t o ss

  keeps : Keeps t all o
  keeps = keeps_all t o ss

  stands_before : (p : SectionOffset) → p.section < length (opened_of t).sections → stands (opened_of all) p ≡ stands (opened_of t) p
  stands_before p inside = stands_same t o ss p whole.opened inside

  labelled_before : (name : List ℕ) (found : Option Labelled) → label_of t.labels false o name ≡ found → labelled (opened_of all) found Open ≡ labelled (opened_of t) found Open
  labelled_before name None e = refl
  labelled_before name (Some l) e =
      let n = length (opened_of t).sections in
      stands_before l.place
      (ltb-true l.place.section n (find_passes (λ k. bytes_eq k.name name && nat_lt k.ordinal o) (λ k. nat_lt k.place.section n) t.labels l whole.inside.labels e))

  numbered_before : (number : ℕ) (found : Option NumericLabel) → numeric_label_before t.numeric_labels o number ≡ found → backward_in (opened_of all) found ≡ backward_in (opened_of t) found
  numbered_before number None e = refl
  numbered_before number (Some l) e =
      let n = length (opened_of t).sections in
      stands_before l.place
      (ltb-true l.place.section n (find_passes (λ k. nat_lt k.ordinal o && (k.number == number)) (λ k. nat_lt k.place.section n) t.numeric_labels l whole.inside.numeric_labels e))

  name_before : (p : SectionOffset) (name : List ℕ) → meaning all false o p (Symbol name) ≡ meaning t false o p (Symbol name)
  name_before p name =
      ap (λ b. weakened (b name) (own_named all false o name)) (bound_all t o ss)
      ∙ ap (weakened (t.bindings name))
      (ap (λ f. assigned_first f (labelled (opened_of all) (label_of all.labels false o name) Open)) (keeps.assignments (λ s. bytes_eq s.name name))
      ∙ ap (λ l. assigned_first (assigned_before t.assignments o name) (labelled (opened_of all) l Open)) (keeps.labels (λ l. bytes_eq l.name name))
      ∙ ap (assigned_first (assigned_before t.assignments o name)) (labelled_before name (label_of t.labels false o name) refl))

  back_before : (p : SectionOffset) (digits : List ℕ) → meaning all false o p (Reference digits false) ≡ meaning t false o p (Reference digits false)
  back_before p digits =
      let n = digits_value 10 digits in
      ap (backward_in (opened_of all)) (keeps.numeric_labels (λ m. m.number == n))
      ∙ numbered_before n (numeric_label_before t.numeric_labels o n) refl

  module _ (p : SectionOffset) (inside : p.section < length (opened_of t).sections) where
    -- a numeric label that comes later is no constant
    ahead : (found : Option NumericLabel) (other : Meaning) → is_settled (forward_in (opened_of all) false found) ≡ true → other ≡ forward_in (opened_of all) false found
    ahead None other e = absurd (cc)
    ahead (Some m) other e = absurd (cc)

    agrees : Agree (λ q. meaning all false o p q) (λ q. meaning t false o p q)
    agrees (Literal number) e = refl
    agrees (Symbol name) e = sym (name_before p name)
    agrees Here e = sym (stands_before p inside)
    agrees (Reference digits true) e = ahead (numeric_label_after all.numeric_labels o (digits_value 10 digits)) (meaning t false o p (Reference digits true)) e
    agrees (Reference digits false) e = sym (back_before p digits)

    pub constant_before : (e : Expression) (n : ℕ) → value_by_tables all false o p e ≡ Constant n → value_by_tables t false o p e ≡ Constant n
    constant_before e n is = constant_same (λ q. meaning all false o p q) (λ q. meaning t false o p q) agrees e n is
